-- Texts that are too long, no text, no TOML, and those that have a tree.
use Rattle.std.proofs.Common.{◌≡◌, ℕ, ◌<◌, ◌≤◌, List, Some, None, Err, length, arith, true, false, IsUtf8}
use Rattle.std.specs.Prelude.{nat_lt}
use Rattle.std.specs.Str.{is_utf8}
use Rattle.std.proofs.lemmas.Bool.{cases_Bool}
use Rattle.std.proofs.Common.{inl, inr}
use Rattle.std.proofs.lemmas.Bool.Decides.{nat_tests}
use Rattle.std.proofs.lemmas.Str.{is_utf8-from_IsUtf8, IsUtf8-from_is_utf8}
use Rattle.toml.specs.Data.{Members}
use Rattle.toml.specs.Parse.{parse_document}
use Rattle.dc_base.specs.FaultText.{too_long, not_toml}
use Rattle.dc_image.specs.ImageOf.{image_of, image_in}

pub image_of-long : (bytes : List ℕ) → 33554432 < length bytes → image_of bytes ≡ Err too_long
unfolding image_of
image_of-long bytes long = let test : nat_lt 33554432 (length bytes) ≡ true = grind (arith, nat_tests) in rw test

short_test : (bytes : List ℕ) → length bytes ≤ 33554432 → nat_lt 33554432 (length bytes) ≡ false
short_test bytes short = grind (arith, nat_tests)

no_utf8 : (bytes : List ℕ) → (IsUtf8 bytes → ⊥) → is_utf8 bytes ≡ false
no_utf8 bytes not_text = elim (cases_Bool (is_utf8 bytes)) [ inl is_so ↦ absurd (not_text (IsUtf8-from_is_utf8 bytes is_so)) | inr not_so ↦ not_so ]

pub image_of-no_text : (bytes : List ℕ) → length bytes ≤ 33554432 → (IsUtf8 bytes → ⊥) → image_of bytes ≡ Err not_toml
unfolding image_of
image_of-no_text bytes short not_text = rw (short_test bytes short, no_utf8 bytes not_text)

pub image_of-no_tree : (bytes text : List ℕ) → length bytes ≤ 33554432 → text ≡ bytes → IsUtf8 bytes → parse_document text ≡ None → image_of bytes ≡ Err not_toml
unfolding image_of
image_of-no_tree bytes text short same utf8 none = rw (short_test bytes short, is_utf8-from_IsUtf8 bytes utf8, ← same, none)

pub image_of-tree : (bytes text : List ℕ) (ms : Members) → length bytes ≤ 33554432 → text ≡ bytes → IsUtf8 bytes → parse_document text ≡ Some ms → image_of bytes ≡ image_in ms
unfolding image_of
image_of-tree bytes text ms short same utf8 tree = rw (short_test bytes short, is_utf8-from_IsUtf8 bytes utf8, ← same, tree)
