-- A number up to a limit.
use Rattle.std.proofs.Common.{◌≡◌, ℕ, ◌+◌, ◌<◌, ◌≤◌, ◌&&◌, Bool, true, false, List, take, refl, ap, sym, arith, nat_lt}
use Rattle.std.specs.Prelude.{if◌then◌else◌}
use Rattle.std.specs.List.{list_all}
use Rattle.std.specs.Char.{is_ascii_digit}
use Rattle.std.specs.Str.Parse.{digits_value}
use Rattle.std.proofs.lemmas.Bool.{le-ltb}
use Rattle.std.proofs.lemmas.Str.Parse.{digits_value-take-le}
use Rattle.dc_base.specs.LooseWords.{loose_number}

none_below : (digits : Bool) (n : ℕ) (below : Bool) → below ≡ false → (if digits && below then n else 0) ≡ 0
none_below true n below e = ap (λ t. if t then n else 0) e
none_below false n below e = refl

-- once the digits write more than the most, the word has no number
pub too_great : (most : ℕ) (word : List ℕ) (at n : ℕ) → n ≡ digits_value 10 (take at word) → most < n → 0 ≡ loose_number (most + 1) word
too_great most word at n before above =
    let less : digits_value 10 (take at word) ≤ digits_value 10 word = digits_value-take-le 10 word at (omega arith) in
    let past : most + 1 ≤ digits_value 10 word = omega (arith, above, before, less) in
    sym (none_below (list_all is_ascii_digit word) (digits_value 10 word) (nat_lt (digits_value 10 word) (most + 1)) (le-ltb _ _ past))
