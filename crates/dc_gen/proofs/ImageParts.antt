-- The parts of the generated image are valid.
use Rattle.std.proofs.Common.{◌≡◌, ℕ, zero, suc, ◌+◌, ◌%◌, ◌^◌, ◌<◌, ◌≤◌, ◌∙◌, List, [], ◌∷◌, map, length, Bool, true, false, nat_lt, nat_eq, Some, None, IfSome, if◌then◌else◌, refl, sym, arith}
use Rattle.std.specs.Prelude.{IsSome, slice_get}
use Rattle.std.specs.List.{range_with_len, list_all}
use Rattle.std.proofs.lemmas.Bool.{ltb-true, and_parts}
use Rattle.std.proofs.lemmas.Nat.{mod_below}
use Rattle.dc_base.specs.declared.numbers.CoreNo.{CoreNo}
use Rattle.dc_base.specs.declared.kernels.Version.TheVariants.{Rr, Edf}
use Rattle.dc_base.specs.declared.images.Image.{Image}
use Rattle.dc_base.specs.declared.images.CoreImage.{CoreImage}
use Rattle.dc_base.specs.declared.images.BlockImage.{BlockImage}
use Rattle.dc_base.specs.declared.images.CapImage.{CapImage}
use Rattle.dc_base.specs.declared.capabilities.CapKind.TheVariants.{SendEnd, RecvEnd, Frame}
use Rattle.dc_base.specs.Words.{Each}
use Rattle.dc_base.specs.KeptByBlocks.{AreWords}
use Rattle.dc_base.specs.Generated.{code_of, adding_code, cap_of, generated_core, generated_block, generated_channel}
use Rattle.dc_base.specs.Valid.{ComesFrom, GoesTo, IsValidCap, SlotsDiffer, IsValidDisp, IsValidBlock, IsValidChannel, IsOnAtStart}
use Rattle.dc_base.proofs.EachLaws.{each_nil, each_cons}
use Rattle.dc_gen.specs.Images.{caps_of, disp_of}
use Rattle.dc_gen.proofs.Ranges.{in_range}

-- this image has the generated cores, blocks and channels
pub record IsRing (image : Image) : Type 0 where
  pub cores : image.cores ≡ map generated_core (range_with_len 0 8)
  pub blocks : length image.blocks ≡ 16
  pub channels : image.channels ≡ map generated_channel (range_with_len 0 16)

-- the code is words
words : (ws : List ℕ) → list_all (λ w. nat_lt w (2 ^ 32)) ws ≡ true → AreWords ws
words [] h = each_nil (λ i w. w < 2 ^ 32)
words (w ∷ ws) h =
    let p = and_parts (nat_lt w (2 ^ 32)) (list_all (λ w. nat_lt w (2 ^ 32)) ws) h in
    each_cons (λ i w. w < 2 ^ 32) w ws (ltb-true w (2 ^ 32) p.0) (words ws p.1)

code_words : (b : ℕ) → b < 16 → AreWords (code_of b)
code_words zero lt = words (code_of 0) refl
code_words (suc b) lt = each_cons (λ i w. w < 2 ^ 32) (0x01100000 + (b + 2)) (adding_code 1) (omega arith) (words (adding_code 1) refl)

code_long : (b : ℕ) → (0 < length (code_of b)) × (length (code_of b) ≤ 1024)
code_long zero = (omega arith, omega arith)
code_long (suc b) = (omega arith, omega arith)

-- both ends are the block's
comes : (image : Image) (b : ℕ) → IsRing image → b < 16 → ComesFrom image.channels b b
comes image b ring lt = (generated_channel b, rw ring.channels (in_range generated_channel 16 b lt), refl)

goes : (image : Image) (b : ℕ) → IsRing image → b < 16 → GoesTo image.channels ((b + 15) % 16) b
goes image b ring lt =
    let x = (b + 15) % 16 in
    (generated_channel x, rw ring.channels (in_range generated_channel 16 x (mod_below (b + 15) 16 (omega arith))), omega arith)

caps : (image : Image) (b : ℕ) (y : BlockImage) → IsRing image → b < 16 → Each (caps_of b) (λ k c. IsValidCap image b y c)
caps image b y ring lt =
    each_cons P (cap_of 0 (SendEnd (record { 0 = b }))) (rest 0) (record { slot = omega arith; rights = omega arith; names = comes image b ring lt })
    (each_cons P (cap_of 1 (RecvEnd (record { 0 = (b + 15) % 16 }))) (rest 1) (record { slot = omega arith; rights = omega arith; names = goes image b ring lt })
    (each_cons P (cap_of 2 (Frame 0 4)) [] (record { slot = omega arith; rights = omega arith; names = (omega arith, omega arith) }) (each_nil P)))
  where
    P : ℕ → CapImage → Type 0
    P k c = IsValidCap image b y c

    rest : ℕ → List CapImage
    rest zero = cap_of 1 (RecvEnd (record { 0 = (b + 15) % 16 })) ∷ cap_of 2 (Frame 0 4) ∷ []
    rest (suc n) = cap_of 2 (Frame 0 4) ∷ []

-- the slot is the place
slot : (b j : ℕ) (c : CapImage) → slice_get (caps_of b) j ≡ Some c → c.slot ≡ j
slot b zero c e = cc
slot b (suc zero) c e = cc
slot b (suc (suc zero)) c e = cc
slot b (suc (suc (suc j))) c e = cc

slots : (b : ℕ) → SlotsDiffer (caps_of b)
slots b j k c d at_j at_k same = sym (slot b j c at_j) ∙ same ∙ slot b k d at_k

disp : (image : Image) (b : ℕ) (y : BlockImage) → IsRing image → b < 16 → IsValidDisp image b y (disp_of b)
disp image b y ring lt = record {
  code = code_long b;
  words = code_words b lt;
  period = (omega arith, omega arith);
  due = omega arith;
  caps = caps image b y ring lt;
  slots = slots b;
}

pub block : (image : Image) (b : ℕ) → IsRing image → b < 16 → IsValidBlock image b (generated_block b)
block image b ring lt = record {
  memory = omega arith;
  words = each_nil (λ i w. w < 2 ^ 32);
  ports = omega arith;
  signals = omega arith;
  some = omega arith;
  most = omega arith;
  disps = each_cons (λ d i. IsValidDisp image b (generated_block b) i) (disp_of b) [] (disp image b (generated_block b) ring lt) (each_nil (λ d i. IsValidDisp image b (generated_block b) i));
}

pub channel : (image : Image) (x : ℕ) → IsRing image → x < 16 → IsValidChannel image (generated_channel x)
channel image x ring lt = record {
  from = rw ring.blocks lt;
  to = rw ring.blocks (mod_below (x + 1) 16 (omega arith));
  apart = λ (same : x ≡ (x + 1) % 16). omega arith;
  capacity = (omega arith, omega arith);
}

on : (t : Bool) → IsSome (if t then Some Rr else Some Edf)
on true = refl
on false = refl

home_on : (cores : List CoreImage) (b : ℕ) (t : Bool) → cores ≡ map generated_core (range_with_len 0 8) → (t ≡ true → b < 8) → IfSome (if t then Some (record { 0 = b }) else None) (IsOnAtStart cores)
home_on cores b true same lt = (generated_core b, rw same (in_range generated_core 8 b (lt refl)), on (nat_eq (b % 2) 0))
home_on cores b false same lt = tt

pub home : (image : Image) (b : ℕ) → IsRing image → IfSome (generated_block b).home (IsOnAtStart image.cores)
home image b ring = home_on image.cores b (nat_lt b 8) ring.cores (ltb-true b 8)

own : (b : ℕ) (t : Bool) (h : CoreNo) → (if t then Some (record { 0 = b }) else None) ≡ Some h → h.0 ≡ b
own b true h e = cc
own b false h e = cc

pub home_is : (b : ℕ) (h : CoreNo) → (generated_block b).home ≡ Some h → h.0 ≡ b
home_is b h e = own b (nat_lt b 8) h e

pub base : (c : ℕ) → c < 8 → (generated_core c).base < 2 ^ 62
base c lt = omega arith
