-- What a plain instruction may do, whatever the time.
use Rattle.std.proofs.Common.{◌≡◌, ℕ, zero, suc, ◌+◌, ◌*◌, ◌%◌, ◌<◌, ◌≤◌, ◌^◌, List, [], ◌∷◌, Bool, true, false, Option, Some, None, refl, arith, get_or}
use Rattle.std.specs.Prelude.{slice_get, slice_set, slice_index, nat_lt, ◌==◌, ◌&&◌, not, if◌then◌else◌, bit_and, ⊤}
use Rattle.std.proofs.lemmas.Bool.Decides.{nat_tests}
use Rattle.std.proofs.lemmas.Nat.{and_le_l, or_lt, xor_lt, shr_le}
use Rattle.dc_base.specs.declared.instructions.Instr.{Instr}
use Rattle.dc_base.specs.declared.instructions.Instr.TheVariants.{Li, Lih, Mov, Add, Sub, Mul, And, Or, Xor, Shl, Shr, Beq, Bne, Bltu, Jmp, Ld, St, Rdt, Nop, Halt}
use Rattle.dc_base.specs.Effects.{Context, reg, with_reg, at_next_place, Move, goes, halts, traps, calls, sets, branches, effect, effect_of, move_at, act}
use Rattle.dc_base.specs.Instructions.{is_proper, decode}
use Rattle.dc_base.specs.KeptByBlocks.{AreWords}
use Rattle.dc_base.proofs.CodeLaws.{decode-some}

pub lt_true : (a b : ℕ) → nat_lt a b ≡ true → a < b
lt_true a b h = grind (arith, nat_tests)

pub and_left : (t u : Bool) → (t && u) ≡ true → t ≡ true
and_left true u h = refl
and_left false u h = absurd cc

pub and_right : (t u : Bool) → (t && u) ≡ true → u ≡ true
and_right true u h = h
and_right false u h = absurd cc

-- a word of a list, or 0 past its end
pub index_word : (ws : List ℕ) (i : ℕ) → AreWords ws → get_or ws i 0 < 2 ^ 32
index_word [] i h = omega arith
index_word (w ∷ ws) zero h = h 0 w refl
index_word (w ∷ ws) (suc i) h = index_word ws i (λ j v e. h (suc j) v e)

-- the context and the memory that a plain instruction may leave
pub data Going (c : Context) (memory : List ℕ) : Context → List ℕ → Type 0 where
  one_set : (a v : ℕ) → (AreWords c.regs → AreWords memory → v < 2 ^ 32) → Going c memory (at_next_place (with_reg c a v)) memory
  two_set : (a b v w : ℕ) → v < 2 ^ 32 → w < 2 ^ 32 → Going c memory (at_next_place (with_reg (with_reg c a v) b w)) memory
  jumped : (imm : ℕ) → imm < 2 ^ 16 → Going c memory (record c { place = imm }) memory
  passed : Going c memory (at_next_place c) memory
  stored : (address a : ℕ) → Going c memory (at_next_place c) (slice_set memory address (reg c a))

-- what may happen at a place
abbrev pub Acts : List ℕ → Context → List ℕ → Move → Type 0
Acts code c memory (goes new changed) = (w : ℕ) × (slice_get code c.place ≡ Some w) × Going c memory new changed
Acts code c memory halts = ⊤
Acts code c memory (traps n) = (0 < n) × (n ≤ 12)
Acts code c memory (calls o i) = (w : ℕ) × (slice_get code c.place ≡ Some w) × (decode w ≡ Some i)

module _ (time : ℕ) (code : List ℕ) (c : Context) (memory : List ℕ) (w : ℕ) (at : slice_get code c.place ≡ Some w) where
  set_fits : (a v : ℕ) → (AreWords c.regs → AreWords memory → v < 2 ^ 32) → Acts code c memory (sets c memory a v)
  set_fits a v f = (w, at, one_set a v f)

  branch_fits : (imm : ℕ) → imm < 2 ^ 16 → (t : Bool) → Acts code c memory (branches c memory t imm)
  branch_fits imm h true = (w, at, jumped imm h)
  branch_fits imm h false = (w, at, passed)

  load_fits : (a address : ℕ) (t : Bool) → Acts code c memory (if t then sets c memory a (slice_index memory address) else traps 3)
  load_fits a address true = set_fits a _ (λ r m. index_word memory address m)
  load_fits a address false = (omega arith, omega arith)

  store_fits : (address a : ℕ) (t : Bool) → Acts code c memory (if t then goes (at_next_place c) (slice_set memory address (reg c a)) else traps 3)
  store_fits address a true = (w, at, stored address a)
  store_fits address a false = (omega arith, omega arith)

  immediate : (a imm : ℕ) (t : Bool) → (t && nat_lt imm (2 ^ 16)) ≡ true → imm < 2 ^ 16
  immediate a imm t h = lt_true imm (2 ^ 16) (and_right t (nat_lt imm (2 ^ 16)) h)

  high_fits : (imm r : ℕ) → imm < 2 ^ 16 → imm * 65536 + r % 65536 < 2 ^ 32
  high_fits imm r h = omega arith

  and_fits : (a b : ℕ) → a < 2 ^ 32 → bit_and a b < 2 ^ 32
  and_fits a b h = let l = and_le_l a b in omega (arith, l)

  effect_fits : (i : Instr) → decode w ≡ Some i → is_proper i ≡ true → Acts code c memory (effect time c memory i)
  unfolding effect is_proper
  effect_fits (Li a imm) d p = let h = immediate a imm (nat_lt a 8) p in set_fits a imm (λ r m. omega arith)
  effect_fits (Lih a imm) d p = let h = immediate a imm (nat_lt a 8) p in set_fits a _ (λ r m. high_fits imm (reg c a) h)
  effect_fits (Mov a b) d p = set_fits a _ (λ r m. index_word c.regs b r)
  effect_fits (Add a b) d p = set_fits a _ (λ r m. omega arith)
  effect_fits (Sub a b) d p = set_fits a _ (λ r m. omega arith)
  effect_fits (Mul a b) d p = set_fits a _ (λ r m. omega arith)
  effect_fits (And a b) d p = set_fits a _ (λ r m. and_fits (reg c a) (reg c b) (index_word c.regs a r))
  effect_fits (Or a b) d p = set_fits a _ (λ r m. or_lt 32 (reg c a) (reg c b) (index_word c.regs a r) (index_word c.regs b r))
  effect_fits (Xor a b) d p = set_fits a _ (λ r m. xor_lt 32 (reg c a) (reg c b) (index_word c.regs a r) (index_word c.regs b r))
  effect_fits (Shl a b) d p = set_fits a _ (λ r m. omega arith)
  effect_fits (Shr a b) d p = set_fits a _ (λ r m. let h = index_word c.regs a r in let l = shr_le (reg c a) (reg c b % 32) in omega (arith, h, l))
  effect_fits (Beq a b imm) d p = branch_fits imm (immediate b imm (nat_lt b 8) (and_right (nat_lt a 8) _ p)) (reg c a == reg c b)
  effect_fits (Bne a b imm) d p = branch_fits imm (immediate b imm (nat_lt b 8) (and_right (nat_lt a 8) _ p)) (not (reg c a == reg c b))
  effect_fits (Bltu a b imm) d p = branch_fits imm (immediate b imm (nat_lt b 8) (and_right (nat_lt a 8) _ p)) (nat_lt (reg c a) (reg c b))
  effect_fits (Jmp imm) d p = (w, at, jumped imm (lt_true imm (2 ^ 16) p))
  effect_fits (Ld a b imm) d p = load_fits a (reg c b + imm) (nat_lt (reg c b + imm) 4096)
  effect_fits (St a b imm) d p = store_fits (reg c b + imm) a (nat_lt (reg c b + imm) 4096)
  effect_fits (Rdt a b) d p = (w, at, two_set a b _ _ (omega arith) (omega arith))
  effect_fits Nop d p = (w, at, passed)
  effect_fits Halt d p = tt
  effect_fits i d p = (w, at, d)

  word_fits : (o : Option Instr) → decode w ≡ o → Acts code c memory (effect_of time c memory o)
  word_fits None d = (omega arith, omega arith)
  word_fits (Some i) d = effect_fits i d (decode-some w i d).0

module _ (time : ℕ) (code : List ℕ) (c : Context) (memory : List ℕ) where
  place_fits : (o : Option ℕ) → slice_get code c.place ≡ o → Acts code c memory (move_at time c memory o)
  place_fits None at = (omega arith, omega arith)
  place_fits (Some w) at = word_fits time code c memory w at (decode w) refl

  pub acts : Acts code c memory (act time code c memory)
  unfolding act
  acts = place_fits (slice_get code c.place) refl
