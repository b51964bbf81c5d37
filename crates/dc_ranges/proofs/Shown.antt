-- Entries with lines and numbers in range, and turns that make no other.
use Rattle.std.proofs.Common.{◌≡◌, ℕ, ◌^◌, ◌<◌, Bool, true, false, List, [], ◌∷◌, Option, Some, None, refl}
use Rattle.std.specs.Prelude.{⊤, is_some, if◌then◌else◌}
use Rattle.std.proofs.lemmas.Bool.{and_from, lt-ltb}
use Rattle.dc_base.specs.declared.kernels.Version.{Version}
use Rattle.dc_base.specs.declared.entries.What.{What}
use Rattle.dc_base.specs.declared.entries.Entry.{Entry}
use Rattle.dc_base.specs.EntryRanges.{is_of_core, is_of_script, is_what_in_range, are_in_range, is_time, has_line, is_in_range}
use Rattle.dc_base.specs.States.{State}
use Rattle.dc_base.specs.Turns.{Outcome, did, Turn, outcome}
use Rattle.dc_base.specs.Outcomes.{by_core, by_script, if_on}

-- the entry has a line, and its numbers are in range
abbrev pub IsShown : Entry → Type 0
IsShown e = (has_line e ≡ true) × (is_in_range e ≡ true)

-- if an entry is made, it is such an entry
abbrev pub Shows : Outcome → Type 0
Shows (did changes e) = IsShown e
Shows o = ⊤

-- the same of what a turn comes to
abbrev pub Comes : State → Turn → Type 0
Comes s t = Shows (outcome s t)

-- each has 32 bits
abbrev pub AreSmall : List ℕ → Type 0
AreSmall [] = Unit {0}
AreSmall (n ∷ ns) = (n < 2 ^ 32) × AreSmall ns

pub small : (ns : List ℕ) → AreSmall ns → are_in_range ns ≡ true
small [] low = refl
small (n ∷ ns) low = and_from _ _ (lt-ltb n (2 ^ 32) low.0) (small ns low.1)

pub timed : (n : ℕ) → n < 2 ^ 64 → is_time n ≡ true
timed n low = lt-ltb n (2 ^ 64) low

pub core_shown : (c : ℕ) (w : What) → c < 2 ^ 32 → is_of_core w ≡ true → is_what_in_range w ≡ true → IsShown (by_core c w)
unfolding has_line is_in_range
core_shown c w near suits low = (suits, and_from _ _ (small (c ∷ []) (near, tt)) low)

pub script_shown : (w : What) → is_of_script w ≡ true → is_what_in_range w ≡ true → IsShown (by_script w)
unfolding has_line is_in_range
script_shown w suits low = (suits, low)

module _ (s : State) where
  pub by_if : (b : Bool) (t u : Turn) → (b ≡ true → Comes s t) → (b ≡ false → Comes s u) → Comes s (if b then t else u)
  by_if true t u f g = f refl
  by_if false t u f g = g refl

  pub by_version : (o : Option Version) (t : Turn) → (is_some o ≡ true → Comes s t) → Comes s (if_on o t)
  by_version None t f = tt
  by_version (Some v) t f = f refl

pub by_outcome : (b : Bool) (o u : Outcome) → Shows o → Shows u → Shows (if b then o else u)
by_outcome true o u f g = f
by_outcome false o u f g = g
