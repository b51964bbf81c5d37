-- What a scene means, and what its history is.
use Rattle.std.specs.Prelude.{◌≡◌, ℕ, ◌==◌, true, false, cond, List, [], ◌∷◌}
use Rattle.dc_stage.specs.Numbers.{has}

-- A whole has the states of all objects. Here are the whole at the start, the state of an object in a whole, and of an entry of an actor: the numbers of the
-- objects that it touches, whether it is lawful, and the whole after it.
pub record Meaning (Whole St En : Type 0) : Type 1 where
  pub start : Whole
  pub at : Whole → ℕ → St
  pub touched : Whole → ℕ → En → List ℕ
  pub lawful : Whole → ℕ → En → Type 0
  pub next : Whole → ℕ → En → Whole

-- entries, each with its actor
abbrev pub Log : Type 0 → Type 0
Log En = List (ℕ × En)

-- the entries of one actor
abbrev pub own : {En : Type 0} → ℕ → Log En → Log En
own a [] = []
own a (e ∷ es) = cond (a == e.0) (e ∷ own a es) (own a es)

module _ {Wh St En : Type 0} (p : Meaning Wh St En) where
  -- the whole after the entries
  abbrev pub run : Wh → Log En → Wh
  run w [] = w
  run w (e ∷ es) = run (p.next w e.0 e.1) es

  -- the whole after the entries from the start on
  abbrev pub whole_after : Log En → Wh
  whole_after log = run p.start log

  -- the state of an object after them
  abbrev pub after : Log En → ℕ → St
  after log i = p.at (whole_after log) i

  -- each entry is lawful in the whole after the entries before it
  abbrev pub IsLawfulFrom : Wh → Log En → Type 0
  IsLawfulFrom w [] = Unit {0}
  IsLawfulFrom w (e ∷ es) = p.lawful w e.0 e.1 × IsLawfulFrom (p.next w e.0 e.1) es

  abbrev pub IsLawful : Log En → Type 0
  IsLawful log = IsLawfulFrom p.start log

  -- the entry may follow these
  abbrev pub IsLawfulAfter : Log En → ℕ → En → Type 0
  IsLawfulAfter log by e = p.lawful (whole_after log) by e

  -- what the entry touches, where it follows the log, is among these objects
  abbrev pub TouchesOnly : List ℕ → Log En → ℕ → En → Type 0
  TouchesOnly objects log by e = (i : ℕ) → has i (p.touched (whole_after log) by e) ≡ true → has i objects ≡ true

  -- what a lawful entry does not touch keeps its state
  abbrev pub Untouched : Type 0
  Untouched = (w : Wh) (by : ℕ) (e : En) (i : ℕ) → p.lawful w by e → has i (p.touched w by e) ≡ false → p.at (p.next w by e) i ≡ p.at w i

  -- two wholes agree on the objects that the entry touches in the first
  abbrev pub Agrees : Wh → Wh → ℕ → En → Type 0
  Agrees w v by e = (i : ℕ) → has i (p.touched w by e) ≡ true → p.at w i ≡ p.at v i

  -- where a second whole agrees on what a lawful entry touches, the entry touches the same there, is lawful, and leaves what it touches in the same states
  abbrev pub IsLocal : Type 0
  IsLocal = (w v : Wh) (by : ℕ) (e : En) → p.lawful w by e → Agrees w v by e
      → (p.touched w by e ≡ p.touched v by e) × p.lawful v by e × ((i : ℕ) → has i (p.touched w by e) ≡ true → p.at (p.next w by e) i ≡ p.at (p.next v by e) i)
