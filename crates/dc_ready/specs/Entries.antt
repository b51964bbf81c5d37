-- Ready dispatchers with their dues.
use Rattle.std.specs.Prelude.{◌≡◌, ℕ, ◌<◌, List, [], ◌∷◌, Some, ◌==◌, not, false, map, filter, slice_get}
use Rattle.dc_base.specs.declared.numbers.DispNo.{DispNo}
use Rattle.dc_base.specs.Words.{Each, lists}

-- the dispatchers of a list of (dispatcher, due)
abbrev pub dispatchers : List (ℕ × ℕ) → List ℕ
dispatchers es = map (λ (e : ℕ × ℕ). e.0) es

-- the list without a dispatcher
abbrev pub without_disp : ℕ → List (ℕ × ℕ) → List (ℕ × ℕ)
without_disp d es = filter (λ (e : ℕ × ℕ). not (e.0 == d)) es

-- each has the due that its block gives it
abbrev pub AreDues : List ℕ → List (ℕ × ℕ) → Type 0
AreDues dues es = Each es (λ i (e : ℕ × ℕ). slice_get dues e.0 ≡ Some e.1)

-- each dispatcher is below n and stands once
abbrev pub AreOnceBelow : ℕ → List (ℕ × ℕ) → Type 0
AreOnceBelow n [] = Unit {0}
AreOnceBelow n (e ∷ es) = (e.0 < n) × (lists (dispatchers es) e.0 ≡ false) × AreOnceBelow n es

-- the dispatchers of a block, each at most once
abbrev pub IsReadyList : List (ℕ × ℕ) → Type 0
IsReadyList es = AreOnceBelow 16 es

-- as the program keeps it
abbrev pub entry_of : (DispNo × ℕ) → (ℕ × ℕ)
entry_of e = (e.0.0, e.1)

abbrev pub entries_of : List (DispNo × ℕ) → List (ℕ × ℕ)
entries_of es = map entry_of es
