-- What a sink tells of the bytes that it took.
use Rattle.std.specs.Prelude.{◌≡◌, ℕ, List, ◌++◌, Option, Some}

-- these bytes were added to those told, where they are told
pub record Adds (old new : Option (List ℕ)) (bytes : List ℕ) : Type 0 where
  pub added : (told : List ℕ) → old ≡ Some told → new ≡ Some (told ++ bytes)

-- a part was added that these bytes begin with
pub record AddsPrefix (old new : Option (List ℕ)) (bytes : List ℕ) : Type 0 where
  pub part : List ℕ
  pub rest : List ℕ
  pub whole : bytes ≡ part ++ rest
  pub adds : Adds old new part

-- of the bytes told a beginning stayed, where they are told
pub record KeepsBeginning (old new : Option (List ℕ)) : Type 0 where
  pub stayed : (told : List ℕ) → old ≡ Some told → (part : List ℕ) × (lost : List ℕ) × (told ≡ part ++ lost) × (new ≡ Some part)
