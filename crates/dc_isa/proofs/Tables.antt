-- The table of the operations.
use Rattle.std.specs.Prelude.{◌≡◌, ℕ, Bool, true, false, cond, List, [], ◌∷◌, Option, Some, None, map, find, bytes_eq, refl}
use Rattle.std.specs.Option.{option_map, option_copied}
use Rattle.std.proofs.Common.{ap, sym, ◌∙◌, rules}
use Rattle.std.specs.Prelude.{◌&&◌, IsTrue, IfSome}
use Rattle.std.specs.Borrow.{Bor}
use Rattle.std.specs.List.{list_all}
use Rattle.std.proofs.lemmas.Option.{same_Some}
use Rattle.dc_base.specs.Operations as spec
use Rattle.dc_base.specs.Operations.{operations}
use Rattle.dc_isa.specs.declared.operations.Operation.{Operation}
use Rattle.dc_isa.specs.Operations.{operation_seen, named, fits}

find-map : {A B : Type 0} (f : A → B) (p : B → Bool) (xs : List A) → option_map f (find (λ x. p (f x)) xs) ≡ find p (map f xs)
find-map f p [] = refl
find-map f p (x ∷ xs) = elim (p (f x)) as (λ t. option_map f (cond t (Some x) (find (λ x. p (f x)) xs)) ≡ cond t (Some (f x)) (find p (map f xs))) [
  | true ↦ refl
  | false ↦ find-map f p xs
]

pub found_named : (name : List ℕ) (table : List Operation) (found : Option Operation) → map operation_seen table ≡ operations → found ≡ find (λ (o : Operation). bytes_eq o.name.now name) table → option_map operation_seen found ≡ named name
found_named name table found is e =
    ap (option_map operation_seen) e ∙ find-map operation_seen (λ (o : spec.Operation). bytes_eq o.name name) table ∙ ap (find (λ (o : spec.Operation). bytes_eq o.name name)) is

and_true : (a b : Bool) → (a && b) ≡ true → (a ≡ true) × (b ≡ true)
and_true true b h = (refl, h)
and_true false b h = absurd (let bad : false ≡ true = h in cc)

-- what passes for each of a list passes for the one that is found
find-passes : {A : Type 0} (p q : A → Bool) (xs : List A) (x : A) → find p xs ≡ Some x → list_all q xs ≡ true → q x ≡ true
find-passes p q [] x e all = absurd (cc e)
find-passes {A} p q (y ∷ xs) x e all = go (find-passes p q xs x) (p y) refl
  where
    parts : (q y ≡ true) × (list_all q xs ≡ true)
    parts = and_true (q y) (list_all q xs) all

    go : (find p xs ≡ Some x → list_all q xs ≡ true → q x ≡ true) → (t : Bool) → p y ≡ t → q x ≡ true
    go further true h = let same : ◌≡◌ {A = Option A} (Some y) (Some x) = sym (ap (λ t. cond t (Some y) (find p xs)) h) ∙ e in ap q (sym (same_Some y x same)) ∙ parts.0
    go further false h = further (sym (ap (λ t. cond t (Some y) (find p xs)) h) ∙ e) parts.1

list_all-map : {A B : Type 0} (f : A → B) (q : B → Bool) (xs : List A) → list_all q (map f xs) ≡ list_all (λ x. q (f x)) xs
list_all-map f q [] = refl
list_all-map f q (x ∷ xs) = ap (λ t. q (f x) && t) (list_all-map f q xs)

-- the operation that is found fits
found_fits : (name : List ℕ) (table : List Operation) (o : Operation) → list_all fits (map operation_seen table) ≡ true → Some o ≡ find (λ (o : Operation). bytes_eq o.name.now name) table → IsTrue (fits (operation_seen o))
found_fits name table o all e =
    let each : list_all (λ o. fits (operation_seen o)) table ≡ true = sym (list_all-map operation_seen fits table) ∙ all in
    search (rules, find-passes (λ (o : Operation). bytes_eq o.name.now name) (λ o. fits (operation_seen o)) table o (sym e) each)

pub found_if_some : (name : List ℕ) (table : List Operation) (found : Option (Bor Operation)) → list_all fits (map operation_seen table) ≡ true → option_copied found ≡ find (λ (o : Operation). bytes_eq o.name.now name) table →
    IfSome found (λ o. IsTrue (fits (operation_seen o.now)))
found_if_some name table None all e = tt
found_if_some name table (Some o) all e = found_fits name table o.now all e
