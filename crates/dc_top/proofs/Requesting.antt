-- Words of a number that no form has.
use Rattle.std.proofs.Common.{◌≡◌, ◌∙◌, ◌<◌, ◌≤◌, ℕ, List, [], ◌∷◌, map, length, refl, sym, None, arith}
use Rattle.std.proofs.lemmas.List.{length-map}
use Rattle.dc_top.specs.Requests.{request_of}

other_number : (words : List (List ℕ)) → (length words ≡ 2 → ⊥) → (length words ≡ 3 → ⊥) → (length words ≡ 4 → ⊥) → request_of words ≡ None
unfolding request_of
other_number [] not_2 not_3 not_4 = refl
other_number (a ∷ []) not_2 not_3 not_4 = refl
other_number (a ∷ b ∷ []) not_2 not_3 not_4 = absurd (not_2 refl)
other_number (a ∷ b ∷ c ∷ []) not_2 not_3 not_4 = absurd (not_3 refl)
other_number (a ∷ b ∷ c ∷ d ∷ []) not_2 not_3 not_4 = absurd (not_4 refl)
other_number (a ∷ b ∷ c ∷ d ∷ e ∷ more) not_2 not_3 not_4 = refl

no_form : {A : Type 0} (bytes : A → List ℕ) (words : List A) → (length words ≡ 2 → ⊥) → (length words ≡ 3 → ⊥) → (length words ≡ 4 → ⊥) → None ≡ request_of (map bytes words)
no_form bytes words not_2 not_3 not_4 =
    let same = sym (length-map words bytes) in
    sym (other_number (map bytes words) (λ is_2. not_2 (same ∙ is_2)) (λ is_3. not_3 (same ∙ is_3)) (λ is_4. not_4 (same ∙ is_4)))

module _ {A : Type 0} (bytes : A → List ℕ) (words : List A) where
  pub of_few : length words < 2 → None ≡ request_of (map bytes words)
  of_few h = no_form bytes words (λ e. omega (arith, h, e)) (λ e. omega (arith, h, e)) (λ e. omega (arith, h, e))

  pub of_many : 5 ≤ length words → None ≡ request_of (map bytes words)
  of_many h = no_form bytes words (λ e. omega (arith, h, e)) (λ e. omega (arith, h, e)) (λ e. omega (arith, h, e))
