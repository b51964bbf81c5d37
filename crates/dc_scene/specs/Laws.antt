-- The laws of the scene of a machine.
use Rattle.std.proofs.Common.{◌≡◌, ℕ, ◌==◌, ◌||◌, Bool, true, false, true≢false, List, [], ◌∷◌, Option, Some, None, refl, sym, ap, ◌∙◌, inl, inr, eq-eqb}
use Rattle.std.proofs.Common.{eqb-true}
use Rattle.std.proofs.Math.Bool.{or-true}
use Rattle.dc_base.specs.declared.entries.Entry.{Entry}
use Rattle.dc_base.specs.States.{State, Settings}
use Rattle.dc_base.specs.Changes.{Object}
use Rattle.dc_base.specs.Histories.{next}
use Rattle.dc_base.specs.Objects.{at_number, touched_numbers, HasSizes}
use Rattle.dc_touch.specs.Numbered.{IsAmong, AgreeAt}
use Rattle.dc_touch.proofs.NumberedLaws.{untouched_number, local_number}
use Rattle.dc_touch.proofs.SizeLaws.{sizes_stay}
use Rattle.dc_stage.specs.Numbers.{has}
use Rattle.dc_stage.specs.History.{Untouched, IsLocal, Agrees}
use Rattle.dc_scene.specs.Machines.{machine, has_sizes, at_sized, IsLawfulIn}
use Rattle.dc_scene.specs.Sizes.{found_sizes, at_sizes, no_object}
use Rattle.dc_scene.specs.Actors.{touches_there}

-- what is among the numbers is found there
among_found : (i : ℕ) (is : List ℕ) → IsAmong i is → has i is ≡ true
among_found i [] h = absurd h
among_found i (j ∷ is) (inl e) = ap (λ b. b || has i is) (eq-eqb i j e)
among_found i (j ∷ is) (inr h) = ap (λ b. (i == j) || b) (among_found i is h) ∙ or-true (i == j)

found_by : (i j : ℕ) (is : List ℕ) (b : Bool) → (i == j) ≡ b → (has i is ≡ true → IsAmong i is) → b || has i is ≡ true → IsAmong i (j ∷ is)
found_by i j is true e f h = inl (eqb-true i j e)
found_by i j is false e f h = inr (f h)

found_among : (i : ℕ) (is : List ℕ) → has i is ≡ true → IsAmong i is
found_among i [] h = absurd (true≢false (sym h))
found_among i (j ∷ is) h = found_by i j is (i == j) refl (found_among i is) h

abbrev is_there : Option Object → Bool
is_there None = false
is_there (Some o) = true

module _ (t : Settings) (start : State) where
  -- what a lawful entry does not touch keeps its state
  pub machine_untouched : Untouched (machine t start)
  machine_untouched w by e i l out =
      at_sizes t (next w e) (sizes_stay t w e l.sizes) i
      ∙ (untouched_number t w e l.lawful.1 i (λ k. true≢false (sym (among_found i (touched_numbers t w e) k) ∙ out))
      ∙ sym (at_sizes t w l.sizes i))

  module _ (w v : State) (by : ℕ) (e : Entry) (l : IsLawfulIn t w by e) (same : Agrees (machine t start) w v by e) where
    -- an object that is there in the one whole would not be there in a whole of other sizes
    same_sizes_by : (b : Bool) → has_sizes t v ≡ b → HasSizes t v
    same_sizes_by true h = found_sizes t v h
    same_sizes_by false h =
        let x = touches_there t w l.sizes e l.lawful.1 in
        let is : Some x.1 ≡ None = sym x.3 ∙
        (sym (at_sizes t w l.sizes x.0) ∙ (same x.0 (among_found x.0 (touched_numbers t w e) x.2) ∙ no_object t v h x.0)) in
        absurd (true≢false (ap is_there is))

    same_sizes : HasSizes t v
    same_sizes = same_sizes_by (has_sizes t v) refl

    agree_at : AgreeAt t w v (touched_numbers t w e)
    agree_at i k = sym (at_sizes t w l.sizes i) ∙ (same i (among_found i (touched_numbers t w e) k) ∙ at_sizes t v same_sizes i)

    same_next : (i : ℕ) → at_number t (next v e) i ≡ at_number t (next w e) i → at_sized t (next w e) i ≡ at_sized t (next v e) i
    same_next i h = at_sizes t (next w e) (sizes_stay t w e l.sizes) i ∙ (sym h ∙ sym (at_sizes t (next v e) (sizes_stay t v e same_sizes) i))

  -- what a lawful entry does depends on what it touches alone
  pub machine_local : IsLocal (machine t start)
  machine_local w v by e l same =
      let sizes = same_sizes w v by e l same in
      let x = local_number t w v l.sizes sizes e (agree_at w v by e l same) by l.lawful in (
        sym x.touched_same,
        record { sizes = sizes; lawful = x.lawful },
        λ i h. same_next w v by e l same i (x.next_same i (found_among i (touched_numbers t w e) h)),
      )
