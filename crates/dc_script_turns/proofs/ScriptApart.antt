-- An object that the script takes is not one that it holds.
use Rattle.std.proofs.Common.{◌≡◌, false, List, [], ◌∷◌, ◌++◌, sym, subst, inl, inr}
use Rattle.dc_base.specs.Changes.{Name, the_script}
use Rattle.dc_base.specs.Histories.{Listed}
use Rattle.dc_stage.specs.Numbers.{has}
use Rattle.dc_touch.specs.Within.{Within}
use Rattle.dc_base.specs.States.{Script}
use Rattle.dc_hands.specs.Machines.{Passing, Staged, number_of}
use Rattle.dc_script_turns.specs.Scripting.{HoldsBeside}
use Rattle.dc_hands.proofs.HeldNames.{AreWithin, not_held, other_number}
use Rattle.dc_script_turns.proofs.ScriptSteps.{IsApartFrom}

module _ {D : Type 0} (st : Staged D) where
  script_within : AreWithin st (the_script ∷ [])
  script_within n (inl e) = subst (Within st.scene.settings) (sym e) tt
  script_within n (inr l) = absurd l

  not_script : (n : Name) → (n ≡ the_script → ⊥) → Listed n (the_script ∷ []) → ⊥
  not_script n far (inl e) = far e
  not_script n far (inr l) = l

  -- an object beside the script
  pub apart_alone : (n : Name) → Within st.scene.settings n → (n ≡ the_script → ⊥) → IsApartFrom st n []
  apart_alone n w far = record {
    within = w;
    others = script_within;
    apart = not_script n far;
    number = other_number st the_script n tt w (λ e. far (sym e));
  }

  module _ (n m : Name) (w : Within st.scene.settings n) (v : Within st.scene.settings m) (far : n ≡ the_script → ⊥) (other : n ≡ m → ⊥) where
    two_within : AreWithin st (m ∷ the_script ∷ [])
    two_within x (inl e) = subst (Within st.scene.settings) (sym e) v
    two_within x (inr l) = script_within x l

    not_two : Listed n (m ∷ the_script ∷ []) → ⊥
    not_two (inl e) = other e
    not_two (inr l) = not_script n far l

    -- an object beside the script and one more
    pub apart_two : IsApartFrom st n (m ∷ [])
    apart_two = record {
      within = w;
      others = two_within;
      apart = not_two;
      number = other_number st the_script n tt w (λ e. far (sym e));
    }

  -- what is apart from the objects of a pass is not held
  pub free_of : (k : Passing D) (t : Script) (n : Name) (ns : List Name) → HoldsBeside st k t ns → IsApartFrom st n ns → has (number_of st n) k.holds ≡ false
  free_of k t n ns h far = not_held st k n (ns ++ the_script ∷ []) h.holds far.within far.others far.apart

-- lists of two and three names in the other order
pub turn_two : (n a b : Name) → Listed n (a ∷ b ∷ []) → Listed n (b ∷ a ∷ [])
turn_two n a b (inl e) = inr (inl e)
turn_two n a b (inr (inl e)) = inl e
turn_two n a b (inr (inr l)) = absurd l

pub turn_three : (n a b c : Name) → Listed n (a ∷ b ∷ c ∷ []) → Listed n (c ∷ b ∷ a ∷ [])
turn_three n a b c (inl e) = inr (inr (inl e))
turn_three n a b c (inr (inl e)) = inr (inl e)
turn_three n a b c (inr (inr (inl e))) = inl e
turn_three n a b c (inr (inr (inr l))) = absurd l

pub turn_same : (n a b : Name) → Listed n (a ∷ b ∷ b ∷ []) → Listed n (b ∷ a ∷ [])
turn_same n a b (inl e) = inr (inl e)
turn_same n a b (inr (inl e)) = inl e
turn_same n a b (inr (inr (inl e))) = inl e
turn_same n a b (inr (inr (inr l))) = absurd l
