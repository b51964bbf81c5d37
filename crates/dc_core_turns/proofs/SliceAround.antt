-- A slice of a core in hand, with the object that its call needs taken before it and put back after it.
use Rattle.std.proofs.Common.{◌≡◌, ℕ, false, List, [], ◌∷◌, ◌++◌, ◌||◌, ◌==◌, Some, None, refl, sym, ap, ◌∙◌, subst, inl, map}
use Rattle.dc_base.specs.declared.actions.Action.TheVariants as action
use Rattle.dc_base.specs.declared.calls.Need.{Need}
use Rattle.dc_base.specs.declared.calls.Need.TheVariants as needs
use Rattle.dc_base.specs.declared.numbers.BlockNo.{BlockNo}
use Rattle.dc_base.specs.Changes.{Name}
use Rattle.dc_base.specs.CoreTouches.{needed}
use Rattle.dc_base.specs.Histories.{Listed}
use Rattle.dc_base.specs.NeedsHere.{need_here}
use Rattle.dc_base.specs.States.{Block}
use Rattle.dc_bodies.specs.Nexts.{first_runnable}
use Rattle.dc_bodies.specs.Stops.{stopped}
use Rattle.dc_calls.specs.declared.outsides.Outside.{Outside as Held}
use Rattle.dc_stage.specs.Numbers.{has}
use Rattle.dc_touch.specs.Within.{Within}
use Rattle.dc_hands.specs.declared.answers.Turned.{Turned}
use Rattle.dc_hands.specs.declared.answers.Turned.TheVariants as turned
use Rattle.dc_hands.specs.declared.hands.CoreHand.{CoreHand}
use Rattle.dc_hands.specs.declared.takes.Busy.{Busy}
use Rattle.dc_core_turns.specs.Beside.{HoldsBeside}
use Rattle.dc_core_turns.specs.Beyond.{GetsOutside, MissesOutside, needed_here, without_each}
use Rattle.dc_hands.specs.Hands.{HoldsJust, objects_of}
use Rattle.dc_hands.specs.Machines.{Staged, Passing, IsOpened, number_of}
use Rattle.dc_core_turns.specs.Turning.{TakesTurn}
use Rattle.dc_core_turns.proofs.BesideHands.{beside_later, beside_put, just_hand}
use Rattle.dc_core_turns.proofs.HandTurns.{seen}
use Rattle.dc_hands.proofs.HeldHands.{IsBeyond, none_beyond}
use Rattle.dc_core_turns.proofs.NeededObjects.{needed_beyond}
use Rattle.dc_core_turns.proofs.SliceMade.{need_looked, need_now, need_within}
use Rattle.dc_core_turns.proofs.TurnParts.{takes_around}
use Rattle.dc_core_turns.proofs.VainTurns.{takes_busy}

module _ {D : Type 0} (st : Staged D) (opened : IsOpened st) where
  just_more : (k l : Passing D) (ms ns : List Name) → HoldsJust st k ns → l.holds ≡ map (number_of st) ms ++ k.holds → HoldsJust st l (ms ++ ns)
  just_more k l ms ns just e i = ap (has i) e ∙ more ms
    where
      more : (ms : List Name) → has i (map (number_of st) ms ++ k.holds) ≡ has i (map (number_of st) (ms ++ ns))
      more [] = just i
      more (m ∷ ms) = ap (λ t. (i == number_of st m) || t) (more ms)

  -- the objects beside the hand go back, of which there is at most one
  back_by : (k l : Passing D) (h : CoreHand D) (b : ℕ) (n : Need) → HoldsBeside st k h (needed b n) → ((m : Name) → Listed m (needed b n) → Within st.scene.settings m) →
      ((m : Name) → Listed m (needed b n) → IsBeyond h.number.0 h.core.share m) → l ≡ record k { holds = without_each (map (number_of st) (needed b n)) k.holds } → HoldsBeside st l h []
  back_by k l h b needs.Nothing holds within far e = subst (λ (p : Passing D). HoldsBeside st p h []) (sym e) holds
  back_by k l h b needs.Console holds within far e = beside_put st opened k l h _ holds (within _ (inl refl)) (far _ (inl refl)) e
  back_by k l h b (needs.Channel x) holds within far e = beside_put st opened k l h _ holds (within _ (inl refl)) (far _ (inl refl)) e
  back_by k l h b (needs.Line x) holds within far e = beside_put st opened k l h _ holds (within _ (inl refl)) (far _ (inl refl)) e

  module _ (k : Passing D) (h : CoreHand D) (holds : HoldsBeside st k h []) (b : BlockNo) (x : Block)
      (first : first_runnable h.core (seen h) ≡ Some (record { number = b.0; found = Some x })) (need : Need) (is : need ≡ need_now st opened k h [] holds b x first) where
    pub outside_within : (n : Name) → Listed n (needed_here st b.0 need) → Within st.scene.settings n
    outside_within n l = need_within st opened k h [] holds b x first need is n l

    pub outside_free : (n : Name) → Listed n (needed_here st b.0 need) → has (number_of st n) k.holds ≡ false
    outside_free n l =
        none_beyond st opened k h (just_hand st k h holds) n (outside_within n l) (needed_beyond h.number.0 h.core.share b.0 (need_here st.scene.settings need) n l)

    -- another actor had the object
    pub outside_busy : stopped h.core ≡ None → (l : Passing D) (busy : Busy) → MissesOutside st k l b.0 need busy → TakesTurn st k l h h [] action.Step (turned.Busy busy)
    outside_busy acts l busy g =
        takes_busy st k h [] holds action.Step opened l g.name busy g.misses
        (need_looked st opened k h [] holds b x first need is acts g.name (subst (Listed g.name) (sym g.named) (inl refl)))

    module _ (l : Passing D) (o : Held) (got : GetsOutside st k l b.0 need o) where
      pub outside_beside : HoldsBeside st l h (needed_here st b.0 need)
      outside_beside =
          beside_later st opened k h [] holds l (needed_here st b.0 need) got.quiet.on.actor got.on
          (just_more k l (needed_here st b.0 need) (objects_of h.number.0 h.core.share) holds.holds got.holds)

      -- the object goes back
      pub outside_back : (m n : Passing D) (g : CoreHand D) (t : Turned) → TakesTurn st l m h g (needed_here st b.0 need) action.Step t →
          n ≡ record m { holds = without_each (map (number_of st) (needed_here st b.0 need)) m.holds } → TakesTurn st k n h g [] action.Step t
      outside_back m n g t turn put =
          takes_around st k l m n h g (needed_here st b.0 need) action.Step t got.quiet turn
          (put ∙ ap (λ xs. record m { holds = xs }) (sym (ap (λ (p : Passing D). p.holds) put)))
          (back_by m n g b.0 (need_here st.scene.settings need) turn.hand outside_within
          (λ p l. needed_beyond g.number.0 g.core.share b.0 (need_here st.scene.settings need) p l) put)
