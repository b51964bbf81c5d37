-- The row of a hand has room for one block more.
use Rattle.std.proofs.Common.{◌≡◌, ℕ, ◌<◌, ◌||◌, true, false, true≢false, List, [], ◌∷◌, refl, sym, ap, ◌∙◌, subst, map, length, inl, inr, ⊎_elim, arith, ne_eqb}
use Rattle.std.proofs.lemmas.Bool.{cases_Bool}
use Rattle.std.proofs.lemmas.List.{length-map}
use Rattle.std.proofs.lemmas.Option.{none-some}
use mathlib.Core.Logic.{dite}
use native.Mathlib.Decide.{ℕ_discrete}
use Rattle.dc_base.specs.declared.numbers.BlockNo.{BlockNo}
use Rattle.dc_base.specs.Changes.{a_block}
use Rattle.dc_base.specs.Outcomes.{has as in_share}
use Rattle.dc_base.specs.States.{Settings}
use Rattle.dc_touch.specs.Within.{Within}
use Rattle.dc_stage.specs.Numbers.{has, IsApart, IsBelow}
use Rattle.dc_stage.proofs.Numbers.{has_cons, few_below}
use Rattle.dc_hands.specs.declared.hands.CoreHand.{CoreHand}
use Rattle.dc_hands.specs.Gathering.{row_blocks}
use Rattle.dc_hands.specs.Hands.{HoldsCore}
use Rattle.dc_hands.specs.Machines.{Staged, Passing, IsOpened}
use Rattle.dc_hands.specs.Rows.{place_in, AreOnce, IsRow}
use Rattle.dc_hands.proofs.HeldHands.{block_listed, hand_within}
use Rattle.dc_hands.proofs.RowHolds.{placed_some}
use Rattle.dc_hands.proofs.Rowing.{at_head, in_tail, tail_past, none_placed}

-- a number without a place is not among the numbers
past_absent : (ns : List BlockNo) (b : ℕ) → place_in ns b ≡ length ns → has b (map (λ (n : BlockNo). n.0) ns) ≡ false
past_absent [] b h = refl
past_absent (n ∷ ns) b h =
    let p = tail_past n ns b h in
    ap (λ t. t || has b (map (λ (m : BlockNo). m.0) ns)) (ne_eqb b n.0 (λ e. p.0 (sym e))) ∙ past_absent ns b p.1

-- a number among them has a place
among_placed : (ns : List BlockNo) (b : ℕ) → has b (map (λ (n : BlockNo). n.0) ns) ≡ true → place_in ns b < length ns
among_placed [] b h = absurd (true≢false (sym h))
among_placed (n ∷ ns) b h = dite (ℕ_discrete n.0 b)
    (λ e. let q = at_head n ns b e in omega (arith, q))
    (λ e. ⊎_elim
    (λ f. absurd (e (sym f)))
    (λ k. let q = in_tail n ns b e in let r = among_placed ns b k in omega (arith, q, r))
    (has_cons b n.0 (map (λ (m : BlockNo). m.0) ns) h))

once_apart : (ns : List BlockNo) → AreOnce ns → IsApart (map (λ (n : BlockNo). n.0) ns)
once_apart [] o = tt
once_apart (n ∷ ns) o = (past_absent ns n.0 o.0, once_apart ns o.1)

module _ {D : Type 0} (st : Staged D) (opened : IsOpened st) (k : Passing D) (h : CoreHand D) (holds : HoldsCore st k h) (ok : IsRow h.row) where
  few_blocks : (b : ℕ) → Within st.scene.settings (a_block b) → b < 16
  few_blocks b w =
      let most = opened.sound.settled.limits.blocks.1 in
      let same = ap (λ (t : Settings). t.blocks) opened.settled in
      omega (arith, w, most, same)

  row_below : (b : ℕ) → has b (row_blocks h.row) ≡ true → b < 16
  row_below b among = elim (cases_Bool (in_share h.core.share b)) [
    | inl here ↦ few_blocks b (hand_within st opened k h holds (a_block b) (inr (block_listed h.core.share b here)))
    | inr gone ↦ (
        let x = placed_some h.row ok b (among_placed h.row.numbers b among) in
        absurd (none-some x.0 (sym (holds.others b gone) ∙ x.1)))
  ]

  -- a block that is not in the share finds room in the row
  pub room_for_one : (b : ℕ) → Within st.scene.settings (a_block b) → in_share h.core.share b ≡ false → length h.row.numbers < 16
  room_for_one b w gone =
      let out = past_absent h.row.numbers b (none_placed h.row ok b (holds.others b gone)) in
      let few = few_below 16 (b ∷ row_blocks h.row) (out, once_apart h.row.numbers ok.once) below in
      let long : length (row_blocks h.row) ≡ length h.row.numbers = length-map h.row.numbers _ in
      omega (arith, few, long)
    where
      below : IsBelow 16 (b ∷ row_blocks h.row)
      below i among = ⊎_elim (λ e. subst (λ n. n < 16) (sym e) (few_blocks b w)) (λ t. row_below i t) (has_cons i b (row_blocks h.row) among)
