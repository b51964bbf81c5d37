-- What the hand shows after an order.
use Rattle.std.proofs.Common.{◌≡◌, ℕ, Bool, true, false, true≢false, List, [], ◌∷◌, ◌++◌, ◌==◌, ◌||◌, Some, None, refl, sym, ap, ◌∙◌, subst}
use Rattle.std.specs.Prelude.{slice_get}
use mathlib.Core.Logic.{dite}
use native.Mathlib.Decide.{ℕ_discrete}
use Rattle.dc_base.specs.Changes.{apply, block_becomes, core_becomes, mailbox_becomes}
use Rattle.dc_base.specs.Outcomes.{share_without}
use Rattle.dc_base.specs.Outcomes.{has as in_share}
use Rattle.dc_base.specs.States.{State, Core, Block, Mailbox, Member}
use Rattle.dc_block_sound.proofs.Elements.{set_here, set_other, same_is, other_is}
use Rattle.dc_sound.proofs.Shares.{has-stays, has-without}
use Rattle.dc_hands.specs.declared.hands.CoreHand.{CoreHand}
use Rattle.dc_core_turns.specs.Ordering.{Shows}
use Rattle.dc_hands.specs.Rows.{Rowed, in_row}

-- a share with one block more
pub longer_share : (share : List Member) (m : Member) (b : ℕ) → in_share (share ++ m ∷ []) b ≡ (m.block == b) || in_share share b
longer_share [] m b = refl
longer_share (n ∷ share) m b = ap (λ t. (n.block == b) || t) (longer_share share m b) ∙ turned (n.block == b) (m.block == b) (in_share share b)
  where
    turned : (x y z : Bool) → x || (y || z) ≡ y || (x || z)
    turned true true z = refl
    turned true false z = refl
    turned false true z = refl
    turned false false z = refl

module _ {D : Type 0} (s : State) (h : CoreHand D) (shows : Shows s h) (k' : Core) (m' : Mailbox) where
  -- a core with the same share, whose blocks stay
  pub shows_core : k'.share ≡ h.core.share → Shows (apply s (core_becomes h.number.0 k' ∷ mailbox_becomes h.number.0 m' ∷ [])) (record h { core = k' })
  shows_core same = record {
    core = set_here s.cores h.number.0 h.core k' shows.core;
    blocks = λ b i. shows.blocks b (subst (λ share. in_share share b ≡ true) same i);
    others = λ b i. shows.others b (subst (λ share. in_share share b ≡ false) same i);
  }

  module _ (b : ℕ) (x x' : Block) (there : slice_get s.blocks b ≡ Some x) (r : Rowed) (others : (n : ℕ) → (n ≡ b → ⊥) → in_row r n ≡ in_row h.row n) where
    other_stands : (n : ℕ) → (n ≡ b → ⊥) → in_share h.core.share n ≡ true
        → (y : Block) × (in_row r n ≡ Some y) × (slice_get (apply s (core_becomes h.number.0 k' ∷ mailbox_becomes h.number.0 m' ∷ block_becomes b x' ∷ [])).blocks n ≡ Some y)
    other_stands n ne i =
        let y = shows.blocks n i in
        (y.0, others n ne ∙ y.1, set_other s.blocks b n x' (λ q. ne (sym q)) ∙ y.2)

    -- one block joins the share and the row
    pub shows_more : (parked : Bool) → k'.share ≡ h.core.share ++ record { block = b; parked = parked } ∷ [] → in_row r b ≡ Some x'
        → Shows (apply s (core_becomes h.number.0 k' ∷ mailbox_becomes h.number.0 m' ∷ block_becomes b x' ∷ [])) (record h { core = k'; row = r })
    shows_more parked share here = record {
      core = set_here s.cores h.number.0 h.core k' shows.core;
      blocks = λ n i. dite (ℕ_discrete n b)
          (λ q. (x', ap (in_row r) q ∙ here, ap (slice_get (apply s (core_becomes h.number.0 k' ∷ mailbox_becomes h.number.0 m' ∷ block_becomes b x' ∷ [])).blocks) q ∙ set_here s.blocks b x x' there))
          (λ q. other_stands n q (past n q ∙ (ap (λ l. in_share l n) (sym share) ∙ i)));
      others = λ n i. dite (ℕ_discrete n b)
          (λ q. absurd (true≢false (sym (joined n q) ∙ i)))
          (λ q. others n q ∙ shows.others n (past n q ∙ (ap (λ l. in_share l n) (sym share) ∙ i)));
    }
      where
        past : (n : ℕ) → (n ≡ b → ⊥) → in_share h.core.share n ≡ in_share (h.core.share ++ record { block = b; parked = parked } ∷ []) n
        past n q = sym (longer_share h.core.share (record { block = b; parked = parked }) n ∙ ap (λ t. t || in_share h.core.share n) (other_is b n (λ e. q (sym e))))

        joined : (n : ℕ) → n ≡ b → in_share k'.share n ≡ true
        joined n q =
            ap (λ l. in_share l n) share
            ∙ (longer_share h.core.share (record { block = b; parked = parked }) n
            ∙ (ap (λ (i : ℕ). (b == i) || in_share h.core.share n) q ∙ ap (λ t. t || in_share h.core.share n) (same_is b)))

    -- one block leaves the share and the row
    pub shows_fewer : k'.share ≡ share_without b h.core.share → in_row r b ≡ None
        → Shows (apply s (core_becomes h.number.0 k' ∷ mailbox_becomes h.number.0 m' ∷ block_becomes b x' ∷ [])) (record h { core = k'; row = r })
    shows_fewer share gone = record {
      core = set_here s.cores h.number.0 h.core k' shows.core;
      blocks = λ n i. let w = has-without b n h.core.share (ap (λ l. in_share l n) (sym share) ∙ i) in other_stands n (λ q. w.0 (sym q)) w.1;
      others = λ n i. dite (ℕ_discrete n b)
          (λ q. ap (in_row r) q ∙ gone)
          (λ q. others n q ∙ shows.others n (out n q (ap (λ l. in_share l n) (sym share) ∙ i) (in_share h.core.share n) refl));
    }
      where
        out : (n : ℕ) → (n ≡ b → ⊥) → in_share (share_without b h.core.share) n ≡ false → (t : Bool) → in_share h.core.share n ≡ t → in_share h.core.share n ≡ false
        out n q f true e = absurd (true≢false (sym (has-stays b n h.core.share (λ p. q (sym p)) e) ∙ f))
        out n q f false e = e
