-- A block is on a core exactly where that core's share lists it: each entry keeps this.
use Rattle.std.proofs.Common.{◌≡◌, ℕ, List, true, Some, refl, sym, ap, ◌∙◌, subst, inl, inr}
use Rattle.std.specs.Prelude.{slice_get, slice_set, ℤ}
use Rattle.dc_base.specs.declared.kernels.Version.{Version}
use Rattle.dc_base.specs.declared.entries.Entry.{Entry}
use Rattle.dc_base.specs.declared.commands.Command.{Command}
use Rattle.dc_base.specs.Changes.{Change, apply}
use Rattle.dc_base.specs.Orders.{under}
use Rattle.dc_base.specs.Outcomes.{has}
use Rattle.dc_base.specs.Placed.{IsListed, IsOn, IsPlaced}
use Rattle.dc_base.specs.Progress.{IsRest}
use Rattle.dc_base.specs.States.{State, Core, Block, Whereabouts, rest, on}
use Rattle.dc_sound.proofs.EntryKinds.{IsSlice, IsSliceNone, IsIdle, IsWake, IsIntake, IsPost, IsDone, IsRefused, IsRoute, IsAwaited, IsRaise, slice_changes, Before, first_post, next_post}
use Rattle.dc_sound.proofs.Rules.{Rule, no_rule, Obeys, Fine, kept, fine_append, fine_outside, core_stays, block_stays}
use Rattle.dc_sound.proofs.Shares.{has-last}
use Rattle.dc_block_sound.proofs.Elements.{same_some, same_or_not, set_here, set_other}

-- as the core and the block were, as far as this part reads them
pub record WasCore (s : State) (c : ℕ) (new : Core) : Type 0 where
  pub was : Core
  pub was_at : slice_get s.cores c ≡ Some was
  pub version : new.version ≡ was.version
  pub share : (b : ℕ) → has new.share b ≡ has was.share b

pub record WasBlock (s : State) (b : ℕ) (new : Block) : Type 0 where
  pub was : Block
  pub was_at : slice_get s.blocks b ≡ Some was
  pub whereabouts : new.whereabouts ≡ was.whereabouts

abbrev pub places : State → Rule
places s = record no_rule { core = WasCore s; block = WasBlock s }

module _ (s : State) where
  pub places_obeyed : Obeys (places s) s
  places_obeyed = record {
    cores = λ c k e. record { was = k; was_at = e; version = refl; share = λ b. refl };
    blocks = λ b x e. record { was = x; was_at = e; whereabouts = refl };
    channels = λ x r e. tt;
    lines = λ l w e. tt;
    mailboxes = λ c m e. tt;
    consoles = λ b ws e. tt;
    script = tt;
  }

  -- the frame: changes that leave versions, members and whereabouts keep this part
  module _ (chs : List Change) (fine : Fine (places s) chs) (p : IsPlaced s) where
    pub frame_obeyed : Obeys (places s) (apply s chs)
    frame_obeyed = kept (places s) chs s fine places_obeyed

    listed_by : (b : ℕ) (w : Whereabouts) → IsListed s b w → IsListed (apply s chs) b w
    listed_by b (rest t) h = tt
    listed_by b (on c offset v) h =
        let stay = core_stays chs s c h.0 h.1 in
        let new = frame_obeyed.cores c stay.0 stay.1 in
        let same : new.was ≡ h.0 = same_some (slice_get s.cores c) new.was h.0 new.was_at h.1 in
        (stay.0, stay.1, new.share b ∙ ap (λ (k : Core). has k.share b) same ∙ h.2, new.version ∙ ap (λ (k : Core). k.version) same ∙ h.3)

    pub placed_frame : IsPlaced (apply s chs)
    placed_frame = record {
      listed = λ b x e. let old = frame_obeyed.blocks b x e in subst (λ w. IsListed (apply s chs) b w) (sym old.whereabouts) (listed_by b old.was.whereabouts (p.listed b old.was old.was_at));
      only = λ c k e b h.
          let old = frame_obeyed.cores c k e in
          let was = p.only c old.was old.was_at b (sym (old.share b) ∙ h) in
          let stay = block_stays chs s b was.0 was.1 in
          let new = frame_obeyed.blocks b stay.0 stay.1 in
          let same : new.was ≡ was.0 = same_some (slice_get s.blocks b) new.was was.0 new.was_at was.1 in
          (stay.0, stay.1, subst (λ w. IsOn c w) (sym (new.whereabouts ∙ ap (λ (x : Block). x.whereabouts) same)) was.2);
    }

-- the kinds that leave versions, members and whereabouts

module _ (s : State) (chs : List Change) (e : Entry) where
  abbrev Framed : Type 0
  Framed = Fine (places s) chs

  pub by_slice : IsSlice s chs e → Framed
  by_slice i =
      subst (Fine (places s)) (sym (slice_changes s chs e i)) (
        record { was = i.k; was_at = i.turn.core_at; version = refl; share = λ j. has-last i.b i.k.share j },
        (
          record { was = i.x; was_at = i.turn.block_at; whereabouts = refl },
          fine_outside (places s) i.b _ _ (λ ws. tt) (λ x r. tt) (λ l w. tt),
        ),
      )

  pub by_slice_none : IsSliceNone s chs e → Framed
  by_slice_none i =
      subst (Fine (places s)) (sym i.changes_are) (
        record { was = i.k; was_at = i.turn.core_at; version = refl; share = λ j. has-last i.b i.k.share j },
        (record { was = i.x; was_at = i.turn.block_at; whereabouts = refl }, tt),
      )

  pub by_idle : IsIdle s chs e → Framed
  by_idle i = subst (Fine (places s)) (sym i.changes_are) (record { was = i.k; was_at = i.core_at; version = refl; share = λ j. refl }, tt)

  pub by_wake : IsWake s chs e → Framed
  by_wake i =
      subst (Fine (places s)) (sym i.changes_are)
      (record { was = i.k; was_at = i.turn.core_at; version = refl; share = λ j. refl }, (record { was = i.x; was_at = i.turn.block_at; whereabouts = refl }, tt))

  pub by_intake : IsIntake s chs e → Framed
  by_intake i =
      subst (Fine (places s)) (sym i.changes_are)
      (record { was = i.x; was_at = i.block_at; whereabouts = refl }, (tt, tt))

  by_before : (command : Command) (before : List Change) → Before s command before → Fine (places s) before
  by_before command before (first_post z r q) = subst (Fine (places s)) (sym q) tt
  by_before command before (next_post last p z g m q) = subst (Fine (places s)) (sym q) (tt, tt)

  pub by_post : IsPost s chs e → Framed
  by_post i = subst (Fine (places s)) (sym i.changes_are) (fine_append (places s) i.before _ (by_before i.command i.before i.before_at) (tt, (tt, tt)))

  pub by_done : IsDone s chs e → Framed
  by_done i = subst (Fine (places s)) (sym i.changes_are) (fine_append (places s) i.before _ (by_before i.command i.before i.before_at) (tt, tt))

  pub by_refused : IsRefused s chs e → Framed
  by_refused i = subst (Fine (places s)) (sym i.changes_are) (tt, tt)

  pub by_route : IsRoute s chs e → Framed
  by_route i = subst (Fine (places s)) (sym i.changes_are) (tt, (tt, tt))

  pub by_awaited : IsAwaited s chs e → Framed
  by_awaited i = subst (Fine (places s)) (sym i.changes_are) (tt, tt)

  pub by_raise : IsRaise s chs e → Framed
  by_raise i = subst (Fine (places s)) (sym i.changes_are) (tt, (tt, tt))

-- the orders

pub both_on : (c d : ℕ) (w : Whereabouts) → IsOn c w → IsOn d w → c ≡ d
both_on c d (rest t) h k = absurd h
both_on c d (on e offset v) h k = sym h ∙ k

pub rests : (w : Whereabouts) → IsRest w → (c : ℕ) → IsOn c w → ⊥
rests (rest t) h c k = k
rests (on e offset v) h c k = h

pub under_on : (v : Version) (c : ℕ) (w : Whereabouts) → IsOn c w → IsOn c (under v w)
under_on v c (rest t) h = h
under_on v c (on e offset u) h = h

module _ (s : State) (p : IsPlaced s) (c : ℕ) (k new : Core) (core_at : slice_get s.cores c ≡ Some k) where
  abbrev others : List Core
  others = slice_set s.cores c new

  -- another core is as it was
  pub other_core : (d : ℕ) (m : Core) → (c ≡ d → ⊥) → slice_get s.cores d ≡ Some m → slice_get others d ≡ Some m
  other_core d m n h = set_other s.cores c d new n ∙ h

  -- the listing of a block that stays on its core, in a state with these cores
  pub listed_on : (t : State) → t.cores ≡ others → (j : ℕ) (w : Whereabouts) → (IsOn c w → has k.share j ≡ true → IsListed t j w) → IsListed s j w → IsListed t j w
  listed_on t same j (rest kept) here h = tt
  listed_on t same j (on d offset v) here h = elim (same_or_not c d) [
    | inl e ↦ here (sym e) (let q : k ≡ h.0 = same_some (slice_get s.cores c) k h.0 core_at (ap (slice_get s.cores) e ∙ h.1) in ap (λ (m : Core). has m.share j) q ∙ h.2)
    | inr n ↦ (h.0, ap (λ l. slice_get l d) same ∙ other_core d h.0 n h.1, h.2, h.3)
  ]

  -- on this core, where the version is the block's
  pub here_on : (t : State) → t.cores ≡ others → (j : ℕ) (w : Whereabouts) → IsOn c w → has new.share j ≡ true → ((offset : ℤ) (v : Version) → w ≡ on c offset v → new.version ≡ Some v) → IsListed t j w
  here_on t same j (rest kept) o h ver = absurd o
  here_on t same j (on d offset v) o h ver =
      (new, ap (λ l. slice_get l d) same ∙ subst (λ n. slice_get others n ≡ Some new) (sym o) (set_here s.cores c k new core_at), h, ver offset v (ap (λ n. on n offset v) o))
