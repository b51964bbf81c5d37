-- A wake touches what the table says.
use Rattle.std.proofs.Common.{◌≡◌, ℕ, List, [], ◌∷◌, Option, Some, None, refl, sym, ap, ◌∙◌, subst}
use Rattle.std.specs.Prelude.{slice_get, nat_lt, length, ◌==◌}
use Rattle.std.specs.List.Sorted.{IsPermutation}
use Rattle.std.proofs.lemmas.List.Sorted.{IsPermutation-refl}
use Rattle.dc_base.specs.declared.dispatchers.DispState.{DispState}
use Rattle.dc_base.specs.declared.dispatchers.DispState.TheVariants as disp
use Rattle.dc_base.specs.declared.dispatchers.Wait.TheVariants as wait
use Rattle.dc_base.specs.declared.entries.Entry.{Entry}
use Rattle.dc_base.specs.declared.entries.What.TheVariants as what
use Rattle.dc_base.specs.Words.{bind}
use Rattle.dc_base.specs.Channels.{Ring, is_full}
use Rattle.dc_base.specs.States.{State, Core, Block}
use Rattle.dc_base.specs.Changes.{Name, a_core, a_block, a_channel, Change}
use Rattle.dc_base.specs.Turns.{not_enabled, ends, spent, look_block}
use Rattle.dc_base.specs.Outcomes.{if_on, if_here}
use Rattle.dc_base.specs.Wakes.{after_wake, wake_sender, wake_receiver, wake_waiting, wake_in, wake_turn}
use Rattle.dc_base.specs.CoreTouches.{channel_of}
use Rattle.dc_touch.proofs.Tabled.{IsTabled, refused, ran_out, made_by_core, either, either_end, when_on, when_here}

module _ (s : State) (chs : List Change) (e : Entry) (c : ℕ) (k : Core) (here : slice_get s.cores c ≡ Some k) (b d : ℕ) where
  -- the channel that the dispatcher waits on, if the block is this one
  abbrev waited_on : Option Block → List Name
  waited_on o = channel_of (bind o (λ (x : Block). slice_get x.control.states d))

  channel_tabled : (x : Block) (o : Option DispState) → slice_get s.blocks b ≡ Some x → slice_get x.control.states d ≡ o → waited_on (slice_get s.blocks b) ≡ channel_of o
  channel_tabled x o hb hd = ap waited_on hb ∙ ap channel_of hd

  woken_tabled : (x : Block) (y : ℕ) → waited_on (slice_get s.blocks b) ≡ a_channel y ∷ [] →
      IsTabled s chs e (a_core c ∷ a_block b ∷ a_channel y ∷ []) (ends (after_wake c k b d x))
  woken_tabled x y h =
      made_by_core s chs e c k here (a_core c ∷ a_block b ∷ a_channel y ∷ []) _ (what.Wake (record { 0 = b }) (record { 0 = d }))
      (subst (λ ns. IsPermutation (a_core c ∷ a_block b ∷ a_channel y ∷ []) (a_core c ∷ a_block b ∷ ns)) (sym h) (IsPermutation-refl _))

  sender_tabled : (x : Block) (y : ℕ) → waited_on (slice_get s.blocks b) ≡ a_channel y ∷ [] → (o : Option Ring) →
      IsTabled s chs e (a_core c ∷ a_block b ∷ a_channel y ∷ []) (ends (wake_sender c k b d x o))
  sender_tabled x y h None = refused s chs e _
  sender_tabled x y h (Some r) = either_end s chs e (is_full r) (a_core c ∷ a_block b ∷ a_channel y ∷ []) (not_enabled _) (after_wake c k b d x) (refused s chs e _) (woken_tabled x y h)

  receiver_tabled : (x : Block) (y : ℕ) → waited_on (slice_get s.blocks b) ≡ a_channel y ∷ [] → (o : Option Ring) →
      IsTabled s chs e (a_core c ∷ a_block b ∷ a_channel y ∷ []) (ends (wake_receiver c k b d x o))
  receiver_tabled x y h None = refused s chs e _
  receiver_tabled x y h (Some r) = either_end s chs e (nat_lt 0 (length r.untaken)) (a_core c ∷ a_block b ∷ a_channel y ∷ []) (after_wake c k b d x) (not_enabled _) (woken_tabled x y h) (refused s chs e _)

  waiting_tabled : (x : Block) → slice_get s.blocks b ≡ Some x → (o : Option DispState) → slice_get x.control.states d ≡ o → IsTabled s chs e (a_core c ∷ a_block b ∷ []) (wake_waiting c k b d x o)
  waiting_tabled x hb (Some (disp.Waits (wait.Csend y))) hd = sender_tabled x y.0 (channel_tabled x _ hb hd) (slice_get s.channels y.0)
  waiting_tabled x hb (Some (disp.Waits (wait.Crecv y))) hd = receiver_tabled x y.0 (channel_tabled x _ hb hd) (slice_get s.channels y.0)
  waiting_tabled x hb o hd = refused s chs e _

  block_tabled : (o : Option Block) → slice_get s.blocks b ≡ o → IsTabled s chs e (a_core c ∷ a_block b ∷ []) (wake_in c k b d o)
  block_tabled None hb = refused s chs e _
  block_tabled (Some x) hb = waiting_tabled x hb (slice_get x.control.states d) refl

  pub wake_tabled : IsTabled s chs e (a_core c ∷ []) (wake_turn c k b d)
  wake_tabled =
      either s chs e (k.used == k.settings.slices) (a_core c ∷ []) (ends spent) (if_on k.version (if_here k.share b (look_block b (wake_in c k b d)))) (ran_out s chs e)
      (when_on s chs e k.version (a_core c ∷ []) (if_here k.share b (look_block b (wake_in c k b d))) (when_here s chs e k.share b (a_core c ∷ []) (look_block b (wake_in c k b d)) (block_tabled (slice_get s.blocks b) refl)))
