-- What a rule has to show for each kind of entry, and no more.
use Rattle.std.proofs.Common.{◌≡◌, ℕ, ◌+◌, List, [], ◌∷◌, ◌++◌, Some, None, sym, subst}
use Rattle.std.specs.Prelude.{slice_get}
use Rattle.dc_base.specs.declared.commands.Command.{Command}
use Rattle.dc_base.specs.declared.entries.Entry.{Entry}
use Rattle.dc_base.specs.Boot.{after_orders}
use Rattle.dc_base.specs.Changes.{Change}
use Rattle.dc_base.specs.Commands.{at_next_command}
use Rattle.dc_base.specs.Firing.{latch_in}
use Rattle.dc_base.specs.Lines.{wire_after_raise, wire_after_intake, line_latch}
use Rattle.dc_base.specs.Orders.{block_at_rest, block_under, adopted_time}
use Rattle.dc_base.specs.Outcomes.{share_without, with_clock}
use Rattle.dc_base.specs.Ports.{latch_at, how_latched}
use Rattle.dc_base.specs.States.{State, with_control, Block, empty, order, ack, time_at, place_on}
use Rattle.dc_base.specs.SliceTurns.{core_after_slice}
use Rattle.dc_base.specs.Wakes.{ready_again}
use Rattle.dc_base.specs.Boot as boot
use Rattle.dc_sound.proofs.EntryKinds.{IsSlice, IsSliceNone, IsIdle, IsWake, IsIntake, IsStart, IsStop, IsReplace, IsAdopt, IsRelease, IsPost, IsDone, IsRefused, IsRoute, IsAwaited, IsRaise, Before, first_post, next_post, slice_changes, sliced_of, after_timers, Kind, is_slice, is_slice_none, is_idle, is_wake, is_intake, is_start, is_stop, is_replace, is_adopt, is_release, is_post, is_done, is_refused, is_route, is_awaited, is_raise}
use Rattle.dc_sound.proofs.Rules.{Rule, Obeys, Fine, fine_append, fine_all}
use Rattle.dc_sound.proofs.SliceFacts.{HalfLaws, fine_here}

module _ (R : Rule) (s : State) (chs : List Change) (e : Entry) where
  pub record Leaves : Type 0 where
    pub slice : (i : IsSlice s chs e) →
        R.core i.c (core_after_slice i.k i.b (i.k.clock + (sliced_of s chs e i).advance)) × R.block i.b (with_control (sliced_of s chs e i).control i.x) × HalfLaws R s i.c i.b i.h
    pub slice_none : (i : IsSliceNone s chs e) → R.core i.c (core_after_slice i.k i.b (i.k.clock + 1)) × R.block i.b (with_control (after_timers i.k.clock i.offset i.x.control) i.x)
    pub idle : (i : IsIdle s chs e) → R.core i.c (with_clock i.clock i.k)
    pub wake : (i : IsWake s chs e) → R.core i.c (record i.k { used = i.k.used + 1 }) × R.block i.b (with_control (ready_again i.d i.x.control) i.x)
    pub intake : (i : IsIntake s chs e) → R.block i.to.0 (with_control (latch_in i.to.1 (line_latch i.l i.n) i.x.control) i.x) × R.line i.l (wire_after_intake (how_latched (latch_at i.x.control.parts.signals i.to.1)) i.w)
    pub start : (i : IsStart s chs e) → R.core i.c (record i.k { version = Some i.v }) × R.mailbox i.c ack
    pub stop : (i : IsStop s chs e) → R.core i.c (record i.k { version = None; share = [] }) × R.mailbox i.c ack × ((b : ℕ) (x : Block) → slice_get s.blocks b ≡ Some x → R.block b (block_at_rest i.k.clock x))
    pub replace : (i : IsReplace s chs e) → R.core i.c (record i.k { version = Some i.v }) × R.mailbox i.c ack × ((b : ℕ) (x : Block) → slice_get s.blocks b ≡ Some x → R.block b (block_under i.v x))
    pub adopt : (i : IsAdopt s chs e) → R.core i.c (record i.k { share = i.k.share ++ record { block = i.b.0; parked = i.parked } ∷ [] }) × R.mailbox i.c ack
        × R.block i.b.0 (record i.x { whereabouts = place_on i.c i.k.clock (adopted_time i.k.settings.clocks (time_at i.k.clock i.x.whereabouts) i.k.clock) i.v })
    pub release : (i : IsRelease s chs e) → R.core i.c (record i.k { share = share_without i.b.0 i.k.share }) × R.mailbox i.c ack × R.block i.b.0 (block_at_rest i.k.clock i.x)
    pub emptied : (c : ℕ) → R.mailbox c empty
    pub post : (i : IsPost s chs e) → R.mailbox i.o.0 (order i.o.1) × R.script (record s.script { posts = s.script.posts + 1 })
    pub done : (i : IsDone s chs e) → R.script (at_next_command (record s.script { registry = after_orders s.script.registry (boot.orders s.script.registry i.command) }))
    pub refused : (i : IsRefused s chs e) → R.script (at_next_command s.script)
    pub route : (i : IsRoute s chs e) → R.line i.l.0 (record i.w { route = Some i.c.0 }) × R.script (at_next_command s.script)
    pub awaited : (i : IsAwaited s chs e) → R.script (at_next_command s.script)
    pub raise : (i : IsRaise s chs e) → R.line i.l.0 (wire_after_raise i.w) × R.script (record s.script { raises = s.script.raises + 1 })

  module _ (l : Leaves) (obeys : Obeys R s) where
    fine_before : (command : Command) (before : List Change) → Before s command before → Fine R before
    fine_before command before (first_post z r q) = subst (Fine R) (sym q) tt
    fine_before command before (next_post last p z g m q) = subst (Fine R) (sym q) (l.emptied p.0, tt)

    pub fine_kind : Kind s chs e → Fine R chs
    fine_kind (is_slice i) = let h = l.slice i in subst (Fine R) (sym (slice_changes s chs e i)) (h.0, (h.1, fine_here R s obeys i.k.settings i.c i.b i.v i.d i.h h.2))
    fine_kind (is_slice_none i) = let h = l.slice_none i in subst (Fine R) (sym i.changes_are) (h.0, (h.1, tt))
    fine_kind (is_idle i) = subst (Fine R) (sym i.changes_are) (l.idle i, tt)
    fine_kind (is_wake i) = let h = l.wake i in subst (Fine R) (sym i.changes_are) (h.0, (h.1, tt))
    fine_kind (is_intake i) = let h = l.intake i in subst (Fine R) (sym i.changes_are) (h.0, (h.1, tt))
    fine_kind (is_start i) = let h = l.start i in subst (Fine R) (sym i.changes_are) (h.0, (h.1, tt))
    fine_kind (is_stop i) = let h = l.stop i in subst (Fine R) (sym i.changes_are) (h.0, (h.1, fine_all R (block_at_rest i.k.clock) s.blocks _ h.2))
    fine_kind (is_replace i) = let h = l.replace i in subst (Fine R) (sym i.changes_are) (h.0, (h.1, fine_all R (block_under i.v) s.blocks _ h.2))
    fine_kind (is_adopt i) = let h = l.adopt i in subst (Fine R) (sym i.changes_are) (h.0, (h.1, (h.2, tt)))
    fine_kind (is_release i) = let h = l.release i in subst (Fine R) (sym i.changes_are) (h.0, (h.1, (h.2, tt)))
    fine_kind (is_post i) = let h = l.post i in subst (Fine R) (sym i.changes_are) (fine_append R i.before _ (fine_before i.command i.before i.before_at) (h.0, (h.1, tt)))
    fine_kind (is_done i) = subst (Fine R) (sym i.changes_are) (fine_append R i.before _ (fine_before i.command i.before i.before_at) (l.done i, tt))
    fine_kind (is_refused i) = subst (Fine R) (sym i.changes_are) (l.refused i, tt)
    fine_kind (is_route i) = let h = l.route i in subst (Fine R) (sym i.changes_are) (h.0, (h.1, tt))
    fine_kind (is_awaited i) = subst (Fine R) (sym i.changes_are) (l.awaited i, tt)
    fine_kind (is_raise i) = let h = l.raise i in subst (Fine R) (sym i.changes_are) (h.0, (h.1, tt))
