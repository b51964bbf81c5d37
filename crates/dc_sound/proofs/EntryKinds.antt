-- What an entry of each kind is: what it found, and what became of it.
use Rattle.std.proofs.Common.{◌≡◌, ℕ, zero, suc, ◌+◌, List, [], ◌∷◌, ◌++◌, Bool, true, false, Option, Some, None, refl, sym, ap, ◌∙◌, subst, map, arith}
use Rattle.std.specs.Prelude.{slice_get, if◌then◌else◌, find, nat_lt, nat_le, ◌==◌, ◌||◌, length, ℤ, is_some}
use Rattle.dc_base.specs.declared.calls.Need.{Need}
use Rattle.dc_base.specs.declared.calls.Need.TheVariants as needs
use Rattle.dc_base.specs.declared.dispatchers.DispState.{DispState}
use Rattle.dc_base.specs.declared.dispatchers.DispState.TheVariants as disp
use Rattle.dc_base.specs.declared.dispatchers.Wait.TheVariants as wait
use Rattle.dc_base.specs.declared.numbers.BlockNo.{BlockNo}
use Rattle.dc_base.specs.declared.numbers.LineNo.{LineNo}
use Rattle.dc_base.specs.declared.numbers.CoreNo.{CoreNo}
use Rattle.dc_base.specs.declared.actions.Actor.{Actor}
use Rattle.dc_base.specs.declared.actions.Actor.TheVariants as actor
use Rattle.dc_base.specs.declared.actions.Action.{Action}
use Rattle.dc_base.specs.declared.actions.Action.TheVariants as action
use Rattle.dc_base.specs.declared.kernels.Version.{Version}
use Rattle.dc_base.specs.declared.commands.Command.{Command}
use Rattle.dc_base.specs.declared.commands.Refusal.{Refusal}
use Rattle.dc_base.specs.declared.commands.Order.{Order}
use Rattle.dc_base.specs.declared.commands.Order.TheVariants as orders
use Rattle.dc_base.specs.declared.commands.ScriptLine.{ScriptLine}
use Rattle.dc_base.specs.declared.commands.ScriptLine.TheVariants as script
use Rattle.dc_base.specs.declared.entries.Entry.{Entry}
use Rattle.dc_base.specs.declared.entries.What.TheVariants as what
use Rattle.dc_base.specs.declared.entries.Reason.{Reason}
use Rattle.dc_base.specs.declared.entries.Reason.TheVariants as reason
use Rattle.std.proofs.Math.Bool.{or-true}
use Rattle.std.proofs.lemmas.Bool.Decides.{nat_tests}
use Rattle.std.specs.Option.{option_map}
use Rattle.dc_base.specs.Boot.{refusal, after_orders}
use Rattle.dc_base.specs.Changes.{Change, core_becomes, block_becomes, line_becomes, mailbox_becomes, script_becomes}
use Rattle.dc_base.specs.Channels.{Ring, is_full}
use Rattle.dc_base.specs.Commands.{at_next_command, post_or_done, begin, with_ack, go_on_from, boot_turn, route_line, await_outcome, command_turn, raise_above, after_raises, script_turn}
use Rattle.dc_base.specs.Cores.{core_action, core_turn, turn_of, core_step}
use Rattle.dc_base.specs.ControlBlocks.{ControlBlock}
use Rattle.dc_base.specs.Firing.{fire_all, latch_in}
use Rattle.dc_base.specs.Intakes.{intake_outcome, intake_pending, intake_line}
use Rattle.dc_base.specs.KeptByBlocks.{is_ready}
use Rattle.dc_base.specs.Lines.{Wire, wire_after_raise, wire_after_intake, line_latch}
use Rattle.dc_base.specs.Orders.{acked, change_all, block_at_rest, block_under, adopted_time, adopt_outcome, release_outcome, carry_out, order_turn}
use Rattle.dc_base.specs.NeedsHere.{need_here}
use Rattle.dc_base.specs.Outcomes.{by_script, if_on, share_blocks, share_without, has, if_here, with_clock}
use Rattle.dc_base.specs.Policies.{pick}
use Rattle.dc_base.specs.Ports.{latch_at, how_latched}
use Rattle.dc_base.specs.Raises.{raise_on, raise_line, raise_turn, first_unbegun}
use Rattle.dc_base.specs.Script.{next_raise}
use Rattle.dc_base.specs.Serving.{Outside}
use Rattle.dc_base.specs.Slices.{Sliced, Halfway, halfway, need_of, slice_end, without_ready}
use Rattle.dc_base.specs.States.{State, Core, Block, with_control, Member, Mailbox, empty, order, ack, Script, Whereabouts, rest, on, time_on, time_at, place_on}
use Rattle.dc_base.specs.SliceTurns.{core_after_slice, slice_outcome, finish_slice, slice_picked, slice_from, slice_turn}
use Rattle.dc_base.specs.NeededLooks.{look_outside, outside_change}
use Rattle.dc_base.specs.IdleTurns.{next_due, idle_outcome}
use Rattle.dc_base.specs.Steps.{step_on, step_turn, is_runnable}
use Rattle.dc_base.specs.Turns.{Outcome, did, not_enabled, spent, Looked, Turn, ends, look_blocks, look_block, look_line, looked_at, outcome}
use Rattle.dc_base.specs.Wakes.{ready_again, after_wake, wake_sender, wake_receiver, wake_waiting, wake_in, wake_turn}
use Rattle.dc_base.specs.Words.{is_number}
use Rattle.dc_base.specs.Boot as boot
use Rattle.dc_block_sound.proofs.OutsideAt.{outside_at}

-- a control block after its due timers fired, on a core whose clock stands so, at this offset
abbrev pub after_timers : ℕ → ℤ → ControlBlock → ControlBlock
after_timers clock offset x = (fire_all (time_on clock offset) x).control

-- a core that is on, has budget, and block b of its share
pub record HasTurn (s : State) (c : ℕ) (k : Core) (b : ℕ) (x : Block) : Type 0 where
  pub core_at : slice_get s.cores c ≡ Some k
  pub unspent : (k.used == k.settings.slices) ≡ false
  pub is_on : is_some k.version ≡ true
  pub here : has k.share b ≡ true
  pub block_at : slice_get s.blocks b ≡ Some x

pub record IsSlice (s : State) (chs : List Change) (e : Entry) : Type 0 where
  pub c : ℕ
  pub k : Core
  pub b : ℕ
  pub x : Block
  pub turn : HasTurn s c k b x
  pub home : ℕ
  pub offset : ℤ
  pub v : Version
  pub whereabouts_at : x.whereabouts ≡ on home offset v
  pub d : ℕ
  pub h : Halfway
  pub halfway_at : halfway k.settings.quantum (time_on k.clock offset) (without_ready d (after_timers k.clock offset x.control)) d ≡ Some h
  pub picked : pick v (after_timers k.clock offset x.control).dues (after_timers k.clock offset x.control).ready ≡ Some d
  pub outcome_is : did chs e ≡ slice_outcome c k b x d (fire_all (time_on k.clock offset) x.control).count (slice_end c b v d h (outside_at s b (need_here k.settings (need_of h))))

-- what its call got
abbrev pub got_by : (s : State) (chs : List Change) (e : Entry) → IsSlice s chs e → Outside
got_by s chs e i = outside_at s i.b (need_here i.k.settings (need_of i.h))

-- what the slice did
abbrev pub sliced_of : (s : State) (chs : List Change) (e : Entry) → IsSlice s chs e → Sliced
sliced_of s chs e i = slice_end i.c i.b i.v i.d i.h (got_by s chs e i)

-- the changes of a slice
pub slice_changes : (s : State) (chs : List Change) (e : Entry) (i : IsSlice s chs e) →
    let sl = sliced_of s chs e i in
    chs ≡ core_becomes i.c (core_after_slice i.k i.b (i.k.clock + sl.advance)) ∷ block_becomes i.b (with_control sl.control i.x) ∷ outside_change i.b sl.need sl.outside
slice_changes s chs e i = let o = i.outcome_is in cc

pub record IsSliceNone (s : State) (chs : List Change) (e : Entry) : Type 0 where
  pub c : ℕ
  pub k : Core
  pub b : ℕ
  pub x : Block
  pub turn : HasTurn s c k b x
  pub home : ℕ
  pub offset : ℤ
  pub v : Version
  pub whereabouts_at : x.whereabouts ≡ on home offset v
  pub changes_are : chs ≡ core_becomes c (core_after_slice k b (k.clock + 1)) ∷ block_becomes b (with_control (after_timers k.clock offset x.control) x) ∷ []

pub record IsIdle (s : State) (chs : List Change) (e : Entry) : Type 0 where
  pub c : ℕ
  pub k : Core
  pub core_at : slice_get s.cores c ≡ Some k
  pub unspent : (k.used == k.settings.slices) ≡ false
  pub is_on : is_some k.version ≡ true
  pub clock : ℕ
  pub none_runs : find (is_runnable k.clock) (map (looked_at s.blocks) (share_blocks k.share)) ≡ None
  pub due : next_due (map (looked_at s.blocks) (share_blocks k.share)) ≡ Some clock
  pub changes_are : chs ≡ core_becomes c (with_clock clock k) ∷ []

pub record IsWake (s : State) (chs : List Change) (e : Entry) : Type 0 where
  pub c : ℕ
  pub k : Core
  pub b : ℕ
  pub d : ℕ
  pub x : Block
  pub turn : HasTurn s c k b x
  pub state : DispState
  pub waits : slice_get x.control.states d ≡ Some state
  pub not_ready : is_ready (Some state) ≡ false
  pub changes_are : chs ≡ core_becomes c (record k { used = k.used + 1 }) ∷ block_becomes b (with_control (ready_again d x.control) x) ∷ []

pub record IsIntake (s : State) (chs : List Change) (e : Entry) : Type 0 where
  pub c : ℕ
  pub k : Core
  pub core_at : slice_get s.cores c ≡ Some k
  pub is_on : is_some k.version ≡ true
  pub l : ℕ
  pub w : Wire
  pub line_at : slice_get s.lines l ≡ Some w
  pub to : ℕ × ℕ
  pub n : ℕ
  pub bound_at : w.bound ≡ Some to
  pub pending_at : w.pending ≡ Some n
  pub routed : is_number c w.route ≡ true
  pub here : has k.share to.0 ≡ true
  pub x : Block
  pub block_at : slice_get s.blocks to.0 ≡ Some x
  pub changes_are : chs ≡ block_becomes to.0 (with_control (latch_in to.1 (line_latch l n) x.control) x) ∷ line_becomes l (wire_after_intake (how_latched (latch_at x.control.parts.signals to.1)) w) ∷ []

-- core c finds this order in its mailbox
pub record HasOrder (s : State) (c : ℕ) (k : Core) (o : Order) : Type 0 where
  pub core_at : slice_get s.cores c ≡ Some k
  pub mailbox_at : slice_get s.mailboxes c ≡ Some (order o)

pub record IsStart (s : State) (chs : List Change) (e : Entry) : Type 0 where
  pub c : ℕ
  pub k : Core
  pub v : Version
  pub order_at : HasOrder s c k (orders.Start v)
  pub changes_are : chs ≡ acked c (record k { version = Some v }) []

pub record IsStop (s : State) (chs : List Change) (e : Entry) : Type 0 where
  pub c : ℕ
  pub k : Core
  pub order_at : HasOrder s c k orders.Stop
  pub changes_are : chs ≡ acked c (record k { version = None; share = [] }) (change_all (block_at_rest k.clock) (map (looked_at s.blocks) (share_blocks k.share)))

pub record IsReplace (s : State) (chs : List Change) (e : Entry) : Type 0 where
  pub c : ℕ
  pub k : Core
  pub v : Version
  pub order_at : HasOrder s c k (orders.Replace v)
  pub changes_are : chs ≡ acked c (record k { version = Some v }) (change_all (block_under v) (map (looked_at s.blocks) (share_blocks k.share)))

pub record IsAdopt (s : State) (chs : List Change) (e : Entry) : Type 0 where
  pub c : ℕ
  pub k : Core
  pub b : BlockNo
  pub parked : Bool
  pub order_at : HasOrder s c k (orders.Adopt b parked)
  pub v : Version
  pub version_at : k.version ≡ Some v
  pub x : Block
  pub block_at : slice_get s.blocks b.0 ≡ Some x
  pub changes_are : chs ≡ acked c (record k { share = k.share ++ record { block = b.0; parked = parked } ∷ [] })
      (block_becomes b.0 (record x { whereabouts = place_on c k.clock (adopted_time k.settings.clocks (time_at k.clock x.whereabouts) k.clock) v }) ∷ [])

pub record IsRelease (s : State) (chs : List Change) (e : Entry) : Type 0 where
  pub c : ℕ
  pub k : Core
  pub b : BlockNo
  pub order_at : HasOrder s c k (orders.Release b)
  pub x : Block
  pub block_at : slice_get s.blocks b.0 ≡ Some x
  pub changes_are : chs ≡ acked c (record k { share = share_without b.0 k.share }) (block_becomes b.0 (block_at_rest k.clock x) ∷ [])

-- the changes before a post, or before a command is done
pub data Before (s : State) (command : Command) (before : List Change) : Type 0 where
  first_post : s.script.posts ≡ 0 → refusal s.script.registry command ≡ None → before ≡ [] → Before s command before
  next_post : (last : ℕ) (p : ℕ × Order) → s.script.posts ≡ suc last → slice_get (boot.orders s.script.registry command) last ≡ Some p → slice_get s.mailboxes p.0 ≡ Some ack →
      before ≡ mailbox_becomes p.0 empty ∷ [] → Before s command before

-- the script stands at this line, and no raise stands above it
pub record StandsAt (t : Script) (l : ScriptLine) : Type 0 where
  pub line_at : slice_get t.lines t.place ≡ Some l
  pub raises : raise_above t.place (next_raise t.lines t.raises) ≡ None

pub record IsPost (s : State) (chs : List Change) (e : Entry) : Type 0 where
  pub command : Command
  pub stands : StandsAt s.script (script.Boot command)
  pub before : List Change
  pub before_at : Before s command before
  pub o : ℕ × Order
  pub order_at : slice_get (boot.orders s.script.registry command) s.script.posts ≡ Some o
  pub changes_are : chs ≡ before ++ mailbox_becomes o.0 (order o.1) ∷ script_becomes (record s.script { posts = s.script.posts + 1 }) ∷ []

pub record IsDone (s : State) (chs : List Change) (e : Entry) : Type 0 where
  pub command : Command
  pub stands : StandsAt s.script (script.Boot command)
  pub before : List Change
  pub before_at : Before s command before
  pub no_order : slice_get (boot.orders s.script.registry command) s.script.posts ≡ None
  pub changes_are : chs ≡ before ++ script_becomes (at_next_command (record s.script { registry = after_orders s.script.registry (boot.orders s.script.registry command) })) ∷ []

pub record IsRefused (s : State) (chs : List Change) (e : Entry) : Type 0 where
  pub command : Command
  pub stands : StandsAt s.script (script.Boot command)
  pub posts_at : s.script.posts ≡ 0
  pub r : Refusal
  pub refusal_at : refusal s.script.registry command ≡ Some r
  pub changes_are : chs ≡ script_becomes (at_next_command s.script) ∷ []

pub record IsRoute (s : State) (chs : List Change) (e : Entry) : Type 0 where
  pub l : LineNo
  pub c : CoreNo
  pub stands : StandsAt s.script (script.Route l c)
  pub w : Wire
  pub line_at : slice_get s.lines l.0 ≡ Some w
  pub changes_are : chs ≡ line_becomes l.0 (record w { route = Some c.0 }) ∷ script_becomes (at_next_command s.script) ∷ []

-- met or unmet
pub record IsAwaited (s : State) (chs : List Change) (e : Entry) : Type 0 where
  pub b : BlockNo
  pub words : ℕ
  pub limit : ℕ
  pub stands : StandsAt s.script (script.Await b words limit)
  pub changes_are : chs ≡ script_becomes (at_next_command s.script) ∷ []

pub record IsRaise (s : State) (chs : List Change) (e : Entry) : Type 0 where
  pub q : ℕ
  pub l : LineNo
  pub next_at : next_raise s.script.lines s.script.raises ≡ Some q
  pub begun : nat_lt (first_unbegun s.script) q ≡ false
  pub raise_at : slice_get s.script.lines q ≡ Some (script.Raise l)
  pub w : Wire
  pub line_at : slice_get s.lines l.0 ≡ Some w
  pub changes_are : chs ≡ line_becomes l.0 (wire_after_raise w) ∷ script_becomes (record s.script { raises = s.script.raises + 1 }) ∷ []

pub data Kind (s : State) (chs : List Change) (e : Entry) : Type 0 where
  is_slice : IsSlice s chs e → Kind s chs e
  is_slice_none : IsSliceNone s chs e → Kind s chs e
  is_idle : IsIdle s chs e → Kind s chs e
  is_wake : IsWake s chs e → Kind s chs e
  is_intake : IsIntake s chs e → Kind s chs e
  is_start : IsStart s chs e → Kind s chs e
  is_stop : IsStop s chs e → Kind s chs e
  is_replace : IsReplace s chs e → Kind s chs e
  is_adopt : IsAdopt s chs e → Kind s chs e
  is_release : IsRelease s chs e → Kind s chs e
  is_post : IsPost s chs e → Kind s chs e
  is_done : IsDone s chs e → Kind s chs e
  is_refused : IsRefused s chs e → Kind s chs e
  is_route : IsRoute s chs e → Kind s chs e
  is_awaited : IsAwaited s chs e → Kind s chs e
  is_raise : IsRaise s chs e → Kind s chs e

same_is : (n : ℕ) → (n == n) ≡ true
same_is n = grind (arith, nat_tests)

module _ (s : State) (chs : List Change) (e : Entry) where
  abbrev Comes : Turn → Type 0
  Comes t = outcome s t ≡ did chs e

  abbrev K : Type 0
  K = Kind s chs e

  no_entry : (r : Reason) → Comes (ends (not_enabled r)) → K
  no_entry r g = absurd cc

  no_budget : Comes (ends spent) → K
  no_budget g = absurd cc

  by_if : (b : Bool) (t u : Turn) → Comes (if b then t else u) → (b ≡ true → Comes t → K) → (b ≡ false → Comes u → K) → K
  by_if true t u g f h = f refl g
  by_if false t u g f h = h refl g

  by_outcome : (b : Bool) (t u : Outcome) → Comes (ends (if b then t else u)) → (b ≡ true → Comes (ends t) → K) → (b ≡ false → Comes (ends u) → K) → K
  by_outcome true t u g f h = f refl g
  by_outcome false t u g f h = h refl g

  by_version : (o : Option Version) (t : Turn) → Comes (if_on o t) → (is_some o ≡ true → Comes t → K) → K
  by_version None t g f = absurd cc
  by_version (Some v) t g f = f refl g

  changes_same : (more : List Change) (f : Entry) → did more f ≡ did chs e → chs ≡ more
  changes_same more f g = cc

  -- a slice

  pub outside_comes : (b : ℕ) (w : Need) (next : Outside → Turn) → Comes (look_outside b w next) → Comes (next (outside_at s b w))
  unfolding look_outside
  outside_comes b needs.Nothing next g = g
  outside_comes b needs.Console next g = g
  outside_comes b (needs.Channel x) next g = g
  outside_comes b (needs.Line l) next g = g

  module _ (c : ℕ) (k : Core) (core_at : slice_get s.cores c ≡ Some k) where
    module _ (b : ℕ) (x : Block) (turn : HasTurn s c k b x) (home : ℕ) (offset : ℤ) (v : Version) (w : x.whereabouts ≡ on home offset v) where
      finish_kind : (d : ℕ) → pick v (after_timers k.clock offset x.control).dues (after_timers k.clock offset x.control).ready ≡ Some d → (o : Option Halfway) →
          halfway k.settings.quantum (time_on k.clock offset) (without_ready d (after_timers k.clock offset x.control)) d ≡ o →
          Comes (finish_slice c k b x v d (fire_all (time_on k.clock offset) x.control).count o) → K
      finish_kind d p None q g = absurd cc
      finish_kind d p (Some h) q g = is_slice (record {
        c = c;
        k = k;
        b = b;
        x = x;
        turn = turn;
        home = home;
        offset = offset;
        v = v;
        whereabouts_at = w;
        d = d;
        h = h;
        halfway_at = q;
        picked = p;
        outcome_is = sym (outside_comes b (need_here k.settings (need_of h)) (λ out. ends (slice_outcome c k b x d (fire_all (time_on k.clock offset) x.control).count (slice_end c b v d h out))) g);
      })

      picked_kind : (o : Option ℕ) → pick v (after_timers k.clock offset x.control).dues (after_timers k.clock offset x.control).ready ≡ o →
          Comes (slice_picked c k b x (time_on k.clock offset) v (fire_all (time_on k.clock offset) x.control) o) → K
      picked_kind None p g = is_slice_none (record { c = c; k = k; b = b; x = x; turn = turn; home = home; offset = offset; v = v; whereabouts_at = w; changes_are = changes_same _ _ g })
      picked_kind (Some d) p g = finish_kind d p _ refl g

    from_kind : (b : ℕ) (x : Block) → HasTurn s c k b x → (w : Whereabouts) → x.whereabouts ≡ w → Comes (slice_from c k b x w) → K
    from_kind b x turn (rest kept) q g = absurd cc
    from_kind b x turn (on home offset v) q g = picked_kind b x turn home offset v q _ refl g

    slice_kind : (b : ℕ) → (k.used == k.settings.slices) ≡ false → is_some k.version ≡ true → has k.share b ≡ true → (o : Option Block) → slice_get s.blocks b ≡ o → Comes (slice_turn c k b o) → K
    unfolding slice_turn
    slice_kind b u v h None q g = absurd cc
    slice_kind b u v h (Some x) q g = from_kind b x (record { core_at = core_at; unspent = u; is_on = v; here = h; block_at = q }) x.whereabouts refl g

    idle_kind : (k.used == k.settings.slices) ≡ false → is_some k.version ≡ true → find (is_runnable k.clock) (map (looked_at s.blocks) (share_blocks k.share)) ≡ None →
        (o : Option ℕ) → next_due (map (looked_at s.blocks) (share_blocks k.share)) ≡ o → Comes (ends (idle_outcome c k o)) → K
    unfolding idle_outcome
    idle_kind u v n None q g = absurd cc
    idle_kind u v n (Some clock) q g = is_idle (record { c = c; k = k; core_at = core_at; unspent = u; is_on = v; clock = clock; none_runs = n; due = q; changes_are = changes_same _ _ g })

    on_kind : (k.used == k.settings.slices) ≡ false → is_some k.version ≡ true → (o : Option Looked) → find (is_runnable k.clock) (map (looked_at s.blocks) (share_blocks k.share)) ≡ o →
        ((l : Looked) → o ≡ Some l → (has k.share l.number ≡ true) × (slice_get s.blocks l.number ≡ l.found)) →
        Comes (step_on c k (map (looked_at s.blocks) (share_blocks k.share)) o) → K
    on_kind u v None q h g = idle_kind u v q _ refl g
    on_kind u v (Some l) q h g = slice_kind l.number u v (h l refl).0 l.found (h l refl).1 g

    step_kind : ((l : Looked) → find (is_runnable k.clock) (map (looked_at s.blocks) (share_blocks k.share)) ≡ Some l → (has k.share l.number ≡ true) × (slice_get s.blocks l.number ≡ l.found)) → Comes (step_turn c k) → K
    step_kind h g =
        by_if (k.used == k.settings.slices) (ends spent) (if_on k.version (look_blocks (share_blocks k.share) (λ share. step_on c k share (find (is_runnable k.clock) share)))) g (λ u g. no_budget g) (λ u g. by_version k.version (look_blocks (share_blocks k.share) (λ share. step_on c k share (find (is_runnable k.clock) share))) g (λ v g. on_kind u v _ refl h g))

    -- a wake

    woken_kind : (b d : ℕ) (x : Block) → HasTurn s c k b x → (state : DispState) → slice_get x.control.states d ≡ Some state → is_ready (Some state) ≡ false → Comes (ends (after_wake c k b d x)) → K
    woken_kind b d x turn state q r g = is_wake (record { c = c; k = k; b = b; d = d; x = x; turn = turn; state = state; waits = q; not_ready = r; changes_are = changes_same _ _ g })

    sender_kind : (b d : ℕ) (x : Block) → HasTurn s c k b x → (state : DispState) → slice_get x.control.states d ≡ Some state → is_ready (Some state) ≡ false → (o : Option Ring) → Comes (ends (wake_sender c k b d x o)) → K
    sender_kind b d x turn state q nr None g = absurd cc
    sender_kind b d x turn state q nr (Some r) g = by_outcome (is_full r) (not_enabled reason.StillWaits) (after_wake c k b d x) g (λ f g. no_entry reason.StillWaits g) (λ f g. woken_kind b d x turn state q nr g)

    receiver_kind : (b d : ℕ) (x : Block) → HasTurn s c k b x → (state : DispState) → slice_get x.control.states d ≡ Some state → is_ready (Some state) ≡ false → (o : Option Ring) → Comes (ends (wake_receiver c k b d x o)) → K
    receiver_kind b d x turn state q nr None g = absurd cc
    receiver_kind b d x turn state q nr (Some r) g = by_outcome (nat_lt 0 (length r.untaken)) (after_wake c k b d x) (not_enabled reason.StillWaits) g (λ f g. woken_kind b d x turn state q nr g) (λ f g. no_entry reason.StillWaits g)

    waiting_kind : (b d : ℕ) (x : Block) → HasTurn s c k b x → (o : Option DispState) → slice_get x.control.states d ≡ o → Comes (wake_waiting c k b d x o) → K
    waiting_kind b d x turn (Some (disp.Waits (wait.Csend y))) q g = sender_kind b d x turn _ q refl (slice_get s.channels y.0) g
    waiting_kind b d x turn (Some (disp.Waits (wait.Crecv y))) q g = receiver_kind b d x turn _ q refl (slice_get s.channels y.0) g
    waiting_kind b d x turn o q g = absurd cc

    wake_in_kind : (b d : ℕ) → (k.used == k.settings.slices) ≡ false → is_some k.version ≡ true → has k.share b ≡ true → (o : Option Block) → slice_get s.blocks b ≡ o → Comes (wake_in c k b d o) → K
    wake_in_kind b d u v h None q g = absurd cc
    wake_in_kind b d u v h (Some x) q g = waiting_kind b d x (record { core_at = core_at; unspent = u; is_on = v; here = h; block_at = q }) _ refl g

    wake_kind : (b d : ℕ) → Comes (wake_turn c k b d) → K
    wake_kind b d g =
        by_if (k.used == k.settings.slices) (ends spent) (if_on k.version (if_here k.share b (look_block b (wake_in c k b d)))) g (λ u g. no_budget g) (λ u g. by_version k.version (if_here k.share b (look_block b (wake_in c k b d))) g (λ v g.
        by_if (has k.share b) (look_block b (wake_in c k b d)) (ends (not_enabled (reason.NotHere (record { 0 = b })))) g (λ h g. wake_in_kind b d u v h _ refl g) (λ h g. no_entry (reason.NotHere (record { 0 = b })) g)))

    -- an intake

    intake_in_kind : is_some k.version ≡ true → (l : ℕ) (w : Wire) → slice_get s.lines l ≡ Some w → (to : ℕ × ℕ) (n : ℕ) → w.bound ≡ Some to → w.pending ≡ Some n → is_number c w.route ≡ true → has k.share to.0 ≡ true →
        (o : Option Block) → slice_get s.blocks to.0 ≡ o → Comes (ends (intake_outcome c l w n to.0 to.1 o)) → K
    intake_in_kind v l w lq to n bq pq r h None q g = absurd cc
    intake_in_kind v l w lq to n bq pq r h (Some x) q g = is_intake (record {
      c = c;
      k = k;
      core_at = core_at;
      is_on = v;
      l = l;
      w = w;
      line_at = lq;
      to = to;
      n = n;
      bound_at = bq;
      pending_at = pq;
      routed = r;
      here = h;
      x = x;
      block_at = q;
      changes_are = changes_same _ _ g;
    })

    pending_kind : is_some k.version ≡ true → (l : ℕ) (w : Wire) → slice_get s.lines l ≡ Some w → (o : Option (ℕ × ℕ)) (p : Option ℕ) → w.bound ≡ o → w.pending ≡ p → Comes (intake_pending c k l w o p) → K
    pending_kind v l w lq None p bq pq g = absurd cc
    pending_kind v l w lq (Some to) None bq pq g = absurd cc
    pending_kind v l w lq (Some to) (Some n) bq pq g =
        by_if (is_number c w.route) (if_here k.share to.0 (look_block to.0 (λ o. ends (intake_outcome c l w n to.0 to.1 o)))) (ends (not_enabled (reason.NotRouted (option_map (λ r. record { 0 = r }) w.route)))) g (λ r g.
        by_if (has k.share to.0) (look_block to.0 (λ o. ends (intake_outcome c l w n to.0 to.1 o))) (ends (not_enabled (reason.NotHere (record { 0 = to.0 })))) g (λ h g. intake_in_kind v l w lq to n bq pq r h _ refl g) (λ h g. no_entry (reason.NotHere (record { 0 = to.0 })) g))
        (λ r g. no_entry (reason.NotRouted (option_map (λ r. record { 0 = r }) w.route)) g)

    intake_line_kind : is_some k.version ≡ true → (l : ℕ) (o : Option Wire) → slice_get s.lines l ≡ o → Comes (intake_line c k l o) → K
    intake_line_kind v l None q g = absurd cc
    intake_line_kind v l (Some w) q g = pending_kind v l w q _ _ refl refl g

    -- an order

    adopt_kind : (b : BlockNo) (parked : Bool) → HasOrder s c k (orders.Adopt b parked) → (v : Option Version) (o : Option Block) → k.version ≡ v → slice_get s.blocks b.0 ≡ o → Comes (ends (adopt_outcome c k b.0 parked v o)) → K
    adopt_kind b parked h None None vq q g = absurd cc
    adopt_kind b parked h None (Some x) vq q g = absurd cc
    adopt_kind b parked h (Some v) None vq q g = absurd cc
    adopt_kind b parked h (Some v) (Some x) vq q g = is_adopt (record { c = c; k = k; b = b; parked = parked; order_at = h; v = v; version_at = vq; x = x; block_at = q; changes_are = changes_same _ _ g })

    release_kind : (b : BlockNo) → HasOrder s c k (orders.Release b) → (o : Option Block) → slice_get s.blocks b.0 ≡ o → Comes (ends (release_outcome c k b.0 o)) → K
    release_kind b h None q g = absurd cc
    release_kind b h (Some x) q g = is_release (record { c = c; k = k; b = b; order_at = h; x = x; block_at = q; changes_are = changes_same _ _ g })

    carried_kind : (o : Order) → HasOrder s c k o → Comes (carry_out c k o) → K
    unfolding carry_out
    carried_kind (orders.Start v) h g = is_start (record { c = c; k = k; v = v; order_at = h; changes_are = changes_same _ _ g })
    carried_kind orders.Stop h g = is_stop (record { c = c; k = k; order_at = h; changes_are = changes_same _ _ g })
    carried_kind (orders.Replace v) h g = is_replace (record { c = c; k = k; v = v; order_at = h; changes_are = changes_same _ _ g })
    carried_kind (orders.Adopt b parked) h g = adopt_kind b parked h _ _ refl refl g
    carried_kind (orders.Release b) h g = release_kind b h _ refl g

    order_kind : (o : Option Mailbox) → slice_get s.mailboxes c ≡ o → Comes (order_turn c k o) → K
    order_kind (Some (order o)) q g = carried_kind o (record { core_at = core_at; mailbox_at = q }) g
    order_kind m q g = absurd cc

  -- the script

  module _ (command : Command) (stands : StandsAt s.script (script.Boot command)) where
    done_kind : (before : List Change) → Before s command before → (o : Option (ℕ × Order)) → slice_get (boot.orders s.script.registry command) s.script.posts ≡ o →
        Comes (post_or_done s.script command before o) → K
    done_kind before bq None q g = is_done (record { command = command; stands = stands; before = before; before_at = bq; no_order = q; changes_are = changes_same _ _ g })
    done_kind before bq (Some o) q g = is_post (record { command = command; stands = stands; before = before; before_at = bq; o = o; order_at = q; changes_are = changes_same _ _ g })

    begin_kind : s.script.posts ≡ 0 → (o : Option Refusal) → refusal s.script.registry command ≡ o → Comes (begin s.script command o) → K
    begin_kind z None q g = done_kind [] (first_post z q refl) _ (ap (slice_get (boot.orders s.script.registry command)) z) g
    begin_kind z (Some r) q g = is_refused (record { command = command; stands = stands; posts_at = z; r = r; refusal_at = q; changes_are = changes_same _ _ g })

    ack_kind : (last : ℕ) (p : ℕ × Order) → s.script.posts ≡ suc last → slice_get (boot.orders s.script.registry command) last ≡ Some p → (o : Option Mailbox) → slice_get s.mailboxes p.0 ≡ o →
        Comes (with_ack s.script command p.0 o) → K
    ack_kind last p z q (Some ack) m g = done_kind (mailbox_becomes p.0 empty ∷ []) (next_post last p z q m refl) _ refl g
    ack_kind last p z q o m g = absurd cc

    go_on_kind : (last : ℕ) → s.script.posts ≡ suc last → (o : Option (ℕ × Order)) → slice_get (boot.orders s.script.registry command) last ≡ o → Comes (go_on_from s.script command o) → K
    go_on_kind last z None q g = absurd cc
    go_on_kind last z (Some p) q g = ack_kind last p z q _ refl g

    boot_kind : (n : ℕ) → s.script.posts ≡ n → Comes (boot_turn s.script command n) → K
    boot_kind zero z g = begin_kind z _ refl g
    boot_kind (suc last) z g = go_on_kind last z _ refl g

  route_kind : (l : LineNo) (c : CoreNo) → StandsAt s.script (script.Route l c) → (o : Option Wire) → slice_get s.lines l.0 ≡ o → Comes (ends (route_line s.script l c o)) → K
  route_kind l c h None q g = absurd cc
  route_kind l c h (Some w) q g = is_route (record { l = l; c = c; stands = h; w = w; line_at = q; changes_are = changes_same _ _ g })

  await_kind : (polls : ℕ) (b : BlockNo) (words limit : ℕ) → StandsAt s.script (script.Await b words limit) → (o : Option (List ℕ)) → Comes (ends (await_outcome s.script polls b words limit o)) → K
  await_kind polls b words limit h None g = absurd cc
  await_kind polls b words limit h (Some ws) g =
      by_outcome (nat_le words (length ws)) (did (script_becomes (at_next_command s.script) ∷ []) (by_script (what.Met s.script.place b (length ws)))) (if nat_lt (polls + 1) limit then (not_enabled (reason.Few (length ws) (polls + 1))) else (did (script_becomes (at_next_command s.script) ∷ []) (by_script (what.Unmet s.script.place b (length ws))))) g
      (λ f g. is_awaited (record { b = b; words = words; limit = limit; stands = h; changes_are = changes_same _ _ g }))
      (λ f g. by_outcome (nat_lt (polls + 1) limit) (not_enabled (reason.Few (length ws) (polls + 1))) (did (script_becomes (at_next_command s.script) ∷ []) (by_script (what.Unmet s.script.place b (length ws)))) g (λ f g. no_entry (reason.Few (length ws) (polls + 1)) g)
      (λ f g. is_awaited (record { b = b; words = words; limit = limit; stands = h; changes_are = changes_same _ _ g })))

  command_kind : (polls : ℕ) → raise_above s.script.place (next_raise s.script.lines s.script.raises) ≡ None → (o : Option ScriptLine) → slice_get s.script.lines s.script.place ≡ o → Comes (command_turn s.script polls o) → K
  command_kind polls r None q g = absurd cc
  command_kind polls r (Some (script.Boot command)) q g = boot_kind command (record { line_at = q; raises = r }) _ refl g
  command_kind polls r (Some (script.Route l c)) q g = route_kind l c (record { line_at = q; raises = r }) _ refl g
  command_kind polls r (Some (script.Await b words limit)) q g = await_kind polls b words limit (record { line_at = q; raises = r }) (slice_get s.consoles b.0) g
  command_kind polls r (Some (script.Raise l)) q g = absurd cc

  raises_kind : (polls : ℕ) → (o : Option ℕ) → raise_above s.script.place (next_raise s.script.lines s.script.raises) ≡ o → Comes (after_raises o (command_turn s.script polls (slice_get s.script.lines s.script.place))) → K
  raises_kind polls None r g = command_kind polls r _ refl g
  raises_kind polls (Some q) r g = absurd cc

  script_kind : (polls : ℕ) → Comes (script_turn s.script polls) → K
  script_kind polls g =
      by_if (s.script.place == length s.script.lines) (ends (not_enabled reason.ScriptEnded)) (after_raises (raise_above s.script.place (next_raise s.script.lines s.script.raises)) (command_turn s.script polls (slice_get s.script.lines s.script.place))) g (λ u g. no_entry reason.ScriptEnded g) (λ u g. raises_kind polls _ refl g)

  raise_on_kind : (q : ℕ) (l : LineNo) → next_raise s.script.lines s.script.raises ≡ Some q → nat_lt (first_unbegun s.script) q ≡ false → slice_get s.script.lines q ≡ Some (script.Raise l) →
      (o : Option Wire) → slice_get s.lines l.0 ≡ o → Comes (ends (raise_on s.script q l o)) → K
  raise_on_kind q l n f r None h g = absurd cc
  raise_on_kind q l n f r (Some w) h g = is_raise (record { q = q; l = l; next_at = n; begun = f; raise_at = r; w = w; line_at = h; changes_are = changes_same _ _ g })

  raise_line_kind : (q : ℕ) → next_raise s.script.lines s.script.raises ≡ Some q → nat_lt (first_unbegun s.script) q ≡ false → (o : Option ScriptLine) → slice_get s.script.lines q ≡ o → Comes (raise_line s.script q o) → K
  raise_line_kind q n f (Some (script.Raise l)) r g = raise_on_kind q l n f r _ refl g
  raise_line_kind q n f o r g = absurd cc

  raise_kind : (o : Option ℕ) → next_raise s.script.lines s.script.raises ≡ o → Comes (raise_turn s.script o) → K
  raise_kind None n g = absurd cc
  raise_kind (Some q) n g = by_if (nat_lt (first_unbegun s.script) q) (ends (not_enabled reason.CommandFirst)) (raise_line s.script q (slice_get s.script.lines q)) g (λ f g. no_entry reason.CommandFirst g) (λ f g. raise_line_kind q n f _ refl g)

  -- every action

  number_same : (b : ℕ) (more : Bool) → ((b == b) || more) ≡ true
  number_same b more = ap (λ t. t || more) (same_is b)

  found_by : (p : Looked → Bool) (share : List Member) (b : ℕ) (l : Looked) → (find p (map (looked_at s.blocks) (share_blocks share)) ≡ Some l → (has share l.number ≡ true) × (slice_get s.blocks l.number ≡ l.found)) →
      (here : Bool) → (if here then Some (looked_at s.blocks b) else find p (map (looked_at s.blocks) (share_blocks share))) ≡ Some l → (((b == l.number) || has share l.number) ≡ true) × (slice_get s.blocks l.number ≡ l.found)
  found_by p share b l more true e =
      let one : looked_at s.blocks b ≡ l = cc in
      (subst (λ (m : Looked). ((b == m.number) || has share m.number) ≡ true) one (number_same b (has share b)), subst (λ (m : Looked). slice_get s.blocks m.number ≡ m.found) one refl)
  found_by p share b l more false e = (ap (λ t. (b == l.number) || t) (more e).0 ∙ or-true (b == l.number), (more e).1)

  -- the block that is found is of the share
  pub found : (p : Looked → Bool) (share : List Member) (l : Looked) → find p (map (looked_at s.blocks) (share_blocks share)) ≡ Some l → (has share l.number ≡ true) × (slice_get s.blocks l.number ≡ l.found)
  found p [] l e = absurd cc
  found p (m ∷ ms) l e = found_by p ms m.block l (λ h. found p ms l h) (p (looked_at s.blocks m.block)) e

  action_kind : (c : ℕ) (k : Core) → slice_get s.cores c ≡ Some k → (a : Action) → Comes (core_action c k a) → K
  action_kind c k h action.Step g = step_kind c k h (found (is_runnable k.clock) k.share) g
  action_kind c k h action.Order g = order_kind c k h _ refl g
  action_kind c k h (action.Intake l) g = by_version k.version (look_line l.0 (intake_line c k l.0)) g (λ v g. intake_line_kind c k h v l.0 _ refl g)
  action_kind c k h (action.Wake b d) g = wake_kind c k h b.0 d.0 g
  action_kind c k h action.Script g = no_entry reason.ScriptEnded g
  action_kind c k h action.Raise g = no_entry reason.NoRaise g

  core_kind : (c : ℕ) (a : Action) (o : Option Core) → slice_get s.cores c ≡ o → Comes (core_turn c a o) → K
  core_kind c a None q g = no_entry reason.CoreOff g
  core_kind c a (Some k) q g = action_kind c k q a g

  -- an entry is of one of these kinds
  pub kind_of : (polls : Script → ℕ) (who : Actor) (a : Action) → Comes (turn_of polls who a) → K
  unfolding turn_of
  kind_of polls (actor.Core c) a g = core_kind c.0 a _ refl g
  kind_of polls actor.Script action.Script g = script_kind (polls s.script) g
  kind_of polls actor.Script action.Raise g = raise_kind _ refl g
  kind_of polls actor.Script a g = no_entry reason.ScriptEnded g

pub core_step-kind : (s : State) (polls : ℕ) (who : Actor) (a : Action) (chs : List Change) (e : Entry) → core_step s polls who a ≡ did chs e → Kind s chs e
unfolding core_step
core_step-kind s polls who a chs e g = kind_of s chs e (λ t. polls) who a g
