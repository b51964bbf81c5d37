-- What an entry of a core does to the counts.
use Rattle.dc_base.specs.NeedsHere.{need_here}
use Rattle.std.proofs.Common.{◌≡◌, ℕ, ◌+◌, ◌≤◌, Bool, true, false, List, [], ◌∷◌, ◌++◌, Option, Some, None, refl, ap, subst, ◌∙◌, inl, inr, is_some, arith, length, map}
use Rattle.std.specs.Prelude.{⊤, slice_get, slice_set, nat_lt, ◌==◌, find, if◌then◌else◌}
use Rattle.std.specs.Option.{option_map, option_map_or}
use Rattle.std.proofs.lemmas.Option.{slice_get_within}
use Rattle.dc_base.specs.declared.calls.Need.{Need}
use Rattle.dc_base.specs.declared.calls.Need.TheVariants as needs
use Rattle.dc_base.specs.declared.actions.Action.{Action}
use Rattle.dc_base.specs.declared.actions.Action.TheVariants as action
use Rattle.dc_base.specs.declared.commands.Order.{Order}
use Rattle.dc_base.specs.declared.commands.Order.TheVariants as orders
use Rattle.dc_base.specs.declared.dispatchers.DispState.{DispState}
use Rattle.dc_base.specs.declared.dispatchers.DispState.TheVariants as disp
use Rattle.dc_base.specs.declared.dispatchers.Wait.TheVariants as wait
use Rattle.dc_base.specs.declared.interrupts.Latched.{Latched}
use Rattle.dc_base.specs.declared.interrupts.Latched.TheVariants as how
use Rattle.dc_base.specs.declared.kernels.Version.{Version}
use Rattle.dc_base.specs.declared.entries.Reason.TheVariants as reason
use Rattle.dc_base.specs.Bounded.{budget}
use Rattle.dc_base.specs.Changes.{Change, core_becomes, block_becomes, channel_becomes, line_becomes, mailbox_becomes, console_becomes, script_becomes, changed, apply}
use Rattle.dc_base.specs.Channels.{Ring, is_full}
use Rattle.dc_base.specs.Cores.{core_action, core_turn}
use Rattle.dc_base.specs.Firing.{Fired, fire_all}
use Rattle.dc_base.specs.IdleTurns.{next_due, idle_outcome}
use Rattle.dc_base.specs.Intakes.{intake_outcome, intake_pending, intake_line}
use Rattle.dc_base.specs.Lines.{Wire, wire_after_intake}
use Rattle.dc_base.specs.NeededLooks.{look_outside, outside_change}
use Rattle.dc_base.specs.Orders.{change_all, block_at_rest, block_under, adopted_time, adopt_outcome, release_outcome, carry_out, order_turn}
use Rattle.dc_base.specs.Outcomes.{share_blocks, share_without, has, if_on, if_here}
use Rattle.dc_base.specs.Policies.{pick}
use Rattle.dc_base.specs.Ports.{how_latched, latch_at}
use Rattle.dc_base.specs.Serving.{Outside, console_outside, channel_outside, line_outside}
use Rattle.dc_base.specs.Slices.{Halfway, stopped, stands, halfway, need_of, slice_end, without_ready}
use Rattle.dc_base.specs.SliceTurns.{core_after_slice, slice_outcome, finish_slice, slice_picked, slice_from, slice_turn}
use Rattle.dc_base.specs.States.{State, Core, Block, with_control, Mailbox, order, ack, Whereabouts, rest, on, time_on, time_at, place_on}
use Rattle.dc_base.specs.Steps.{is_runnable, step_on, step_turn}
use Rattle.dc_base.specs.Turns.{Outcome, did, not_enabled, spent, Looked, Turn, ends, look_blocks, look_block, look_line, looked_at, outcome}
use Rattle.dc_base.specs.Wakes.{after_wake, wake_sender, wake_receiver, wake_waiting, wake_in, wake_turn}
use Rattle.dc_base.specs.Words.{is_number}
use Rattle.dc_block_sound.proofs.Elements.{same_or_not, set_here, set_other}
use Rattle.dc_block_sound.proofs.OutsideAt.{outside_at}
use Rattle.dc_sound.proofs.Budgets.{used-set}
use Rattle.dc_sound.proofs.CoresAfter.{outside_cores}
use Rattle.dc_sound.proofs.Lengths.{same_lengths}
use Rattle.dc_sound.proofs.Rules.{Rule, no_rule, Obeys, kept}
use Rattle.dc_sound.proofs.SliceFacts.{HalfLaws, fine_here}
use Rattle.dc_counts.proofs.Counted.{bit, set_count, none_more}
use Rattle.dc_counts.proofs.Tallies.{used_at, is_order, orders_in, has_pending, pending_in, CoreMade}

-- what a turn of core c comes to
abbrev pub Comes_at : State → ℕ → Outcome → Type 0
Comes_at s c (did chs e) = CoreMade c s (apply s chs)
Comes_at s c (not_enabled why) = ⊤
Comes_at s c spent = ⊤

abbrev pub Comes_of : State → ℕ → Turn → Type 0
Comes_of s c t = Comes_at s c (outcome s t)

-- changes of blocks alone

abbrev AreBlocks : List Change → Type 0
AreBlocks [] = ⊤
AreBlocks (block_becomes b x ∷ chs) = AreBlocks chs
AreBlocks (ch ∷ chs) = ⊥

record SameBut (s u : State) : Type 0 where
  pub cores : u.cores ≡ s.cores
  pub lines : u.lines ≡ s.lines
  pub mailboxes : u.mailboxes ≡ s.mailboxes
  pub script : u.script ≡ s.script

blocks_alone : (chs : List Change) (s : State) → AreBlocks chs → SameBut s (apply s chs)
blocks_alone [] s h = record { cores = refl; lines = refl; mailboxes = refl; script = refl }
blocks_alone (block_becomes b x ∷ chs) s h = let more = blocks_alone chs (changed (block_becomes b x) s) h in record { cores = more.cores; lines = more.lines; mailboxes = more.mailboxes; script = more.script }
blocks_alone (core_becomes c k ∷ chs) s h = absurd h
blocks_alone (channel_becomes x r ∷ chs) s h = absurd h
blocks_alone (line_becomes l w ∷ chs) s h = absurd h
blocks_alone (mailbox_becomes c m ∷ chs) s h = absurd h
blocks_alone (console_becomes b ws ∷ chs) s h = absurd h
blocks_alone (script_becomes t ∷ chs) s h = absurd h

found_alone : (f : Block → Block) (b : ℕ) (o : Option Block) (more : List Change) → AreBlocks more → AreBlocks (option_map_or (λ x. block_becomes b (f x) ∷ more) o more)
found_alone f b None more h = h
found_alone f b (Some x) more h = h

all_alone : (f : Block → Block) (ls : List Looked) → AreBlocks (change_all f ls)
all_alone f [] = tt
all_alone f (l ∷ ls) = found_alone f l.number l.found (change_all f ls) (all_alone f ls)

-- the object that a call needed is no mailbox, and not the script

outside_mailboxes : (b : ℕ) (w : Need) (out : Outside) (u : State) → (apply u (outside_change b w out)).mailboxes ≡ u.mailboxes
unfolding outside_change
outside_mailboxes b needs.Console (console_outside ws) u = refl
outside_mailboxes b (needs.Channel x) (channel_outside r) u = refl
outside_mailboxes b (needs.Line l) (line_outside v) u = refl
outside_mailboxes b w out u = refl

outside_script : (b : ℕ) (w : Need) (out : Outside) (u : State) → (apply u (outside_change b w out)).script ≡ u.script
unfolding outside_change
outside_script b needs.Console (console_outside ws) u = refl
outside_script b (needs.Channel x) (channel_outside r) u = refl
outside_script b (needs.Line l) (line_outside v) u = refl
outside_script b w out u = refl

taken_in : (w : Wire) (l : Latched) → has_pending (wire_after_intake l w) ≡ false
unfolding wire_after_intake
taken_in w how.Latched = refl
taken_in w how.Coalesced = refl

module _ (s : State) (c : ℕ) (k : Core) (core_at : slice_get s.cores c ≡ Some k) where
  abbrev Makes : Outcome → Type 0
  Makes o = Comes_at s c o

  abbrev Comes : Turn → Type 0
  Comes t = Makes (outcome s t)

  by_if : (b : Bool) (t u : Turn) → Comes t → Comes u → Comes (if b then t else u)
  by_if true t u f g = f
  by_if false t u f g = g

  by_outcome : (b : Bool) (o u : Outcome) → Makes o → Makes u → Makes (if b then o else u)
  by_outcome true o u f g = f
  by_outcome false o u f g = g

  by_version : (o : Option Version) (t : Turn) → Comes t → Comes (if_on o t)
  by_version None t f = tt
  by_version (Some v) t f = f

  abbrev used_of : Option Core → ℕ
  used_of o = option_map_or (λ (x : Core). x.used) o 0

  -- the core's used budget grows by n, and no other changes

  module _ (u : State) (new : Core) (n : ℕ) (cores : u.cores ≡ slice_set s.cores c new) (more : new.used ≡ k.used + n) where
    own_used : used_at u c ≡ used_at s c + n
    own_used =
        let after : used_at u c ≡ new.used = ap (λ cs. used_of (slice_get cs c)) cores ∙ ap used_of (set_here s.cores c k new core_at) in
        let before : used_at s c ≡ k.used = ap used_of core_at in
        omega (arith, after, before, more)

    used_more : (d : ℕ) → used_at s d ≤ used_at u d
    used_more d = elim (same_or_not c d) [
      | inl same ↦ let own = own_used in subst (λ m. used_at s m ≤ used_at u m) same (omega (arith, own))
      | inr other ↦ let kept : used_at u d ≡ used_at s d = ap (λ cs. used_of (slice_get cs d)) cores ∙ ap used_of (set_other s.cores c d new other) in omega (arith, kept)
    ]

    whole_budget : budget u ≡ budget s + n
    whole_budget = ap (λ cs. budget (record s { cores = cs })) cores ∙ used-set s.cores c k new n core_at more

  -- the core used budget, and no mailbox changed and no raise became pending

  spent_made : (u : State) (new : Core) → u.cores ≡ slice_set s.cores c new → new.used ≡ k.used + 1 → u.mailboxes ≡ s.mailboxes → pending_in u ≤ pending_in s → u.script ≡ s.script → CoreMade c s u
  spent_made u new cores more mailboxes pending script =
      let own = own_used u new 1 cores more in
      let whole = whole_budget u new 1 cores more in
      let same : orders_in u ≡ orders_in s = ap (λ ms. orders_in (record s { mailboxes = ms })) mailboxes in
      record {
        core = slice_get_within s.cores c k core_at;
        used = used_more u new 1 cores more;
        orders = omega (arith, same);
        pending = pending;
        one = omega (arith, own, same, pending);
        all = omega (arith, whole, same, pending);
        script = script;
      }

  -- the pending raises of each line, by its number
  abbrev no_more : Rule
  no_more = record no_rule { line = λ l w. bit (has_pending w) ≤ option_map_or (λ x. bit (has_pending x)) (slice_get s.lines l) 0 }

  as_before : (l : ℕ) (w : Wire) → slice_get s.lines l ≡ Some w → bit (has_pending w) ≤ option_map_or (λ x. bit (has_pending x)) (slice_get s.lines l) 0
  as_before l w at = let same = ap (λ o. option_map_or (λ (x : Wire). bit (has_pending x)) o 0) at in omega (arith, same)

  obeyed : Obeys no_more s
  obeyed = record { cores = λ d x at. tt; blocks = λ b x at. tt; channels = λ x r at. tt; lines = as_before; mailboxes = λ d m at. tt; consoles = λ b ws at. tt; script = tt }

  call_laws : (b : ℕ) (h : Halfway) → HalfLaws no_more s c b h
  call_laws b (stopped x ran e) = tt
  call_laws b (stands x ran o call) = record {
    prints_to = λ w p ws q h i. tt;
    sends_to = λ x m p r new q h i. tt;
    takes_from = λ x a p r got q h i. tt;
    binds_to = λ l n q w g h. as_before l w h;
    gives_over = λ l x rights q w g h. as_before l w h;
    claims_it = λ l x slot rights q w g h i. as_before l w h;
  }

  -- a slice

  sliced : (b : ℕ) (x : Block) (v : Version) (d count : ℕ) (h : Halfway) → Makes (slice_outcome c k b x d count (slice_end c b v d h (outside_at s b (need_here k.settings (need_of h)))))
  sliced b x v d count h =
      let sl = slice_end c b v d h (outside_at s b (need_here k.settings (need_of h))) in
      let new = core_after_slice k b (k.clock + sl.advance) in
      let chs = core_becomes c new ∷ block_becomes b (with_control sl.control x) ∷ outside_change b sl.need sl.outside in
      let u = apply s chs in
      let keeps = kept no_more chs s (tt, (tt, fine_here no_more s obeyed k.settings c b v d h (call_laws b h))) obeyed in
      spent_made u new (outside_cores b sl.need sl.outside _) refl (outside_mailboxes b sl.need sl.outside _) (none_more has_pending u.lines s.lines (same_lengths chs s).lines keeps.lines) (outside_script b sl.need sl.outside _)

  outside_comes : (b : ℕ) (n : Need) (next : Outside → Turn) → Comes (next (outside_at s b n)) → Comes (look_outside b n next)
  unfolding look_outside
  outside_comes b needs.Nothing next h = h
  outside_comes b needs.Console next h = h
  outside_comes b (needs.Channel x) next h = h
  outside_comes b (needs.Line l) next h = h

  finish_comes : (b : ℕ) (x : Block) (v : Version) (d count : ℕ) (o : Option Halfway) → Comes (finish_slice c k b x v d count o)
  finish_comes b x v d count None = tt
  finish_comes b x v d count (Some h) = outside_comes b (need_here k.settings (need_of h)) (λ out. ends (slice_outcome c k b x d count (slice_end c b v d h out))) (sliced b x v d count h)

  picked_comes : (b : ℕ) (x : Block) (time : ℕ) (v : Version) (f : Fired) (o : Option ℕ) → Comes (slice_picked c k b x time v f o)
  picked_comes b x time v f None = spent_made _ (core_after_slice k b (k.clock + 1)) refl refl refl (omega arith) refl
  picked_comes b x time v f (Some d) = finish_comes b x v d f.count (halfway k.settings.quantum time (without_ready d f.control) d)

  from_comes : (b : ℕ) (x : Block) (w : Whereabouts) → Comes (slice_from c k b x w)
  from_comes b x (rest kept) = tt
  from_comes b x (on home offset v) =
      let fired = fire_all (time_on k.clock offset) x.control in
      picked_comes b x (time_on k.clock offset) v fired (pick v fired.control.dues fired.control.ready)

  slice_comes : (b : ℕ) (o : Option Block) → Comes (slice_turn c k b o)
  unfolding slice_turn
  slice_comes b None = tt
  slice_comes b (Some x) = from_comes b x x.whereabouts

  idle_comes : (o : Option ℕ) → Comes (ends (idle_outcome c k o))
  unfolding idle_outcome
  idle_comes None = tt
  idle_comes (Some clock) = spent_made _ _ refl refl refl (omega arith) refl

  on_comes : (share : List Looked) (o : Option Looked) → Comes (step_on c k share o)
  on_comes share None = idle_comes (next_due share)
  on_comes share (Some l) = slice_comes l.number l.found

  step_comes : Comes (step_turn c k)
  step_comes =
      let looks = look_blocks (share_blocks k.share) (λ share. step_on c k share (find (is_runnable k.clock) share)) in
      let share = map (looked_at s.blocks) (share_blocks k.share) in
      by_if (k.used == k.settings.slices) (ends spent) (if_on k.version looks) tt (by_version k.version looks (on_comes share (find (is_runnable k.clock) share)))

  -- a wake

  woken : (b d : ℕ) (x : Block) → Makes (after_wake c k b d x)
  woken b d x = spent_made _ _ refl refl refl (omega arith) refl

  sender_comes : (b d : ℕ) (x : Block) (o : Option Ring) → Makes (wake_sender c k b d x o)
  sender_comes b d x None = tt
  sender_comes b d x (Some r) = by_outcome (is_full r) (not_enabled reason.StillWaits) (after_wake c k b d x) tt (woken b d x)

  receiver_comes : (b d : ℕ) (x : Block) (o : Option Ring) → Makes (wake_receiver c k b d x o)
  receiver_comes b d x None = tt
  receiver_comes b d x (Some r) = by_outcome (nat_lt 0 (length r.untaken)) (after_wake c k b d x) (not_enabled reason.StillWaits) (woken b d x) tt

  waiting_comes : (b d : ℕ) (x : Block) (o : Option DispState) → Comes (wake_waiting c k b d x o)
  waiting_comes b d x (Some (disp.Waits (wait.Csend y))) = sender_comes b d x (slice_get s.channels y.0)
  waiting_comes b d x (Some (disp.Waits (wait.Crecv y))) = receiver_comes b d x (slice_get s.channels y.0)
  waiting_comes b d x o = tt

  wake_in_comes : (b d : ℕ) (o : Option Block) → Comes (wake_in c k b d o)
  wake_in_comes b d None = tt
  wake_in_comes b d (Some x) = waiting_comes b d x (slice_get x.control.states d)

  if_here_comes : (b : ℕ) (t : Turn) → Comes t → Comes (if_here k.share b t)
  if_here_comes b t f = by_if (has k.share b) t (ends (not_enabled (reason.NotHere (record { 0 = b })))) f tt

  wake_comes : (b d : ℕ) → Comes (wake_turn c k b d)
  wake_comes b d =
      let looks = look_block b (wake_in c k b d) in
      by_if (k.used == k.settings.slices) (ends spent) (if_on k.version (if_here k.share b looks)) tt (by_version k.version (if_here k.share b looks) (if_here_comes b looks (wake_in_comes b d (slice_get s.blocks b))))

  -- an intake

  taken : (l : ℕ) (w : Wire) (n b signal : ℕ) → slice_get s.lines l ≡ Some w → w.pending ≡ Some n → (o : Option Block) → Makes (intake_outcome c l w n b signal o)
  taken l w n b signal at pending None = tt
  taken l w n b signal at pending (Some x) =
      let how = how_latched (latch_at x.control.parts.signals signal) in
      let new = wire_after_intake how w in
      let count = set_count has_pending s.lines l w new at in
      let was : bit (has_pending w) ≡ 1 = ap (λ o. bit (is_some o)) pending in
      let is : bit (has_pending new) ≡ 0 = ap bit (taken_in w how) in
      record {
        core = slice_get_within s.cores c k core_at;
        used = λ d. omega arith;
        orders = omega arith;
        pending = omega (arith, count, was, is);
        one = omega (arith, count, was, is);
        all = omega (arith, count, was, is);
        script = refl;
      }

  pending_comes : (l : ℕ) (w : Wire) → slice_get s.lines l ≡ Some w → (o : Option (ℕ × ℕ)) (n : Option ℕ) → w.pending ≡ n → Comes (intake_pending c k l w o n)
  pending_comes l w at None n pending = tt
  pending_comes l w at (Some to) None pending = tt
  pending_comes l w at (Some to) (Some n) pending =
      let looks = look_block to.0 (λ o. ends (intake_outcome c l w n to.0 to.1 o)) in
      by_if (is_number c w.route) (if_here k.share to.0 looks) (ends (not_enabled (reason.NotRouted (option_map (λ r. record { 0 = r }) w.route))))
      (if_here_comes to.0 looks (taken l w n to.0 to.1 at pending (slice_get s.blocks to.0))) tt

  line_comes : (l : ℕ) (o : Option Wire) → slice_get s.lines l ≡ o → Comes (intake_line c k l o)
  line_comes l None at = tt
  line_comes l (Some w) at = pending_comes l w at w.bound w.pending refl

  -- an order

  module _ (o : Order) (order_at : slice_get s.mailboxes c ≡ Some (order o)) where
    carried : (new : Core) (more : List Change) → new.used ≡ k.used → AreBlocks more → CoreMade c s (apply s (core_becomes c new ∷ mailbox_becomes c ack ∷ more))
    carried new more used alone =
        let u = apply s (core_becomes c new ∷ mailbox_becomes c ack ∷ more) in
        let rest = blocks_alone more (record s { cores = slice_set s.cores c new; mailboxes = slice_set s.mailboxes c ack }) alone in
        let none : new.used ≡ k.used + 0 = omega (arith, used) in
        let own = own_used u new 0 rest.cores none in
        let whole = whole_budget u new 0 rest.cores none in
        let count = set_count is_order s.mailboxes c (order o) ack order_at in
        let orders : orders_in u ≡ orders_in (record s { mailboxes = slice_set s.mailboxes c ack }) = ap (λ ms. orders_in (record s { mailboxes = ms })) rest.mailboxes in
        let pending : pending_in u ≡ pending_in s = ap (λ ls. pending_in (record s { lines = ls })) rest.lines in
        record {
          core = slice_get_within s.cores c k core_at;
          used = used_more u new 0 rest.cores none;
          orders = omega (arith, count, orders);
          pending = omega (arith, pending);
          one = omega (arith, own, count, orders, pending);
          all = omega (arith, whole, count, orders, pending);
          script = rest.script;
        }

    adopt_comes : (b : ℕ) (parked : Bool) (v : Option Version) (x : Option Block) → Makes (adopt_outcome c k b parked v x)
    adopt_comes b parked None None = tt
    adopt_comes b parked None (Some x) = tt
    adopt_comes b parked (Some v) None = tt
    adopt_comes b parked (Some v) (Some x) =
        carried (record k { share = k.share ++ record { block = b; parked = parked } ∷ [] })
        (block_becomes b (record x { whereabouts = place_on c k.clock (adopted_time k.settings.clocks (time_at k.clock x.whereabouts) k.clock) v }) ∷ []) refl tt

    release_comes : (b : ℕ) (x : Option Block) → Makes (release_outcome c k b x)
    release_comes b None = tt
    release_comes b (Some x) = carried (record k { share = share_without b k.share }) (block_becomes b (block_at_rest k.clock x) ∷ []) refl tt

  carried_comes : (o : Order) → slice_get s.mailboxes c ≡ Some (order o) → Comes (carry_out c k o)
  unfolding carry_out
  carried_comes (orders.Start v) at = carried (orders.Start v) at (record k { version = Some v }) [] refl tt
  carried_comes orders.Stop at =
      let share = map (looked_at s.blocks) (share_blocks k.share) in
      carried orders.Stop at (record k { version = None; share = [] }) (change_all (block_at_rest k.clock) share) refl (all_alone (block_at_rest k.clock) share)
  carried_comes (orders.Replace v) at =
      let share = map (looked_at s.blocks) (share_blocks k.share) in
      carried (orders.Replace v) at (record k { version = Some v }) (change_all (block_under v) share) refl (all_alone (block_under v) share)
  carried_comes (orders.Adopt b parked) at = adopt_comes (orders.Adopt b parked) at b.0 parked k.version (slice_get s.blocks b.0)
  carried_comes (orders.Release b) at = release_comes (orders.Release b) at b.0 (slice_get s.blocks b.0)

  order_comes : (o : Option Mailbox) → slice_get s.mailboxes c ≡ o → Comes (order_turn c k o)
  order_comes (Some (order o)) at = carried_comes o at
  order_comes o at = tt

  action_comes : (a : Action) → Comes (core_action c k a)
  action_comes action.Step = step_comes
  action_comes action.Order = order_comes (slice_get s.mailboxes c) refl
  action_comes (action.Intake l) = by_version k.version (look_line l.0 (intake_line c k l.0)) (line_comes l.0 (slice_get s.lines l.0) refl)
  action_comes (action.Wake b d) = wake_comes b.0 d.0
  action_comes action.Script = tt
  action_comes action.Raise = tt

pub core_comes : (s : State) (c : ℕ) (a : Action) (o : Option Core) → slice_get s.cores c ≡ o → Comes_of s c (core_turn c a o)
core_comes s c a None at = tt
core_comes s c a (Some k) at = action_comes s c k at a
