-- An entry shows its actor and its action, and no core changes the script.
use Rattle.std.proofs.Common.{◌≡◌, ℕ, List, [], ◌∷◌, Bool, true, false, Option, Some, None, refl}
use Rattle.std.specs.Prelude.{slice_get, find, map, if◌then◌else◌}
use Rattle.std.specs.Option.{option_map, option_map_or}
use Rattle.dc_base.specs.declared.actions.Actor.TheVariants as actor
use Rattle.dc_base.specs.declared.actions.Action.{Action}
use Rattle.dc_base.specs.declared.actions.Action.TheVariants as action
use Rattle.dc_base.specs.declared.calls.Need.{Need}
use Rattle.dc_base.specs.declared.calls.Need.TheVariants as needs
use Rattle.dc_base.specs.declared.commands.Order.{Order}
use Rattle.dc_base.specs.declared.commands.Order.TheVariants as orders
use Rattle.dc_base.specs.declared.dispatchers.DispState.{DispState}
use Rattle.dc_base.specs.declared.dispatchers.DispState.TheVariants as disp
use Rattle.dc_base.specs.declared.dispatchers.Wait.TheVariants as wait
use Rattle.dc_base.specs.declared.entries.Entry.{Entry}
use Rattle.dc_base.specs.declared.entries.Reason.TheVariants as reason
use Rattle.dc_base.specs.declared.kernels.Version.{Version}
use Rattle.dc_base.specs.declared.numbers.CoreNo.{CoreNo}
use Rattle.dc_base.specs.Channels.{Ring}
use Rattle.dc_base.specs.Lines.{Wire}
use Rattle.dc_base.specs.Actions.{action_of}
use Rattle.dc_base.specs.States.{State, Core, Block, Mailbox, Script, Whereabouts, rest, on, empty, order, ack}
use Rattle.dc_base.specs.Changes.{Change, block_becomes, apply, changed}
use Rattle.dc_base.specs.Turns.{Outcome, did, not_enabled, spent, Looked, Turn, ends, look_core, look_blocks, look_block, look_channel, look_line, look_mailbox, look_console, look_script, looked_at, outcome}
use Rattle.dc_base.specs.Outcomes.{has, share_blocks, if_on, if_here}
use Rattle.dc_base.specs.Serving.{Outside, console_outside, channel_outside, line_outside}
use Rattle.dc_base.specs.Slices.{Halfway}
use Rattle.dc_base.specs.NeededLooks.{look_outside, outside_change}
use Rattle.dc_base.specs.SliceTurns.{slice_turn, slice_picked, slice_from, finish_slice}
use Rattle.dc_base.specs.IdleTurns.{next_due, idle_outcome}
use Rattle.dc_base.specs.Steps.{is_runnable, step_on}
use Rattle.dc_base.specs.Firing.{Fired}
use Rattle.dc_base.specs.Wakes.{wake_sender, wake_receiver, wake_waiting, wake_in, after_wake}
use Rattle.dc_base.specs.Intakes.{intake_outcome, intake_pending, intake_line}
use Rattle.dc_base.specs.Orders.{change_all, adopt_outcome, release_outcome, carry_out, order_turn}
use Rattle.dc_base.specs.Cores.{core_action, core_turn, turn_of, core_step}

-- what holds of every outcome of a turn
abbrev pub Always : (Outcome → Type 0) → Turn → Type 0
Always P (ends o) = P o
Always P (look_core c f) = (x : Option Core) → Always P (f x)
Always P (look_blocks bs f) = (ls : List Looked) → Always P (f ls)
Always P (look_block b f) = (x : Option Block) → Always P (f x)
Always P (look_channel x f) = (r : Option Ring) → Always P (f r)
Always P (look_line l f) = (w : Option Wire) → Always P (f w)
Always P (look_mailbox c f) = (m : Option Mailbox) → Always P (f m)
Always P (look_console b f) = (ws : Option (List ℕ)) → Always P (f ws)
Always P (look_script f) = (t : Script) → Always P (f t)

pub at_last : (P : Outcome → Type 0) (s : State) (t : Turn) → Always P t → P (outcome s t)
at_last P s (ends o) h = h
at_last P s (look_core c f) h = at_last P s (f (slice_get s.cores c)) (h (slice_get s.cores c))
at_last P s (look_blocks bs f) h = at_last P s (f (map (looked_at s.blocks) bs)) (h (map (looked_at s.blocks) bs))
at_last P s (look_block b f) h = at_last P s (f (slice_get s.blocks b)) (h (slice_get s.blocks b))
at_last P s (look_channel x f) h = at_last P s (f (slice_get s.channels x)) (h (slice_get s.channels x))
at_last P s (look_line l f) h = at_last P s (f (slice_get s.lines l)) (h (slice_get s.lines l))
at_last P s (look_mailbox c f) h = at_last P s (f (slice_get s.mailboxes c)) (h (slice_get s.mailboxes c))
at_last P s (look_console b f) h = at_last P s (f (slice_get s.consoles b)) (h (slice_get s.consoles b))
at_last P s (look_script f) h = at_last P s (f s.script) (h s.script)

-- an entry of core c by this action, which leaves the script as it is
pub record IsMine (c : ℕ) (a : Action) (changes : List Change) (e : Entry) : Type 0 where
  pub by : e.actor ≡ actor.Core (record { 0 = c })
  pub shown : action_of e.what ≡ a
  pub script : (s : State) → (apply s changes).script ≡ s.script

abbrev pub Mine : ℕ → Action → Outcome → Type 0
Mine c a (did changes e) = IsMine c a changes e
Mine c a (not_enabled why) = Unit {0}
Mine c a spent = Unit {0}

abbrev AlwaysMine : ℕ → Action → Turn → Type 0
AlwaysMine c a t = Always (Mine c a) t

outside_keeps : (b : ℕ) (n : Need) (out : Outside) (s : State) → (apply s (outside_change b n out)).script ≡ s.script
unfolding outside_change
outside_keeps b needs.Console (console_outside ws) s = refl
outside_keeps b (needs.Channel x) (channel_outside r) s = refl
outside_keeps b (needs.Line l) (line_outside w) s = refl
outside_keeps b n out s = refl

all_keep : (f : Block → Block) (ls : List Looked) (s : State) → (apply s (change_all f ls)).script ≡ s.script
all_keep f [] s = refl
all_keep f (l ∷ ls) s = one l.found (λ m. all_keep f ls m)
  where
    one : (o : Option Block) → ((m : State) → (apply m (change_all f ls)).script ≡ m.script) → (apply s (option_map_or (λ x. block_becomes l.number (f x) ∷ change_all f ls) o (change_all f ls))).script ≡ s.script
    one None more = more s
    one (Some x) more = more (changed (block_becomes l.number (f x)) s)

on_by : (c : ℕ) (a : Action) (v : Option Version) (t : Turn) → AlwaysMine c a t → AlwaysMine c a (if_on v t)
on_by c a None t h = tt
on_by c a (Some v) t h = h

here_by : (c : ℕ) (a : Action) (b : ℕ) (t : Turn) → AlwaysMine c a t → (f : Bool) → AlwaysMine c a (if f then t else ends (not_enabled (reason.NotHere (record { 0 = b }))))
here_by c a b t h true = h
here_by c a b t h false = tt

-- a step
outside_by : (c b : ℕ) (n : Need) (f : Outside → Outcome) → ((out : Outside) → Mine c action.Step (f out)) → AlwaysMine c action.Step (look_outside b n (λ out. ends (f out)))
unfolding look_outside
outside_by c b needs.Nothing f h = h _
outside_by c b needs.Console f h = λ o. h _
outside_by c b (needs.Channel x) f h = λ o. h _
outside_by c b (needs.Line l) f h = λ o. h _

slice_by_half : (c : ℕ) (k : Core) (b : ℕ) (x : Block) (v : Version) (d count : ℕ) (h : Option Halfway) → AlwaysMine c action.Step (finish_slice c k b x v d count h)
slice_by_half c k b x v d count None = tt
slice_by_half c k b x v d count (Some h) = outside_by c b _ _ (λ out. record { by = refl; shown = refl; script = λ s. outside_keeps _ _ _ _ })

slice_by_pick : (c : ℕ) (k : Core) (b : ℕ) (x : Block) (time : ℕ) (v : Version) (f : Fired) (o : Option ℕ) → AlwaysMine c action.Step (slice_picked c k b x time v f o)
slice_by_pick c k b x time v f None = record { by = refl; shown = refl; script = λ s. refl }
slice_by_pick c k b x time v f (Some d) = slice_by_half c k b x v d f.count _

slice_by_place : (c : ℕ) (k : Core) (b : ℕ) (x : Block) (w : Whereabouts) → AlwaysMine c action.Step (slice_from c k b x w)
slice_by_place c k b x (rest kept) = tt
slice_by_place c k b x (on d z v) = slice_by_pick c k b x _ v _ _

slice_mine : (c : ℕ) (k : Core) (b : ℕ) (o : Option Block) → AlwaysMine c action.Step (slice_turn c k b o)
unfolding slice_turn
slice_mine c k b None = tt
slice_mine c k b (Some x) = slice_by_place c k b x x.whereabouts

idle_mine : (c : ℕ) (k : Core) (o : Option ℕ) → Mine c action.Step (idle_outcome c k o)
unfolding idle_outcome
idle_mine c k None = tt
idle_mine c k (Some clock) = record { by = refl; shown = refl; script = λ s. refl }

step_on_mine : (c : ℕ) (k : Core) (share : List Looked) (o : Option Looked) → AlwaysMine c action.Step (step_on c k share o)
step_on_mine c k share None = idle_mine c k (next_due share)
step_on_mine c k share (Some l) = slice_mine c k l.number l.found

step_mine : (c : ℕ) (k : Core) (f : Bool) → AlwaysMine c action.Step (if f then ends spent else if_on k.version (look_blocks (share_blocks k.share) (λ share. step_on c k share (find (is_runnable k.clock) share))))
step_mine c k true = tt
step_mine c k false = on_by c action.Step k.version _ (λ ls. step_on_mine c k ls (find (is_runnable k.clock) ls))

-- a wake
woken_by : (c : ℕ) (k : Core) (b d : ℕ) (x : Block) (f : Bool) → Mine c (action.Wake (record { 0 = b }) (record { 0 = d })) (if f then not_enabled reason.StillWaits else after_wake c k b d x)
woken_by c k b d x true = tt
woken_by c k b d x false = record { by = refl; shown = refl; script = λ s. refl }

woken_when : (c : ℕ) (k : Core) (b d : ℕ) (x : Block) (f : Bool) → Mine c (action.Wake (record { 0 = b }) (record { 0 = d })) (if f then after_wake c k b d x else not_enabled reason.StillWaits)
woken_when c k b d x true = record { by = refl; shown = refl; script = λ s. refl }
woken_when c k b d x false = tt

sender_mine : (c : ℕ) (k : Core) (b d : ℕ) (x : Block) (o : Option Ring) → Mine c (action.Wake (record { 0 = b }) (record { 0 = d })) (wake_sender c k b d x o)
sender_mine c k b d x None = tt
sender_mine c k b d x (Some r) = woken_by c k b d x _

receiver_mine : (c : ℕ) (k : Core) (b d : ℕ) (x : Block) (o : Option Ring) → Mine c (action.Wake (record { 0 = b }) (record { 0 = d })) (wake_receiver c k b d x o)
receiver_mine c k b d x None = tt
receiver_mine c k b d x (Some r) = woken_when c k b d x _

waiting_mine : (c : ℕ) (k : Core) (b d : ℕ) (x : Block) (o : Option DispState) → AlwaysMine c (action.Wake (record { 0 = b }) (record { 0 = d })) (wake_waiting c k b d x o)
waiting_mine c k b d x None = tt
waiting_mine c k b d x (Some disp.Ready) = tt
waiting_mine c k b d x (Some disp.Halted) = tt
waiting_mine c k b d x (Some (disp.Trapped n)) = tt
waiting_mine c k b d x (Some (disp.Waits (wait.Send p))) = tt
waiting_mine c k b d x (Some (disp.Waits (wait.Recv p))) = tt
waiting_mine c k b d x (Some (disp.Waits (wait.Signal i))) = tt
waiting_mine c k b d x (Some (disp.Waits (wait.Csend y))) = λ r. sender_mine c k b d x r
waiting_mine c k b d x (Some (disp.Waits (wait.Crecv y))) = λ r. receiver_mine c k b d x r

wake_in_mine : (c : ℕ) (k : Core) (b d : ℕ) (o : Option Block) → AlwaysMine c (action.Wake (record { 0 = b }) (record { 0 = d })) (wake_in c k b d o)
wake_in_mine c k b d None = tt
wake_in_mine c k b d (Some x) = waiting_mine c k b d x (slice_get x.control.states d)

wake_mine : (c : ℕ) (k : Core) (b d : ℕ) (f : Bool) → AlwaysMine c (action.Wake (record { 0 = b }) (record { 0 = d })) (if f then ends spent else if_on k.version (if_here k.share b (look_block b (wake_in c k b d))))
wake_mine c k b d true = tt
wake_mine c k b d false = on_by c (action.Wake (record { 0 = b }) (record { 0 = d })) k.version _ (here_by c (action.Wake (record { 0 = b }) (record { 0 = d })) b _ (λ o. wake_in_mine c k b d o) (has k.share b))

-- an intake
taken_mine : (c l : ℕ) (w : Wire) (n b signal : ℕ) (o : Option Block) → Mine c (action.Intake (record { 0 = l })) (intake_outcome c l w n b signal o)
taken_mine c l w n b signal None = tt
taken_mine c l w n b signal (Some x) = record { by = refl; shown = refl; script = λ s. refl }

route_by : (c : ℕ) (k : Core) (l : ℕ) (w : Wire) (b signal n : ℕ) (f : Bool) → AlwaysMine c (action.Intake (record { 0 = l })) (if f then if_here k.share b (look_block b (λ o. ends (intake_outcome c l w n b signal o))) else ends (not_enabled (reason.NotRouted (option_map (λ r. record { 0 = r }) w.route))))
route_by c k l w b signal n true = here_by c (action.Intake (record { 0 = l })) b _ (λ o. taken_mine c l w n b signal o) (has k.share b)
route_by c k l w b signal n false = tt

pending_mine : (c : ℕ) (k : Core) (l : ℕ) (w : Wire) (o : Option (ℕ × ℕ)) (p : Option ℕ) → AlwaysMine c (action.Intake (record { 0 = l })) (intake_pending c k l w o p)
pending_mine c k l w None p = tt
pending_mine c k l w (Some to) None = tt
pending_mine c k l w (Some to) (Some n) = route_by c k l w to.0 to.1 n _

intake_line_mine : (c : ℕ) (k : Core) (l : ℕ) (o : Option Wire) → AlwaysMine c (action.Intake (record { 0 = l })) (intake_line c k l o)
intake_line_mine c k l None = tt
intake_line_mine c k l (Some w) = pending_mine c k l w w.bound w.pending

-- an order
adopt_mine : (c : ℕ) (k : Core) (b : ℕ) (parked : Bool) (v : Option Version) (o : Option Block) → Mine c action.Order (adopt_outcome c k b parked v o)
adopt_mine c k b parked None o = tt
adopt_mine c k b parked (Some v) None = tt
adopt_mine c k b parked (Some v) (Some x) = record { by = refl; shown = refl; script = λ s. refl }

release_mine : (c : ℕ) (k : Core) (b : ℕ) (o : Option Block) → Mine c action.Order (release_outcome c k b o)
release_mine c k b None = tt
release_mine c k b (Some x) = record { by = refl; shown = refl; script = λ s. refl }

carry_mine : (c : ℕ) (k : Core) (o : Order) → AlwaysMine c action.Order (carry_out c k o)
unfolding carry_out
carry_mine c k (orders.Start v) = record { by = refl; shown = refl; script = λ s. refl }
carry_mine c k orders.Stop = λ ls. record { by = refl; shown = refl; script = λ s. all_keep _ ls _ }
carry_mine c k (orders.Replace v) = λ ls. record { by = refl; shown = refl; script = λ s. all_keep _ ls _ }
carry_mine c k (orders.Adopt b parked) = λ o. adopt_mine c k b.0 parked k.version o
carry_mine c k (orders.Release b) = λ o. release_mine c k b.0 o

order_mine : (c : ℕ) (k : Core) (m : Option Mailbox) → AlwaysMine c action.Order (order_turn c k m)
order_mine c k None = tt
order_mine c k (Some empty) = tt
order_mine c k (Some ack) = tt
order_mine c k (Some (order o)) = carry_mine c k o

action_mine : (c : ℕ) (k : Core) (a : Action) → AlwaysMine c a (core_action c k a)
action_mine c k action.Step = step_mine c k _
action_mine c k action.Order = λ m. order_mine c k m
action_mine c k (action.Intake l) = on_by c (action.Intake l) k.version _ (λ o. intake_line_mine c k l.0 o)
action_mine c k (action.Wake b d) = wake_mine c k b.0 d.0 _
action_mine c k action.Script = tt
action_mine c k action.Raise = tt

core_mine : (c : ℕ) (a : Action) (o : Option Core) → AlwaysMine c a (core_turn c a o)
core_mine c a None = tt
core_mine c a (Some k) = action_mine c k a

-- what an action of a core comes to
pub core_shows : (s : State) (polls : ℕ) (c : CoreNo) (a : Action) → Mine c.0 a (core_step s polls (actor.Core c) a)
unfolding core_step turn_of
core_shows s polls c a = at_last (Mine c.0 a) s (core_turn c.0 a (slice_get s.cores c.0)) (core_mine c.0 a (slice_get s.cores c.0))
