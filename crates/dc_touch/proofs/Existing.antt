-- Each object that a turn looks at exists, where the turn makes an entry in a sound state.
use Rattle.std.proofs.Common.{◌≡◌, inl, inr, ℕ, zero, suc, ◌<◌, List, [], ◌∷◌, ◌++◌, Bool, true, false, Option, Some, None, refl, sym, ap, ◌∙◌, subst, map, length, arith}
use Rattle.std.specs.Prelude.{slice_get, if◌then◌else◌, find, nat_lt, ◌==◌, ◌||◌, IsSome, is_some, ⊤, ℤ}
use Rattle.std.specs.Option.{option_map}
use Rattle.std.proofs.lemmas.Bool.Decides.{nat_tests}
use Rattle.std.proofs.lemmas.Option.{slice_get_within}
use Rattle.dc_base.specs.declared.calls.Need.{Need}
use Rattle.dc_base.specs.declared.calls.Need.TheVariants as needs
use Rattle.dc_base.specs.declared.capabilities.CapKind.TheVariants as kind
use Rattle.dc_base.specs.declared.dispatchers.DispState.{DispState}
use Rattle.dc_base.specs.declared.dispatchers.DispState.TheVariants as disp
use Rattle.dc_base.specs.declared.dispatchers.Wait.TheVariants as wait
use Rattle.dc_base.specs.declared.actions.Actor.{Actor}
use Rattle.dc_base.specs.declared.actions.Actor.TheVariants as actor
use Rattle.dc_base.specs.declared.actions.Action.{Action}
use Rattle.dc_base.specs.declared.actions.Action.TheVariants as action
use Rattle.dc_base.specs.declared.kernels.Version.{Version}
use Rattle.dc_base.specs.declared.commands.Command.{Command}
use Rattle.dc_base.specs.declared.commands.Order.{Order}
use Rattle.dc_base.specs.declared.commands.Order.TheVariants as orders
use Rattle.dc_base.specs.declared.commands.Refusal.{Refusal}
use Rattle.dc_base.specs.declared.commands.ScriptLine.{ScriptLine}
use Rattle.dc_base.specs.declared.commands.ScriptLine.TheVariants as script
use Rattle.dc_base.specs.declared.entries.Entry.{Entry}
use Rattle.dc_base.specs.Boot as boot
use Rattle.dc_base.specs.Boot.{refusal}
use Rattle.dc_base.specs.Bounded.{CommandWithin}
use Rattle.dc_base.specs.Changes.{Name, a_block, Object, core, block, channel, wire, mailbox, console, at, Change, mailbox_becomes}
use Rattle.dc_base.specs.Commands.{post_or_done, begin, with_ack, go_on_from, boot_turn, route_line, await_outcome, command_turn, raise_above, after_raises, script_turn}
use Rattle.dc_base.specs.ControlBlocks.{ControlBlock}
use Rattle.dc_base.specs.Cores.{core_action, core_turn, turn_of}
use Rattle.dc_base.specs.Firing.{fire_all}
use Rattle.dc_base.specs.Intakes.{intake_outcome, intake_pending, intake_line}
use Rattle.dc_base.specs.Kernel.{Call, faults, waits, makes, takes, prints, sends, receives, binds, gives, claims}
use Rattle.dc_base.specs.Lines.{Wire}
use Rattle.dc_base.specs.Named.{BlockNames}
use Rattle.dc_base.specs.NeedsHere.{need_here}
use Rattle.dc_base.specs.Orders.{adopt_outcome, release_outcome, carry_out, order_turn}
use Rattle.dc_base.specs.Outcomes.{if_on, if_here, share_blocks, has}
use Rattle.dc_base.specs.Policies.{pick}
use Rattle.dc_base.specs.Raises.{raise_on, raise_line, raise_turn, first_unbegun}
use Rattle.dc_base.specs.Script.{next_raise}
use Rattle.dc_base.specs.Serving.{need, Outside}
use Rattle.dc_base.specs.Slices.{Halfway, stopped, stands, halfway, need_of, slice_end, without_ready}
use Rattle.dc_base.specs.Sound.{IsSound}
use Rattle.dc_base.specs.States.{State, Core, Block, Member, Mailbox, empty, order, ack, Script, Settings, Whereabouts, rest, on, time_on}
use Rattle.dc_base.specs.NeededLooks.{look_outside}
use Rattle.dc_base.specs.SliceTurns.{slice_outcome, finish_slice, slice_picked, slice_from, slice_turn}
use Rattle.dc_base.specs.Steps.{step_on, is_runnable}
use Rattle.dc_base.specs.CoreTouches.{needed}
use Rattle.dc_base.specs.Turns.{Outcome, did, not_enabled, spent, Looked, Turn, ends, look_block, look_blocks, looked_at, outcome, looks}
use Rattle.dc_base.specs.Wakes.{wake_sender, wake_receiver, wake_waiting, wake_in, wake_turn}
use Rattle.dc_base.specs.Histories.{Listed}
use Rattle.dc_block_sound.proofs.Calls.{CallFits}
use Rattle.dc_block_sound.proofs.ControlSteps.{kept_by}
use Rattle.dc_block_sound.proofs.Walks.{HalfFits}
use Rattle.dc_sound.proofs.BlockNaming.{keeps_names, held_names}
use Rattle.dc_sound.proofs.EntryKinds.{HasTurn, IsSlice, after_timers, outside_comes, found}
use Rattle.dc_sound.proofs.SliceWalks.{slice_half}
use Rattle.dc_refine.proofs.OrderCores.{first_core, later_core}

-- each of these objects exists
abbrev pub AllThere : State → List Name → Type 0
AllThere s [] = ⊤
AllThere s (n ∷ ns) = IsSome (at s n) × AllThere s ns

pub one_there : (s : State) (ns : List Name) (n : Name) → AllThere s ns → Listed n ns → IsSome (at s n)
one_there s [] n h l = absurd l
one_there s (m ∷ ns) n h (inl e) = subst (λ m. IsSome (at s m)) (sym e) h.0
one_there s (m ∷ ns) n h (inr l) = one_there s ns n h.1 l

some_below : {A : Type 0} (f : A → Object) (xs : List A) (i : ℕ) → i < length xs → IsSome (option_map f (slice_get xs i))
some_below f [] i h = absurd (omega (arith, h))
some_below f (x ∷ xs) zero h = refl
some_below f (x ∷ xs) (suc i) h = some_below f xs i (omega (arith, h))

no_claim : ℕ → Type 0
no_claim l = ⊥

module _ (s : State) (p : IsSound s) where
  -- what a call needs is there, where its channel is named by a capability and its line exists by the settings

  line_there : (t : Settings) → length s.lines ≡ t.lines → (l : ℕ) (test : Bool) → nat_lt l t.lines ≡ test → (b : ℕ) → AllThere s (needed b (if test then needs.Line (record { 0 = l }) else needs.Nothing))
  line_there t long l true q b = (some_below wire s.lines l (grind (arith, nat_tests, q, long)), tt)
  line_there t long l false q b = tt

  module _ (t : Settings) (long : length s.lines ≡ t.lines) (b : ℕ) (within : b < length s.consoles) where
    call_there : (d : ℕ) (y : ControlBlock) (call : Call) → BlockNames s y → CallFits s no_claim y d call → AllThere s (needed b (need_here t (need call)))
    unfolding need
    call_there d y (faults n) names f = tt
    call_there d y (waits w) names f = tt
    call_there d y (makes w q) names f = tt
    call_there d y (takes l q) names f = tt
    call_there d y (prints w q) names f = (some_below console s.consoles b within, tt)
    call_there d y (sends x m q) names f = (some_below channel s.channels x (held_names s y names (kind.SendEnd (record { 0 = x })) f.0), tt)
    call_there d y (receives x a q) names f = (some_below channel s.channels x (held_names s y names (kind.RecvEnd (record { 0 = x })) f.0), tt)
    call_there d y (binds l n q) names f = line_there t long l (nat_lt l t.lines) refl b
    call_there d y (gives l x rights q) names f = line_there t long l (nat_lt l t.lines) refl b
    call_there d y (claims l x slot q) names f = line_there t long l (nat_lt l t.lines) refl b

    half_there : (d : ℕ) (x : ControlBlock) (h : Halfway) → BlockNames s x → HalfFits s d no_claim x h → AllThere s (needed b (need_here t (need_of h)))
    half_there d x (stopped y ran e) names f = tt
    half_there d x (stands y ran o call) names f = call_there d y call (kept_by s d no_claim (BlockNames s) (keeps_names s d no_claim) x y f.0 names) f.1

  module _ (chs : List Change) (e : Entry) where
    abbrev Comes : Turn → Type 0
    Comes turn = outcome s turn ≡ did chs e

    -- what the turn looks at is there, if it makes the entry
    abbrev pub Finds : Turn → Type 0
    Finds turn = Comes turn → AllThere s (looks s turn)

    -- an object without which the turn makes no entry
    there : {A : Type 0} (f : A → Object) (o : Option A) (next : Option A → Turn) → (Comes (next None) → ⊥) → ((x : A) → o ≡ Some x → Finds (next (Some x))) → Comes (next o) → IsSome (option_map f o) × AllThere s (looks s (next o))
    there f None next fails follows g = absurd (fails g)
    there f (Some x) next fails follows g = (refl, follows x refl g)

    by_if : (test : Bool) (x y : Turn) → Finds x → Finds y → Finds (if test then x else y)
    by_if true x y h k = h
    by_if false x y h k = k

    by_version : (o : Option Version) (t : Turn) → Finds t → Finds (if_on o t)
    by_version None t h = λ g. tt
    by_version (Some v) t h = h

    blocks_there : (ms : List Member) (ns : List Name) → ((b : ℕ) → has ms b ≡ true → b < length s.blocks) → AllThere s ns → AllThere s (map a_block (share_blocks ms) ++ ns)
    blocks_there [] ns h k = k
    blocks_there (m ∷ ms) ns h k = (some_below block s.blocks m.block (h m.block (ap (λ t. t || has ms m.block) (same_number m.block))), blocks_there ms ns (λ b q. h b (later (m.block == b) q)) k)
      where
        same_number : (n : ℕ) → (n == n) ≡ true
        same_number n = grind (arith, nat_tests)

        later : (test : Bool) {more : Bool} → more ≡ true → (test || more) ≡ true
        later true q = refl
        later false q = q

    module _ (c : ℕ) (k : Core) (core_at : slice_get s.cores c ≡ Some k) where
      share_there : (b : ℕ) → has k.share b ≡ true → b < length s.blocks
      share_there b h = let x = p.placed.only c k core_at b h in slice_get_within s.blocks b x.0 x.1

      same_settings : k.settings ≡ s.script.settings
      same_settings = p.settled.same c k core_at

      lines_are : length s.lines ≡ k.settings.lines
      lines_are = p.settled.lines ∙ ap (λ (t : Settings). t.lines) (sym same_settings)

      -- a slice

      outside_there : (b : ℕ) (n : Need) (f : Outside → Outcome) → AllThere s (needed b n) → AllThere s (looks s (look_outside b n (λ out. ends (f out))))
      unfolding look_outside
      outside_there b needs.Nothing f h = h
      outside_there b needs.Console f h = h
      outside_there b (needs.Channel x) f h = h
      outside_there b (needs.Line l) f h = h

      module _ (b : ℕ) (x : Block) (turn : HasTurn s c k b x) where
        console_within : b < length s.consoles
        console_within =
            let h = slice_get_within s.blocks b x turn.block_at in
            let m = p.settled.blocks in
            let n = p.settled.consoles in
            omega (arith, h, m, n)

        module _ (home : ℕ) (offset : ℤ) (v : Version) (w : x.whereabouts ≡ on home offset v) where
          abbrev y : ControlBlock
          y = after_timers k.clock offset x.control

          finish_finds : (d : ℕ) → pick v y.dues y.ready ≡ Some d → (o : Option Halfway) → halfway k.settings.quantum (time_on k.clock offset) (without_ready d y) d ≡ o → Finds (finish_slice c k b x v d (fire_all (time_on k.clock offset) x.control).count o)
          finish_finds d picked None q g = tt
          finish_finds d picked (Some h) q g =
              let f : Outside → Outcome = λ out. slice_outcome c k b x d (fire_all (time_on k.clock offset) x.control).count (slice_end c b v d h out) in
              let n = need_here k.settings (need_of h) in
              let i : IsSlice s chs e = record { c = c; k = k; b = b; x = x; turn = turn; home = home; offset = offset; v = v; whereabouts_at = w; d = d; h = h; halfway_at = q; picked = picked; outcome_is = sym (outside_comes s chs e b n (λ out. ends (f out)) g) } in
              outside_there b n f (half_there k.settings lines_are b console_within d x.control h (p.named.blocks b x turn.block_at) (slice_half s chs e i no_claim))

          picked_finds : (o : Option ℕ) → pick v y.dues y.ready ≡ o → Finds (slice_picked c k b x (time_on k.clock offset) v (fire_all (time_on k.clock offset) x.control) o)
          picked_finds None q = λ g. tt
          picked_finds (Some d) q = finish_finds d q (halfway k.settings.quantum (time_on k.clock offset) (without_ready d y) d) refl

        from_finds : (w : Whereabouts) → x.whereabouts ≡ w → Finds (slice_from c k b x w)
        from_finds (rest kept) q = λ g. tt
        from_finds (on home offset v) q = picked_finds home offset v q (pick v (after_timers k.clock offset x.control).dues (after_timers k.clock offset x.control).ready) refl

      module _ (unspent : (k.used == k.settings.slices) ≡ false) (is_on : is_some k.version ≡ true) where
        slice_finds : (b : ℕ) → has k.share b ≡ true → (o : Option Block) → slice_get s.blocks b ≡ o → Finds (slice_turn c k b o)
        unfolding slice_turn
        slice_finds b here None q = λ g. tt
        slice_finds b here (Some x) q = from_finds b x (record { core_at = core_at; unspent = unspent; is_on = is_on; here = here; block_at = q }) x.whereabouts refl

        on_finds : (o : Option Looked) → ((l : Looked) → o ≡ Some l → (has k.share l.number ≡ true) × (slice_get s.blocks l.number ≡ l.found)) → Finds (step_on c k (map (looked_at s.blocks) (share_blocks k.share)) o)
        on_finds None h = λ g. tt
        on_finds (Some l) h = let one = h l refl in slice_finds l.number one.0 l.found one.1

        share_finds : Finds (look_blocks (share_blocks k.share) (λ share. step_on c k share (find (is_runnable k.clock) share)))
        share_finds g = blocks_there k.share _ share_there (on_finds (find (is_runnable k.clock) (map (looked_at s.blocks) (share_blocks k.share))) (found s chs e (is_runnable k.clock) k.share) g)

      abbrev share_turn : Turn
      share_turn = look_blocks (share_blocks k.share) (λ share. step_on c k share (find (is_runnable k.clock) share))

      step_by_version : (o : Option Version) → k.version ≡ o → (k.used == k.settings.slices) ≡ false → Finds (if_on o share_turn)
      step_by_version None q u = λ g. tt
      step_by_version (Some v) q u = share_finds u (ap is_some q)

      step_by_budget : (test : Bool) → (k.used == k.settings.slices) ≡ test → Finds (if test then ends spent else if_on k.version share_turn)
      step_by_budget true q = λ g. tt
      step_by_budget false q = step_by_version k.version refl q

      -- a wake

      sender_no : (b d : ℕ) (x : Block) → Comes (ends (wake_sender c k b d x None)) → ⊥
      sender_no b d x g = absurd cc

      receiver_no : (b d : ℕ) (x : Block) → Comes (ends (wake_receiver c k b d x None)) → ⊥
      receiver_no b d x g = absurd cc

      waiting_finds : (b d : ℕ) (x : Block) (o : Option DispState) → Finds (wake_waiting c k b d x o)
      waiting_finds b d x (Some (disp.Waits (wait.Csend y))) = there channel (slice_get s.channels y.0) (λ r. ends (wake_sender c k b d x r)) (sender_no b d x) (λ r q g. tt)
      waiting_finds b d x (Some (disp.Waits (wait.Crecv y))) = there channel (slice_get s.channels y.0) (λ r. ends (wake_receiver c k b d x r)) (receiver_no b d x) (λ r q g. tt)
      waiting_finds b d x o = λ g. absurd cc

      wake_in_finds : (b d : ℕ) → Finds (look_block b (wake_in c k b d))
      wake_in_finds b d = there block (slice_get s.blocks b) (wake_in c k b d) (λ g. absurd cc) (λ x q. waiting_finds b d x (slice_get x.control.states d))

      wake_finds : (b d : ℕ) → Finds (wake_turn c k b d)
      wake_finds b d =
          by_if (k.used == k.settings.slices) (ends spent) (if_on k.version (if_here k.share b (look_block b (wake_in c k b d)))) (λ g. tt)
          (by_version k.version (if_here k.share b (look_block b (wake_in c k b d))) (by_if (has k.share b) (look_block b (wake_in c k b d)) (ends (not_enabled _)) (wake_in_finds b d) (λ g. tt)))

      -- an intake

      pending_finds : (l : ℕ) (w : Wire) (to : Option (ℕ × ℕ)) (n : Option ℕ) → Finds (intake_pending c k l w to n)
      pending_finds l w None n = λ g. tt
      pending_finds l w (Some to) None = λ g. tt
      pending_finds l w (Some to) (Some n) =
          by_if _ (if_here k.share to.0 (look_block to.0 (λ o. ends (intake_outcome c l w n to.0 to.1 o)))) (ends (not_enabled _))
          (by_if (has k.share to.0) (look_block to.0 (λ o. ends (intake_outcome c l w n to.0 to.1 o))) (ends (not_enabled _)) (there block (slice_get s.blocks to.0) (λ o. ends (intake_outcome c l w n to.0 to.1 o)) (λ g. absurd cc) (λ x q g. tt)) (λ g. tt))
          (λ g. tt)

      -- an order

      adopt_no : (b : ℕ) (parked : Bool) (o : Option Version) → Comes (ends (adopt_outcome c k b parked o None)) → ⊥
      adopt_no b parked None g = absurd cc
      adopt_no b parked (Some v) g = absurd cc

      carry_finds : (o : Order) → Finds (carry_out c k o)
      unfolding carry_out
      carry_finds (orders.Start v) = λ g. tt
      carry_finds orders.Stop = λ g. blocks_there k.share [] share_there tt
      carry_finds (orders.Replace v) = λ g. blocks_there k.share [] share_there tt
      carry_finds (orders.Adopt b parked) = there block (slice_get s.blocks b.0) (λ o. ends (adopt_outcome c k b.0 parked k.version o)) (adopt_no b.0 parked k.version) (λ x q g. tt)
      carry_finds (orders.Release b) = there block (slice_get s.blocks b.0) (λ o. ends (release_outcome c k b.0 o)) (λ g. absurd cc) (λ x q g. tt)

      mailbox_finds : (m : Mailbox) → Finds (order_turn c k (Some m))
      mailbox_finds (order o) = carry_finds o
      mailbox_finds m = λ g. absurd cc

      action_finds : (a : Action) → Finds (core_action c k a)
      action_finds action.Step = step_by_budget (k.used == k.settings.slices) refl
      action_finds action.Order = there mailbox (slice_get s.mailboxes c) (order_turn c k) (λ g. absurd cc) (λ m q. mailbox_finds m)
      action_finds (action.Intake l) = by_version k.version _ (there wire (slice_get s.lines l.0) (intake_line c k l.0) (λ g. absurd cc) (λ w q. pending_finds l.0 w w.bound w.pending))
      action_finds (action.Wake b d) = wake_finds b.0 d.0
      action_finds action.Script = λ g. tt
      action_finds action.Raise = λ g. tt

    -- the script

    module _ (command : Command) (at_place : slice_get s.script.lines s.script.place ≡ Some (script.Boot command)) where
      command_within : CommandWithin s.script.settings command
      command_within = p.settled.within s.script.place (script.Boot command) at_place

      mailbox_there : (c : ℕ) → c < s.script.settings.cores → IsSome (option_map mailbox (slice_get s.mailboxes c))
      mailbox_there c h = some_below mailbox s.mailboxes c (let e = p.settled.mailboxes in omega (arith, h, e))

      post_finds : (before : List Change) (o : Option (ℕ × Order)) → ((q : ℕ × Order) → o ≡ Some q → q.0 < s.script.settings.cores) → Finds (post_or_done s.script command before o)
      post_finds before None h = λ g. tt
      post_finds before (Some q) h = λ g. (mailbox_there q.0 (h q refl), tt)

      first_within : s.script.posts ≡ zero → (q : ℕ × Order) → slice_get (boot.orders s.script.registry command) 0 ≡ Some q → q.0 < s.script.settings.cores
      first_within z q h = first_core s s.script.settings command q p.placed command_within p.settled.cores (ap (λ r. slice_get (boot.orders r command) 0) (sym (p.registered.idle z)) ∙ h)

      begin_finds : s.script.posts ≡ zero → (r : Option Refusal) → Finds (begin s.script command r)
      begin_finds z None = post_finds [] (slice_get (boot.orders s.script.registry command) 0) (first_within z)
      begin_finds z (Some r) = λ g. tt

      module _ (last : ℕ) (posts : s.script.posts ≡ suc last) where
        ack_finds : (c : ℕ) (m : Mailbox) → Finds (with_ack s.script command c (Some m))
        ack_finds c ack = post_finds (mailbox_becomes c empty ∷ []) (slice_get (boot.orders s.script.registry command) s.script.posts)
            (λ q h. later_core s.script.registry s.script.settings command last q command_within (ap (slice_get (boot.orders s.script.registry command)) (sym posts) ∙ h))
        ack_finds c m = λ g. absurd cc

        go_on_finds : (o : Option (ℕ × Order)) → Finds (go_on_from s.script command o)
        go_on_finds None = λ g. tt
        go_on_finds (Some o) = there mailbox (slice_get s.mailboxes o.0) (with_ack s.script command o.0) (λ g. absurd cc) (λ m q. ack_finds o.0 m)

      boot_finds : (n : ℕ) → s.script.posts ≡ n → Finds (boot_turn s.script command n)
      boot_finds zero z = begin_finds z (refusal s.script.registry command)
      boot_finds (suc last) z = go_on_finds last z (slice_get (boot.orders s.script.registry command) last)

    command_finds : (polls : ℕ) (o : Option ScriptLine) → slice_get s.script.lines s.script.place ≡ o → Finds (command_turn s.script polls o)
    command_finds polls None q = λ g. tt
    command_finds polls (Some (script.Boot command)) q = boot_finds command q s.script.posts refl
    command_finds polls (Some (script.Route l c)) q = there wire (slice_get s.lines l.0) (λ o. ends (route_line s.script l c o)) (λ g. absurd cc) (λ w q g. tt)
    command_finds polls (Some (script.Await b words limit)) q = there console (slice_get s.consoles b.0) (λ o. ends (await_outcome s.script polls b words limit o)) (λ g. absurd cc) (λ ws q g. tt)
    command_finds polls (Some (script.Raise l)) q = λ g. tt

    raises_find : (o : Option ℕ) (t : Turn) → Finds t → Finds (after_raises o t)
    raises_find None t h = h
    raises_find (Some q) t h = λ g. tt

    script_finds : (polls : ℕ) → Finds (script_turn s.script polls)
    script_finds polls =
        let turn = command_turn s.script polls (slice_get s.script.lines s.script.place) in
        let above = raise_above s.script.place (next_raise s.script.lines s.script.raises) in
        by_if (s.script.place == length s.script.lines) (ends (not_enabled _)) (after_raises above turn) (λ g. tt) (raises_find above turn (command_finds polls (slice_get s.script.lines s.script.place) refl))

    raise_line_finds : (q : ℕ) (o : Option ScriptLine) → Finds (raise_line s.script q o)
    raise_line_finds q (Some (script.Raise l)) = there wire (slice_get s.lines l.0) (λ o. ends (raise_on s.script q l o)) (λ g. absurd cc) (λ w q g. tt)
    raise_line_finds q o = λ g. absurd cc

    raise_finds : (o : Option ℕ) → Finds (raise_turn s.script o)
    raise_finds None = λ g. tt
    raise_finds (Some q) = by_if (nat_lt (first_unbegun s.script) q) (ends (not_enabled _)) (raise_line s.script q (slice_get s.script.lines q)) (λ g. tt) (raise_line_finds q (slice_get s.script.lines q))

    -- every action
    pub all_found : (polls : Script → ℕ) (who : Actor) (a : Action) → Finds (turn_of polls who a)
    unfolding turn_of
    all_found polls (actor.Core c) a = there core (slice_get s.cores c.0) (core_turn c.0 a) (λ g. absurd cc) (λ k q. action_finds c.0 k q a)
    all_found polls actor.Script action.Script = λ g. (refl, script_finds (polls s.script) g)
    all_found polls actor.Script action.Raise = λ g. (refl, raise_finds (next_raise s.script.lines s.script.raises) g)
    all_found polls actor.Script a = λ g. absurd cc
