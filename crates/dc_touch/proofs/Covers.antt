-- A turn changes only what it looks at.
use Rattle.std.proofs.Common.{◌≡◌, ◌⊎◌, ℕ, zero, suc, List, [], ◌∷◌, ◌++◌, Bool, true, false, Option, Some, None, refl, sym, ap, ◌∙◌, subst, map, inl, inr}
use Rattle.std.specs.Prelude.{◌+◌, slice_get, if◌then◌else◌, find, ⊤, nat_lt, nat_le, ◌==◌, length}
use Rattle.std.specs.Option.{option_map_or}
use Rattle.dc_base.specs.declared.dispatchers.DispState.{DispState}
use Rattle.dc_base.specs.declared.dispatchers.DispState.TheVariants as disp
use Rattle.dc_base.specs.declared.dispatchers.Wait.TheVariants as wait
use Rattle.dc_base.specs.declared.calls.Op.{Op}
use Rattle.dc_base.specs.declared.actions.Actor.{Actor}
use Rattle.dc_base.specs.declared.actions.Actor.TheVariants as actor
use Rattle.dc_base.specs.declared.actions.Action.{Action}
use Rattle.dc_base.specs.declared.actions.Action.TheVariants as action
use Rattle.dc_base.specs.declared.kernels.Version.{Version}
use Rattle.dc_base.specs.declared.numbers.BlockNo.{BlockNo}
use Rattle.dc_base.specs.declared.numbers.LineNo.{LineNo}
use Rattle.dc_base.specs.declared.numbers.CoreNo.{CoreNo}
use Rattle.dc_base.specs.declared.commands.Command.{Command}
use Rattle.dc_base.specs.declared.commands.Refusal.{Refusal}
use Rattle.dc_base.specs.declared.commands.Order.{Order}
use Rattle.dc_base.specs.declared.commands.Order.TheVariants as orders
use Rattle.dc_base.specs.declared.commands.ScriptLine.{ScriptLine}
use Rattle.dc_base.specs.declared.commands.ScriptLine.TheVariants as script
use Rattle.dc_base.specs.declared.entries.Entry.{Entry}
use Rattle.dc_base.specs.Words.{is_number}
use Rattle.dc_base.specs.Channels.{Ring, is_full}
use Rattle.dc_base.specs.Lines.{Wire}
use Rattle.dc_base.specs.Boot.{refusal}
use Rattle.dc_base.specs.Boot as boot
use Rattle.dc_base.specs.Script.{next_raise}
use Rattle.dc_base.specs.Policies.{pick}
use Rattle.dc_base.specs.States.{State, Settings, Core, Block, Mailbox, empty, order, ack, Script, Whereabouts, rest, on, time_on}
use Rattle.dc_base.specs.Firing.{Fired, fire_all}
use Rattle.dc_base.specs.declared.calls.Need.{Need}
use Rattle.dc_base.specs.declared.calls.Need.TheVariants as needs
use Rattle.dc_base.specs.ControlBlocks.{ControlBlock}
use Rattle.dc_base.specs.Kernel.{Call, faults, waits, makes, takes, prints, sends, receives, binds, gives, claims}
use Rattle.dc_base.specs.Serving.{need, serve, faulted, held_up, served, Served, Outside, nothing_outside, console_outside, channel_outside, line_outside}
use Rattle.dc_base.specs.NeedsHere.{need_here}
use Rattle.dc_base.specs.Slices.{Halfway, stopped, stands, halfway, need_of, slice_end, after_served, with_due, without_ready}
use Rattle.dc_base.specs.Changes.{Name, a_core, a_block, a_channel, a_line, a_mailbox, a_console, the_script, Change, block_becomes, mailbox_becomes, name_of}
use Rattle.dc_base.specs.Turns.{Outcome, did, not_enabled, spent, Looked, Turn, ends, look_core, look_blocks, look_block, look_channel, look_line, look_mailbox, look_console, look_script, looked_at, outcome, looks}
use Rattle.dc_base.specs.NeededLooks.{as_console, as_channel, as_line, look_outside, outside_change}
use Rattle.dc_base.specs.SliceTurns.{finish_slice, slice_picked, slice_from, slice_turn}
use Rattle.dc_base.specs.IdleTurns.{next_due, idle_outcome}
use Rattle.dc_base.specs.Steps.{step_on, step_turn, is_runnable}
use Rattle.dc_base.specs.Outcomes.{if_on, share_blocks, has, if_here}
use Rattle.dc_base.specs.Wakes.{after_wake, wake_sender, wake_receiver, wake_waiting, wake_in, wake_turn}
use Rattle.dc_base.specs.Intakes.{intake_outcome, intake_pending, intake_line, intake_turn}
use Rattle.dc_base.specs.Orders.{change_all, adopt_outcome, release_outcome, carry_out, order_turn}
use Rattle.dc_base.specs.Commands.{post_or_done, begin, with_ack, go_on_from, boot_turn, route_line, await_outcome, command_turn, raise_above, after_raises, script_turn}
use Rattle.dc_base.specs.Raises.{raise_on, raise_line, raise_turn, first_unbegun}
use Rattle.dc_base.specs.Cores.{core_action, core_turn, turn_of}
use Rattle.dc_base.specs.Histories.{Listed}

-- each change is of one of these objects
abbrev pub AllListed : List Change → List Name → Type 0
AllListed [] ns = ⊤
AllListed (ch ∷ chs) ns = Listed (name_of ch) ns × AllListed chs ns

-- each outcome, whatever is seen, changes only these objects and those looked at
abbrev pub Covers : List Name → Turn → Type 0
Covers ns (ends (did chs e)) = AllListed chs ns
Covers ns (ends (not_enabled r)) = ⊤
Covers ns (ends spent) = ⊤
Covers ns (look_core c f) = (o : Option Core) → Covers (a_core c ∷ ns) (f o)
Covers ns (look_blocks bs f) = (blocks : List Block) → Covers (map a_block bs ++ ns) (f (map (looked_at blocks) bs))
Covers ns (look_block b f) = (o : Option Block) → Covers (a_block b ∷ ns) (f o)
Covers ns (look_channel x f) = (o : Option Ring) → Covers (a_channel x ∷ ns) (f o)
Covers ns (look_line l f) = (o : Option Wire) → Covers (a_line l ∷ ns) (f o)
Covers ns (look_mailbox c f) = (o : Option Mailbox) → Covers (a_mailbox c ∷ ns) (f o)
Covers ns (look_console b f) = (o : Option (List ℕ)) → Covers (a_console b ∷ ns) (f o)
Covers ns (look_script f) = (t : Script) → Covers (the_script ∷ ns) (f t)

-- so the changes are of objects that the turn looked at

listed_change : (n : Name) (chs : List Change) (ns : List Name) → AllListed chs ns → Listed n (map name_of chs) → Listed n ns
listed_change n [] ns h l = absurd l
listed_change n (ch ∷ chs) ns h (inl e) = subst (λ m. Listed m ns) (sym e) h.0
listed_change n (ch ∷ chs) ns h (inr l) = listed_change n chs ns h.1 l

pub split_listed : (n : Name) (ms ns : List Name) → Listed n (ms ++ ns) → Listed n ms ⊎ Listed n ns
split_listed n [] ns l = inr l
split_listed n (m ∷ ms) ns (inl e) = inl (inl e)
split_listed n (m ∷ ms) ns (inr l) = elim (split_listed n ms ns l) [ inl k ↦ inl (inr k) | inr k ↦ inr k ]

either_front : (n : Name) (ms ns : List Name) → Listed n ms → Listed n (ms ++ ns)
either_front n [] ns h = absurd h
either_front n (m ∷ ms) ns (inl e) = inl e
either_front n (m ∷ ms) ns (inr h) = inr (either_front n ms ns h)

either_back : (n : Name) (ms ns : List Name) → Listed n ns → Listed n (ms ++ ns)
either_back n [] ns h = h
either_back n (m ∷ ms) ns h = inr (either_back n ms ns h)

-- a name among those seen before or those seen later, where one look stands between
one_on : (n m : Name) (ns ls : List Name) → Listed n (m ∷ ns) ⊎ Listed n ls → Listed n ns ⊎ Listed n (m ∷ ls)
one_on n m ns ls (inl (inl e)) = inr (inl e)
one_on n m ns ls (inl (inr l)) = inl l
one_on n m ns ls (inr l) = inr (inr l)

more_on : (n : Name) (ms ns ls : List Name) → Listed n (ms ++ ns) ⊎ Listed n ls → Listed n ns ⊎ Listed n (ms ++ ls)
more_on n ms ns ls (inl l) = elim (split_listed n ms ns l) [ inl k ↦ inr (either_front n ms ls k) | inr k ↦ inl k ]
more_on n ms ns ls (inr l) = inr (either_back n ms ls l)

pub covered_changes : (s : State) (chs : List Change) (e : Entry) (n : Name) → Listed n (map name_of chs) →
    (turn : Turn) (ns : List Name) → Covers ns turn → outcome s turn ≡ did chs e → Listed n ns ⊎ Listed n (looks s turn)
covered_changes s chs e n l (ends (did more f)) ns h o =
    let same : more ≡ chs = cc in
    inl (listed_change n more ns h (subst (λ cs. Listed n (map name_of cs)) (sym same) l))
covered_changes s chs e n l (ends (not_enabled r)) ns h o = absurd cc
covered_changes s chs e n l (ends spent) ns h o = absurd cc
covered_changes s chs e n l (look_core c f) ns h o = one_on n _ ns _ (covered_changes s chs e n l (f (slice_get s.cores c)) (a_core c ∷ ns) (h _) o)
covered_changes s chs e n l (look_blocks bs f) ns h o = more_on n _ ns _ (covered_changes s chs e n l (f (map (looked_at s.blocks) bs)) (map a_block bs ++ ns) (h _) o)
covered_changes s chs e n l (look_block b f) ns h o = one_on n _ ns _ (covered_changes s chs e n l (f (slice_get s.blocks b)) (a_block b ∷ ns) (h _) o)
covered_changes s chs e n l (look_channel x f) ns h o = one_on n _ ns _ (covered_changes s chs e n l (f (slice_get s.channels x)) (a_channel x ∷ ns) (h _) o)
covered_changes s chs e n l (look_line x f) ns h o = one_on n _ ns _ (covered_changes s chs e n l (f (slice_get s.lines x)) (a_line x ∷ ns) (h _) o)
covered_changes s chs e n l (look_mailbox c f) ns h o = one_on n _ ns _ (covered_changes s chs e n l (f (slice_get s.mailboxes c)) (a_mailbox c ∷ ns) (h _) o)
covered_changes s chs e n l (look_console b f) ns h o = one_on n _ ns _ (covered_changes s chs e n l (f (slice_get s.consoles b)) (a_console b ∷ ns) (h _) o)
covered_changes s chs e n l (look_script f) ns h o = one_on n _ ns _ (covered_changes s chs e n l (f s.script) (the_script ∷ ns) (h _) o)

-- every turn does

covers_if : (b : Bool) (ns : List Name) (x y : Turn) → Covers ns x → Covers ns y → Covers ns (if b then x else y)
covers_if true ns x y h k = h
covers_if false ns x y h k = k

outcome_if : (b : Bool) (ns : List Name) (x y : Outcome) → Covers ns (ends x) → Covers ns (ends y) → Covers ns (ends (if b then x else y))
outcome_if true ns x y h k = h
outcome_if false ns x y h k = k

-- the object that a call needs
abbrev needed : ℕ → Need → List Name → List Name
needed b needs.Nothing ns = ns
needed b needs.Console ns = a_console b ∷ ns
needed b (needs.Channel x) ns = a_channel x.0 ∷ ns
needed b (needs.Line l) ns = a_line l.0 ∷ ns

needed_more : (b : ℕ) (w : Need) (ns : List Name) (n : Name) → Listed n ns → Listed n (needed b w ns)
needed_more b needs.Nothing ns n l = l
needed_more b needs.Console ns n l = inr l
needed_more b (needs.Channel x) ns n l = inr l
needed_more b (needs.Line x) ns n l = inr l

outside_covers : (ns : List Name) (b : ℕ) (w : Need) (next : Outside → Turn) → ((out : Outside) → (w ≡ needs.Nothing → out ≡ nothing_outside) → Covers (needed b w ns) (next out)) → Covers ns (look_outside b w next)
unfolding look_outside
outside_covers ns b needs.Nothing next h = h nothing_outside (λ e. refl)
outside_covers ns b needs.Console next h = λ o. h (as_console o) (λ e. absurd cc)
outside_covers ns b (needs.Channel x) next h = λ o. h (as_channel o) (λ e. absurd cc)
outside_covers ns b (needs.Line l) next h = λ o. h (as_line o) (λ e. absurd cc)

outside_listed : (b : ℕ) (w : Need) (out : Outside) (ns : List Name) → AllListed (outside_change b w out) (needed b w ns)
unfolding outside_change
outside_listed b needs.Console (console_outside ws) ns = (inl refl, tt)
outside_listed b (needs.Channel x) (channel_outside r) ns = (inl refl, tt)
outside_listed b (needs.Line l) (line_outside w) ns = (inl refl, tt)
outside_listed b w out ns = tt

answered_need : (x : ControlBlock) (d ran : ℕ) (o : Op) (w : Need) (out : Outside) (a : Served) → (after_served x d ran o w out a).need ≡ w
answered_need x d ran o w out (faulted y) = refl
answered_need x d ran o w out (held_up v) = refl
answered_need x d ran o w out (served v p new) = refl

end_need : (c n : ℕ) (v : Version) (d : ℕ) (h : Halfway) (out : Outside) → (slice_end c n v d h out).need ≡ need_of h
unfolding slice_end
end_need c n v d (stopped x ran e) out = refl
end_need c n v d (stands x ran o call) out = answered_need x d ran o (need call) out (serve c n call out)

-- a line that does not exist is not needed, and nothing of it changes

here_or_nothing : (t : Settings) (w : Need) → (need_here t w ≡ w) ⊎ (need_here t w ≡ needs.Nothing)
here_or_nothing t needs.Nothing = inl refl
here_or_nothing t needs.Console = inl refl
here_or_nothing t (needs.Channel x) = inl refl
here_or_nothing t (needs.Line l) = by_test (nat_lt l.0 t.lines)
  where
    by_test : (test : Bool) → ((if test then needs.Line l else needs.Nothing) ≡ needs.Line l) ⊎ ((if test then needs.Line l else needs.Nothing) ≡ needs.Nothing)
    by_test true = inl refl
    by_test false = inr refl

nothing_answered : (x : ControlBlock) (v : Version) (d ran c n : ℕ) (o : Op) (call : Call) → (with_due v d (after_served x d ran o (need call) nothing_outside (serve c n call nothing_outside))).outside ≡ nothing_outside
unfolding serve
nothing_answered x v d ran c n o (faults y) = refl
nothing_answered x v d ran c n o (waits w) = refl
nothing_answered x v d ran c n o (makes w p) = refl
nothing_answered x v d ran c n o (takes l p) = refl
nothing_answered x v d ran c n o (prints w p) = refl
nothing_answered x v d ran c n o (sends y m p) = refl
nothing_answered x v d ran c n o (receives y a p) = refl
nothing_answered x v d ran c n o (binds l i p) = refl
nothing_answered x v d ran c n o (gives l y rights p) = refl
nothing_answered x v d ran c n o (claims l y slot p) = refl

nothing_left : (c n : ℕ) (v : Version) (d : ℕ) (h : Halfway) → (slice_end c n v d h nothing_outside).outside ≡ nothing_outside
unfolding slice_end
nothing_left c n v d (stopped x ran e) = refl
nothing_left c n v d (stands x ran o call) = nothing_answered x v d ran c n o call

no_change : (b : ℕ) (w : Need) → outside_change b w nothing_outside ≡ []
unfolding outside_change
no_change b needs.Nothing = refl
no_change b needs.Console = refl
no_change b (needs.Channel x) = refl
no_change b (needs.Line l) = refl

module _ (t : Settings) (c b : ℕ) (v : Version) (d : ℕ) (h : Halfway) (ns : List Name) where
  end_listed : (out : Outside) → (need_here t (need_of h) ≡ needs.Nothing → out ≡ nothing_outside) →
      AllListed (outside_change b (slice_end c b v d h out).need (slice_end c b v d h out).outside) (needed b (need_here t (need_of h)) ns)
  end_listed out none = subst (λ w. AllListed (outside_change b w (slice_end c b v d h out).outside) (needed b (need_here t (need_of h)) ns)) (sym (end_need c b v d h out)) (elim (here_or_nothing t (need_of h)) [
    | inl same ↦ subst (λ w. AllListed (outside_change b (need_of h) (slice_end c b v d h out).outside) (needed b w ns)) (sym same) (outside_listed b (need_of h) (slice_end c b v d h out).outside ns)
    | inr gone ↦
        let left : (slice_end c b v d h out).outside ≡ nothing_outside = ap (λ o. (slice_end c b v d h o).outside) (none gone) ∙ nothing_left c b v d h in
        subst (λ cs. AllListed cs (needed b (need_here t (need_of h)) ns)) (sym (ap (outside_change b (need_of h)) left ∙ no_change b (need_of h))) tt
  ])

module _ (c : ℕ) (k : Core) where
  slice_covers : (b : ℕ) (x : Block) (v : Version) (d count : ℕ) (ns : List Name) → Listed (a_core c) ns → Listed (a_block b) ns → (h : Option Halfway) → Covers ns (finish_slice c k b x v d count h)
  slice_covers b x v d count ns hc hb None = tt
  slice_covers b x v d count ns hc hb (Some h) =
      let w = need_here k.settings (need_of h) in
      outside_covers ns b w _ (λ out none. (needed_more b w ns _ hc, (needed_more b w ns _ hb, end_listed k.settings c b v d h ns out none)))

  picked_covers : (b : ℕ) (x : Block) (time : ℕ) (v : Version) (f : Fired) (ns : List Name) → Listed (a_core c) ns → Listed (a_block b) ns → (o : Option ℕ) → Covers ns (slice_picked c k b x time v f o)
  picked_covers b x time v f ns hc hb None = (hc, (hb, tt))
  picked_covers b x time v f ns hc hb (Some d) = slice_covers b x v d f.count ns hc hb (halfway k.settings.quantum time (without_ready d f.control) d)

  from_covers : (b : ℕ) (x : Block) (ns : List Name) → Listed (a_core c) ns → Listed (a_block b) ns → (w : Whereabouts) → Covers ns (slice_from c k b x w)
  from_covers b x ns hc hb (rest kept) = tt
  from_covers b x ns hc hb (on d offset v) = picked_covers b x _ v _ ns hc hb (pick v (fire_all (time_on k.clock offset) x.control).control.dues (fire_all (time_on k.clock offset) x.control).control.ready)

  turn_covers : (b : ℕ) (ns : List Name) → Listed (a_core c) ns → Listed (a_block b) ns → (o : Option Block) → Covers ns (slice_turn c k b o)
  unfolding slice_turn
  turn_covers b ns hc hb None = tt
  turn_covers b ns hc hb (Some x) = from_covers b x ns hc hb x.whereabouts

  idle_covers : (ns : List Name) → Listed (a_core c) ns → (o : Option ℕ) → Covers ns (ends (idle_outcome c k o))
  unfolding idle_outcome
  idle_covers ns hc None = tt
  idle_covers ns hc (Some clock) = (hc, tt)

  on_covers : (share : List Looked) (ns : List Name) → Listed (a_core c) ns → (o : Option Looked) → ((l : Looked) → o ≡ Some l → Listed (a_block l.number) ns) → Covers ns (step_on c k share o)
  on_covers share ns hc None h = idle_covers ns hc (next_due share)
  on_covers share ns hc (Some l) h = turn_covers l.number ns hc (h l refl) l.found

  found_by : (blocks : List Block) (p : Looked → Bool) (b : ℕ) (bs : List ℕ) (l : Looked) → (find p (map (looked_at blocks) bs) ≡ Some l → Listed (a_block l.number) (map a_block bs)) →
      (test : Bool) → (if test then Some (looked_at blocks b) else find p (map (looked_at blocks) bs)) ≡ Some l → Listed (a_block l.number) (map a_block (b ∷ bs))
  found_by blocks p b bs l more true e =
      let one : looked_at blocks b ≡ l = cc in
      inl (ap (λ (m : Looked). a_block m.number) (sym one))
  found_by blocks p b bs l more false e = inr (more e)

  found_listed : (blocks : List Block) (p : Looked → Bool) (bs : List ℕ) (l : Looked) → find p (map (looked_at blocks) bs) ≡ Some l → Listed (a_block l.number) (map a_block bs)
  found_listed blocks p [] l e = absurd cc
  found_listed blocks p (b ∷ bs) l e = found_by blocks p b bs l (λ h. found_listed blocks p bs l h) (p (looked_at blocks b)) e

  version_covers : (ns : List Name) (t : Turn) → Covers ns t → (o : Option Version) → Covers ns (if_on o t)
  version_covers ns t h None = tt
  version_covers ns t h (Some v) = h

  step_covers : (ns : List Name) → Listed (a_core c) ns → Covers ns (step_turn c k)
  step_covers ns hc =
      covers_if (k.used == k.settings.slices) ns (ends spent) (if_on k.version (look_blocks (share_blocks k.share) (λ share. step_on c k share (find (is_runnable k.clock) share)))) tt
      (version_covers ns (look_blocks (share_blocks k.share) (λ share. step_on c k share (find (is_runnable k.clock) share))) (λ blocks.
      on_covers (map (looked_at blocks) (share_blocks k.share)) (map a_block (share_blocks k.share) ++ ns) (either_back _ (map a_block (share_blocks k.share)) ns hc)
      (find (is_runnable k.clock) (map (looked_at blocks) (share_blocks k.share)))
      (λ l e. either_front _ (map a_block (share_blocks k.share)) ns (found_listed blocks (is_runnable k.clock) (share_blocks k.share) l e))) k.version)

  sender_covers : (b d : ℕ) (x : Block) (ns : List Name) → Listed (a_core c) ns → Listed (a_block b) ns → (o : Option Ring) → Covers ns (ends (wake_sender c k b d x o))
  sender_covers b d x ns hc hb None = tt
  sender_covers b d x ns hc hb (Some r) = outcome_if (is_full r) ns (not_enabled _) (after_wake c k b d x) tt (hc, (hb, tt))

  receiver_covers : (b d : ℕ) (x : Block) (ns : List Name) → Listed (a_core c) ns → Listed (a_block b) ns → (o : Option Ring) → Covers ns (ends (wake_receiver c k b d x o))
  receiver_covers b d x ns hc hb None = tt
  receiver_covers b d x ns hc hb (Some r) = outcome_if (nat_lt 0 (length r.untaken)) ns (after_wake c k b d x) (not_enabled _) (hc, (hb, tt)) tt

  waiting_covers : (b d : ℕ) (x : Block) (ns : List Name) → Listed (a_core c) ns → Listed (a_block b) ns → (o : Option DispState) → Covers ns (wake_waiting c k b d x o)
  waiting_covers b d x ns hc hb (Some (disp.Waits (wait.Csend y))) = λ r. sender_covers b d x _ (inr hc) (inr hb) r
  waiting_covers b d x ns hc hb (Some (disp.Waits (wait.Crecv y))) = λ r. receiver_covers b d x _ (inr hc) (inr hb) r
  waiting_covers b d x ns hc hb o = tt

  wake_covers_in : (b d : ℕ) (ns : List Name) → Listed (a_core c) ns → Listed (a_block b) ns → (o : Option Block) → Covers ns (wake_in c k b d o)
  wake_covers_in b d ns hc hb None = tt
  wake_covers_in b d ns hc hb (Some x) = waiting_covers b d x ns hc hb (slice_get x.control.states d)

  wake_covers : (b d : ℕ) (ns : List Name) → Listed (a_core c) ns → Covers ns (wake_turn c k b d)
  wake_covers b d ns hc =
      covers_if (k.used == k.settings.slices) ns (ends spent) (if_on k.version (if_here k.share b (look_block b (wake_in c k b d)))) tt
      (version_covers ns (if_here k.share b (look_block b (wake_in c k b d))) (covers_if (has k.share b) ns (look_block b (wake_in c k b d)) (ends (not_enabled _))
      (λ o. wake_covers_in b d (a_block b ∷ ns) (inr hc) (inl refl) o) tt) k.version)

  intake_in_covers : (l : ℕ) (w : Wire) (n b signal : ℕ) (ns : List Name) → Listed (a_line l) ns → Listed (a_block b) ns → (o : Option Block) → Covers ns (ends (intake_outcome c l w n b signal o))
  intake_in_covers l w n b signal ns hl hb None = tt
  intake_in_covers l w n b signal ns hl hb (Some x) = (hb, (hl, tt))

  pending_covers : (l : ℕ) (w : Wire) (ns : List Name) → Listed (a_line l) ns → (o : Option (ℕ × ℕ)) (p : Option ℕ) → Covers ns (intake_pending c k l w o p)
  pending_covers l w ns hl None p = tt
  pending_covers l w ns hl (Some to) None = tt
  pending_covers l w ns hl (Some to) (Some n) =
      covers_if (is_number c w.route) ns (if_here k.share to.0 (look_block to.0 (λ o. ends (intake_outcome c l w n to.0 to.1 o)))) (ends (not_enabled _))
      (covers_if (has k.share to.0) ns (look_block to.0 (λ o. ends (intake_outcome c l w n to.0 to.1 o))) (ends (not_enabled _)) (λ o. intake_in_covers l w n to.0 to.1 (a_block to.0 ∷ ns) (inr hl) (inl refl) o) tt) tt

  line_covers : (l : ℕ) (ns : List Name) → Listed (a_line l) ns → (o : Option Wire) → Covers ns (intake_line c k l o)
  line_covers l ns hl None = tt
  line_covers l ns hl (Some w) = pending_covers l w ns hl w.bound w.pending

  intake_covers : (l : ℕ) (ns : List Name) → Covers ns (intake_turn c k l)
  intake_covers l ns = version_covers ns (look_line l (intake_line c k l)) (λ o. line_covers l (a_line l ∷ ns) (inl refl) o) k.version

  all_covers : (f : Block → Block) (blocks : List Block) (ns : List Name) (bs : List ℕ) → ((n : Name) → Listed n (map a_block bs) → Listed n ns) → AllListed (change_all f (map (looked_at blocks) bs)) ns
  all_covers f blocks ns [] h = tt
  all_covers f blocks ns (b ∷ bs) h = all_by (slice_get blocks b) (h (a_block b) (inl refl)) (all_covers f blocks ns bs (λ n l. h n (inr l)))
    where
      all_by : (o : Option Block) → Listed (a_block b) ns → AllListed (change_all f (map (looked_at blocks) bs)) ns →
          AllListed (option_map_or (λ x. block_becomes b (f x) ∷ change_all f (map (looked_at blocks) bs)) o (change_all f (map (looked_at blocks) bs))) ns
      all_by None hb more = more
      all_by (Some x) hb more = (hb, more)

  adopt_covers : (b : ℕ) (parked : Bool) (ns : List Name) → Listed (a_core c) ns → Listed (a_mailbox c) ns → Listed (a_block b) ns → (v : Option Version) (o : Option Block) → Covers ns (ends (adopt_outcome c k b parked v o))
  adopt_covers b parked ns hc hm hb None None = tt
  adopt_covers b parked ns hc hm hb None (Some x) = tt
  adopt_covers b parked ns hc hm hb (Some v) None = tt
  adopt_covers b parked ns hc hm hb (Some v) (Some x) = (hc, (hm, (hb, tt)))

  release_covers : (b : ℕ) (ns : List Name) → Listed (a_core c) ns → Listed (a_mailbox c) ns → Listed (a_block b) ns → (o : Option Block) → Covers ns (ends (release_outcome c k b o))
  release_covers b ns hc hm hb None = tt
  release_covers b ns hc hm hb (Some x) = (hc, (hm, (hb, tt)))

  carried_covers : (ns : List Name) → Listed (a_core c) ns → Listed (a_mailbox c) ns → (o : Order) → Covers ns (carry_out c k o)
  unfolding carry_out
  carried_covers ns hc hm (orders.Start v) = (hc, (hm, tt))
  carried_covers ns hc hm orders.Stop = λ blocks. (
    either_back _ (map a_block (share_blocks k.share)) ns hc,
    (
      either_back _ (map a_block (share_blocks k.share)) ns hm,
      all_covers _ blocks (map a_block (share_blocks k.share) ++ ns) (share_blocks k.share) (λ n l. either_front n _ ns l),
    ),
  )
  carried_covers ns hc hm (orders.Replace v) = λ blocks. (
    either_back _ (map a_block (share_blocks k.share)) ns hc,
    (
      either_back _ (map a_block (share_blocks k.share)) ns hm,
      all_covers _ blocks (map a_block (share_blocks k.share) ++ ns) (share_blocks k.share) (λ n l. either_front n _ ns l),
    ),
  )
  carried_covers ns hc hm (orders.Adopt b parked) = λ o. adopt_covers b.0 parked (a_block b.0 ∷ ns) (inr hc) (inr hm) (inl refl) k.version o
  carried_covers ns hc hm (orders.Release b) = λ o. release_covers b.0 (a_block b.0 ∷ ns) (inr hc) (inr hm) (inl refl) o

  order_covers : (ns : List Name) → Listed (a_core c) ns → Listed (a_mailbox c) ns → (o : Option Mailbox) → Covers ns (order_turn c k o)
  order_covers ns hc hm (Some (order o)) = carried_covers ns hc hm o
  order_covers ns hc hm m = tt

  action_covers : (ns : List Name) → Listed (a_core c) ns → (a : Action) → Covers ns (core_action c k a)
  action_covers ns hc action.Step = step_covers ns hc
  action_covers ns hc action.Order = λ o. order_covers (a_mailbox c ∷ ns) (inr hc) (inl refl) o
  action_covers ns hc (action.Intake l) = intake_covers l.0 ns
  action_covers ns hc (action.Wake b d) = wake_covers b.0 d.0 ns hc
  action_covers ns hc action.Script = tt
  action_covers ns hc action.Raise = tt

core_covers : (c : ℕ) (a : Action) (o : Option Core) → Covers (a_core c ∷ []) (core_turn c a o)
core_covers c a None = tt
core_covers c a (Some k) = action_covers c k (a_core c ∷ []) (inl refl) a

module _ (t : Script) where
  append_listed : (before more : List Change) (ns : List Name) → AllListed before ns → AllListed more ns → AllListed (before ++ more) ns
  append_listed [] more ns h k = k
  append_listed (ch ∷ chs) more ns h k = (h.0, append_listed chs more ns h.1 k)

  longer : (n : Name) (chs : List Change) (ns : List Name) → AllListed chs ns → AllListed chs (n ∷ ns)
  longer n [] ns h = tt
  longer n (ch ∷ chs) ns h = (inr h.0, longer n chs ns h.1)

  done_covers : (command : Command) (before : List Change) (ns : List Name) → AllListed before ns → Listed the_script ns → (o : Option (ℕ × Order)) → Covers ns (post_or_done t command before o)
  done_covers command before ns h hs None = append_listed before _ ns h (hs, tt)
  done_covers command before ns h hs (Some o) = λ m. append_listed before _ (a_mailbox o.0 ∷ ns) (longer _ before ns h) (inl refl, (inr hs, tt))

  begin_covers : (command : Command) (ns : List Name) → Listed the_script ns → (o : Option Refusal) → Covers ns (begin t command o)
  begin_covers command ns hs None = done_covers command [] ns tt hs (slice_get (boot.orders t.registry command) 0)
  begin_covers command ns hs (Some r) = (hs, tt)

  ack_covers : (command : Command) (c : ℕ) (ns : List Name) → Listed the_script ns → Listed (a_mailbox c) ns → (o : Option Mailbox) → Covers ns (with_ack t command c o)
  ack_covers command c ns hs hm (Some ack) = done_covers command (mailbox_becomes c empty ∷ []) ns (hm, tt) hs (slice_get (boot.orders t.registry command) t.posts)
  ack_covers command c ns hs hm m = tt

  go_on_covers : (command : Command) (ns : List Name) → Listed the_script ns → (o : Option (ℕ × Order)) → Covers ns (go_on_from t command o)
  go_on_covers command ns hs None = tt
  go_on_covers command ns hs (Some o) = λ m. ack_covers command o.0 (a_mailbox o.0 ∷ ns) (inr hs) (inl refl) m

  boot_covers : (command : Command) (ns : List Name) → Listed the_script ns → (n : ℕ) → Covers ns (boot_turn t command n)
  boot_covers command ns hs zero = begin_covers command ns hs (refusal t.registry command)
  boot_covers command ns hs (suc last) = go_on_covers command ns hs (slice_get (boot.orders t.registry command) last)

  route_covers : (l : LineNo) (c : CoreNo) (ns : List Name) → Listed the_script ns → Listed (a_line l.0) ns → (o : Option Wire) → Covers ns (ends (route_line t l c o))
  route_covers l c ns hs hl None = tt
  route_covers l c ns hs hl (Some w) = (hl, (hs, tt))

  await_covers : (polls : ℕ) (b : BlockNo) (words limit : ℕ) (ns : List Name) → Listed the_script ns → (o : Option (List ℕ)) → Covers ns (ends (await_outcome t polls b words limit o))
  await_covers polls b words limit ns hs None = tt
  await_covers polls b words limit ns hs (Some ws) =
      outcome_if (nat_le words (length ws)) ns (did _ _) (if nat_lt (polls + 1) limit then not_enabled _ else did _ _) (hs, tt)
      (outcome_if (nat_lt (polls + 1) limit) ns (not_enabled _) (did _ _) tt (hs, tt))

  command_covers : (polls : ℕ) (ns : List Name) → Listed the_script ns → (o : Option ScriptLine) → Covers ns (command_turn t polls o)
  command_covers polls ns hs None = tt
  command_covers polls ns hs (Some (script.Boot command)) = boot_covers command ns hs t.posts
  command_covers polls ns hs (Some (script.Route l c)) = λ o. route_covers l c (a_line l.0 ∷ ns) (inr hs) (inl refl) o
  command_covers polls ns hs (Some (script.Await b words limit)) = λ o. await_covers polls b words limit (a_console b.0 ∷ ns) (inr hs) o
  command_covers polls ns hs (Some (script.Raise l)) = tt

  raises_covers : (ns : List Name) (turn : Turn) → Covers ns turn → (o : Option ℕ) → Covers ns (after_raises o turn)
  raises_covers ns turn h None = h
  raises_covers ns turn h (Some q) = tt

  script_covers : (polls : ℕ) (ns : List Name) → Listed the_script ns → Covers ns (script_turn t polls)
  script_covers polls ns hs =
      covers_if (t.place == length t.lines) ns (ends (not_enabled _)) (after_raises (raise_above t.place (next_raise t.lines t.raises)) (command_turn t polls (slice_get t.lines t.place))) tt
      (raises_covers ns (command_turn t polls (slice_get t.lines t.place)) (command_covers polls ns hs (slice_get t.lines t.place)) (raise_above t.place (next_raise t.lines t.raises)))

  raise_on_covers : (q : ℕ) (l : LineNo) (ns : List Name) → Listed the_script ns → Listed (a_line l.0) ns → (o : Option Wire) → Covers ns (ends (raise_on t q l o))
  raise_on_covers q l ns hs hl None = tt
  raise_on_covers q l ns hs hl (Some w) = (hl, (hs, tt))

  raise_line_covers : (q : ℕ) (ns : List Name) → Listed the_script ns → (o : Option ScriptLine) → Covers ns (raise_line t q o)
  raise_line_covers q ns hs (Some (script.Raise l)) = λ o. raise_on_covers q l (a_line l.0 ∷ ns) (inr hs) (inl refl) o
  raise_line_covers q ns hs o = tt

  raise_covers : (ns : List Name) → Listed the_script ns → (o : Option ℕ) → Covers ns (raise_turn t o)
  raise_covers ns hs None = tt
  raise_covers ns hs (Some q) = covers_if (nat_lt (first_unbegun t) q) ns (ends (not_enabled _)) (raise_line t q (slice_get t.lines q)) tt (raise_line_covers q ns hs (slice_get t.lines q))

-- the turn of each action
pub turn_covers_all : (polls : Script → ℕ) (who : Actor) (a : Action) → Covers [] (turn_of polls who a)
unfolding turn_of
turn_covers_all polls (actor.Core c) a = λ o. core_covers c.0 a o
turn_covers_all polls actor.Script action.Script = λ t. script_covers t (polls t) (the_script ∷ []) (inl refl)
turn_covers_all polls actor.Script action.Raise = λ t. raise_covers t (the_script ∷ []) (inl refl) (next_raise t.lines t.raises)
turn_covers_all polls actor.Script a = tt
