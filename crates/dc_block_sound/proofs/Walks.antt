-- The changes of a control block that a wake, a firing, a latch, the plain part and the end of a slice make.
use Rattle.std.proofs.Common.{◌≡◌, ℕ, zero, suc, ◌<◌, ◌≤◌, List, [], ◌∷◌, ◌++◌, Bool, true, false, Option, Some, None, refl, sym, ap, ◌∙◌, subst, arith, length, inl, inr}
use Rattle.std.specs.Prelude.{slice_get, slice_set, nat_lt, nat_le, ◌==◌, if◌then◌else◌, ⊤}
use Rattle.std.proofs.lemmas.List.{set-set}
use Rattle.dc_base.specs.declared.calls.Op.{Op}
use Rattle.dc_base.specs.declared.calls.Need.{Need}
use Rattle.dc_base.specs.declared.dispatchers.DispState.{DispState}
use Rattle.dc_base.specs.declared.dispatchers.DispState.TheVariants as disp
use Rattle.dc_base.specs.declared.dispatchers.Wait.{Wait}
use Rattle.dc_base.specs.declared.instructions.Instr.{Instr}
use Rattle.dc_base.specs.declared.interrupts.Timer.{Timer}
use Rattle.dc_base.specs.declared.kernels.Version.{Version}
use Rattle.dc_base.specs.declared.kernels.Version.TheVariants as version
use Rattle.dc_base.specs.declared.messages.Message.{Message}
use Rattle.dc_base.specs.Words.{bind, change, count_of}
use Rattle.dc_base.specs.Ahead.{AheadEnd, at_quantum, at_halt, at_trap, at_call, Ahead, ahead, ahead_from, last_look}
use Rattle.dc_base.specs.Channels.{Ring, ring_after_send, ring_after_take, ring_without_first}
use Rattle.dc_base.specs.ControlBlocks.{ControlBlock}
use Rattle.dc_base.specs.Effects.{Context, Move, goes, halts, traps, calls, act}
use Rattle.dc_base.specs.Firing.{wake, wake_if, latch_in, after_firing, fire_if, fire_from, fire_all}
use Rattle.dc_base.specs.Instructions.{decode}
use Rattle.dc_base.specs.Kernel.{Call, faults, waits, makes, takes, prints, sends, receives, binds, gives, claims}
use Rattle.dc_base.specs.Lines.{Wire, rights_over, line_latch}
use Rattle.dc_base.specs.Named.{instr_of}
use Rattle.dc_base.specs.NeedsHere.{need_here}
use Rattle.dc_base.specs.Parts.{Parts, with_context}
use Rattle.dc_base.specs.Serving.{need, Outside, nothing_outside, console_outside, channel_outside, line_outside, Served, faulted, served, serve, serve_send, serve_receive, serve_claim}
use Rattle.dc_base.specs.Serving as serving
use Rattle.dc_base.specs.Slices.{Halfway, stopped, stands, need_of, after_served, with_ahead, after_ahead, halfway, due_after, slice_end}
use Rattle.dc_base.specs.States.{State, Settings}
use Rattle.dc_base.specs.NeededLooks.{as_console, as_channel, as_line}
use Rattle.dc_base.specs.Timers.{is_sooner, sooner, soonest, if_due, due_timer}
use Rattle.dc_base.specs.Wakes.{ready_again}
use Rattle.dc_base.proofs.CodeLaws.{decode-some}
use Rattle.dc_block_sound.proofs.OutsideAt.{outside_at, here_or_none}
use Rattle.dc_block_sound.proofs.Elements.{set_here}
use Rattle.dc_base.specs.KeptByBlocks.{AllReady, is_ready}
use Rattle.dc_block_sound.proofs.PlainMoves.{Acts, acts}
use Rattle.dc_block_sound.proofs.ControlSteps.{Runs, MayWait, with_parts, Step, readied, due_grew, woken, stands_still, held_up, fired, latched, went, received, claimed, Steps, none, further, one, joined, last}
use Rattle.dc_block_sound.proofs.Calls.{CallFits, call_fits}

-- the line that a call claims, where it is offered over the call's channel
abbrev pub CallClaims : State → Call → ℕ → Type 0
CallClaims s (claims l x slot p) m = (m ≡ l) × ((w : Wire) × (slice_get s.lines l ≡ Some w) × ((rights : ℕ) × (rights_over x w.offer ≡ Some rights)))
CallClaims s call m = ⊥

abbrev pub HalfClaims : State → Halfway → ℕ → Type 0
HalfClaims s (stopped y ran e) m = ⊥
HalfClaims s (stands y ran o call) m = CallClaims s call m

-- the soonest timer is one of them
sooner_in : (t : Timer) (ts : List Timer) (u : Timer) → ((v : Timer) → soonest ts ≡ Some v → (i : ℕ) × (slice_get ts i ≡ Some v)) → (o : Option Timer) → soonest ts ≡ o → Some (sooner t o) ≡ Some u → (i : ℕ) × (slice_get (t ∷ ts) i ≡ Some u)
sooner_in t ts u more None q e = (0, e)
sooner_in t ts u more (Some v) q e = by_test (is_sooner v t) e
  where
    by_test : (b : Bool) → Some (if b then v else t) ≡ Some u → (i : ℕ) × (slice_get (t ∷ ts) i ≡ Some u)
    by_test true e = let w = more v q in (suc w.0, w.1 ∙ e)
    by_test false e = (0, e)

soonest_in : (ts : List Timer) (u : Timer) → soonest ts ≡ Some u → (i : ℕ) × (slice_get ts i ≡ Some u)
soonest_in [] u e = absurd cc
soonest_in (t ∷ ts) u e = sooner_in t ts u (λ v q. soonest_in ts v q) (soonest ts) refl e

due_by : (time : ℕ) (ts : List Timer) (u : Timer) → (o : Option Timer) → soonest ts ≡ o → if_due time o ≡ Some u → (i : ℕ) × (slice_get ts i ≡ Some u)
due_by time ts u None q e = absurd cc
due_by time ts u (Some t) q e = by_test (nat_le t.deadline time) e
  where
    by_test : (b : Bool) → (if b then Some t else None) ≡ Some u → (i : ℕ) × (slice_get ts i ≡ Some u)
    by_test true e = soonest_in ts u (q ∙ e)
    by_test false e = absurd cc

-- the timer that fires is armed
pub due_in : (time : ℕ) (ts : List Timer) (u : Timer) → due_timer time ts ≡ Some u → (i : ℕ) × (slice_get ts i ≡ Some u)
unfolding due_timer
due_in time ts u e = due_by time ts u (soonest ts) refl e

pub set_same : {A : Type 0} → (xs : List A) (i : ℕ) (x : A) → slice_get xs i ≡ Some x → slice_set xs i x ≡ xs
set_same [] i x e = absurd cc
set_same (a ∷ xs) zero x e = let same : a ≡ x = cc in ap (λ y. y ∷ xs) (sym same)
set_same (a ∷ xs) (suc i) x e = ap (λ ys. a ∷ ys) (set_same xs i x e)

pub length_change : {A : Type 0} → (f : A → A) (i : ℕ) (xs : List A) → length (change f i xs) ≡ length xs
length_change f i [] = refl
length_change f zero (x ∷ xs) = refl
length_change f (suc i) (x ∷ xs) = ap suc (length_change f i xs)

module _ (s : State) (d : ℕ) (C : ℕ → Type 0) where
  -- waking and firing

  pub wake_steps : (w : Wait) (x : ControlBlock) → Steps s d C x (wake w x)
  unfolding wake
  wake_steps w x = further x _ _ (woken x w) (one s d C _ _ (readied _ _))

  if_steps : (w : Option Wait) (x : ControlBlock) → Steps s d C x (wake_if w x)
  if_steps None x = none x
  if_steps (Some w) x = wake_steps w x

  firing_steps : (x : ControlBlock) (i : ℕ) (t : Timer) → slice_get x.parts.timers i ≡ Some t → Steps s d C x (after_firing t x)
  unfolding latch_in
  firing_steps x i t e = further x _ _ (fired x i t e) (wake_steps _ _)

  fired_by : (time n : ℕ) (x : ControlBlock) → ((y : ControlBlock) → Steps s d C y (fire_from time n y).control) → (o : Option Timer) → due_timer time x.parts.timers ≡ o → Steps s d C x (fire_if (fire_from time n) x o).control
  fired_by time n x more None q = none x
  fired_by time n x more (Some t) q = let i = due_in time x.parts.timers t q in joined s d C x (after_firing t x) _ (firing_steps x i.0 t i.1) (more (after_firing t x))

  from_steps : (time n : ℕ) (x : ControlBlock) → Steps s d C x (fire_from time n x).control
  from_steps time zero x = none x
  from_steps time (suc n) x = fired_by time n x (λ y. from_steps time n y) (due_timer time x.parts.timers) refl

  pub fire_steps : (time : ℕ) (x : ControlBlock) → Steps s d C x (fire_all time x).control
  unfolding fire_all
  fire_steps time x = from_steps time _ x

  -- the plain part

  -- dispatcher d has this code and context, and is ready, where the ready lists of the state are
  pub record IsAbout (x : ControlBlock) (code : List ℕ) (c : Context) : Type 0 where
    pub ready : AllReady s → slice_get x.states d ≡ Some disp.Ready
    pub code_at : slice_get x.parts.code d ≡ Some code
    pub context_at : slice_get x.parts.contexts d ≡ Some c

  abbrev pub EndFits : List ℕ → Context → AheadEnd → Type 0
  EndFits code c (at_trap n) = (0 < n) × (n ≤ 12)
  EndFits code c (at_call o i) = (w : ℕ) × (slice_get code c.place ≡ Some w) × (decode w ≡ Some i)
  EndFits code c e = ⊤

  abbrev pub AheadFits : ControlBlock → List ℕ → Ahead → Type 0
  AheadFits x code a = Steps s d C x (with_ahead x d a) × EndFits code a.context a.end

  stays : (x : ControlBlock) (code : List ℕ) (c : Context) → IsAbout x code c → Steps s d C x (with_parts x (with_context x.parts d c x.parts.memory))
  stays x code c h = subst (λ (cs : List Context). Steps s d C x (with_parts x (record x.parts { contexts = cs }))) (sym (set_same x.parts.contexts d c h.context_at)) (none x)

  look_fits : (code : List ℕ) (c : Context) (memory : List ℕ) (m : Move) → Acts code c memory m → EndFits code c (last_look m)
  look_fits code c memory (calls o i) h = h
  look_fits code c memory m h = tt

  ahead_by : (time n : ℕ) (code : List ℕ) (x : ControlBlock) (c : Context) → IsAbout x code c → ((y : ControlBlock) (new : Context) → IsAbout y code new → AheadFits y code (ahead time code n new y.parts.memory)) →
      (m : Move) → act time code c x.parts.memory ≡ m → Acts code c x.parts.memory m → AheadFits x code (ahead_from (ahead time code n) c x.parts.memory m)
  ahead_by time n code x c h more (goes new memory) q f =
      let y : ControlBlock = with_parts x (with_context x.parts d new memory) in
      let about : IsAbout y code new = record { ready = h.ready; code_at = h.code_at; context_at = set_here x.parts.contexts d c new h.context_at } in
      let rest = more y new about in
      let a = ahead time code n new memory in
      let first : Step s d C x y = went x time code c new memory (record { ready = h.ready; code_at = h.code_at; context_at = h.context_at; word = f.0; word_at = f.1 }) q in
      (subst (λ (cs : List Context). Steps s d C x (with_parts x (record x.parts { contexts = cs; memory = a.memory }))) (set-set x.parts.contexts d new a.context) (further x y _ first rest.0), rest.1)
  ahead_by time n code x c h more halts q f = (stays x code c h, tt)
  ahead_by time n code x c h more (traps m) q f = (stays x code c h, f)
  ahead_by time n code x c h more (calls o i) q f = (stays x code c h, f)

  pub ahead_steps : (time n : ℕ) (code : List ℕ) (x : ControlBlock) (c : Context) → IsAbout x code c → AheadFits x code (ahead time code n c x.parts.memory)
  ahead_steps time zero code x c h = (stays x code c h, look_fits code c x.parts.memory (act time code c x.parts.memory) (acts time code c x.parts.memory))
  ahead_steps time (suc n) code x c h = ahead_by time n code x c h (λ y new k. ahead_steps time n code y new k) (act time code c x.parts.memory) refl (acts time code c x.parts.memory)

  -- how far a slice comes before the object is seen that its call needs
  abbrev pub HalfFits : ControlBlock → Halfway → Type 0
  HalfFits x (stopped y ran e) = Steps s d C x y
  HalfFits x (stands y ran o call) = Steps s d C x y × CallFits s C y d call

  after_fits : (time : ℕ) (x : ControlBlock) (code : List ℕ) (c : Context) → IsAbout x code c → (a : Ahead) → Steps s d C x (with_ahead x d a) → (e : AheadEnd) → EndFits code a.context e → HalfFits x (after_ahead time x d a e)
  after_fits time x code c h a st at_quantum f = last s d C x (with_ahead x d a) _ st (readied _ _)
  after_fits time x code c h a st at_halt f = last s d C x (with_ahead x d a) _ st (stands_still _ disp.Halted tt)
  after_fits time x code c h a st (at_trap n) f = last s d C x (with_ahead x d a) _ st (stands_still _ (disp.Trapped n) f)
  after_fits time x code c h a st (at_call o i) f =
      let y : ControlBlock = with_ahead x d a in
      let runs : Runs s y d code a.context = record { ready = h.ready; code_at = h.code_at; context_at = set_here x.parts.contexts d c a.context h.context_at; word = f.0; word_at = f.1 } in
      let instr : instr_of y.parts d ≡ Some i = at_word y code a.context i runs f.1 f.2 in
      (st, call_fits s d C y code a.context runs time i instr (decode-some f.0 i f.2).0)
    where
      at_word : (y : ControlBlock) (code : List ℕ) (c : Context) (i : Instr) (r : Runs s y d code c) → {w : ℕ} → slice_get code c.place ≡ Some w → decode w ≡ Some i → instr_of y.parts d ≡ Some i
      at_word y code c i r {w} p q = ap (λ o. bind o (λ code. bind (slice_get y.parts.contexts d) (λ (c : Context). bind (slice_get code c.place) decode))) r.code_at ∙ ap (λ o. bind o (λ (c : Context). bind (slice_get code c.place) decode)) r.context_at ∙ ap (λ o. bind o decode) p ∙ q

  context_by : (quantum time : ℕ) (x : ControlBlock) (h : Halfway) (code : List ℕ) → (AllReady s → slice_get x.states d ≡ Some disp.Ready) → slice_get x.parts.code d ≡ Some code → (o : Option Context) → slice_get x.parts.contexts d ≡ o →
      bind o (λ c. Some (after_ahead time x d (ahead time code quantum c x.parts.memory) (ahead time code quantum c x.parts.memory).end)) ≡ Some h → HalfFits x h
  context_by quantum time x h code r q None p e = absurd cc
  context_by quantum time x h code r q (Some c) p e =
      let a = ahead time code quantum c x.parts.memory in
      let about : IsAbout x code c = record { ready = r; code_at = q; context_at = p } in
      let same : after_ahead time x d a a.end ≡ h = cc in
      let fits = ahead_steps time quantum code x c about in
      subst (HalfFits x) same (after_fits time x code c about a fits.0 a.end fits.1)

  code_by : (quantum time : ℕ) (x : ControlBlock) (h : Halfway) → (AllReady s → slice_get x.states d ≡ Some disp.Ready) → (o : Option (List ℕ)) → slice_get x.parts.code d ≡ o →
      bind o (λ code. bind (slice_get x.parts.contexts d) (λ c. Some (after_ahead time x d (ahead time code quantum c x.parts.memory) (ahead time code quantum c x.parts.memory).end))) ≡ Some h → HalfFits x h
  code_by quantum time x h r None q e = absurd cc
  code_by quantum time x h r (Some code) q e = context_by quantum time x h code r q (slice_get x.parts.contexts d) refl e

  pub half_steps : (quantum time : ℕ) (x : ControlBlock) (h : Halfway) → (AllReady s → slice_get x.states d ≡ Some disp.Ready) → halfway quantum time x d ≡ Some h → HalfFits x h
  unfolding halfway
  half_steps quantum time x h r e = code_by quantum time x h r (slice_get x.parts.code d) refl e

  -- the end of a slice

  abbrev ServedFits : ControlBlock → Served → Type 0
  ServedFits y (faulted n) = (0 < n) × (n ≤ 12)
  ServedFits y (serving.held_up w) = MayWait y d w
  ServedFits y (served w p new) = Steps s d C y (with_parts y p)

  module _ (c b : ℕ) (y : ControlBlock) where
    printed : (w : ℕ) (p : Parts) → Steps s d C y (with_parts y p) → (o : Option (List ℕ)) → ServedFits y (serve c b (prints w p) (as_console o))
    unfolding serve
    printed w p f None = (omega arith, omega arith)
    printed w p f (Some ws) = by_test (nat_lt (length ws) 65536)
      where
        by_test : (t : Bool) → ServedFits y (if t then served None p (console_outside (ws ++ w ∷ [])) else faulted 11)
        by_test true = f
        by_test false = (omega arith, omega arith)

    sent : (x : ℕ) (m : Message) (p : Parts) → CallFits s C y d (sends x m p) → (o : Option Ring) → ServedFits y (serve c b (sends x m p) (as_channel o))
    unfolding serve
    sent x m p f None = (f.0, f.2)
    sent x m p f (Some r) = by_room (ring_after_send r m)
      where
        by_room : (o : Option Ring) → ServedFits y (serve_send x p o)
        by_room None = (f.0, f.2)
        by_room (Some new) = f.3

    taken : (x address : ℕ) (p : Parts) → CallFits s C y d (receives x address p) → (r : Ring) → slice_get s.channels x ≡ Some r → (ms : List Message) → r.untaken ≡ ms → ServedFits y (serve_receive x address p (ring_without_first r ms))
    taken x address p f r q [] e = (f.0, f.1)
    taken x address p f r q (m ∷ ms) e = last s d C y (with_parts y p) _ f.2 (received (with_parts y p) x address r m ms q e)

    taken_at : (x address : ℕ) (p : Parts) → CallFits s C y d (receives x address p) → (o : Option Ring) → slice_get s.channels x ≡ o → ServedFits y (serve c b (receives x address p) (as_channel o))
    unfolding serve ring_after_take
    taken_at x address p f None q = (f.0, f.1)
    taken_at x address p f (Some r) q = taken x address p f r q r.untaken refl

    module _ (l x slot : ℕ) (p : Parts) (f : CallFits s C y d (claims l x slot p)) (allowed : (m : ℕ) → CallClaims s (claims l x slot p) m → C m) where
      claimed_by : (w : Wire) → slice_get s.lines l ≡ Some w → (o : ℕ × ℕ) → w.offer ≡ Some o → (t : Bool) → (o.0 == x) ≡ t → ServedFits y (serve_claim l slot p w (if t then Some o.1 else None))
      claimed_by w q o g true h =
          let over : rights_over x w.offer ≡ Some o.1 = ap (rights_over x) g ∙ ap (λ t. if t then Some o.1 else None) h in
          last s d C y (with_parts y p) _ f.1 (claimed (with_parts y p) l slot o.0 o.1 w q g f.0.free f.0.within (allowed l (refl, (w, q, (o.1, over)))))
      claimed_by w q o g false h = (omega arith, omega arith)

      claimed_of : (w : Wire) → slice_get s.lines l ≡ Some w → (o : Option (ℕ × ℕ)) → w.offer ≡ o → ServedFits y (serve_claim l slot p w (rights_over x o))
      claimed_of w q None g = (omega arith, omega arith)
      claimed_of w q (Some o) g = claimed_by w q o g (o.0 == x) refl

      claimed_at : (o : Option Wire) → slice_get s.lines l ≡ o → ServedFits y (serve c b (claims l x slot p) (as_line o))
      unfolding serve
      claimed_at None q = (omega arith, omega arith)
      claimed_at (Some w) q = claimed_of w q w.offer refl

    bound_at : (l signal : ℕ) (p : Parts) → Steps s d C y (with_parts y p) → (o : Option Wire) → ServedFits y (serve c b (binds l signal p) (as_line o))
    unfolding serve
    bound_at l signal p f None = (omega arith, omega arith)
    bound_at l signal p f (Some w) = f

    given_at : (l x rights : ℕ) (p : Parts) → Steps s d C y (with_parts y p) → (o : Option Wire) → ServedFits y (serve c b (gives l x rights p) (as_line o))
    unfolding serve
    given_at l x rights p f None = (omega arith, omega arith)
    given_at l x rights p f (Some w) = f

    serve_fits : (call : Call) → ((m : ℕ) → CallClaims s call m → C m) → CallFits s C y d call → ServedFits y (serve c b call (outside_at s b (need call)))
    unfolding serve need
    serve_fits (faults n) allowed f = f
    serve_fits (waits w) allowed f = f
    serve_fits (makes w p) allowed f = f
    serve_fits (takes l p) allowed f = f
    serve_fits (prints w p) allowed f = printed w p f.1 (slice_get s.consoles b)
    serve_fits (sends x m p) allowed f = sent x m p f (slice_get s.channels x)
    serve_fits (receives x address p) allowed f = taken_at x address p f (slice_get s.channels x) refl
    serve_fits (binds l signal p) allowed f = bound_at l signal p f.1 (slice_get s.lines l)
    serve_fits (gives l x rights p) allowed f = given_at l x rights p f.2 (slice_get s.lines l)
    serve_fits (claims l x slot p) allowed f = claimed_at l x slot p f allowed (slice_get s.lines l) refl

    -- a call that gets nothing claims nothing
    none_fits : (call : Call) → CallFits s C y d call → ServedFits y (serve c b call nothing_outside)
    unfolding serve
    none_fits (faults n) f = f
    none_fits (waits w) f = f
    none_fits (makes w p) f = f
    none_fits (takes l p) f = f
    none_fits (prints w p) f = (omega arith, omega arith)
    none_fits (sends x m p) f = (f.0, f.2)
    none_fits (receives x address p) f = (f.0, f.1)
    none_fits (binds l signal p) f = (omega arith, omega arith)
    none_fits (gives l x rights p) f = (omega arith, omega arith)
    none_fits (claims l x slot p) f = (omega arith, omega arith)

    after_steps : (ran : ℕ) (o : Op) (n : Need) (out : Outside) (a : Served) → ServedFits y a → Steps s d C y (after_served y d ran o n out a).control
    after_steps ran o n out (faulted m) f = one s d C y _ (stands_still y (disp.Trapped m) f)
    after_steps ran o n out (serving.held_up w) f = one s d C y _ (held_up y w f)
    after_steps ran o n out (served w p new) f = joined s d C y (with_parts y p) _ f (last s d C (with_parts y p) (wake_if w (with_parts y p)) _ (if_steps w (with_parts y p)) (readied _ _))

  due_steps : (v : Version) (y : ControlBlock) → Steps s d C y (due_after v d y)
  due_steps version.Rr y = none y
  due_steps version.Edf y = one s d C y _ (due_grew y _ (length_change _ d y.dues))

  pub end_steps : (c b : ℕ) (v : Version) (x : ControlBlock) (h : Halfway) → ((m : ℕ) → HalfClaims s h m → C m) → HalfFits x h → Steps s d C x (slice_end c b v d h (outside_at s b (need_of h))).control
  unfolding slice_end
  end_steps c b v x (stopped y ran e) allowed f = joined s d C x y _ f (due_steps v y)
  end_steps c b v x (stands y ran o call) allowed f =
      let out = outside_at s b (need call) in
      let sl = after_served y d ran o (need call) out (serve c b call out) in
      joined s d C x y _ f.0 (joined s d C y sl.control _ (after_steps c b y ran o (need call) out (serve c b call out) (serve_fits c b y call allowed f.1)) (due_steps v sl.control))

  pub end_without : (c b : ℕ) (v : Version) (x : ControlBlock) (h : Halfway) → HalfFits x h → Steps s d C x (slice_end c b v d h nothing_outside).control
  unfolding slice_end
  end_without c b v x (stopped y ran e) f = joined s d C x y _ f (due_steps v y)
  end_without c b v x (stands y ran o call) f =
      let sl = after_served y d ran o (need call) nothing_outside (serve c b call nothing_outside) in
      joined s d C x y _ f.0 (joined s d C y sl.control _ (after_steps c b y ran o (need call) nothing_outside (serve c b call nothing_outside) (none_fits c b y call f.1)) (due_steps v sl.control))

  pub end_here : (t : Settings) (c b : ℕ) (v : Version) (x : ControlBlock) (h : Halfway) → ((m : ℕ) → HalfClaims s h m → C m) → HalfFits x h → Steps s d C x (slice_end c b v d h (outside_at s b (need_here t (need_of h)))).control
  end_here t c b v x h allowed f = elim (here_or_none t s b (need_of h)) [
    | inl same ↦ subst (λ out. Steps s d C x (slice_end c b v d h out).control) (sym same) (end_steps c b v x h allowed f)
    | inr gone ↦ subst (λ out. Steps s d C x (slice_end c b v d h out).control) (sym gone) (end_without c b v x h f)
  ]

  pub again_steps : (x : ControlBlock) → Steps s d C x (ready_again d x)
  again_steps x = further x _ _ (stands_still x disp.Ready tt) (one s d C _ _ (readied _ _))

  pub latch_steps : (x : ControlBlock) (signal l n : ℕ) (w : Wire) → slice_get s.lines l ≡ Some w → w.pending ≡ Some n → Steps s d C x (latch_in signal (line_latch l n) x)
  unfolding latch_in
  latch_steps x signal l n w p q = further x _ _ (latched x signal l n w p q) (wake_steps _ _)

-- the dispatcher that is picked is ready
pub is_ready_at : (o : Option DispState) → 0 < count_of (is_ready o) → o ≡ Some disp.Ready
is_ready_at (Some disp.Ready) h = refl
is_ready_at o h = absurd (omega (arith, h))
