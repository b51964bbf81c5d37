-- What blocks and lines name exists, and stays so.
use Rattle.std.proofs.Common.{◌≡◌, ℕ, ◌<◌, List, Option, Some, None, sym, ap, ◌∙◌, subst, length}
use Rattle.std.specs.Prelude.{slice_get, IfSome}
use Rattle.std.proofs.lemmas.Option.{slice_get_within}
use Rattle.dc_base.specs.declared.capabilities.CapKind.{CapKind}
use Rattle.dc_base.specs.declared.capabilities.CapKind.TheVariants as kind
use Rattle.dc_base.specs.declared.commands.ScriptLine.TheVariants as script
use Rattle.dc_base.specs.declared.dispatchers.DispState.{DispState}
use Rattle.dc_base.specs.declared.dispatchers.DispState.TheVariants as disp
use Rattle.dc_base.specs.declared.dispatchers.Wait.{Wait}
use Rattle.dc_base.specs.declared.dispatchers.Wait.TheVariants as wait
use Rattle.dc_base.specs.declared.entries.Entry.{Entry}
use Rattle.dc_base.specs.declared.interrupts.Latch.{Latch}
use Rattle.dc_base.specs.declared.interrupts.Latched.{Latched}
use Rattle.dc_base.specs.declared.interrupts.Latched.TheVariants as how
use Rattle.dc_base.specs.declared.interrupts.Source.{Source}
use Rattle.dc_base.specs.declared.interrupts.Source.TheVariants as source
use Rattle.dc_base.specs.Bounded.{IsSettled}
use Rattle.dc_base.specs.Changes.{Change, apply}
use Rattle.dc_base.specs.ControlBlocks.{ControlBlock}
use Rattle.dc_base.specs.Lines.{Wire, wire_after, wire_after_raise, wire_after_intake}
use Rattle.dc_base.specs.Named.{Names, WaitNames, StateNames, SourceNames, BlockNames, WireNames, IsNamed}
use Rattle.dc_base.specs.Slices.{Halfway, stopped, stands}
use Rattle.dc_base.specs.States.{State, Block, time_on}
use Rattle.dc_sound.proofs.BlockNaming.{keeps_names, held_names}
use Rattle.dc_block_sound.proofs.Calls.{CallFits}
use Rattle.dc_block_sound.proofs.ControlSteps.{Step, Steps, kept_by}
use Rattle.dc_block_sound.proofs.Elements.{same_some}
use Rattle.dc_sound.proofs.EntryKinds.{Kind, IsRoute}
use Rattle.dc_block_sound.proofs.Forms.{same_shape}
use Rattle.dc_sound.proofs.Leaves.{Leaves, fine_kind}
use Rattle.dc_sound.proofs.Lengths.{SameLengths, same_lengths}
use Rattle.dc_sound.proofs.Outsides.{no_claim}
use Rattle.dc_sound.proofs.Rules.{Rule, no_rule, Obeys, kept, block_stays}
use Rattle.dc_sound.proofs.SliceFacts.{HalfLaws}
use Rattle.dc_block_sound.proofs.Walks.{HalfFits, HalfClaims, fire_steps, again_steps, latch_steps}
use Rattle.dc_sound.proofs.SliceWalks.{slice_steps, slice_half}

-- a block has as many signals as it had
abbrev pub SignalsAs : State → ℕ → ControlBlock → Type 0
SignalsAs s b x = (z : Block) → slice_get s.blocks b ≡ Some z → length x.parts.signals ≡ length z.control.parts.signals

-- what it names exists, and it has as many signals as it had
pub record BlockNamesNow (s : State) (b : ℕ) (x : ControlBlock) : Type 0 where
  pub names : BlockNames s x
  pub signals : SignalsAs s b x

abbrev pub naming : State → Rule
naming s = record no_rule { block = λ b x. BlockNamesNow s b x.control; line = λ l w. WireNames s w }

keeps_now : (s : State) (b d : ℕ) (C : ℕ → Type 0) (x y : ControlBlock) → Step s d C x y → BlockNamesNow s b x → BlockNamesNow s b y
keeps_now s b d C x y st h = record { names = keeps_names s d C x y st h.names; signals = λ z e. (same_shape s d C x y st).signals ∙ h.signals z e }

along : (s : State) (b d : ℕ) (C : ℕ → Type 0) (x y : ControlBlock) → Steps s d C x y → BlockNamesNow s b x → BlockNamesNow s b y
along s b d C x y st h = kept_by s d C (BlockNamesNow s b) (keeps_now s b d C) x y st h

-- a line that is changed elsewhere

raised_by : (s : State) (w : Wire) (to : Option (ℕ × ℕ)) (n : Option ℕ) → WireNames s w → WireNames s (wire_after w to n)
raised_by s w None n h = record { bound = h.bound; route = h.route; offer = h.offer }
raised_by s w (Some to) None h = record { bound = h.bound; route = h.route; offer = h.offer }
raised_by s w (Some to) (Some n) h = record { bound = h.bound; route = h.route; offer = h.offer }

raised : (s : State) (w : Wire) → WireNames s w → WireNames s (wire_after_raise w)
unfolding wire_after_raise
raised s w h = raised_by s w w.bound w.pending h

taken_in : (s : State) (w : Wire) (l : Latched) → WireNames s w → WireNames s (wire_after_intake l w)
unfolding wire_after_intake
taken_in s w how.Latched h = record { bound = h.bound; route = h.route; offer = h.offer }
taken_in s w how.Coalesced h = record { bound = h.bound; route = h.route; offer = h.offer }

module _ (s : State) (chs : List Change) (e : Entry) (p : IsNamed s) (settled : IsSettled s) where
  now : (b : ℕ) (x : Block) → slice_get s.blocks b ≡ Some x → BlockNamesNow s b x.control
  now b x q = record { names = p.blocks b x q; signals = λ z g. (let same = same_some (slice_get s.blocks b) x z q g in ap (λ (v : Block). length v.control.parts.signals) same) }

  obeyed : Obeys (naming s) s
  obeyed = record { cores = λ c k e. tt; blocks = now; channels = λ x r e. tt; lines = p.wires; mailboxes = λ c m e. tt; consoles = λ b ws e. tt; script = tt }

  -- a signal that the block has, seen in the block before the slice
  bound_signal : (b signal : ℕ) (x : Block) (y : ControlBlock) → slice_get s.blocks b ≡ Some x → BlockNamesNow s b y → signal < length y.parts.signals → (z : Block) × (slice_get s.blocks b ≡ Some z) × (signal < length z.control.parts.signals)
  bound_signal b signal x y q h l = (x, q, subst (λ n. signal < n) (h.signals x q) l)

  half : (c b d : ℕ) (x : Block) → c < length s.cores → slice_get s.blocks b ≡ Some x → (h : Halfway) → HalfFits s d no_claim x.control h → HalfLaws (naming s) s c b h
  half c b d x within at (stopped y ran e) f = tt
  half c b d x within at (stands y ran o call) f = record {
    prints_to = λ w p ws q h i. tt;
    sends_to = λ z m q r new g h i. tt;
    takes_from = λ z a q r got g h i. tt;
    binds_to = λ l n q w g h. (
        let fits = subst (CallFits s no_claim y d) g f.1 in
        let new = along s b d no_claim x.control y f.0 (now b x at) in
        let old = p.wires l w h in
        record { bound = bound_signal b n x y at new (held_names s y new.names (kind.Signal (record { 0 = n })) fits.0); route = within; offer = old.offer });
    gives_over = λ l z rights q w g h. (
        let fits = subst (CallFits s no_claim y d) g f.1 in
        let new = along s b d no_claim x.control y f.0 (now b x at) in
        let old = p.wires l w h in
        record { bound = tt; route = old.route; offer = held_names s y new.names (kind.SendEnd (record { 0 = z })) fits.0 });
    claims_it = λ l z slot rights q w g h i. (let old = p.wires l w h in record { bound = old.bound; route = old.route; offer = tt });
  }

  route_within : (i : IsRoute s chs e) → i.c.0 < length s.cores
  route_within i =
      let w = settled.within s.script.place (script.Route i.l i.c) i.stands.line_at in
      subst (λ n. i.c.0 < n) (sym settled.cores) w.1

  leaves : Leaves (naming s) s chs e
  leaves = record {
    slice = λ i. (
      tt,
      along s i.b i.d (HalfClaims s i.h) i.x.control _ (slice_steps s chs e i) (now i.b i.x i.turn.block_at),
      half i.c i.b i.d i.x (slice_get_within s.cores i.c i.k i.turn.core_at) i.turn.block_at i.h (slice_half s chs e i no_claim),
    );
    slice_none = λ i. (tt, along s i.b 0 no_claim i.x.control _ (fire_steps s 0 no_claim (time_on i.k.clock i.offset) i.x.control) (now i.b i.x i.turn.block_at));
    idle = λ i. tt;
    wake = λ i. (tt, along s i.b i.d no_claim i.x.control _ (again_steps s i.d no_claim i.x.control) (now i.b i.x i.turn.block_at));
    intake = λ i. (along s i.to.0 0 no_claim i.x.control _ (latch_steps s 0 no_claim i.x.control i.to.1 i.l i.n i.w i.line_at i.pending_at) (now i.to.0 i.x i.block_at), taken_in s i.w _ (p.wires i.l i.w i.line_at));
    start = λ i. (tt, tt);
    stop = λ i. (tt, tt, λ b x q. now b x q);
    replace = λ i. (tt, tt, λ b x q. now b x q);
    adopt = λ i. (tt, tt, now i.b.0 i.x i.block_at);
    release = λ i. (tt, tt, now i.b.0 i.x i.block_at);
    emptied = λ c. tt;
    post = λ i. (tt, tt);
    done = λ i. tt;
    refused = λ i. tt;
    route = λ i. ((let old = p.wires i.l.0 i.w i.line_at in record { bound = old.bound; route = route_within i; offer = old.offer }), tt);
    awaited = λ i. tt;
    raise = λ i. (raised s i.w (p.wires i.l.0 i.w i.line_at), tt);
  }

-- names hold on in a state with as many objects

module _ (s t : State) (n : SameLengths s t) where
  cap_names : (x : ControlBlock) (k : CapKind) → Names s x k → Names t x k
  cap_names x (kind.Ram f l) h = h
  cap_names x (kind.Frame f l) h = h
  cap_names x (kind.Port p) h = h
  cap_names x (kind.Signal i) h = h
  cap_names x (kind.SendEnd z) h = subst (λ m. z.0 < m) (sym n.channels) h
  cap_names x (kind.RecvEnd z) h = subst (λ m. z.0 < m) (sym n.channels) h
  cap_names x (kind.Line l) h = subst (λ m. l.0 < m) (sym n.lines) h

  wait_names : (x : ControlBlock) (w : Wait) → WaitNames s x w → WaitNames t x w
  wait_names x (wait.Send p) h = h
  wait_names x (wait.Recv p) h = h
  wait_names x (wait.Signal i) h = h
  wait_names x (wait.Csend z) h = subst (λ m. z.0 < m) (sym n.channels) h
  wait_names x (wait.Crecv z) h = subst (λ m. z.0 < m) (sym n.channels) h

  state_names : (x : ControlBlock) (state : DispState) → StateNames s x state → StateNames t x state
  state_names x (disp.Waits w) h = wait_names x w h
  state_names x state h = tt

  source_names : (o : Option Latch) → IfSome o (λ (l : Latch). SourceNames s l.source) → IfSome o (λ (l : Latch). SourceNames t l.source)
  source_names None h = tt
  source_names (Some l) h = by_source l.source h
    where
      by_source : (o : Source) → SourceNames s o → SourceNames t o
      by_source source.Timer h = tt
      by_source (source.Line l) h = subst (λ m. l.0 < m) (sym n.lines) h

  block_names : (x : ControlBlock) → BlockNames s x → BlockNames t x
  block_names x h = record {
    caps = λ i k g. cap_names x k.cap.kind (h.caps i k g);
    waiters = λ d state g. state_names x state (h.waiters d state g);
    timers = h.timers;
    latches = λ i o g. source_names o (h.latches i o g);
  }

  if_below : {A : Type 0} (o : Option A) (f : A → ℕ) (a b : ℕ) → a ≡ b → IfSome o (λ v. f v < a) → IfSome o (λ v. f v < b)
  if_below o f a b same h = subst (λ m. IfSome o (λ v. f v < m)) same h

-- each entry keeps that what is named exists; it uses that settings stay
pub naming_kept : (s : State) (chs : List Change) (e : Entry) → IsNamed s → IsSettled s → Kind s chs e → IsNamed (apply s chs)
naming_kept s chs e p settled k =
    let t = apply s chs in
    let o = kept (naming s) chs s (fine_kind (naming s) s chs e (leaves s chs e p settled) (obeyed s chs e p settled) k) (obeyed s chs e p settled) in
    let n = same_lengths chs s in
    record {
      blocks = λ b x g. block_names s t n x.control (o.blocks b x g).names;
      wires = λ l w g. (
          let h = o.lines l w g in
          record {
            bound = bound_now w.bound h.bound o;
            route = if_below s t n w.route (λ c. c) (length s.cores) (length t.cores) (sym n.cores) h.route;
            offer = if_below s t n w.offer (λ (o : ℕ × ℕ). o.0) (length s.channels) (length t.channels) (sym n.channels) h.offer;
          });
    }
  where
    bound_now : (o : Option (ℕ × ℕ)) → IfSome o (λ (to : ℕ × ℕ). (x : Block) × (slice_get s.blocks to.0 ≡ Some x) × (to.1 < length x.control.parts.signals)) → Obeys (naming s) (apply s chs) →
        IfSome o (λ (to : ℕ × ℕ). (x : Block) × (slice_get (apply s chs).blocks to.0 ≡ Some x) × (to.1 < length x.control.parts.signals))
    bound_now None h o = tt
    bound_now (Some to) h o =
        let z = block_stays chs s to.0 h.0 h.1 in
        let same = (o.blocks to.0 z.0 z.1).signals h.0 h.1 in
        (z.0, z.1, subst (λ m. to.1 < m) (sym same) h.2)
