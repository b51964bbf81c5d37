-- Each control block is in form at the start.
use Rattle.std.proofs.Common.{◌≡◌, ℕ, zero, suc, ◌+◌, ◌-◌, ◌*◌, ◌<◌, ◌≤◌, ◌^◌, List, [], ◌∷◌, Bool, true, Option, None, refl, sym, ap, ◌∙◌, subst, arith, length, map}
use Rattle.std.specs.Prelude.{slice_get, ◌==◌, if◌then◌else◌, replicate, count_by, IfSome, ⊤}
use Rattle.std.specs.List.{range_with_len, list_any}
use Rattle.std.proofs.lemmas.List.{length-append, length-map, length-replicate}
use Rattle.std.proofs.lemmas.List.Sums.{sum_by-cons}
use Rattle.std.proofs.lemmas.Option.{slice_get_within}
use Rattle.dc_base.specs.declared.capabilities.Cap.{Cap}
use Rattle.dc_base.specs.declared.capabilities.CapKind.{CapKind}
use Rattle.dc_base.specs.declared.capabilities.CapKind.TheVariants as kind
use Rattle.dc_base.specs.declared.dispatchers.DispState.{DispState}
use Rattle.dc_base.specs.declared.dispatchers.DispState.TheVariants as disp
use Rattle.dc_base.specs.declared.images.BlockImage.{BlockImage}
use Rattle.dc_base.specs.declared.images.CapImage.{CapImage}
use Rattle.dc_base.specs.declared.images.DispImage.{DispImage}
use Rattle.dc_base.specs.declared.images.Image.{Image}
use Rattle.dc_base.specs.declared.interrupts.Latch.{Latch}
use Rattle.dc_base.specs.declared.interrupts.Timer.{Timer}
use Rattle.dc_base.specs.declared.messages.Message.{Message}
use Rattle.dc_base.specs.Words.{Each, count_of}
use Rattle.dc_base.specs.Capabilities.{is_of_line}
use Rattle.dc_base.specs.ControlBlocks.{control_start}
use Rattle.dc_base.specs.Effects.{Context}
use Rattle.dc_base.specs.KeptByBlocks.{HasShape, HasDispatchers, HasWords, HasPorts, HasReady, HasTimers, HasCaps, IsMessage, IsTrapNumber, is_ready}
use Rattle.dc_base.specs.KeptOutside.{has_cap_of_line}
use Rattle.dc_base.specs.Named.{Names, BlockNames, SourceNames, StateNames}
use Rattle.dc_base.specs.Parts.{parts_of, seats_from}
use Rattle.dc_base.specs.States.{State}
use Rattle.dc_base.specs.Valid.{NamesOf, IsValidCap, IsValidDisp, IsValidBlock, is_given_line}
use Rattle.dc_base.proofs.EachLaws.{each_nil}
use Rattle.dc_block_sound.proofs.Elements.{same_is, other_is}
use Rattle.dc_block_sound.proofs.Forests.{IsForest}
use Rattle.dc_block_sound.proofs.Forms.{each_map}
use Rattle.dc_block_sound.proofs.LineCaps.{LinesIn, AreLines, lines_of, there_any}
use Rattle.dc_block_sound.proofs.Seats.{EachCap}
use Rattle.dc_block_sound.proofs.StartLists.{each_replicate, each_both}
use Rattle.dc_block_sound.proofs.StartSlots.{EachGiven, each_from, from_forest}

-- the ready list

abbrev times_in : ℕ → List ℕ → ℕ
times_in d xs = count_by (λ e. e == d) xs

abbrev one_if : Bool → ℕ
one_if t = if t then 1 else 0

times-cons : (d x : ℕ) (xs : List ℕ) → times_in d (x ∷ xs) ≡ one_if (x == d) + times_in d xs
times-cons d x xs = sum_by-cons (λ e. one_if (e == d)) x xs

range_below : (n a d : ℕ) → d < a → times_in d (range_with_len a n) ≡ 0
range_below zero a d h = refl
range_below (suc n) a d h =
    let c = times-cons d a (range_with_len (a + 1) n) in
    let o : one_if (a == d) ≡ 0 = ap (λ (t : Bool). one_if t) (other_is a d (λ e. omega (arith, e, h))) in
    let k = range_below n (a + 1) d (omega arith) in
    omega (arith, c, o, k)

all_ready : (a i : ℕ) (disps : List DispImage) → times_in (a + i) (range_with_len a (length disps)) ≡ count_of (is_ready (slice_get (map (λ (d : DispImage). disp.Ready) disps) i))
all_ready a i [] = refl
all_ready a zero (x ∷ xs) =
    let z : a + 0 ≡ a = omega arith in
    let c = times-cons (a + 0) a (range_with_len (a + 1) (length xs)) in
    let o : one_if (a == a + 0) ≡ 1 = ap (λ n. one_if (a == n)) z ∙ ap (λ (t : Bool). one_if t) (same_is a) in
    let k = range_below (length xs) (a + 1) (a + 0) (omega arith) in
    omega (arith, c, o, k)
all_ready a (suc i) (x ∷ xs) =
    let z : a + suc i ≡ (a + 1) + i = omega arith in
    let c = times-cons (a + suc i) a (range_with_len (a + 1) (length xs)) in
    let o : one_if (a == a + suc i) ≡ 0 = ap (λ (t : Bool). one_if t) (other_is a (a + suc i) (λ e. omega (arith, e))) in
    let k : times_in (a + suc i) (range_with_len (a + 1) (length xs)) ≡ count_of (is_ready (slice_get (map (λ (d : DispImage). disp.Ready) xs) i)) = ap (λ n. times_in n (range_with_len (a + 1) (length xs))) z ∙ all_ready (a + 1) i xs in
    omega (arith, c, o, k)

pub start_ready : (b : BlockImage) → HasReady (control_start b)
unfolding control_start
start_ready b d = let z : 0 + d ≡ d = omega arith in subst (λ n. times_in n (range_with_len 0 (length b.disps)) ≡ count_of (is_ready (slice_get (map (λ (d : DispImage). disp.Ready) b.disps) d))) z (all_ready 0 d b.disps)

-- each dispatcher is ready
pub start_states : (b : BlockImage) → Each (control_start b).states (λ d state. state ≡ disp.Ready)
unfolding control_start
start_states b = each_map (λ (d : DispImage). ⊤) (λ (state : DispState). state ≡ disp.Ready) (λ (d : DispImage). disp.Ready) (λ d h. refl) b.disps (λ i d e. tt)

module _ (image : Image) (n : ℕ) (b : BlockImage) (v : IsValidBlock image n b) where
  pub start_shape : HasShape (control_start b)
  unfolding control_start parts_of
  start_shape =
      let m = v.memory in let s = v.some in let t = v.most in let p = v.ports in let g = v.signals in
      let a = length-append b.memory (replicate (4096 - length b.memory) 0) in
      let r : length (replicate {A = ℕ} (4096 - length b.memory) 0) ≡ 4096 - length b.memory = length-replicate (4096 - length b.memory) 0 in
      let states = length-map b.disps (λ (d : DispImage). disp.Ready) in
      let rp : length (replicate {A = List Message} b.ports []) ≡ b.ports = length-replicate b.ports [] in
      let rs : length (replicate {A = Option Latch} b.signals None) ≡ b.signals = length-replicate b.signals None in
      record {
        memory = omega (arith, a, r, m);
        some = omega (arith, states, s);
        disps = omega (arith, states, t);
        code = length-map b.disps (λ (d : DispImage). d.code) ∙ sym states;
        contexts = length-map b.disps (λ (d : DispImage). record { regs = replicate 8 0; place = 0 }) ∙ sym states;
        dues = length-map b.disps (λ (d : DispImage). d.due) ∙ sym states;
        periods = length-map b.disps (λ (d : DispImage). d.period) ∙ sym states;
        ports = omega (arith, rp, p);
        signals = omega (arith, rs, g);
      }

  -- what holds of each dispatcher of the image
  abbrev Given : DispImage → Type 0
  Given d = IsValidDisp image n b d

  abbrev first_context : DispImage → Context
  first_context d = record { regs = replicate 8 0; place = 0 }

  pub start_dispatchers : HasDispatchers (control_start b)
  unfolding control_start parts_of
  start_dispatchers = record {
    code = each_map Given (λ (code : List ℕ). (0 < length code) × (length code ≤ 1024)) (λ (d : DispImage). d.code) (λ d h. h.code) b.disps v.disps;
    regs = each_map Given (λ (c : Context). length c.regs ≡ 8) first_context (λ d h. refl) b.disps v.disps;
    places = each_map Given (λ (c : Context). c.place ≤ 65535) first_context (λ d h. omega arith) b.disps v.disps;
    periods = each_map Given (λ m. (0 < m) × (m ≤ 65535)) (λ (d : DispImage). d.period) (λ d h. h.period) b.disps v.disps;
    traps = each_map Given IsTrapNumber (λ (d : DispImage). disp.Ready) (λ d h. tt) b.disps v.disps;
  }

  pub start_words : HasWords (control_start b)
  unfolding control_start parts_of
  start_words = record {
    memory = each_both (λ w. w < 2 ^ 32) b.memory (replicate (4096 - length b.memory) 0) v.words (each_replicate (λ w. w < 2 ^ 32) (4096 - length b.memory) 0 (omega arith));
    code = each_map Given (λ code. Each code (λ i w. w < 2 ^ 32)) (λ (d : DispImage). d.code) (λ d h. h.words) b.disps v.disps;
    regs = each_map Given (λ (c : Context). Each c.regs (λ i w. w < 2 ^ 32)) first_context (λ d h. each_replicate (λ w. w < 2 ^ 32) 8 0 (omega arith)) b.disps v.disps;
    timers = each_nil (λ i (t : Timer). t.value < 2 ^ 32);
    messages = each_replicate (λ (ms : List Message). Each ms (λ i m. IsMessage m)) b.ports [] (each_nil (λ i m. IsMessage m));
    latches = each_replicate (λ (o : Option Latch). IfSome o (λ (l : Latch). l.value < 2 ^ 32)) b.signals None tt;
  }

  pub start_ports : HasPorts (control_start b)
  unfolding control_start parts_of
  start_ports = each_replicate (λ (ms : List Message). length ms ≤ 8) b.ports [] (omega arith)

  pub start_timers : HasTimers (control_start b)
  unfolding control_start parts_of
  start_timers = record { ascending = λ i j t u h e f. absurd (each_nil (λ i (t : Timer). ⊥) i t e); below = each_nil _; room = omega arith }

  -- capabilities

  given_caps : (P : ℕ → Cap → Type 0) → ((d : ℕ) → d < length b.disps → (c : CapImage) → IsValidCap image n b c → P (16 * (0 + d) + c.slot) c.cap) → EachGiven P 0 b.disps
  given_caps P h d i e k c f = h d (slice_get_within b.disps d i e) c ((v.disps d i e).caps k c f)

  abbrev caps_at_start : Type 0
  caps_at_start = IsForest (seats_from 0 b.disps)

  forest : caps_at_start
  forest = from_forest 0 b.disps (λ d i e. (let h = v.disps d i e in record { below = λ k c f. (h.caps k c f).slot; differ = h.slots }))

  pub start_caps : HasCaps (control_start b)
  unfolding control_start parts_of
  start_caps =
      let states = length-map b.disps (λ (d : DispImage). disp.Ready) in
      record {
        ascending = forest.ascending;
        slots = each_from (λ slot cap. slot < 16 * length (map (λ (d : DispImage). disp.Ready) b.disps)) 0 b.disps (given_caps (λ slot cap. slot < 16 * length (map (λ (d : DispImage). disp.Ready) b.disps)) (λ d l c h. (let s = h.slot in omega (arith, states, l, s))));
        rights = each_from (λ slot (cap : Cap). cap.rights ≤ 7) 0 b.disps (given_caps (λ slot (cap : Cap). cap.rights ≤ 7) (λ d l c h. h.rights));
        parents = forest.parents;
        roots = forest.roots;
      }

  -- a state with the image's channels and lines
  module _ (s : State) (channels : length s.channels ≡ length image.channels) (lines : length s.lines ≡ image.lines) where
    cap_names : (k : CapKind) → NamesOf image n b k → Names s (control_start b) k
    unfolding control_start parts_of
    cap_names (kind.Ram f l) h = h
    cap_names (kind.Frame f l) h = h
    cap_names (kind.Port p) h = let r : length (replicate {A = List Message} b.ports []) ≡ b.ports = length-replicate b.ports [] in omega (arith, r, h)
    cap_names (kind.Signal i) h = let r : length (replicate {A = Option Latch} b.signals None) ≡ b.signals = length-replicate b.signals None in omega (arith, r, h)
    cap_names (kind.SendEnd y) h = let w = slice_get_within image.channels y.0 h.0 h.1 in omega (arith, w, channels)
    cap_names (kind.RecvEnd y) h = let w = slice_get_within image.channels y.0 h.0 h.1 in omega (arith, w, channels)
    cap_names (kind.Line l) h = omega (arith, h, lines)

    abbrev CapNames : ℕ → Cap → Type 0
    CapNames slot cap = Names s (control_start b) cap.kind

    caps_named : EachCap CapNames (seats_from 0 b.disps)
    caps_named = each_from CapNames 0 b.disps (given_caps CapNames (λ d l c h. cap_names c.cap.kind h.names))

    pub start_names : BlockNames s (control_start b)
    unfolding control_start parts_of
    start_names = record {
      caps = caps_named;
      waiters = each_map Given (StateNames s (control_start b)) (λ (d : DispImage). disp.Ready) (λ d h. tt) b.disps v.disps;
      timers = each_nil _;
      latches = each_replicate (λ (o : Option Latch). IfSome o (λ (l : Latch). SourceNames s l.source)) b.signals None tt;
    }

-- a line of which the block has a capability at the start is given to it
abbrev GivenLine : BlockImage → ℕ → Type 0
GivenLine b l = is_given_line l b ≡ true

given_at : (b : BlockImage) → EachGiven (LinesIn (GivenLine b)) 0 b.disps
given_at b d i e k c f l h = there_any (λ (d : DispImage). list_any (λ (c : CapImage). is_of_line l c.cap.kind) d.caps) b.disps i d e (there_any (λ (c : CapImage). is_of_line l c.cap.kind) i.caps c k f h)

start_lines : (b : BlockImage) → AreLines (GivenLine b) (control_start b)
unfolding control_start parts_of
start_lines b = each_from (LinesIn (GivenLine b)) 0 b.disps (given_at b)

pub line_given : (b : BlockImage) (l : ℕ) → has_cap_of_line l (control_start b) ≡ true → is_given_line l b ≡ true
line_given b l h = lines_of (GivenLine b) (control_start b) (start_lines b) l h
