-- Each word of a control block has 32 bits, and stays so.
use Rattle.std.proofs.Common.{◌≡◌, ℕ, zero, suc, ◌+◌, ◌<◌, ◌^◌, List, [], ◌∷◌, ◌++◌, Option, Some, None, refl, sym, subst, arith, take, drop}
use Rattle.std.specs.Prelude.{slice_get, slice_set, ◌==◌, not, IfSome}
use Rattle.std.proofs.lemmas.List.{length-take, length-drop}
use Rattle.dc_base.specs.declared.capabilities.CapKind.TheVariants as kind
use Rattle.dc_base.specs.declared.interrupts.Latch.{Latch}
use Rattle.dc_base.specs.declared.interrupts.Timer.{Timer}
use Rattle.dc_base.specs.declared.messages.Message.{Message}
use Rattle.dc_base.specs.Words.{Each, elements}
use Rattle.dc_base.specs.Channels.{Ring}
use Rattle.dc_base.specs.ControlBlocks.{ControlBlock}
use Rattle.dc_base.specs.Effects.{Context, reg, with_reg, at_next_place}
use Rattle.dc_base.specs.KeptByBlocks.{HasShape, HasWords, AreWords, IsMessage}
use Rattle.dc_base.specs.KeptOutside.{KeepsRings}
use Rattle.dc_base.specs.Lines.{Wire, line_latch}
use Rattle.dc_base.specs.Named.{BlockNames}
use Rattle.dc_base.specs.Parts.{with_words, words_at}
use Rattle.dc_base.specs.Ports.{messages_in, latch_of, latch_at, signal_after, signals_after}
use Rattle.dc_base.specs.States.{State}
use Rattle.dc_base.proofs.EachLaws.{each-set, each-change, each-append, each_nil}
use Rattle.dc_base.proofs.Ascending.{each_filter}
use Rattle.dc_sound.proofs.BlockNaming.{held_names}
use Rattle.dc_block_sound.proofs.Calls.{IsRead}
use Rattle.dc_block_sound.proofs.ControlSteps.{InFrame, timer_latch, fired, latched, went, moved_on, latch_taken, port_sent, port_taken, received, armed, StepKeepsUnder}
use Rattle.dc_block_sound.proofs.Forms.{going}
use Rattle.dc_block_sound.proofs.PlainMoves.{Going, one_set, two_set, jumped, passed, stored, index_word}

-- words of a memory

take_there : {A : Type 0} (n : ℕ) (xs : List A) (i : ℕ) (x : A) → slice_get (take n xs) i ≡ Some x → slice_get xs i ≡ Some x
take_there zero xs i x e = absurd cc
take_there (suc n) [] i x e = absurd cc
take_there (suc n) (y ∷ ys) zero x e = e
take_there (suc n) (y ∷ ys) (suc i) x e = take_there n ys i x e

drop_there : {A : Type 0} (n : ℕ) (xs : List A) (i : ℕ) (x : A) → slice_get (drop n xs) i ≡ Some x → (j : ℕ) × (slice_get xs j ≡ Some x)
drop_there zero xs i x e = (i, e)
drop_there (suc n) [] i x e = absurd cc
drop_there (suc n) (y ∷ ys) i x e = let w = drop_there n ys i x e in (suc w.0, w.1)

pub read_words : (memory : List ℕ) (address : ℕ) → AreWords memory → AreWords (words_at memory address).0
read_words memory address h i w e = let j = drop_there address memory i w (take_there 4 (drop address memory) i w e) in h j.0 w j.1

pub set_words : (memory : List ℕ) (i w : ℕ) → w < 2 ^ 32 → AreWords memory → AreWords (slice_set memory i w)
set_words memory i w l h = each-set (λ i w. w < 2 ^ 32) memory i w h l

written_words : (ws : List ℕ) (address : ℕ) (memory : List ℕ) → AreWords ws → AreWords memory → AreWords (with_words address ws memory)
written_words [] address memory f h = h
written_words (w ∷ ws) address memory f h = written_words ws (address + 1) (slice_set memory address w) (λ i v e. f (suc i) v e) (set_words memory address w (f 0 w refl) h)

abbrev pub IsShort : Option Latch → Type 0
IsShort o = IfSome o (λ (l : Latch). l.value < 2 ^ 32)

signal_short : (l : Latch) (o : Option Latch) → l.value < 2 ^ 32 → IsShort o → IsShort (signal_after l o)
signal_short l None n k = n
signal_short l (Some m) n k = k

signals_short : (signal : ℕ) (l : Latch) (signals : List (Option Latch)) → l.value < 2 ^ 32 → Each signals (λ i o. IsShort o) → Each (signals_after signal l signals) (λ i o. IsShort o)
unfolding signals_after
signals_short signal l signals n h = each-change (λ i o. IsShort o) (signal_after l) signal signals h (λ o k. signal_short l o n k)

latch_short : (signals : List (Option Latch)) (signal : ℕ) (l : Latch) → Each signals (λ i o. IsShort o) → latch_at signals signal ≡ Some l → l.value < 2 ^ 32
latch_short signals signal l h e = by_signal (slice_get signals signal) refl e
  where
    by_signal : (o : Option (Option Latch)) → slice_get signals signal ≡ o → latch_of o ≡ Some l → l.value < 2 ^ 32
    by_signal None q e = absurd cc
    by_signal (Some o) q e = subst IsShort e (h signal o q)

port_messages : (ports : List (List Message)) → Each ports (λ p ms. Each ms (λ i m. IsMessage m)) → (p : ℕ) → Each (messages_in ports p) (λ i m. IsMessage m)
port_messages ports h p = by_port (slice_get ports p) refl
  where
    by_port : (o : Option (List Message)) → slice_get ports p ≡ o → Each (elements o) (λ i m. IsMessage m)
    by_port None e = each_nil (λ i m. IsMessage m)
    by_port (Some ms) e = h p ms e

-- what a plain instruction leaves

going_words : {c new : Context} {memory after : List ℕ} → AreWords c.regs → AreWords memory → Going c memory new after → AreWords new.regs
going_words {c = c} r m (one_set a v f) = set_words c.regs a v (f r m) r
going_words {c = c} r m (two_set a b v w f g) = set_words (slice_set c.regs a v) b w g (set_words c.regs a v f r)
going_words r m (jumped imm f) = r
going_words r m passed = r
going_words r m (stored address a) = r

going_stores : {c new : Context} {memory after : List ℕ} → AreWords c.regs → AreWords memory → Going c memory new after → AreWords after
going_stores r m (one_set a v f) = m
going_stores r m (two_set a b v w f g) = m
going_stores r m (jumped imm f) = m
going_stores r m passed = m
going_stores {c = c} {memory = memory} r m (stored address a) = set_words memory address (reg c a) (index_word c.regs a r) m

-- four words of a frame are a message
pub frame_message : (s : State) (x : ControlBlock) → HasShape x → BlockNames s x → HasWords x → (address : ℕ) → InFrame x.parts address → IsMessage (words_at x.parts.memory address)
frame_message s x shape names h address f =
    let n = (held_names s x names (kind.Frame f.0 f.1) f.2).1 in
    let a = length-take 4 (drop address x.parts.memory) in
    let b = length-drop address x.parts.memory in
    let m = shape.memory in
    let g = f.3 in
    (omega (arith, n, a, b, m, g), read_words x.parts.memory address h.memory)

pub read_message : (s : State) (x : ControlBlock) → HasShape x → BlockNames s x → HasWords x → (m : Message) → IsRead x m → IsMessage m
read_message s x shape names h m r = subst IsMessage (sym r.1) (frame_message s x shape names h r.0 r.2)

-- with another context of a dispatcher
regs_now : (x : ControlBlock) → HasWords x → (d : ℕ) (new : Context) → AreWords new.regs → Each (slice_set x.parts.contexts d new) (λ d (c : Context). AreWords c.regs)
regs_now x h d new f = each-set (λ d (c : Context). AreWords c.regs) x.parts.contexts d new h.regs f

-- the number of each pending raise has 32 bits
abbrev pub PendingShort : State → Type 0
PendingShort s = Each s.lines (λ l w. IfSome w.pending (λ n. n < 2 ^ 32))

abbrev pub ShapeAndNames : State → ControlBlock → Type 0
ShapeAndNames s x = HasShape x × BlockNames s x

module _ (s : State) (rings : KeepsRings s) (pending : PendingShort s) where
  pending_short : (l n : ℕ) (w : Wire) → slice_get s.lines l ≡ Some w → w.pending ≡ Some n → n < 2 ^ 32
  pending_short l n w e f = subst (λ (o : Option ℕ). IfSome o (λ n. n < 2 ^ 32)) f (pending l w e)

  first_message : (y : ℕ) (r : Ring) (m : Message) (ms : List Message) → slice_get s.channels y ≡ Some r → r.untaken ≡ m ∷ ms → IsMessage m
  first_message y r m ms e f = (subst (λ ms. Each ms (λ i m. IsMessage m)) f (rings y r e).messages) 0 m refl

  pub keeps_words : StepKeepsUnder s (ShapeAndNames s) HasWords
  keeps_words d C x y (fired _ i t f) q h = record {
    memory = h.memory;
    code = h.code;
    regs = h.regs;
    messages = h.messages;
    timers = each_filter (λ (u : Timer). u.value < 2 ^ 32) (λ (u : Timer). not (u.number == t.number)) x.parts.timers h.timers;
    latches = signals_short t.signal.0 (timer_latch t) x.parts.signals (h.timers i t f) h.latches;
  }
  keeps_words d C x y (latched _ signal l n w f g) q h = record {
    memory = h.memory;
    code = h.code;
    regs = h.regs;
    timers = h.timers;
    messages = h.messages;
    latches = signals_short signal (line_latch l n) x.parts.signals (pending_short l n w f g) h.latches;
  }
  keeps_words d C x y (went _ time code c new memory r f) q h =
      let g = going time code c x.parts.memory new memory f in
      let old = h.regs d c r.context_at in
      record { code = h.code; timers = h.timers; messages = h.messages; latches = h.latches; memory = going_stores old h.memory g; regs = regs_now x h d new (going_words old h.memory g) }
  keeps_words d C x y (moved_on _ code c r) q h = record { memory = h.memory; code = h.code; timers = h.timers; messages = h.messages; latches = h.latches; regs = regs_now x h d (at_next_place c) (h.regs d c r.context_at) }
  keeps_words d C x y (latch_taken _ code c signal b l r f) q h = record {
    memory = h.memory;
    code = h.code;
    timers = h.timers;
    messages = h.messages;
    regs = regs_now x h d (at_next_place (with_reg c b l.value)) (set_words c.regs b l.value (latch_short x.parts.signals signal l h.latches f) (h.regs d c r.context_at));
    latches = each-set (λ i o. IsShort o) x.parts.signals signal None h.latches tt;
  }
  keeps_words d C x y (port_sent _ p address f r) q h = record {
    memory = h.memory;
    code = h.code;
    regs = h.regs;
    timers = h.timers;
    latches = h.latches;
    messages = each-change (λ p ms. Each ms (λ i m. IsMessage m)) (λ (ms : List Message). ms ++ words_at x.parts.memory address ∷ []) p x.parts.ports h.messages (λ ms k. each-append (λ i m. IsMessage m) ms (words_at x.parts.memory address) k (frame_message s x q.0 q.1 h address f));
  }
  keeps_words d C x y (port_taken _ p address m ms f) q h =
      let all = subst (λ ms. Each ms (λ i m. IsMessage m)) f (port_messages x.parts.ports h.messages p) in
      record {
        code = h.code;
        regs = h.regs;
        timers = h.timers;
        latches = h.latches;
        memory = written_words m.0 address x.parts.memory (all 0 m refl).1 h.memory;
        messages = each-set (λ p ms. Each ms (λ i m. IsMessage m)) x.parts.ports p ms h.messages (λ i n e. all (suc i) n e);
      }
  keeps_words d C x y (received _ z address r m ms f g) q h = record {
    code = h.code;
    regs = h.regs;
    timers = h.timers;
    messages = h.messages;
    latches = h.latches;
    memory = written_words m.0 address x.parts.memory (first_message z r m ms f g).1 h.memory;
  }
  keeps_words d C x y (armed _ deadline signal value r f g) q h = record {
    memory = h.memory;
    code = h.code;
    regs = h.regs;
    messages = h.messages;
    latches = h.latches;
    timers = each-append (λ i (t : Timer). t.value < 2 ^ 32) x.parts.timers _ h.timers (omega (arith, g));
  }
  keeps_words d C x y st q h = record { memory = h.memory; code = h.code; regs = h.regs; timers = h.timers; messages = h.messages; latches = h.latches }
