-- What a wait for a signal comes to, and an armed timer.
use Rattle.std.proofs.Common.{◌≡◌, ℕ, zero, suc, ◌+◌, ◌<◌, ◌≤◌, ◌↔◌, List, [], ◌∷◌, length, ap, sym, refl, ◌∙◌, arith}
use Rattle.std.specs.Prelude.{Option, Some, None, Result, nat_le, is_none, IsTrue, IsOk, IsErr, if◌then◌else◌, slice_get, slice_set}
use Rattle.std.proofs.lemmas.Bool.{le-leb, lt-leb, and_parts, ltb-true}
use Rattle.dc_base.specs.declared.capabilities.Cap.{Cap}
use Rattle.dc_base.specs.declared.dispatchers.Wait.TheVariants as wait
use Rattle.dc_base.specs.declared.instructions.Instr.TheVariants.{Wait, Arm}
use Rattle.dc_base.specs.declared.interrupts.Latch.{Latch}
use Rattle.dc_base.specs.Capabilities.{is_other, is_signal, lacks, read_right, write_right}
use Rattle.dc_base.specs.ControlBlocks.{ControlBlock}
use Rattle.dc_base.specs.Effects.{Context, reg, with_reg, at_next_place}
use Rattle.dc_base.specs.Instructions.{is_proper}
use Rattle.dc_base.specs.Kernel.{Call, faults, waits, makes, takes, call_of, cap_in, number_in, take_latch, with_timer, with_next_place}
use Rattle.dc_base.specs.Parts.{Parts}
use Rattle.dc_base.specs.Ports.{latch_at}
use Rattle.dc_isa.specs.declared.dispatchers.Dispatcher.{Dispatcher}
use Rattle.dc_kcb.specs.Controls.{Store, Agenda, control_of}
use Rattle.dc_calls.specs.Contexts.{at_context}
use Rattle.dc_calls.proofs.CallContexts.{context_is}
use Rattle.dc_calls.proofs.CallResults.{err_not_ok}

pub wait_fields : (a b : ℕ) → IsTrue (is_proper (Wait a b)) → (a < 16) × (b < 8)
unfolding is_proper
wait_fields a b h = let parts = and_parts _ _ h in (ltb-true a 16 parts.0, ltb-true b 8 parts.1)

pub arm_fields : (a b imm : ℕ) → IsTrue (is_proper (Arm a b imm)) → (a < 16) × (b < 8)
unfolding is_proper
arm_fields a b imm h = let parts = and_parts _ _ h in (ltb-true a 16 parts.0, ltb-true b 8 (and_parts _ _ parts.1).0)

-- the call on the signal of a slot, where the right is there
abbrev on_slot : ℕ → Option Cap → (ℕ → Call) → Call
on_slot right o call = if is_none o then faults 4 else if is_other is_signal o then faults 6 else if lacks right o then faults 7 else call (number_in o)

module _ (time d a b : ℕ) (x : Context) (p : Parts) where
  pub wait_faults : (k : ℕ) → ((call : ℕ → Call) → on_slot read_right (cap_in d p a) call ≡ faults k) → call_of time d x (Wait a b) p ≡ faults k
  unfolding call_of
  wait_faults k e = e (λ n. take_latch d n b x p (latch_at p.signals n))

  pub wait_is : (s : ℕ) → ((call : ℕ → Call) → on_slot read_right (cap_in d p a) call ≡ call s) → call_of time d x (Wait a b) p ≡ take_latch d s b x p (latch_at p.signals s)
  unfolding call_of
  wait_is s e = e (λ n. take_latch d n b x p (latch_at p.signals n))

  abbrev arming : ℕ → ℕ → Call
  arming value n = if nat_le 64 (length p.timers) then faults 10 else makes None (with_timer (time + reg x b) n value (with_next_place d x p))

  pub arm_faults : (value k : ℕ) → ((call : ℕ → Call) → on_slot write_right (cap_in d p a) call ≡ faults k) → call_of time d x (Arm a b value) p ≡ faults k
  unfolding call_of
  arm_faults value k e = e (arming value)

  -- 64 timers are armed
  pub arm_full : {A E : Type 0} (r : Result A E) (value s : ℕ) → ((call : ℕ → Call) → on_slot write_right (cap_in d p a) call ≡ call s) → IsErr r → (IsErr r ↔ (64 ≤ length p.timers)) → call_of time d x (Arm a b value) p ≡ faults 10
  unfolding call_of
  arm_full r value s e err full = e (arming value) ∙ ap (λ t. if t then faults 10 else makes None (with_timer (time + reg x b) s value (with_next_place d x p))) (le-leb _ _ (full.0 err))

  -- one more is armed
  pub arm_makes : {A E : Type 0} (r : Result A E) (value s deadline : ℕ) → ((call : ℕ → Call) → on_slot write_right (cap_in d p a) call ≡ call s) → IsOk r → (IsErr r ↔ (64 ≤ length p.timers)) → deadline ≡ time + reg x b → call_of time d x (Arm a b value) p ≡ makes None (with_timer deadline s value (with_next_place d x p))
  unfolding call_of
  arm_makes r value s deadline e ok full due =
      e (arming value)
      ∙ (ap (λ t. if t then faults 10 else makes None (with_timer (time + reg x b) s value (with_next_place d x p))) (lt-leb _ _ (if_not (err_not_ok r ok) full.1))
      ∙ ap (λ n. makes None (with_timer n s value (with_next_place d x p))) (sym due))
    where
      if_not : {P : Type 0} → (P → ⊥) → (64 ≤ length p.timers → P) → length p.timers < 64
      if_not never more = let not_le : 64 ≤ length p.timers → ⊥ = λ h. never (more h) in omega arith

-- no latch is there to be taken
pub latch_waits : (d s b : ℕ) (x : Context) (p : Parts) → latch_at p.signals s ≡ None → take_latch d s b x p (latch_at p.signals s) ≡ waits (wait.Signal (record { 0 = s }))
latch_waits d s b x p e = ap (take_latch d s b x p) e

pub latch_takes : (d s b : ℕ) (x : Context) (p : Parts) (l : Latch) → latch_at p.signals s ≡ Some l → take_latch d s b x p (latch_at p.signals s) ≡ takes l (record p { contexts = slice_set p.contexts d (at_next_place (with_reg x b l.value)); signals = slice_set p.signals s None })
latch_takes d s b x p l e = ap (take_latch d s b x p) e

-- what a block has beside its agenda, where that tells nothing
abbrev pub no_store : Store
no_store = record { memory = []; code = []; caps = []; ports = [] }

-- a signal without a latch is left without one
none_kept : (signals : List (Option Latch)) (k : ℕ) → k < length signals → latch_at signals k ≡ None → slice_set signals k None ≡ signals
none_kept [] k h e = absurd (omega (arith, h))
none_kept (None ∷ ss) zero h e = refl
none_kept (Some l ∷ ss) zero h e = cc
none_kept (o ∷ ss) (suc k) h e = ap (λ ys. o ∷ ys) (none_kept ss k (omega (arith, h)) e)

module _ (s : Store) (a a' : Agenda) (before : ControlBlock) (is : control_of s a ≡ before) where
  pub agenda_kept : a' ≡ a → control_of s a' ≡ before
  agenda_kept same = ap (control_of s) same ∙ is

  -- what the agenda was is what the block has
  pub latch_of_block : (k : ℕ) (o : Option Latch) → o ≡ latch_at a.signals k → latch_at before.parts.signals k ≡ o
  latch_of_block k o e = ap (λ (y : ControlBlock). latch_at y.parts.signals k) (sym is) ∙ sym e

  module _ (k : ℕ) (taken : a' ≡ record a { signals = slice_set a.signals k None }) where
    pub none_taken : k < length before.parts.signals → None ≡ latch_at a.signals k → control_of s a' ≡ before
    none_taken within none =
        ap (control_of s) taken
        ∙ (ap (λ (y : ControlBlock). record y { parts = record y.parts { signals = slice_set y.parts.signals k None } }) is
        ∙ ap (λ ss. record before { parts = record before.parts { signals = ss } }) (none_kept before.parts.signals k within (latch_of_block k None none)))

    pub still_there : (d : ℕ) (e : Dispatcher) → slice_get a'.disps d ≡ Some e → slice_get a.disps d ≡ Some e
    still_there d e at = ap (λ (g : Agenda). slice_get g.disps d) (sym taken) ∙ at

    -- the register has the value, and the place moved on
    pub latch_taken : (a'' : Agenda) (d b value : ℕ) (e : Dispatcher) (x : Context) → slice_get a'.disps d ≡ Some e → slice_get before.parts.contexts d ≡ Some x →
        control_of s a'' ≡ at_context d (record { regs = slice_set e.regs b value; place = e.place + 1 }) (control_of s a') →
        control_of s a'' ≡ record before { parts = record before.parts { contexts = slice_set before.parts.contexts d (at_next_place (with_reg x b value)); signals = slice_set before.parts.signals k None } }
    latch_taken a'' d b value e x at there new =
        new
        ∙ (ap (λ c. at_context d (at_next_place (with_reg c b value)) (control_of s a')) (context_is s a before d e x is (still_there d e at) there)
        ∙ (ap (λ g. at_context d (at_next_place (with_reg x b value)) (control_of s g)) taken
        ∙ ap (λ (y : ControlBlock). record y { parts = record y.parts { contexts = slice_set y.parts.contexts d (at_next_place (with_reg x b value)); signals = slice_set y.parts.signals k None } }) is))

  module _ (deadline k value : ℕ) (armed : control_of s a' ≡ record (control_of s a) { parts = with_timer deadline k value (control_of s a).parts }) where
    -- one timer more
    pub timer_armed : control_of s a' ≡ record before { parts = with_timer deadline k value before.parts }
    timer_armed = armed ∙ ap (λ (y : ControlBlock). record y { parts = with_timer deadline k value y.parts }) is

    -- and the dispatcher went on
    pub timer_made : (d : ℕ) (x : Context) → ◌≡◌ {A = ControlBlock} (record (control_of s a') { parts = with_next_place d x (control_of s a').parts }) (record before { parts = with_timer deadline k value (with_next_place d x before.parts) })
    timer_made d x = ap (λ (y : ControlBlock). record y { parts = with_next_place d x y.parts }) timer_armed
