-- The object that a call needs is there, and is of the same kind afterwards.
use Rattle.std.proofs.Common.{◌≡◌, ℕ, ◌<◌, Option, Some, None, refl, sym, ap, subst, arith, length}
use Rattle.std.specs.Prelude.{slice_get}
use Rattle.std.proofs.lemmas.Option.{slice_get_within}
use Rattle.dc_base.specs.declared.calls.Need.TheVariants as needs
use Rattle.dc_base.specs.declared.capabilities.CapKind.TheVariants as kind
use Rattle.dc_base.specs.declared.dispatchers.DispState.TheVariants as disp
use Rattle.dc_base.specs.declared.kernels.Version.{Version}
use Rattle.dc_base.specs.ControlBlocks.{ControlBlock}
use Rattle.dc_base.specs.Firing.{fire_all}
use Rattle.dc_base.specs.Kernel.{Call, faults, waits, makes, takes, prints, sends, receives, binds, gives, claims}
use Rattle.dc_base.specs.Named.{BlockNames}
use Rattle.dc_base.specs.Policies.{pick}
use Rattle.dc_base.specs.Serving.{need}
use Rattle.dc_base.specs.Slices.{Halfway, stopped, stands, halfway, need_of, without_ready}
use Rattle.dc_base.specs.Sound.{IsSound}
use Rattle.dc_base.specs.States.{State, Block, Whereabouts, rest, on}
use Rattle.dc_base.specs.Words.{bind}
use Rattle.dc_kernel.specs.Begins.{halfway_in, need_in}
use Rattle.dc_kernel.specs.Running.{Running, time_in}
use Rattle.dc_objects.specs.Blocks.{running_of}
use Rattle.dc_sound.proofs.BlockNaming.{keeps_names, held_names}
use Rattle.dc_block_sound.proofs.Calls.{CallFits}
use Rattle.dc_block_sound.proofs.ControlSteps.{Steps, kept_by, last, readied}
use Rattle.dc_block_sound.proofs.Ready.{fire_owes, ready_owes, owes_ready, picked_in}
use Rattle.dc_block_sound.proofs.Walks.{fire_steps, half_steps, is_ready_at, HalfFits}
use Rattle.dc_machine.specs.Lifts.{HasNeeded}

abbrev no_claim : ℕ → Type 0
no_claim l = ⊥

-- a call that fits needs a channel that is there
call_has : (s : State) (b d : ℕ) (y : ControlBlock) (call : Call) → b < length s.consoles → BlockNames s y → CallFits s no_claim y d call → HasNeeded s b (need call)
unfolding need
call_has s b d y (faults n) within names f = tt
call_has s b d y (waits w) within names f = tt
call_has s b d y (makes w p) within names f = tt
call_has s b d y (takes l p) within names f = tt
call_has s b d y (prints w p) within names f = within
call_has s b d y (sends x m p) within names f = held_names s y names (kind.SendEnd (record { 0 = x })) f.0
call_has s b d y (receives x a p) within names f = held_names s y names (kind.RecvEnd (record { 0 = x })) f.0
call_has s b d y (binds l n p) within names f = tt
call_has s b d y (gives l x rights p) within names f = tt
call_has s b d y (claims l x slot p) within names f = tt

half_has : (s : State) (b d : ℕ) (x : ControlBlock) (h : Halfway) → b < length s.consoles → BlockNames s x → HalfFits s d no_claim x h → HasNeeded s b (need_of h)
half_has s b d x (stopped y ran e) within names f = tt
half_has s b d x (stands y ran o call) within names f = call_has s b d y call within (kept_by s d no_claim (BlockNames s) (keeps_names s d no_claim) x y f.0 names) f.1

module _ (s : State) (p : IsSound s) (b : ℕ) (x : Block) (at : slice_get s.blocks b ≡ Some x) where
  consoles_within : b < length s.consoles
  consoles_within = let w = slice_get_within s.blocks b x at in let n = p.settled.blocks in let m = p.settled.consoles in omega (arith, w, n, m)

  module _ (quantum time : ℕ) (v : Version) where
    abbrev after : ControlBlock
    after = (fire_all time x.control).control

    ready_now : (d : ℕ) → pick v after.dues after.ready ≡ Some d → slice_get after.states d ≡ Some disp.Ready
    ready_now d e =
        let owes = fire_owes (λ d. 0) time x.control (ready_owes x.control (p.ready b x at)) in
        let counts = owes_ready after owes d in
        let there = picked_in v after.dues after.ready d e in
        is_ready_at (slice_get after.states d) (subst (λ n. 0 < n) counts there)

    half_at : (d : ℕ) → pick v after.dues after.ready ≡ Some d → (o : Option Halfway) → halfway quantum time (without_ready d after) d ≡ o → HasNeeded s b (need_in o)
    half_at d e None q = tt
    half_at d e (Some h) q =
        let names = p.named.blocks b x at in
        let fits = half_steps s d no_claim quantum time (without_ready d after) h (λ r. ready_now d e) q in
        let steps : Steps s d no_claim x.control (without_ready d after) = last s d no_claim x.control after (without_ready d after) (fire_steps s d no_claim time x.control) (readied _ _) in
        half_has s b d (without_ready d after) h consoles_within (kept_by s d no_claim (BlockNames s) (keeps_names s d no_claim) x.control (without_ready d after) steps names) fits

    picked_has : (o : Option ℕ) → pick v after.dues after.ready ≡ o → HasNeeded s b (need_in (bind o (λ d. halfway quantum time (without_ready d after) d)))
    picked_has None e = tt
    picked_has (Some d) e = half_at d e (halfway quantum time (without_ready d after) d) refl

  by_place : (quantum clock : ℕ) (r : Running) → r.control ≡ x.control → HasNeeded s b (need_in (halfway_in quantum clock r))
  by_place quantum clock r e = subst (λ (c : ControlBlock). HasNeeded s b (need_in (halfway_in quantum clock (record r { control = c })))) (sym e) (picked_has quantum (time_in clock r) r.version (pick r.version (after quantum (time_in clock r) r.version).dues (after quantum (time_in clock r) r.version).ready) refl)

  control_same : (w : Whereabouts) → x.whereabouts ≡ w → (running_of x).control ≡ x.control
  control_same (rest kept) e = ap (λ w. (running_of (record x { whereabouts = w })).control) e
  control_same (on c offset v) e = ap (λ w. (running_of (record x { whereabouts = w })).control) e

  -- what a slice of the block needs is there
  pub has_needed : (quantum clock : ℕ) → HasNeeded s b (need_in (halfway_in quantum clock (running_of x)))
  has_needed quantum clock = by_place quantum clock (running_of x) (control_same x.whereabouts refl)
