-- The end of a slice, from what its call came to.
use Rattle.std.proofs.Common.{◌≡◌, ℕ, ◌+◌, Option, Some, [], ap, ◌∙◌, subst}
use Rattle.std.specs.Prelude.{max, slice_get}
use Rattle.std.proofs.lemmas.Option.{slice_get-get_or}
use Rattle.dc_base.specs.declared.calls.End.{End}
use Rattle.dc_base.specs.declared.calls.End.TheVariants as end
use Rattle.dc_base.specs.declared.calls.Need.{Need}
use Rattle.dc_base.specs.declared.calls.Op.{Op}
use Rattle.dc_base.specs.declared.dispatchers.DispState.TheVariants as disp
use Rattle.dc_base.specs.declared.dispatchers.Wait.{Wait}
use Rattle.dc_base.specs.declared.kernels.Version.{Version}
use Rattle.dc_base.specs.ControlBlocks.{ControlBlock}
use Rattle.dc_base.specs.Effects.{Context}
use Rattle.dc_base.specs.Firing.{wake_if}
use Rattle.dc_base.specs.Serving.{Outside, Served, faulted, held_up, served}
use Rattle.dc_base.specs.Slices.{Sliced, ready_last, with_state, due_after, with_due, after_served}
use Rattle.dc_calls.specs.declared.answers.Answer.{Answer}
use Rattle.dc_calls.specs.declared.answers.Answer.TheVariants as answer
use Rattle.dc_calls.specs.Serves.{IfNotMade, IsRunning}
use Rattle.dc_calls.proofs.CallContexts.{running_within}

abbrev ends : ControlBlock → ℕ → End → ℕ → Need → Outside → Sliced
ends x ran e advance n out = record { control = x; ran = ran; end = e; advance = advance; need = n; outside = out }

module _ (v : Version) (d ran : ℕ) (n : Need) (before after : ControlBlock) (out out' : Outside) (sv : Served) where
  pub fault_ends : (o : Op) (new : ControlBlock) (x : ℕ) → faulted x ≡ sv → after ≡ before → out' ≡ out → new ≡ due_after v d (with_state d (disp.Trapped x) after) →
      ends new ran (end.Trap x) (max ran 1) n out' ≡ with_due v d (after_served before d ran o n out sv)
  fault_ends o new x p q r e =
      ap (λ y. ends y ran (end.Trap x) (max ran 1) n out') e
      ∙ (ap (λ z. ends (due_after v d (with_state d (disp.Trapped x) z)) ran (end.Trap x) (max ran 1) n out') q
      ∙ (ap (λ u. ends (due_after v d (with_state d (disp.Trapped x) before)) ran (end.Trap x) (max ran 1) n u) r
      ∙ ap (λ a. with_due v d (after_served before d ran o n out a)) p))

  pub hold_ends : (op o : Op) → op ≡ o → (new : ControlBlock) (w : Wait) → held_up w ≡ sv → after ≡ before → out' ≡ out → new ≡ due_after v d (with_state d (disp.Waits w) after) →
      ends new ran (end.Hold op) (max ran 1) n out' ≡ with_due v d (after_served before d ran o n out sv)
  hold_ends op o same new w p q r e =
      ap (λ y. ends y ran (end.Hold op) (max ran 1) n out') e
      ∙ (ap (λ z. ends (due_after v d (with_state d (disp.Waits w) z)) ran (end.Hold op) (max ran 1) n out') q
      ∙ (ap (λ u. ends (due_after v d (with_state d (disp.Waits w) before)) ran (end.Hold op) (max ran 1) n u) r
      ∙ (ap (λ o. ends (due_after v d (with_state d (disp.Waits w) before)) ran (end.Hold o) (max ran 1) n out) same
      ∙ ap (λ a. with_due v d (after_served before d ran o n out a)) p)))

  pub made_ends : (op o : Op) → op ≡ o → (new woken : ControlBlock) (w : Option Wait) → served w after.parts out' ≡ sv → after ≡ record before { parts = after.parts } → woken ≡ wake_if w after → new ≡ due_after v d (ready_last d woken) →
      ends new ran (end.Call op) (ran + 1) n out' ≡ with_due v d (after_served before d ran o n out sv)
  made_ends op o same new woken w p q e f =
      ap (λ y. ends y ran (end.Call op) (ran + 1) n out') f
      ∙ (ap (λ z. ends (due_after v d (ready_last d z)) ran (end.Call op) (ran + 1) n out') e
      ∙ (ap (λ z. ends (due_after v d (ready_last d (wake_if w z))) ran (end.Call op) (ran + 1) n out') q
      ∙ (ap (λ o. ends (due_after v d (ready_last d (wake_if w (record before { parts = after.parts })))) ran (end.Call o) (ran + 1) n out') same
      ∙ ap (λ a. with_due v d (after_served before d ran o n out a)) p)))

-- nothing changes where a call is not made
pub fault_kept : (a : Answer) (x : ℕ) (P : Type 0) → a ≡ answer.Fault x → IfNotMade a P → P
fault_kept a x P e h = subst (λ a. IfNotMade a P) e h

pub hold_kept : (a : Answer) (w : Wait) (P : Type 0) → a ≡ answer.Hold w → IfNotMade a P → P
hold_kept a w P e h = subst (λ a. IfNotMade a P) e h

-- the dispatcher that runs has a context
pub running_context : (x : ControlBlock) (d : ℕ) → IsRunning d x → (c : Context) × (slice_get x.parts.contexts d ≡ Some c)
running_context x d h = (_, slice_get-get_or x.parts.contexts d (record { regs = []; place = 0 }) (running_within x d h))
