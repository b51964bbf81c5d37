-- A dispatcher of a block is what its fields have at its number.
use Rattle.std.proofs.Common.{◌≡◌, ℕ, Some, None, refl, ◌∙◌, sym}
use Rattle.std.specs.Prelude.{Option, slice_get}
use Rattle.std.specs.Option.{option_map}
use Rattle.std.proofs.lemmas.Option.{slice_get-map}
use Rattle.dc_base.specs.declared.dispatchers.DispState.{DispState}
use Rattle.dc_base.specs.Words.{bind}
use Rattle.dc_base.specs.Effects.{Context}
use Rattle.dc_isa.specs.declared.dispatchers.Dispatcher.{Dispatcher}
use Rattle.dc_exec.specs.Steps.{context_of}
use Rattle.dc_kcb.specs.Controls.{Store, Agenda, control_of, state_of, due_of, period_of}
use Rattle.dc_kcb.specs.Readings.{disp_at}

abbrev joined : Option Context → Option DispState → Option ℕ → Option ℕ → Option Dispatcher
joined c state due period = bind c (λ c. bind state (λ state. bind due (λ due. option_map (λ period. record { regs = c.regs; place = c.place; state = state; due = due; period = period }) period)))

pub disp_is : (s : Store) (a : Agenda) (d : ℕ) → disp_at (control_of s a) d ≡ slice_get a.disps d
unfolding disp_at
disp_is s a d = there ∙ sym (by_disp (slice_get a.disps d))
  where
    there : disp_at (control_of s a) d ≡ joined (option_map context_of (slice_get a.disps d)) (option_map state_of (slice_get a.disps d)) (option_map due_of (slice_get a.disps d)) (option_map period_of (slice_get a.disps d))
    there = simp (slice_get-map)

    by_disp : (o : Option Dispatcher) → o ≡ joined (option_map context_of o) (option_map state_of o) (option_map due_of o) (option_map period_of o)
    by_disp None = refl
    by_disp (Some x) = refl
