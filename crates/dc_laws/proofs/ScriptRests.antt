-- A script that is answered makes no more entries.
use Rattle.std.proofs.Common.{◌≡◌, ℕ, Bool, length, Option, ap}
use Rattle.std.specs.Prelude.{if◌then◌else◌, slice_get}
use Rattle.std.proofs.lemmas.Bool.{eq-eqb}
use Rattle.dc_base.specs.declared.actions.Actor.TheVariants as actor
use Rattle.dc_base.specs.declared.actions.Action.TheVariants as action
use Rattle.dc_base.specs.declared.entries.Reason.TheVariants as reason
use Rattle.dc_base.specs.Script.{next_raise}
use Rattle.dc_base.specs.States.{State}
use Rattle.dc_base.specs.Turns.{not_enabled, ends, outcome}
use Rattle.dc_base.specs.Commands.{raise_above, after_raises, command_turn}
use Rattle.dc_base.specs.Raises.{raise_turn}
use Rattle.dc_base.specs.Cores.{turn_of, core_step}
use Rattle.dc_base.specs.PlayText.{IsAnswered}

pub no_command_left : (s : State) (polls : ℕ) → IsAnswered s → core_step s polls actor.Script action.Script ≡ not_enabled reason.ScriptEnded
unfolding core_step turn_of
no_command_left s polls answered =
    let t = s.script in
    ap (λ (ended : Bool). outcome s (if ended then ends (not_enabled reason.ScriptEnded) else after_raises (raise_above t.place (next_raise t.lines t.raises)) (command_turn t polls (slice_get t.lines t.place))))
    (eq-eqb t.place (length t.lines) answered.commands)

pub no_raise_left : (s : State) (polls : ℕ) → IsAnswered s → core_step s polls actor.Script action.Raise ≡ not_enabled reason.NoRaise
unfolding core_step turn_of
no_raise_left s polls answered = ap (λ (next : Option ℕ). outcome s (raise_turn s.script next)) answered.raises
