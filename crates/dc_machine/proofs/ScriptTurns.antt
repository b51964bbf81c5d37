-- The polls after a turn.
use Rattle.std.proofs.Common.{◌≡◌, ℕ, refl, sym, ap, ◌∙◌, subst}
use Rattle.std.specs.Prelude.{if◌then◌else◌}
use Rattle.dc_base.specs.declared.actions.Action.{Action}
use Rattle.dc_base.specs.declared.actions.Action.TheVariants as action
use Rattle.dc_base.specs.declared.entries.Reason.{Reason}
use Rattle.dc_base.specs.declared.entries.Reason.TheVariants as reason
use Rattle.dc_base.specs.CoreRuns.{polls_after, polls_at}
use Rattle.dc_base.specs.States.{State}
use Rattle.dc_base.specs.Turns.{Outcome, did, not_enabled, spent}
use Rattle.dc_bodies.specs.declared.stops.Stepped.{Stepped}
use Rattle.dc_bodies.specs.declared.stops.Stepped.TheVariants as stepped
use Rattle.dc_machine.specs.Answers.{Answers, IsQuiet, is_did, polls_then}

quiet_at : (why : Reason) (polls : ℕ) → IsQuiet (stepped.NotEnabled why) → polls_at why polls ≡ polls
quiet_at reason.CoreOff polls h = refl
quiet_at reason.Nothing polls h = refl
quiet_at reason.NoOrder polls h = refl
quiet_at reason.NotPending polls h = refl
quiet_at (reason.NotRouted route) polls h = refl
quiet_at (reason.NotHere b) polls h = refl
quiet_at reason.NotWaiting polls h = refl
quiet_at reason.StillWaits polls h = refl
quiet_at (reason.NoAck c) polls h = refl
quiet_at (reason.RaisesFirst q) polls h = refl
quiet_at reason.CommandFirst polls h = refl
quiet_at reason.NoRaise polls h = refl
quiet_at reason.ScriptEnded polls h = refl
quiet_at (reason.Few seen new) polls h = absurd h

-- the polls after a turn of the script that was no poll
pub quiet_script : (r : Stepped) (s new : State) (polls : ℕ) (o : Outcome) → Answers r s new o → IsQuiet r → (if is_did r then 0 else polls) ≡ polls_then action.Script polls o
quiet_script r s new polls (did changes e) a h = ap (λ (t : Stepped). if is_did t then 0 else polls) a.0
quiet_script r s new polls (not_enabled why) a h = ap (λ (t : Stepped). if is_did t then 0 else polls) a.0 ∙ sym (quiet_at why polls (subst (λ t. IsQuiet t) a.0 h))
quiet_script r s new polls spent a h = ap (λ (t : Stepped). if is_did t then 0 else polls) a.0

-- an action that is not the script's command leaves the polls as they are
abbrev pub LeavesPolls : Action → Type 0
LeavesPolls a = (polls : ℕ) → polls_after a polls ≡ polls

pub quiet_other : (a : Action) (r : Stepped) (s new : State) (polls : ℕ) (o : Outcome) → LeavesPolls a → Answers r s new o → IsQuiet r → polls ≡ polls_then a polls o
quiet_other a r s new polls (did changes e) k q h = sym (k polls)
quiet_other a r s new polls (not_enabled why) k q h = sym (quiet_at why polls (subst (λ t. IsQuiet t) q.0 h))
quiet_other a r s new polls spent k q h = refl

-- an action that is not enabled leaves the polls as they are, but for a poll
pub unchanged : (a : Action) (polls : ℕ) (why : Reason) (o : Outcome) → o ≡ not_enabled why → IsQuiet (stepped.NotEnabled why) → polls ≡ polls_then a polls o
unchanged a polls why o e h = sym (ap (λ q. polls_then a polls q) e ∙ quiet_at why polls h)
