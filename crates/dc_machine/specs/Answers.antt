-- What a step of the machine answers.
use Rattle.std.specs.Prelude.{◌≡◌, ℕ, Bool, true, false, ⊤}
use Rattle.dc_base.specs.declared.actions.Action.{Action}
use Rattle.dc_base.specs.States.{State}
use Rattle.dc_base.specs.Changes.{apply}
use Rattle.dc_base.specs.CoreRuns.{polls_after, polls_at}
use Rattle.dc_base.specs.Turns.{Outcome, did, not_enabled, spent}
use Rattle.dc_bodies.specs.declared.stops.Stepped.{Stepped}
use Rattle.dc_bodies.specs.declared.stops.Stepped.TheVariants as stepped
use Rattle.dc_bodies.specs.Scripted.{IsNoPoll}

-- the answer is that of the outcome, and the new state is what the outcome makes of the old one
abbrev pub Answers : Stepped → State → State → Outcome → Type 0
Answers r old new (did changes e) = (r ≡ stepped.Did e) × (new ≡ apply old changes)
Answers r old new (not_enabled why) = (r ≡ stepped.NotEnabled why) × (new ≡ old)
Answers r old new spent = (r ≡ stepped.Spent) × (new ≡ old)

-- the polls after it, of the command at which the script stands then
abbrev pub polls_then : Action → ℕ → Outcome → ℕ
polls_then a polls (did changes e) = polls_after a polls
polls_then a polls (not_enabled why) = polls_at why polls
polls_then a polls spent = polls

-- the answer is not that a console has too few words
abbrev pub IsQuiet : Stepped → Type 0
IsQuiet (stepped.NotEnabled why) = IsNoPoll why
IsQuiet r = ⊤

abbrev pub is_did : Stepped → Bool
is_did (stepped.Did e) = true
is_did r = false
