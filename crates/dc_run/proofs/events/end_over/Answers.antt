use Rattle.std.proofs.Common.{◌++◌, ◌∷◌, []}
use Rattle.std.proofs.lemmas.Result.{IfOk-weaker}
use Rattle.dc_crew.specs.Ended.{HasEnded}
use Rattle.dc_run.specs.Running.{HasRun}
use Rattle.dc_run.proofs.Whole.{has_run}
use Rattle.dc_run.proofs.events.end_over.Goals as goal

pub returns : goal.returns
returns c =
    let st = c.args.stage in
    let home = c.args.home in
    let over = c.requires.over in
    IfOk-weaker c.end.result (HasEnded st (home.seats.items ++ home.script ∷ [])) (HasRun st)
    (λ r ended. has_run st home.seats.items home.script over.going.crew r ended over.entries over.rest over.going.rests c.fruitless_cores_rest.ensures.cores
    (c.history_is_of_the_machine.ensures.sizes st.scene c.requires.opened.sizes) over.answered) c.end.ensures
