use Rattle.dc_base.specs.States.{core_start, settings_of}
use Rattle.dc_runs.proofs.OwnRuns.{run_leads, run_journal}
use Rattle.dc_runs.proofs.journals.lawful_histories_are_run_journals.Goals as goal

pub returns-clause-journal : goal.returns-clause-journal
returns-clause-journal c image script history valid lines lawful =
    let sound = c.the_start_is_sound.ensures image script valid lines in
    run_journal image script (λ h l. record {
      journal = c.lawful_histories_are_runs.ensures.journal (settings_of image) (core_start image script) h sound l;
      state = c.lawful_histories_are_runs.ensures.state (settings_of image) (core_start image script) h sound l;
    }) history lawful

pub returns-clause-state : goal.returns-clause-state
returns-clause-state c image script history valid lines lawful =
    let sound = c.the_start_is_sound.ensures image script valid lines in
    run_leads image script (λ h l. record {
      journal = c.lawful_histories_are_runs.ensures.journal (settings_of image) (core_start image script) h sound l;
      state = c.lawful_histories_are_runs.ensures.state (settings_of image) (core_start image script) h sound l;
    }) history lawful
