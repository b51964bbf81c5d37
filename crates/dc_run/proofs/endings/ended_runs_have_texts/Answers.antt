use Rattle.dc_base.specs.States.{core_start, settings_of}
use Rattle.dc_run.proofs.Leaving.{AreKnown, has_text}
use Rattle.dc_run.proofs.endings.ended_runs_have_texts.Goals as goal

pub returns : goal.returns
returns c image lines st kinds r valid script of opened room ran =
    let start = core_start image lines in
    let sound = c.the_start_is_sound.ensures image lines valid script in
    let known : AreKnown image lines = record {
      journals = λ log. c.lawful_histories_are_run_journals.ensures.journal image lines log valid script;
      states = λ log. c.lawful_histories_are_run_journals.ensures.state image lines log valid script;
      short = λ log. c.histories_are_short.ensures image lines log valid script;
      few = script.most;
      lined = λ schedule. c.entries_are_in_range.ensures.lines image lines schedule valid script;
      sound = λ log. c.histories_keep_sound.ensures (settings_of image) start log sound;
    }
    in
    has_text image lines st of known (c.history_is_of_the_machine.ensures.sizes st.scene opened.sizes) kinds room r ran
