-- What worked examples are computed by: one name for the heads of each family of definitions.
use Rattle.std.specs.Fmt.{digits}
use Rattle.dc_base.specs.Instructions as instructions_
use Rattle.dc_base.specs.Effects as effects_
use Rattle.dc_base.specs.Capabilities as capabilities_
use Rattle.dc_base.specs.Timers as timers_
use Rattle.dc_base.specs.Ports as ports_
use Rattle.dc_base.specs.Parts as parts_
use Rattle.dc_base.specs.Kernel as kernel_
use Rattle.dc_base.specs.Channels as channels_
use Rattle.dc_base.specs.Lines as lines_
use Rattle.dc_base.specs.Boot as boot_
use Rattle.dc_base.specs.Blocks as blocks_
use Rattle.dc_base.specs.BlockCalls as blockcalls_
use Rattle.dc_base.specs.BlockSteps as blocksteps_
use Rattle.dc_base.specs.Holders as holders_
use Rattle.dc_base.specs.StrikeOut as strikeout_
use Rattle.dc_base.specs.Columns as columns_
use Rattle.dc_base.specs.ScriptColumns as scriptcolumns_
use Rattle.dc_base.specs.Answers as answers_
use Rattle.dc_base.specs.Runs as runs_
use Rattle.dc_base.specs.Shown as shown_
use Rattle.dc_base.specs.Headline as headline_
use Rattle.dc_base.specs.Policies as policies_
use Rattle.dc_base.specs.ControlBlocks as controlblocks_
use Rattle.dc_base.specs.States as states_
use Rattle.dc_base.specs.Firing as firing_
use Rattle.dc_base.specs.Serving as serving_
use Rattle.dc_base.specs.Slices as slices_
use Rattle.dc_base.specs.NeededLooks as neededlooks_
use Rattle.dc_base.specs.SliceTurns as sliceturns_
use Rattle.dc_base.specs.IdleTurns as idleturns_
use Rattle.dc_base.specs.Orders as orders_
use Rattle.dc_base.specs.Cores as cores_
use Rattle.dc_base.specs.CoreRuns as coreruns_
use Rattle.dc_base.specs.Report as report_
use Rattle.dc_base.specs.Histories as histories_
use Rattle.dc_base.specs.Progress as progress_
use Rattle.dc_base.specs.Objects as objects_
use Rattle.dc_base.specs.EntryText as entrytext_
use Rattle.dc_base.specs.ReportText as reporttext_
use Rattle.dc_base.specs.PlayText as playtext_
use Rattle.dc_base.specs.TextWords as textwords_
use Rattle.dc_base.specs.ScriptText as scripttext_
use Rattle.dc_base.specs.LooseEntries as looseentries_
use Rattle.dc_base.specs.JournalText as journaltext_
use Rattle.dc_base.specs.EntryRanges as entryranges_
use Rattle.dc_base.specs.ProgramText as programtext_
use Rattle.dc_base.specs.Operations as operations_

-- what both machines are computed by
unfoldable pub shared_parts : Unit {0}
unfolding instructions_.encode instructions_.is_proper instructions_.instr_at instructions_.decode effects_.effect effects_.act
    capabilities_.after_revoke capabilities_.after_delete capabilities_.without_line timers_.due_timer timers_.in_order ports_.signals_after
    parts_.parts_of kernel_.call_of channels_.after_send channels_.after_take channels_.ring_after_send channels_.ring_after_take lines_.after_raise
    lines_.wire_after_raise lines_.wire_after_intake boot_.boot_start boot_.after_order boot_.refusal boot_.orders
shared_parts = tt

-- what the machine of blocks and its runs are computed by
unfoldable pub machine_of_blocks : Unit {0}
unfolding shared_parts blocks_.blocks_start blocks_.move_of blocks_.instr_in blockcalls_.reply blockcalls_.reply_of blockcalls_.call_in
    blockcalls_.trap_at blockcalls_.trap_in blocksteps_.fire_in blocksteps_.raise_in blocksteps_.intake_in blocksteps_.advance_in
    blocksteps_.blocks_step holders_.held_start holders_.held_after_core holders_.held_after holders_.held holders_.holds_for holders_.well_held
    strikeout_.told_start strikeout_.core_events strikeout_.events_of strikeout_.told_after strikeout_.struck columns_.core_agrees
    scriptcolumns_.script_agrees columns_.columns_agree answers_.boot_after answers_.from_on answers_.answered_start answers_.script_answer
    answers_.core_answer answers_.answered_after runs_.seen_start runs_.entry_holds runs_.run_step runs_.run runs_.first_bad runs_.boot_state
    shown_.shown_by shown_.fates_of shown_.shown shown_.all_shown_by headline_.blocks_reported headline_.blocks_held
machine_of_blocks = tt

-- what the machine with cores and its reports are computed by
unfoldable pub machine_with_cores : Unit {0}
unfolding shared_parts policies_.pick policies_.next_block controlblocks_.control_start states_.core_start firing_.wake firing_.latch_in
    firing_.fire_all serving_.need serving_.serve slices_.halfway slices_.slice_end slices_.slice_of neededlooks_.look_outside neededlooks_.outside_change
    sliceturns_.slice_turn idleturns_.idle_outcome orders_.carry_out cores_.turn_of cores_.core_step coreruns_.core_run_from coreruns_.core_run
    report_.latches_of report_.report_lines histories_.touched histories_.IsLawful histories_.next progress_.boot_of objects_.object_number
    objects_.name_at objects_.at_number objects_.objects objects_.touched_numbers
machine_with_cores = tt

-- what the texts of runs are computed by
unfoldable pub whole_texts : Unit {0}
unfolding entrytext_.entry_text entrytext_.journal_text reporttext_.report_line_text reporttext_.report_text playtext_.played_text playtext_.play_text
    playtext_.summary_of playtext_.gen_text digits
whole_texts = tt

-- what scripts and schedules are read by
unfoldable pub read_scripts : Unit {0}
unfolding scripttext_.script_of scripttext_.schedule_of scripttext_.text_read scripttext_.script_line scripttext_.schedule_line
    scripttext_.command_of scripttext_.core_action_line scripttext_.read_core scripttext_.read_block scripttext_.read_line scripttext_.read_disp
    scripttext_.read_version scripttext_.number_within scripttext_.number_below textwords_.number_of
read_scripts = tt

-- what journals are read by
unfoldable pub read_journals : Unit {0}
unfolding journaltext_.journal_of journaltext_.entry_of looseentries_.candidate looseentries_.core_what looseentries_.script_what
    entrytext_.entry_text entryranges_.has_line digits
read_journals = tt

-- what texts of code are assembled by
unfoldable pub assembled_code : Unit {0}
unfolding programtext_.program_of programtext_.word_of operations_.operations textwords_.number_of digits
assembled_code = tt
