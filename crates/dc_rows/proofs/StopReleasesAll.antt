-- Stop releases a home block and two parked ones, which other cores take.
-- Made by tools/worked_examples.py from examples/StopReleasesAll.
use Rattle.std.specs.Prelude.{◌≡◌, ℕ, List, [], ◌∷◌, refl, true, false, Some}
use Rattle.std.specs.Option.{option_map}
use Rattle.dc_base.specs.declared.images.Image.{Image}
use Rattle.dc_base.specs.declared.kernels.Version.TheVariants.{Rr}
use Rattle.dc_base.specs.declared.kernels.Clocks.TheVariants.{Kept}
use Rattle.dc_base.specs.declared.actions.Actor.{Actor}
use Rattle.dc_base.specs.declared.actions.Action.{Action}
use Rattle.dc_base.specs.declared.commands.ScriptLine.{ScriptLine}
use Rattle.dc_base.specs.declared.entries.Entry.{Entry}
use Rattle.dc_base.specs.declared.reports.ReportLine.{ReportLine}
use Rattle.dc_base.specs.declared.dispatchers.DispState.TheVariants as state
use Rattle.dc_base.specs.Runs.{run}
use Rattle.dc_base.specs.CoreRuns.{core_run}
use Rattle.dc_base.specs.Origins.{image_origin}
use Rattle.dc_base.specs.Shown.{all_shown_by}
use Rattle.dc_base.specs.Headline.{blocks_reported, blocks_held}
use Rattle.dc_rows.specs.Computed.{machine_of_blocks, machine_with_cores, whole_texts}
use Rattle.dc_rows.specs.Facts.{facts_told, facts_of}
use Rattle.dc_rows.specs.Images as image_of
use Rattle.dc_rows.specs.Orders as order
use Rattle.dc_rows.specs.Played.{played, judged, first_bads}
use Rattle.dc_rows.specs.Reports as report_line
use Rattle.dc_rows.specs.Scripts as script_line
use Rattle.dc_rows.specs.Tabled.{tabled}
use Rattle.dc_rows.specs.Texts as texts
use Rattle.dc_rows.specs.WrongJournals.{with_line, line_added}

abbrev image : Image
image = record {
  format = 1;
  clocks = Kept;
  quantum = 4;
  slices = 100;
  lines = 0;
  cores =
      image_of.core 0 Rr ∷ image_of.core 0 Rr ∷ image_of.core 0 Rr ∷ image_of.core 0 Rr ∷ [];
  blocks =
      record {
        home = image_of.home 0;
        memory = [];
        ports = 0;
        signals = 0;
        disps =
            record {
              code =
                  16777223  -- li r0 7
                  ∷ 536870912  -- out r0
                  ∷ 335544320  -- halt
                  ∷ [];
              period = 1;
              due = 0;
              caps = [];
            }
            ∷ [];
      }
      ∷ record {
        home = image_of.home 1;
        memory = [];
        ports = 0;
        signals = 0;
        disps =
            record {
              code =
                  16777223  -- li r0 7
                  ∷ 536870912  -- out r0
                  ∷ 335544320  -- halt
                  ∷ [];
              period = 1;
              due = 0;
              caps = [];
            }
            ∷ [];
      }
      ∷ record {
        home = image_of.home 2;
        memory = [];
        ports = 0;
        signals = 0;
        disps =
            record {
              code =
                  16777223  -- li r0 7
                  ∷ 536870912  -- out r0
                  ∷ 335544320  -- halt
                  ∷ [];
              period = 1;
              due = 0;
              caps = [];
            }
            ∷ [];
      }
      ∷ [];
  channels = [];
}

abbrev script : List ScriptLine
script =
    script_line.park 1 0 ∷ script_line.park 2 0 ∷ script_line.stop 0 ∷ script_line.attach 0 1 ∷ script_line.attach 1 2 ∷ script_line.attach 2 3 ∷ []

abbrev schedule : List (Actor × Action)
schedule =
    texts.script ∷ texts.order 1 ∷ texts.script ∷ texts.order 0 ∷ texts.script ∷ texts.script ∷ texts.order 2 ∷ texts.script ∷ texts.order 0 ∷ texts.script
    ∷ texts.script ∷ texts.order 0 ∷ texts.script ∷ texts.script ∷ texts.order 1 ∷ texts.script ∷ texts.script ∷ texts.order 2 ∷ texts.script ∷ texts.script
    ∷ texts.order 3 ∷ texts.script ∷ []

abbrev journal : List Entry
journal =
    texts.post 0 1 (order.release 1)
    ∷ texts.release 1 1 0
    ∷ texts.post 0 0 (order.adopt 1 true)
    ∷ texts.adopt 0 1 true 0
    ∷ texts.done 0
    ∷ texts.post 1 2 (order.release 2)
    ∷ texts.release 2 2 0
    ∷ texts.post 1 0 (order.adopt 2 true)
    ∷ texts.adopt 0 2 true 0
    ∷ texts.done 1
    ∷ texts.post 2 0 order.stop
    ∷ texts.stop 0 3
    ∷ texts.done 2
    ∷ texts.post 3 1 (order.adopt 0 false)
    ∷ texts.adopt 1 0 false 0
    ∷ texts.done 3
    ∷ texts.post 4 2 (order.adopt 1 false)
    ∷ texts.adopt 2 1 false 0
    ∷ texts.done 4
    ∷ texts.post 5 3 (order.adopt 2 false)
    ∷ texts.adopt 3 2 false 0
    ∷ texts.done 5
    ∷ []

abbrev report : List ReportLine
report =
    report_line.core_off 0 0 0
    ∷ report_line.core_on 1 Rr 0 (Some 0) (0 ∷ []) 0
    ∷ report_line.core_on 2 Rr 0 (Some 1) (1 ∷ []) 0
    ∷ report_line.core_on 3 Rr 0 (Some 2) (2 ∷ []) 0
    ∷ report_line.block 0 (Some 1) 0 0
    ∷ report_line.disp 0 0 state.Ready 0 0
    ∷ report_line.ready 0 (0 ∷ [])
    ∷ report_line.block 1 (Some 2) 0 0
    ∷ report_line.disp 1 0 state.Ready 0 0
    ∷ report_line.ready 1 (0 ∷ [])
    ∷ report_line.block 2 (Some 3) 0 0
    ∷ report_line.disp 2 0 state.Ready 0 0
    ∷ report_line.ready 2 (0 ∷ [])
    ∷ []

abbrev text : List ℕ
text = texts.lines (
    "0 script 0 post 1 release 1"
    ∷ "1 core 1 release 1 time 0"
    ∷ "2 script 0 post 0 adopt 1 parked"
    ∷ "3 core 0 adopt 1 parked time 0"
    ∷ "4 script 0 done"
    ∷ "5 script 1 post 2 release 2"
    ∷ "6 core 2 release 2 time 0"
    ∷ "7 script 1 post 0 adopt 2 parked"
    ∷ "8 core 0 adopt 2 parked time 0"
    ∷ "9 script 1 done"
    ∷ "10 script 2 post 0 stop"
    ∷ "11 core 0 stop 3"
    ∷ "12 script 2 done"
    ∷ "13 script 3 post 1 adopt 0 home"
    ∷ "14 core 1 adopt 0 home time 0"
    ∷ "15 script 3 done"
    ∷ "16 script 4 post 2 adopt 1 home"
    ∷ "17 core 2 adopt 1 home time 0"
    ∷ "18 script 4 done"
    ∷ "19 script 5 post 3 adopt 2 home"
    ∷ "20 core 3 adopt 2 home time 0"
    ∷ "21 script 5 done"
    ∷ "report"
    ∷ "core 0 off clock 0 used 0"
    ∷ "core 1 on rr clock 0 home 0 share 0 used 0"
    ∷ "core 2 on rr clock 0 home 1 share 1 used 0"
    ∷ "core 3 on rr clock 0 home 2 share 2 used 0"
    ∷ "block 0 core 1 time 0 armed 0"
    ∷ "disp 0 0 ready place 0 due 0"
    ∷ "ready 0 0"
    ∷ "block 1 core 2 time 0 armed 0"
    ∷ "disp 1 0 ready place 0 due 0"
    ∷ "ready 1 0"
    ∷ "block 2 core 3 time 0 armed 0"
    ∷ "disp 2 0 ready place 0 due 0"
    ∷ "ready 2 0"
    ∷ "skipped 0"
    ∷ "end"
    ∷ [])

is_played : played image script schedule ≡ record {
  journal = journal;
  skipped = 0;
  reasons = [];
  report = report;
  text = text;
  again = journal;
}
unfolding machine_with_cores whole_texts
is_played = refl

is_judged : judged image script journal ≡ record { is_run = true; shown = Some (all_shown_by report) }
unfolding machine_of_blocks
is_judged = refl

-- each entry touches what the table says
is_tabled : tabled image script schedule ≡ true
unfolding machine_with_cores
is_tabled = refl

-- each block is reported once, on the core that holds it or at rest
is_none_lost : blocks_reported report ≡ blocks_held (image_origin image script) journal
unfolding machine_of_blocks
is_none_lost = refl

-- the journal has told what the state shows
is_told : option_map facts_told (run image script journal)
    ≡ option_map (facts_of (core_run image script schedule).state) (run image script journal)
unfolding machine_with_cores machine_of_blocks
is_told = refl

-- journals that are changed, and the first bad entry of each
are_changed : first_bads image script (
    with_line 3 (texts.adopt 0 3 true 0) journal
    ∷ line_added 20 (texts.release 2 2 0) journal
    ∷ [])
    ≡ Some 3 ∷ Some 20 ∷ []
unfolding machine_of_blocks
are_changed = refl
