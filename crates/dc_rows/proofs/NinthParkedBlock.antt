-- A ninth parked block is refused.
-- Made by tools/worked_examples.py from examples/NinthParkedBlock.
use Rattle.std.specs.Prelude.{◌≡◌, ℕ, List, [], ◌∷◌, refl, true, false, None, Some}
use Rattle.std.specs.Option.{option_map}
use Rattle.dc_base.specs.declared.images.Image.{Image}
use Rattle.dc_base.specs.declared.kernels.Version.TheVariants.{Rr}
use Rattle.dc_base.specs.declared.kernels.Clocks.TheVariants.{Kept}
use Rattle.dc_base.specs.declared.actions.Actor.{Actor}
use Rattle.dc_base.specs.declared.actions.Action.{Action}
use Rattle.dc_base.specs.declared.commands.ScriptLine.{ScriptLine}
use Rattle.dc_base.specs.declared.entries.Entry.{Entry}
use Rattle.dc_base.specs.declared.reports.ReportLine.{ReportLine}
use Rattle.dc_base.specs.declared.dispatchers.DispState.TheVariants as state
use Rattle.dc_base.specs.Runs.{run}
use Rattle.dc_base.specs.CoreRuns.{core_run}
use Rattle.dc_base.specs.Origins.{image_origin}
use Rattle.dc_base.specs.Shown.{all_shown_by}
use Rattle.dc_base.specs.Headline.{blocks_reported, blocks_held}
use Rattle.dc_rows.specs.Computed.{machine_of_blocks, machine_with_cores, whole_texts}
use Rattle.dc_rows.specs.Facts.{facts_told, facts_of}
use Rattle.dc_rows.specs.Images as image_of
use Rattle.dc_rows.specs.Orders as order
use Rattle.dc_rows.specs.Played.{played, judged, first_bads}
use Rattle.dc_rows.specs.Reports as report_line
use Rattle.dc_rows.specs.Scripts as script_line
use Rattle.dc_rows.specs.Tabled.{tabled}
use Rattle.dc_rows.specs.Texts as texts
use Rattle.dc_rows.specs.WrongJournals.{without_line}

abbrev image : Image
image = record {
  format = 1;
  clocks = Kept;
  quantum = 4;
  slices = 100;
  lines = 0;
  cores =
      image_of.core 0 Rr ∷ image_of.core 0 Rr ∷ [];
  blocks =
      record {
        home = image_of.home 0;
        memory = [];
        ports = 0;
        signals = 0;
        disps =
            record {
              code =
                  16777223  -- li r0 7
                  ∷ 536870912  -- out r0
                  ∷ 335544320  -- halt
                  ∷ [];
              period = 1;
              due = 0;
              caps = [];
            }
            ∷ [];
      }
      ∷ record {
        home = None;
        memory = [];
        ports = 0;
        signals = 0;
        disps =
            record {
              code =
                  16777223  -- li r0 7
                  ∷ 536870912  -- out r0
                  ∷ 335544320  -- halt
                  ∷ [];
              period = 1;
              due = 0;
              caps = [];
            }
            ∷ [];
      }
      ∷ record {
        home = None;
        memory = [];
        ports = 0;
        signals = 0;
        disps =
            record {
              code =
                  16777223  -- li r0 7
                  ∷ 536870912  -- out r0
                  ∷ 335544320  -- halt
                  ∷ [];
              period = 1;
              due = 0;
              caps = [];
            }
            ∷ [];
      }
      ∷ record {
        home = None;
        memory = [];
        ports = 0;
        signals = 0;
        disps =
            record {
              code =
                  16777223  -- li r0 7
                  ∷ 536870912  -- out r0
                  ∷ 335544320  -- halt
                  ∷ [];
              period = 1;
              due = 0;
              caps = [];
            }
            ∷ [];
      }
      ∷ record {
        home = None;
        memory = [];
        ports = 0;
        signals = 0;
        disps =
            record {
              code =
                  16777223  -- li r0 7
                  ∷ 536870912  -- out r0
                  ∷ 335544320  -- halt
                  ∷ [];
              period = 1;
              due = 0;
              caps = [];
            }
            ∷ [];
      }
      ∷ record {
        home = None;
        memory = [];
        ports = 0;
        signals = 0;
        disps =
            record {
              code =
                  16777223  -- li r0 7
                  ∷ 536870912  -- out r0
                  ∷ 335544320  -- halt
                  ∷ [];
              period = 1;
              due = 0;
              caps = [];
            }
            ∷ [];
      }
      ∷ record {
        home = None;
        memory = [];
        ports = 0;
        signals = 0;
        disps =
            record {
              code =
                  16777223  -- li r0 7
                  ∷ 536870912  -- out r0
                  ∷ 335544320  -- halt
                  ∷ [];
              period = 1;
              due = 0;
              caps = [];
            }
            ∷ [];
      }
      ∷ record {
        home = None;
        memory = [];
        ports = 0;
        signals = 0;
        disps =
            record {
              code =
                  16777223  -- li r0 7
                  ∷ 536870912  -- out r0
                  ∷ 335544320  -- halt
                  ∷ [];
              period = 1;
              due = 0;
              caps = [];
            }
            ∷ [];
      }
      ∷ record {
        home = None;
        memory = [];
        ports = 0;
        signals = 0;
        disps =
            record {
              code =
                  16777223  -- li r0 7
                  ∷ 536870912  -- out r0
                  ∷ 335544320  -- halt
                  ∷ [];
              period = 1;
              due = 0;
              caps = [];
            }
            ∷ [];
      }
      ∷ record {
        home = None;
        memory = [];
        ports = 0;
        signals = 0;
        disps =
            record {
              code =
                  16777223  -- li r0 7
                  ∷ 536870912  -- out r0
                  ∷ 335544320  -- halt
                  ∷ [];
              period = 1;
              due = 0;
              caps = [];
            }
            ∷ [];
      }
      ∷ [];
  channels = [];
}

abbrev script : List ScriptLine
script =
    script_line.attach 1 1 ∷ script_line.park 1 0 ∷ script_line.attach 2 1 ∷ script_line.park 2 0 ∷ script_line.attach 3 1 ∷ script_line.park 3 0
    ∷ script_line.attach 4 1 ∷ script_line.park 4 0 ∷ script_line.attach 5 1 ∷ script_line.park 5 0 ∷ script_line.attach 6 1 ∷ script_line.park 6 0
    ∷ script_line.attach 7 1 ∷ script_line.park 7 0 ∷ script_line.attach 8 1 ∷ script_line.park 8 0 ∷ script_line.attach 9 1 ∷ script_line.park 9 0 ∷ []

abbrev schedule : List (Actor × Action)
schedule =
    texts.script ∷ texts.order 1 ∷ texts.script ∷ texts.script ∷ texts.order 1 ∷ texts.script ∷ texts.order 0 ∷ texts.script ∷ texts.script ∷ texts.order 1
    ∷ texts.script ∷ texts.script ∷ texts.order 1 ∷ texts.script ∷ texts.order 0 ∷ texts.script ∷ texts.script ∷ texts.order 1 ∷ texts.script ∷ texts.script
    ∷ texts.order 1 ∷ texts.script ∷ texts.order 0 ∷ texts.script ∷ texts.script ∷ texts.order 1 ∷ texts.script ∷ texts.script ∷ texts.order 1
    ∷ texts.script ∷ texts.order 0 ∷ texts.script ∷ texts.script ∷ texts.order 1 ∷ texts.script ∷ texts.script ∷ texts.order 1 ∷ texts.script
    ∷ texts.order 0 ∷ texts.script ∷ texts.script ∷ texts.order 1 ∷ texts.script ∷ texts.script ∷ texts.order 1 ∷ texts.script ∷ texts.order 0
    ∷ texts.script ∷ texts.script ∷ texts.order 1 ∷ texts.script ∷ texts.script ∷ texts.order 1 ∷ texts.script ∷ texts.order 0 ∷ texts.script ∷ texts.script
    ∷ texts.order 1 ∷ texts.script ∷ texts.script ∷ texts.order 1 ∷ texts.script ∷ texts.order 0 ∷ texts.script ∷ texts.script ∷ texts.order 1
    ∷ texts.script ∷ texts.script ∷ []

abbrev journal : List Entry
journal =
    texts.post 0 1 (order.adopt 1 false)
    ∷ texts.adopt 1 1 false 0
    ∷ texts.done 0
    ∷ texts.post 1 1 (order.release 1)
    ∷ texts.release 1 1 0
    ∷ texts.post 1 0 (order.adopt 1 true)
    ∷ texts.adopt 0 1 true 0
    ∷ texts.done 1
    ∷ texts.post 2 1 (order.adopt 2 false)
    ∷ texts.adopt 1 2 false 0
    ∷ texts.done 2
    ∷ texts.post 3 1 (order.release 2)
    ∷ texts.release 1 2 0
    ∷ texts.post 3 0 (order.adopt 2 true)
    ∷ texts.adopt 0 2 true 0
    ∷ texts.done 3
    ∷ texts.post 4 1 (order.adopt 3 false)
    ∷ texts.adopt 1 3 false 0
    ∷ texts.done 4
    ∷ texts.post 5 1 (order.release 3)
    ∷ texts.release 1 3 0
    ∷ texts.post 5 0 (order.adopt 3 true)
    ∷ texts.adopt 0 3 true 0
    ∷ texts.done 5
    ∷ texts.post 6 1 (order.adopt 4 false)
    ∷ texts.adopt 1 4 false 0
    ∷ texts.done 6
    ∷ texts.post 7 1 (order.release 4)
    ∷ texts.release 1 4 0
    ∷ texts.post 7 0 (order.adopt 4 true)
    ∷ texts.adopt 0 4 true 0
    ∷ texts.done 7
    ∷ texts.post 8 1 (order.adopt 5 false)
    ∷ texts.adopt 1 5 false 0
    ∷ texts.done 8
    ∷ texts.post 9 1 (order.release 5)
    ∷ texts.release 1 5 0
    ∷ texts.post 9 0 (order.adopt 5 true)
    ∷ texts.adopt 0 5 true 0
    ∷ texts.done 9
    ∷ texts.post 10 1 (order.adopt 6 false)
    ∷ texts.adopt 1 6 false 0
    ∷ texts.done 10
    ∷ texts.post 11 1 (order.release 6)
    ∷ texts.release 1 6 0
    ∷ texts.post 11 0 (order.adopt 6 true)
    ∷ texts.adopt 0 6 true 0
    ∷ texts.done 11
    ∷ texts.post 12 1 (order.adopt 7 false)
    ∷ texts.adopt 1 7 false 0
    ∷ texts.done 12
    ∷ texts.post 13 1 (order.release 7)
    ∷ texts.release 1 7 0
    ∷ texts.post 13 0 (order.adopt 7 true)
    ∷ texts.adopt 0 7 true 0
    ∷ texts.done 13
    ∷ texts.post 14 1 (order.adopt 8 false)
    ∷ texts.adopt 1 8 false 0
    ∷ texts.done 14
    ∷ texts.post 15 1 (order.release 8)
    ∷ texts.release 1 8 0
    ∷ texts.post 15 0 (order.adopt 8 true)
    ∷ texts.adopt 0 8 true 0
    ∷ texts.done 15
    ∷ texts.post 16 1 (order.adopt 9 false)
    ∷ texts.adopt 1 9 false 0
    ∷ texts.done 16
    ∷ texts.refused 17 (order.share_full 0)
    ∷ []

abbrev report : List ReportLine
report =
    report_line.core_on 0 Rr 0 (Some 0) (0 ∷ 1 ∷ 2 ∷ 3 ∷ 4 ∷ 5 ∷ 6 ∷ 7 ∷ 8 ∷ []) 0
    ∷ report_line.core_on 1 Rr 0 (Some 9) (9 ∷ []) 0
    ∷ report_line.block 0 (Some 0) 0 0
    ∷ report_line.disp 0 0 state.Ready 0 0
    ∷ report_line.ready 0 (0 ∷ [])
    ∷ report_line.block 1 (Some 0) 0 0
    ∷ report_line.disp 1 0 state.Ready 0 0
    ∷ report_line.ready 1 (0 ∷ [])
    ∷ report_line.block 2 (Some 0) 0 0
    ∷ report_line.disp 2 0 state.Ready 0 0
    ∷ report_line.ready 2 (0 ∷ [])
    ∷ report_line.block 3 (Some 0) 0 0
    ∷ report_line.disp 3 0 state.Ready 0 0
    ∷ report_line.ready 3 (0 ∷ [])
    ∷ report_line.block 4 (Some 0) 0 0
    ∷ report_line.disp 4 0 state.Ready 0 0
    ∷ report_line.ready 4 (0 ∷ [])
    ∷ report_line.block 5 (Some 0) 0 0
    ∷ report_line.disp 5 0 state.Ready 0 0
    ∷ report_line.ready 5 (0 ∷ [])
    ∷ report_line.block 6 (Some 0) 0 0
    ∷ report_line.disp 6 0 state.Ready 0 0
    ∷ report_line.ready 6 (0 ∷ [])
    ∷ report_line.block 7 (Some 0) 0 0
    ∷ report_line.disp 7 0 state.Ready 0 0
    ∷ report_line.ready 7 (0 ∷ [])
    ∷ report_line.block 8 (Some 0) 0 0
    ∷ report_line.disp 8 0 state.Ready 0 0
    ∷ report_line.ready 8 (0 ∷ [])
    ∷ report_line.block 9 (Some 1) 0 0
    ∷ report_line.disp 9 0 state.Ready 0 0
    ∷ report_line.ready 9 (0 ∷ [])
    ∷ []

abbrev text : List ℕ
text = texts.lines (
    "0 script 0 post 1 adopt 1 home"
    ∷ "1 core 1 adopt 1 home time 0"
    ∷ "2 script 0 done"
    ∷ "3 script 1 post 1 release 1"
    ∷ "4 core 1 release 1 time 0"
    ∷ "5 script 1 post 0 adopt 1 parked"
    ∷ "6 core 0 adopt 1 parked time 0"
    ∷ "7 script 1 done"
    ∷ "8 script 2 post 1 adopt 2 home"
    ∷ "9 core 1 adopt 2 home time 0"
    ∷ "10 script 2 done"
    ∷ "11 script 3 post 1 release 2"
    ∷ "12 core 1 release 2 time 0"
    ∷ "13 script 3 post 0 adopt 2 parked"
    ∷ "14 core 0 adopt 2 parked time 0"
    ∷ "15 script 3 done"
    ∷ "16 script 4 post 1 adopt 3 home"
    ∷ "17 core 1 adopt 3 home time 0"
    ∷ "18 script 4 done"
    ∷ "19 script 5 post 1 release 3"
    ∷ "20 core 1 release 3 time 0"
    ∷ "21 script 5 post 0 adopt 3 parked"
    ∷ "22 core 0 adopt 3 parked time 0"
    ∷ "23 script 5 done"
    ∷ "24 script 6 post 1 adopt 4 home"
    ∷ "25 core 1 adopt 4 home time 0"
    ∷ "26 script 6 done"
    ∷ "27 script 7 post 1 release 4"
    ∷ "28 core 1 release 4 time 0"
    ∷ "29 script 7 post 0 adopt 4 parked"
    ∷ "30 core 0 adopt 4 parked time 0"
    ∷ "31 script 7 done"
    ∷ "32 script 8 post 1 adopt 5 home"
    ∷ "33 core 1 adopt 5 home time 0"
    ∷ "34 script 8 done"
    ∷ "35 script 9 post 1 release 5"
    ∷ "36 core 1 release 5 time 0"
    ∷ "37 script 9 post 0 adopt 5 parked"
    ∷ "38 core 0 adopt 5 parked time 0"
    ∷ "39 script 9 done"
    ∷ "40 script 10 post 1 adopt 6 home"
    ∷ "41 core 1 adopt 6 home time 0"
    ∷ "42 script 10 done"
    ∷ "43 script 11 post 1 release 6"
    ∷ "44 core 1 release 6 time 0"
    ∷ "45 script 11 post 0 adopt 6 parked"
    ∷ "46 core 0 adopt 6 parked time 0"
    ∷ "47 script 11 done"
    ∷ "48 script 12 post 1 adopt 7 home"
    ∷ "49 core 1 adopt 7 home time 0"
    ∷ "50 script 12 done"
    ∷ "51 script 13 post 1 release 7"
    ∷ "52 core 1 release 7 time 0"
    ∷ "53 script 13 post 0 adopt 7 parked"
    ∷ "54 core 0 adopt 7 parked time 0"
    ∷ "55 script 13 done"
    ∷ "56 script 14 post 1 adopt 8 home"
    ∷ "57 core 1 adopt 8 home time 0"
    ∷ "58 script 14 done"
    ∷ "59 script 15 post 1 release 8"
    ∷ "60 core 1 release 8 time 0"
    ∷ "61 script 15 post 0 adopt 8 parked"
    ∷ "62 core 0 adopt 8 parked time 0"
    ∷ "63 script 15 done"
    ∷ "64 script 16 post 1 adopt 9 home"
    ∷ "65 core 1 adopt 9 home time 0"
    ∷ "66 script 16 done"
    ∷ "67 script 17 refused 9 ShareFull 0"
    ∷ "report"
    ∷ "core 0 on rr clock 0 home 0 share 0,1,2,3,4,5,6,7,8 used 0"
    ∷ "core 1 on rr clock 0 home 9 share 9 used 0"
    ∷ "block 0 core 0 time 0 armed 0"
    ∷ "disp 0 0 ready place 0 due 0"
    ∷ "ready 0 0"
    ∷ "block 1 core 0 time 0 armed 0"
    ∷ "disp 1 0 ready place 0 due 0"
    ∷ "ready 1 0"
    ∷ "block 2 core 0 time 0 armed 0"
    ∷ "disp 2 0 ready place 0 due 0"
    ∷ "ready 2 0"
    ∷ "block 3 core 0 time 0 armed 0"
    ∷ "disp 3 0 ready place 0 due 0"
    ∷ "ready 3 0"
    ∷ "block 4 core 0 time 0 armed 0"
    ∷ "disp 4 0 ready place 0 due 0"
    ∷ "ready 4 0"
    ∷ "block 5 core 0 time 0 armed 0"
    ∷ "disp 5 0 ready place 0 due 0"
    ∷ "ready 5 0"
    ∷ "block 6 core 0 time 0 armed 0"
    ∷ "disp 6 0 ready place 0 due 0"
    ∷ "ready 6 0"
    ∷ "block 7 core 0 time 0 armed 0"
    ∷ "disp 7 0 ready place 0 due 0"
    ∷ "ready 7 0"
    ∷ "block 8 core 0 time 0 armed 0"
    ∷ "disp 8 0 ready place 0 due 0"
    ∷ "ready 8 0"
    ∷ "block 9 core 1 time 0 armed 0"
    ∷ "disp 9 0 ready place 0 due 0"
    ∷ "ready 9 0"
    ∷ "skipped 0"
    ∷ "end"
    ∷ [])

is_played : played image script schedule ≡ record {
  journal = journal;
  skipped = 0;
  reasons = [];
  report = report;
  text = text;
  again = journal;
}
unfolding machine_with_cores whole_texts
is_played = refl

is_judged : judged image script journal ≡ record { is_run = true; shown = Some (all_shown_by report) }
unfolding machine_of_blocks
is_judged = refl

-- each entry touches what the table says
is_tabled : tabled image script schedule ≡ true
unfolding machine_with_cores
is_tabled = refl

-- each block is reported once, on the core that holds it or at rest
is_none_lost : blocks_reported report ≡ blocks_held (image_origin image script) journal
unfolding machine_of_blocks
is_none_lost = refl

-- the journal has told what the state shows
is_told : option_map facts_told (run image script journal)
    ≡ option_map (facts_of (core_run image script schedule).state) (run image script journal)
unfolding machine_with_cores machine_of_blocks
is_told = refl

-- journals that are changed, and the first bad entry of each
are_changed : first_bads image script (
    without_line 32 journal
    ∷ [])
    ≡ Some 32 ∷ []
unfolding machine_of_blocks
are_changed = refl
