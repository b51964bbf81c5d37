-- A block catches up with the clock of the core that adopts it.
-- Made by tools/worked_examples.py from examples/BlockCatchesUpWithAdopter.
use Rattle.std.specs.Prelude.{◌≡◌, ℕ, List, [], ◌∷◌, refl, true, false, None, Some}
use Rattle.std.specs.Option.{option_map}
use Rattle.dc_base.specs.declared.images.Image.{Image}
use Rattle.dc_base.specs.declared.kernels.Version.TheVariants.{Rr}
use Rattle.dc_base.specs.declared.kernels.Clocks.TheVariants.{Running}
use Rattle.dc_base.specs.declared.actions.Actor.{Actor}
use Rattle.dc_base.specs.declared.actions.Action.{Action}
use Rattle.dc_base.specs.declared.calls.Op.TheVariants as op
use Rattle.dc_base.specs.declared.calls.End.TheVariants as end
use Rattle.dc_base.specs.declared.commands.ScriptLine.{ScriptLine}
use Rattle.dc_base.specs.declared.entries.Entry.{Entry}
use Rattle.dc_base.specs.declared.entries.Reason.TheVariants as why
use Rattle.dc_base.specs.declared.reports.ReportLine.{ReportLine}
use Rattle.dc_base.specs.declared.dispatchers.DispState.TheVariants as state
use Rattle.dc_base.specs.Runs.{run}
use Rattle.dc_base.specs.CoreRuns.{core_run}
use Rattle.dc_base.specs.Origins.{image_origin}
use Rattle.dc_base.specs.Shown.{all_shown_by}
use Rattle.dc_base.specs.Headline.{blocks_reported, blocks_held}
use Rattle.dc_rows.specs.Computed.{machine_of_blocks, machine_with_cores, whole_texts}
use Rattle.dc_rows.specs.Facts.{facts_told, facts_of}
use Rattle.dc_rows.specs.Images as image_of
use Rattle.dc_rows.specs.Orders as order
use Rattle.dc_rows.specs.Played.{played, judged, first_bads}
use Rattle.dc_rows.specs.Reports as report_line
use Rattle.dc_rows.specs.Scripts as script_line
use Rattle.dc_rows.specs.Tabled.{tabled}
use Rattle.dc_rows.specs.Texts as texts
use Rattle.dc_rows.specs.WrongJournals.{with_line}

abbrev image : Image
image = record {
  format = 2;
  clocks = Running;
  quantum = 4;
  slices = 100;
  lines = 0;
  cores =
      image_of.core 0 Rr ∷ image_of.core 1000000 Rr ∷ [];
  blocks =
      record {
        home = image_of.home 0;
        memory = [];
        ports = 0;
        signals = 1;
        disps =
            record {
              code =
                  17825802  -- li r1 10
                  ∷ 654376965  -- arm s0 r1 5
                  ∷ 637665280  -- wait s0 r2
                  ∷ 305397760  -- rdt r3 r4
                  ∷ 540016640  -- out r3
                  ∷ 335544320  -- halt
                  ∷ [];
              period = 1;
              due = 0;
              caps =
                  image_of.cap 0 (image_of.signal 0) 7 ∷ [];
            }
            ∷ [];
      }
      ∷ [];
  channels = [];
}

abbrev script : List ScriptLine
script =
    script_line.move 0 1 ∷ []

abbrev schedule : List (Actor × Action)
schedule =
    texts.step 0 ∷ texts.script ∷ texts.order 0 ∷ texts.script ∷ texts.order 1 ∷ texts.script ∷ texts.step 1 ∷ texts.step 1 ∷ texts.step 1 ∷ texts.step 1
    ∷ texts.step 1 ∷ []

abbrev journal : List Entry
journal =
    texts.slice 0 0 0 0 1 (end.Call op.Arm) 2
    ∷ texts.post 0 0 (order.release 0)
    ∷ texts.release 0 0 2
    ∷ texts.post 0 1 (order.adopt 0 false)
    ∷ texts.adopt 1 0 false 1000000
    ∷ texts.done 0
    ∷ texts.slice 1 0 0 1 0 (end.Call op.Wait) 1000001
    ∷ texts.slice 1 0 0 0 1 (end.Call op.Out) 1000003
    ∷ texts.slice 1 0 0 0 1 end.Halt 1000004
    ∷ []

abbrev report : List ReportLine
report =
    report_line.core_on 0 Rr 2 None [] 1
    ∷ report_line.core_on 1 Rr 1000004 (Some 0) (0 ∷ []) 3
    ∷ report_line.block 0 (Some 1) 1000004 0
    ∷ report_line.disp 0 0 state.Halted 5 0
    ∷ report_line.ready 0 []
    ∷ report_line.cap 0 0 (image_of.signal 0) 7 None
    ∷ report_line.out 0 1000001
    ∷ []

abbrev text : List ℕ
text = texts.lines (
    "0 core 0 slice 0 0 fired 0 ran 1 call arm clock 2"
    ∷ "1 script 0 post 0 release 0"
    ∷ "2 core 0 release 0 time 2"
    ∷ "3 script 0 post 1 adopt 0 home"
    ∷ "4 core 1 adopt 0 home time 1000000"
    ∷ "5 script 0 done"
    ∷ "6 core 1 slice 0 0 fired 1 ran 0 call wait clock 1000001"
    ∷ "7 core 1 slice 0 0 fired 0 ran 1 call out clock 1000003"
    ∷ "8 core 1 slice 0 0 fired 0 ran 1 halt clock 1000004"
    ∷ "report"
    ∷ "core 0 on rr clock 2 home - share - used 1"
    ∷ "core 1 on rr clock 1000004 home 0 share 0 used 3"
    ∷ "block 0 core 1 time 1000004 armed 0"
    ∷ "disp 0 0 halted place 5 due 0"
    ∷ "ready 0 -"
    ∷ "cap 0 0 signal 0 rights 7 parent -"
    ∷ "out 0 1000001"
    ∷ "skipped 2"
    ∷ "end"
    ∷ [])

is_played : played image script schedule ≡ record {
  journal = journal;
  skipped = 2;
  reasons =
      Some why.Nothing ∷ Some why.Nothing ∷ [];
  report = report;
  text = text;
  again = journal;
}
unfolding machine_with_cores whole_texts
is_played = refl

is_judged : judged image script journal ≡ record { is_run = true; shown = Some (all_shown_by report) }
unfolding machine_of_blocks
is_judged = refl

-- each entry touches what the table says
is_tabled : tabled image script schedule ≡ true
unfolding machine_with_cores
is_tabled = refl

-- each block is reported once, on the core that holds it or at rest
is_none_lost : blocks_reported report ≡ blocks_held (image_origin image script) journal
unfolding machine_of_blocks
is_none_lost = refl

-- the journal has told what the state shows
is_told : option_map facts_told (run image script journal)
    ≡ option_map (facts_of (core_run image script schedule).state) (run image script journal)
unfolding machine_with_cores machine_of_blocks
is_told = refl

-- journals that are changed, and the first bad entry of each
are_changed : first_bads image script (
    with_line 1 (texts.post 0 2 (order.release 0)) journal
    ∷ with_line 6 (texts.slice 3 0 0 1 0 (end.Call op.Wait) 1000001) journal
    ∷ [])
    ≡ Some 1 ∷ Some 6 ∷ []
unfolding machine_of_blocks
are_changed = refl
