-- A budget spent round a handover.
-- Made by tools/worked_examples.py from examples/BudgetSpentAroundHandover.
use Rattle.std.specs.Prelude.{◌≡◌, ℕ, List, [], ◌∷◌, refl, true, false, None, Some}
use Rattle.std.specs.Option.{option_map}
use Rattle.dc_base.specs.declared.images.Image.{Image}
use Rattle.dc_base.specs.declared.kernels.Version.TheVariants.{Rr}
use Rattle.dc_base.specs.declared.kernels.Clocks.TheVariants.{Kept}
use Rattle.dc_base.specs.declared.actions.Actor.{Actor}
use Rattle.dc_base.specs.declared.actions.Action.{Action}
use Rattle.dc_base.specs.declared.calls.End.TheVariants as end
use Rattle.dc_base.specs.declared.commands.ScriptLine.{ScriptLine}
use Rattle.dc_base.specs.declared.entries.Entry.{Entry}
use Rattle.dc_base.specs.declared.reports.ReportLine.{ReportLine}
use Rattle.dc_base.specs.declared.dispatchers.DispState.TheVariants as state
use Rattle.dc_base.specs.Runs.{run}
use Rattle.dc_base.specs.CoreRuns.{core_run}
use Rattle.dc_base.specs.Origins.{image_origin}
use Rattle.dc_base.specs.Shown.{all_shown_by}
use Rattle.dc_base.specs.Headline.{blocks_reported, blocks_held}
use Rattle.dc_rows.specs.Computed.{machine_of_blocks, machine_with_cores, whole_texts}
use Rattle.dc_rows.specs.Facts.{facts_told, facts_of}
use Rattle.dc_rows.specs.Images as image_of
use Rattle.dc_rows.specs.Orders as order
use Rattle.dc_rows.specs.Played.{played, judged, first_bads}
use Rattle.dc_rows.specs.Reports as report_line
use Rattle.dc_rows.specs.Scripts as script_line
use Rattle.dc_rows.specs.Tabled.{tabled}
use Rattle.dc_rows.specs.Texts as texts
use Rattle.dc_rows.specs.WrongJournals.{with_line, line_added}

abbrev image : Image
image = record {
  format = 1;
  clocks = Kept;
  quantum = 1;
  slices = 1;
  lines = 0;
  cores =
      image_of.core 0 Rr ∷ image_of.core 0 Rr ∷ [];
  blocks =
      record {
        home = image_of.home 0;
        memory = [];
        ports = 0;
        signals = 0;
        disps =
            record {
              code =
                  251658240  -- jmp 0
                  ∷ [];
              period = 1;
              due = 0;
              caps = [];
            }
            ∷ [];
      }
      ∷ [];
  channels = [];
}

abbrev script : List ScriptLine
script =
    script_line.move 0 1 ∷ []

abbrev schedule : List (Actor × Action)
schedule =
    texts.step 0 ∷ texts.step 0 ∷ texts.script ∷ texts.order 0 ∷ texts.script ∷ texts.order 1 ∷ texts.script ∷ texts.step 1 ∷ texts.step 1 ∷ []

abbrev journal : List Entry
journal =
    texts.slice 0 0 0 0 1 end.Quantum 1
    ∷ texts.post 0 0 (order.release 0)
    ∷ texts.release 0 0 1
    ∷ texts.post 0 1 (order.adopt 0 false)
    ∷ texts.adopt 1 0 false 1
    ∷ texts.done 0
    ∷ texts.slice 1 0 0 0 1 end.Quantum 1
    ∷ []

abbrev report : List ReportLine
report =
    report_line.core_on 0 Rr 1 None [] 1
    ∷ report_line.core_on 1 Rr 1 (Some 0) (0 ∷ []) 1
    ∷ report_line.block 0 (Some 1) 2 0
    ∷ report_line.disp 0 0 state.Ready 0 0
    ∷ report_line.ready 0 (0 ∷ [])
    ∷ []

abbrev text : List ℕ
text = texts.lines (
    "0 core 0 slice 0 0 fired 0 ran 1 quantum clock 1"
    ∷ "1 script 0 post 0 release 0"
    ∷ "2 core 0 release 0 time 1"
    ∷ "3 script 0 post 1 adopt 0 home"
    ∷ "4 core 1 adopt 0 home time 1"
    ∷ "5 script 0 done"
    ∷ "6 core 1 slice 0 0 fired 0 ran 1 quantum clock 1"
    ∷ "report"
    ∷ "core 0 on rr clock 1 home - share - used 1"
    ∷ "core 1 on rr clock 1 home 0 share 0 used 1"
    ∷ "block 0 core 1 time 2 armed 0"
    ∷ "disp 0 0 ready place 0 due 0"
    ∷ "ready 0 0"
    ∷ "skipped 2"
    ∷ "end"
    ∷ [])

is_played : played image script schedule ≡ record {
  journal = journal;
  skipped = 2;
  reasons =
      None ∷ None ∷ [];
  report = report;
  text = text;
  again = journal;
}
unfolding machine_with_cores whole_texts
is_played = refl

is_judged : judged image script journal ≡ record { is_run = true; shown = Some (all_shown_by report) }
unfolding machine_of_blocks
is_judged = refl

-- each entry touches what the table says
is_tabled : tabled image script schedule ≡ true
unfolding machine_with_cores
is_tabled = refl

-- each block is reported once, on the core that holds it or at rest
is_none_lost : blocks_reported report ≡ blocks_held (image_origin image script) journal
unfolding machine_of_blocks
is_none_lost = refl

-- the journal has told what the state shows
is_told : option_map facts_told (run image script journal)
    ≡ option_map (facts_of (core_run image script schedule).state) (run image script journal)
unfolding machine_with_cores machine_of_blocks
is_told = refl

-- journals that are changed, and the first bad entry of each
are_changed : first_bads image script (
    line_added 5 (texts.post 0 0 (order.release 0)) journal
    ∷ with_line 0 (texts.slice 0 0 0 2 1 end.Quantum 1) journal
    ∷ [])
    ≡ Some 5 ∷ Some 0 ∷ []
unfolding machine_of_blocks
are_changed = refl
