-- A full port makes its sender wait.
-- Made by tools/worked_examples.py from examples/FullPort.
use Rattle.std.specs.Prelude.{◌≡◌, ℕ, List, [], ◌∷◌, refl, true, None, Some}
use Rattle.std.specs.Option.{option_map}
use Rattle.dc_base.specs.declared.images.Image.{Image}
use Rattle.dc_base.specs.declared.kernels.Version.TheVariants.{Rr}
use Rattle.dc_base.specs.declared.kernels.Clocks.TheVariants.{Kept}
use Rattle.dc_base.specs.declared.actions.Actor.{Actor}
use Rattle.dc_base.specs.declared.actions.Action.{Action}
use Rattle.dc_base.specs.declared.calls.Op.TheVariants as op
use Rattle.dc_base.specs.declared.calls.End.TheVariants as end
use Rattle.dc_base.specs.declared.commands.ScriptLine.{ScriptLine}
use Rattle.dc_base.specs.declared.entries.Entry.{Entry}
use Rattle.dc_base.specs.declared.reports.ReportLine.{ReportLine}
use Rattle.dc_base.specs.Runs.{run}
use Rattle.dc_base.specs.CoreRuns.{core_run}
use Rattle.dc_base.specs.Origins.{image_origin}
use Rattle.dc_base.specs.Shown.{all_shown_by}
use Rattle.dc_base.specs.Headline.{blocks_reported, blocks_held}
use Rattle.dc_rows.specs.Computed.{machine_of_blocks, machine_with_cores, whole_texts}
use Rattle.dc_rows.specs.Facts.{facts_told, facts_of}
use Rattle.dc_rows.specs.Images as image_of
use Rattle.dc_rows.specs.Played.{played, judged, first_bads}
use Rattle.dc_rows.specs.Reports as report_line
use Rattle.dc_rows.specs.Tabled.{tabled}
use Rattle.dc_rows.specs.Texts as texts
use Rattle.dc_rows.specs.WrongJournals.{with_line, without_line}

abbrev image : Image
image = record {
  format = 1;
  clocks = Kept;
  quantum = 1;
  slices = 100;
  lines = 0;
  cores =
      image_of.core 0 Rr ∷ [];
  blocks =
      record {
        home = image_of.home 0;
        memory = [];
        ports = 1;
        signals = 0;
        disps =
            record {
              code =
                  570490880  -- send s0 s1 0
                  ∷ 251658240  -- jmp 0
                  ∷ [];
              period = 1;
              due = 0;
              caps =
                  image_of.cap 0 (image_of.port 0) 7 ∷ image_of.cap 1 (image_of.frame 0 4) 7 ∷ [];
            }
            ∷ [];
      }
      ∷ [];
  channels = [];
}

abbrev script : List ScriptLine
script = []

abbrev schedule : List (Actor × Action)
schedule =
    texts.step 0 ∷ texts.step 0 ∷ texts.step 0 ∷ texts.step 0 ∷ texts.step 0 ∷ texts.step 0 ∷ texts.step 0 ∷ texts.step 0 ∷ texts.step 0 ∷ []

abbrev journal : List Entry
journal =
    texts.slice 0 0 0 0 0 (end.Call op.Send) 1
    ∷ texts.slice 0 0 0 0 1 (end.Call op.Send) 3
    ∷ texts.slice 0 0 0 0 1 (end.Call op.Send) 5
    ∷ texts.slice 0 0 0 0 1 (end.Call op.Send) 7
    ∷ texts.slice 0 0 0 0 1 (end.Call op.Send) 9
    ∷ texts.slice 0 0 0 0 1 (end.Call op.Send) 11
    ∷ texts.slice 0 0 0 0 1 (end.Call op.Send) 13
    ∷ texts.slice 0 0 0 0 1 (end.Call op.Send) 15
    ∷ texts.slice 0 0 0 0 1 (end.Hold op.Send) 16
    ∷ []

abbrev report : List ReportLine
report =
    report_line.core_on 0 Rr 16 (Some 0) (0 ∷ []) 9
    ∷ report_line.block 0 (Some 0) 16 0
    ∷ report_line.disp 0 0 (report_line.waits_send 0) 0 0
    ∷ report_line.ready 0 []
    ∷ report_line.cap 0 0 (image_of.port 0) 7 None
    ∷ report_line.cap 0 1 (image_of.frame 0 4) 7 None
    ∷ report_line.port 0 0 0 0 0 0
    ∷ report_line.port 0 0 0 0 0 0
    ∷ report_line.port 0 0 0 0 0 0
    ∷ report_line.port 0 0 0 0 0 0
    ∷ report_line.port 0 0 0 0 0 0
    ∷ report_line.port 0 0 0 0 0 0
    ∷ report_line.port 0 0 0 0 0 0
    ∷ report_line.port 0 0 0 0 0 0
    ∷ []

abbrev text : List ℕ
text = texts.lines (
    "0 core 0 slice 0 0 fired 0 ran 0 call send clock 1"
    ∷ "1 core 0 slice 0 0 fired 0 ran 1 call send clock 3"
    ∷ "2 core 0 slice 0 0 fired 0 ran 1 call send clock 5"
    ∷ "3 core 0 slice 0 0 fired 0 ran 1 call send clock 7"
    ∷ "4 core 0 slice 0 0 fired 0 ran 1 call send clock 9"
    ∷ "5 core 0 slice 0 0 fired 0 ran 1 call send clock 11"
    ∷ "6 core 0 slice 0 0 fired 0 ran 1 call send clock 13"
    ∷ "7 core 0 slice 0 0 fired 0 ran 1 call send clock 15"
    ∷ "8 core 0 slice 0 0 fired 0 ran 1 hold send clock 16"
    ∷ "report"
    ∷ "core 0 on rr clock 16 home 0 share 0 used 9"
    ∷ "block 0 core 0 time 16 armed 0"
    ∷ "disp 0 0 wait send 0 place 0 due 0"
    ∷ "ready 0 -"
    ∷ "cap 0 0 port 0 rights 7 parent -"
    ∷ "cap 0 1 frame 0 4 rights 7 parent -"
    ∷ "port 0 0 0 0 0 0"
    ∷ "port 0 0 0 0 0 0"
    ∷ "port 0 0 0 0 0 0"
    ∷ "port 0 0 0 0 0 0"
    ∷ "port 0 0 0 0 0 0"
    ∷ "port 0 0 0 0 0 0"
    ∷ "port 0 0 0 0 0 0"
    ∷ "port 0 0 0 0 0 0"
    ∷ "skipped 0"
    ∷ "end"
    ∷ [])

is_played : played image script schedule ≡ record {
  journal = journal;
  skipped = 0;
  reasons = [];
  report = report;
  text = text;
  again = journal;
}
unfolding machine_with_cores whole_texts
is_played = refl

is_judged : judged image script journal ≡ record { is_run = true; shown = Some (all_shown_by report) }
unfolding machine_of_blocks
is_judged = refl

-- each entry touches what the table says
is_tabled : tabled image script schedule ≡ true
unfolding machine_with_cores
is_tabled = refl

-- each block is reported once, on the core that holds it or at rest
is_none_lost : blocks_reported report ≡ blocks_held (image_origin image script) journal
unfolding machine_of_blocks
is_none_lost = refl

-- the journal has told what the state shows
is_told : option_map facts_told (run image script journal)
    ≡ option_map (facts_of (core_run image script schedule).state) (run image script journal)
unfolding machine_with_cores machine_of_blocks
is_told = refl

-- journals that are changed, and the first bad entry of each
are_changed : first_bads image script (
    with_line 2 (texts.slice 0 0 0 0 1 (end.Call op.Send) 4) journal
    ∷ without_line 4 journal
    ∷ [])
    ≡ Some 2 ∷ Some 4 ∷ []
unfolding machine_of_blocks
are_changed = refl
