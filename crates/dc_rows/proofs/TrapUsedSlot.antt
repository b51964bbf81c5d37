-- Trap 5 of one dispatcher; the other goes on.
-- Made by tools/worked_examples.py from examples/TrapUsedSlot.
use Rattle.std.specs.Prelude.{◌≡◌, ℕ, List, [], ◌∷◌, refl, true, None, Some}
use Rattle.std.specs.Option.{option_map}
use Rattle.dc_base.specs.declared.images.Image.{Image}
use Rattle.dc_base.specs.declared.kernels.Version.TheVariants.{Rr}
use Rattle.dc_base.specs.declared.kernels.Clocks.TheVariants.{Kept}
use Rattle.dc_base.specs.declared.actions.Actor.{Actor}
use Rattle.dc_base.specs.declared.actions.Action.{Action}
use Rattle.dc_base.specs.declared.calls.End.TheVariants as end
use Rattle.dc_base.specs.declared.commands.ScriptLine.{ScriptLine}
use Rattle.dc_base.specs.declared.entries.Entry.{Entry}
use Rattle.dc_base.specs.declared.reports.ReportLine.{ReportLine}
use Rattle.dc_base.specs.declared.dispatchers.DispState.TheVariants as state
use Rattle.dc_base.specs.Runs.{run}
use Rattle.dc_base.specs.CoreRuns.{core_run}
use Rattle.dc_base.specs.Origins.{image_origin}
use Rattle.dc_base.specs.Shown.{all_shown_by}
use Rattle.dc_base.specs.Headline.{blocks_reported, blocks_held}
use Rattle.dc_rows.specs.Computed.{machine_of_blocks, machine_with_cores, whole_texts}
use Rattle.dc_rows.specs.Facts.{facts_told, facts_of}
use Rattle.dc_rows.specs.Images as image_of
use Rattle.dc_rows.specs.Played.{played, judged, first_bads}
use Rattle.dc_rows.specs.Reports as report_line
use Rattle.dc_rows.specs.Tabled.{tabled}
use Rattle.dc_rows.specs.Texts as texts
use Rattle.dc_rows.specs.WrongJournals.{with_line}

abbrev image : Image
image = record {
  format = 1;
  clocks = Kept;
  quantum = 4;
  slices = 100;
  lines = 0;
  cores =
      image_of.core 0 Rr ∷ [];
  blocks =
      record {
        home = image_of.home 0;
        memory = [];
        ports = 0;
        signals = 0;
        disps =
            record {
              code =
                  671088647  -- copy s0 s0 7
                  ∷ [];
              period = 1;
              due = 0;
              caps =
                  image_of.cap 0 (image_of.ram 0 100) 7 ∷ [];
            }
            ∷ record {
              code =
                  318767104  -- nop
                  ∷ 251658240  -- jmp 0
                  ∷ [];
              period = 1;
              due = 0;
              caps = [];
            }
            ∷ [];
      }
      ∷ [];
  channels = [];
}

abbrev script : List ScriptLine
script = []

abbrev schedule : List (Actor × Action)
schedule =
    texts.step 0 ∷ texts.step 0 ∷ texts.step 0 ∷ texts.step 0 ∷ []

abbrev journal : List Entry
journal =
    texts.slice 0 0 0 0 0 (end.Trap 5) 1
    ∷ texts.slice 0 0 1 0 4 end.Quantum 5
    ∷ texts.slice 0 0 1 0 4 end.Quantum 9
    ∷ texts.slice 0 0 1 0 4 end.Quantum 13
    ∷ []

abbrev report : List ReportLine
report =
    report_line.core_on 0 Rr 13 (Some 0) (0 ∷ []) 4
    ∷ report_line.block 0 (Some 0) 13 0
    ∷ report_line.disp 0 0 (state.Trapped 5) 0 0
    ∷ report_line.disp 0 1 state.Ready 0 0
    ∷ report_line.ready 0 (1 ∷ [])
    ∷ report_line.cap 0 0 (image_of.ram 0 100) 7 None
    ∷ []

abbrev text : List ℕ
text = texts.lines (
    "0 core 0 slice 0 0 fired 0 ran 0 trap 5 clock 1"
    ∷ "1 core 0 slice 0 1 fired 0 ran 4 quantum clock 5"
    ∷ "2 core 0 slice 0 1 fired 0 ran 4 quantum clock 9"
    ∷ "3 core 0 slice 0 1 fired 0 ran 4 quantum clock 13"
    ∷ "report"
    ∷ "core 0 on rr clock 13 home 0 share 0 used 4"
    ∷ "block 0 core 0 time 13 armed 0"
    ∷ "disp 0 0 trap 5 place 0 due 0"
    ∷ "disp 0 1 ready place 0 due 0"
    ∷ "ready 0 1"
    ∷ "cap 0 0 ram 0 100 rights 7 parent -"
    ∷ "skipped 0"
    ∷ "end"
    ∷ [])

is_played : played image script schedule ≡ record {
  journal = journal;
  skipped = 0;
  reasons = [];
  report = report;
  text = text;
  again = journal;
}
unfolding machine_with_cores whole_texts
is_played = refl

is_judged : judged image script journal ≡ record { is_run = true; shown = Some (all_shown_by report) }
unfolding machine_of_blocks
is_judged = refl

-- each entry touches what the table says
is_tabled : tabled image script schedule ≡ true
unfolding machine_with_cores
is_tabled = refl

-- each block is reported once, on the core that holds it or at rest
is_none_lost : blocks_reported report ≡ blocks_held (image_origin image script) journal
unfolding machine_of_blocks
is_none_lost = refl

-- the journal has told what the state shows
is_told : option_map facts_told (run image script journal)
    ≡ option_map (facts_of (core_run image script schedule).state) (run image script journal)
unfolding machine_with_cores machine_of_blocks
is_told = refl

-- journals that are changed, and the first bad entry of each
are_changed : first_bads image script (
    with_line 1 (texts.slice 1 0 1 0 4 end.Quantum 5) journal
    ∷ with_line 3 (texts.slice 2 0 1 0 4 end.Quantum 13) journal
    ∷ [])
    ≡ Some 1 ∷ Some 3 ∷ []
unfolding machine_of_blocks
are_changed = refl
