-- Trap 9 of one dispatcher; the other goes on.
-- Made by tools/worked_examples.py from examples/TrapHasChildren.
use Rattle.std.specs.Prelude.{◌≡◌, ℕ, List, [], ◌∷◌, refl, true, None, Some}
use Rattle.std.specs.Option.{option_map}
use Rattle.dc_base.specs.declared.images.Image.{Image}
use Rattle.dc_base.specs.declared.kernels.Version.TheVariants.{Rr}
use Rattle.dc_base.specs.declared.kernels.Clocks.TheVariants.{Kept}
use Rattle.dc_base.specs.declared.actions.Actor.{Actor}
use Rattle.dc_base.specs.declared.actions.Action.{Action}
use Rattle.dc_base.specs.declared.calls.Op.TheVariants as op
use Rattle.dc_base.specs.declared.calls.End.TheVariants as end
use Rattle.dc_base.specs.declared.commands.ScriptLine.{ScriptLine}
use Rattle.dc_base.specs.declared.entries.Entry.{Entry}
use Rattle.dc_base.specs.declared.reports.ReportLine.{ReportLine}
use Rattle.dc_base.specs.declared.dispatchers.DispState.TheVariants as state
use Rattle.dc_base.specs.Runs.{run}
use Rattle.dc_base.specs.CoreRuns.{core_run}
use Rattle.dc_base.specs.Origins.{image_origin}
use Rattle.dc_base.specs.Shown.{all_shown_by}
use Rattle.dc_base.specs.Headline.{blocks_reported, blocks_held}
use Rattle.dc_rows.specs.Computed.{machine_of_blocks, machine_with_cores, whole_texts}
use Rattle.dc_rows.specs.Facts.{facts_told, facts_of}
use Rattle.dc_rows.specs.Images as image_of
use Rattle.dc_rows.specs.Played.{played, judged, first_bads}
use Rattle.dc_rows.specs.Reports as report_line
use Rattle.dc_rows.specs.Tabled.{tabled}
use Rattle.dc_rows.specs.Texts as texts
use Rattle.dc_rows.specs.WrongJournals.{with_line, line_added}

abbrev image : Image
image = record {
  format = 1;
  clocks = Kept;
  quantum = 4;
  slices = 100;
  lines = 0;
  cores =
      image_of.core 0 Rr ∷ [];
  blocks =
      record {
        home = image_of.home 0;
        memory = [];
        ports = 0;
        signals = 0;
        disps =
            record {
              code =
                  671154183  -- copy s0 s1 7
                  ∷ 24117249  -- li r7 1
                  ∷ 687996928  -- retype s0 s2 0
                  ∷ [];
              period = 1;
              due = 0;
              caps =
                  image_of.cap 0 (image_of.ram 0 100) 7 ∷ [];
            }
            ∷ record {
              code =
                  318767104  -- nop
                  ∷ 251658240  -- jmp 0
                  ∷ [];
              period = 1;
              due = 0;
              caps = [];
            }
            ∷ [];
      }
      ∷ [];
  channels = [];
}

abbrev script : List ScriptLine
script = []

abbrev schedule : List (Actor × Action)
schedule =
    texts.step 0 ∷ texts.step 0 ∷ texts.step 0 ∷ texts.step 0 ∷ texts.step 0 ∷ texts.step 0 ∷ []

abbrev journal : List Entry
journal =
    texts.slice 0 0 0 0 0 (end.Call op.Copy) 1
    ∷ texts.slice 0 0 1 0 4 end.Quantum 5
    ∷ texts.slice 0 0 0 0 1 (end.Trap 9) 6
    ∷ texts.slice 0 0 1 0 4 end.Quantum 10
    ∷ texts.slice 0 0 1 0 4 end.Quantum 14
    ∷ texts.slice 0 0 1 0 4 end.Quantum 18
    ∷ []

abbrev report : List ReportLine
report =
    report_line.core_on 0 Rr 18 (Some 0) (0 ∷ []) 6
    ∷ report_line.block 0 (Some 0) 18 0
    ∷ report_line.disp 0 0 (state.Trapped 9) 2 0
    ∷ report_line.disp 0 1 state.Ready 0 0
    ∷ report_line.ready 0 (1 ∷ [])
    ∷ report_line.cap 0 0 (image_of.ram 0 100) 7 None
    ∷ report_line.cap 0 1 (image_of.ram 0 100) 7 (Some 0)
    ∷ []

abbrev text : List ℕ
text = texts.lines (
    "0 core 0 slice 0 0 fired 0 ran 0 call copy clock 1"
    ∷ "1 core 0 slice 0 1 fired 0 ran 4 quantum clock 5"
    ∷ "2 core 0 slice 0 0 fired 0 ran 1 trap 9 clock 6"
    ∷ "3 core 0 slice 0 1 fired 0 ran 4 quantum clock 10"
    ∷ "4 core 0 slice 0 1 fired 0 ran 4 quantum clock 14"
    ∷ "5 core 0 slice 0 1 fired 0 ran 4 quantum clock 18"
    ∷ "report"
    ∷ "core 0 on rr clock 18 home 0 share 0 used 6"
    ∷ "block 0 core 0 time 18 armed 0"
    ∷ "disp 0 0 trap 9 place 2 due 0"
    ∷ "disp 0 1 ready place 0 due 0"
    ∷ "ready 0 1"
    ∷ "cap 0 0 ram 0 100 rights 7 parent -"
    ∷ "cap 0 1 ram 0 100 rights 7 parent 0"
    ∷ "skipped 0"
    ∷ "end"
    ∷ [])

is_played : played image script schedule ≡ record {
  journal = journal;
  skipped = 0;
  reasons = [];
  report = report;
  text = text;
  again = journal;
}
unfolding machine_with_cores whole_texts
is_played = refl

is_judged : judged image script journal ≡ record { is_run = true; shown = Some (all_shown_by report) }
unfolding machine_of_blocks
is_judged = refl

-- each entry touches what the table says
is_tabled : tabled image script schedule ≡ true
unfolding machine_with_cores
is_tabled = refl

-- each block is reported once, on the core that holds it or at rest
is_none_lost : blocks_reported report ≡ blocks_held (image_origin image script) journal
unfolding machine_of_blocks
is_none_lost = refl

-- the journal has told what the state shows
is_told : option_map facts_told (run image script journal)
    ≡ option_map (facts_of (core_run image script schedule).state) (run image script journal)
unfolding machine_with_cores machine_of_blocks
is_told = refl

-- journals that are changed, and the first bad entry of each
are_changed : first_bads image script (
    with_line 1 (texts.slice 1 0 1 0 4 end.Quantum 5) journal
    ∷ line_added 5 (texts.slice 0 0 1 0 4 end.Quantum 5) journal
    ∷ [])
    ≡ Some 1 ∷ Some 5 ∷ []
unfolding machine_of_blocks
are_changed = refl
