-- Raises of a line while its block moves; the second is merged.
-- Made by tools/worked_examples.py from examples/RaisesDuringMove.
use Rattle.std.specs.Prelude.{◌≡◌, ℕ, List, [], ◌∷◌, refl, true, false, None, Some}
use Rattle.std.specs.Option.{option_map}
use Rattle.dc_base.specs.declared.images.Image.{Image}
use Rattle.dc_base.specs.declared.kernels.Version.TheVariants.{Rr}
use Rattle.dc_base.specs.declared.kernels.Clocks.TheVariants.{Kept}
use Rattle.dc_base.specs.declared.actions.Actor.{Actor}
use Rattle.dc_base.specs.declared.actions.Action.{Action}
use Rattle.dc_base.specs.declared.calls.Op.TheVariants as op
use Rattle.dc_base.specs.declared.calls.End.TheVariants as end
use Rattle.dc_base.specs.declared.interrupts.Latched.TheVariants as how
use Rattle.dc_base.specs.declared.commands.ScriptLine.{ScriptLine}
use Rattle.dc_base.specs.declared.entries.Entry.{Entry}
use Rattle.dc_base.specs.declared.entries.Reason.TheVariants as why
use Rattle.dc_base.specs.declared.reports.ReportLine.{ReportLine}
use Rattle.dc_base.specs.declared.dispatchers.DispState.TheVariants as state
use Rattle.dc_base.specs.Runs.{run}
use Rattle.dc_base.specs.CoreRuns.{core_run}
use Rattle.dc_base.specs.Origins.{image_origin}
use Rattle.dc_base.specs.Shown.{all_shown_by}
use Rattle.dc_base.specs.Headline.{blocks_reported, blocks_held}
use Rattle.dc_rows.specs.Computed.{machine_of_blocks, machine_with_cores, whole_texts}
use Rattle.dc_rows.specs.Facts.{facts_told, facts_of}
use Rattle.dc_rows.specs.Images as image_of
use Rattle.dc_rows.specs.Orders as order
use Rattle.dc_rows.specs.Played.{played, judged, first_bads}
use Rattle.dc_rows.specs.Reports as report_line
use Rattle.dc_rows.specs.Scripts as script_line
use Rattle.dc_rows.specs.Tabled.{tabled}
use Rattle.dc_rows.specs.Texts as texts
use Rattle.dc_rows.specs.WrongJournals.{with_line, line_added}

abbrev image : Image
image = record {
  format = 1;
  clocks = Kept;
  quantum = 4;
  slices = 100;
  lines = 1;
  cores =
      image_of.core 0 Rr ∷ image_of.core 0 Rr ∷ [];
  blocks =
      record {
        home = image_of.home 0;
        memory = [];
        ports = 0;
        signals = 1;
        disps =
            record {
              code =
                  738263040  -- bind s0 s1
                  ∷ 638713856  -- wait s1 r2
                  ∷ 538968064  -- out r2
                  ∷ 335544320  -- halt
                  ∷ [];
              period = 1;
              due = 0;
              caps =
                  image_of.cap 0 (image_of.line 0) 7 ∷ image_of.cap 1 (image_of.signal 0) 7 ∷ [];
            }
            ∷ [];
      }
      ∷ [];
  channels = [];
}

abbrev script : List ScriptLine
script =
    script_line.move 0 1 ∷ script_line.raise 0 ∷ script_line.raise 0 ∷ script_line.route 0 1 ∷ []

abbrev schedule : List (Actor × Action)
schedule =
    texts.step 0 ∷ texts.step 0 ∷ texts.script ∷ texts.order 0 ∷ texts.raise ∷ texts.raise ∷ texts.script ∷ texts.order 1 ∷ texts.script ∷ texts.intake 0 0
    ∷ texts.script ∷ texts.intake 1 0 ∷ texts.step 1 ∷ texts.step 1 ∷ texts.step 1 ∷ []

abbrev journal : List Entry
journal =
    texts.slice 0 0 0 0 0 (end.Call op.Bind) 1
    ∷ texts.slice 0 0 0 0 0 (end.Hold op.Wait) 2
    ∷ texts.post 0 0 (order.release 0)
    ∷ texts.release 0 0 2
    ∷ texts.raised 1 0 (order.pending 1)
    ∷ texts.raised 2 0 (order.coalesced 2)
    ∷ texts.post 0 1 (order.adopt 0 false)
    ∷ texts.adopt 1 0 false 2
    ∷ texts.done 0
    ∷ texts.routed 3 0 1
    ∷ texts.taken_in 1 0 1 0 0 how.Latched
    ∷ texts.slice 1 0 0 0 0 (end.Call op.Wait) 1
    ∷ texts.slice 1 0 0 0 0 (end.Call op.Out) 2
    ∷ texts.slice 1 0 0 0 1 end.Halt 3
    ∷ []

abbrev report : List ReportLine
report =
    report_line.core_on 0 Rr 2 None [] 2
    ∷ report_line.core_on 1 Rr 3 (Some 0) (0 ∷ []) 3
    ∷ report_line.block 0 (Some 1) 5 0
    ∷ report_line.disp 0 0 state.Halted 3 0
    ∷ report_line.ready 0 []
    ∷ report_line.cap 0 0 (image_of.line 0) 7 None
    ∷ report_line.cap 0 1 (image_of.signal 0) 7 None
    ∷ report_line.wire 0 (Some (0, 0)) (Some 1) 2 0 0 1 0 0 1
    ∷ report_line.out 0 1
    ∷ []

abbrev text : List ℕ
text = texts.lines (
    "0 core 0 slice 0 0 fired 0 ran 0 call bind clock 1"
    ∷ "1 core 0 slice 0 0 fired 0 ran 0 hold wait clock 2"
    ∷ "2 script 0 post 0 release 0"
    ∷ "3 core 0 release 0 time 2"
    ∷ "4 script 1 raise 0 1 pending"
    ∷ "5 script 2 raise 0 2 coalesced"
    ∷ "6 script 0 post 1 adopt 0 home"
    ∷ "7 core 1 adopt 0 home time 2"
    ∷ "8 script 0 done"
    ∷ "9 script 3 route 0 1"
    ∷ "10 core 1 intake 0 1 0 0 latched"
    ∷ "11 core 1 slice 0 0 fired 0 ran 0 call wait clock 1"
    ∷ "12 core 1 slice 0 0 fired 0 ran 0 call out clock 2"
    ∷ "13 core 1 slice 0 0 fired 0 ran 1 halt clock 3"
    ∷ "report"
    ∷ "core 0 on rr clock 2 home - share - used 2"
    ∷ "core 1 on rr clock 3 home 0 share 0 used 3"
    ∷ "block 0 core 1 time 5 armed 0"
    ∷ "disp 0 0 halted place 3 due 0"
    ∷ "ready 0 -"
    ∷ "cap 0 0 line 0 rights 7 parent -"
    ∷ "cap 0 1 signal 0 rights 7 parent -"
    ∷ "line 0 to 0 0 route 1 raised 2 stray 0 pending 0 merged 1 latched 0 joined 0 delivered 1"
    ∷ "out 0 1"
    ∷ "skipped 1"
    ∷ "end"
    ∷ [])

is_played : played image script schedule ≡ record {
  journal = journal;
  skipped = 1;
  reasons =
      Some (why.NotHere (record { 0 = 0 })) ∷ [];
  report = report;
  text = text;
  again = journal;
}
unfolding machine_with_cores whole_texts
is_played = refl

is_judged : judged image script journal ≡ record { is_run = true; shown = Some (all_shown_by report) }
unfolding machine_of_blocks
is_judged = refl

-- each entry touches what the table says
is_tabled : tabled image script schedule ≡ true
unfolding machine_with_cores
is_tabled = refl

-- each block is reported once, on the core that holds it or at rest
is_none_lost : blocks_reported report ≡ blocks_held (image_origin image script) journal
unfolding machine_of_blocks
is_none_lost = refl

-- the journal has told what the state shows
is_told : option_map facts_told (run image script journal)
    ≡ option_map (facts_of (core_run image script schedule).state) (run image script journal)
unfolding machine_with_cores machine_of_blocks
is_told = refl

-- journals that are changed, and the first bad entry of each
are_changed : first_bads image script (
    line_added 10 (texts.release 0 0 2) journal
    ∷ with_line 1 (texts.slice 0 0 0 2 0 (end.Hold op.Wait) 2) journal
    ∷ [])
    ≡ Some 10 ∷ Some 1 ∷ []
unfolding machine_of_blocks
are_changed = refl
