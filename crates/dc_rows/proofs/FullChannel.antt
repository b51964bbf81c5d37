-- A full channel makes its sender wait until the receiver, which then moves, has taken.
-- Made by tools/worked_examples.py from examples/FullChannel.
use Rattle.std.specs.Prelude.{◌≡◌, ℕ, List, [], ◌∷◌, refl, true, false, None, Some}
use Rattle.std.specs.Option.{option_map}
use Rattle.dc_base.specs.declared.images.Image.{Image}
use Rattle.dc_base.specs.declared.kernels.Version.TheVariants.{Rr}
use Rattle.dc_base.specs.declared.kernels.Clocks.TheVariants.{Kept}
use Rattle.dc_base.specs.declared.actions.Actor.{Actor}
use Rattle.dc_base.specs.declared.actions.Action.{Action}
use Rattle.dc_base.specs.declared.calls.Op.TheVariants as op
use Rattle.dc_base.specs.declared.calls.End.TheVariants as end
use Rattle.dc_base.specs.declared.commands.ScriptLine.{ScriptLine}
use Rattle.dc_base.specs.declared.entries.Entry.{Entry}
use Rattle.dc_base.specs.declared.entries.Reason.TheVariants as why
use Rattle.dc_base.specs.declared.reports.ReportLine.{ReportLine}
use Rattle.dc_base.specs.declared.dispatchers.DispState.TheVariants as state
use Rattle.dc_base.specs.Runs.{run}
use Rattle.dc_base.specs.CoreRuns.{core_run}
use Rattle.dc_base.specs.Origins.{image_origin}
use Rattle.dc_base.specs.Shown.{all_shown_by}
use Rattle.dc_base.specs.Headline.{blocks_reported, blocks_held}
use Rattle.dc_rows.specs.Computed.{machine_of_blocks, machine_with_cores, whole_texts}
use Rattle.dc_rows.specs.Facts.{facts_told, facts_of}
use Rattle.dc_rows.specs.Images as image_of
use Rattle.dc_rows.specs.Orders as order
use Rattle.dc_rows.specs.Played.{played, judged, first_bads}
use Rattle.dc_rows.specs.Reports as report_line
use Rattle.dc_rows.specs.Scripts as script_line
use Rattle.dc_rows.specs.Tabled.{tabled}
use Rattle.dc_rows.specs.Texts as texts
use Rattle.dc_rows.specs.WrongJournals.{with_line, without_line}

abbrev image : Image
image = record {
  format = 1;
  clocks = Kept;
  quantum = 4;
  slices = 100;
  lines = 0;
  cores =
      image_of.core 0 Rr ∷ image_of.core 0 Rr ∷ image_of.core 0 Rr ∷ [];
  blocks =
      record {
        home = image_of.home 0;
        memory =
            1 ∷ 0 ∷ 0 ∷ 0 ∷ 2 ∷ [];
        ports = 0;
        signals = 0;
        disps =
            record {
              code =
                  604045312  -- csend s0 s1 0
                  ∷ 604045316  -- csend s0 s1 4
                  ∷ 335544320  -- halt
                  ∷ [];
              period = 1;
              due = 0;
              caps =
                  image_of.cap 0 (image_of.sendend 0) 7 ∷ image_of.cap 1 (image_of.frame 0 8) 7 ∷ [];
            }
            ∷ [];
      }
      ∷ record {
        home = image_of.home 1;
        memory = [];
        ports = 0;
        signals = 0;
        disps =
            record {
              code =
                  620822528  -- crecv s0 s1 0
                  ∷ 268500992  -- ld r0 r1 0
                  ∷ 536870912  -- out r0
                  ∷ 251658240  -- jmp 0
                  ∷ [];
              period = 1;
              due = 0;
              caps =
                  image_of.cap 0 (image_of.recvend 0) 7 ∷ image_of.cap 1 (image_of.frame 0 4) 7 ∷ [];
            }
            ∷ [];
      }
      ∷ [];
  channels =
      image_of.channel 0 1 1 ∷ [];
}

abbrev script : List ScriptLine
script =
    script_line.move 1 2 ∷ []

abbrev schedule : List (Actor × Action)
schedule =
    texts.step 0 ∷ texts.step 0 ∷ texts.wake 0 0 0 ∷ texts.step 1 ∷ texts.wake 0 0 0 ∷ texts.step 0 ∷ texts.script ∷ texts.order 1 ∷ texts.script
    ∷ texts.order 2 ∷ texts.script ∷ texts.step 2 ∷ texts.step 2 ∷ texts.step 2 ∷ []

abbrev journal : List Entry
journal =
    texts.slice 0 0 0 0 0 (end.Call op.Csend) 1
    ∷ texts.slice 0 0 0 0 0 (end.Hold op.Csend) 2
    ∷ texts.slice 1 1 0 0 0 (end.Call op.Crecv) 1
    ∷ texts.woken 0 0 0
    ∷ texts.slice 0 0 0 0 0 (end.Call op.Csend) 3
    ∷ texts.post 0 1 (order.release 1)
    ∷ texts.release 1 1 1
    ∷ texts.post 0 2 (order.adopt 1 false)
    ∷ texts.adopt 2 1 false 1
    ∷ texts.done 0
    ∷ texts.slice 2 1 0 0 1 (end.Call op.Out) 2
    ∷ texts.slice 2 1 0 0 1 (end.Call op.Crecv) 4
    ∷ texts.slice 2 1 0 0 1 (end.Call op.Out) 6
    ∷ []

abbrev report : List ReportLine
report =
    report_line.core_on 0 Rr 3 (Some 0) (0 ∷ []) 4
    ∷ report_line.core_on 1 Rr 1 None [] 1
    ∷ report_line.core_on 2 Rr 6 (Some 1) (1 ∷ []) 3
    ∷ report_line.block 0 (Some 0) 3 0
    ∷ report_line.disp 0 0 state.Ready 2 0
    ∷ report_line.ready 0 (0 ∷ [])
    ∷ report_line.cap 0 0 (image_of.sendend 0) 7 None
    ∷ report_line.cap 0 1 (image_of.frame 0 8) 7 None
    ∷ report_line.block 1 (Some 2) 7 0
    ∷ report_line.disp 1 0 state.Ready 3 0
    ∷ report_line.ready 1 (0 ∷ [])
    ∷ report_line.cap 1 0 (image_of.recvend 0) 7 None
    ∷ report_line.cap 1 1 (image_of.frame 0 4) 7 None
    ∷ report_line.channel 0 2 2
    ∷ report_line.out 1 1
    ∷ report_line.out 1 2
    ∷ []

abbrev text : List ℕ
text = texts.lines (
    "0 core 0 slice 0 0 fired 0 ran 0 call csend clock 1"
    ∷ "1 core 0 slice 0 0 fired 0 ran 0 hold csend clock 2"
    ∷ "2 core 1 slice 1 0 fired 0 ran 0 call crecv clock 1"
    ∷ "3 core 0 wake 0 0"
    ∷ "4 core 0 slice 0 0 fired 0 ran 0 call csend clock 3"
    ∷ "5 script 0 post 1 release 1"
    ∷ "6 core 1 release 1 time 1"
    ∷ "7 script 0 post 2 adopt 1 home"
    ∷ "8 core 2 adopt 1 home time 1"
    ∷ "9 script 0 done"
    ∷ "10 core 2 slice 1 0 fired 0 ran 1 call out clock 2"
    ∷ "11 core 2 slice 1 0 fired 0 ran 1 call crecv clock 4"
    ∷ "12 core 2 slice 1 0 fired 0 ran 1 call out clock 6"
    ∷ "report"
    ∷ "core 0 on rr clock 3 home 0 share 0 used 4"
    ∷ "core 1 on rr clock 1 home - share - used 1"
    ∷ "core 2 on rr clock 6 home 1 share 1 used 3"
    ∷ "block 0 core 0 time 3 armed 0"
    ∷ "disp 0 0 ready place 2 due 0"
    ∷ "ready 0 0"
    ∷ "cap 0 0 sendend 0 rights 7 parent -"
    ∷ "cap 0 1 frame 0 8 rights 7 parent -"
    ∷ "block 1 core 2 time 7 armed 0"
    ∷ "disp 1 0 ready place 3 due 0"
    ∷ "ready 1 0"
    ∷ "cap 1 0 recvend 0 rights 7 parent -"
    ∷ "cap 1 1 frame 0 4 rights 7 parent -"
    ∷ "channel 0 sent 2 taken 2"
    ∷ "out 1 1"
    ∷ "out 1 2"
    ∷ "skipped 1"
    ∷ "end"
    ∷ [])

is_played : played image script schedule ≡ record {
  journal = journal;
  skipped = 1;
  reasons =
      Some why.StillWaits ∷ [];
  report = report;
  text = text;
  again = journal;
}
unfolding machine_with_cores whole_texts
is_played = refl

is_judged : judged image script journal ≡ record { is_run = true; shown = Some (all_shown_by report) }
unfolding machine_of_blocks
is_judged = refl

-- each entry touches what the table says
is_tabled : tabled image script schedule ≡ true
unfolding machine_with_cores
is_tabled = refl

-- each block is reported once, on the core that holds it or at rest
is_none_lost : blocks_reported report ≡ blocks_held (image_origin image script) journal
unfolding machine_of_blocks
is_none_lost = refl

-- the journal has told what the state shows
is_told : option_map facts_told (run image script journal)
    ≡ option_map (facts_of (core_run image script schedule).state) (run image script journal)
unfolding machine_with_cores machine_of_blocks
is_told = refl

-- journals that are changed, and the first bad entry of each
are_changed : first_bads image script (
    with_line 2 (texts.slice 1 1 0 0 0 (end.Call op.Crecv) 0) journal
    ∷ without_line 4 journal
    ∷ [])
    ≡ Some 2 ∷ Some 10 ∷ []
unfolding machine_of_blocks
are_changed = refl
