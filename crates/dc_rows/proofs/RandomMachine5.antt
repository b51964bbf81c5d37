-- A random machine, of seed 20021.
-- Made by tools/worked_examples.py from examples/RandomMachine5.
use Rattle.std.specs.Prelude.{◌≡◌, ℕ, List, [], ◌∷◌, refl, true, None, Some}
use Rattle.std.specs.Option.{option_map}
use Rattle.dc_base.specs.declared.images.Image.{Image}
use Rattle.dc_base.specs.declared.kernels.Version.TheVariants.{Rr, Edf}
use Rattle.dc_base.specs.declared.kernels.Clocks.TheVariants.{Kept}
use Rattle.dc_base.specs.declared.actions.Actor.{Actor}
use Rattle.dc_base.specs.declared.actions.Action.{Action}
use Rattle.dc_base.specs.declared.calls.Op.TheVariants as op
use Rattle.dc_base.specs.declared.calls.End.TheVariants as end
use Rattle.dc_base.specs.declared.commands.ScriptLine.{ScriptLine}
use Rattle.dc_base.specs.declared.entries.Entry.{Entry}
use Rattle.dc_base.specs.declared.entries.Reason.TheVariants as why
use Rattle.dc_base.specs.declared.reports.ReportLine.{ReportLine}
use Rattle.dc_base.specs.declared.dispatchers.DispState.TheVariants as state
use Rattle.dc_base.specs.Runs.{run}
use Rattle.dc_base.specs.CoreRuns.{core_run}
use Rattle.dc_base.specs.Origins.{image_origin}
use Rattle.dc_base.specs.Shown.{all_shown_by}
use Rattle.dc_base.specs.Headline.{blocks_reported, blocks_held}
use Rattle.dc_rows.specs.Computed.{machine_of_blocks, machine_with_cores, whole_texts}
use Rattle.dc_rows.specs.Facts.{facts_told, facts_of}
use Rattle.dc_rows.specs.Images as image_of
use Rattle.dc_rows.specs.Orders as order
use Rattle.dc_rows.specs.Played.{played, judged, first_bads}
use Rattle.dc_rows.specs.Reports as report_line
use Rattle.dc_rows.specs.Scripts as script_line
use Rattle.dc_rows.specs.Tabled.{tabled}
use Rattle.dc_rows.specs.Texts as texts
use Rattle.dc_rows.specs.WrongJournals.{with_line, lines_swapped}

abbrev image : Image
image = record {
  format = 1;
  clocks = Kept;
  quantum = 36;
  slices = 1000;
  lines = 4;
  cores =
      image_of.core 0 Rr ∷ image_of.core 4611686018427387903 Edf ∷ [];
  blocks =
      record {
        home = image_of.home 1;
        memory =
            7 ∷ 1 ∷ 0 ∷ 0 ∷ 1 ∷ 27 ∷ 7 ∷ 7 ∷ 62 ∷ 0 ∷ 7 ∷ 0 ∷ 1 ∷ 519 ∷ 1 ∷ 1 ∷ 2 ∷ 4294967295 ∷ [];
        ports = 0;
        signals = 1;
        disps =
            record {
              code =
                  17825799  -- li r1 7
                  ∷ 268566528  -- ld r0 r2 0
                  ∷ 67174400  -- add r0 r1
                  ∷ 285343744  -- st r0 r2 0
                  ∷ 536870912  -- out r0
                  ∷ 604110848  -- csend s0 s2 0
                  ∷ 251658241  -- jmp 1
                  ∷ [];
              period = 1;
              due = 0;
              caps =
                  image_of.cap 0 (image_of.sendend 0) 7 ∷ image_of.cap 1 (image_of.recvend 2) 7 ∷ image_of.cap 2 (image_of.frame 4 8) 7 ∷ [];
            }
            ∷ [];
      }
      ∷ record {
        home = image_of.home 0;
        memory =
            200 ∷ 935 ∷ 0 ∷ 7 ∷ 2 ∷ [];
        ports = 1;
        signals = 1;
        disps =
            record {
              code =
                  17825799  -- li r1 7
                  ∷ 621936640  -- crecv s1 s2 0
                  ∷ 268566528  -- ld r0 r2 0
                  ∷ 67174400  -- add r0 r1
                  ∷ 285343744  -- st r0 r2 0
                  ∷ 536870912  -- out r0
                  ∷ 604110848  -- csend s0 s2 0
                  ∷ 251658241  -- jmp 1
                  ∷ [];
              period = 1;
              due = 0;
              caps =
                  image_of.cap 0 (image_of.sendend 1) 7 ∷ image_of.cap 1 (image_of.recvend 0) 7 ∷ image_of.cap 2 (image_of.frame 4 8) 7 ∷ [];
            }
            ∷ record {
              code =
                  540016640  -- out r3
                  ∷ 251658240  -- jmp 0
                  ∷ [];
              period = 1;
              due = 0;
              caps = [];
            }
            ∷ [];
      }
      ∷ record {
        home = None;
        memory =
            1 ∷ 0 ∷ 7 ∷ 0 ∷ 297 ∷ 7 ∷ 4294967295 ∷ 7 ∷ 7 ∷ 4294967295 ∷ 0 ∷ 2 ∷ 853 ∷ 4294967295 ∷ [];
        ports = 2;
        signals = 3;
        disps =
            record {
              code =
                  17825794  -- li r1 2
                  ∷ 621936640  -- crecv s1 s2 0
                  ∷ 268566528  -- ld r0 r2 0
                  ∷ 67174400  -- add r0 r1
                  ∷ 285343744  -- st r0 r2 0
                  ∷ 536870912  -- out r0
                  ∷ 251658241  -- jmp 1
                  ∷ [];
              period = 1;
              due = 0;
              caps =
                  image_of.cap 0 (image_of.sendend 2) 7 ∷ image_of.cap 1 (image_of.recvend 1) 7 ∷ image_of.cap 2 (image_of.frame 12 4) 7 ∷ [];
            }
            ∷ [];
      }
      ∷ [];
  channels =
      image_of.channel 0 1 2 ∷ image_of.channel 1 2 1 ∷ image_of.channel 2 0 3 ∷ [];
}

abbrev script : List ScriptLine
script =
    script_line.start 0 Rr ∷ script_line.raise 0 ∷ script_line.park 1 1 ∷ script_line.replace 1 Rr ∷ script_line.raise 0 ∷ script_line.move 0 0
    ∷ script_line.unpark 1 1 ∷ script_line.park 1 0 ∷ script_line.stop 1 ∷ script_line.route 2 1 ∷ []

abbrev schedule : List (Actor × Action)
schedule =
    texts.step 0 ∷ texts.script ∷ texts.step 1 ∷ texts.step 0 ∷ texts.step 1 ∷ texts.script ∷ texts.script ∷ texts.wake 0 1 0 ∷ texts.step 1 ∷ texts.step 0
    ∷ texts.wake 1 0 0 ∷ texts.script ∷ texts.wake 1 2 0 ∷ texts.wake 1 0 0 ∷ texts.step 0 ∷ texts.order 0 ∷ texts.step 1 ∷ texts.step 1 ∷ texts.script
    ∷ texts.wake 1 2 0 ∷ texts.order 0 ∷ texts.step 0 ∷ texts.script ∷ texts.script ∷ texts.step 1 ∷ texts.step 1 ∷ texts.order 1 ∷ texts.script
    ∷ texts.step 1 ∷ texts.step 0 ∷ texts.script ∷ texts.step 0 ∷ texts.step 0 ∷ texts.script ∷ texts.script ∷ texts.step 0 ∷ texts.script ∷ texts.step 0
    ∷ texts.step 0 ∷ texts.step 0 ∷ []

abbrev journal : List Entry
journal =
    texts.slice 0 1 0 0 1 (end.Hold op.Crecv) 1
    ∷ texts.refused 0 (order.already_on 0)
    ∷ texts.slice 1 0 0 0 4 (end.Call op.Out) 4611686018427387908
    ∷ texts.slice 0 1 1 0 0 (end.Call op.Out) 2
    ∷ texts.slice 1 0 0 0 0 (end.Call op.Csend) 4611686018427387909
    ∷ texts.woken 0 1 0
    ∷ texts.slice 1 0 0 0 4 (end.Call op.Out) 4611686018427387914
    ∷ texts.slice 0 1 1 0 1 (end.Call op.Out) 4
    ∷ texts.slice 0 1 0 0 0 (end.Call op.Crecv) 5
    ∷ texts.slice 1 0 0 0 0 (end.Call op.Csend) 4611686018427387915
    ∷ texts.slice 1 0 0 0 4 (end.Call op.Out) 4611686018427387920
    ∷ texts.slice 0 1 1 0 1 (end.Call op.Out) 7
    ∷ texts.slice 1 0 0 0 0 (end.Call op.Csend) 4611686018427387921
    ∷ texts.slice 1 0 0 0 4 (end.Call op.Out) 4611686018427387926
    ∷ texts.slice 1 0 0 0 0 (end.Hold op.Csend) 4611686018427387927
    ∷ texts.slice 0 1 0 0 3 (end.Call op.Out) 11
    ∷ texts.slice 0 1 1 0 1 (end.Call op.Out) 13
    ∷ texts.slice 0 1 0 0 0 (end.Call op.Csend) 14
    ∷ texts.slice 0 1 1 0 1 (end.Call op.Out) 16
    ∷ texts.slice 0 1 0 0 1 (end.Call op.Crecv) 18
    ∷ texts.slice 0 1 1 0 1 (end.Call op.Out) 20
    ∷ texts.slice 0 1 0 0 3 (end.Call op.Out) 24
    ∷ []

abbrev report : List ReportLine
report =
    report_line.core_on 0 Rr 24 (Some 1) (1 ∷ []) 13
    ∷ report_line.core_on 1 Edf 4611686018427387927 (Some 0) (0 ∷ []) 8
    ∷ report_line.block 0 (Some 1) 24 0
    ∷ report_line.disp 0 0 (report_line.waits_csend 0) 5 8
    ∷ report_line.ready 0 []
    ∷ report_line.cap 0 0 (image_of.sendend 0) 7 None
    ∷ report_line.cap 0 1 (image_of.recvend 2) 7 None
    ∷ report_line.cap 0 2 (image_of.frame 4 8) 7 None
    ∷ report_line.block 1 (Some 0) 24 0
    ∷ report_line.disp 1 0 state.Ready 6 0
    ∷ report_line.disp 1 1 state.Ready 1 0
    ∷ report_line.ready 1 (1 ∷ 0 ∷ [])
    ∷ report_line.cap 1 0 (image_of.sendend 1) 7 None
    ∷ report_line.cap 1 1 (image_of.recvend 0) 7 None
    ∷ report_line.cap 1 2 (image_of.frame 4 8) 7 None
    ∷ report_line.block 2 None 0 0
    ∷ report_line.disp 2 0 state.Ready 0 0
    ∷ report_line.ready 2 (0 ∷ [])
    ∷ report_line.cap 2 0 (image_of.sendend 2) 7 None
    ∷ report_line.cap 2 1 (image_of.recvend 1) 7 None
    ∷ report_line.cap 2 2 (image_of.frame 12 4) 7 None
    ∷ report_line.channel 0 3 2
    ∷ report_line.message 0 1 27 7 7
    ∷ report_line.channel 1 1 0
    ∷ report_line.message 1 1 27 7 7
    ∷ report_line.channel 2 0 0
    ∷ report_line.wire 0 None None 0 0 0 0 0 0 0
    ∷ report_line.wire 1 None None 0 0 0 0 0 0 0
    ∷ report_line.wire 2 None None 0 0 0 0 0 0 0
    ∷ report_line.wire 3 None None 0 0 0 0 0 0 0
    ∷ report_line.out 0 14
    ∷ report_line.out 0 21
    ∷ report_line.out 0 28
    ∷ report_line.out 0 35
    ∷ report_line.out 1 0
    ∷ report_line.out 1 0
    ∷ report_line.out 1 0
    ∷ report_line.out 1 207
    ∷ report_line.out 1 0
    ∷ report_line.out 1 0
    ∷ report_line.out 1 0
    ∷ report_line.out 1 214
    ∷ []

abbrev text : List ℕ
text = texts.lines (
    "0 core 0 slice 1 0 fired 0 ran 1 hold crecv clock 1"
    ∷ "1 script 0 refused 1 AlreadyOn 0"
    ∷ "2 core 1 slice 0 0 fired 0 ran 4 call out clock 4611686018427387908"
    ∷ "3 core 0 slice 1 1 fired 0 ran 0 call out clock 2"
    ∷ "4 core 1 slice 0 0 fired 0 ran 0 call csend clock 4611686018427387909"
    ∷ "5 core 0 wake 1 0"
    ∷ "6 core 1 slice 0 0 fired 0 ran 4 call out clock 4611686018427387914"
    ∷ "7 core 0 slice 1 1 fired 0 ran 1 call out clock 4"
    ∷ "8 core 0 slice 1 0 fired 0 ran 0 call crecv clock 5"
    ∷ "9 core 1 slice 0 0 fired 0 ran 0 call csend clock 4611686018427387915"
    ∷ "10 core 1 slice 0 0 fired 0 ran 4 call out clock 4611686018427387920"
    ∷ "11 core 0 slice 1 1 fired 0 ran 1 call out clock 7"
    ∷ "12 core 1 slice 0 0 fired 0 ran 0 call csend clock 4611686018427387921"
    ∷ "13 core 1 slice 0 0 fired 0 ran 4 call out clock 4611686018427387926"
    ∷ "14 core 1 slice 0 0 fired 0 ran 0 hold csend clock 4611686018427387927"
    ∷ "15 core 0 slice 1 0 fired 0 ran 3 call out clock 11"
    ∷ "16 core 0 slice 1 1 fired 0 ran 1 call out clock 13"
    ∷ "17 core 0 slice 1 0 fired 0 ran 0 call csend clock 14"
    ∷ "18 core 0 slice 1 1 fired 0 ran 1 call out clock 16"
    ∷ "19 core 0 slice 1 0 fired 0 ran 1 call crecv clock 18"
    ∷ "20 core 0 slice 1 1 fired 0 ran 1 call out clock 20"
    ∷ "21 core 0 slice 1 0 fired 0 ran 3 call out clock 24"
    ∷ "report"
    ∷ "core 0 on rr clock 24 home 1 share 1 used 13"
    ∷ "core 1 on edf clock 4611686018427387927 home 0 share 0 used 8"
    ∷ "block 0 core 1 time 24 armed 0"
    ∷ "disp 0 0 wait csend 0 place 5 due 8"
    ∷ "ready 0 -"
    ∷ "cap 0 0 sendend 0 rights 7 parent -"
    ∷ "cap 0 1 recvend 2 rights 7 parent -"
    ∷ "cap 0 2 frame 4 8 rights 7 parent -"
    ∷ "block 1 core 0 time 24 armed 0"
    ∷ "disp 1 0 ready place 6 due 0"
    ∷ "disp 1 1 ready place 1 due 0"
    ∷ "ready 1 1,0"
    ∷ "cap 1 0 sendend 1 rights 7 parent -"
    ∷ "cap 1 1 recvend 0 rights 7 parent -"
    ∷ "cap 1 2 frame 4 8 rights 7 parent -"
    ∷ "block 2 rest time 0 armed 0"
    ∷ "disp 2 0 ready place 0 due 0"
    ∷ "ready 2 0"
    ∷ "cap 2 0 sendend 2 rights 7 parent -"
    ∷ "cap 2 1 recvend 1 rights 7 parent -"
    ∷ "cap 2 2 frame 12 4 rights 7 parent -"
    ∷ "channel 0 sent 3 taken 2"
    ∷ "message 0 1 27 7 7"
    ∷ "channel 1 sent 1 taken 0"
    ∷ "message 1 1 27 7 7"
    ∷ "channel 2 sent 0 taken 0"
    ∷ "line 0 to - - route - raised 0 stray 0 pending 0 merged 0 latched 0 joined 0 delivered 0"
    ∷ "line 1 to - - route - raised 0 stray 0 pending 0 merged 0 latched 0 joined 0 delivered 0"
    ∷ "line 2 to - - route - raised 0 stray 0 pending 0 merged 0 latched 0 joined 0 delivered 0"
    ∷ "line 3 to - - route - raised 0 stray 0 pending 0 merged 0 latched 0 joined 0 delivered 0"
    ∷ "out 0 14"
    ∷ "out 0 21"
    ∷ "out 0 28"
    ∷ "out 0 35"
    ∷ "out 1 0"
    ∷ "out 1 0"
    ∷ "out 1 0"
    ∷ "out 1 207"
    ∷ "out 1 0"
    ∷ "out 1 0"
    ∷ "out 1 0"
    ∷ "out 1 214"
    ∷ "skipped 18"
    ∷ "end"
    ∷ [])

is_played : played image script schedule ≡ record {
  journal = journal;
  skipped = 18;
  reasons =
      Some (why.RaisesFirst 1) ∷ Some (why.RaisesFirst 1) ∷ Some why.NotWaiting ∷ Some (why.RaisesFirst 1) ∷ Some (why.NotHere (record { 0 = 2 }))
      ∷ Some why.NotWaiting ∷ Some why.NoOrder ∷ Some (why.RaisesFirst 1) ∷ Some (why.NotHere (record { 0 = 2 })) ∷ Some why.NoOrder
      ∷ Some (why.RaisesFirst 1) ∷ Some (why.RaisesFirst 1) ∷ Some why.NoOrder ∷ Some (why.RaisesFirst 1) ∷ Some (why.RaisesFirst 1)
      ∷ Some (why.RaisesFirst 1) ∷ Some (why.RaisesFirst 1) ∷ Some (why.RaisesFirst 1) ∷ [];
  report = report;
  text = text;
  again = journal;
}
unfolding machine_with_cores whole_texts
is_played = refl

is_judged : judged image script journal ≡ record { is_run = true; shown = Some (all_shown_by report) }
unfolding machine_of_blocks
is_judged = refl

-- each entry touches what the table says
is_tabled : tabled image script schedule ≡ true
unfolding machine_with_cores
is_tabled = refl

-- each block is reported once, on the core that holds it or at rest
is_none_lost : blocks_reported report ≡ blocks_held (image_origin image script) journal
unfolding machine_of_blocks
is_none_lost = refl

-- the journal has told what the state shows
is_told : option_map facts_told (run image script journal)
    ≡ option_map (facts_of (core_run image script schedule).state) (run image script journal)
unfolding machine_with_cores machine_of_blocks
is_told = refl

-- journals that are changed, and the first bad entry of each
are_changed : first_bads image script (
    with_line 7 (texts.slice 0 1 2 0 1 (end.Call op.Out) 4) journal
    ∷ lines_swapped 6 journal
    ∷ lines_swapped 0 journal
    ∷ [])
    ≡ Some 7 ∷ None ∷ None ∷ []
unfolding machine_of_blocks
are_changed = refl
