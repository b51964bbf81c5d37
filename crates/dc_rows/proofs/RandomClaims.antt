-- A random machine with claims of lines that are not there.
-- Made by tools/worked_examples.py from examples/RandomClaims.
use Rattle.std.specs.Prelude.{◌≡◌, ℕ, List, [], ◌∷◌, refl, true, false, None, Some}
use Rattle.std.specs.Option.{option_map}
use Rattle.dc_base.specs.declared.images.Image.{Image}
use Rattle.dc_base.specs.declared.kernels.Version.TheVariants.{Rr, Edf}
use Rattle.dc_base.specs.declared.kernels.Clocks.TheVariants.{Kept}
use Rattle.dc_base.specs.declared.actions.Actor.{Actor}
use Rattle.dc_base.specs.declared.actions.Action.{Action}
use Rattle.dc_base.specs.declared.calls.Op.TheVariants as op
use Rattle.dc_base.specs.declared.calls.End.TheVariants as end
use Rattle.dc_base.specs.declared.interrupts.Latched.TheVariants as how
use Rattle.dc_base.specs.declared.commands.ScriptLine.{ScriptLine}
use Rattle.dc_base.specs.declared.entries.Entry.{Entry}
use Rattle.dc_base.specs.declared.entries.Reason.TheVariants as why
use Rattle.dc_base.specs.declared.reports.ReportLine.{ReportLine}
use Rattle.dc_base.specs.declared.dispatchers.DispState.TheVariants as state
use Rattle.dc_base.specs.Runs.{run}
use Rattle.dc_base.specs.CoreRuns.{core_run}
use Rattle.dc_base.specs.Origins.{image_origin}
use Rattle.dc_base.specs.Shown.{all_shown_by}
use Rattle.dc_base.specs.Headline.{blocks_reported, blocks_held}
use Rattle.dc_rows.specs.Computed.{machine_of_blocks, machine_with_cores, whole_texts}
use Rattle.dc_rows.specs.Facts.{facts_told, facts_of}
use Rattle.dc_rows.specs.Images as image_of
use Rattle.dc_rows.specs.Orders as order
use Rattle.dc_rows.specs.Played.{played, judged, first_bads}
use Rattle.dc_rows.specs.Reports as report_line
use Rattle.dc_rows.specs.Scripts as script_line
use Rattle.dc_rows.specs.Tabled.{tabled}
use Rattle.dc_rows.specs.Texts as texts
use Rattle.dc_rows.specs.WrongJournals.{with_line, without_line}

abbrev image : Image
image = record {
  format = 1;
  clocks = Kept;
  quantum = 4;
  slices = 100;
  lines = 2;
  cores =
      image_of.core 2367 Edf ∷ image_of.core 4342 Rr ∷ image_of.core 4503 Edf ∷ [];
  blocks =
      record {
        home = image_of.home 0;
        memory = [];
        ports = 0;
        signals = 1;
        disps =
            record {
              code =
                  17825868  -- li r1 76
                  ∷ 741605376  -- bind s3 s4
                  ∷ 756219904  -- give s1 s3
                  ∷ 537919488  -- out r1
                  ∷ 335544320  -- halt
                  ∷ [];
              period = 1;
              due = 0;
              caps =
                  image_of.cap 0 (image_of.recvend 2) 7 ∷ image_of.cap 1 (image_of.sendend 0) 7 ∷ image_of.cap 4 (image_of.signal 0) 7
                  ∷ image_of.cap 3 (image_of.line 0) 7 ∷ [];
            }
            ∷ record {
              code =
                  553648128  -- yield
                  ∷ 537919488  -- out r1
                  ∷ 772210728  -- claim s0 s7 40
                  ∷ 743702528  -- bind s5 s4
                  ∷ 335544320  -- halt
                  ∷ [];
              period = 14;
              due = 0;
              caps =
                  image_of.cap 0 (image_of.recvend 2) 7 ∷ image_of.cap 1 (image_of.sendend 0) 7 ∷ image_of.cap 4 (image_of.signal 0) 7 ∷ [];
            }
            ∷ record {
              code =
                  772079617  -- claim s0 s5 1
                  ∷ 743702528  -- bind s5 s4
                  ∷ 553648128  -- yield
                  ∷ [];
              period = 1;
              due = 0;
              caps =
                  image_of.cap 0 (image_of.recvend 2) 7 ∷ image_of.cap 1 (image_of.sendend 0) 7 ∷ image_of.cap 4 (image_of.signal 0) 7 ∷ [];
            }
            ∷ [];
      }
      ∷ record {
        home = image_of.home 1;
        memory = [];
        ports = 0;
        signals = 1;
        disps =
            record {
              code =
                  553648128  -- yield
                  ∷ 17825823  -- li r1 31
                  ∷ 741605376  -- bind s3 s4
                  ∷ 756219904  -- give s1 s3
                  ∷ 537919488  -- out r1
                  ∷ 251658240  -- jmp 0
                  ∷ [];
              period = 7;
              due = 0;
              caps =
                  image_of.cap 0 (image_of.recvend 0) 7 ∷ image_of.cap 1 (image_of.sendend 1) 7 ∷ image_of.cap 4 (image_of.signal 0) 7
                  ∷ image_of.cap 3 (image_of.line 1) 7 ∷ [];
            }
            ∷ record {
              code =
                  537919488  -- out r1
                  ∷ 553648128  -- yield
                  ∷ 772210689  -- claim s0 s7 1
                  ∷ 743702528  -- bind s5 s4
                  ∷ 335544320  -- halt
                  ∷ [];
              period = 8;
              due = 0;
              caps =
                  image_of.cap 0 (image_of.recvend 0) 7 ∷ image_of.cap 1 (image_of.sendend 1) 7 ∷ image_of.cap 4 (image_of.signal 0) 7 ∷ [];
            }
            ∷ record {
              code =
                  772145167  -- claim s0 s6 15
                  ∷ 537919488  -- out r1
                  ∷ 335544320  -- halt
                  ∷ [];
              period = 13;
              due = 0;
              caps =
                  image_of.cap 0 (image_of.recvend 0) 7 ∷ image_of.cap 1 (image_of.sendend 1) 7 ∷ image_of.cap 4 (image_of.signal 0) 7 ∷ [];
            }
            ∷ [];
      }
      ∷ record {
        home = image_of.home 2;
        memory = [];
        ports = 0;
        signals = 1;
        disps =
            record {
              code =
                  537919488  -- out r1
                  ∷ 318767104  -- nop
                  ∷ 772145155  -- claim s0 s6 3
                  ∷ 537919488  -- out r1
                  ∷ 553648128  -- yield
                  ∷ [];
              period = 1;
              due = 0;
              caps =
                  image_of.cap 0 (image_of.recvend 1) 7 ∷ image_of.cap 1 (image_of.sendend 2) 7 ∷ image_of.cap 4 (image_of.signal 0) 7 ∷ [];
            }
            ∷ record {
              code =
                  17825850  -- li r1 58
                  ∷ 772145157  -- claim s0 s6 5
                  ∷ 743702528  -- bind s5 s4
                  ∷ 553648128  -- yield
                  ∷ [];
              period = 9;
              due = 0;
              caps =
                  image_of.cap 0 (image_of.recvend 1) 7 ∷ image_of.cap 1 (image_of.sendend 2) 7 ∷ image_of.cap 4 (image_of.signal 0) 7 ∷ [];
            }
            ∷ record {
              code =
                  772079618  -- claim s0 s5 2
                  ∷ 743702528  -- bind s5 s4
                  ∷ 553648128  -- yield
                  ∷ [];
              period = 1;
              due = 0;
              caps =
                  image_of.cap 0 (image_of.recvend 1) 7 ∷ image_of.cap 1 (image_of.sendend 2) 7 ∷ image_of.cap 4 (image_of.signal 0) 7 ∷ [];
            }
            ∷ [];
      }
      ∷ [];
  channels =
      image_of.channel 0 1 2 ∷ image_of.channel 1 2 2 ∷ image_of.channel 2 0 2 ∷ [];
}

abbrev script : List ScriptLine
script =
    script_line.raise 1 ∷ script_line.park 0 1 ∷ script_line.route 1 0 ∷ script_line.move 1 0 ∷ script_line.raise 0 ∷ []

abbrev schedule : List (Actor × Action)
schedule =
    texts.raise ∷ texts.step 2 ∷ texts.step 1 ∷ texts.step 2 ∷ texts.step 1 ∷ texts.step 2 ∷ texts.script ∷ texts.order 0 ∷ texts.step 1 ∷ texts.script
    ∷ texts.step 2 ∷ texts.step 0 ∷ texts.step 0 ∷ texts.step 1 ∷ texts.order 1 ∷ texts.step 1 ∷ texts.script ∷ texts.script ∷ texts.step 1 ∷ texts.script
    ∷ texts.step 1 ∷ texts.order 1 ∷ texts.step 1 ∷ texts.raise ∷ texts.intake 1 0 ∷ texts.step 1 ∷ texts.script ∷ texts.order 0 ∷ texts.step 1
    ∷ texts.script ∷ texts.step 1 ∷ texts.step 1 ∷ texts.step 0 ∷ texts.step 0 ∷ texts.step 1 ∷ []

abbrev journal : List Entry
journal =
    texts.raised 0 1 (order.stray 1)
    ∷ texts.slice 2 2 0 0 0 (end.Call op.Out) 4504
    ∷ texts.slice 1 1 0 0 0 (end.Call op.Yield) 4343
    ∷ texts.slice 2 2 1 0 1 (end.Trap 12) 4505
    ∷ texts.slice 1 1 1 0 0 (end.Call op.Out) 4344
    ∷ texts.slice 2 2 2 0 0 (end.Trap 12) 4506
    ∷ texts.post 1 0 (order.release 0)
    ∷ texts.release 0 0 0
    ∷ texts.slice 1 1 2 0 0 (end.Trap 12) 4345
    ∷ texts.post 1 1 (order.adopt 0 true)
    ∷ texts.slice 2 2 0 0 1 (end.Trap 12) 4507
    ∷ texts.slice 1 1 0 0 1 (end.Call op.Bind) 4347
    ∷ texts.adopt 1 0 true 0
    ∷ texts.slice 1 1 1 0 0 (end.Call op.Yield) 4348
    ∷ texts.done 1
    ∷ texts.routed 2 1 0
    ∷ texts.slice 1 0 0 0 1 (end.Call op.Bind) 4350
    ∷ texts.post 3 1 (order.release 1)
    ∷ texts.slice 1 1 0 0 0 (end.Call op.Give) 4351
    ∷ texts.release 1 1 9
    ∷ texts.slice 1 0 1 0 0 (end.Call op.Yield) 4352
    ∷ texts.raised 4 0 (order.pending 1)
    ∷ texts.taken_in 1 0 1 0 0 how.Latched
    ∷ texts.slice 1 0 2 0 0 (end.Trap 12) 4353
    ∷ texts.post 3 0 (order.adopt 1 false)
    ∷ texts.adopt 0 1 false 9
    ∷ texts.slice 1 0 0 0 0 (end.Call op.Give) 4354
    ∷ texts.done 3
    ∷ texts.slice 1 0 1 0 0 (end.Call op.Out) 4355
    ∷ texts.slice 1 0 0 0 0 (end.Call op.Out) 4356
    ∷ texts.slice 0 1 0 0 0 (end.Call op.Out) 2368
    ∷ texts.slice 0 1 1 0 0 (end.Trap 12) 2369
    ∷ texts.slice 1 0 1 0 0 (end.Trap 12) 4357
    ∷ []

abbrev report : List ReportLine
report =
    report_line.core_on 0 Edf 2369 (Some 1) (1 ∷ []) 2
    ∷ report_line.core_on 1 Rr 4357 None (0 ∷ []) 13
    ∷ report_line.core_on 2 Edf 4507 (Some 2) (2 ∷ []) 4
    ∷ report_line.block 0 (Some 1) 10 0
    ∷ report_line.disp 0 0 state.Ready 4 0
    ∷ report_line.disp 0 1 (state.Trapped 12) 2 0
    ∷ report_line.disp 0 2 (state.Trapped 12) 0 0
    ∷ report_line.ready 0 (0 ∷ [])
    ∷ report_line.cap 0 0 (image_of.recvend 2) 7 None
    ∷ report_line.cap 0 1 (image_of.sendend 0) 7 None
    ∷ report_line.cap 0 4 (image_of.signal 0) 7 None
    ∷ report_line.cap 0 16 (image_of.recvend 2) 7 None
    ∷ report_line.cap 0 17 (image_of.sendend 0) 7 None
    ∷ report_line.cap 0 20 (image_of.signal 0) 7 None
    ∷ report_line.cap 0 32 (image_of.recvend 2) 7 None
    ∷ report_line.cap 0 33 (image_of.sendend 0) 7 None
    ∷ report_line.cap 0 36 (image_of.signal 0) 7 None
    ∷ report_line.signal 0 0 (report_line.from_line 0) 1
    ∷ report_line.block 1 (Some 0) 11 0
    ∷ report_line.disp 1 0 state.Ready 5 7
    ∷ report_line.disp 1 1 (state.Trapped 12) 2 8
    ∷ report_line.disp 1 2 (state.Trapped 12) 0 0
    ∷ report_line.ready 1 (0 ∷ [])
    ∷ report_line.cap 1 0 (image_of.recvend 0) 7 None
    ∷ report_line.cap 1 1 (image_of.sendend 1) 7 None
    ∷ report_line.cap 1 4 (image_of.signal 0) 7 None
    ∷ report_line.cap 1 16 (image_of.recvend 0) 7 None
    ∷ report_line.cap 1 17 (image_of.sendend 1) 7 None
    ∷ report_line.cap 1 20 (image_of.signal 0) 7 None
    ∷ report_line.cap 1 32 (image_of.recvend 0) 7 None
    ∷ report_line.cap 1 33 (image_of.sendend 1) 7 None
    ∷ report_line.cap 1 36 (image_of.signal 0) 7 None
    ∷ report_line.block 2 (Some 2) 4 0
    ∷ report_line.disp 2 0 (state.Trapped 12) 2 2
    ∷ report_line.disp 2 1 (state.Trapped 12) 1 9
    ∷ report_line.disp 2 2 (state.Trapped 12) 0 1
    ∷ report_line.ready 2 []
    ∷ report_line.cap 2 0 (image_of.recvend 1) 7 None
    ∷ report_line.cap 2 1 (image_of.sendend 2) 7 None
    ∷ report_line.cap 2 4 (image_of.signal 0) 7 None
    ∷ report_line.cap 2 16 (image_of.recvend 1) 7 None
    ∷ report_line.cap 2 17 (image_of.sendend 2) 7 None
    ∷ report_line.cap 2 20 (image_of.signal 0) 7 None
    ∷ report_line.cap 2 32 (image_of.recvend 1) 7 None
    ∷ report_line.cap 2 33 (image_of.sendend 2) 7 None
    ∷ report_line.cap 2 36 (image_of.signal 0) 7 None
    ∷ report_line.channel 0 0 0
    ∷ report_line.channel 1 0 0
    ∷ report_line.channel 2 0 0
    ∷ report_line.wire 0 None (Some 1) 1 0 0 0 1 0 0
    ∷ report_line.offer 0 0 7
    ∷ report_line.wire 1 None (Some 0) 1 1 0 0 0 0 0
    ∷ report_line.offer 1 1 7
    ∷ report_line.out 0 0
    ∷ report_line.out 0 76
    ∷ report_line.out 1 0
    ∷ report_line.out 1 31
    ∷ report_line.out 2 0
    ∷ []

abbrev text : List ℕ
text = texts.lines (
    "0 script 0 raise 1 1 stray"
    ∷ "1 core 2 slice 2 0 fired 0 ran 0 call out clock 4504"
    ∷ "2 core 1 slice 1 0 fired 0 ran 0 call yield clock 4343"
    ∷ "3 core 2 slice 2 1 fired 0 ran 1 trap 12 clock 4505"
    ∷ "4 core 1 slice 1 1 fired 0 ran 0 call out clock 4344"
    ∷ "5 core 2 slice 2 2 fired 0 ran 0 trap 12 clock 4506"
    ∷ "6 script 1 post 0 release 0"
    ∷ "7 core 0 release 0 time 0"
    ∷ "8 core 1 slice 1 2 fired 0 ran 0 trap 12 clock 4345"
    ∷ "9 script 1 post 1 adopt 0 parked"
    ∷ "10 core 2 slice 2 0 fired 0 ran 1 trap 12 clock 4507"
    ∷ "11 core 1 slice 1 0 fired 0 ran 1 call bind clock 4347"
    ∷ "12 core 1 adopt 0 parked time 0"
    ∷ "13 core 1 slice 1 1 fired 0 ran 0 call yield clock 4348"
    ∷ "14 script 1 done"
    ∷ "15 script 2 route 1 0"
    ∷ "16 core 1 slice 0 0 fired 0 ran 1 call bind clock 4350"
    ∷ "17 script 3 post 1 release 1"
    ∷ "18 core 1 slice 1 0 fired 0 ran 0 call give clock 4351"
    ∷ "19 core 1 release 1 time 9"
    ∷ "20 core 1 slice 0 1 fired 0 ran 0 call yield clock 4352"
    ∷ "21 script 4 raise 0 1 pending"
    ∷ "22 core 1 intake 0 1 0 0 latched"
    ∷ "23 core 1 slice 0 2 fired 0 ran 0 trap 12 clock 4353"
    ∷ "24 script 3 post 0 adopt 1 home"
    ∷ "25 core 0 adopt 1 home time 9"
    ∷ "26 core 1 slice 0 0 fired 0 ran 0 call give clock 4354"
    ∷ "27 script 3 done"
    ∷ "28 core 1 slice 0 1 fired 0 ran 0 call out clock 4355"
    ∷ "29 core 1 slice 0 0 fired 0 ran 0 call out clock 4356"
    ∷ "30 core 0 slice 1 0 fired 0 ran 0 call out clock 2368"
    ∷ "31 core 0 slice 1 1 fired 0 ran 0 trap 12 clock 2369"
    ∷ "32 core 1 slice 0 1 fired 0 ran 0 trap 12 clock 4357"
    ∷ "report"
    ∷ "core 0 on edf clock 2369 home 1 share 1 used 2"
    ∷ "core 1 on rr clock 4357 home - share 0 used 13"
    ∷ "core 2 on edf clock 4507 home 2 share 2 used 4"
    ∷ "block 0 core 1 time 10 armed 0"
    ∷ "disp 0 0 ready place 4 due 0"
    ∷ "disp 0 1 trap 12 place 2 due 0"
    ∷ "disp 0 2 trap 12 place 0 due 0"
    ∷ "ready 0 0"
    ∷ "cap 0 0 recvend 2 rights 7 parent -"
    ∷ "cap 0 1 sendend 0 rights 7 parent -"
    ∷ "cap 0 4 signal 0 rights 7 parent -"
    ∷ "cap 0 16 recvend 2 rights 7 parent -"
    ∷ "cap 0 17 sendend 0 rights 7 parent -"
    ∷ "cap 0 20 signal 0 rights 7 parent -"
    ∷ "cap 0 32 recvend 2 rights 7 parent -"
    ∷ "cap 0 33 sendend 0 rights 7 parent -"
    ∷ "cap 0 36 signal 0 rights 7 parent -"
    ∷ "signal 0 0 line 0 1"
    ∷ "block 1 core 0 time 11 armed 0"
    ∷ "disp 1 0 ready place 5 due 7"
    ∷ "disp 1 1 trap 12 place 2 due 8"
    ∷ "disp 1 2 trap 12 place 0 due 0"
    ∷ "ready 1 0"
    ∷ "cap 1 0 recvend 0 rights 7 parent -"
    ∷ "cap 1 1 sendend 1 rights 7 parent -"
    ∷ "cap 1 4 signal 0 rights 7 parent -"
    ∷ "cap 1 16 recvend 0 rights 7 parent -"
    ∷ "cap 1 17 sendend 1 rights 7 parent -"
    ∷ "cap 1 20 signal 0 rights 7 parent -"
    ∷ "cap 1 32 recvend 0 rights 7 parent -"
    ∷ "cap 1 33 sendend 1 rights 7 parent -"
    ∷ "cap 1 36 signal 0 rights 7 parent -"
    ∷ "block 2 core 2 time 4 armed 0"
    ∷ "disp 2 0 trap 12 place 2 due 2"
    ∷ "disp 2 1 trap 12 place 1 due 9"
    ∷ "disp 2 2 trap 12 place 0 due 1"
    ∷ "ready 2 -"
    ∷ "cap 2 0 recvend 1 rights 7 parent -"
    ∷ "cap 2 1 sendend 2 rights 7 parent -"
    ∷ "cap 2 4 signal 0 rights 7 parent -"
    ∷ "cap 2 16 recvend 1 rights 7 parent -"
    ∷ "cap 2 17 sendend 2 rights 7 parent -"
    ∷ "cap 2 20 signal 0 rights 7 parent -"
    ∷ "cap 2 32 recvend 1 rights 7 parent -"
    ∷ "cap 2 33 sendend 2 rights 7 parent -"
    ∷ "cap 2 36 signal 0 rights 7 parent -"
    ∷ "channel 0 sent 0 taken 0"
    ∷ "channel 1 sent 0 taken 0"
    ∷ "channel 2 sent 0 taken 0"
    ∷ "line 0 to - - route 1 raised 1 stray 0 pending 0 merged 0 latched 1 joined 0 delivered 0"
    ∷ "offer 0 0 rights 7"
    ∷ "line 1 to - - route 0 raised 1 stray 1 pending 0 merged 0 latched 0 joined 0 delivered 0"
    ∷ "offer 1 1 rights 7"
    ∷ "out 0 0"
    ∷ "out 0 76"
    ∷ "out 1 0"
    ∷ "out 1 31"
    ∷ "out 2 0"
    ∷ "skipped 2"
    ∷ "end"
    ∷ [])

is_played : played image script schedule ≡ record {
  journal = journal;
  skipped = 2;
  reasons =
      Some why.Nothing ∷ Some why.Nothing ∷ [];
  report = report;
  text = text;
  again = journal;
}
unfolding machine_with_cores whole_texts
is_played = refl

is_judged : judged image script journal ≡ record { is_run = true; shown = Some (all_shown_by report) }
unfolding machine_of_blocks
is_judged = refl

-- each entry touches what the table says
is_tabled : tabled image script schedule ≡ true
unfolding machine_with_cores
is_tabled = refl

-- each block is reported once, on the core that holds it or at rest
is_none_lost : blocks_reported report ≡ blocks_held (image_origin image script) journal
unfolding machine_of_blocks
is_none_lost = refl

-- the journal has told what the state shows
is_told : option_map facts_told (run image script journal)
    ≡ option_map (facts_of (core_run image script schedule).state) (run image script journal)
unfolding machine_with_cores machine_of_blocks
is_told = refl

-- journals that are changed, and the first bad entry of each
are_changed : first_bads image script (
    with_line 23 (texts.slice 1 0 2 0 0 (end.Call op.Claim) 4353) journal
    ∷ without_line 15 journal
    ∷ [])
    ≡ Some 23 ∷ Some 16 ∷ []
unfolding machine_of_blocks
are_changed = refl
