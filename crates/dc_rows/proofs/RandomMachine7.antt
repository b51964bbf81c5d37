-- A random machine, of seed 20023.
-- Made by tools/worked_examples.py from examples/RandomMachine7.
use Rattle.std.specs.Prelude.{◌≡◌, ℕ, List, [], ◌∷◌, refl, true, false, None, Some}
use Rattle.std.specs.Option.{option_map}
use Rattle.dc_base.specs.declared.images.Image.{Image}
use Rattle.dc_base.specs.declared.kernels.Version.TheVariants.{Rr, Edf}
use Rattle.dc_base.specs.declared.kernels.Clocks.TheVariants.{Kept}
use Rattle.dc_base.specs.declared.actions.Actor.{Actor}
use Rattle.dc_base.specs.declared.actions.Action.{Action}
use Rattle.dc_base.specs.declared.calls.Op.TheVariants as op
use Rattle.dc_base.specs.declared.calls.End.TheVariants as end
use Rattle.dc_base.specs.declared.commands.ScriptLine.{ScriptLine}
use Rattle.dc_base.specs.declared.entries.Entry.{Entry}
use Rattle.dc_base.specs.declared.entries.Reason.TheVariants as why
use Rattle.dc_base.specs.declared.reports.ReportLine.{ReportLine}
use Rattle.dc_base.specs.declared.dispatchers.DispState.TheVariants as state
use Rattle.dc_base.specs.Runs.{run}
use Rattle.dc_base.specs.CoreRuns.{core_run}
use Rattle.dc_base.specs.Origins.{image_origin}
use Rattle.dc_base.specs.Shown.{all_shown_by}
use Rattle.dc_base.specs.Headline.{blocks_reported, blocks_held}
use Rattle.dc_rows.specs.Computed.{machine_of_blocks, machine_with_cores, whole_texts}
use Rattle.dc_rows.specs.Facts.{facts_told, facts_of}
use Rattle.dc_rows.specs.Images as image_of
use Rattle.dc_rows.specs.Orders as order
use Rattle.dc_rows.specs.Played.{played, judged, first_bads}
use Rattle.dc_rows.specs.Reports as report_line
use Rattle.dc_rows.specs.Scripts as script_line
use Rattle.dc_rows.specs.Tabled.{tabled}
use Rattle.dc_rows.specs.Texts as texts
use Rattle.dc_rows.specs.WrongJournals.{with_line, without_line}

abbrev image : Image
image = record {
  format = 1;
  clocks = Kept;
  quantum = 64;
  slices = 1000;
  lines = 0;
  cores =
      image_of.core 0 Rr ∷ [];
  blocks =
      record {
        home = image_of.home 0;
        memory =
            4294967295 ∷ 0 ∷ 4294967295 ∷ 203 ∷ 7 ∷ 1 ∷ 7 ∷ 0 ∷ 0 ∷ 991 ∷ 978 ∷ 1 ∷ 2 ∷ [];
        ports = 3;
        signals = 3;
        disps =
            record {
              code =
                  22085631  -- li r5 65535
                  ∷ 16777716  -- li r0 500
                  ∷ 22020097  -- li r5 1
                  ∷ 34603009  -- lih r1 1
                  ∷ 654376967  -- arm s0 r1 7
                  ∷ 251658244  -- jmp 4
                  ∷ 751828992  -- bind s13 s0
                  ∷ 637665280  -- wait s0 r2
                  ∷ 538968064  -- out r2
                  ∷ 16781216  -- li r0 4000
                  ∷ 272629761  -- ld r4 r0 1
                  ∷ 652345344  -- wait s14 r2
                  ∷ 538968064  -- out r2
                  ∷ 586612736  -- send s15 s7 0
                  ∷ 20971520  -- li r4 0
                  ∷ 22020097  -- li r5 1
                  ∷ 541065216  -- out r4
                  ∷ 71630848  -- add r4 r5
                  ∷ 19922946  -- li r3 2
                  ∷ 239271952  -- bltu r4 r3 16
                  ∷ 335544320  -- halt
                  ∷ [];
              period = 1;
              due = 0;
              caps =
                  image_of.cap 7 (image_of.frame 16 4) 7 ∷ image_of.cap 2 (image_of.ram 0 64) 7 ∷ image_of.cap 11 (image_of.port 0) 7
                  ∷ image_of.cap 1 (image_of.port 1) 7 ∷ image_of.cap 15 (image_of.port 2) 7 ∷ image_of.cap 0 (image_of.signal 0) 7
                  ∷ image_of.cap 12 (image_of.signal 1) 7 ∷ image_of.cap 14 (image_of.signal 2) 7 ∷ image_of.cap 10 (image_of.sendend 0) 7
                  ∷ image_of.cap 9 (image_of.recvend 1) 7 ∷ [];
            }
            ∷ record {
              code =
                  18939903  -- li r2 65535
                  ∷ 17825793  -- li r1 1
                  ∷ 19922944  -- li r3 0
                  ∷ 34603009  -- lih r1 1
                  ∷ 670105607  -- arm s15 r1 7
                  ∷ 251658244  -- jmp 4
                  ∷ 590610432  -- recv s3 s4 0
                  ∷ 602603520  -- recv s14 s11 0
                  ∷ 602144771  -- recv s14 s4 3
                  ∷ 251658246  -- jmp 6
                  ∷ [];
              period = 2;
              due = 0;
              caps =
                  image_of.cap 4 (image_of.frame 4088 8) 7 ∷ image_of.cap 11 (image_of.frame 0 4) 7 ∷ image_of.cap 14 (image_of.port 1) 7
                  ∷ image_of.cap 3 (image_of.port 2) 7 ∷ image_of.cap 15 (image_of.signal 0) 7 ∷ image_of.cap 13 (image_of.signal 2) 7
                  ∷ image_of.cap 1 (image_of.sendend 0) 7 ∷ image_of.cap 8 (image_of.recvend 1) 7 ∷ [];
            }
            ∷ [];
      }
      ∷ record {
        home = None;
        memory =
            1 ∷ 2 ∷ 1 ∷ 0 ∷ 2 ∷ [];
        ports = 2;
        signals = 3;
        disps =
            record {
              code =
                  17891327  -- li r1 65535
                  ∷ 20971520  -- li r4 0
                  ∷ 22020097  -- li r5 1
                  ∷ 553648128  -- yield
                  ∷ 71630848  -- add r4 r5
                  ∷ 19923044  -- li r3 100
                  ∷ 239271939  -- bltu r4 r3 3
                  ∷ 138412032  -- or r4 r0
                  ∷ 51445760  -- mov r1 r1
                  ∷ 17825797  -- li r1 5
                  ∷ 659619843  -- arm s5 r1 3
                  ∷ 642908160  -- wait s5 r2
                  ∷ 538968064  -- out r2
                  ∷ 251658241  -- jmp 1
                  ∷ [];
              period = 2;
              due = 0;
              caps =
                  image_of.cap 12 (image_of.frame 4088 4) 7 ∷ image_of.cap 0 (image_of.frame 4 4) 7 ∷ image_of.cap 10 (image_of.ram 1311 1000) 7
                  ∷ image_of.cap 2 (image_of.port 0) 7 ∷ image_of.cap 13 (image_of.signal 0) 7 ∷ image_of.cap 4 (image_of.signal 1) 7
                  ∷ image_of.cap 5 (image_of.signal 2) 7 ∷ image_of.cap 7 (image_of.sendend 1) 7 ∷ [];
            }
            ∷ record {
              code =
                  20971530  -- li r4 10
                  ∷ 595066884  -- recv s7 s8 4
                  ∷ [];
              period = 10;
              due = 0;
              caps =
                  image_of.cap 8 (image_of.frame 0 4) 7 ∷ image_of.cap 12 (image_of.frame 4088 8) 7 ∷ image_of.cap 13 (image_of.port 0) 0
                  ∷ image_of.cap 7 (image_of.port 1) 7 ∷ image_of.cap 1 (image_of.signal 0) 7 ∷ image_of.cap 14 (image_of.signal 1) 7
                  ∷ image_of.cap 6 (image_of.signal 2) 7 ∷ image_of.cap 3 (image_of.sendend 1) 7 ∷ image_of.cap 2 (image_of.recvend 0) 7 ∷ [];
            }
            ∷ record {
              code =
                  17891327  -- li r1 65535
                  ∷ 22020596  -- li r5 500
                  ∷ 17825892  -- li r1 100
                  ∷ 657522692  -- arm s3 r1 4
                  ∷ 640811008  -- wait s3 r2
                  ∷ 538968064  -- out r2
                  ∷ 17825793  -- li r1 1
                  ∷ 668073983  -- arm s13 r1 65535
                  ∷ 681967655  -- copy s10 s6 39
                  ∷ 731906048  -- revoke s10
                  ∷ 777584642  -- claim s5 s9 2
                  ∷ 251658242  -- jmp 2
                  ∷ [];
              period = 65535;
              due = 5;
              caps =
                  image_of.cap 15 (image_of.frame 0 16) 7 ∷ image_of.cap 14 (image_of.port 0) 7 ∷ image_of.cap 11 (image_of.port 1) 7
                  ∷ image_of.cap 3 (image_of.signal 1) 7 ∷ image_of.cap 13 (image_of.signal 2) 7 ∷ image_of.cap 10 (image_of.sendend 1) 7
                  ∷ image_of.cap 5 (image_of.recvend 0) 7 ∷ [];
            }
            ∷ [];
      }
      ∷ [];
  channels =
      image_of.channel 0 1 2 ∷ image_of.channel 1 0 1 ∷ [];
}

abbrev script : List ScriptLine
script =
    script_line.stop 0 ∷ script_line.start 0 Edf ∷ script_line.attach 0 0 ∷ script_line.park 0 0 ∷ script_line.replace 0 Rr ∷ script_line.replace 0 Edf
    ∷ script_line.replace 0 Rr ∷ script_line.await 1 3 50 ∷ script_line.move 0 0 ∷ script_line.stop 0 ∷ []

abbrev schedule : List (Actor × Action)
schedule =
    texts.order 0 ∷ texts.step 0 ∷ texts.script ∷ texts.order 0 ∷ texts.script ∷ texts.script ∷ texts.step 0 ∷ texts.order 0 ∷ texts.step 0
    ∷ texts.wake 0 1 0 ∷ texts.script ∷ texts.script ∷ texts.step 0 ∷ texts.step 0 ∷ texts.script ∷ texts.wake 0 1 1 ∷ texts.step 0 ∷ texts.order 0
    ∷ texts.wake 0 1 0 ∷ texts.script ∷ texts.step 0 ∷ texts.script ∷ texts.step 0 ∷ texts.step 0 ∷ texts.step 0 ∷ texts.step 0 ∷ texts.step 0
    ∷ texts.wake 0 1 2 ∷ texts.step 0 ∷ texts.step 0 ∷ texts.step 0 ∷ texts.step 0 ∷ texts.step 0 ∷ texts.script ∷ texts.step 0 ∷ texts.step 0
    ∷ texts.script ∷ texts.order 0 ∷ texts.step 0 ∷ texts.script ∷ []

abbrev journal : List Entry
journal =
    texts.slice 0 0 0 0 4 (end.Call op.Arm) 5
    ∷ texts.post 0 0 order.stop
    ∷ texts.stop 0 1
    ∷ texts.done 0
    ∷ texts.post 1 0 (order.start Edf)
    ∷ texts.start 0 Edf 5
    ∷ texts.done 1
    ∷ texts.post 2 0 (order.adopt 0 false)
    ∷ texts.adopt 0 0 false 5
    ∷ texts.done 2
    ∷ texts.slice 0 0 0 0 1 (end.Call op.Arm) 7
    ∷ texts.refused 3 (order.on_that_core 0 0)
    ∷ texts.slice 0 0 1 0 4 (end.Call op.Arm) 12
    ∷ texts.slice 0 0 0 0 1 (end.Call op.Arm) 14
    ∷ texts.slice 0 0 0 0 1 (end.Call op.Arm) 16
    ∷ texts.slice 0 0 1 0 1 (end.Call op.Arm) 18
    ∷ texts.slice 0 0 0 0 1 (end.Call op.Arm) 20
    ∷ texts.slice 0 0 0 0 1 (end.Call op.Arm) 22
    ∷ texts.slice 0 0 1 0 1 (end.Call op.Arm) 24
    ∷ texts.slice 0 0 0 0 1 (end.Call op.Arm) 26
    ∷ texts.slice 0 0 0 0 1 (end.Call op.Arm) 28
    ∷ texts.slice 0 0 1 0 1 (end.Call op.Arm) 30
    ∷ texts.post 4 0 (order.replace Rr)
    ∷ texts.slice 0 0 0 0 1 (end.Call op.Arm) 32
    ∷ texts.slice 0 0 0 0 1 (end.Call op.Arm) 34
    ∷ texts.replace 0 Rr
    ∷ texts.slice 0 0 1 0 1 (end.Call op.Arm) 36
    ∷ texts.done 4
    ∷ []

abbrev report : List ReportLine
report =
    report_line.core_on 0 Rr 36 (Some 0) (0 ∷ []) 15
    ∷ report_line.block 0 (Some 0) 36 15
    ∷ report_line.disp 0 0 state.Ready 5 9
    ∷ report_line.disp 0 1 state.Ready 5 8
    ∷ report_line.ready 0 (0 ∷ 1 ∷ [])
    ∷ report_line.cap 0 0 (image_of.signal 0) 7 None
    ∷ report_line.cap 0 1 (image_of.port 1) 7 None
    ∷ report_line.cap 0 2 (image_of.ram 0 64) 7 None
    ∷ report_line.cap 0 7 (image_of.frame 16 4) 7 None
    ∷ report_line.cap 0 9 (image_of.recvend 1) 7 None
    ∷ report_line.cap 0 10 (image_of.sendend 0) 7 None
    ∷ report_line.cap 0 11 (image_of.port 0) 7 None
    ∷ report_line.cap 0 12 (image_of.signal 1) 7 None
    ∷ report_line.cap 0 14 (image_of.signal 2) 7 None
    ∷ report_line.cap 0 15 (image_of.port 2) 7 None
    ∷ report_line.cap 0 17 (image_of.sendend 0) 7 None
    ∷ report_line.cap 0 19 (image_of.port 2) 7 None
    ∷ report_line.cap 0 20 (image_of.frame 4088 8) 7 None
    ∷ report_line.cap 0 24 (image_of.recvend 1) 7 None
    ∷ report_line.cap 0 27 (image_of.frame 0 4) 7 None
    ∷ report_line.cap 0 29 (image_of.signal 2) 7 None
    ∷ report_line.cap 0 30 (image_of.port 1) 7 None
    ∷ report_line.cap 0 31 (image_of.signal 0) 7 None
    ∷ report_line.timer 0 65536 0 0 7
    ∷ report_line.timer 0 65541 1 0 7
    ∷ report_line.timer 0 65544 2 0 7
    ∷ report_line.timer 0 65548 3 0 7
    ∷ report_line.timer 0 65550 4 0 7
    ∷ report_line.timer 0 65553 5 0 7
    ∷ report_line.timer 0 65554 6 0 7
    ∷ report_line.timer 0 65556 7 0 7
    ∷ report_line.timer 0 65559 8 0 7
    ∷ report_line.timer 0 65560 9 0 7
    ∷ report_line.timer 0 65562 10 0 7
    ∷ report_line.timer 0 65565 11 0 7
    ∷ report_line.timer 0 65566 12 0 7
    ∷ report_line.timer 0 65568 13 0 7
    ∷ report_line.timer 0 65571 14 0 7
    ∷ report_line.block 1 None 0 0
    ∷ report_line.disp 1 0 state.Ready 0 0
    ∷ report_line.disp 1 1 state.Ready 0 0
    ∷ report_line.disp 1 2 state.Ready 0 5
    ∷ report_line.ready 1 (0 ∷ 1 ∷ 2 ∷ [])
    ∷ report_line.cap 1 0 (image_of.frame 4 4) 7 None
    ∷ report_line.cap 1 2 (image_of.port 0) 7 None
    ∷ report_line.cap 1 4 (image_of.signal 1) 7 None
    ∷ report_line.cap 1 5 (image_of.signal 2) 7 None
    ∷ report_line.cap 1 7 (image_of.sendend 1) 7 None
    ∷ report_line.cap 1 10 (image_of.ram 1311 1000) 7 None
    ∷ report_line.cap 1 12 (image_of.frame 4088 4) 7 None
    ∷ report_line.cap 1 13 (image_of.signal 0) 7 None
    ∷ report_line.cap 1 17 (image_of.signal 0) 7 None
    ∷ report_line.cap 1 18 (image_of.recvend 0) 7 None
    ∷ report_line.cap 1 19 (image_of.sendend 1) 7 None
    ∷ report_line.cap 1 22 (image_of.signal 2) 7 None
    ∷ report_line.cap 1 23 (image_of.port 1) 7 None
    ∷ report_line.cap 1 24 (image_of.frame 0 4) 7 None
    ∷ report_line.cap 1 28 (image_of.frame 4088 8) 7 None
    ∷ report_line.cap 1 29 (image_of.port 0) 0 None
    ∷ report_line.cap 1 30 (image_of.signal 1) 7 None
    ∷ report_line.cap 1 35 (image_of.signal 1) 7 None
    ∷ report_line.cap 1 37 (image_of.recvend 0) 7 None
    ∷ report_line.cap 1 42 (image_of.sendend 1) 7 None
    ∷ report_line.cap 1 43 (image_of.port 1) 7 None
    ∷ report_line.cap 1 45 (image_of.signal 2) 7 None
    ∷ report_line.cap 1 46 (image_of.port 0) 7 None
    ∷ report_line.cap 1 47 (image_of.frame 0 16) 7 None
    ∷ report_line.channel 0 0 0
    ∷ report_line.channel 1 0 0
    ∷ []

abbrev text : List ℕ
text = texts.lines (
    "0 core 0 slice 0 0 fired 0 ran 4 call arm clock 5"
    ∷ "1 script 0 post 0 stop"
    ∷ "2 core 0 stop 1"
    ∷ "3 script 0 done"
    ∷ "4 script 1 post 0 start edf"
    ∷ "5 core 0 start edf clock 5"
    ∷ "6 script 1 done"
    ∷ "7 script 2 post 0 adopt 0 home"
    ∷ "8 core 0 adopt 0 home time 5"
    ∷ "9 script 2 done"
    ∷ "10 core 0 slice 0 0 fired 0 ran 1 call arm clock 7"
    ∷ "11 script 3 refused 8 OnThatCore 0 0"
    ∷ "12 core 0 slice 0 1 fired 0 ran 4 call arm clock 12"
    ∷ "13 core 0 slice 0 0 fired 0 ran 1 call arm clock 14"
    ∷ "14 core 0 slice 0 0 fired 0 ran 1 call arm clock 16"
    ∷ "15 core 0 slice 0 1 fired 0 ran 1 call arm clock 18"
    ∷ "16 core 0 slice 0 0 fired 0 ran 1 call arm clock 20"
    ∷ "17 core 0 slice 0 0 fired 0 ran 1 call arm clock 22"
    ∷ "18 core 0 slice 0 1 fired 0 ran 1 call arm clock 24"
    ∷ "19 core 0 slice 0 0 fired 0 ran 1 call arm clock 26"
    ∷ "20 core 0 slice 0 0 fired 0 ran 1 call arm clock 28"
    ∷ "21 core 0 slice 0 1 fired 0 ran 1 call arm clock 30"
    ∷ "22 script 4 post 0 replace rr"
    ∷ "23 core 0 slice 0 0 fired 0 ran 1 call arm clock 32"
    ∷ "24 core 0 slice 0 0 fired 0 ran 1 call arm clock 34"
    ∷ "25 core 0 replace rr"
    ∷ "26 core 0 slice 0 1 fired 0 ran 1 call arm clock 36"
    ∷ "27 script 4 done"
    ∷ "report"
    ∷ "core 0 on rr clock 36 home 0 share 0 used 15"
    ∷ "block 0 core 0 time 36 armed 15"
    ∷ "disp 0 0 ready place 5 due 9"
    ∷ "disp 0 1 ready place 5 due 8"
    ∷ "ready 0 0,1"
    ∷ "cap 0 0 signal 0 rights 7 parent -"
    ∷ "cap 0 1 port 1 rights 7 parent -"
    ∷ "cap 0 2 ram 0 64 rights 7 parent -"
    ∷ "cap 0 7 frame 16 4 rights 7 parent -"
    ∷ "cap 0 9 recvend 1 rights 7 parent -"
    ∷ "cap 0 10 sendend 0 rights 7 parent -"
    ∷ "cap 0 11 port 0 rights 7 parent -"
    ∷ "cap 0 12 signal 1 rights 7 parent -"
    ∷ "cap 0 14 signal 2 rights 7 parent -"
    ∷ "cap 0 15 port 2 rights 7 parent -"
    ∷ "cap 0 17 sendend 0 rights 7 parent -"
    ∷ "cap 0 19 port 2 rights 7 parent -"
    ∷ "cap 0 20 frame 4088 8 rights 7 parent -"
    ∷ "cap 0 24 recvend 1 rights 7 parent -"
    ∷ "cap 0 27 frame 0 4 rights 7 parent -"
    ∷ "cap 0 29 signal 2 rights 7 parent -"
    ∷ "cap 0 30 port 1 rights 7 parent -"
    ∷ "cap 0 31 signal 0 rights 7 parent -"
    ∷ "timer 0 65536 0 0 7"
    ∷ "timer 0 65541 1 0 7"
    ∷ "timer 0 65544 2 0 7"
    ∷ "timer 0 65548 3 0 7"
    ∷ "timer 0 65550 4 0 7"
    ∷ "timer 0 65553 5 0 7"
    ∷ "timer 0 65554 6 0 7"
    ∷ "timer 0 65556 7 0 7"
    ∷ "timer 0 65559 8 0 7"
    ∷ "timer 0 65560 9 0 7"
    ∷ "timer 0 65562 10 0 7"
    ∷ "timer 0 65565 11 0 7"
    ∷ "timer 0 65566 12 0 7"
    ∷ "timer 0 65568 13 0 7"
    ∷ "timer 0 65571 14 0 7"
    ∷ "block 1 rest time 0 armed 0"
    ∷ "disp 1 0 ready place 0 due 0"
    ∷ "disp 1 1 ready place 0 due 0"
    ∷ "disp 1 2 ready place 0 due 5"
    ∷ "ready 1 0,1,2"
    ∷ "cap 1 0 frame 4 4 rights 7 parent -"
    ∷ "cap 1 2 port 0 rights 7 parent -"
    ∷ "cap 1 4 signal 1 rights 7 parent -"
    ∷ "cap 1 5 signal 2 rights 7 parent -"
    ∷ "cap 1 7 sendend 1 rights 7 parent -"
    ∷ "cap 1 10 ram 1311 1000 rights 7 parent -"
    ∷ "cap 1 12 frame 4088 4 rights 7 parent -"
    ∷ "cap 1 13 signal 0 rights 7 parent -"
    ∷ "cap 1 17 signal 0 rights 7 parent -"
    ∷ "cap 1 18 recvend 0 rights 7 parent -"
    ∷ "cap 1 19 sendend 1 rights 7 parent -"
    ∷ "cap 1 22 signal 2 rights 7 parent -"
    ∷ "cap 1 23 port 1 rights 7 parent -"
    ∷ "cap 1 24 frame 0 4 rights 7 parent -"
    ∷ "cap 1 28 frame 4088 8 rights 7 parent -"
    ∷ "cap 1 29 port 0 rights 0 parent -"
    ∷ "cap 1 30 signal 1 rights 7 parent -"
    ∷ "cap 1 35 signal 1 rights 7 parent -"
    ∷ "cap 1 37 recvend 0 rights 7 parent -"
    ∷ "cap 1 42 sendend 1 rights 7 parent -"
    ∷ "cap 1 43 port 1 rights 7 parent -"
    ∷ "cap 1 45 signal 2 rights 7 parent -"
    ∷ "cap 1 46 port 0 rights 7 parent -"
    ∷ "cap 1 47 frame 0 16 rights 7 parent -"
    ∷ "channel 0 sent 0 taken 0"
    ∷ "channel 1 sent 0 taken 0"
    ∷ "skipped 12"
    ∷ "end"
    ∷ [])

is_played : played image script schedule ≡ record {
  journal = journal;
  skipped = 12;
  reasons =
      Some why.NoOrder ∷ Some why.CoreOff ∷ Some why.Nothing ∷ Some (why.NotHere (record { 0 = 1 })) ∷ Some why.Nothing ∷ Some why.Nothing
      ∷ Some (why.NoAck (record { 0 = 0 })) ∷ Some (why.NotHere (record { 0 = 1 })) ∷ Some why.Nothing ∷ Some (why.NotHere (record { 0 = 1 }))
      ∷ Some (why.NotHere (record { 0 = 1 })) ∷ Some (why.NoAck (record { 0 = 0 })) ∷ [];
  report = report;
  text = text;
  again = journal;
}
unfolding machine_with_cores whole_texts
is_played = refl

is_judged : judged image script journal ≡ record { is_run = true; shown = Some (all_shown_by report) }
unfolding machine_of_blocks
is_judged = refl

-- each entry touches what the table says
is_tabled : tabled image script schedule ≡ true
unfolding machine_with_cores
is_tabled = refl

-- each block is reported once, on the core that holds it or at rest
is_none_lost : blocks_reported report ≡ blocks_held (image_origin image script) journal
unfolding machine_of_blocks
is_none_lost = refl

-- the journal has told what the state shows
is_told : option_map facts_told (run image script journal)
    ≡ option_map (facts_of (core_run image script schedule).state) (run image script journal)
unfolding machine_with_cores machine_of_blocks
is_told = refl

-- journals that are changed, and the first bad entry of each
are_changed : first_bads image script (
    with_line 0 (texts.slice 0 0 0 0 4 (end.Call op.Arm) 4) journal
    ∷ without_line 9 journal
    ∷ without_line 4 journal
    ∷ [])
    ≡ Some 0 ∷ Some 10 ∷ Some 4 ∷ []
unfolding machine_of_blocks
are_changed = refl
