-- A random machine, of seed 20008.
-- Made by tools/worked_examples.py from examples/RandomMachine2.
use Rattle.std.specs.Prelude.{◌≡◌, ℕ, List, [], ◌∷◌, refl, true, false, None, Some}
use Rattle.std.specs.Option.{option_map}
use Rattle.dc_base.specs.declared.images.Image.{Image}
use Rattle.dc_base.specs.declared.kernels.Version.TheVariants.{Rr, Edf}
use Rattle.dc_base.specs.declared.kernels.Clocks.TheVariants.{Kept}
use Rattle.dc_base.specs.declared.actions.Actor.{Actor}
use Rattle.dc_base.specs.declared.actions.Action.{Action}
use Rattle.dc_base.specs.declared.calls.Op.TheVariants as op
use Rattle.dc_base.specs.declared.calls.End.TheVariants as end
use Rattle.dc_base.specs.declared.commands.ScriptLine.{ScriptLine}
use Rattle.dc_base.specs.declared.entries.Entry.{Entry}
use Rattle.dc_base.specs.declared.entries.Reason.TheVariants as why
use Rattle.dc_base.specs.declared.reports.ReportLine.{ReportLine}
use Rattle.dc_base.specs.declared.dispatchers.DispState.TheVariants as state
use Rattle.dc_base.specs.Runs.{run}
use Rattle.dc_base.specs.CoreRuns.{core_run}
use Rattle.dc_base.specs.Origins.{image_origin}
use Rattle.dc_base.specs.Shown.{all_shown_by}
use Rattle.dc_base.specs.Headline.{blocks_reported, blocks_held}
use Rattle.dc_rows.specs.Computed.{machine_of_blocks, machine_with_cores, whole_texts}
use Rattle.dc_rows.specs.Facts.{facts_told, facts_of}
use Rattle.dc_rows.specs.Images as image_of
use Rattle.dc_rows.specs.Orders as order
use Rattle.dc_rows.specs.Played.{played, judged, first_bads}
use Rattle.dc_rows.specs.Reports as report_line
use Rattle.dc_rows.specs.Scripts as script_line
use Rattle.dc_rows.specs.Tabled.{tabled}
use Rattle.dc_rows.specs.Texts as texts
use Rattle.dc_rows.specs.WrongJournals.{with_line, without_line}

abbrev image : Image
image = record {
  format = 1;
  clocks = Kept;
  quantum = 64;
  slices = 1000;
  lines = 4;
  cores =
      image_of.core 0 Edf ∷ image_of.core 54 Rr ∷ image_of.core 0 Edf ∷ image_of.core 1099511627776 Rr ∷ [];
  blocks =
      record {
        home = image_of.home 0;
        memory =
            0 ∷ 4294967295 ∷ 1 ∷ 7 ∷ 1 ∷ 1 ∷ 642 ∷ 7 ∷ 2 ∷ 964 ∷ 4294967295 ∷ 0 ∷ 4294967295 ∷ 870 ∷ 1 ∷ 132 ∷ 432 ∷ 2 ∷ 817 ∷ [];
        ports = 2;
        signals = 1;
        disps =
            record {
              code =
                  18874369  -- li r2 1
                  ∷ 17826292  -- li r1 500
                  ∷ 18939903  -- li r2 65535
                  ∷ 636747776  -- crecv s15 s4 0
                  ∷ 787873793  -- claim s15 s6 1
                  ∷ 745078784  -- bind s6 s9
                  ∷ 647168000  -- wait s9 r3
                  ∷ 540016640  -- out r3
                  ∷ 622067712  -- crecv s1 s4 0
                  ∷ 774897667  -- claim s3 s0 3
                  ∷ 772800515  -- claim s1 s0 3
                  ∷ 738787328  -- bind s0 s9
                  ∷ 647168000  -- wait s9 r3
                  ∷ 540016640  -- out r3
                  ∷ 646053888  -- wait s8 r2
                  ∷ 538968064  -- out r2
                  ∷ 678559991  -- copy s7 s2 247
                  ∷ 17825793  -- li r1 1
                  ∷ 665911305  -- arm s11 r1 9
                  ∷ 724566016  -- revoke s3
                  ∷ 105971712  -- mul r5 r1
                  ∷ 36704255  -- lih r3 4095
                  ∷ 335544320  -- halt
                  ∷ [];
              period = 1;
              due = 26;
              caps =
                  image_of.cap 4 (image_of.frame 8 8) 7 ∷ image_of.cap 7 (image_of.signal 0) 7 ∷ image_of.cap 15 (image_of.recvend 0) 7
                  ∷ image_of.cap 14 (image_of.frame 24 8) 7 ∷ image_of.cap 9 (image_of.signal 0) 7 ∷ image_of.cap 1 (image_of.recvend 2) 7
                  ∷ image_of.cap 10 (image_of.frame 8 3) 6 ∷ image_of.cap 13 (image_of.port 0) 7 ∷ image_of.cap 12 (image_of.port 1) 7
                  ∷ image_of.cap 8 (image_of.signal 0) 7 ∷ image_of.cap 5 (image_of.recvend 0) 7 ∷ image_of.cap 3 (image_of.recvend 1) 7 ∷ [];
            }
            ∷ record {
              code =
                  16777218  -- li r0 2
                  ∷ 17891327  -- li r1 65535
                  ∷ 18874378  -- li r2 10
                  ∷ 590872579  -- recv s3 s8 3
                  ∷ 20971560  -- li r4 40
                  ∷ 168034304  -- shl r0 r4
                  ∷ 536870912  -- out r0
                  ∷ 251658243  -- jmp 3
                  ∷ [];
              period = 2;
              due = 0;
              caps =
                  image_of.cap 8 (image_of.frame 16 8) 7 ∷ image_of.cap 1 (image_of.ram 100 3996) 7 ∷ image_of.cap 12 (image_of.port 0) 7
                  ∷ image_of.cap 3 (image_of.port 1) 7 ∷ image_of.cap 10 (image_of.signal 0) 7 ∷ image_of.cap 5 (image_of.recvend 1) 7
                  ∷ image_of.cap 7 (image_of.recvend 2) 7 ∷ image_of.cap 4 (image_of.recvend 3) 7 ∷ image_of.cap 11 (image_of.line 0) 7
                  ∷ image_of.cap 14 (image_of.line 2) 7 ∷ [];
            }
            ∷ record {
              code =
                  784597008  -- claim s12 s4 16
                  ∷ 578748417  -- send s7 s15 1
                  ∷ 540016640  -- out r3
                  ∷ 787283968  -- claim s14 s13 0
                  ∷ 679018535  -- copy s7 s9 39
                  ∷ 714080256  -- delete s9
                  ∷ 634322948  -- crecv s12 s15 4
                  ∷ 17825797  -- li r1 5
                  ∷ 660733951  -- arm s6 r1 65535
                  ∷ 251658240  -- jmp 0
                  ∷ [];
              period = 2;
              due = 0;
              caps =
                  image_of.cap 15 (image_of.frame 40 8) 7 ∷ image_of.cap 1 (image_of.ram 0 100) 7 ∷ image_of.cap 7 (image_of.port 1) 7
                  ∷ image_of.cap 6 (image_of.signal 0) 7 ∷ image_of.cap 14 (image_of.recvend 1) 7 ∷ image_of.cap 2 (image_of.recvend 2) 7
                  ∷ image_of.cap 12 (image_of.recvend 3) 7 ∷ image_of.cap 8 (image_of.line 0) 7 ∷ image_of.cap 0 (image_of.line 2) 7 ∷ [];
            }
            ∷ record {
              code =
                  16777218  -- li r0 2
                  ∷ 18874368  -- li r2 0
                  ∷ 16777226  -- li r0 10
                  ∷ 586153984  -- send s15 s0 0
                  ∷ 538968064  -- out r2
                  ∷ 23069478  -- li r6 806
                  ∷ 24182783  -- li r7 65535
                  ∷ 698744832  -- retype s10 s6 0
                  ∷ 710934528  -- delete s6
                  ∷ 23068732  -- li r6 60
                  ∷ 24117249  -- li r7 1
                  ∷ 698744832  -- retype s10 s6 0
                  ∷ 731906048  -- revoke s10
                  ∷ 251658243  -- jmp 3
                  ∷ [];
              period = 2;
              due = 0;
              caps =
                  image_of.cap 0 (image_of.frame 4088 4) 7 ∷ image_of.cap 10 (image_of.ram 100 1000) 7 ∷ image_of.cap 15 (image_of.port 0) 7
                  ∷ image_of.cap 14 (image_of.port 1) 7 ∷ image_of.cap 11 (image_of.signal 0) 7 ∷ image_of.cap 12 (image_of.recvend 0) 7
                  ∷ image_of.cap 9 (image_of.recvend 1) 7 ∷ image_of.cap 4 (image_of.recvend 2) 7 ∷ image_of.cap 3 (image_of.recvend 3) 7
                  ∷ image_of.cap 2 (image_of.line 0) 2 ∷ image_of.cap 7 (image_of.line 2) 5 ∷ [];
            }
            ∷ [];
      }
      ∷ record {
        home = image_of.home 2;
        memory = [];
        ports = 1;
        signals = 1;
        disps =
            record {
              code =
                  22020097  -- li r5 1
                  ∷ 19922954  -- li r3 10
                  ∷ 16777216  -- li r0 0
                  ∷ 741998592  -- bind s3 s10
                  ∷ 648151040  -- wait s10 r2
                  ∷ 538968064  -- out r2
                  ∷ 674562055  -- copy s3 s5 7
                  ∷ 676331526  -- copy s5 s0 6
                  ∷ 318767104  -- nop
                  ∷ 318767104  -- nop
                  ∷ 318767104  -- nop
                  ∷ 769851392  -- give s14 s3
                  ∷ 619249664  -- csend s14 s9 0
                  ∷ 23068682  -- li r6 10
                  ∷ 24117249  -- li r7 1
                  ∷ 689045504  -- retype s1 s2 0
                  ∷ 722468864  -- revoke s1
                  ∷ 536870912  -- out r0
                  ∷ 612040711  -- csend s7 s11 7
                  ∷ 218431510  -- bne r0 r5 22
                  ∷ 173211648  -- shl r5 r3
                  ∷ 86245376  -- sub r2 r4
                  ∷ 537919488  -- out r1
                  ∷ 583401472  -- send s12 s6 0
                  ∷ 184811520  -- shr r0 r4
                  ∷ 71565312  -- add r4 r4
                  ∷ 23068679  -- li r6 7
                  ∷ 24117249  -- li r7 1
                  ∷ 689045505  -- retype s1 s2 1
                  ∷ 335544320  -- halt
                  ∷ [];
              period = 1;
              due = 0;
              caps =
                  image_of.cap 9 (image_of.frame 8 8) 7 ∷ image_of.cap 10 (image_of.signal 0) 7 ∷ image_of.cap 13 (image_of.line 1) 7
                  ∷ image_of.cap 7 (image_of.sendend 0) 7 ∷ image_of.cap 8 (image_of.frame 24 8) 5 ∷ image_of.cap 15 (image_of.signal 0) 7
                  ∷ image_of.cap 3 (image_of.line 3) 7 ∷ image_of.cap 14 (image_of.sendend 2) 7 ∷ image_of.cap 11 (image_of.frame 16 16) 7
                  ∷ image_of.cap 6 (image_of.frame 2671 3) 7 ∷ image_of.cap 1 (image_of.ram 2276 100) 7 ∷ image_of.cap 12 (image_of.port 0) 7 ∷ [];
            }
            ∷ record {
              code =
                  748290048  -- bind s9 s10
                  ∷ 648151040  -- wait s10 r2
                  ∷ 538968064  -- out r2
                  ∷ 540016640  -- out r3
                  ∷ 591200256  -- recv s3 s13 0
                  ∷ 17825793  -- li r1 1
                  ∷ 664863220  -- arm s10 r1 500
                  ∷ 648151040  -- wait s10 r2
                  ∷ 538968064  -- out r2
                  ∷ 606797824  -- csend s2 s11 0
                  ∷ 251658243  -- jmp 3
                  ∷ [];
              period = 10;
              due = 0;
              caps =
                  image_of.cap 11 (image_of.frame 4 3) 7 ∷ image_of.cap 13 (image_of.frame 4088 8) 7 ∷ image_of.cap 3 (image_of.port 0) 7
                  ∷ image_of.cap 10 (image_of.signal 0) 7 ∷ image_of.cap 0 (image_of.sendend 0) 7 ∷ image_of.cap 2 (image_of.sendend 1) 7
                  ∷ image_of.cap 1 (image_of.sendend 2) 7 ∷ image_of.cap 9 (image_of.line 3) 7 ∷ [];
            }
            ∷ [];
      }
      ∷ [];
  channels =
      image_of.channel 1 0 64 ∷ image_of.channel 1 0 3 ∷ image_of.channel 1 0 64 ∷ image_of.channel 1 0 64 ∷ [];
}

abbrev script : List ScriptLine
script =
    script_line.park 0 2 ∷ script_line.stop 1 ∷ script_line.move 1 0 ∷ script_line.park 1 2 ∷ script_line.raise 0 ∷ script_line.replace 3 Edf
    ∷ script_line.route 3 0 ∷ script_line.unpark 0 3 ∷ script_line.replace 3 Rr ∷ script_line.raise 1 ∷ []

abbrev schedule : List (Actor × Action)
schedule =
    texts.script ∷ texts.step 0 ∷ texts.order 0 ∷ texts.script ∷ texts.step 2 ∷ texts.script ∷ texts.intake 0 2 ∷ texts.step 2 ∷ texts.intake 2 0
    ∷ texts.script ∷ texts.step 2 ∷ texts.order 2 ∷ texts.step 2 ∷ texts.step 2 ∷ texts.step 2 ∷ texts.step 2 ∷ texts.step 2 ∷ texts.step 2 ∷ texts.script
    ∷ texts.script ∷ texts.order 1 ∷ texts.script ∷ texts.step 0 ∷ texts.step 1 ∷ texts.raise ∷ texts.step 2 ∷ texts.step 0 ∷ texts.step 0 ∷ texts.order 3
    ∷ texts.script ∷ texts.step 2 ∷ texts.step 0 ∷ texts.intake 2 1 ∷ texts.order 2 ∷ texts.step 3 ∷ texts.step 1 ∷ texts.order 0 ∷ texts.step 0
    ∷ texts.step 2 ∷ texts.script ∷ []

abbrev journal : List Entry
journal =
    texts.post 0 0 (order.release 0)
    ∷ texts.slice 0 0 1 0 3 (end.Hold op.Recv) 3
    ∷ texts.release 0 0 3
    ∷ texts.post 0 2 (order.adopt 0 true)
    ∷ texts.slice 2 1 0 0 3 (end.Call op.Bind) 4
    ∷ texts.slice 2 1 1 0 0 (end.Call op.Bind) 5
    ∷ texts.slice 2 1 0 0 0 (end.Hold op.Wait) 6
    ∷ texts.adopt 2 0 true 3
    ∷ texts.slice 2 1 1 0 0 (end.Hold op.Wait) 7
    ∷ texts.slice 2 0 2 0 0 (end.Trap 12) 8
    ∷ texts.slice 2 0 3 0 3 (end.Call op.Send) 12
    ∷ texts.slice 2 0 3 0 0 (end.Call op.Out) 13
    ∷ texts.slice 2 0 3 0 2 (end.Trap 8) 15
    ∷ texts.slice 2 0 0 0 3 (end.Hold op.Crecv) 18
    ∷ texts.done 0
    ∷ texts.post 1 1 order.stop
    ∷ texts.stop 1 0
    ∷ texts.done 1
    ∷ texts.post 2 2 (order.release 1)
    ∷ texts.release 2 1 18
    ∷ texts.post 2 0 (order.adopt 1 false)
    ∷ []

abbrev report : List ReportLine
report =
    report_line.core_on 0 Edf 3 None [] 1
    ∷ report_line.core_off 1 54 0
    ∷ report_line.core_on 2 Edf 18 None (0 ∷ []) 9
    ∷ report_line.core_on 3 Rr 1099511627776 None [] 0
    ∷ report_line.block 0 (Some 2) 15 0
    ∷ report_line.disp 0 0 (report_line.waits_crecv 0) 3 27
    ∷ report_line.disp 0 1 (report_line.waits_recv 1) 3 2
    ∷ report_line.disp 0 2 (state.Trapped 12) 0 2
    ∷ report_line.disp 0 3 (state.Trapped 8) 7 6
    ∷ report_line.ready 0 []
    ∷ report_line.cap 0 1 (image_of.recvend 2) 7 None
    ∷ report_line.cap 0 3 (image_of.recvend 1) 7 None
    ∷ report_line.cap 0 4 (image_of.frame 8 8) 7 None
    ∷ report_line.cap 0 5 (image_of.recvend 0) 7 None
    ∷ report_line.cap 0 7 (image_of.signal 0) 7 None
    ∷ report_line.cap 0 8 (image_of.signal 0) 7 None
    ∷ report_line.cap 0 9 (image_of.signal 0) 7 None
    ∷ report_line.cap 0 10 (image_of.frame 8 3) 6 None
    ∷ report_line.cap 0 12 (image_of.port 1) 7 None
    ∷ report_line.cap 0 13 (image_of.port 0) 7 None
    ∷ report_line.cap 0 14 (image_of.frame 24 8) 7 None
    ∷ report_line.cap 0 15 (image_of.recvend 0) 7 None
    ∷ report_line.cap 0 17 (image_of.ram 100 3996) 7 None
    ∷ report_line.cap 0 19 (image_of.port 1) 7 None
    ∷ report_line.cap 0 20 (image_of.recvend 3) 7 None
    ∷ report_line.cap 0 21 (image_of.recvend 1) 7 None
    ∷ report_line.cap 0 23 (image_of.recvend 2) 7 None
    ∷ report_line.cap 0 24 (image_of.frame 16 8) 7 None
    ∷ report_line.cap 0 26 (image_of.signal 0) 7 None
    ∷ report_line.cap 0 27 (image_of.line 0) 7 None
    ∷ report_line.cap 0 28 (image_of.port 0) 7 None
    ∷ report_line.cap 0 30 (image_of.line 2) 7 None
    ∷ report_line.cap 0 32 (image_of.line 2) 7 None
    ∷ report_line.cap 0 33 (image_of.ram 0 100) 7 None
    ∷ report_line.cap 0 34 (image_of.recvend 2) 7 None
    ∷ report_line.cap 0 38 (image_of.signal 0) 7 None
    ∷ report_line.cap 0 39 (image_of.port 1) 7 None
    ∷ report_line.cap 0 40 (image_of.line 0) 7 None
    ∷ report_line.cap 0 44 (image_of.recvend 3) 7 None
    ∷ report_line.cap 0 46 (image_of.recvend 1) 7 None
    ∷ report_line.cap 0 47 (image_of.frame 40 8) 7 None
    ∷ report_line.cap 0 48 (image_of.frame 4088 4) 7 None
    ∷ report_line.cap 0 50 (image_of.line 0) 2 None
    ∷ report_line.cap 0 51 (image_of.recvend 3) 7 None
    ∷ report_line.cap 0 52 (image_of.recvend 2) 7 None
    ∷ report_line.cap 0 55 (image_of.line 2) 5 None
    ∷ report_line.cap 0 57 (image_of.recvend 1) 7 None
    ∷ report_line.cap 0 58 (image_of.ram 100 1000) 7 None
    ∷ report_line.cap 0 59 (image_of.signal 0) 7 None
    ∷ report_line.cap 0 60 (image_of.recvend 0) 7 None
    ∷ report_line.cap 0 62 (image_of.port 1) 7 None
    ∷ report_line.cap 0 63 (image_of.port 0) 7 None
    ∷ report_line.port 0 0 0 0 0 0
    ∷ report_line.block 1 None 18 0
    ∷ report_line.disp 1 0 (report_line.waits_signal 0) 4 2
    ∷ report_line.disp 1 1 (report_line.waits_signal 0) 1 20
    ∷ report_line.ready 1 []
    ∷ report_line.cap 1 1 (image_of.ram 2276 100) 7 None
    ∷ report_line.cap 1 3 (image_of.line 3) 7 None
    ∷ report_line.cap 1 6 (image_of.frame 2671 3) 7 None
    ∷ report_line.cap 1 7 (image_of.sendend 0) 7 None
    ∷ report_line.cap 1 8 (image_of.frame 24 8) 5 None
    ∷ report_line.cap 1 9 (image_of.frame 8 8) 7 None
    ∷ report_line.cap 1 10 (image_of.signal 0) 7 None
    ∷ report_line.cap 1 11 (image_of.frame 16 16) 7 None
    ∷ report_line.cap 1 12 (image_of.port 0) 7 None
    ∷ report_line.cap 1 13 (image_of.line 1) 7 None
    ∷ report_line.cap 1 14 (image_of.sendend 2) 7 None
    ∷ report_line.cap 1 15 (image_of.signal 0) 7 None
    ∷ report_line.cap 1 16 (image_of.sendend 0) 7 None
    ∷ report_line.cap 1 17 (image_of.sendend 2) 7 None
    ∷ report_line.cap 1 18 (image_of.sendend 1) 7 None
    ∷ report_line.cap 1 19 (image_of.port 0) 7 None
    ∷ report_line.cap 1 25 (image_of.line 3) 7 None
    ∷ report_line.cap 1 26 (image_of.signal 0) 7 None
    ∷ report_line.cap 1 27 (image_of.frame 4 3) 7 None
    ∷ report_line.cap 1 29 (image_of.frame 4088 8) 7 None
    ∷ report_line.channel 0 0 0
    ∷ report_line.channel 1 0 0
    ∷ report_line.channel 2 0 0
    ∷ report_line.channel 3 0 0
    ∷ report_line.wire 0 None None 0 0 0 0 0 0 0
    ∷ report_line.wire 1 None None 0 0 0 0 0 0 0
    ∷ report_line.wire 2 None None 0 0 0 0 0 0 0
    ∷ report_line.wire 3 (Some (1, 0)) (Some 2) 0 0 0 0 0 0 0
    ∷ report_line.out 0 0
    ∷ []

abbrev text : List ℕ
text = texts.lines (
    "0 script 0 post 0 release 0"
    ∷ "1 core 0 slice 0 1 fired 0 ran 3 hold recv clock 3"
    ∷ "2 core 0 release 0 time 3"
    ∷ "3 script 0 post 2 adopt 0 parked"
    ∷ "4 core 2 slice 1 0 fired 0 ran 3 call bind clock 4"
    ∷ "5 core 2 slice 1 1 fired 0 ran 0 call bind clock 5"
    ∷ "6 core 2 slice 1 0 fired 0 ran 0 hold wait clock 6"
    ∷ "7 core 2 adopt 0 parked time 3"
    ∷ "8 core 2 slice 1 1 fired 0 ran 0 hold wait clock 7"
    ∷ "9 core 2 slice 0 2 fired 0 ran 0 trap 12 clock 8"
    ∷ "10 core 2 slice 0 3 fired 0 ran 3 call send clock 12"
    ∷ "11 core 2 slice 0 3 fired 0 ran 0 call out clock 13"
    ∷ "12 core 2 slice 0 3 fired 0 ran 2 trap 8 clock 15"
    ∷ "13 core 2 slice 0 0 fired 0 ran 3 hold crecv clock 18"
    ∷ "14 script 0 done"
    ∷ "15 script 1 post 1 stop"
    ∷ "16 core 1 stop 0"
    ∷ "17 script 1 done"
    ∷ "18 script 2 post 2 release 1"
    ∷ "19 core 2 release 1 time 18"
    ∷ "20 script 2 post 0 adopt 1 home"
    ∷ "report"
    ∷ "core 0 on edf clock 3 home - share - used 1"
    ∷ "core 1 off clock 54 used 0"
    ∷ "core 2 on edf clock 18 home - share 0 used 9"
    ∷ "core 3 on rr clock 1099511627776 home - share - used 0"
    ∷ "block 0 core 2 time 15 armed 0"
    ∷ "disp 0 0 wait crecv 0 place 3 due 27"
    ∷ "disp 0 1 wait recv 1 place 3 due 2"
    ∷ "disp 0 2 trap 12 place 0 due 2"
    ∷ "disp 0 3 trap 8 place 7 due 6"
    ∷ "ready 0 -"
    ∷ "cap 0 1 recvend 2 rights 7 parent -"
    ∷ "cap 0 3 recvend 1 rights 7 parent -"
    ∷ "cap 0 4 frame 8 8 rights 7 parent -"
    ∷ "cap 0 5 recvend 0 rights 7 parent -"
    ∷ "cap 0 7 signal 0 rights 7 parent -"
    ∷ "cap 0 8 signal 0 rights 7 parent -"
    ∷ "cap 0 9 signal 0 rights 7 parent -"
    ∷ "cap 0 10 frame 8 3 rights 6 parent -"
    ∷ "cap 0 12 port 1 rights 7 parent -"
    ∷ "cap 0 13 port 0 rights 7 parent -"
    ∷ "cap 0 14 frame 24 8 rights 7 parent -"
    ∷ "cap 0 15 recvend 0 rights 7 parent -"
    ∷ "cap 0 17 ram 100 3996 rights 7 parent -"
    ∷ "cap 0 19 port 1 rights 7 parent -"
    ∷ "cap 0 20 recvend 3 rights 7 parent -"
    ∷ "cap 0 21 recvend 1 rights 7 parent -"
    ∷ "cap 0 23 recvend 2 rights 7 parent -"
    ∷ "cap 0 24 frame 16 8 rights 7 parent -"
    ∷ "cap 0 26 signal 0 rights 7 parent -"
    ∷ "cap 0 27 line 0 rights 7 parent -"
    ∷ "cap 0 28 port 0 rights 7 parent -"
    ∷ "cap 0 30 line 2 rights 7 parent -"
    ∷ "cap 0 32 line 2 rights 7 parent -"
    ∷ "cap 0 33 ram 0 100 rights 7 parent -"
    ∷ "cap 0 34 recvend 2 rights 7 parent -"
    ∷ "cap 0 38 signal 0 rights 7 parent -"
    ∷ "cap 0 39 port 1 rights 7 parent -"
    ∷ "cap 0 40 line 0 rights 7 parent -"
    ∷ "cap 0 44 recvend 3 rights 7 parent -"
    ∷ "cap 0 46 recvend 1 rights 7 parent -"
    ∷ "cap 0 47 frame 40 8 rights 7 parent -"
    ∷ "cap 0 48 frame 4088 4 rights 7 parent -"
    ∷ "cap 0 50 line 0 rights 2 parent -"
    ∷ "cap 0 51 recvend 3 rights 7 parent -"
    ∷ "cap 0 52 recvend 2 rights 7 parent -"
    ∷ "cap 0 55 line 2 rights 5 parent -"
    ∷ "cap 0 57 recvend 1 rights 7 parent -"
    ∷ "cap 0 58 ram 100 1000 rights 7 parent -"
    ∷ "cap 0 59 signal 0 rights 7 parent -"
    ∷ "cap 0 60 recvend 0 rights 7 parent -"
    ∷ "cap 0 62 port 1 rights 7 parent -"
    ∷ "cap 0 63 port 0 rights 7 parent -"
    ∷ "port 0 0 0 0 0 0"
    ∷ "block 1 rest time 18 armed 0"
    ∷ "disp 1 0 wait signal 0 place 4 due 2"
    ∷ "disp 1 1 wait signal 0 place 1 due 20"
    ∷ "ready 1 -"
    ∷ "cap 1 1 ram 2276 100 rights 7 parent -"
    ∷ "cap 1 3 line 3 rights 7 parent -"
    ∷ "cap 1 6 frame 2671 3 rights 7 parent -"
    ∷ "cap 1 7 sendend 0 rights 7 parent -"
    ∷ "cap 1 8 frame 24 8 rights 5 parent -"
    ∷ "cap 1 9 frame 8 8 rights 7 parent -"
    ∷ "cap 1 10 signal 0 rights 7 parent -"
    ∷ "cap 1 11 frame 16 16 rights 7 parent -"
    ∷ "cap 1 12 port 0 rights 7 parent -"
    ∷ "cap 1 13 line 1 rights 7 parent -"
    ∷ "cap 1 14 sendend 2 rights 7 parent -"
    ∷ "cap 1 15 signal 0 rights 7 parent -"
    ∷ "cap 1 16 sendend 0 rights 7 parent -"
    ∷ "cap 1 17 sendend 2 rights 7 parent -"
    ∷ "cap 1 18 sendend 1 rights 7 parent -"
    ∷ "cap 1 19 port 0 rights 7 parent -"
    ∷ "cap 1 25 line 3 rights 7 parent -"
    ∷ "cap 1 26 signal 0 rights 7 parent -"
    ∷ "cap 1 27 frame 4 3 rights 7 parent -"
    ∷ "cap 1 29 frame 4088 8 rights 7 parent -"
    ∷ "channel 0 sent 0 taken 0"
    ∷ "channel 1 sent 0 taken 0"
    ∷ "channel 2 sent 0 taken 0"
    ∷ "channel 3 sent 0 taken 0"
    ∷ "line 0 to - - route - raised 0 stray 0 pending 0 merged 0 latched 0 joined 0 delivered 0"
    ∷ "line 1 to - - route - raised 0 stray 0 pending 0 merged 0 latched 0 joined 0 delivered 0"
    ∷ "line 2 to - - route - raised 0 stray 0 pending 0 merged 0 latched 0 joined 0 delivered 0"
    ∷ "line 3 to 1 0 route 2 raised 0 stray 0 pending 0 merged 0 latched 0 joined 0 delivered 0"
    ∷ "out 0 0"
    ∷ "skipped 19"
    ∷ "end"
    ∷ [])

is_played : played image script schedule ≡ record {
  journal = journal;
  skipped = 19;
  reasons =
      Some (why.NoAck (record { 0 = 2 })) ∷ Some why.NotPending ∷ Some why.NotPending ∷ Some (why.NoAck (record { 0 = 2 })) ∷ Some why.Nothing
      ∷ Some why.CoreOff ∷ Some why.CommandFirst ∷ Some why.Nothing ∷ Some why.Nothing ∷ Some why.Nothing ∷ Some why.NoOrder ∷ Some why.Nothing
      ∷ Some why.Nothing ∷ Some why.NotPending ∷ Some why.Nothing ∷ Some why.CoreOff ∷ Some why.NoOrder ∷ Some why.Nothing ∷ Some why.Nothing ∷ [];
  report = report;
  text = text;
  again = journal;
}
unfolding machine_with_cores whole_texts
is_played = refl

is_judged : judged image script journal ≡ record { is_run = true; shown = Some (all_shown_by report) }
unfolding machine_of_blocks
is_judged = refl

-- each entry touches what the table says
is_tabled : tabled image script schedule ≡ true
unfolding machine_with_cores
is_tabled = refl

-- each block is reported once, on the core that holds it or at rest
is_none_lost : blocks_reported report ≡ blocks_held (image_origin image script) journal
unfolding machine_of_blocks
is_none_lost = refl

-- the journal has told what the state shows
is_told : option_map facts_told (run image script journal)
    ≡ option_map (facts_of (core_run image script schedule).state) (run image script journal)
unfolding machine_with_cores machine_of_blocks
is_told = refl

-- journals that are changed, and the first bad entry of each
are_changed : first_bads image script (
    without_line 9 journal
    ∷ with_line 12 (texts.slice 2 0 3 0 3 (end.Trap 8) 15) journal
    ∷ without_line 13 journal
    ∷ [])
    ≡ Some 9 ∷ Some 12 ∷ Some 18 ∷ []
unfolding machine_of_blocks
are_changed = refl
