-- A random machine, of seed 20017.
-- Made by tools/worked_examples.py from examples/RandomMachine4.
use Rattle.std.specs.Prelude.{◌≡◌, ℕ, List, [], ◌∷◌, refl, true, None, Some}
use Rattle.std.specs.Option.{option_map}
use Rattle.dc_base.specs.declared.images.Image.{Image}
use Rattle.dc_base.specs.declared.kernels.Version.TheVariants.{Rr, Edf}
use Rattle.dc_base.specs.declared.kernels.Clocks.TheVariants.{Kept}
use Rattle.dc_base.specs.declared.actions.Actor.{Actor}
use Rattle.dc_base.specs.declared.actions.Action.{Action}
use Rattle.dc_base.specs.declared.calls.Op.TheVariants as op
use Rattle.dc_base.specs.declared.calls.End.TheVariants as end
use Rattle.dc_base.specs.declared.commands.ScriptLine.{ScriptLine}
use Rattle.dc_base.specs.declared.entries.Entry.{Entry}
use Rattle.dc_base.specs.declared.entries.Reason.TheVariants as why
use Rattle.dc_base.specs.declared.reports.ReportLine.{ReportLine}
use Rattle.dc_base.specs.declared.dispatchers.DispState.TheVariants as state
use Rattle.dc_base.specs.Runs.{run}
use Rattle.dc_base.specs.CoreRuns.{core_run}
use Rattle.dc_base.specs.Origins.{image_origin}
use Rattle.dc_base.specs.Shown.{all_shown_by}
use Rattle.dc_base.specs.Headline.{blocks_reported, blocks_held}
use Rattle.dc_rows.specs.Computed.{machine_of_blocks, machine_with_cores, whole_texts}
use Rattle.dc_rows.specs.Facts.{facts_told, facts_of}
use Rattle.dc_rows.specs.Images as image_of
use Rattle.dc_rows.specs.Orders as order
use Rattle.dc_rows.specs.Played.{played, judged, first_bads}
use Rattle.dc_rows.specs.Reports as report_line
use Rattle.dc_rows.specs.Scripts as script_line
use Rattle.dc_rows.specs.Tabled.{tabled}
use Rattle.dc_rows.specs.Texts as texts
use Rattle.dc_rows.specs.WrongJournals.{with_line, lines_swapped}

abbrev image : Image
image = record {
  format = 1;
  clocks = Kept;
  quantum = 4;
  slices = 11;
  lines = 0;
  cores =
      image_of.core 118 Rr ∷ image_of.core 169 Edf ∷ image_of.core 4611686018427387903 Edf ∷ image_of.core 0 Rr ∷ image_of.core 0 Edf
      ∷ image_of.core 78191 Edf ∷ image_of.core 99 Rr ∷ image_of.core_off 1099511627776 ∷ [];
  blocks =
      record {
        home = image_of.home 0;
        memory = [];
        ports = 3;
        signals = 3;
        disps =
            record {
              code =
                  604504064  -- csend s0 s8 0
                  ∷ 603455488  -- recv s15 s8 0
                  ∷ 240320517  -- bltu r5 r3 5
                  ∷ 135331840  -- or r1 r1
                  ∷ 105119744  -- mul r4 r4
                  ∷ 251658240  -- jmp 0
                  ∷ [];
              period = 1;
              due = 0;
              caps =
                  image_of.cap 8 (image_of.frame 4 3) 7 ∷ image_of.cap 2 (image_of.ram 100 1000) 7 ∷ image_of.cap 5 (image_of.port 0) 7
                  ∷ image_of.cap 6 (image_of.port 1) 7 ∷ image_of.cap 15 (image_of.port 2) 7 ∷ image_of.cap 13 (image_of.signal 1) 7
                  ∷ image_of.cap 9 (image_of.signal 2) 7 ∷ image_of.cap 0 (image_of.sendend 0) 7 ∷ image_of.cap 12 (image_of.sendend 1) 7
                  ∷ image_of.cap 14 (image_of.sendend 2) 7 ∷ image_of.cap 3 (image_of.recvend 4) 7 ∷ image_of.cap 11 (image_of.recvend 5) 7 ∷ [];
            }
            ∷ record {
              code =
                  21037055  -- li r4 65535
                  ∷ 19923444  -- li r3 500
                  ∷ 20971522  -- li r4 2
                  ∷ 623640576  -- crecv s2 s12 0
                  ∷ 618397696  -- csend s13 s12 0
                  ∷ 642908160  -- wait s5 r2
                  ∷ 538968064  -- out r2
                  ∷ 538968064  -- out r2
                  ∷ 155516928  -- xor r4 r5
                  ∷ 23069051  -- li r6 379
                  ∷ 24117252  -- li r7 4
                  ∷ 697368576  -- retype s9 s1 0
                  ∷ 730857472  -- revoke s9
                  ∷ 17825892  -- li r1 100
                  ∷ 659619844  -- arm s5 r1 4
                  ∷ 642908160  -- wait s5 r2
                  ∷ 538968064  -- out r2
                  ∷ 17825797  -- li r1 5
                  ∷ 664862729  -- arm s10 r1 9
                  ∷ 251658243  -- jmp 3
                  ∷ [];
              period = 1;
              due = 0;
              caps =
                  image_of.cap 12 (image_of.frame 16 4) 6 ∷ image_of.cap 9 (image_of.ram 0 1000) 7 ∷ image_of.cap 7 (image_of.port 2) 7
                  ∷ image_of.cap 10 (image_of.signal 0) 7 ∷ image_of.cap 5 (image_of.signal 1) 7 ∷ image_of.cap 8 (image_of.signal 2) 7
                  ∷ image_of.cap 13 (image_of.sendend 0) 7 ∷ image_of.cap 4 (image_of.sendend 1) 7 ∷ image_of.cap 3 (image_of.sendend 2) 7
                  ∷ image_of.cap 2 (image_of.recvend 3) 7 ∷ image_of.cap 0 (image_of.recvend 5) 4 ∷ [];
            }
            ∷ record {
              code =
                  20971520  -- li r4 0
                  ∷ 22020097  -- li r5 1
                  ∷ 318767104  -- nop
                  ∷ 67436544  -- add r0 r5
                  ∷ 71630848  -- add r4 r5
                  ∷ 19922946  -- li r3 2
                  ∷ 239271938  -- bltu r4 r3 2
                  ∷ 634716160  -- crecv s13 s5 0
                  ∷ 335544320  -- halt
                  ∷ [];
              period = 1;
              due = 0;
              caps =
                  image_of.cap 5 (image_of.frame 849 3) 4 ∷ image_of.cap 2 (image_of.ram 100 1000) 7 ∷ image_of.cap 7 (image_of.port 0) 7
                  ∷ image_of.cap 12 (image_of.port 1) 7 ∷ image_of.cap 6 (image_of.port 2) 7 ∷ image_of.cap 15 (image_of.signal 0) 7
                  ∷ image_of.cap 0 (image_of.signal 1) 7 ∷ image_of.cap 3 (image_of.sendend 0) 7 ∷ image_of.cap 8 (image_of.sendend 1) 7
                  ∷ image_of.cap 14 (image_of.sendend 2) 7 ∷ image_of.cap 13 (image_of.recvend 3) 7 ∷ image_of.cap 4 (image_of.recvend 5) 7 ∷ [];
            }
            ∷ record {
              code =
                  17826292  -- li r1 500
                  ∷ 17825792  -- li r1 0
                  ∷ 656474115  -- arm s2 r1 3
                  ∷ 639762432  -- wait s2 r2
                  ∷ 538968064  -- out r2
                  ∷ 251658241  -- jmp 1
                  ∷ [];
              period = 3;
              due = 0;
              caps =
                  image_of.cap 13 (image_of.frame 8 16) 7 ∷ image_of.cap 11 (image_of.ram 2546 100) 7 ∷ image_of.cap 7 (image_of.port 0) 7
                  ∷ image_of.cap 3 (image_of.port 1) 7 ∷ image_of.cap 6 (image_of.signal 1) 7 ∷ image_of.cap 2 (image_of.signal 2) 7
                  ∷ image_of.cap 1 (image_of.sendend 0) 7 ∷ image_of.cap 15 (image_of.sendend 1) 7 ∷ image_of.cap 10 (image_of.sendend 2) 7
                  ∷ image_of.cap 0 (image_of.recvend 3) 7 ∷ image_of.cap 5 (image_of.recvend 4) 7 ∷ image_of.cap 12 (image_of.recvend 5) 7 ∷ [];
            }
            ∷ [];
      }
      ∷ record {
        home = image_of.home 5;
        memory = [];
        ports = 1;
        signals = 1;
        disps =
            record {
              code =
                  19926283  -- li r3 3339
                  ∷ 286457858  -- st r1 r3 2
                  ∷ 610009098  -- csend s5 s12 10
                  ∷ 17825797  -- li r1 5
                  ∷ 668008452  -- arm s13 r1 4
                  ∷ 651296768  -- wait s13 r2
                  ∷ 538968064  -- out r2
                  ∷ 632029196  -- crecv s10 s12 12
                  ∷ 251658240  -- jmp 0
                  ∷ [];
              period = 19;
              due = 0;
              caps =
                  image_of.cap 12 (image_of.frame 3339 16) 7 ∷ image_of.cap 15 (image_of.port 0) 7 ∷ image_of.cap 13 (image_of.signal 0) 7
                  ∷ image_of.cap 5 (image_of.sendend 3) 2 ∷ image_of.cap 1 (image_of.recvend 0) 7 ∷ image_of.cap 10 (image_of.recvend 1) 7 ∷ [];
            }
            ∷ record {
              code =
                  607649792  -- csend s3 s8 0
                  ∷ 687734784  -- copy s15 s14 0
                  ∷ 303169536  -- rdt r1 r2
                  ∷ 537919488  -- out r1
                  ∷ 20971520  -- li r4 0
                  ∷ 22020097  -- li r5 1
                  ∷ 318767104  -- nop
                  ∷ 71630848  -- add r4 r5
                  ∷ 19922946  -- li r3 2
                  ∷ 239271942  -- bltu r4 r3 6
                  ∷ 186646528  -- shr r2 r0
                  ∷ 104005632  -- mul r3 r3
                  ∷ 135462912  -- or r1 r3
                  ∷ 22020127  -- li r5 31
                  ∷ 168099840  -- shl r0 r5
                  ∷ 536870912  -- out r0
                  ∷ 627572738  -- crecv s6 s8 2
                  ∷ 251658240  -- jmp 0
                  ∷ [];
              period = 1;
              due = 0;
              caps =
                  image_of.cap 8 (image_of.frame 4088 8) 7 ∷ image_of.cap 7 (image_of.port 0) 7 ∷ image_of.cap 11 (image_of.signal 0) 7
                  ∷ image_of.cap 12 (image_of.sendend 3) 7 ∷ image_of.cap 4 (image_of.sendend 4) 7 ∷ image_of.cap 3 (image_of.sendend 5) 7
                  ∷ image_of.cap 6 (image_of.recvend 1) 7 ∷ image_of.cap 15 (image_of.recvend 2) 7 ∷ [];
            }
            ∷ [];
      }
      ∷ [];
  channels =
      image_of.channel 0 1 64 ∷ image_of.channel 0 1 1 ∷ image_of.channel 0 1 1 ∷ image_of.channel 1 0 1 ∷ image_of.channel 1 0 2 ∷ image_of.channel 1 0 4
      ∷ [];
}

abbrev script : List ScriptLine
script =
    script_line.park 1 2 ∷ script_line.attach 1 7 ∷ script_line.stop 1 ∷ script_line.replace 2 Rr ∷ script_line.await 0 1 10 ∷ script_line.await 0 100 1
    ∷ script_line.unpark 0 7 ∷ script_line.unpark 1 6 ∷ script_line.await 1 1 50 ∷ script_line.await 0 1 1 ∷ []

abbrev schedule : List (Actor × Action)
schedule =
    texts.wake 0 0 1 ∷ texts.step 5 ∷ texts.script ∷ texts.wake 1 0 0 ∷ texts.step 3 ∷ texts.step 0 ∷ texts.order 5 ∷ texts.step 0 ∷ texts.step 0
    ∷ texts.order 0 ∷ texts.step 0 ∷ texts.step 0 ∷ texts.step 0 ∷ texts.step 0 ∷ texts.step 0 ∷ texts.step 0 ∷ texts.step 0 ∷ texts.step 0 ∷ texts.script
    ∷ texts.script ∷ texts.order 2 ∷ texts.step 2 ∷ texts.step 2 ∷ texts.step 2 ∷ texts.script ∷ texts.step 2 ∷ texts.step 2 ∷ texts.step 2 ∷ texts.order 0
    ∷ texts.step 2 ∷ texts.wake 6 0 3 ∷ texts.script ∷ texts.script ∷ texts.script ∷ texts.step 2 ∷ texts.order 1 ∷ texts.step 2 ∷ texts.step 6
    ∷ texts.script ∷ texts.step 2 ∷ []

abbrev journal : List Entry
journal =
    texts.slice 5 1 0 0 2 (end.Call op.Csend) 78194
    ∷ texts.post 0 5 (order.release 1)
    ∷ texts.slice 0 0 0 0 0 (end.Trap 8) 119
    ∷ texts.release 5 1 3
    ∷ texts.slice 0 0 1 0 3 (end.Call op.Crecv) 123
    ∷ texts.slice 0 0 2 0 4 end.Quantum 127
    ∷ texts.slice 0 0 3 0 2 (end.Call op.Arm) 130
    ∷ texts.slice 0 0 1 1 0 (end.Trap 7) 131
    ∷ texts.slice 0 0 2 0 4 end.Quantum 135
    ∷ texts.slice 0 0 3 0 0 (end.Call op.Wait) 136
    ∷ texts.slice 0 0 2 0 4 (end.Trap 7) 140
    ∷ texts.slice 0 0 3 0 0 (end.Call op.Out) 141
    ∷ texts.slice 0 0 3 0 2 (end.Call op.Arm) 144
    ∷ texts.slice 0 0 3 1 0 (end.Call op.Wait) 145
    ∷ texts.post 0 2 (order.adopt 1 true)
    ∷ texts.adopt 2 1 true 3
    ∷ texts.slice 2 1 1 0 0 (end.Call op.Csend) 4611686018427387904
    ∷ texts.slice 2 1 1 0 0 (end.Call op.Copy) 4611686018427387905
    ∷ texts.slice 2 1 1 0 1 (end.Call op.Out) 4611686018427387907
    ∷ texts.done 0
    ∷ texts.slice 2 1 1 0 4 end.Quantum 4611686018427387911
    ∷ texts.slice 2 1 1 0 4 end.Quantum 4611686018427387915
    ∷ texts.slice 2 1 1 0 4 end.Quantum 4611686018427387919
    ∷ texts.slice 2 1 1 0 3 (end.Call op.Out) 4611686018427387923
    ∷ texts.refused 1 (order.off 7)
    ∷ texts.post 2 1 order.stop
    ∷ texts.slice 2 1 1 0 0 (end.Hold op.Crecv) 4611686018427387924
    ∷ texts.stop 1 0
    ∷ texts.slice 2 1 0 0 1 (end.Call op.Arm) 4611686018427387926
    ∷ texts.done 2
    ∷ texts.slice 2 1 0 0 0 (end.Hold op.Wait) 4611686018427387927
    ∷ []

abbrev report : List ReportLine
report =
    report_line.core_on 0 Rr 145 (Some 0) (0 ∷ []) 11
    ∷ report_line.core_off 1 169 0
    ∷ report_line.core_on 2 Edf 4611686018427387927 None (1 ∷ []) 10
    ∷ report_line.core_on 3 Rr 0 None [] 0
    ∷ report_line.core_on 4 Edf 0 None [] 0
    ∷ report_line.core_on 5 Edf 78194 None [] 1
    ∷ report_line.core_on 6 Rr 99 None [] 0
    ∷ report_line.core_off 7 1099511627776 0
    ∷ report_line.block 0 (Some 0) 27 0
    ∷ report_line.disp 0 0 (state.Trapped 8) 0 0
    ∷ report_line.disp 0 1 (state.Trapped 7) 4 0
    ∷ report_line.disp 0 2 (state.Trapped 7) 7 0
    ∷ report_line.disp 0 3 state.Ready 4 0
    ∷ report_line.ready 0 (3 ∷ [])
    ∷ report_line.cap 0 0 (image_of.sendend 0) 7 None
    ∷ report_line.cap 0 2 (image_of.ram 100 1000) 7 None
    ∷ report_line.cap 0 3 (image_of.recvend 4) 7 None
    ∷ report_line.cap 0 5 (image_of.port 0) 7 None
    ∷ report_line.cap 0 6 (image_of.port 1) 7 None
    ∷ report_line.cap 0 8 (image_of.frame 4 3) 7 None
    ∷ report_line.cap 0 9 (image_of.signal 2) 7 None
    ∷ report_line.cap 0 11 (image_of.recvend 5) 7 None
    ∷ report_line.cap 0 12 (image_of.sendend 1) 7 None
    ∷ report_line.cap 0 13 (image_of.signal 1) 7 None
    ∷ report_line.cap 0 14 (image_of.sendend 2) 7 None
    ∷ report_line.cap 0 15 (image_of.port 2) 7 None
    ∷ report_line.cap 0 16 (image_of.recvend 5) 4 None
    ∷ report_line.cap 0 18 (image_of.recvend 3) 7 None
    ∷ report_line.cap 0 19 (image_of.sendend 2) 7 None
    ∷ report_line.cap 0 20 (image_of.sendend 1) 7 None
    ∷ report_line.cap 0 21 (image_of.signal 1) 7 None
    ∷ report_line.cap 0 23 (image_of.port 2) 7 None
    ∷ report_line.cap 0 24 (image_of.signal 2) 7 None
    ∷ report_line.cap 0 25 (image_of.ram 0 1000) 7 None
    ∷ report_line.cap 0 26 (image_of.signal 0) 7 None
    ∷ report_line.cap 0 28 (image_of.frame 16 4) 6 None
    ∷ report_line.cap 0 29 (image_of.sendend 0) 7 None
    ∷ report_line.cap 0 32 (image_of.signal 1) 7 None
    ∷ report_line.cap 0 34 (image_of.ram 100 1000) 7 None
    ∷ report_line.cap 0 35 (image_of.sendend 0) 7 None
    ∷ report_line.cap 0 36 (image_of.recvend 5) 7 None
    ∷ report_line.cap 0 37 (image_of.frame 849 3) 4 None
    ∷ report_line.cap 0 38 (image_of.port 2) 7 None
    ∷ report_line.cap 0 39 (image_of.port 0) 7 None
    ∷ report_line.cap 0 40 (image_of.sendend 1) 7 None
    ∷ report_line.cap 0 44 (image_of.port 1) 7 None
    ∷ report_line.cap 0 45 (image_of.recvend 3) 7 None
    ∷ report_line.cap 0 46 (image_of.sendend 2) 7 None
    ∷ report_line.cap 0 47 (image_of.signal 0) 7 None
    ∷ report_line.cap 0 48 (image_of.recvend 3) 7 None
    ∷ report_line.cap 0 49 (image_of.sendend 0) 7 None
    ∷ report_line.cap 0 50 (image_of.signal 2) 7 None
    ∷ report_line.cap 0 51 (image_of.port 1) 7 None
    ∷ report_line.cap 0 53 (image_of.recvend 4) 7 None
    ∷ report_line.cap 0 54 (image_of.signal 1) 7 None
    ∷ report_line.cap 0 55 (image_of.port 0) 7 None
    ∷ report_line.cap 0 58 (image_of.sendend 2) 7 None
    ∷ report_line.cap 0 59 (image_of.ram 2546 100) 7 None
    ∷ report_line.cap 0 60 (image_of.recvend 5) 7 None
    ∷ report_line.cap 0 61 (image_of.frame 8 16) 7 None
    ∷ report_line.cap 0 63 (image_of.sendend 1) 7 None
    ∷ report_line.block 1 (Some 2) 27 1
    ∷ report_line.disp 1 0 (report_line.waits_signal 0) 5 57
    ∷ report_line.disp 1 1 (report_line.waits_crecv 1) 16 8
    ∷ report_line.ready 1 []
    ∷ report_line.cap 1 1 (image_of.recvend 0) 7 None
    ∷ report_line.cap 1 5 (image_of.sendend 3) 2 None
    ∷ report_line.cap 1 10 (image_of.recvend 1) 7 None
    ∷ report_line.cap 1 12 (image_of.frame 3339 16) 7 None
    ∷ report_line.cap 1 13 (image_of.signal 0) 7 None
    ∷ report_line.cap 1 14 (image_of.recvend 2) 0 (Some 31)
    ∷ report_line.cap 1 15 (image_of.port 0) 7 None
    ∷ report_line.cap 1 19 (image_of.sendend 5) 7 None
    ∷ report_line.cap 1 20 (image_of.sendend 4) 7 None
    ∷ report_line.cap 1 22 (image_of.recvend 1) 7 None
    ∷ report_line.cap 1 23 (image_of.port 0) 7 None
    ∷ report_line.cap 1 24 (image_of.frame 4088 8) 7 None
    ∷ report_line.cap 1 27 (image_of.signal 0) 7 None
    ∷ report_line.cap 1 28 (image_of.sendend 3) 7 None
    ∷ report_line.cap 1 31 (image_of.recvend 2) 7 None
    ∷ report_line.timer 1 29 0 0 4
    ∷ report_line.channel 0 0 0
    ∷ report_line.channel 1 0 0
    ∷ report_line.channel 2 0 0
    ∷ report_line.channel 3 1 1
    ∷ report_line.channel 4 0 0
    ∷ report_line.channel 5 1 0
    ∷ report_line.message 5 0 0 0 0
    ∷ report_line.out 0 3
    ∷ report_line.out 1 5
    ∷ report_line.out 1 0
    ∷ []

abbrev text : List ℕ
text = texts.lines (
    "0 core 5 slice 1 0 fired 0 ran 2 call csend clock 78194"
    ∷ "1 script 0 post 5 release 1"
    ∷ "2 core 0 slice 0 0 fired 0 ran 0 trap 8 clock 119"
    ∷ "3 core 5 release 1 time 3"
    ∷ "4 core 0 slice 0 1 fired 0 ran 3 call crecv clock 123"
    ∷ "5 core 0 slice 0 2 fired 0 ran 4 quantum clock 127"
    ∷ "6 core 0 slice 0 3 fired 0 ran 2 call arm clock 130"
    ∷ "7 core 0 slice 0 1 fired 1 ran 0 trap 7 clock 131"
    ∷ "8 core 0 slice 0 2 fired 0 ran 4 quantum clock 135"
    ∷ "9 core 0 slice 0 3 fired 0 ran 0 call wait clock 136"
    ∷ "10 core 0 slice 0 2 fired 0 ran 4 trap 7 clock 140"
    ∷ "11 core 0 slice 0 3 fired 0 ran 0 call out clock 141"
    ∷ "12 core 0 slice 0 3 fired 0 ran 2 call arm clock 144"
    ∷ "13 core 0 slice 0 3 fired 1 ran 0 call wait clock 145"
    ∷ "14 script 0 post 2 adopt 1 parked"
    ∷ "15 core 2 adopt 1 parked time 3"
    ∷ "16 core 2 slice 1 1 fired 0 ran 0 call csend clock 4611686018427387904"
    ∷ "17 core 2 slice 1 1 fired 0 ran 0 call copy clock 4611686018427387905"
    ∷ "18 core 2 slice 1 1 fired 0 ran 1 call out clock 4611686018427387907"
    ∷ "19 script 0 done"
    ∷ "20 core 2 slice 1 1 fired 0 ran 4 quantum clock 4611686018427387911"
    ∷ "21 core 2 slice 1 1 fired 0 ran 4 quantum clock 4611686018427387915"
    ∷ "22 core 2 slice 1 1 fired 0 ran 4 quantum clock 4611686018427387919"
    ∷ "23 core 2 slice 1 1 fired 0 ran 3 call out clock 4611686018427387923"
    ∷ "24 script 1 refused 2 Off 7"
    ∷ "25 script 2 post 1 stop"
    ∷ "26 core 2 slice 1 1 fired 0 ran 0 hold crecv clock 4611686018427387924"
    ∷ "27 core 1 stop 0"
    ∷ "28 core 2 slice 1 0 fired 0 ran 1 call arm clock 4611686018427387926"
    ∷ "29 script 2 done"
    ∷ "30 core 2 slice 1 0 fired 0 ran 0 hold wait clock 4611686018427387927"
    ∷ "report"
    ∷ "core 0 on rr clock 145 home 0 share 0 used 11"
    ∷ "core 1 off clock 169 used 0"
    ∷ "core 2 on edf clock 4611686018427387927 home - share 1 used 10"
    ∷ "core 3 on rr clock 0 home - share - used 0"
    ∷ "core 4 on edf clock 0 home - share - used 0"
    ∷ "core 5 on edf clock 78194 home - share - used 1"
    ∷ "core 6 on rr clock 99 home - share - used 0"
    ∷ "core 7 off clock 1099511627776 used 0"
    ∷ "block 0 core 0 time 27 armed 0"
    ∷ "disp 0 0 trap 8 place 0 due 0"
    ∷ "disp 0 1 trap 7 place 4 due 0"
    ∷ "disp 0 2 trap 7 place 7 due 0"
    ∷ "disp 0 3 ready place 4 due 0"
    ∷ "ready 0 3"
    ∷ "cap 0 0 sendend 0 rights 7 parent -"
    ∷ "cap 0 2 ram 100 1000 rights 7 parent -"
    ∷ "cap 0 3 recvend 4 rights 7 parent -"
    ∷ "cap 0 5 port 0 rights 7 parent -"
    ∷ "cap 0 6 port 1 rights 7 parent -"
    ∷ "cap 0 8 frame 4 3 rights 7 parent -"
    ∷ "cap 0 9 signal 2 rights 7 parent -"
    ∷ "cap 0 11 recvend 5 rights 7 parent -"
    ∷ "cap 0 12 sendend 1 rights 7 parent -"
    ∷ "cap 0 13 signal 1 rights 7 parent -"
    ∷ "cap 0 14 sendend 2 rights 7 parent -"
    ∷ "cap 0 15 port 2 rights 7 parent -"
    ∷ "cap 0 16 recvend 5 rights 4 parent -"
    ∷ "cap 0 18 recvend 3 rights 7 parent -"
    ∷ "cap 0 19 sendend 2 rights 7 parent -"
    ∷ "cap 0 20 sendend 1 rights 7 parent -"
    ∷ "cap 0 21 signal 1 rights 7 parent -"
    ∷ "cap 0 23 port 2 rights 7 parent -"
    ∷ "cap 0 24 signal 2 rights 7 parent -"
    ∷ "cap 0 25 ram 0 1000 rights 7 parent -"
    ∷ "cap 0 26 signal 0 rights 7 parent -"
    ∷ "cap 0 28 frame 16 4 rights 6 parent -"
    ∷ "cap 0 29 sendend 0 rights 7 parent -"
    ∷ "cap 0 32 signal 1 rights 7 parent -"
    ∷ "cap 0 34 ram 100 1000 rights 7 parent -"
    ∷ "cap 0 35 sendend 0 rights 7 parent -"
    ∷ "cap 0 36 recvend 5 rights 7 parent -"
    ∷ "cap 0 37 frame 849 3 rights 4 parent -"
    ∷ "cap 0 38 port 2 rights 7 parent -"
    ∷ "cap 0 39 port 0 rights 7 parent -"
    ∷ "cap 0 40 sendend 1 rights 7 parent -"
    ∷ "cap 0 44 port 1 rights 7 parent -"
    ∷ "cap 0 45 recvend 3 rights 7 parent -"
    ∷ "cap 0 46 sendend 2 rights 7 parent -"
    ∷ "cap 0 47 signal 0 rights 7 parent -"
    ∷ "cap 0 48 recvend 3 rights 7 parent -"
    ∷ "cap 0 49 sendend 0 rights 7 parent -"
    ∷ "cap 0 50 signal 2 rights 7 parent -"
    ∷ "cap 0 51 port 1 rights 7 parent -"
    ∷ "cap 0 53 recvend 4 rights 7 parent -"
    ∷ "cap 0 54 signal 1 rights 7 parent -"
    ∷ "cap 0 55 port 0 rights 7 parent -"
    ∷ "cap 0 58 sendend 2 rights 7 parent -"
    ∷ "cap 0 59 ram 2546 100 rights 7 parent -"
    ∷ "cap 0 60 recvend 5 rights 7 parent -"
    ∷ "cap 0 61 frame 8 16 rights 7 parent -"
    ∷ "cap 0 63 sendend 1 rights 7 parent -"
    ∷ "block 1 core 2 time 27 armed 1"
    ∷ "disp 1 0 wait signal 0 place 5 due 57"
    ∷ "disp 1 1 wait crecv 1 place 16 due 8"
    ∷ "ready 1 -"
    ∷ "cap 1 1 recvend 0 rights 7 parent -"
    ∷ "cap 1 5 sendend 3 rights 2 parent -"
    ∷ "cap 1 10 recvend 1 rights 7 parent -"
    ∷ "cap 1 12 frame 3339 16 rights 7 parent -"
    ∷ "cap 1 13 signal 0 rights 7 parent -"
    ∷ "cap 1 14 recvend 2 rights 0 parent 31"
    ∷ "cap 1 15 port 0 rights 7 parent -"
    ∷ "cap 1 19 sendend 5 rights 7 parent -"
    ∷ "cap 1 20 sendend 4 rights 7 parent -"
    ∷ "cap 1 22 recvend 1 rights 7 parent -"
    ∷ "cap 1 23 port 0 rights 7 parent -"
    ∷ "cap 1 24 frame 4088 8 rights 7 parent -"
    ∷ "cap 1 27 signal 0 rights 7 parent -"
    ∷ "cap 1 28 sendend 3 rights 7 parent -"
    ∷ "cap 1 31 recvend 2 rights 7 parent -"
    ∷ "timer 1 29 0 0 4"
    ∷ "channel 0 sent 0 taken 0"
    ∷ "channel 1 sent 0 taken 0"
    ∷ "channel 2 sent 0 taken 0"
    ∷ "channel 3 sent 1 taken 1"
    ∷ "channel 4 sent 0 taken 0"
    ∷ "channel 5 sent 1 taken 0"
    ∷ "message 5 0 0 0 0"
    ∷ "out 0 3"
    ∷ "out 1 5"
    ∷ "out 1 0"
    ∷ "skipped 9"
    ∷ "end"
    ∷ [])

is_played : played image script schedule ≡ record {
  journal = journal;
  skipped = 9;
  reasons =
      Some why.NotWaiting ∷ Some (why.NotHere (record { 0 = 0 })) ∷ Some why.Nothing ∷ Some why.NoOrder ∷ Some (why.NoAck (record { 0 = 2 }))
      ∷ Some why.NoOrder ∷ Some (why.NotHere (record { 0 = 0 })) ∷ Some (why.NoAck (record { 0 = 1 })) ∷ Some why.Nothing ∷ [];
  report = report;
  text = text;
  again = journal;
}
unfolding machine_with_cores whole_texts
is_played = refl

is_judged : judged image script journal ≡ record { is_run = true; shown = Some (all_shown_by report) }
unfolding machine_of_blocks
is_judged = refl

-- each entry touches what the table says
is_tabled : tabled image script schedule ≡ true
unfolding machine_with_cores
is_tabled = refl

-- each block is reported once, on the core that holds it or at rest
is_none_lost : blocks_reported report ≡ blocks_held (image_origin image script) journal
unfolding machine_of_blocks
is_none_lost = refl

-- the journal has told what the state shows
is_told : option_map facts_told (run image script journal)
    ≡ option_map (facts_of (core_run image script schedule).state) (run image script journal)
unfolding machine_with_cores machine_of_blocks
is_told = refl

-- journals that are changed, and the first bad entry of each
are_changed : first_bads image script (
    lines_swapped 16 journal
    ∷ with_line 26 (texts.slice 2 2 1 0 0 (end.Hold op.Crecv) 4611686018427387924) journal
    ∷ with_line 3 (texts.release 5 1 4) journal
    ∷ [])
    ≡ Some 16 ∷ Some 26 ∷ Some 3 ∷ []
unfolding machine_of_blocks
are_changed = refl
