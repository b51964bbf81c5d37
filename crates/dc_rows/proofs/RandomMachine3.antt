-- A random machine, of seed 20009.
-- Made by tools/worked_examples.py from examples/RandomMachine3.
use Rattle.std.specs.Prelude.{◌≡◌, ℕ, List, [], ◌∷◌, refl, true, None, Some}
use Rattle.std.specs.Option.{option_map}
use Rattle.dc_base.specs.declared.images.Image.{Image}
use Rattle.dc_base.specs.declared.kernels.Version.TheVariants.{Edf}
use Rattle.dc_base.specs.declared.kernels.Clocks.TheVariants.{Kept}
use Rattle.dc_base.specs.declared.actions.Actor.{Actor}
use Rattle.dc_base.specs.declared.actions.Action.{Action}
use Rattle.dc_base.specs.declared.calls.Op.TheVariants as op
use Rattle.dc_base.specs.declared.calls.End.TheVariants as end
use Rattle.dc_base.specs.declared.commands.ScriptLine.{ScriptLine}
use Rattle.dc_base.specs.declared.entries.Entry.{Entry}
use Rattle.dc_base.specs.declared.entries.Reason.TheVariants as why
use Rattle.dc_base.specs.declared.reports.ReportLine.{ReportLine}
use Rattle.dc_base.specs.declared.dispatchers.DispState.TheVariants as state
use Rattle.dc_base.specs.Runs.{run}
use Rattle.dc_base.specs.CoreRuns.{core_run}
use Rattle.dc_base.specs.Origins.{image_origin}
use Rattle.dc_base.specs.Shown.{all_shown_by}
use Rattle.dc_base.specs.Headline.{blocks_reported, blocks_held}
use Rattle.dc_rows.specs.Computed.{machine_of_blocks, machine_with_cores, whole_texts}
use Rattle.dc_rows.specs.Facts.{facts_told, facts_of}
use Rattle.dc_rows.specs.Images as image_of
use Rattle.dc_rows.specs.Played.{played, judged, first_bads}
use Rattle.dc_rows.specs.Reports as report_line
use Rattle.dc_rows.specs.Tabled.{tabled}
use Rattle.dc_rows.specs.Texts as texts
use Rattle.dc_rows.specs.WrongJournals.{with_line, lines_swapped}

abbrev image : Image
image = record {
  format = 2;
  clocks = Kept;
  quantum = 3;
  slices = 2000;
  lines = 1;
  cores =
      image_of.core 179 Edf ∷ image_of.core 0 Edf ∷ [];
  blocks =
      record {
        home = image_of.home 1;
        memory = [];
        ports = 2;
        signals = 3;
        disps =
            record {
              code =
                  20972020  -- li r4 500
                  ∷ 20971521  -- li r4 1
                  ∷ 676462599  -- copy s5 s2 7
                  ∷ 673579014  -- copy s2 s6 6
                  ∷ 764739584  -- give s9 s5
                  ∷ 613613568  -- csend s9 s3 0
                  ∷ 634585088  -- crecv s13 s3 0
                  ∷ 614400003  -- csend s9 s15 3
                  ∷ 540016640  -- out r3
                  ∷ 786366463  -- claim s13 s14 65535
                  ∷ 251658246  -- jmp 6
                  ∷ [];
              period = 2;
              due = 100;
              caps =
                  image_of.cap 15 (image_of.frame 0 8) 7 ∷ image_of.cap 7 (image_of.signal 1) 7 ∷ image_of.cap 5 (image_of.line 0) 7
                  ∷ image_of.cap 9 (image_of.sendend 1) 7 ∷ image_of.cap 3 (image_of.frame 4 8) 7 ∷ image_of.cap 0 (image_of.port 0) 7
                  ∷ image_of.cap 10 (image_of.port 1) 7 ∷ image_of.cap 12 (image_of.signal 0) 7 ∷ image_of.cap 8 (image_of.signal 1) 7
                  ∷ image_of.cap 4 (image_of.signal 2) 7 ∷ image_of.cap 13 (image_of.recvend 0) 7 ∷ image_of.cap 11 (image_of.recvend 2) 7 ∷ [];
            }
            ∷ record {
              code =
                  22020098  -- li r5 2
                  ∷ 16777217  -- li r0 1
                  ∷ 19922954  -- li r3 10
                  ∷ 22020097  -- li r5 1
                  ∷ 268763136  -- ld r0 r5 0
                  ∷ [];
              period = 3;
              due = 1;
              caps =
                  image_of.cap 6 (image_of.frame 0 16) 7 ∷ image_of.cap 7 (image_of.frame 40 16) 7 ∷ image_of.cap 5 (image_of.ram 100 100) 7
                  ∷ image_of.cap 2 (image_of.port 0) 7 ∷ image_of.cap 3 (image_of.port 1) 7 ∷ image_of.cap 14 (image_of.signal 0) 7
                  ∷ image_of.cap 11 (image_of.signal 1) 7 ∷ image_of.cap 15 (image_of.signal 2) 3 ∷ image_of.cap 12 (image_of.sendend 1) 1
                  ∷ image_of.cap 9 (image_of.recvend 0) 7 ∷ image_of.cap 1 (image_of.recvend 3) 7 ∷ image_of.cap 10 (image_of.line 0) 7 ∷ [];
            }
            ∷ record {
              code =
                  17891327  -- li r1 65535
                  ∷ 16777716  -- li r0 500
                  ∷ 16777216  -- li r0 0
                  ∷ 23068959  -- li r6 287
                  ∷ 24117249  -- li r7 1
                  ∷ 702939137  -- retype s14 s6 1
                  ∷ 710934528  -- delete s6
                  ∷ 626655232  -- crecv s5 s10 0
                  ∷ 617218048  -- csend s12 s10 0
                  ∷ 251658243  -- jmp 3
                  ∷ [];
              period = 1;
              due = 0;
              caps =
                  image_of.cap 10 (image_of.frame 16 3) 7 ∷ image_of.cap 14 (image_of.ram 100 1000) 7 ∷ image_of.cap 13 (image_of.port 0) 7
                  ∷ image_of.cap 15 (image_of.port 1) 7 ∷ image_of.cap 4 (image_of.signal 0) 7 ∷ image_of.cap 8 (image_of.signal 2) 7
                  ∷ image_of.cap 12 (image_of.sendend 1) 7 ∷ image_of.cap 11 (image_of.recvend 0) 7 ∷ image_of.cap 5 (image_of.recvend 2) 7
                  ∷ image_of.cap 3 (image_of.recvend 3) 7 ∷ image_of.cap 0 (image_of.line 0) 7 ∷ [];
            }
            ∷ record {
              code =
                  633733124  -- crecv s12 s6 4
                  ∷ 221511686  -- bne r3 r4 6
                  ∷ 22020128  -- li r5 32
                  ∷ 170196992  -- shl r2 r5
                  ∷ 152305664  -- xor r1 r4
                  ∷ 118554624  -- and r1 r1
                  ∷ 618004482  -- csend s13 s6 2
                  ∷ [];
              period = 65535;
              due = 0;
              caps =
                  image_of.cap 6 (image_of.frame 4088 8) 7 ∷ image_of.cap 7 (image_of.port 0) 7 ∷ image_of.cap 0 (image_of.port 1) 7
                  ∷ image_of.cap 3 (image_of.signal 0) 7 ∷ image_of.cap 2 (image_of.signal 1) 7 ∷ image_of.cap 4 (image_of.signal 2) 7
                  ∷ image_of.cap 13 (image_of.sendend 1) 7 ∷ image_of.cap 12 (image_of.recvend 0) 7 ∷ image_of.cap 14 (image_of.recvend 2) 7
                  ∷ image_of.cap 11 (image_of.recvend 3) 7 ∷ [];
            }
            ∷ [];
      }
      ∷ record {
        home = image_of.home 0;
        memory = [];
        ports = 0;
        signals = 3;
        disps =
            record {
              code =
                  632487936  -- crecv s11 s3 0
                  ∷ 783351808  -- claim s11 s1 0
                  ∷ 739508224  -- bind s1 s4
                  ∷ 641925120  -- wait s4 r3
                  ∷ 540016640  -- out r3
                  ∷ 305201152  -- rdt r3 r1
                  ∷ 540016640  -- out r3
                  ∷ 17825892  -- li r1 100
                  ∷ 662766068  -- arm s8 r1 500
                  ∷ 646053888  -- wait s8 r2
                  ∷ 538968064  -- out r2
                  ∷ 620494849  -- csend s15 s12 1
                  ∷ 626786304  -- crecv s5 s12 0
                  ∷ 222560274  -- bne r4 r4 18
                  ∷ 172294144  -- shl r4 r5
                  ∷ 70451200  -- add r3 r3
                  ∷ 83886080  -- sub r0 r0
                  ∷ 89325568  -- sub r5 r3
                  ∷ 755040256  -- give s0 s1
                  ∷ 251658245  -- jmp 5
                  ∷ [];
              period = 1;
              due = 0;
              caps =
                  image_of.cap 12 (image_of.frame 0 8) 7 ∷ image_of.cap 7 (image_of.signal 2) 7 ∷ image_of.cap 11 (image_of.recvend 1) 7
                  ∷ image_of.cap 3 (image_of.frame 4088 8) 7 ∷ image_of.cap 2 (image_of.ram 1383 100) 7 ∷ image_of.cap 8 (image_of.signal 0) 7
                  ∷ image_of.cap 4 (image_of.signal 2) 7 ∷ image_of.cap 15 (image_of.sendend 0) 7 ∷ image_of.cap 13 (image_of.sendend 2) 7
                  ∷ image_of.cap 0 (image_of.sendend 3) 7 ∷ image_of.cap 5 (image_of.recvend 1) 7 ∷ [];
            }
            ∷ record {
              code =
                  251658240  -- jmp 0
                  ∷ [];
              period = 10;
              due = 2;
              caps =
                  image_of.cap 11 (image_of.frame 4088 8) 7 ∷ image_of.cap 14 (image_of.ram 100 64) 7 ∷ image_of.cap 1 (image_of.signal 0) 7
                  ∷ image_of.cap 4 (image_of.signal 1) 7 ∷ image_of.cap 0 (image_of.signal 2) 7 ∷ image_of.cap 5 (image_of.sendend 0) 7
                  ∷ image_of.cap 13 (image_of.sendend 2) 7 ∷ image_of.cap 9 (image_of.recvend 1) 7 ∷ [];
            }
            ∷ [];
      }
      ∷ [];
  channels =
      image_of.channel 1 0 1 ∷ image_of.channel 0 1 64 ∷ image_of.channel 1 0 1 ∷ image_of.channel 1 0 1 ∷ [];
}

abbrev script : List ScriptLine
script = []

abbrev schedule : List (Actor × Action)
schedule =
    texts.step 0 ∷ texts.step 1 ∷ texts.script ∷ texts.step 1 ∷ texts.step 0 ∷ texts.step 0 ∷ texts.script ∷ texts.script ∷ texts.step 1 ∷ texts.step 1
    ∷ texts.order 0 ∷ texts.step 1 ∷ texts.script ∷ texts.step 1 ∷ texts.step 0 ∷ texts.intake 0 0 ∷ texts.step 0 ∷ texts.wake 1 1 1 ∷ texts.order 0
    ∷ texts.step 1 ∷ texts.script ∷ texts.step 0 ∷ texts.step 0 ∷ texts.raise ∷ texts.step 1 ∷ texts.step 1 ∷ texts.script ∷ texts.step 1 ∷ texts.step 0
    ∷ texts.step 1 ∷ texts.wake 1 0 3 ∷ texts.step 1 ∷ texts.step 0 ∷ texts.step 0 ∷ texts.wake 0 1 0 ∷ texts.step 0 ∷ texts.step 0 ∷ texts.step 0
    ∷ texts.step 0 ∷ texts.step 0 ∷ []

abbrev journal : List Entry
journal =
    texts.slice 0 1 0 0 0 (end.Hold op.Crecv) 180
    ∷ texts.slice 1 0 2 0 3 end.Quantum 3
    ∷ texts.slice 1 0 3 0 0 (end.Hold op.Crecv) 4
    ∷ texts.slice 0 1 1 0 3 end.Quantum 183
    ∷ texts.slice 0 1 1 0 3 end.Quantum 186
    ∷ texts.slice 1 0 1 0 3 end.Quantum 7
    ∷ texts.slice 1 0 2 0 2 (end.Call op.Retype) 10
    ∷ texts.slice 1 0 2 0 0 (end.Call op.Delete) 11
    ∷ texts.slice 1 0 2 0 0 (end.Trap 8) 12
    ∷ texts.slice 0 1 1 0 3 end.Quantum 189
    ∷ texts.slice 0 1 1 0 3 end.Quantum 192
    ∷ texts.slice 1 0 1 0 2 (end.Trap 2) 14
    ∷ texts.slice 0 1 1 0 3 end.Quantum 195
    ∷ texts.slice 0 1 1 0 3 end.Quantum 198
    ∷ texts.slice 1 0 0 0 2 (end.Call op.Copy) 17
    ∷ texts.slice 1 0 0 0 0 (end.Call op.Copy) 18
    ∷ texts.slice 1 0 0 0 0 (end.Call op.Give) 19
    ∷ texts.slice 0 1 1 0 3 end.Quantum 201
    ∷ texts.slice 1 0 0 0 0 (end.Call op.Csend) 20
    ∷ texts.slice 1 0 0 0 0 (end.Hold op.Crecv) 21
    ∷ texts.slice 0 1 1 0 3 end.Quantum 204
    ∷ texts.slice 0 1 1 0 3 end.Quantum 207
    ∷ texts.woken 0 1 0
    ∷ texts.slice 0 1 0 0 0 (end.Call op.Crecv) 208
    ∷ texts.slice 0 1 0 0 0 (end.Call op.Claim) 209
    ∷ texts.slice 0 1 0 0 0 (end.Call op.Bind) 210
    ∷ texts.slice 0 1 0 0 0 (end.Hold op.Wait) 211
    ∷ texts.slice 0 1 1 0 3 end.Quantum 214
    ∷ []

abbrev report : List ReportLine
report =
    report_line.core_on 0 Edf 214 (Some 1) (1 ∷ []) 16
    ∷ report_line.core_on 1 Edf 21 (Some 0) (0 ∷ []) 12
    ∷ report_line.block 0 (Some 1) 21 0
    ∷ report_line.disp 0 0 (report_line.waits_crecv 0) 6 110
    ∷ report_line.disp 0 1 (state.Trapped 2) 5 7
    ∷ report_line.disp 0 2 (state.Trapped 8) 7 4
    ∷ report_line.disp 0 3 (report_line.waits_crecv 0) 0 65535
    ∷ report_line.ready 0 []
    ∷ report_line.cap 0 0 (image_of.port 0) 7 None
    ∷ report_line.cap 0 3 (image_of.frame 4 8) 7 None
    ∷ report_line.cap 0 4 (image_of.signal 2) 7 None
    ∷ report_line.cap 0 7 (image_of.signal 1) 7 None
    ∷ report_line.cap 0 8 (image_of.signal 1) 7 None
    ∷ report_line.cap 0 9 (image_of.sendend 1) 7 None
    ∷ report_line.cap 0 10 (image_of.port 1) 7 None
    ∷ report_line.cap 0 11 (image_of.recvend 2) 7 None
    ∷ report_line.cap 0 12 (image_of.signal 0) 7 None
    ∷ report_line.cap 0 13 (image_of.recvend 0) 7 None
    ∷ report_line.cap 0 15 (image_of.frame 0 8) 7 None
    ∷ report_line.cap 0 17 (image_of.recvend 3) 7 None
    ∷ report_line.cap 0 18 (image_of.port 0) 7 None
    ∷ report_line.cap 0 19 (image_of.port 1) 7 None
    ∷ report_line.cap 0 21 (image_of.ram 100 100) 7 None
    ∷ report_line.cap 0 22 (image_of.frame 0 16) 7 None
    ∷ report_line.cap 0 23 (image_of.frame 40 16) 7 None
    ∷ report_line.cap 0 25 (image_of.recvend 0) 7 None
    ∷ report_line.cap 0 27 (image_of.signal 1) 7 None
    ∷ report_line.cap 0 28 (image_of.sendend 1) 1 None
    ∷ report_line.cap 0 30 (image_of.signal 0) 7 None
    ∷ report_line.cap 0 31 (image_of.signal 2) 3 None
    ∷ report_line.cap 0 35 (image_of.recvend 3) 7 None
    ∷ report_line.cap 0 36 (image_of.signal 0) 7 None
    ∷ report_line.cap 0 37 (image_of.recvend 2) 7 None
    ∷ report_line.cap 0 40 (image_of.signal 2) 7 None
    ∷ report_line.cap 0 42 (image_of.frame 16 3) 7 None
    ∷ report_line.cap 0 43 (image_of.recvend 0) 7 None
    ∷ report_line.cap 0 44 (image_of.sendend 1) 7 None
    ∷ report_line.cap 0 45 (image_of.port 0) 7 None
    ∷ report_line.cap 0 46 (image_of.ram 100 1000) 7 None
    ∷ report_line.cap 0 47 (image_of.port 1) 7 None
    ∷ report_line.cap 0 48 (image_of.port 1) 7 None
    ∷ report_line.cap 0 50 (image_of.signal 1) 7 None
    ∷ report_line.cap 0 51 (image_of.signal 0) 7 None
    ∷ report_line.cap 0 52 (image_of.signal 2) 7 None
    ∷ report_line.cap 0 54 (image_of.frame 4088 8) 7 None
    ∷ report_line.cap 0 55 (image_of.port 0) 7 None
    ∷ report_line.cap 0 59 (image_of.recvend 3) 7 None
    ∷ report_line.cap 0 60 (image_of.recvend 0) 7 None
    ∷ report_line.cap 0 61 (image_of.sendend 1) 7 None
    ∷ report_line.cap 0 62 (image_of.recvend 2) 7 None
    ∷ report_line.block 1 (Some 0) 35 0
    ∷ report_line.disp 1 0 (report_line.waits_signal 2) 3 5
    ∷ report_line.disp 1 1 state.Ready 0 102
    ∷ report_line.ready 1 (1 ∷ [])
    ∷ report_line.cap 1 0 (image_of.sendend 3) 7 None
    ∷ report_line.cap 1 1 (image_of.line 0) 7 None
    ∷ report_line.cap 1 2 (image_of.ram 1383 100) 7 None
    ∷ report_line.cap 1 3 (image_of.frame 4088 8) 7 None
    ∷ report_line.cap 1 4 (image_of.signal 2) 7 None
    ∷ report_line.cap 1 5 (image_of.recvend 1) 7 None
    ∷ report_line.cap 1 7 (image_of.signal 2) 7 None
    ∷ report_line.cap 1 8 (image_of.signal 0) 7 None
    ∷ report_line.cap 1 11 (image_of.recvend 1) 7 None
    ∷ report_line.cap 1 12 (image_of.frame 0 8) 7 None
    ∷ report_line.cap 1 13 (image_of.sendend 2) 7 None
    ∷ report_line.cap 1 15 (image_of.sendend 0) 7 None
    ∷ report_line.cap 1 16 (image_of.signal 2) 7 None
    ∷ report_line.cap 1 17 (image_of.signal 0) 7 None
    ∷ report_line.cap 1 20 (image_of.signal 1) 7 None
    ∷ report_line.cap 1 21 (image_of.sendend 0) 7 None
    ∷ report_line.cap 1 25 (image_of.recvend 1) 7 None
    ∷ report_line.cap 1 27 (image_of.frame 4088 8) 7 None
    ∷ report_line.cap 1 29 (image_of.sendend 2) 7 None
    ∷ report_line.cap 1 30 (image_of.ram 100 64) 7 None
    ∷ report_line.channel 0 0 0
    ∷ report_line.channel 1 1 1
    ∷ report_line.channel 2 0 0
    ∷ report_line.channel 3 0 0
    ∷ report_line.wire 0 (Some (1, 2)) (Some 0) 0 0 0 0 0 0 0
    ∷ []

abbrev text : List ℕ
text = texts.lines (
    "0 core 0 slice 1 0 fired 0 ran 0 hold crecv clock 180"
    ∷ "1 core 1 slice 0 2 fired 0 ran 3 quantum clock 3"
    ∷ "2 core 1 slice 0 3 fired 0 ran 0 hold crecv clock 4"
    ∷ "3 core 0 slice 1 1 fired 0 ran 3 quantum clock 183"
    ∷ "4 core 0 slice 1 1 fired 0 ran 3 quantum clock 186"
    ∷ "5 core 1 slice 0 1 fired 0 ran 3 quantum clock 7"
    ∷ "6 core 1 slice 0 2 fired 0 ran 2 call retype clock 10"
    ∷ "7 core 1 slice 0 2 fired 0 ran 0 call delete clock 11"
    ∷ "8 core 1 slice 0 2 fired 0 ran 0 trap 8 clock 12"
    ∷ "9 core 0 slice 1 1 fired 0 ran 3 quantum clock 189"
    ∷ "10 core 0 slice 1 1 fired 0 ran 3 quantum clock 192"
    ∷ "11 core 1 slice 0 1 fired 0 ran 2 trap 2 clock 14"
    ∷ "12 core 0 slice 1 1 fired 0 ran 3 quantum clock 195"
    ∷ "13 core 0 slice 1 1 fired 0 ran 3 quantum clock 198"
    ∷ "14 core 1 slice 0 0 fired 0 ran 2 call copy clock 17"
    ∷ "15 core 1 slice 0 0 fired 0 ran 0 call copy clock 18"
    ∷ "16 core 1 slice 0 0 fired 0 ran 0 call give clock 19"
    ∷ "17 core 0 slice 1 1 fired 0 ran 3 quantum clock 201"
    ∷ "18 core 1 slice 0 0 fired 0 ran 0 call csend clock 20"
    ∷ "19 core 1 slice 0 0 fired 0 ran 0 hold crecv clock 21"
    ∷ "20 core 0 slice 1 1 fired 0 ran 3 quantum clock 204"
    ∷ "21 core 0 slice 1 1 fired 0 ran 3 quantum clock 207"
    ∷ "22 core 0 wake 1 0"
    ∷ "23 core 0 slice 1 0 fired 0 ran 0 call crecv clock 208"
    ∷ "24 core 0 slice 1 0 fired 0 ran 0 call claim clock 209"
    ∷ "25 core 0 slice 1 0 fired 0 ran 0 call bind clock 210"
    ∷ "26 core 0 slice 1 0 fired 0 ran 0 hold wait clock 211"
    ∷ "27 core 0 slice 1 1 fired 0 ran 3 quantum clock 214"
    ∷ "report"
    ∷ "core 0 on edf clock 214 home 1 share 1 used 16"
    ∷ "core 1 on edf clock 21 home 0 share 0 used 12"
    ∷ "block 0 core 1 time 21 armed 0"
    ∷ "disp 0 0 wait crecv 0 place 6 due 110"
    ∷ "disp 0 1 trap 2 place 5 due 7"
    ∷ "disp 0 2 trap 8 place 7 due 4"
    ∷ "disp 0 3 wait crecv 0 place 0 due 65535"
    ∷ "ready 0 -"
    ∷ "cap 0 0 port 0 rights 7 parent -"
    ∷ "cap 0 3 frame 4 8 rights 7 parent -"
    ∷ "cap 0 4 signal 2 rights 7 parent -"
    ∷ "cap 0 7 signal 1 rights 7 parent -"
    ∷ "cap 0 8 signal 1 rights 7 parent -"
    ∷ "cap 0 9 sendend 1 rights 7 parent -"
    ∷ "cap 0 10 port 1 rights 7 parent -"
    ∷ "cap 0 11 recvend 2 rights 7 parent -"
    ∷ "cap 0 12 signal 0 rights 7 parent -"
    ∷ "cap 0 13 recvend 0 rights 7 parent -"
    ∷ "cap 0 15 frame 0 8 rights 7 parent -"
    ∷ "cap 0 17 recvend 3 rights 7 parent -"
    ∷ "cap 0 18 port 0 rights 7 parent -"
    ∷ "cap 0 19 port 1 rights 7 parent -"
    ∷ "cap 0 21 ram 100 100 rights 7 parent -"
    ∷ "cap 0 22 frame 0 16 rights 7 parent -"
    ∷ "cap 0 23 frame 40 16 rights 7 parent -"
    ∷ "cap 0 25 recvend 0 rights 7 parent -"
    ∷ "cap 0 27 signal 1 rights 7 parent -"
    ∷ "cap 0 28 sendend 1 rights 1 parent -"
    ∷ "cap 0 30 signal 0 rights 7 parent -"
    ∷ "cap 0 31 signal 2 rights 3 parent -"
    ∷ "cap 0 35 recvend 3 rights 7 parent -"
    ∷ "cap 0 36 signal 0 rights 7 parent -"
    ∷ "cap 0 37 recvend 2 rights 7 parent -"
    ∷ "cap 0 40 signal 2 rights 7 parent -"
    ∷ "cap 0 42 frame 16 3 rights 7 parent -"
    ∷ "cap 0 43 recvend 0 rights 7 parent -"
    ∷ "cap 0 44 sendend 1 rights 7 parent -"
    ∷ "cap 0 45 port 0 rights 7 parent -"
    ∷ "cap 0 46 ram 100 1000 rights 7 parent -"
    ∷ "cap 0 47 port 1 rights 7 parent -"
    ∷ "cap 0 48 port 1 rights 7 parent -"
    ∷ "cap 0 50 signal 1 rights 7 parent -"
    ∷ "cap 0 51 signal 0 rights 7 parent -"
    ∷ "cap 0 52 signal 2 rights 7 parent -"
    ∷ "cap 0 54 frame 4088 8 rights 7 parent -"
    ∷ "cap 0 55 port 0 rights 7 parent -"
    ∷ "cap 0 59 recvend 3 rights 7 parent -"
    ∷ "cap 0 60 recvend 0 rights 7 parent -"
    ∷ "cap 0 61 sendend 1 rights 7 parent -"
    ∷ "cap 0 62 recvend 2 rights 7 parent -"
    ∷ "block 1 core 0 time 35 armed 0"
    ∷ "disp 1 0 wait signal 2 place 3 due 5"
    ∷ "disp 1 1 ready place 0 due 102"
    ∷ "ready 1 1"
    ∷ "cap 1 0 sendend 3 rights 7 parent -"
    ∷ "cap 1 1 line 0 rights 7 parent -"
    ∷ "cap 1 2 ram 1383 100 rights 7 parent -"
    ∷ "cap 1 3 frame 4088 8 rights 7 parent -"
    ∷ "cap 1 4 signal 2 rights 7 parent -"
    ∷ "cap 1 5 recvend 1 rights 7 parent -"
    ∷ "cap 1 7 signal 2 rights 7 parent -"
    ∷ "cap 1 8 signal 0 rights 7 parent -"
    ∷ "cap 1 11 recvend 1 rights 7 parent -"
    ∷ "cap 1 12 frame 0 8 rights 7 parent -"
    ∷ "cap 1 13 sendend 2 rights 7 parent -"
    ∷ "cap 1 15 sendend 0 rights 7 parent -"
    ∷ "cap 1 16 signal 2 rights 7 parent -"
    ∷ "cap 1 17 signal 0 rights 7 parent -"
    ∷ "cap 1 20 signal 1 rights 7 parent -"
    ∷ "cap 1 21 sendend 0 rights 7 parent -"
    ∷ "cap 1 25 recvend 1 rights 7 parent -"
    ∷ "cap 1 27 frame 4088 8 rights 7 parent -"
    ∷ "cap 1 29 sendend 2 rights 7 parent -"
    ∷ "cap 1 30 ram 100 64 rights 7 parent -"
    ∷ "channel 0 sent 0 taken 0"
    ∷ "channel 1 sent 1 taken 1"
    ∷ "channel 2 sent 0 taken 0"
    ∷ "channel 3 sent 0 taken 0"
    ∷ "line 0 to 1 2 route 0 raised 0 stray 0 pending 0 merged 0 latched 0 joined 0 delivered 0"
    ∷ "skipped 12"
    ∷ "end"
    ∷ [])

is_played : played image script schedule ≡ record {
  journal = journal;
  skipped = 12;
  reasons =
      Some why.ScriptEnded ∷ Some why.ScriptEnded ∷ Some why.ScriptEnded ∷ Some why.NoOrder ∷ Some why.ScriptEnded ∷ Some why.NotPending
      ∷ Some (why.NotHere (record { 0 = 1 })) ∷ Some why.NoOrder ∷ Some why.ScriptEnded ∷ Some why.NoRaise ∷ Some why.ScriptEnded ∷ Some why.StillWaits ∷ [];
  report = report;
  text = text;
  again = journal;
}
unfolding machine_with_cores whole_texts
is_played = refl

is_judged : judged image script journal ≡ record { is_run = true; shown = Some (all_shown_by report) }
unfolding machine_of_blocks
is_judged = refl

-- each entry touches what the table says
is_tabled : tabled image script schedule ≡ true
unfolding machine_with_cores
is_tabled = refl

-- each block is reported once, on the core that holds it or at rest
is_none_lost : blocks_reported report ≡ blocks_held (image_origin image script) journal
unfolding machine_of_blocks
is_none_lost = refl

-- the journal has told what the state shows
is_told : option_map facts_told (run image script journal)
    ≡ option_map (facts_of (core_run image script schedule).state) (run image script journal)
unfolding machine_with_cores machine_of_blocks
is_told = refl

-- journals that are changed, and the first bad entry of each
are_changed : first_bads image script (
    lines_swapped 8 journal
    ∷ with_line 12 (texts.slice 0 1 1 0 3 end.Quantum 196) journal
    ∷ with_line 7 (texts.slice 2 0 2 0 0 (end.Call op.Delete) 11) journal
    ∷ [])
    ≡ None ∷ Some 12 ∷ Some 7 ∷ []
unfolding machine_of_blocks
are_changed = refl
