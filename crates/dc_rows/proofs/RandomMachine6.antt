-- A random machine, of seed 20022.
-- Made by tools/worked_examples.py from examples/RandomMachine6.
use Rattle.std.specs.Prelude.{◌≡◌, ℕ, List, [], ◌∷◌, refl, true, None, Some}
use Rattle.std.specs.Option.{option_map}
use Rattle.dc_base.specs.declared.images.Image.{Image}
use Rattle.dc_base.specs.declared.kernels.Version.TheVariants.{Edf}
use Rattle.dc_base.specs.declared.kernels.Clocks.TheVariants.{Kept}
use Rattle.dc_base.specs.declared.actions.Actor.{Actor}
use Rattle.dc_base.specs.declared.actions.Action.{Action}
use Rattle.dc_base.specs.declared.calls.Op.TheVariants as op
use Rattle.dc_base.specs.declared.calls.End.TheVariants as end
use Rattle.dc_base.specs.declared.commands.ScriptLine.{ScriptLine}
use Rattle.dc_base.specs.declared.entries.Entry.{Entry}
use Rattle.dc_base.specs.declared.entries.Reason.TheVariants as why
use Rattle.dc_base.specs.declared.reports.ReportLine.{ReportLine}
use Rattle.dc_base.specs.declared.dispatchers.DispState.TheVariants as state
use Rattle.dc_base.specs.Runs.{run}
use Rattle.dc_base.specs.CoreRuns.{core_run}
use Rattle.dc_base.specs.Origins.{image_origin}
use Rattle.dc_base.specs.Shown.{all_shown_by}
use Rattle.dc_base.specs.Headline.{blocks_reported, blocks_held}
use Rattle.dc_rows.specs.Computed.{machine_of_blocks, machine_with_cores, whole_texts}
use Rattle.dc_rows.specs.Facts.{facts_told, facts_of}
use Rattle.dc_rows.specs.Images as image_of
use Rattle.dc_rows.specs.Orders as order
use Rattle.dc_rows.specs.Played.{played, judged, first_bads}
use Rattle.dc_rows.specs.Reports as report_line
use Rattle.dc_rows.specs.Scripts as script_line
use Rattle.dc_rows.specs.Tabled.{tabled}
use Rattle.dc_rows.specs.Texts as texts
use Rattle.dc_rows.specs.WrongJournals.{with_line, lines_swapped}

abbrev image : Image
image = record {
  format = 1;
  clocks = Kept;
  quantum = 1;
  slices = 1000;
  lines = 3;
  cores =
      image_of.core_off 1099511627776 ∷ image_of.core 0 Edf ∷ [];
  blocks =
      record {
        home = image_of.home 1;
        memory =
            7 ∷ 1 ∷ 4294967295 ∷ 2 ∷ 4294967295 ∷ 0 ∷ 1 ∷ 7 ∷ [];
        ports = 3;
        signals = 1;
        disps =
            record {
              code =
                  745865216  -- bind s7 s5
                  ∷ 679411719  -- copy s7 s15 7
                  ∷ 318767104  -- nop
                  ∷ 318767104  -- nop
                  ∷ 318767104  -- nop
                  ∷ 318767104  -- nop
                  ∷ 318767104  -- nop
                  ∷ 759627776  -- give s4 s7
                  ∷ 609091584  -- csend s4 s14 0
                  ∷ 17825832  -- li r1 40
                  ∷ 288423936  -- st r3 r1 0
                  ∷ 611188736  -- csend s6 s14 0
                  ∷ 536870912  -- out r0
                  ∷ 571342848  -- send s0 s14 0
                  ∷ 17825793  -- li r1 1
                  ∷ 659685375  -- arm s5 r1 65535
                  ∷ 680329217  -- copy s8 s13 1
                  ∷ 685703175  -- copy s13 s15 7
                  ∷ 718274560  -- delete s13
                  ∷ 588120064  -- recv s0 s14 0
                  ∷ 23069630  -- li r6 958
                  ∷ 24117252  -- li r7 4
                  ∷ 698417152  -- retype s10 s1 0
                  ∷ 23069630  -- li r6 958
                  ∷ 24117249  -- li r7 1
                  ∷ 698417153  -- retype s10 s1 1
                  ∷ [];
              period = 1;
              due = 4294967295;
              caps =
                  image_of.cap 11 (image_of.frame 16 8) 7 ∷ image_of.cap 5 (image_of.signal 0) 7 ∷ image_of.cap 7 (image_of.line 2) 7
                  ∷ image_of.cap 4 (image_of.sendend 5) 7 ∷ image_of.cap 14 (image_of.frame 40 4) 7 ∷ image_of.cap 10 (image_of.ram 2797 1000) 7
                  ∷ image_of.cap 0 (image_of.port 2) 6 ∷ image_of.cap 3 (image_of.signal 0) 4 ∷ image_of.cap 9 (image_of.sendend 5) 7
                  ∷ image_of.cap 6 (image_of.sendend 8) 7 ∷ image_of.cap 12 (image_of.recvend 3) 7 ∷ image_of.cap 8 (image_of.recvend 4) 7 ∷ [];
            }
            ∷ record {
              code =
                  17825812  -- li r1 20
                  ∷ 661716992  -- arm s7 r1 0
                  ∷ 251658240  -- jmp 0
                  ∷ [];
              period = 65535;
              due = 0;
              caps =
                  image_of.cap 10 (image_of.frame 4088 4) 7 ∷ image_of.cap 6 (image_of.port 0) 7 ∷ image_of.cap 13 (image_of.port 1) 7
                  ∷ image_of.cap 5 (image_of.port 2) 7 ∷ image_of.cap 7 (image_of.signal 0) 7 ∷ image_of.cap 9 (image_of.sendend 5) 7
                  ∷ image_of.cap 1 (image_of.sendend 8) 7 ∷ image_of.cap 4 (image_of.recvend 0) 7 ∷ image_of.cap 2 (image_of.recvend 3) 7
                  ∷ image_of.cap 15 (image_of.recvend 4) 7 ∷ image_of.cap 3 (image_of.recvend 6) 7 ∷ image_of.cap 0 (image_of.recvend 7) 7 ∷ [];
            }
            ∷ record {
              code =
                  22020106  -- li r5 10
                  ∷ 16777226  -- li r0 10
                  ∷ 17826292  -- li r1 500
                  ∷ 622592002  -- crecv s1 s12 2
                  ∷ 335544320  -- halt
                  ∷ [];
              period = 1;
              due = 5;
              caps =
                  image_of.cap 12 (image_of.frame 8 8) 7 ∷ image_of.cap 2 (image_of.ram 100 1000) 7 ∷ image_of.cap 13 (image_of.port 0) 7
                  ∷ image_of.cap 9 (image_of.port 1) 7 ∷ image_of.cap 3 (image_of.port 2) 7 ∷ image_of.cap 10 (image_of.signal 0) 7
                  ∷ image_of.cap 5 (image_of.sendend 5) 7 ∷ image_of.cap 14 (image_of.sendend 8) 7 ∷ image_of.cap 0 (image_of.recvend 0) 7
                  ∷ image_of.cap 11 (image_of.recvend 3) 7 ∷ image_of.cap 7 (image_of.recvend 4) 7 ∷ image_of.cap 1 (image_of.recvend 6) 7 ∷ [];
            }
            ∷ [];
      }
      ∷ record {
        home = None;
        memory =
            0 ∷ 534 ∷ 4294967295 ∷ 4294967295 ∷ 528 ∷ 4294967295 ∷ 0 ∷ 187 ∷ 791 ∷ 7 ∷ 0 ∷ 7 ∷ 2 ∷ 0 ∷ 436 ∷ 7 ∷ 1 ∷ 4294967295 ∷ 1 ∷ [];
        ports = 1;
        signals = 2;
        disps =
            record {
              code =
                  19923444  -- li r3 500
                  ∷ 626589696  -- crecv s5 s9 0
                  ∷ 784400386  -- claim s12 s1 2
                  ∷ 777060354  -- claim s5 s1 2
                  ∷ 739901440  -- bind s1 s10
                  ∷ 761331712  -- give s6 s1
                  ∷ 221577224  -- bne r3 r5 8
                  ∷ 70582272  -- add r3 r5
                  ∷ 553648128  -- yield
                  ∷ 335544320  -- halt
                  ∷ [];
              period = 1;
              due = 47;
              caps =
                  image_of.cap 9 (image_of.frame 16 8) 7 ∷ image_of.cap 10 (image_of.signal 1) 7 ∷ image_of.cap 5 (image_of.recvend 5) 7
                  ∷ image_of.cap 13 (image_of.frame 0 3) 7 ∷ image_of.cap 15 (image_of.ram 0 64) 7 ∷ image_of.cap 0 (image_of.port 0) 7
                  ∷ image_of.cap 2 (image_of.signal 0) 7 ∷ image_of.cap 8 (image_of.sendend 0) 7 ∷ image_of.cap 6 (image_of.sendend 3) 7
                  ∷ image_of.cap 14 (image_of.sendend 4) 7 ∷ image_of.cap 12 (image_of.recvend 1) 7 ∷ image_of.cap 11 (image_of.recvend 5) 7 ∷ [];
            }
            ∷ record {
              code =
                  540016640  -- out r3
                  ∷ 673841169  -- copy s2 s10 17
                  ∷ 622198784  -- crecv s1 s6 0
                  ∷ 625344512  -- crecv s4 s6 0
                  ∷ 335544320  -- halt
                  ∷ [];
              period = 3;
              due = 1;
              caps =
                  image_of.cap 6 (image_of.frame 4 3) 7 ∷ image_of.cap 3 (image_of.ram 176 64) 7 ∷ image_of.cap 15 (image_of.port 0) 5
                  ∷ image_of.cap 2 (image_of.signal 0) 7 ∷ image_of.cap 12 (image_of.signal 1) 7 ∷ image_of.cap 9 (image_of.sendend 0) 7
                  ∷ image_of.cap 13 (image_of.sendend 3) 7 ∷ image_of.cap 7 (image_of.sendend 4) 7 ∷ image_of.cap 4 (image_of.recvend 1) 7
                  ∷ image_of.cap 1 (image_of.recvend 8) 7 ∷ [];
            }
            ∷ record {
              code =
                  251658240  -- jmp 0
                  ∷ [];
              period = 42;
              due = 0;
              caps =
                  image_of.cap 3 (image_of.frame 40 8) 7 ∷ image_of.cap 13 (image_of.frame 1608 8) 7 ∷ image_of.cap 5 (image_of.port 0) 0
                  ∷ image_of.cap 8 (image_of.signal 0) 7 ∷ image_of.cap 0 (image_of.signal 1) 7 ∷ image_of.cap 4 (image_of.sendend 0) 7
                  ∷ image_of.cap 10 (image_of.sendend 3) 7 ∷ image_of.cap 1 (image_of.sendend 4) 7 ∷ image_of.cap 12 (image_of.recvend 1) 7
                  ∷ image_of.cap 9 (image_of.recvend 5) 7 ∷ [];
            }
            ∷ [];
      }
      ∷ record {
        home = None;
        memory = [];
        ports = 1;
        signals = 1;
        disps =
            record {
              code =
                  17825892  -- li r1 100
                  ∷ 663814148  -- arm s9 r1 4
                  ∷ 647102464  -- wait s9 r2
                  ∷ 538968064  -- out r2
                  ∷ 17825792  -- li r1 0
                  ∷ 663814644  -- arm s9 r1 500
                  ∷ 647102464  -- wait s9 r2
                  ∷ 538968064  -- out r2
                  ∷ 17825812  -- li r1 20
                  ∷ 663814147  -- arm s9 r1 3
                  ∷ 647102464  -- wait s9 r2
                  ∷ 538968064  -- out r2
                  ∷ 251658240  -- jmp 0
                  ∷ [];
              period = 1;
              due = 0;
              caps =
                  image_of.cap 13 (image_of.frame 16 16) 7 ∷ image_of.cap 4 (image_of.frame 16 8) 7 ∷ image_of.cap 10 (image_of.ram 0 100) 7
                  ∷ image_of.cap 9 (image_of.signal 0) 7 ∷ image_of.cap 15 (image_of.sendend 1) 7 ∷ image_of.cap 7 (image_of.sendend 6) 7
                  ∷ image_of.cap 5 (image_of.sendend 7) 7 ∷ [];
            }
            ∷ record {
              code =
                  19922960  -- li r3 16
                  ∷ 289603584  -- st r4 r3 0
                  ∷ 611713024  -- csend s7 s6 0
                  ∷ 541065216  -- out r4
                  ∷ 553648128  -- yield
                  ∷ 17826792  -- li r1 1000
                  ∷ 665911305  -- arm s11 r1 9
                  ∷ 251658240  -- jmp 0
                  ∷ [];
              period = 1;
              due = 100;
              caps =
                  image_of.cap 6 (image_of.frame 16 4) 2 ∷ image_of.cap 15 (image_of.ram 100 3996) 7 ∷ image_of.cap 2 (image_of.port 0) 7
                  ∷ image_of.cap 11 (image_of.signal 0) 7 ∷ image_of.cap 5 (image_of.sendend 1) 7 ∷ image_of.cap 1 (image_of.sendend 2) 7
                  ∷ image_of.cap 9 (image_of.sendend 6) 7 ∷ image_of.cap 7 (image_of.sendend 7) 7 ∷ [];
            }
            ∷ [];
      }
      ∷ record {
        home = None;
        memory = [];
        ports = 2;
        signals = 1;
        disps =
            record {
              code =
                  16777216  -- li r0 0
                  ∷ 20971530  -- li r4 10
                  ∷ 17825793  -- li r1 1
                  ∷ 659620340  -- arm s5 r1 500
                  ∷ 642908160  -- wait s5 r2
                  ∷ 538968064  -- out r2
                  ∷ 34668543  -- lih r1 65535
                  ∷ 665911305  -- arm s11 r1 9
                  ∷ 537919488  -- out r1
                  ∷ 17825812  -- li r1 20
                  ∷ 665911305  -- arm s11 r1 9
                  ∷ 17826792  -- li r1 1000
                  ∷ 665911296  -- arm s11 r1 0
                  ∷ 19926944  -- li r3 4000
                  ∷ 289603584  -- st r4 r3 0
                  ∷ 251658242  -- jmp 2
                  ∷ [];
              period = 1;
              due = 0;
              caps =
                  image_of.cap 9 (image_of.frame 8 16) 7 ∷ image_of.cap 10 (image_of.frame 858 3) 7 ∷ image_of.cap 2 (image_of.ram 2381 1715) 3
                  ∷ image_of.cap 0 (image_of.port 0) 7 ∷ image_of.cap 6 (image_of.port 1) 7 ∷ image_of.cap 11 (image_of.signal 0) 7
                  ∷ image_of.cap 12 (image_of.recvend 2) 7 ∷ image_of.cap 3 (image_of.line 0) 7 ∷ image_of.cap 1 (image_of.line 1) 7 ∷ [];
            }
            ∷ record {
              code =
                  740098048  -- bind s1 s13
                  ∷ 651296768  -- wait s13 r2
                  ∷ 538968064  -- out r2
                  ∷ 600768512  -- recv s12 s15 0
                  ∷ 186843136  -- shr r2 r3
                  ∷ 251658243  -- jmp 3
                  ∷ [];
              period = 1;
              due = 0;
              caps =
                  image_of.cap 6 (image_of.frame 16 8) 7 ∷ image_of.cap 15 (image_of.frame 8 3) 7 ∷ image_of.cap 12 (image_of.port 1) 7
                  ∷ image_of.cap 13 (image_of.signal 0) 7 ∷ image_of.cap 14 (image_of.recvend 2) 7 ∷ image_of.cap 11 (image_of.line 0) 7
                  ∷ image_of.cap 1 (image_of.line 1) 7 ∷ [];
            }
            ∷ record {
              code =
                  589824000  -- recv s2 s8 0
                  ∷ 581435392  -- send s10 s8 0
                  ∷ 251658240  -- jmp 0
                  ∷ [];
              period = 86;
              due = 0;
              caps =
                  image_of.cap 8 (image_of.frame 432 4) 7 ∷ image_of.cap 3 (image_of.ram 0 4096) 7 ∷ image_of.cap 2 (image_of.port 0) 7
                  ∷ image_of.cap 10 (image_of.port 1) 7 ∷ image_of.cap 6 (image_of.signal 0) 7 ∷ image_of.cap 13 (image_of.line 0) 7
                  ∷ image_of.cap 12 (image_of.line 1) 7 ∷ [];
            }
            ∷ record {
              code =
                  17826292  -- li r1 500
                  ∷ 20971520  -- li r4 0
                  ∷ 19922954  -- li r3 10
                  ∷ 754778112  -- bind s15 s13
                  ∷ 593952768  -- recv s6 s7 0
                  ∷ 17825793  -- li r1 1
                  ∷ 668008452  -- arm s13 r1 4
                  ∷ 651296768  -- wait s13 r2
                  ∷ 538968064  -- out r2
                  ∷ 577503232  -- send s6 s12 0
                  ∷ 16777220  -- li r0 4
                  ∷ 290455552  -- st r5 r0 0
                  ∷ 577503232  -- send s6 s12 0
                  ∷ 20971524  -- li r4 4
                  ∷ 288620544  -- st r3 r4 0
                  ∷ 577503232  -- send s6 s12 0
                  ∷ 251658244  -- jmp 4
                  ∷ [];
              period = 25;
              due = 0;
              caps =
                  image_of.cap 4 (image_of.frame 508 3) 7 ∷ image_of.cap 12 (image_of.frame 4 3) 7 ∷ image_of.cap 3 (image_of.ram 100 3996) 7
                  ∷ image_of.cap 6 (image_of.port 1) 7 ∷ image_of.cap 13 (image_of.signal 0) 7 ∷ image_of.cap 11 (image_of.recvend 2) 7
                  ∷ image_of.cap 1 (image_of.line 0) 7 ∷ image_of.cap 15 (image_of.line 1) 7 ∷ [];
            }
            ∷ [];
      }
      ∷ [];
  channels =
      image_of.channel 1 0 2 ∷ image_of.channel 2 1 4 ∷ image_of.channel 2 3 4 ∷ image_of.channel 1 0 2 ∷ image_of.channel 1 0 1 ∷ image_of.channel 0 1 1
      ∷ image_of.channel 2 0 1 ∷ image_of.channel 2 0 1 ∷ image_of.channel 0 1 1 ∷ [];
}

abbrev script : List ScriptLine
script =
    script_line.raise 1 ∷ script_line.raise 1 ∷ script_line.raise 1 ∷ script_line.await 1 0 50 ∷ []

abbrev schedule : List (Actor × Action)
schedule =
    texts.step 1 ∷ texts.wake 0 0 1 ∷ texts.script ∷ texts.script ∷ texts.step 1 ∷ texts.intake 0 1 ∷ texts.intake 1 1 ∷ texts.step 1 ∷ texts.step 1
    ∷ texts.step 1 ∷ texts.intake 0 1 ∷ texts.step 1 ∷ texts.raise ∷ texts.intake 0 1 ∷ texts.intake 0 1 ∷ texts.step 1 ∷ texts.step 1 ∷ texts.raise
    ∷ texts.step 1 ∷ texts.order 0 ∷ texts.step 0 ∷ texts.step 1 ∷ texts.intake 0 0 ∷ texts.order 0 ∷ texts.wake 0 2 0 ∷ texts.step 1 ∷ texts.script
    ∷ texts.step 1 ∷ texts.script ∷ texts.raise ∷ texts.step 1 ∷ texts.step 1 ∷ texts.raise ∷ texts.script ∷ texts.step 0 ∷ texts.intake 0 0
    ∷ texts.intake 0 2 ∷ texts.step 1 ∷ texts.step 1 ∷ texts.step 1 ∷ []

abbrev journal : List Entry
journal =
    texts.slice 1 0 1 0 1 (end.Call op.Arm) 2
    ∷ texts.slice 1 0 2 0 1 end.Quantum 3
    ∷ texts.slice 1 0 2 0 1 end.Quantum 4
    ∷ texts.slice 1 0 2 0 1 (end.Hold op.Crecv) 5
    ∷ texts.slice 1 0 1 0 1 end.Quantum 6
    ∷ texts.slice 1 0 1 0 1 (end.Call op.Arm) 8
    ∷ texts.raised 0 1 (order.stray 1)
    ∷ texts.slice 1 0 1 0 1 end.Quantum 9
    ∷ texts.slice 1 0 1 0 1 (end.Call op.Arm) 11
    ∷ texts.raised 1 1 (order.stray 2)
    ∷ texts.slice 1 0 1 0 1 end.Quantum 12
    ∷ texts.slice 1 0 1 0 1 (end.Call op.Arm) 14
    ∷ texts.slice 1 0 1 0 1 end.Quantum 15
    ∷ texts.slice 1 0 1 0 1 (end.Call op.Arm) 17
    ∷ texts.raised 2 1 (order.stray 3)
    ∷ texts.slice 1 0 1 0 1 end.Quantum 18
    ∷ texts.slice 1 0 1 0 1 (end.Call op.Arm) 20
    ∷ texts.met 3 1 0
    ∷ texts.slice 1 0 1 1 1 end.Quantum 21
    ∷ texts.slice 1 0 1 0 1 (end.Call op.Arm) 23
    ∷ texts.slice 1 0 1 0 1 end.Quantum 24
    ∷ []

abbrev report : List ReportLine
report =
    report_line.core_off 0 1099511627776 0
    ∷ report_line.core_on 1 Edf 24 (Some 0) (0 ∷ []) 17
    ∷ report_line.block 0 (Some 1) 24 6
    ∷ report_line.disp 0 0 state.Ready 0 4294967295
    ∷ report_line.disp 0 1 state.Ready 0 917490
    ∷ report_line.disp 0 2 (report_line.waits_crecv 6) 3 8
    ∷ report_line.ready 0 (0 ∷ 1 ∷ [])
    ∷ report_line.cap 0 0 (image_of.port 2) 6 None
    ∷ report_line.cap 0 3 (image_of.signal 0) 4 None
    ∷ report_line.cap 0 4 (image_of.sendend 5) 7 None
    ∷ report_line.cap 0 5 (image_of.signal 0) 7 None
    ∷ report_line.cap 0 6 (image_of.sendend 8) 7 None
    ∷ report_line.cap 0 7 (image_of.line 2) 7 None
    ∷ report_line.cap 0 8 (image_of.recvend 4) 7 None
    ∷ report_line.cap 0 9 (image_of.sendend 5) 7 None
    ∷ report_line.cap 0 10 (image_of.ram 2797 1000) 7 None
    ∷ report_line.cap 0 11 (image_of.frame 16 8) 7 None
    ∷ report_line.cap 0 12 (image_of.recvend 3) 7 None
    ∷ report_line.cap 0 14 (image_of.frame 40 4) 7 None
    ∷ report_line.cap 0 16 (image_of.recvend 7) 7 None
    ∷ report_line.cap 0 17 (image_of.sendend 8) 7 None
    ∷ report_line.cap 0 18 (image_of.recvend 3) 7 None
    ∷ report_line.cap 0 19 (image_of.recvend 6) 7 None
    ∷ report_line.cap 0 20 (image_of.recvend 0) 7 None
    ∷ report_line.cap 0 21 (image_of.port 2) 7 None
    ∷ report_line.cap 0 22 (image_of.port 0) 7 None
    ∷ report_line.cap 0 23 (image_of.signal 0) 7 None
    ∷ report_line.cap 0 25 (image_of.sendend 5) 7 None
    ∷ report_line.cap 0 26 (image_of.frame 4088 4) 7 None
    ∷ report_line.cap 0 29 (image_of.port 1) 7 None
    ∷ report_line.cap 0 31 (image_of.recvend 4) 7 None
    ∷ report_line.cap 0 32 (image_of.recvend 0) 7 None
    ∷ report_line.cap 0 33 (image_of.recvend 6) 7 None
    ∷ report_line.cap 0 34 (image_of.ram 100 1000) 7 None
    ∷ report_line.cap 0 35 (image_of.port 2) 7 None
    ∷ report_line.cap 0 37 (image_of.sendend 5) 7 None
    ∷ report_line.cap 0 39 (image_of.recvend 4) 7 None
    ∷ report_line.cap 0 41 (image_of.port 1) 7 None
    ∷ report_line.cap 0 42 (image_of.signal 0) 7 None
    ∷ report_line.cap 0 43 (image_of.recvend 3) 7 None
    ∷ report_line.cap 0 44 (image_of.frame 8 8) 7 None
    ∷ report_line.cap 0 45 (image_of.port 0) 7 None
    ∷ report_line.cap 0 46 (image_of.sendend 8) 7 None
    ∷ report_line.timer 0 26 1 0 0
    ∷ report_line.timer 0 29 2 0 0
    ∷ report_line.timer 0 32 3 0 0
    ∷ report_line.timer 0 35 4 0 0
    ∷ report_line.timer 0 38 5 0 0
    ∷ report_line.timer 0 41 6 0 0
    ∷ report_line.signal 0 0 report_line.from_timer 0
    ∷ report_line.block 1 None 0 0
    ∷ report_line.disp 1 0 state.Ready 0 47
    ∷ report_line.disp 1 1 state.Ready 0 1
    ∷ report_line.disp 1 2 state.Ready 0 0
    ∷ report_line.ready 1 (0 ∷ 1 ∷ 2 ∷ [])
    ∷ report_line.cap 1 0 (image_of.port 0) 7 None
    ∷ report_line.cap 1 2 (image_of.signal 0) 7 None
    ∷ report_line.cap 1 5 (image_of.recvend 5) 7 None
    ∷ report_line.cap 1 6 (image_of.sendend 3) 7 None
    ∷ report_line.cap 1 8 (image_of.sendend 0) 7 None
    ∷ report_line.cap 1 9 (image_of.frame 16 8) 7 None
    ∷ report_line.cap 1 10 (image_of.signal 1) 7 None
    ∷ report_line.cap 1 11 (image_of.recvend 5) 7 None
    ∷ report_line.cap 1 12 (image_of.recvend 1) 7 None
    ∷ report_line.cap 1 13 (image_of.frame 0 3) 7 None
    ∷ report_line.cap 1 14 (image_of.sendend 4) 7 None
    ∷ report_line.cap 1 15 (image_of.ram 0 64) 7 None
    ∷ report_line.cap 1 17 (image_of.recvend 8) 7 None
    ∷ report_line.cap 1 18 (image_of.signal 0) 7 None
    ∷ report_line.cap 1 19 (image_of.ram 176 64) 7 None
    ∷ report_line.cap 1 20 (image_of.recvend 1) 7 None
    ∷ report_line.cap 1 22 (image_of.frame 4 3) 7 None
    ∷ report_line.cap 1 23 (image_of.sendend 4) 7 None
    ∷ report_line.cap 1 25 (image_of.sendend 0) 7 None
    ∷ report_line.cap 1 28 (image_of.signal 1) 7 None
    ∷ report_line.cap 1 29 (image_of.sendend 3) 7 None
    ∷ report_line.cap 1 31 (image_of.port 0) 5 None
    ∷ report_line.cap 1 32 (image_of.signal 1) 7 None
    ∷ report_line.cap 1 33 (image_of.sendend 4) 7 None
    ∷ report_line.cap 1 35 (image_of.frame 40 8) 7 None
    ∷ report_line.cap 1 36 (image_of.sendend 0) 7 None
    ∷ report_line.cap 1 37 (image_of.port 0) 0 None
    ∷ report_line.cap 1 40 (image_of.signal 0) 7 None
    ∷ report_line.cap 1 41 (image_of.recvend 5) 7 None
    ∷ report_line.cap 1 42 (image_of.sendend 3) 7 None
    ∷ report_line.cap 1 44 (image_of.recvend 1) 7 None
    ∷ report_line.cap 1 45 (image_of.frame 1608 8) 7 None
    ∷ report_line.block 2 None 0 0
    ∷ report_line.disp 2 0 state.Ready 0 0
    ∷ report_line.disp 2 1 state.Ready 0 100
    ∷ report_line.ready 2 (0 ∷ 1 ∷ [])
    ∷ report_line.cap 2 4 (image_of.frame 16 8) 7 None
    ∷ report_line.cap 2 5 (image_of.sendend 7) 7 None
    ∷ report_line.cap 2 7 (image_of.sendend 6) 7 None
    ∷ report_line.cap 2 9 (image_of.signal 0) 7 None
    ∷ report_line.cap 2 10 (image_of.ram 0 100) 7 None
    ∷ report_line.cap 2 13 (image_of.frame 16 16) 7 None
    ∷ report_line.cap 2 15 (image_of.sendend 1) 7 None
    ∷ report_line.cap 2 17 (image_of.sendend 2) 7 None
    ∷ report_line.cap 2 18 (image_of.port 0) 7 None
    ∷ report_line.cap 2 21 (image_of.sendend 1) 7 None
    ∷ report_line.cap 2 22 (image_of.frame 16 4) 2 None
    ∷ report_line.cap 2 23 (image_of.sendend 7) 7 None
    ∷ report_line.cap 2 25 (image_of.sendend 6) 7 None
    ∷ report_line.cap 2 27 (image_of.signal 0) 7 None
    ∷ report_line.cap 2 31 (image_of.ram 100 3996) 7 None
    ∷ report_line.block 3 None 0 0
    ∷ report_line.disp 3 0 state.Ready 0 0
    ∷ report_line.disp 3 1 state.Ready 0 0
    ∷ report_line.disp 3 2 state.Ready 0 0
    ∷ report_line.disp 3 3 state.Ready 0 0
    ∷ report_line.ready 3 (0 ∷ 1 ∷ 2 ∷ 3 ∷ [])
    ∷ report_line.cap 3 0 (image_of.port 0) 7 None
    ∷ report_line.cap 3 1 (image_of.line 1) 7 None
    ∷ report_line.cap 3 2 (image_of.ram 2381 1715) 3 None
    ∷ report_line.cap 3 3 (image_of.line 0) 7 None
    ∷ report_line.cap 3 6 (image_of.port 1) 7 None
    ∷ report_line.cap 3 9 (image_of.frame 8 16) 7 None
    ∷ report_line.cap 3 10 (image_of.frame 858 3) 7 None
    ∷ report_line.cap 3 11 (image_of.signal 0) 7 None
    ∷ report_line.cap 3 12 (image_of.recvend 2) 7 None
    ∷ report_line.cap 3 17 (image_of.line 1) 7 None
    ∷ report_line.cap 3 22 (image_of.frame 16 8) 7 None
    ∷ report_line.cap 3 27 (image_of.line 0) 7 None
    ∷ report_line.cap 3 28 (image_of.port 1) 7 None
    ∷ report_line.cap 3 29 (image_of.signal 0) 7 None
    ∷ report_line.cap 3 30 (image_of.recvend 2) 7 None
    ∷ report_line.cap 3 31 (image_of.frame 8 3) 7 None
    ∷ report_line.cap 3 34 (image_of.port 0) 7 None
    ∷ report_line.cap 3 35 (image_of.ram 0 4096) 7 None
    ∷ report_line.cap 3 38 (image_of.signal 0) 7 None
    ∷ report_line.cap 3 40 (image_of.frame 432 4) 7 None
    ∷ report_line.cap 3 42 (image_of.port 1) 7 None
    ∷ report_line.cap 3 44 (image_of.line 1) 7 None
    ∷ report_line.cap 3 45 (image_of.line 0) 7 None
    ∷ report_line.cap 3 49 (image_of.line 0) 7 None
    ∷ report_line.cap 3 51 (image_of.ram 100 3996) 7 None
    ∷ report_line.cap 3 52 (image_of.frame 508 3) 7 None
    ∷ report_line.cap 3 54 (image_of.port 1) 7 None
    ∷ report_line.cap 3 59 (image_of.recvend 2) 7 None
    ∷ report_line.cap 3 60 (image_of.frame 4 3) 7 None
    ∷ report_line.cap 3 61 (image_of.signal 0) 7 None
    ∷ report_line.cap 3 63 (image_of.line 1) 7 None
    ∷ report_line.channel 0 0 0
    ∷ report_line.channel 1 0 0
    ∷ report_line.channel 2 0 0
    ∷ report_line.channel 3 0 0
    ∷ report_line.channel 4 0 0
    ∷ report_line.channel 5 0 0
    ∷ report_line.channel 6 0 0
    ∷ report_line.channel 7 0 0
    ∷ report_line.channel 8 0 0
    ∷ report_line.wire 0 None None 0 0 0 0 0 0 0
    ∷ report_line.wire 1 None None 3 3 0 0 0 0 0
    ∷ report_line.wire 2 None None 0 0 0 0 0 0 0
    ∷ []

abbrev text : List ℕ
text = texts.lines (
    "0 core 1 slice 0 1 fired 0 ran 1 call arm clock 2"
    ∷ "1 core 1 slice 0 2 fired 0 ran 1 quantum clock 3"
    ∷ "2 core 1 slice 0 2 fired 0 ran 1 quantum clock 4"
    ∷ "3 core 1 slice 0 2 fired 0 ran 1 hold crecv clock 5"
    ∷ "4 core 1 slice 0 1 fired 0 ran 1 quantum clock 6"
    ∷ "5 core 1 slice 0 1 fired 0 ran 1 call arm clock 8"
    ∷ "6 script 0 raise 1 1 stray"
    ∷ "7 core 1 slice 0 1 fired 0 ran 1 quantum clock 9"
    ∷ "8 core 1 slice 0 1 fired 0 ran 1 call arm clock 11"
    ∷ "9 script 1 raise 1 2 stray"
    ∷ "10 core 1 slice 0 1 fired 0 ran 1 quantum clock 12"
    ∷ "11 core 1 slice 0 1 fired 0 ran 1 call arm clock 14"
    ∷ "12 core 1 slice 0 1 fired 0 ran 1 quantum clock 15"
    ∷ "13 core 1 slice 0 1 fired 0 ran 1 call arm clock 17"
    ∷ "14 script 2 raise 1 3 stray"
    ∷ "15 core 1 slice 0 1 fired 0 ran 1 quantum clock 18"
    ∷ "16 core 1 slice 0 1 fired 0 ran 1 call arm clock 20"
    ∷ "17 script 3 met 1 0"
    ∷ "18 core 1 slice 0 1 fired 1 ran 1 quantum clock 21"
    ∷ "19 core 1 slice 0 1 fired 0 ran 1 call arm clock 23"
    ∷ "20 core 1 slice 0 1 fired 0 ran 1 quantum clock 24"
    ∷ "report"
    ∷ "core 0 off clock 1099511627776 used 0"
    ∷ "core 1 on edf clock 24 home 0 share 0 used 17"
    ∷ "block 0 core 1 time 24 armed 6"
    ∷ "disp 0 0 ready place 0 due 4294967295"
    ∷ "disp 0 1 ready place 0 due 917490"
    ∷ "disp 0 2 wait crecv 6 place 3 due 8"
    ∷ "ready 0 0,1"
    ∷ "cap 0 0 port 2 rights 6 parent -"
    ∷ "cap 0 3 signal 0 rights 4 parent -"
    ∷ "cap 0 4 sendend 5 rights 7 parent -"
    ∷ "cap 0 5 signal 0 rights 7 parent -"
    ∷ "cap 0 6 sendend 8 rights 7 parent -"
    ∷ "cap 0 7 line 2 rights 7 parent -"
    ∷ "cap 0 8 recvend 4 rights 7 parent -"
    ∷ "cap 0 9 sendend 5 rights 7 parent -"
    ∷ "cap 0 10 ram 2797 1000 rights 7 parent -"
    ∷ "cap 0 11 frame 16 8 rights 7 parent -"
    ∷ "cap 0 12 recvend 3 rights 7 parent -"
    ∷ "cap 0 14 frame 40 4 rights 7 parent -"
    ∷ "cap 0 16 recvend 7 rights 7 parent -"
    ∷ "cap 0 17 sendend 8 rights 7 parent -"
    ∷ "cap 0 18 recvend 3 rights 7 parent -"
    ∷ "cap 0 19 recvend 6 rights 7 parent -"
    ∷ "cap 0 20 recvend 0 rights 7 parent -"
    ∷ "cap 0 21 port 2 rights 7 parent -"
    ∷ "cap 0 22 port 0 rights 7 parent -"
    ∷ "cap 0 23 signal 0 rights 7 parent -"
    ∷ "cap 0 25 sendend 5 rights 7 parent -"
    ∷ "cap 0 26 frame 4088 4 rights 7 parent -"
    ∷ "cap 0 29 port 1 rights 7 parent -"
    ∷ "cap 0 31 recvend 4 rights 7 parent -"
    ∷ "cap 0 32 recvend 0 rights 7 parent -"
    ∷ "cap 0 33 recvend 6 rights 7 parent -"
    ∷ "cap 0 34 ram 100 1000 rights 7 parent -"
    ∷ "cap 0 35 port 2 rights 7 parent -"
    ∷ "cap 0 37 sendend 5 rights 7 parent -"
    ∷ "cap 0 39 recvend 4 rights 7 parent -"
    ∷ "cap 0 41 port 1 rights 7 parent -"
    ∷ "cap 0 42 signal 0 rights 7 parent -"
    ∷ "cap 0 43 recvend 3 rights 7 parent -"
    ∷ "cap 0 44 frame 8 8 rights 7 parent -"
    ∷ "cap 0 45 port 0 rights 7 parent -"
    ∷ "cap 0 46 sendend 8 rights 7 parent -"
    ∷ "timer 0 26 1 0 0"
    ∷ "timer 0 29 2 0 0"
    ∷ "timer 0 32 3 0 0"
    ∷ "timer 0 35 4 0 0"
    ∷ "timer 0 38 5 0 0"
    ∷ "timer 0 41 6 0 0"
    ∷ "signal 0 0 timer 0"
    ∷ "block 1 rest time 0 armed 0"
    ∷ "disp 1 0 ready place 0 due 47"
    ∷ "disp 1 1 ready place 0 due 1"
    ∷ "disp 1 2 ready place 0 due 0"
    ∷ "ready 1 0,1,2"
    ∷ "cap 1 0 port 0 rights 7 parent -"
    ∷ "cap 1 2 signal 0 rights 7 parent -"
    ∷ "cap 1 5 recvend 5 rights 7 parent -"
    ∷ "cap 1 6 sendend 3 rights 7 parent -"
    ∷ "cap 1 8 sendend 0 rights 7 parent -"
    ∷ "cap 1 9 frame 16 8 rights 7 parent -"
    ∷ "cap 1 10 signal 1 rights 7 parent -"
    ∷ "cap 1 11 recvend 5 rights 7 parent -"
    ∷ "cap 1 12 recvend 1 rights 7 parent -"
    ∷ "cap 1 13 frame 0 3 rights 7 parent -"
    ∷ "cap 1 14 sendend 4 rights 7 parent -"
    ∷ "cap 1 15 ram 0 64 rights 7 parent -"
    ∷ "cap 1 17 recvend 8 rights 7 parent -"
    ∷ "cap 1 18 signal 0 rights 7 parent -"
    ∷ "cap 1 19 ram 176 64 rights 7 parent -"
    ∷ "cap 1 20 recvend 1 rights 7 parent -"
    ∷ "cap 1 22 frame 4 3 rights 7 parent -"
    ∷ "cap 1 23 sendend 4 rights 7 parent -"
    ∷ "cap 1 25 sendend 0 rights 7 parent -"
    ∷ "cap 1 28 signal 1 rights 7 parent -"
    ∷ "cap 1 29 sendend 3 rights 7 parent -"
    ∷ "cap 1 31 port 0 rights 5 parent -"
    ∷ "cap 1 32 signal 1 rights 7 parent -"
    ∷ "cap 1 33 sendend 4 rights 7 parent -"
    ∷ "cap 1 35 frame 40 8 rights 7 parent -"
    ∷ "cap 1 36 sendend 0 rights 7 parent -"
    ∷ "cap 1 37 port 0 rights 0 parent -"
    ∷ "cap 1 40 signal 0 rights 7 parent -"
    ∷ "cap 1 41 recvend 5 rights 7 parent -"
    ∷ "cap 1 42 sendend 3 rights 7 parent -"
    ∷ "cap 1 44 recvend 1 rights 7 parent -"
    ∷ "cap 1 45 frame 1608 8 rights 7 parent -"
    ∷ "block 2 rest time 0 armed 0"
    ∷ "disp 2 0 ready place 0 due 0"
    ∷ "disp 2 1 ready place 0 due 100"
    ∷ "ready 2 0,1"
    ∷ "cap 2 4 frame 16 8 rights 7 parent -"
    ∷ "cap 2 5 sendend 7 rights 7 parent -"
    ∷ "cap 2 7 sendend 6 rights 7 parent -"
    ∷ "cap 2 9 signal 0 rights 7 parent -"
    ∷ "cap 2 10 ram 0 100 rights 7 parent -"
    ∷ "cap 2 13 frame 16 16 rights 7 parent -"
    ∷ "cap 2 15 sendend 1 rights 7 parent -"
    ∷ "cap 2 17 sendend 2 rights 7 parent -"
    ∷ "cap 2 18 port 0 rights 7 parent -"
    ∷ "cap 2 21 sendend 1 rights 7 parent -"
    ∷ "cap 2 22 frame 16 4 rights 2 parent -"
    ∷ "cap 2 23 sendend 7 rights 7 parent -"
    ∷ "cap 2 25 sendend 6 rights 7 parent -"
    ∷ "cap 2 27 signal 0 rights 7 parent -"
    ∷ "cap 2 31 ram 100 3996 rights 7 parent -"
    ∷ "block 3 rest time 0 armed 0"
    ∷ "disp 3 0 ready place 0 due 0"
    ∷ "disp 3 1 ready place 0 due 0"
    ∷ "disp 3 2 ready place 0 due 0"
    ∷ "disp 3 3 ready place 0 due 0"
    ∷ "ready 3 0,1,2,3"
    ∷ "cap 3 0 port 0 rights 7 parent -"
    ∷ "cap 3 1 line 1 rights 7 parent -"
    ∷ "cap 3 2 ram 2381 1715 rights 3 parent -"
    ∷ "cap 3 3 line 0 rights 7 parent -"
    ∷ "cap 3 6 port 1 rights 7 parent -"
    ∷ "cap 3 9 frame 8 16 rights 7 parent -"
    ∷ "cap 3 10 frame 858 3 rights 7 parent -"
    ∷ "cap 3 11 signal 0 rights 7 parent -"
    ∷ "cap 3 12 recvend 2 rights 7 parent -"
    ∷ "cap 3 17 line 1 rights 7 parent -"
    ∷ "cap 3 22 frame 16 8 rights 7 parent -"
    ∷ "cap 3 27 line 0 rights 7 parent -"
    ∷ "cap 3 28 port 1 rights 7 parent -"
    ∷ "cap 3 29 signal 0 rights 7 parent -"
    ∷ "cap 3 30 recvend 2 rights 7 parent -"
    ∷ "cap 3 31 frame 8 3 rights 7 parent -"
    ∷ "cap 3 34 port 0 rights 7 parent -"
    ∷ "cap 3 35 ram 0 4096 rights 7 parent -"
    ∷ "cap 3 38 signal 0 rights 7 parent -"
    ∷ "cap 3 40 frame 432 4 rights 7 parent -"
    ∷ "cap 3 42 port 1 rights 7 parent -"
    ∷ "cap 3 44 line 1 rights 7 parent -"
    ∷ "cap 3 45 line 0 rights 7 parent -"
    ∷ "cap 3 49 line 0 rights 7 parent -"
    ∷ "cap 3 51 ram 100 3996 rights 7 parent -"
    ∷ "cap 3 52 frame 508 3 rights 7 parent -"
    ∷ "cap 3 54 port 1 rights 7 parent -"
    ∷ "cap 3 59 recvend 2 rights 7 parent -"
    ∷ "cap 3 60 frame 4 3 rights 7 parent -"
    ∷ "cap 3 61 signal 0 rights 7 parent -"
    ∷ "cap 3 63 line 1 rights 7 parent -"
    ∷ "channel 0 sent 0 taken 0"
    ∷ "channel 1 sent 0 taken 0"
    ∷ "channel 2 sent 0 taken 0"
    ∷ "channel 3 sent 0 taken 0"
    ∷ "channel 4 sent 0 taken 0"
    ∷ "channel 5 sent 0 taken 0"
    ∷ "channel 6 sent 0 taken 0"
    ∷ "channel 7 sent 0 taken 0"
    ∷ "channel 8 sent 0 taken 0"
    ∷ "line 0 to - - route - raised 0 stray 0 pending 0 merged 0 latched 0 joined 0 delivered 0"
    ∷ "line 1 to - - route - raised 3 stray 3 pending 0 merged 0 latched 0 joined 0 delivered 0"
    ∷ "line 2 to - - route - raised 0 stray 0 pending 0 merged 0 latched 0 joined 0 delivered 0"
    ∷ "skipped 19"
    ∷ "end"
    ∷ [])

is_played : played image script schedule ≡ record {
  journal = journal;
  skipped = 19;
  reasons =
      Some why.CoreOff ∷ Some (why.RaisesFirst 0) ∷ Some (why.RaisesFirst 0) ∷ Some why.CoreOff ∷ Some why.NotPending ∷ Some why.CoreOff ∷ Some why.CoreOff
      ∷ Some why.CoreOff ∷ Some why.NoOrder ∷ Some why.CoreOff ∷ Some why.CoreOff ∷ Some why.NoOrder ∷ Some why.CoreOff ∷ Some (why.RaisesFirst 2)
      ∷ Some (why.RaisesFirst 2) ∷ Some why.NoRaise ∷ Some why.CoreOff ∷ Some why.CoreOff ∷ Some why.CoreOff ∷ [];
  report = report;
  text = text;
  again = journal;
}
unfolding machine_with_cores whole_texts
is_played = refl

is_judged : judged image script journal ≡ record { is_run = true; shown = Some (all_shown_by report) }
unfolding machine_of_blocks
is_judged = refl

-- each entry touches what the table says
is_tabled : tabled image script schedule ≡ true
unfolding machine_with_cores
is_tabled = refl

-- each block is reported once, on the core that holds it or at rest
is_none_lost : blocks_reported report ≡ blocks_held (image_origin image script) journal
unfolding machine_of_blocks
is_none_lost = refl

-- the journal has told what the state shows
is_told : option_map facts_told (run image script journal)
    ≡ option_map (facts_of (core_run image script schedule).state) (run image script journal)
unfolding machine_with_cores machine_of_blocks
is_told = refl

-- journals that are changed, and the first bad entry of each
are_changed : first_bads image script (
    with_line 7 (texts.slice 1 0 1 0 2 end.Quantum 9) journal
    ∷ with_line 6 (texts.raised 0 1 (order.stray 3)) journal
    ∷ lines_swapped 3 journal
    ∷ [])
    ≡ Some 7 ∷ Some 6 ∷ Some 3 ∷ []
unfolding machine_of_blocks
are_changed = refl
