-- A random machine, of seed 20007.
-- Made by tools/worked_examples.py from examples/RandomMachine1.
use Rattle.std.specs.Prelude.{◌≡◌, ℕ, List, [], ◌∷◌, refl, true, None, Some}
use Rattle.std.specs.Option.{option_map}
use Rattle.dc_base.specs.declared.images.Image.{Image}
use Rattle.dc_base.specs.declared.kernels.Version.TheVariants.{Rr, Edf}
use Rattle.dc_base.specs.declared.kernels.Clocks.TheVariants.{Kept}
use Rattle.dc_base.specs.declared.actions.Actor.{Actor}
use Rattle.dc_base.specs.declared.actions.Action.{Action}
use Rattle.dc_base.specs.declared.calls.Op.TheVariants as op
use Rattle.dc_base.specs.declared.calls.End.TheVariants as end
use Rattle.dc_base.specs.declared.commands.ScriptLine.{ScriptLine}
use Rattle.dc_base.specs.declared.entries.Entry.{Entry}
use Rattle.dc_base.specs.declared.entries.Reason.TheVariants as why
use Rattle.dc_base.specs.declared.reports.ReportLine.{ReportLine}
use Rattle.dc_base.specs.declared.dispatchers.DispState.TheVariants as state
use Rattle.dc_base.specs.Runs.{run}
use Rattle.dc_base.specs.CoreRuns.{core_run}
use Rattle.dc_base.specs.Origins.{image_origin}
use Rattle.dc_base.specs.Shown.{all_shown_by}
use Rattle.dc_base.specs.Headline.{blocks_reported, blocks_held}
use Rattle.dc_rows.specs.Computed.{machine_of_blocks, machine_with_cores, whole_texts}
use Rattle.dc_rows.specs.Facts.{facts_told, facts_of}
use Rattle.dc_rows.specs.Images as image_of
use Rattle.dc_rows.specs.Orders as order
use Rattle.dc_rows.specs.Played.{played, judged, first_bads}
use Rattle.dc_rows.specs.Reports as report_line
use Rattle.dc_rows.specs.Scripts as script_line
use Rattle.dc_rows.specs.Tabled.{tabled}
use Rattle.dc_rows.specs.Texts as texts
use Rattle.dc_rows.specs.WrongJournals.{with_line, line_added}

abbrev image : Image
image = record {
  format = 1;
  clocks = Kept;
  quantum = 4;
  slices = 10;
  lines = 4;
  cores =
      image_of.core 19 Edf ∷ image_of.core 137 Rr ∷ [];
  blocks =
      record {
        home = image_of.home 1;
        memory =
            7 ∷ 335 ∷ 961 ∷ 2 ∷ 618 ∷ 0 ∷ 0 ∷ 0 ∷ 382 ∷ 177 ∷ 1 ∷ 0 ∷ 2 ∷ 2 ∷ [];
        ports = 1;
        signals = 2;
        disps =
            record {
              code =
                  239075332  -- bltu r4 r0 4
                  ∷ 185794560  -- shr r1 r3
                  ∷ 69468160  -- add r2 r4
                  ∷ 17829888  -- li r1 4096
                  ∷ 20971520  -- li r4 0
                  ∷ 22020097  -- li r5 1
                  ∷ 318767104  -- nop
                  ∷ 541065216  -- out r4
                  ∷ 71630848  -- add r4 r5
                  ∷ 19922946  -- li r3 2
                  ∷ 239271942  -- bltu r4 r3 6
                  ∷ 575406085  -- send s4 s12 5
                  ∷ 623640580  -- crecv s2 s12 4
                  ∷ 575406080  -- send s4 s12 0
                  ∷ 251658240  -- jmp 0
                  ∷ [];
              period = 10;
              due = 0;
              caps =
                  image_of.cap 12 (image_of.frame 4 16) 7 ∷ image_of.cap 8 (image_of.frame 8 8) 5 ∷ image_of.cap 4 (image_of.port 0) 7
                  ∷ image_of.cap 14 (image_of.signal 0) 7 ∷ image_of.cap 13 (image_of.signal 1) 7 ∷ image_of.cap 2 (image_of.recvend 2) 7 ∷ [];
            }
            ∷ [];
      }
      ∷ record {
        home = image_of.home 0;
        memory = [];
        ports = 0;
        signals = 1;
        disps =
            record {
              code =
                  740556800  -- bind s2 s4
                  ∷ 641859584  -- wait s4 r2
                  ∷ 538968064  -- out r2
                  ∷ 673382407  -- copy s2 s3 7
                  ∷ 318767104  -- nop
                  ∷ 318767104  -- nop
                  ∷ 318767104  -- nop
                  ∷ 318767104  -- nop
                  ∷ 764542976  -- give s9 s2
                  ∷ 614400000  -- csend s9 s15 0
                  ∷ 764411904  -- give s9 s0
                  ∷ 614203392  -- csend s9 s12 0
                  ∷ 251658252  -- jmp 12
                  ∷ [];
              period = 1;
              due = 5;
              caps =
                  image_of.cap 13 (image_of.frame 0 8) 5 ∷ image_of.cap 5 (image_of.signal 0) 7 ∷ image_of.cap 2 (image_of.line 0) 7
                  ∷ image_of.cap 9 (image_of.sendend 3) 7 ∷ image_of.cap 15 (image_of.frame 24 8) 7 ∷ image_of.cap 4 (image_of.signal 0) 7
                  ∷ image_of.cap 0 (image_of.line 3) 7 ∷ image_of.cap 1 (image_of.sendend 3) 7 ∷ image_of.cap 12 (image_of.frame 16 8) 7
                  ∷ image_of.cap 7 (image_of.ram 0 4096) 7 ∷ image_of.cap 10 (image_of.signal 0) 7 ∷ image_of.cap 11 (image_of.recvend 5) 7 ∷ [];
            }
            ∷ record {
              code =
                  22085631  -- li r5 65535
                  ∷ 20971520  -- li r4 0
                  ∷ 742064128  -- bind s3 s11
                  ∷ 649199616  -- wait s11 r2
                  ∷ 538968064  -- out r2
                  ∷ 755367936  -- give s0 s6
                  ∷ 335544320  -- halt
                  ∷ [];
              period = 1;
              due = 0;
              caps =
                  image_of.cap 7 (image_of.frame 4088 4) 7 ∷ image_of.cap 10 (image_of.ram 0 100) 7 ∷ image_of.cap 11 (image_of.signal 0) 7
                  ∷ image_of.cap 0 (image_of.sendend 3) 7 ∷ image_of.cap 6 (image_of.line 0) 7 ∷ image_of.cap 3 (image_of.line 2) 7
                  ∷ image_of.cap 4 (image_of.line 3) 7 ∷ [];
            }
            ∷ [];
      }
      ∷ record {
        home = None;
        memory = [];
        ports = 1;
        signals = 3;
        disps =
            record {
              code =
                  17825792  -- li r1 0
                  ∷ 666959873  -- arm s12 r1 1
                  ∷ 51642368  -- mov r1 r4
                  ∷ 55574528  -- mov r5 r0
                  ∷ 100925440  -- mul r0 r4
                  ∷ 54657024  -- mov r4 r2
                  ∷ 17825793  -- li r1 1
                  ∷ 659620340  -- arm s5 r1 500
                  ∷ 642908160  -- wait s5 r2
                  ∷ 538968064  -- out r2
                  ∷ 594542592  -- recv s7 s0 0
                  ∷ 251658240  -- jmp 0
                  ∷ [];
              period = 1;
              due = 0;
              caps =
                  image_of.cap 0 (image_of.frame 4 8) 7 ∷ image_of.cap 7 (image_of.port 0) 7 ∷ image_of.cap 12 (image_of.signal 0) 7
                  ∷ image_of.cap 5 (image_of.signal 1) 7 ∷ image_of.cap 11 (image_of.signal 2) 7 ∷ image_of.cap 15 (image_of.sendend 4) 7
                  ∷ image_of.cap 13 (image_of.sendend 5) 7 ∷ image_of.cap 1 (image_of.recvend 1) 7 ∷ [];
            }
            ∷ record {
              code =
                  17826292  -- li r1 500
                  ∷ 18874368  -- li r2 0
                  ∷ 637206531  -- crecv s15 s11 3
                  ∷ 637206528  -- crecv s15 s11 0
                  ∷ 20971520  -- li r4 0
                  ∷ 22020097  -- li r5 1
                  ∷ 67436544  -- add r0 r5
                  ∷ 71630848  -- add r4 r5
                  ∷ 19922946  -- li r3 2
                  ∷ 239271942  -- bltu r4 r3 6
                  ∷ 153288704  -- xor r2 r3
                  ∷ 606797825  -- csend s2 s11 1
                  ∷ 578486276  -- send s7 s11 4
                  ∷ 540016640  -- out r3
                  ∷ 536870912  -- out r0
                  ∷ 251658242  -- jmp 2
                  ∷ [];
              period = 1;
              due = 0;
              caps =
                  image_of.cap 11 (image_of.frame 89 8) 7 ∷ image_of.cap 6 (image_of.ram 303 64) 7 ∷ image_of.cap 7 (image_of.port 0) 7
                  ∷ image_of.cap 4 (image_of.signal 0) 7 ∷ image_of.cap 12 (image_of.signal 1) 7 ∷ image_of.cap 5 (image_of.signal 2) 2
                  ∷ image_of.cap 2 (image_of.sendend 5) 7 ∷ image_of.cap 15 (image_of.recvend 1) 7 ∷ [];
            }
            ∷ [];
      }
      ∷ record {
        home = None;
        memory =
            934 ∷ 0 ∷ 2 ∷ 1 ∷ 936 ∷ 7 ∷ 7 ∷ 1 ∷ 1 ∷ 886 ∷ 0 ∷ 4294967295 ∷ 7 ∷ 2 ∷ 265 ∷ 140 ∷ [];
        ports = 3;
        signals = 2;
        disps =
            record {
              code =
                  628948992  -- crecv s7 s13 0
                  ∷ 779812864  -- claim s7 s11 0
                  ∷ 749862912  -- bind s11 s2
                  ∷ 639827968  -- wait s2 r3
                  ∷ 540016640  -- out r3
                  ∷ 628621312  -- crecv s7 s8 0
                  ∷ 779288579  -- claim s7 s3 3
                  ∷ 741474304  -- bind s3 s2
                  ∷ 17825793  -- li r1 1
                  ∷ 663879679  -- arm s9 r1 65535
                  ∷ 335544320  -- halt
                  ∷ [];
              period = 65535;
              due = 0;
              caps =
                  image_of.cap 13 (image_of.frame 0 8) 7 ∷ image_of.cap 1 (image_of.signal 0) 7 ∷ image_of.cap 7 (image_of.recvend 3) 7
                  ∷ image_of.cap 8 (image_of.frame 24 8) 7 ∷ image_of.cap 15 (image_of.signal 0) 7 ∷ image_of.cap 6 (image_of.recvend 3) 7
                  ∷ image_of.cap 5 (image_of.frame 0 3) 7 ∷ image_of.cap 12 (image_of.ram 0 64) 7 ∷ image_of.cap 4 (image_of.port 1) 7
                  ∷ image_of.cap 14 (image_of.port 2) 1 ∷ image_of.cap 2 (image_of.signal 0) 7 ∷ image_of.cap 9 (image_of.signal 1) 7 ∷ [];
            }
            ∷ record {
              code =
                  22020096  -- li r5 0
                  ∷ 17825792  -- li r1 0
                  ∷ 20971521  -- li r4 1
                  ∷ 318767104  -- nop
                  ∷ 117768192  -- and r0 r5
                  ∷ 634454020  -- crecv s13 s1 4
                  ∷ 17825812  -- li r1 20
                  ∷ 663879679  -- arm s9 r1 65535
                  ∷ 540016640  -- out r3
                  ∷ 634454024  -- crecv s13 s1 8
                  ∷ 251658243  -- jmp 3
                  ∷ [];
              period = 10;
              due = 0;
              caps =
                  image_of.cap 1 (image_of.frame 0 16) 7 ∷ image_of.cap 4 (image_of.ram 2379 1000) 7 ∷ image_of.cap 11 (image_of.port 0) 7
                  ∷ image_of.cap 10 (image_of.port 2) 7 ∷ image_of.cap 9 (image_of.signal 1) 7 ∷ image_of.cap 2 (image_of.sendend 0) 7
                  ∷ image_of.cap 7 (image_of.sendend 1) 0 ∷ image_of.cap 6 (image_of.sendend 2) 7 ∷ image_of.cap 3 (image_of.sendend 6) 7
                  ∷ image_of.cap 13 (image_of.recvend 3) 4 ∷ [];
            }
            ∷ record {
              code =
                  18874368  -- li r2 0
                  ∷ 20971560  -- li r4 40
                  ∷ 287571968  -- st r2 r4 0
                  ∷ 639762432  -- wait s2 r2
                  ∷ 538968064  -- out r2
                  ∷ 679149607  -- copy s7 s11 39
                  ∷ 683409447  -- copy s11 s12 39
                  ∷ 717225984  -- delete s12
                  ∷ 716177408  -- delete s11
                  ∷ 584581120  -- send s13 s8 0
                  ∷ 251658241  -- jmp 1
                  ∷ [];
              period = 2;
              due = 0;
              caps =
                  image_of.cap 8 (image_of.frame 4 4) 7 ∷ image_of.cap 0 (image_of.ram 0 100) 7 ∷ image_of.cap 13 (image_of.port 0) 7
                  ∷ image_of.cap 5 (image_of.signal 0) 2 ∷ image_of.cap 2 (image_of.signal 1) 7 ∷ image_of.cap 6 (image_of.sendend 0) 7
                  ∷ image_of.cap 4 (image_of.sendend 1) 7 ∷ image_of.cap 7 (image_of.sendend 2) 7 ∷ image_of.cap 14 (image_of.recvend 3) 7
                  ∷ image_of.cap 15 (image_of.recvend 4) 7 ∷ [];
            }
            ∷ record {
              code =
                  16777217  -- li r0 1
                  ∷ 606797824  -- csend s2 s11 0
                  ∷ 640811008  -- wait s3 r2
                  ∷ 538968064  -- out r2
                  ∷ 202637321  -- beq r1 r4 9
                  ∷ 83886080  -- sub r0 r0
                  ∷ 34603009  -- lih r1 1
                  ∷ 87031808  -- sub r3 r0
                  ∷ 19922975  -- li r3 31
                  ∷ 676266033  -- copy s4 s15 49
                  ∷ 720371712  -- delete s15
                  ∷ 204668942  -- beq r3 r3 14
                  ∷ 88211456  -- sub r4 r2
                  ∷ 155385856  -- xor r4 r3
                  ∷ 335544320  -- halt
                  ∷ [];
              period = 1;
              due = 100;
              caps =
                  image_of.cap 11 (image_of.frame 0 3) 7 ∷ image_of.cap 10 (image_of.ram 0 100) 7 ∷ image_of.cap 1 (image_of.port 0) 7
                  ∷ image_of.cap 6 (image_of.port 1) 7 ∷ image_of.cap 0 (image_of.port 2) 7 ∷ image_of.cap 3 (image_of.signal 0) 7
                  ∷ image_of.cap 7 (image_of.sendend 2) 7 ∷ image_of.cap 2 (image_of.sendend 6) 7 ∷ image_of.cap 4 (image_of.recvend 3) 7
                  ∷ image_of.cap 14 (image_of.recvend 4) 7 ∷ [];
            }
            ∷ [];
      }
      ∷ record {
        home = None;
        memory = [];
        ports = 1;
        signals = 1;
        disps =
            record {
              code =
                  18939903  -- li r2 65535
                  ∷ 16777216  -- li r0 0
                  ∷ 22085631  -- li r5 65535
                  ∷ 777256962  -- claim s5 s4 2
                  ∷ 251658243  -- jmp 3
                  ∷ [];
              period = 1;
              due = 1;
              caps =
                  image_of.cap 11 (image_of.frame 40 4) 7 ∷ image_of.cap 13 (image_of.port 0) 7 ∷ image_of.cap 7 (image_of.signal 0) 7
                  ∷ image_of.cap 5 (image_of.recvend 7) 7 ∷ [];
            }
            ∷ record {
              code =
                  22020098  -- li r5 2
                  ∷ 23068954  -- li r6 282
                  ∷ 24117249  -- li r7 1
                  ∷ 693239809  -- retype s5 s2 1
                  ∷ 706740224  -- delete s2
                  ∷ 591986693  -- recv s4 s9 5
                  ∷ 251658241  -- jmp 1
                  ∷ [];
              period = 1;
              due = 0;
              caps =
                  image_of.cap 9 (image_of.frame 8 16) 7 ∷ image_of.cap 5 (image_of.ram 0 4096) 7 ∷ image_of.cap 4 (image_of.port 0) 7
                  ∷ image_of.cap 8 (image_of.signal 0) 4 ∷ image_of.cap 15 (image_of.recvend 0) 7 ∷ image_of.cap 6 (image_of.recvend 6) 7
                  ∷ image_of.cap 0 (image_of.recvend 7) 5 ∷ [];
            }
            ∷ [];
      }
      ∷ [];
  channels =
      image_of.channel 3 4 1 ∷ image_of.channel 3 2 2 ∷ image_of.channel 3 0 3 ∷ image_of.channel 1 3 1 ∷ image_of.channel 2 3 2 ∷ image_of.channel 2 1 64
      ∷ image_of.channel 3 4 2 ∷ image_of.channel 0 4 1 ∷ [];
}

abbrev script : List ScriptLine
script =
    script_line.route 1 0 ∷ script_line.replace 0 Rr ∷ script_line.raise 1 ∷ script_line.route 1 1 ∷ script_line.raise 0 ∷ script_line.attach 4 0
    ∷ script_line.route 1 0 ∷ script_line.stop 0 ∷ script_line.await 4 1 1 ∷ script_line.replace 1 Edf ∷ []

abbrev schedule : List (Actor × Action)
schedule =
    texts.step 0 ∷ texts.step 0 ∷ texts.step 0 ∷ texts.step 0 ∷ texts.wake 0 4 1 ∷ texts.step 1 ∷ texts.step 1 ∷ texts.step 1 ∷ texts.step 1 ∷ texts.script
    ∷ texts.wake 0 2 1 ∷ texts.step 1 ∷ texts.script ∷ texts.script ∷ texts.step 0 ∷ texts.step 0 ∷ texts.step 0 ∷ texts.step 0 ∷ texts.order 0
    ∷ texts.script ∷ texts.script ∷ texts.step 1 ∷ texts.step 1 ∷ texts.step 0 ∷ texts.step 0 ∷ texts.step 0 ∷ texts.script ∷ texts.step 0 ∷ texts.step 1
    ∷ texts.step 0 ∷ texts.order 0 ∷ texts.step 0 ∷ texts.intake 1 2 ∷ texts.step 0 ∷ texts.script ∷ texts.raise ∷ texts.raise ∷ texts.order 1 ∷ texts.raise
    ∷ texts.step 1 ∷ []

abbrev journal : List Entry
journal =
    texts.slice 0 1 1 0 2 (end.Call op.Bind) 22
    ∷ texts.slice 0 1 1 0 0 (end.Hold op.Wait) 23
    ∷ texts.slice 0 1 0 0 0 (end.Call op.Bind) 24
    ∷ texts.slice 0 1 0 0 0 (end.Hold op.Wait) 25
    ∷ texts.slice 1 0 0 0 4 end.Quantum 141
    ∷ texts.slice 1 0 0 0 3 (end.Call op.Out) 145
    ∷ texts.slice 1 0 0 0 4 (end.Call op.Out) 150
    ∷ texts.slice 1 0 0 0 3 (end.Call op.Send) 154
    ∷ texts.routed 0 1 0
    ∷ texts.slice 1 0 0 0 0 (end.Hold op.Crecv) 155
    ∷ texts.post 1 0 (order.replace Rr)
    ∷ texts.replace 0 Rr
    ∷ texts.done 1
    ∷ texts.raised 2 1 (order.stray 1)
    ∷ []

abbrev report : List ReportLine
report =
    report_line.core_on 0 Rr 25 (Some 1) (1 ∷ []) 4
    ∷ report_line.core_on 1 Rr 155 (Some 0) (0 ∷ []) 5
    ∷ report_line.block 0 (Some 1) 18 0
    ∷ report_line.disp 0 0 (report_line.waits_crecv 2) 12 0
    ∷ report_line.ready 0 []
    ∷ report_line.cap 0 2 (image_of.recvend 2) 7 None
    ∷ report_line.cap 0 4 (image_of.port 0) 7 None
    ∷ report_line.cap 0 8 (image_of.frame 8 8) 5 None
    ∷ report_line.cap 0 12 (image_of.frame 4 16) 7 None
    ∷ report_line.cap 0 13 (image_of.signal 1) 7 None
    ∷ report_line.cap 0 14 (image_of.signal 0) 7 None
    ∷ report_line.port 0 0 177 1 0 2
    ∷ report_line.block 1 (Some 0) 6 0
    ∷ report_line.disp 1 0 (report_line.waits_signal 0) 1 7
    ∷ report_line.disp 1 1 (report_line.waits_signal 0) 3 2
    ∷ report_line.ready 1 []
    ∷ report_line.cap 1 0 (image_of.line 3) 7 None
    ∷ report_line.cap 1 1 (image_of.sendend 3) 7 None
    ∷ report_line.cap 1 2 (image_of.line 0) 7 None
    ∷ report_line.cap 1 4 (image_of.signal 0) 7 None
    ∷ report_line.cap 1 5 (image_of.signal 0) 7 None
    ∷ report_line.cap 1 7 (image_of.ram 0 4096) 7 None
    ∷ report_line.cap 1 9 (image_of.sendend 3) 7 None
    ∷ report_line.cap 1 10 (image_of.signal 0) 7 None
    ∷ report_line.cap 1 11 (image_of.recvend 5) 7 None
    ∷ report_line.cap 1 12 (image_of.frame 16 8) 7 None
    ∷ report_line.cap 1 13 (image_of.frame 0 8) 5 None
    ∷ report_line.cap 1 15 (image_of.frame 24 8) 7 None
    ∷ report_line.cap 1 16 (image_of.sendend 3) 7 None
    ∷ report_line.cap 1 19 (image_of.line 2) 7 None
    ∷ report_line.cap 1 20 (image_of.line 3) 7 None
    ∷ report_line.cap 1 22 (image_of.line 0) 7 None
    ∷ report_line.cap 1 23 (image_of.frame 4088 4) 7 None
    ∷ report_line.cap 1 26 (image_of.ram 0 100) 7 None
    ∷ report_line.cap 1 27 (image_of.signal 0) 7 None
    ∷ report_line.block 2 None 0 0
    ∷ report_line.disp 2 0 state.Ready 0 0
    ∷ report_line.disp 2 1 state.Ready 0 0
    ∷ report_line.ready 2 (0 ∷ 1 ∷ [])
    ∷ report_line.cap 2 0 (image_of.frame 4 8) 7 None
    ∷ report_line.cap 2 1 (image_of.recvend 1) 7 None
    ∷ report_line.cap 2 5 (image_of.signal 1) 7 None
    ∷ report_line.cap 2 7 (image_of.port 0) 7 None
    ∷ report_line.cap 2 11 (image_of.signal 2) 7 None
    ∷ report_line.cap 2 12 (image_of.signal 0) 7 None
    ∷ report_line.cap 2 13 (image_of.sendend 5) 7 None
    ∷ report_line.cap 2 15 (image_of.sendend 4) 7 None
    ∷ report_line.cap 2 18 (image_of.sendend 5) 7 None
    ∷ report_line.cap 2 20 (image_of.signal 0) 7 None
    ∷ report_line.cap 2 21 (image_of.signal 2) 2 None
    ∷ report_line.cap 2 22 (image_of.ram 303 64) 7 None
    ∷ report_line.cap 2 23 (image_of.port 0) 7 None
    ∷ report_line.cap 2 27 (image_of.frame 89 8) 7 None
    ∷ report_line.cap 2 28 (image_of.signal 1) 7 None
    ∷ report_line.cap 2 31 (image_of.recvend 1) 7 None
    ∷ report_line.block 3 None 0 0
    ∷ report_line.disp 3 0 state.Ready 0 0
    ∷ report_line.disp 3 1 state.Ready 0 0
    ∷ report_line.disp 3 2 state.Ready 0 0
    ∷ report_line.disp 3 3 state.Ready 0 100
    ∷ report_line.ready 3 (0 ∷ 1 ∷ 2 ∷ 3 ∷ [])
    ∷ report_line.cap 3 1 (image_of.signal 0) 7 None
    ∷ report_line.cap 3 2 (image_of.signal 0) 7 None
    ∷ report_line.cap 3 4 (image_of.port 1) 7 None
    ∷ report_line.cap 3 5 (image_of.frame 0 3) 7 None
    ∷ report_line.cap 3 6 (image_of.recvend 3) 7 None
    ∷ report_line.cap 3 7 (image_of.recvend 3) 7 None
    ∷ report_line.cap 3 8 (image_of.frame 24 8) 7 None
    ∷ report_line.cap 3 9 (image_of.signal 1) 7 None
    ∷ report_line.cap 3 12 (image_of.ram 0 64) 7 None
    ∷ report_line.cap 3 13 (image_of.frame 0 8) 7 None
    ∷ report_line.cap 3 14 (image_of.port 2) 1 None
    ∷ report_line.cap 3 15 (image_of.signal 0) 7 None
    ∷ report_line.cap 3 17 (image_of.frame 0 16) 7 None
    ∷ report_line.cap 3 18 (image_of.sendend 0) 7 None
    ∷ report_line.cap 3 19 (image_of.sendend 6) 7 None
    ∷ report_line.cap 3 20 (image_of.ram 2379 1000) 7 None
    ∷ report_line.cap 3 22 (image_of.sendend 2) 7 None
    ∷ report_line.cap 3 23 (image_of.sendend 1) 0 None
    ∷ report_line.cap 3 25 (image_of.signal 1) 7 None
    ∷ report_line.cap 3 26 (image_of.port 2) 7 None
    ∷ report_line.cap 3 27 (image_of.port 0) 7 None
    ∷ report_line.cap 3 29 (image_of.recvend 3) 4 None
    ∷ report_line.cap 3 32 (image_of.ram 0 100) 7 None
    ∷ report_line.cap 3 34 (image_of.signal 1) 7 None
    ∷ report_line.cap 3 36 (image_of.sendend 1) 7 None
    ∷ report_line.cap 3 37 (image_of.signal 0) 2 None
    ∷ report_line.cap 3 38 (image_of.sendend 0) 7 None
    ∷ report_line.cap 3 39 (image_of.sendend 2) 7 None
    ∷ report_line.cap 3 40 (image_of.frame 4 4) 7 None
    ∷ report_line.cap 3 45 (image_of.port 0) 7 None
    ∷ report_line.cap 3 46 (image_of.recvend 3) 7 None
    ∷ report_line.cap 3 47 (image_of.recvend 4) 7 None
    ∷ report_line.cap 3 48 (image_of.port 2) 7 None
    ∷ report_line.cap 3 49 (image_of.port 0) 7 None
    ∷ report_line.cap 3 50 (image_of.sendend 6) 7 None
    ∷ report_line.cap 3 51 (image_of.signal 0) 7 None
    ∷ report_line.cap 3 52 (image_of.recvend 3) 7 None
    ∷ report_line.cap 3 54 (image_of.port 1) 7 None
    ∷ report_line.cap 3 55 (image_of.sendend 2) 7 None
    ∷ report_line.cap 3 58 (image_of.ram 0 100) 7 None
    ∷ report_line.cap 3 59 (image_of.frame 0 3) 7 None
    ∷ report_line.cap 3 62 (image_of.recvend 4) 7 None
    ∷ report_line.block 4 None 0 0
    ∷ report_line.disp 4 0 state.Ready 0 1
    ∷ report_line.disp 4 1 state.Ready 0 0
    ∷ report_line.ready 4 (0 ∷ 1 ∷ [])
    ∷ report_line.cap 4 5 (image_of.recvend 7) 7 None
    ∷ report_line.cap 4 7 (image_of.signal 0) 7 None
    ∷ report_line.cap 4 11 (image_of.frame 40 4) 7 None
    ∷ report_line.cap 4 13 (image_of.port 0) 7 None
    ∷ report_line.cap 4 16 (image_of.recvend 7) 5 None
    ∷ report_line.cap 4 20 (image_of.port 0) 7 None
    ∷ report_line.cap 4 21 (image_of.ram 0 4096) 7 None
    ∷ report_line.cap 4 22 (image_of.recvend 6) 7 None
    ∷ report_line.cap 4 24 (image_of.signal 0) 4 None
    ∷ report_line.cap 4 25 (image_of.frame 8 16) 7 None
    ∷ report_line.cap 4 31 (image_of.recvend 0) 7 None
    ∷ report_line.channel 0 0 0
    ∷ report_line.channel 1 0 0
    ∷ report_line.channel 2 0 0
    ∷ report_line.channel 3 0 0
    ∷ report_line.channel 4 0 0
    ∷ report_line.channel 5 0 0
    ∷ report_line.channel 6 0 0
    ∷ report_line.channel 7 0 0
    ∷ report_line.wire 0 (Some (1, 0)) (Some 0) 0 0 0 0 0 0 0
    ∷ report_line.wire 1 None (Some 0) 1 1 0 0 0 0 0
    ∷ report_line.wire 2 (Some (1, 0)) (Some 0) 0 0 0 0 0 0 0
    ∷ report_line.wire 3 None None 0 0 0 0 0 0 0
    ∷ report_line.out 0 0
    ∷ report_line.out 0 1
    ∷ []

abbrev text : List ℕ
text = texts.lines (
    "0 core 0 slice 1 1 fired 0 ran 2 call bind clock 22"
    ∷ "1 core 0 slice 1 1 fired 0 ran 0 hold wait clock 23"
    ∷ "2 core 0 slice 1 0 fired 0 ran 0 call bind clock 24"
    ∷ "3 core 0 slice 1 0 fired 0 ran 0 hold wait clock 25"
    ∷ "4 core 1 slice 0 0 fired 0 ran 4 quantum clock 141"
    ∷ "5 core 1 slice 0 0 fired 0 ran 3 call out clock 145"
    ∷ "6 core 1 slice 0 0 fired 0 ran 4 call out clock 150"
    ∷ "7 core 1 slice 0 0 fired 0 ran 3 call send clock 154"
    ∷ "8 script 0 route 1 0"
    ∷ "9 core 1 slice 0 0 fired 0 ran 0 hold crecv clock 155"
    ∷ "10 script 1 post 0 replace rr"
    ∷ "11 core 0 replace rr"
    ∷ "12 script 1 done"
    ∷ "13 script 2 raise 1 1 stray"
    ∷ "report"
    ∷ "core 0 on rr clock 25 home 1 share 1 used 4"
    ∷ "core 1 on rr clock 155 home 0 share 0 used 5"
    ∷ "block 0 core 1 time 18 armed 0"
    ∷ "disp 0 0 wait crecv 2 place 12 due 0"
    ∷ "ready 0 -"
    ∷ "cap 0 2 recvend 2 rights 7 parent -"
    ∷ "cap 0 4 port 0 rights 7 parent -"
    ∷ "cap 0 8 frame 8 8 rights 5 parent -"
    ∷ "cap 0 12 frame 4 16 rights 7 parent -"
    ∷ "cap 0 13 signal 1 rights 7 parent -"
    ∷ "cap 0 14 signal 0 rights 7 parent -"
    ∷ "port 0 0 177 1 0 2"
    ∷ "block 1 core 0 time 6 armed 0"
    ∷ "disp 1 0 wait signal 0 place 1 due 7"
    ∷ "disp 1 1 wait signal 0 place 3 due 2"
    ∷ "ready 1 -"
    ∷ "cap 1 0 line 3 rights 7 parent -"
    ∷ "cap 1 1 sendend 3 rights 7 parent -"
    ∷ "cap 1 2 line 0 rights 7 parent -"
    ∷ "cap 1 4 signal 0 rights 7 parent -"
    ∷ "cap 1 5 signal 0 rights 7 parent -"
    ∷ "cap 1 7 ram 0 4096 rights 7 parent -"
    ∷ "cap 1 9 sendend 3 rights 7 parent -"
    ∷ "cap 1 10 signal 0 rights 7 parent -"
    ∷ "cap 1 11 recvend 5 rights 7 parent -"
    ∷ "cap 1 12 frame 16 8 rights 7 parent -"
    ∷ "cap 1 13 frame 0 8 rights 5 parent -"
    ∷ "cap 1 15 frame 24 8 rights 7 parent -"
    ∷ "cap 1 16 sendend 3 rights 7 parent -"
    ∷ "cap 1 19 line 2 rights 7 parent -"
    ∷ "cap 1 20 line 3 rights 7 parent -"
    ∷ "cap 1 22 line 0 rights 7 parent -"
    ∷ "cap 1 23 frame 4088 4 rights 7 parent -"
    ∷ "cap 1 26 ram 0 100 rights 7 parent -"
    ∷ "cap 1 27 signal 0 rights 7 parent -"
    ∷ "block 2 rest time 0 armed 0"
    ∷ "disp 2 0 ready place 0 due 0"
    ∷ "disp 2 1 ready place 0 due 0"
    ∷ "ready 2 0,1"
    ∷ "cap 2 0 frame 4 8 rights 7 parent -"
    ∷ "cap 2 1 recvend 1 rights 7 parent -"
    ∷ "cap 2 5 signal 1 rights 7 parent -"
    ∷ "cap 2 7 port 0 rights 7 parent -"
    ∷ "cap 2 11 signal 2 rights 7 parent -"
    ∷ "cap 2 12 signal 0 rights 7 parent -"
    ∷ "cap 2 13 sendend 5 rights 7 parent -"
    ∷ "cap 2 15 sendend 4 rights 7 parent -"
    ∷ "cap 2 18 sendend 5 rights 7 parent -"
    ∷ "cap 2 20 signal 0 rights 7 parent -"
    ∷ "cap 2 21 signal 2 rights 2 parent -"
    ∷ "cap 2 22 ram 303 64 rights 7 parent -"
    ∷ "cap 2 23 port 0 rights 7 parent -"
    ∷ "cap 2 27 frame 89 8 rights 7 parent -"
    ∷ "cap 2 28 signal 1 rights 7 parent -"
    ∷ "cap 2 31 recvend 1 rights 7 parent -"
    ∷ "block 3 rest time 0 armed 0"
    ∷ "disp 3 0 ready place 0 due 0"
    ∷ "disp 3 1 ready place 0 due 0"
    ∷ "disp 3 2 ready place 0 due 0"
    ∷ "disp 3 3 ready place 0 due 100"
    ∷ "ready 3 0,1,2,3"
    ∷ "cap 3 1 signal 0 rights 7 parent -"
    ∷ "cap 3 2 signal 0 rights 7 parent -"
    ∷ "cap 3 4 port 1 rights 7 parent -"
    ∷ "cap 3 5 frame 0 3 rights 7 parent -"
    ∷ "cap 3 6 recvend 3 rights 7 parent -"
    ∷ "cap 3 7 recvend 3 rights 7 parent -"
    ∷ "cap 3 8 frame 24 8 rights 7 parent -"
    ∷ "cap 3 9 signal 1 rights 7 parent -"
    ∷ "cap 3 12 ram 0 64 rights 7 parent -"
    ∷ "cap 3 13 frame 0 8 rights 7 parent -"
    ∷ "cap 3 14 port 2 rights 1 parent -"
    ∷ "cap 3 15 signal 0 rights 7 parent -"
    ∷ "cap 3 17 frame 0 16 rights 7 parent -"
    ∷ "cap 3 18 sendend 0 rights 7 parent -"
    ∷ "cap 3 19 sendend 6 rights 7 parent -"
    ∷ "cap 3 20 ram 2379 1000 rights 7 parent -"
    ∷ "cap 3 22 sendend 2 rights 7 parent -"
    ∷ "cap 3 23 sendend 1 rights 0 parent -"
    ∷ "cap 3 25 signal 1 rights 7 parent -"
    ∷ "cap 3 26 port 2 rights 7 parent -"
    ∷ "cap 3 27 port 0 rights 7 parent -"
    ∷ "cap 3 29 recvend 3 rights 4 parent -"
    ∷ "cap 3 32 ram 0 100 rights 7 parent -"
    ∷ "cap 3 34 signal 1 rights 7 parent -"
    ∷ "cap 3 36 sendend 1 rights 7 parent -"
    ∷ "cap 3 37 signal 0 rights 2 parent -"
    ∷ "cap 3 38 sendend 0 rights 7 parent -"
    ∷ "cap 3 39 sendend 2 rights 7 parent -"
    ∷ "cap 3 40 frame 4 4 rights 7 parent -"
    ∷ "cap 3 45 port 0 rights 7 parent -"
    ∷ "cap 3 46 recvend 3 rights 7 parent -"
    ∷ "cap 3 47 recvend 4 rights 7 parent -"
    ∷ "cap 3 48 port 2 rights 7 parent -"
    ∷ "cap 3 49 port 0 rights 7 parent -"
    ∷ "cap 3 50 sendend 6 rights 7 parent -"
    ∷ "cap 3 51 signal 0 rights 7 parent -"
    ∷ "cap 3 52 recvend 3 rights 7 parent -"
    ∷ "cap 3 54 port 1 rights 7 parent -"
    ∷ "cap 3 55 sendend 2 rights 7 parent -"
    ∷ "cap 3 58 ram 0 100 rights 7 parent -"
    ∷ "cap 3 59 frame 0 3 rights 7 parent -"
    ∷ "cap 3 62 recvend 4 rights 7 parent -"
    ∷ "block 4 rest time 0 armed 0"
    ∷ "disp 4 0 ready place 0 due 1"
    ∷ "disp 4 1 ready place 0 due 0"
    ∷ "ready 4 0,1"
    ∷ "cap 4 5 recvend 7 rights 7 parent -"
    ∷ "cap 4 7 signal 0 rights 7 parent -"
    ∷ "cap 4 11 frame 40 4 rights 7 parent -"
    ∷ "cap 4 13 port 0 rights 7 parent -"
    ∷ "cap 4 16 recvend 7 rights 5 parent -"
    ∷ "cap 4 20 port 0 rights 7 parent -"
    ∷ "cap 4 21 ram 0 4096 rights 7 parent -"
    ∷ "cap 4 22 recvend 6 rights 7 parent -"
    ∷ "cap 4 24 signal 0 rights 4 parent -"
    ∷ "cap 4 25 frame 8 16 rights 7 parent -"
    ∷ "cap 4 31 recvend 0 rights 7 parent -"
    ∷ "channel 0 sent 0 taken 0"
    ∷ "channel 1 sent 0 taken 0"
    ∷ "channel 2 sent 0 taken 0"
    ∷ "channel 3 sent 0 taken 0"
    ∷ "channel 4 sent 0 taken 0"
    ∷ "channel 5 sent 0 taken 0"
    ∷ "channel 6 sent 0 taken 0"
    ∷ "channel 7 sent 0 taken 0"
    ∷ "line 0 to 1 0 route 0 raised 0 stray 0 pending 0 merged 0 latched 0 joined 0 delivered 0"
    ∷ "line 1 to - - route 0 raised 1 stray 1 pending 0 merged 0 latched 0 joined 0 delivered 0"
    ∷ "line 2 to 1 0 route 0 raised 0 stray 0 pending 0 merged 0 latched 0 joined 0 delivered 0"
    ∷ "line 3 to - - route - raised 0 stray 0 pending 0 merged 0 latched 0 joined 0 delivered 0"
    ∷ "out 0 0"
    ∷ "out 0 1"
    ∷ "skipped 26"
    ∷ "end"
    ∷ [])

is_played : played image script schedule ≡ record {
  journal = journal;
  skipped = 26;
  reasons =
      Some (why.NotHere (record { 0 = 4 })) ∷ Some (why.NotHere (record { 0 = 2 })) ∷ Some (why.NoAck (record { 0 = 0 })) ∷ Some why.Nothing
      ∷ Some why.Nothing ∷ Some why.Nothing ∷ Some why.Nothing ∷ Some (why.RaisesFirst 2) ∷ Some why.Nothing ∷ Some why.Nothing ∷ Some why.Nothing
      ∷ Some why.Nothing ∷ Some why.Nothing ∷ Some (why.RaisesFirst 2) ∷ Some why.Nothing ∷ Some why.Nothing ∷ Some why.Nothing ∷ Some why.NoOrder
      ∷ Some why.Nothing ∷ Some why.NotPending ∷ Some why.Nothing ∷ Some (why.RaisesFirst 2) ∷ Some why.CommandFirst ∷ Some why.NoOrder
      ∷ Some why.CommandFirst ∷ Some why.Nothing ∷ [];
  report = report;
  text = text;
  again = journal;
}
unfolding machine_with_cores whole_texts
is_played = refl

is_judged : judged image script journal ≡ record { is_run = true; shown = Some (all_shown_by report) }
unfolding machine_of_blocks
is_judged = refl

-- each entry touches what the table says
is_tabled : tabled image script schedule ≡ true
unfolding machine_with_cores
is_tabled = refl

-- each block is reported once, on the core that holds it or at rest
is_none_lost : blocks_reported report ≡ blocks_held (image_origin image script) journal
unfolding machine_of_blocks
is_none_lost = refl

-- the journal has told what the state shows
is_told : option_map facts_told (run image script journal)
    ≡ option_map (facts_of (core_run image script schedule).state) (run image script journal)
unfolding machine_with_cores machine_of_blocks
is_told = refl

-- journals that are changed, and the first bad entry of each
are_changed : first_bads image script (
    line_added 12 (texts.slice 1 0 0 0 0 (end.Hold op.Crecv) 155) journal
    ∷ with_line 5 (texts.slice 1 0 1 0 3 (end.Call op.Out) 145) journal
    ∷ line_added 11 (texts.slice 1 0 0 0 0 (end.Hold op.Crecv) 155) journal
    ∷ [])
    ≡ Some 12 ∷ Some 5 ∷ Some 11 ∷ []
unfolding machine_of_blocks
are_changed = refl
