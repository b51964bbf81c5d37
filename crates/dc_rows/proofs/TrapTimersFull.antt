-- Trap 10 of one dispatcher; the other goes on.
-- Made by tools/worked_examples.py from examples/TrapTimersFull.
use Rattle.std.specs.Prelude.{◌≡◌, ℕ, List, [], ◌∷◌, refl, true, None, Some}
use Rattle.std.specs.Option.{option_map}
use Rattle.dc_base.specs.declared.images.Image.{Image}
use Rattle.dc_base.specs.declared.kernels.Version.TheVariants.{Rr}
use Rattle.dc_base.specs.declared.kernels.Clocks.TheVariants.{Kept}
use Rattle.dc_base.specs.declared.actions.Actor.{Actor}
use Rattle.dc_base.specs.declared.actions.Action.{Action}
use Rattle.dc_base.specs.declared.calls.Op.TheVariants as op
use Rattle.dc_base.specs.declared.calls.End.TheVariants as end
use Rattle.dc_base.specs.declared.commands.ScriptLine.{ScriptLine}
use Rattle.dc_base.specs.declared.entries.Entry.{Entry}
use Rattle.dc_base.specs.declared.reports.ReportLine.{ReportLine}
use Rattle.dc_base.specs.declared.dispatchers.DispState.TheVariants as state
use Rattle.dc_base.specs.Runs.{run}
use Rattle.dc_base.specs.CoreRuns.{core_run}
use Rattle.dc_base.specs.Origins.{image_origin}
use Rattle.dc_base.specs.Shown.{all_shown_by}
use Rattle.dc_base.specs.Headline.{blocks_reported, blocks_held}
use Rattle.dc_rows.specs.Computed.{machine_of_blocks, machine_with_cores, whole_texts}
use Rattle.dc_rows.specs.Facts.{facts_told, facts_of}
use Rattle.dc_rows.specs.Images as image_of
use Rattle.dc_rows.specs.Played.{played, judged, first_bads}
use Rattle.dc_rows.specs.Reports as report_line
use Rattle.dc_rows.specs.Tabled.{tabled}
use Rattle.dc_rows.specs.Texts as texts
use Rattle.dc_rows.specs.WrongJournals.{with_line, without_line}

abbrev image : Image
image = record {
  format = 1;
  clocks = Kept;
  quantum = 4;
  slices = 1000;
  lines = 0;
  cores =
      image_of.core 0 Rr ∷ [];
  blocks =
      record {
        home = image_of.home 0;
        memory = [];
        ports = 0;
        signals = 1;
        disps =
            record {
              code =
                  34603009  -- lih r1 1
                  ∷ 654376960  -- arm s0 r1 0
                  ∷ 251658241  -- jmp 1
                  ∷ [];
              period = 1;
              due = 0;
              caps =
                  image_of.cap 0 (image_of.signal 0) 7 ∷ [];
            }
            ∷ record {
              code =
                  318767104  -- nop
                  ∷ 251658240  -- jmp 0
                  ∷ [];
              period = 1;
              due = 0;
              caps = [];
            }
            ∷ [];
      }
      ∷ [];
  channels = [];
}

abbrev script : List ScriptLine
script = []

abbrev schedule : List (Actor × Action)
schedule =
    texts.step 0 ∷ texts.step 0 ∷ texts.step 0 ∷ texts.step 0 ∷ texts.step 0 ∷ texts.step 0 ∷ texts.step 0 ∷ texts.step 0 ∷ texts.step 0 ∷ texts.step 0
    ∷ texts.step 0 ∷ texts.step 0 ∷ texts.step 0 ∷ texts.step 0 ∷ texts.step 0 ∷ texts.step 0 ∷ texts.step 0 ∷ texts.step 0 ∷ texts.step 0 ∷ texts.step 0
    ∷ texts.step 0 ∷ texts.step 0 ∷ texts.step 0 ∷ texts.step 0 ∷ texts.step 0 ∷ texts.step 0 ∷ texts.step 0 ∷ texts.step 0 ∷ texts.step 0 ∷ texts.step 0
    ∷ texts.step 0 ∷ texts.step 0 ∷ texts.step 0 ∷ texts.step 0 ∷ texts.step 0 ∷ texts.step 0 ∷ texts.step 0 ∷ texts.step 0 ∷ texts.step 0 ∷ texts.step 0
    ∷ texts.step 0 ∷ texts.step 0 ∷ texts.step 0 ∷ texts.step 0 ∷ texts.step 0 ∷ texts.step 0 ∷ texts.step 0 ∷ texts.step 0 ∷ texts.step 0 ∷ texts.step 0
    ∷ texts.step 0 ∷ texts.step 0 ∷ texts.step 0 ∷ texts.step 0 ∷ texts.step 0 ∷ texts.step 0 ∷ texts.step 0 ∷ texts.step 0 ∷ texts.step 0 ∷ texts.step 0
    ∷ texts.step 0 ∷ texts.step 0 ∷ texts.step 0 ∷ texts.step 0 ∷ texts.step 0 ∷ texts.step 0 ∷ texts.step 0 ∷ texts.step 0 ∷ texts.step 0 ∷ texts.step 0
    ∷ texts.step 0 ∷ texts.step 0 ∷ texts.step 0 ∷ texts.step 0 ∷ texts.step 0 ∷ texts.step 0 ∷ texts.step 0 ∷ texts.step 0 ∷ texts.step 0 ∷ texts.step 0
    ∷ texts.step 0 ∷ texts.step 0 ∷ texts.step 0 ∷ texts.step 0 ∷ texts.step 0 ∷ texts.step 0 ∷ texts.step 0 ∷ texts.step 0 ∷ texts.step 0 ∷ texts.step 0
    ∷ texts.step 0 ∷ texts.step 0 ∷ texts.step 0 ∷ texts.step 0 ∷ texts.step 0 ∷ texts.step 0 ∷ texts.step 0 ∷ texts.step 0 ∷ texts.step 0 ∷ texts.step 0
    ∷ texts.step 0 ∷ texts.step 0 ∷ texts.step 0 ∷ texts.step 0 ∷ texts.step 0 ∷ texts.step 0 ∷ texts.step 0 ∷ texts.step 0 ∷ texts.step 0 ∷ texts.step 0
    ∷ texts.step 0 ∷ texts.step 0 ∷ texts.step 0 ∷ texts.step 0 ∷ texts.step 0 ∷ texts.step 0 ∷ texts.step 0 ∷ texts.step 0 ∷ texts.step 0 ∷ texts.step 0
    ∷ texts.step 0 ∷ texts.step 0 ∷ texts.step 0 ∷ texts.step 0 ∷ texts.step 0 ∷ texts.step 0 ∷ texts.step 0 ∷ texts.step 0 ∷ texts.step 0 ∷ texts.step 0
    ∷ texts.step 0 ∷ texts.step 0 ∷ texts.step 0 ∷ texts.step 0 ∷ []

abbrev journal : List Entry
journal =
    texts.slice 0 0 0 0 1 (end.Call op.Arm) 2
    ∷ texts.slice 0 0 1 0 4 end.Quantum 6
    ∷ texts.slice 0 0 0 0 1 (end.Call op.Arm) 8
    ∷ texts.slice 0 0 1 0 4 end.Quantum 12
    ∷ texts.slice 0 0 0 0 1 (end.Call op.Arm) 14
    ∷ texts.slice 0 0 1 0 4 end.Quantum 18
    ∷ texts.slice 0 0 0 0 1 (end.Call op.Arm) 20
    ∷ texts.slice 0 0 1 0 4 end.Quantum 24
    ∷ texts.slice 0 0 0 0 1 (end.Call op.Arm) 26
    ∷ texts.slice 0 0 1 0 4 end.Quantum 30
    ∷ texts.slice 0 0 0 0 1 (end.Call op.Arm) 32
    ∷ texts.slice 0 0 1 0 4 end.Quantum 36
    ∷ texts.slice 0 0 0 0 1 (end.Call op.Arm) 38
    ∷ texts.slice 0 0 1 0 4 end.Quantum 42
    ∷ texts.slice 0 0 0 0 1 (end.Call op.Arm) 44
    ∷ texts.slice 0 0 1 0 4 end.Quantum 48
    ∷ texts.slice 0 0 0 0 1 (end.Call op.Arm) 50
    ∷ texts.slice 0 0 1 0 4 end.Quantum 54
    ∷ texts.slice 0 0 0 0 1 (end.Call op.Arm) 56
    ∷ texts.slice 0 0 1 0 4 end.Quantum 60
    ∷ texts.slice 0 0 0 0 1 (end.Call op.Arm) 62
    ∷ texts.slice 0 0 1 0 4 end.Quantum 66
    ∷ texts.slice 0 0 0 0 1 (end.Call op.Arm) 68
    ∷ texts.slice 0 0 1 0 4 end.Quantum 72
    ∷ texts.slice 0 0 0 0 1 (end.Call op.Arm) 74
    ∷ texts.slice 0 0 1 0 4 end.Quantum 78
    ∷ texts.slice 0 0 0 0 1 (end.Call op.Arm) 80
    ∷ texts.slice 0 0 1 0 4 end.Quantum 84
    ∷ texts.slice 0 0 0 0 1 (end.Call op.Arm) 86
    ∷ texts.slice 0 0 1 0 4 end.Quantum 90
    ∷ texts.slice 0 0 0 0 1 (end.Call op.Arm) 92
    ∷ texts.slice 0 0 1 0 4 end.Quantum 96
    ∷ texts.slice 0 0 0 0 1 (end.Call op.Arm) 98
    ∷ texts.slice 0 0 1 0 4 end.Quantum 102
    ∷ texts.slice 0 0 0 0 1 (end.Call op.Arm) 104
    ∷ texts.slice 0 0 1 0 4 end.Quantum 108
    ∷ texts.slice 0 0 0 0 1 (end.Call op.Arm) 110
    ∷ texts.slice 0 0 1 0 4 end.Quantum 114
    ∷ texts.slice 0 0 0 0 1 (end.Call op.Arm) 116
    ∷ texts.slice 0 0 1 0 4 end.Quantum 120
    ∷ texts.slice 0 0 0 0 1 (end.Call op.Arm) 122
    ∷ texts.slice 0 0 1 0 4 end.Quantum 126
    ∷ texts.slice 0 0 0 0 1 (end.Call op.Arm) 128
    ∷ texts.slice 0 0 1 0 4 end.Quantum 132
    ∷ texts.slice 0 0 0 0 1 (end.Call op.Arm) 134
    ∷ texts.slice 0 0 1 0 4 end.Quantum 138
    ∷ texts.slice 0 0 0 0 1 (end.Call op.Arm) 140
    ∷ texts.slice 0 0 1 0 4 end.Quantum 144
    ∷ texts.slice 0 0 0 0 1 (end.Call op.Arm) 146
    ∷ texts.slice 0 0 1 0 4 end.Quantum 150
    ∷ texts.slice 0 0 0 0 1 (end.Call op.Arm) 152
    ∷ texts.slice 0 0 1 0 4 end.Quantum 156
    ∷ texts.slice 0 0 0 0 1 (end.Call op.Arm) 158
    ∷ texts.slice 0 0 1 0 4 end.Quantum 162
    ∷ texts.slice 0 0 0 0 1 (end.Call op.Arm) 164
    ∷ texts.slice 0 0 1 0 4 end.Quantum 168
    ∷ texts.slice 0 0 0 0 1 (end.Call op.Arm) 170
    ∷ texts.slice 0 0 1 0 4 end.Quantum 174
    ∷ texts.slice 0 0 0 0 1 (end.Call op.Arm) 176
    ∷ texts.slice 0 0 1 0 4 end.Quantum 180
    ∷ texts.slice 0 0 0 0 1 (end.Call op.Arm) 182
    ∷ texts.slice 0 0 1 0 4 end.Quantum 186
    ∷ texts.slice 0 0 0 0 1 (end.Call op.Arm) 188
    ∷ texts.slice 0 0 1 0 4 end.Quantum 192
    ∷ texts.slice 0 0 0 0 1 (end.Call op.Arm) 194
    ∷ texts.slice 0 0 1 0 4 end.Quantum 198
    ∷ texts.slice 0 0 0 0 1 (end.Call op.Arm) 200
    ∷ texts.slice 0 0 1 0 4 end.Quantum 204
    ∷ texts.slice 0 0 0 0 1 (end.Call op.Arm) 206
    ∷ texts.slice 0 0 1 0 4 end.Quantum 210
    ∷ texts.slice 0 0 0 0 1 (end.Call op.Arm) 212
    ∷ texts.slice 0 0 1 0 4 end.Quantum 216
    ∷ texts.slice 0 0 0 0 1 (end.Call op.Arm) 218
    ∷ texts.slice 0 0 1 0 4 end.Quantum 222
    ∷ texts.slice 0 0 0 0 1 (end.Call op.Arm) 224
    ∷ texts.slice 0 0 1 0 4 end.Quantum 228
    ∷ texts.slice 0 0 0 0 1 (end.Call op.Arm) 230
    ∷ texts.slice 0 0 1 0 4 end.Quantum 234
    ∷ texts.slice 0 0 0 0 1 (end.Call op.Arm) 236
    ∷ texts.slice 0 0 1 0 4 end.Quantum 240
    ∷ texts.slice 0 0 0 0 1 (end.Call op.Arm) 242
    ∷ texts.slice 0 0 1 0 4 end.Quantum 246
    ∷ texts.slice 0 0 0 0 1 (end.Call op.Arm) 248
    ∷ texts.slice 0 0 1 0 4 end.Quantum 252
    ∷ texts.slice 0 0 0 0 1 (end.Call op.Arm) 254
    ∷ texts.slice 0 0 1 0 4 end.Quantum 258
    ∷ texts.slice 0 0 0 0 1 (end.Call op.Arm) 260
    ∷ texts.slice 0 0 1 0 4 end.Quantum 264
    ∷ texts.slice 0 0 0 0 1 (end.Call op.Arm) 266
    ∷ texts.slice 0 0 1 0 4 end.Quantum 270
    ∷ texts.slice 0 0 0 0 1 (end.Call op.Arm) 272
    ∷ texts.slice 0 0 1 0 4 end.Quantum 276
    ∷ texts.slice 0 0 0 0 1 (end.Call op.Arm) 278
    ∷ texts.slice 0 0 1 0 4 end.Quantum 282
    ∷ texts.slice 0 0 0 0 1 (end.Call op.Arm) 284
    ∷ texts.slice 0 0 1 0 4 end.Quantum 288
    ∷ texts.slice 0 0 0 0 1 (end.Call op.Arm) 290
    ∷ texts.slice 0 0 1 0 4 end.Quantum 294
    ∷ texts.slice 0 0 0 0 1 (end.Call op.Arm) 296
    ∷ texts.slice 0 0 1 0 4 end.Quantum 300
    ∷ texts.slice 0 0 0 0 1 (end.Call op.Arm) 302
    ∷ texts.slice 0 0 1 0 4 end.Quantum 306
    ∷ texts.slice 0 0 0 0 1 (end.Call op.Arm) 308
    ∷ texts.slice 0 0 1 0 4 end.Quantum 312
    ∷ texts.slice 0 0 0 0 1 (end.Call op.Arm) 314
    ∷ texts.slice 0 0 1 0 4 end.Quantum 318
    ∷ texts.slice 0 0 0 0 1 (end.Call op.Arm) 320
    ∷ texts.slice 0 0 1 0 4 end.Quantum 324
    ∷ texts.slice 0 0 0 0 1 (end.Call op.Arm) 326
    ∷ texts.slice 0 0 1 0 4 end.Quantum 330
    ∷ texts.slice 0 0 0 0 1 (end.Call op.Arm) 332
    ∷ texts.slice 0 0 1 0 4 end.Quantum 336
    ∷ texts.slice 0 0 0 0 1 (end.Call op.Arm) 338
    ∷ texts.slice 0 0 1 0 4 end.Quantum 342
    ∷ texts.slice 0 0 0 0 1 (end.Call op.Arm) 344
    ∷ texts.slice 0 0 1 0 4 end.Quantum 348
    ∷ texts.slice 0 0 0 0 1 (end.Call op.Arm) 350
    ∷ texts.slice 0 0 1 0 4 end.Quantum 354
    ∷ texts.slice 0 0 0 0 1 (end.Call op.Arm) 356
    ∷ texts.slice 0 0 1 0 4 end.Quantum 360
    ∷ texts.slice 0 0 0 0 1 (end.Call op.Arm) 362
    ∷ texts.slice 0 0 1 0 4 end.Quantum 366
    ∷ texts.slice 0 0 0 0 1 (end.Call op.Arm) 368
    ∷ texts.slice 0 0 1 0 4 end.Quantum 372
    ∷ texts.slice 0 0 0 0 1 (end.Call op.Arm) 374
    ∷ texts.slice 0 0 1 0 4 end.Quantum 378
    ∷ texts.slice 0 0 0 0 1 (end.Call op.Arm) 380
    ∷ texts.slice 0 0 1 0 4 end.Quantum 384
    ∷ texts.slice 0 0 0 0 1 (end.Trap 10) 385
    ∷ texts.slice 0 0 1 0 4 end.Quantum 389
    ∷ texts.slice 0 0 1 0 4 end.Quantum 393
    ∷ texts.slice 0 0 1 0 4 end.Quantum 397
    ∷ texts.slice 0 0 1 0 4 end.Quantum 401
    ∷ texts.slice 0 0 1 0 4 end.Quantum 405
    ∷ []

abbrev report : List ReportLine
report =
    report_line.core_on 0 Rr 405 (Some 0) (0 ∷ []) 134
    ∷ report_line.block 0 (Some 0) 405 64
    ∷ report_line.disp 0 0 (state.Trapped 10) 1 0
    ∷ report_line.disp 0 1 state.Ready 0 0
    ∷ report_line.ready 0 (1 ∷ [])
    ∷ report_line.cap 0 0 (image_of.signal 0) 7 None
    ∷ report_line.timer 0 65536 0 0 0
    ∷ report_line.timer 0 65542 1 0 0
    ∷ report_line.timer 0 65548 2 0 0
    ∷ report_line.timer 0 65554 3 0 0
    ∷ report_line.timer 0 65560 4 0 0
    ∷ report_line.timer 0 65566 5 0 0
    ∷ report_line.timer 0 65572 6 0 0
    ∷ report_line.timer 0 65578 7 0 0
    ∷ report_line.timer 0 65584 8 0 0
    ∷ report_line.timer 0 65590 9 0 0
    ∷ report_line.timer 0 65596 10 0 0
    ∷ report_line.timer 0 65602 11 0 0
    ∷ report_line.timer 0 65608 12 0 0
    ∷ report_line.timer 0 65614 13 0 0
    ∷ report_line.timer 0 65620 14 0 0
    ∷ report_line.timer 0 65626 15 0 0
    ∷ report_line.timer 0 65632 16 0 0
    ∷ report_line.timer 0 65638 17 0 0
    ∷ report_line.timer 0 65644 18 0 0
    ∷ report_line.timer 0 65650 19 0 0
    ∷ report_line.timer 0 65656 20 0 0
    ∷ report_line.timer 0 65662 21 0 0
    ∷ report_line.timer 0 65668 22 0 0
    ∷ report_line.timer 0 65674 23 0 0
    ∷ report_line.timer 0 65680 24 0 0
    ∷ report_line.timer 0 65686 25 0 0
    ∷ report_line.timer 0 65692 26 0 0
    ∷ report_line.timer 0 65698 27 0 0
    ∷ report_line.timer 0 65704 28 0 0
    ∷ report_line.timer 0 65710 29 0 0
    ∷ report_line.timer 0 65716 30 0 0
    ∷ report_line.timer 0 65722 31 0 0
    ∷ report_line.timer 0 65728 32 0 0
    ∷ report_line.timer 0 65734 33 0 0
    ∷ report_line.timer 0 65740 34 0 0
    ∷ report_line.timer 0 65746 35 0 0
    ∷ report_line.timer 0 65752 36 0 0
    ∷ report_line.timer 0 65758 37 0 0
    ∷ report_line.timer 0 65764 38 0 0
    ∷ report_line.timer 0 65770 39 0 0
    ∷ report_line.timer 0 65776 40 0 0
    ∷ report_line.timer 0 65782 41 0 0
    ∷ report_line.timer 0 65788 42 0 0
    ∷ report_line.timer 0 65794 43 0 0
    ∷ report_line.timer 0 65800 44 0 0
    ∷ report_line.timer 0 65806 45 0 0
    ∷ report_line.timer 0 65812 46 0 0
    ∷ report_line.timer 0 65818 47 0 0
    ∷ report_line.timer 0 65824 48 0 0
    ∷ report_line.timer 0 65830 49 0 0
    ∷ report_line.timer 0 65836 50 0 0
    ∷ report_line.timer 0 65842 51 0 0
    ∷ report_line.timer 0 65848 52 0 0
    ∷ report_line.timer 0 65854 53 0 0
    ∷ report_line.timer 0 65860 54 0 0
    ∷ report_line.timer 0 65866 55 0 0
    ∷ report_line.timer 0 65872 56 0 0
    ∷ report_line.timer 0 65878 57 0 0
    ∷ report_line.timer 0 65884 58 0 0
    ∷ report_line.timer 0 65890 59 0 0
    ∷ report_line.timer 0 65896 60 0 0
    ∷ report_line.timer 0 65902 61 0 0
    ∷ report_line.timer 0 65908 62 0 0
    ∷ report_line.timer 0 65914 63 0 0
    ∷ []

abbrev text : List ℕ
text = texts.lines (
    "0 core 0 slice 0 0 fired 0 ran 1 call arm clock 2"
    ∷ "1 core 0 slice 0 1 fired 0 ran 4 quantum clock 6"
    ∷ "2 core 0 slice 0 0 fired 0 ran 1 call arm clock 8"
    ∷ "3 core 0 slice 0 1 fired 0 ran 4 quantum clock 12"
    ∷ "4 core 0 slice 0 0 fired 0 ran 1 call arm clock 14"
    ∷ "5 core 0 slice 0 1 fired 0 ran 4 quantum clock 18"
    ∷ "6 core 0 slice 0 0 fired 0 ran 1 call arm clock 20"
    ∷ "7 core 0 slice 0 1 fired 0 ran 4 quantum clock 24"
    ∷ "8 core 0 slice 0 0 fired 0 ran 1 call arm clock 26"
    ∷ "9 core 0 slice 0 1 fired 0 ran 4 quantum clock 30"
    ∷ "10 core 0 slice 0 0 fired 0 ran 1 call arm clock 32"
    ∷ "11 core 0 slice 0 1 fired 0 ran 4 quantum clock 36"
    ∷ "12 core 0 slice 0 0 fired 0 ran 1 call arm clock 38"
    ∷ "13 core 0 slice 0 1 fired 0 ran 4 quantum clock 42"
    ∷ "14 core 0 slice 0 0 fired 0 ran 1 call arm clock 44"
    ∷ "15 core 0 slice 0 1 fired 0 ran 4 quantum clock 48"
    ∷ "16 core 0 slice 0 0 fired 0 ran 1 call arm clock 50"
    ∷ "17 core 0 slice 0 1 fired 0 ran 4 quantum clock 54"
    ∷ "18 core 0 slice 0 0 fired 0 ran 1 call arm clock 56"
    ∷ "19 core 0 slice 0 1 fired 0 ran 4 quantum clock 60"
    ∷ "20 core 0 slice 0 0 fired 0 ran 1 call arm clock 62"
    ∷ "21 core 0 slice 0 1 fired 0 ran 4 quantum clock 66"
    ∷ "22 core 0 slice 0 0 fired 0 ran 1 call arm clock 68"
    ∷ "23 core 0 slice 0 1 fired 0 ran 4 quantum clock 72"
    ∷ "24 core 0 slice 0 0 fired 0 ran 1 call arm clock 74"
    ∷ "25 core 0 slice 0 1 fired 0 ran 4 quantum clock 78"
    ∷ "26 core 0 slice 0 0 fired 0 ran 1 call arm clock 80"
    ∷ "27 core 0 slice 0 1 fired 0 ran 4 quantum clock 84"
    ∷ "28 core 0 slice 0 0 fired 0 ran 1 call arm clock 86"
    ∷ "29 core 0 slice 0 1 fired 0 ran 4 quantum clock 90"
    ∷ "30 core 0 slice 0 0 fired 0 ran 1 call arm clock 92"
    ∷ "31 core 0 slice 0 1 fired 0 ran 4 quantum clock 96"
    ∷ "32 core 0 slice 0 0 fired 0 ran 1 call arm clock 98"
    ∷ "33 core 0 slice 0 1 fired 0 ran 4 quantum clock 102"
    ∷ "34 core 0 slice 0 0 fired 0 ran 1 call arm clock 104"
    ∷ "35 core 0 slice 0 1 fired 0 ran 4 quantum clock 108"
    ∷ "36 core 0 slice 0 0 fired 0 ran 1 call arm clock 110"
    ∷ "37 core 0 slice 0 1 fired 0 ran 4 quantum clock 114"
    ∷ "38 core 0 slice 0 0 fired 0 ran 1 call arm clock 116"
    ∷ "39 core 0 slice 0 1 fired 0 ran 4 quantum clock 120"
    ∷ "40 core 0 slice 0 0 fired 0 ran 1 call arm clock 122"
    ∷ "41 core 0 slice 0 1 fired 0 ran 4 quantum clock 126"
    ∷ "42 core 0 slice 0 0 fired 0 ran 1 call arm clock 128"
    ∷ "43 core 0 slice 0 1 fired 0 ran 4 quantum clock 132"
    ∷ "44 core 0 slice 0 0 fired 0 ran 1 call arm clock 134"
    ∷ "45 core 0 slice 0 1 fired 0 ran 4 quantum clock 138"
    ∷ "46 core 0 slice 0 0 fired 0 ran 1 call arm clock 140"
    ∷ "47 core 0 slice 0 1 fired 0 ran 4 quantum clock 144"
    ∷ "48 core 0 slice 0 0 fired 0 ran 1 call arm clock 146"
    ∷ "49 core 0 slice 0 1 fired 0 ran 4 quantum clock 150"
    ∷ "50 core 0 slice 0 0 fired 0 ran 1 call arm clock 152"
    ∷ "51 core 0 slice 0 1 fired 0 ran 4 quantum clock 156"
    ∷ "52 core 0 slice 0 0 fired 0 ran 1 call arm clock 158"
    ∷ "53 core 0 slice 0 1 fired 0 ran 4 quantum clock 162"
    ∷ "54 core 0 slice 0 0 fired 0 ran 1 call arm clock 164"
    ∷ "55 core 0 slice 0 1 fired 0 ran 4 quantum clock 168"
    ∷ "56 core 0 slice 0 0 fired 0 ran 1 call arm clock 170"
    ∷ "57 core 0 slice 0 1 fired 0 ran 4 quantum clock 174"
    ∷ "58 core 0 slice 0 0 fired 0 ran 1 call arm clock 176"
    ∷ "59 core 0 slice 0 1 fired 0 ran 4 quantum clock 180"
    ∷ "60 core 0 slice 0 0 fired 0 ran 1 call arm clock 182"
    ∷ "61 core 0 slice 0 1 fired 0 ran 4 quantum clock 186"
    ∷ "62 core 0 slice 0 0 fired 0 ran 1 call arm clock 188"
    ∷ "63 core 0 slice 0 1 fired 0 ran 4 quantum clock 192"
    ∷ "64 core 0 slice 0 0 fired 0 ran 1 call arm clock 194"
    ∷ "65 core 0 slice 0 1 fired 0 ran 4 quantum clock 198"
    ∷ "66 core 0 slice 0 0 fired 0 ran 1 call arm clock 200"
    ∷ "67 core 0 slice 0 1 fired 0 ran 4 quantum clock 204"
    ∷ "68 core 0 slice 0 0 fired 0 ran 1 call arm clock 206"
    ∷ "69 core 0 slice 0 1 fired 0 ran 4 quantum clock 210"
    ∷ "70 core 0 slice 0 0 fired 0 ran 1 call arm clock 212"
    ∷ "71 core 0 slice 0 1 fired 0 ran 4 quantum clock 216"
    ∷ "72 core 0 slice 0 0 fired 0 ran 1 call arm clock 218"
    ∷ "73 core 0 slice 0 1 fired 0 ran 4 quantum clock 222"
    ∷ "74 core 0 slice 0 0 fired 0 ran 1 call arm clock 224"
    ∷ "75 core 0 slice 0 1 fired 0 ran 4 quantum clock 228"
    ∷ "76 core 0 slice 0 0 fired 0 ran 1 call arm clock 230"
    ∷ "77 core 0 slice 0 1 fired 0 ran 4 quantum clock 234"
    ∷ "78 core 0 slice 0 0 fired 0 ran 1 call arm clock 236"
    ∷ "79 core 0 slice 0 1 fired 0 ran 4 quantum clock 240"
    ∷ "80 core 0 slice 0 0 fired 0 ran 1 call arm clock 242"
    ∷ "81 core 0 slice 0 1 fired 0 ran 4 quantum clock 246"
    ∷ "82 core 0 slice 0 0 fired 0 ran 1 call arm clock 248"
    ∷ "83 core 0 slice 0 1 fired 0 ran 4 quantum clock 252"
    ∷ "84 core 0 slice 0 0 fired 0 ran 1 call arm clock 254"
    ∷ "85 core 0 slice 0 1 fired 0 ran 4 quantum clock 258"
    ∷ "86 core 0 slice 0 0 fired 0 ran 1 call arm clock 260"
    ∷ "87 core 0 slice 0 1 fired 0 ran 4 quantum clock 264"
    ∷ "88 core 0 slice 0 0 fired 0 ran 1 call arm clock 266"
    ∷ "89 core 0 slice 0 1 fired 0 ran 4 quantum clock 270"
    ∷ "90 core 0 slice 0 0 fired 0 ran 1 call arm clock 272"
    ∷ "91 core 0 slice 0 1 fired 0 ran 4 quantum clock 276"
    ∷ "92 core 0 slice 0 0 fired 0 ran 1 call arm clock 278"
    ∷ "93 core 0 slice 0 1 fired 0 ran 4 quantum clock 282"
    ∷ "94 core 0 slice 0 0 fired 0 ran 1 call arm clock 284"
    ∷ "95 core 0 slice 0 1 fired 0 ran 4 quantum clock 288"
    ∷ "96 core 0 slice 0 0 fired 0 ran 1 call arm clock 290"
    ∷ "97 core 0 slice 0 1 fired 0 ran 4 quantum clock 294"
    ∷ "98 core 0 slice 0 0 fired 0 ran 1 call arm clock 296"
    ∷ "99 core 0 slice 0 1 fired 0 ran 4 quantum clock 300"
    ∷ "100 core 0 slice 0 0 fired 0 ran 1 call arm clock 302"
    ∷ "101 core 0 slice 0 1 fired 0 ran 4 quantum clock 306"
    ∷ "102 core 0 slice 0 0 fired 0 ran 1 call arm clock 308"
    ∷ "103 core 0 slice 0 1 fired 0 ran 4 quantum clock 312"
    ∷ "104 core 0 slice 0 0 fired 0 ran 1 call arm clock 314"
    ∷ "105 core 0 slice 0 1 fired 0 ran 4 quantum clock 318"
    ∷ "106 core 0 slice 0 0 fired 0 ran 1 call arm clock 320"
    ∷ "107 core 0 slice 0 1 fired 0 ran 4 quantum clock 324"
    ∷ "108 core 0 slice 0 0 fired 0 ran 1 call arm clock 326"
    ∷ "109 core 0 slice 0 1 fired 0 ran 4 quantum clock 330"
    ∷ "110 core 0 slice 0 0 fired 0 ran 1 call arm clock 332"
    ∷ "111 core 0 slice 0 1 fired 0 ran 4 quantum clock 336"
    ∷ "112 core 0 slice 0 0 fired 0 ran 1 call arm clock 338"
    ∷ "113 core 0 slice 0 1 fired 0 ran 4 quantum clock 342"
    ∷ "114 core 0 slice 0 0 fired 0 ran 1 call arm clock 344"
    ∷ "115 core 0 slice 0 1 fired 0 ran 4 quantum clock 348"
    ∷ "116 core 0 slice 0 0 fired 0 ran 1 call arm clock 350"
    ∷ "117 core 0 slice 0 1 fired 0 ran 4 quantum clock 354"
    ∷ "118 core 0 slice 0 0 fired 0 ran 1 call arm clock 356"
    ∷ "119 core 0 slice 0 1 fired 0 ran 4 quantum clock 360"
    ∷ "120 core 0 slice 0 0 fired 0 ran 1 call arm clock 362"
    ∷ "121 core 0 slice 0 1 fired 0 ran 4 quantum clock 366"
    ∷ "122 core 0 slice 0 0 fired 0 ran 1 call arm clock 368"
    ∷ "123 core 0 slice 0 1 fired 0 ran 4 quantum clock 372"
    ∷ "124 core 0 slice 0 0 fired 0 ran 1 call arm clock 374"
    ∷ "125 core 0 slice 0 1 fired 0 ran 4 quantum clock 378"
    ∷ "126 core 0 slice 0 0 fired 0 ran 1 call arm clock 380"
    ∷ "127 core 0 slice 0 1 fired 0 ran 4 quantum clock 384"
    ∷ "128 core 0 slice 0 0 fired 0 ran 1 trap 10 clock 385"
    ∷ "129 core 0 slice 0 1 fired 0 ran 4 quantum clock 389"
    ∷ "130 core 0 slice 0 1 fired 0 ran 4 quantum clock 393"
    ∷ "131 core 0 slice 0 1 fired 0 ran 4 quantum clock 397"
    ∷ "132 core 0 slice 0 1 fired 0 ran 4 quantum clock 401"
    ∷ "133 core 0 slice 0 1 fired 0 ran 4 quantum clock 405"
    ∷ "report"
    ∷ "core 0 on rr clock 405 home 0 share 0 used 134"
    ∷ "block 0 core 0 time 405 armed 64"
    ∷ "disp 0 0 trap 10 place 1 due 0"
    ∷ "disp 0 1 ready place 0 due 0"
    ∷ "ready 0 1"
    ∷ "cap 0 0 signal 0 rights 7 parent -"
    ∷ "timer 0 65536 0 0 0"
    ∷ "timer 0 65542 1 0 0"
    ∷ "timer 0 65548 2 0 0"
    ∷ "timer 0 65554 3 0 0"
    ∷ "timer 0 65560 4 0 0"
    ∷ "timer 0 65566 5 0 0"
    ∷ "timer 0 65572 6 0 0"
    ∷ "timer 0 65578 7 0 0"
    ∷ "timer 0 65584 8 0 0"
    ∷ "timer 0 65590 9 0 0"
    ∷ "timer 0 65596 10 0 0"
    ∷ "timer 0 65602 11 0 0"
    ∷ "timer 0 65608 12 0 0"
    ∷ "timer 0 65614 13 0 0"
    ∷ "timer 0 65620 14 0 0"
    ∷ "timer 0 65626 15 0 0"
    ∷ "timer 0 65632 16 0 0"
    ∷ "timer 0 65638 17 0 0"
    ∷ "timer 0 65644 18 0 0"
    ∷ "timer 0 65650 19 0 0"
    ∷ "timer 0 65656 20 0 0"
    ∷ "timer 0 65662 21 0 0"
    ∷ "timer 0 65668 22 0 0"
    ∷ "timer 0 65674 23 0 0"
    ∷ "timer 0 65680 24 0 0"
    ∷ "timer 0 65686 25 0 0"
    ∷ "timer 0 65692 26 0 0"
    ∷ "timer 0 65698 27 0 0"
    ∷ "timer 0 65704 28 0 0"
    ∷ "timer 0 65710 29 0 0"
    ∷ "timer 0 65716 30 0 0"
    ∷ "timer 0 65722 31 0 0"
    ∷ "timer 0 65728 32 0 0"
    ∷ "timer 0 65734 33 0 0"
    ∷ "timer 0 65740 34 0 0"
    ∷ "timer 0 65746 35 0 0"
    ∷ "timer 0 65752 36 0 0"
    ∷ "timer 0 65758 37 0 0"
    ∷ "timer 0 65764 38 0 0"
    ∷ "timer 0 65770 39 0 0"
    ∷ "timer 0 65776 40 0 0"
    ∷ "timer 0 65782 41 0 0"
    ∷ "timer 0 65788 42 0 0"
    ∷ "timer 0 65794 43 0 0"
    ∷ "timer 0 65800 44 0 0"
    ∷ "timer 0 65806 45 0 0"
    ∷ "timer 0 65812 46 0 0"
    ∷ "timer 0 65818 47 0 0"
    ∷ "timer 0 65824 48 0 0"
    ∷ "timer 0 65830 49 0 0"
    ∷ "timer 0 65836 50 0 0"
    ∷ "timer 0 65842 51 0 0"
    ∷ "timer 0 65848 52 0 0"
    ∷ "timer 0 65854 53 0 0"
    ∷ "timer 0 65860 54 0 0"
    ∷ "timer 0 65866 55 0 0"
    ∷ "timer 0 65872 56 0 0"
    ∷ "timer 0 65878 57 0 0"
    ∷ "timer 0 65884 58 0 0"
    ∷ "timer 0 65890 59 0 0"
    ∷ "timer 0 65896 60 0 0"
    ∷ "timer 0 65902 61 0 0"
    ∷ "timer 0 65908 62 0 0"
    ∷ "timer 0 65914 63 0 0"
    ∷ "skipped 0"
    ∷ "end"
    ∷ [])

is_played : played image script schedule ≡ record {
  journal = journal;
  skipped = 0;
  reasons = [];
  report = report;
  text = text;
  again = journal;
}
unfolding machine_with_cores whole_texts
is_played = refl

is_judged : judged image script journal ≡ record { is_run = true; shown = Some (all_shown_by report) }
unfolding machine_of_blocks
is_judged = refl

-- each entry touches what the table says
is_tabled : tabled image script schedule ≡ true
unfolding machine_with_cores
is_tabled = refl

-- each block is reported once, on the core that holds it or at rest
is_none_lost : blocks_reported report ≡ blocks_held (image_origin image script) journal
unfolding machine_of_blocks
is_none_lost = refl

-- the journal has told what the state shows
is_told : option_map facts_told (run image script journal)
    ≡ option_map (facts_of (core_run image script schedule).state) (run image script journal)
unfolding machine_with_cores machine_of_blocks
is_told = refl

-- journals that are changed, and the first bad entry of each
are_changed : first_bads image script (
    with_line 34 (texts.slice 0 0 0 0 1 (end.Call op.Arm) 103) journal
    ∷ without_line 65 journal
    ∷ [])
    ≡ Some 34 ∷ Some 65 ∷ []
unfolding machine_of_blocks
are_changed = refl
