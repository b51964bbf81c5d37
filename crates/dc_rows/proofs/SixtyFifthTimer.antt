-- A sixty-fifth timer.
-- Made by tools/worked_examples.py from examples/SixtyFifthTimer.
use Rattle.std.specs.Prelude.{◌≡◌, ℕ, List, [], ◌∷◌, refl, true, None, Some}
use Rattle.std.specs.Option.{option_map}
use Rattle.dc_base.specs.declared.images.Image.{Image}
use Rattle.dc_base.specs.declared.kernels.Version.TheVariants.{Rr}
use Rattle.dc_base.specs.declared.kernels.Clocks.TheVariants.{Kept}
use Rattle.dc_base.specs.declared.actions.Actor.{Actor}
use Rattle.dc_base.specs.declared.actions.Action.{Action}
use Rattle.dc_base.specs.declared.calls.Op.TheVariants as op
use Rattle.dc_base.specs.declared.calls.End.TheVariants as end
use Rattle.dc_base.specs.declared.commands.ScriptLine.{ScriptLine}
use Rattle.dc_base.specs.declared.entries.Entry.{Entry}
use Rattle.dc_base.specs.declared.reports.ReportLine.{ReportLine}
use Rattle.dc_base.specs.declared.dispatchers.DispState.TheVariants as state
use Rattle.dc_base.specs.Runs.{run}
use Rattle.dc_base.specs.CoreRuns.{core_run}
use Rattle.dc_base.specs.Origins.{image_origin}
use Rattle.dc_base.specs.Shown.{all_shown_by}
use Rattle.dc_base.specs.Headline.{blocks_reported, blocks_held}
use Rattle.dc_rows.specs.Computed.{machine_of_blocks, machine_with_cores, whole_texts}
use Rattle.dc_rows.specs.Facts.{facts_told, facts_of}
use Rattle.dc_rows.specs.Images as image_of
use Rattle.dc_rows.specs.Played.{played, judged, first_bads}
use Rattle.dc_rows.specs.Reports as report_line
use Rattle.dc_rows.specs.Tabled.{tabled}
use Rattle.dc_rows.specs.Texts as texts
use Rattle.dc_rows.specs.WrongJournals.{with_line, without_line}

abbrev image : Image
image = record {
  format = 1;
  clocks = Kept;
  quantum = 64;
  slices = 100;
  lines = 0;
  cores =
      image_of.core 0 Rr ∷ [];
  blocks =
      record {
        home = image_of.home 0;
        memory = [];
        ports = 0;
        signals = 1;
        disps =
            record {
              code =
                  34603009  -- lih r1 1
                  ∷ 654376960  -- arm s0 r1 0
                  ∷ 251658241  -- jmp 1
                  ∷ [];
              period = 1;
              due = 0;
              caps =
                  image_of.cap 0 (image_of.signal 0) 7 ∷ [];
            }
            ∷ [];
      }
      ∷ [];
  channels = [];
}

abbrev script : List ScriptLine
script = []

abbrev schedule : List (Actor × Action)
schedule =
    texts.step 0 ∷ texts.step 0 ∷ texts.step 0 ∷ texts.step 0 ∷ texts.step 0 ∷ texts.step 0 ∷ texts.step 0 ∷ texts.step 0 ∷ texts.step 0 ∷ texts.step 0
    ∷ texts.step 0 ∷ texts.step 0 ∷ texts.step 0 ∷ texts.step 0 ∷ texts.step 0 ∷ texts.step 0 ∷ texts.step 0 ∷ texts.step 0 ∷ texts.step 0 ∷ texts.step 0
    ∷ texts.step 0 ∷ texts.step 0 ∷ texts.step 0 ∷ texts.step 0 ∷ texts.step 0 ∷ texts.step 0 ∷ texts.step 0 ∷ texts.step 0 ∷ texts.step 0 ∷ texts.step 0
    ∷ texts.step 0 ∷ texts.step 0 ∷ texts.step 0 ∷ texts.step 0 ∷ texts.step 0 ∷ texts.step 0 ∷ texts.step 0 ∷ texts.step 0 ∷ texts.step 0 ∷ texts.step 0
    ∷ texts.step 0 ∷ texts.step 0 ∷ texts.step 0 ∷ texts.step 0 ∷ texts.step 0 ∷ texts.step 0 ∷ texts.step 0 ∷ texts.step 0 ∷ texts.step 0 ∷ texts.step 0
    ∷ texts.step 0 ∷ texts.step 0 ∷ texts.step 0 ∷ texts.step 0 ∷ texts.step 0 ∷ texts.step 0 ∷ texts.step 0 ∷ texts.step 0 ∷ texts.step 0 ∷ texts.step 0
    ∷ texts.step 0 ∷ texts.step 0 ∷ texts.step 0 ∷ texts.step 0 ∷ texts.step 0 ∷ []

abbrev journal : List Entry
journal =
    texts.slice 0 0 0 0 1 (end.Call op.Arm) 2
    ∷ texts.slice 0 0 0 0 1 (end.Call op.Arm) 4
    ∷ texts.slice 0 0 0 0 1 (end.Call op.Arm) 6
    ∷ texts.slice 0 0 0 0 1 (end.Call op.Arm) 8
    ∷ texts.slice 0 0 0 0 1 (end.Call op.Arm) 10
    ∷ texts.slice 0 0 0 0 1 (end.Call op.Arm) 12
    ∷ texts.slice 0 0 0 0 1 (end.Call op.Arm) 14
    ∷ texts.slice 0 0 0 0 1 (end.Call op.Arm) 16
    ∷ texts.slice 0 0 0 0 1 (end.Call op.Arm) 18
    ∷ texts.slice 0 0 0 0 1 (end.Call op.Arm) 20
    ∷ texts.slice 0 0 0 0 1 (end.Call op.Arm) 22
    ∷ texts.slice 0 0 0 0 1 (end.Call op.Arm) 24
    ∷ texts.slice 0 0 0 0 1 (end.Call op.Arm) 26
    ∷ texts.slice 0 0 0 0 1 (end.Call op.Arm) 28
    ∷ texts.slice 0 0 0 0 1 (end.Call op.Arm) 30
    ∷ texts.slice 0 0 0 0 1 (end.Call op.Arm) 32
    ∷ texts.slice 0 0 0 0 1 (end.Call op.Arm) 34
    ∷ texts.slice 0 0 0 0 1 (end.Call op.Arm) 36
    ∷ texts.slice 0 0 0 0 1 (end.Call op.Arm) 38
    ∷ texts.slice 0 0 0 0 1 (end.Call op.Arm) 40
    ∷ texts.slice 0 0 0 0 1 (end.Call op.Arm) 42
    ∷ texts.slice 0 0 0 0 1 (end.Call op.Arm) 44
    ∷ texts.slice 0 0 0 0 1 (end.Call op.Arm) 46
    ∷ texts.slice 0 0 0 0 1 (end.Call op.Arm) 48
    ∷ texts.slice 0 0 0 0 1 (end.Call op.Arm) 50
    ∷ texts.slice 0 0 0 0 1 (end.Call op.Arm) 52
    ∷ texts.slice 0 0 0 0 1 (end.Call op.Arm) 54
    ∷ texts.slice 0 0 0 0 1 (end.Call op.Arm) 56
    ∷ texts.slice 0 0 0 0 1 (end.Call op.Arm) 58
    ∷ texts.slice 0 0 0 0 1 (end.Call op.Arm) 60
    ∷ texts.slice 0 0 0 0 1 (end.Call op.Arm) 62
    ∷ texts.slice 0 0 0 0 1 (end.Call op.Arm) 64
    ∷ texts.slice 0 0 0 0 1 (end.Call op.Arm) 66
    ∷ texts.slice 0 0 0 0 1 (end.Call op.Arm) 68
    ∷ texts.slice 0 0 0 0 1 (end.Call op.Arm) 70
    ∷ texts.slice 0 0 0 0 1 (end.Call op.Arm) 72
    ∷ texts.slice 0 0 0 0 1 (end.Call op.Arm) 74
    ∷ texts.slice 0 0 0 0 1 (end.Call op.Arm) 76
    ∷ texts.slice 0 0 0 0 1 (end.Call op.Arm) 78
    ∷ texts.slice 0 0 0 0 1 (end.Call op.Arm) 80
    ∷ texts.slice 0 0 0 0 1 (end.Call op.Arm) 82
    ∷ texts.slice 0 0 0 0 1 (end.Call op.Arm) 84
    ∷ texts.slice 0 0 0 0 1 (end.Call op.Arm) 86
    ∷ texts.slice 0 0 0 0 1 (end.Call op.Arm) 88
    ∷ texts.slice 0 0 0 0 1 (end.Call op.Arm) 90
    ∷ texts.slice 0 0 0 0 1 (end.Call op.Arm) 92
    ∷ texts.slice 0 0 0 0 1 (end.Call op.Arm) 94
    ∷ texts.slice 0 0 0 0 1 (end.Call op.Arm) 96
    ∷ texts.slice 0 0 0 0 1 (end.Call op.Arm) 98
    ∷ texts.slice 0 0 0 0 1 (end.Call op.Arm) 100
    ∷ texts.slice 0 0 0 0 1 (end.Call op.Arm) 102
    ∷ texts.slice 0 0 0 0 1 (end.Call op.Arm) 104
    ∷ texts.slice 0 0 0 0 1 (end.Call op.Arm) 106
    ∷ texts.slice 0 0 0 0 1 (end.Call op.Arm) 108
    ∷ texts.slice 0 0 0 0 1 (end.Call op.Arm) 110
    ∷ texts.slice 0 0 0 0 1 (end.Call op.Arm) 112
    ∷ texts.slice 0 0 0 0 1 (end.Call op.Arm) 114
    ∷ texts.slice 0 0 0 0 1 (end.Call op.Arm) 116
    ∷ texts.slice 0 0 0 0 1 (end.Call op.Arm) 118
    ∷ texts.slice 0 0 0 0 1 (end.Call op.Arm) 120
    ∷ texts.slice 0 0 0 0 1 (end.Call op.Arm) 122
    ∷ texts.slice 0 0 0 0 1 (end.Call op.Arm) 124
    ∷ texts.slice 0 0 0 0 1 (end.Call op.Arm) 126
    ∷ texts.slice 0 0 0 0 1 (end.Call op.Arm) 128
    ∷ texts.slice 0 0 0 0 1 (end.Trap 10) 129
    ∷ []

abbrev report : List ReportLine
report =
    report_line.core_on 0 Rr 129 (Some 0) (0 ∷ []) 65
    ∷ report_line.block 0 (Some 0) 129 64
    ∷ report_line.disp 0 0 (state.Trapped 10) 1 0
    ∷ report_line.ready 0 []
    ∷ report_line.cap 0 0 (image_of.signal 0) 7 None
    ∷ report_line.timer 0 65536 0 0 0
    ∷ report_line.timer 0 65538 1 0 0
    ∷ report_line.timer 0 65540 2 0 0
    ∷ report_line.timer 0 65542 3 0 0
    ∷ report_line.timer 0 65544 4 0 0
    ∷ report_line.timer 0 65546 5 0 0
    ∷ report_line.timer 0 65548 6 0 0
    ∷ report_line.timer 0 65550 7 0 0
    ∷ report_line.timer 0 65552 8 0 0
    ∷ report_line.timer 0 65554 9 0 0
    ∷ report_line.timer 0 65556 10 0 0
    ∷ report_line.timer 0 65558 11 0 0
    ∷ report_line.timer 0 65560 12 0 0
    ∷ report_line.timer 0 65562 13 0 0
    ∷ report_line.timer 0 65564 14 0 0
    ∷ report_line.timer 0 65566 15 0 0
    ∷ report_line.timer 0 65568 16 0 0
    ∷ report_line.timer 0 65570 17 0 0
    ∷ report_line.timer 0 65572 18 0 0
    ∷ report_line.timer 0 65574 19 0 0
    ∷ report_line.timer 0 65576 20 0 0
    ∷ report_line.timer 0 65578 21 0 0
    ∷ report_line.timer 0 65580 22 0 0
    ∷ report_line.timer 0 65582 23 0 0
    ∷ report_line.timer 0 65584 24 0 0
    ∷ report_line.timer 0 65586 25 0 0
    ∷ report_line.timer 0 65588 26 0 0
    ∷ report_line.timer 0 65590 27 0 0
    ∷ report_line.timer 0 65592 28 0 0
    ∷ report_line.timer 0 65594 29 0 0
    ∷ report_line.timer 0 65596 30 0 0
    ∷ report_line.timer 0 65598 31 0 0
    ∷ report_line.timer 0 65600 32 0 0
    ∷ report_line.timer 0 65602 33 0 0
    ∷ report_line.timer 0 65604 34 0 0
    ∷ report_line.timer 0 65606 35 0 0
    ∷ report_line.timer 0 65608 36 0 0
    ∷ report_line.timer 0 65610 37 0 0
    ∷ report_line.timer 0 65612 38 0 0
    ∷ report_line.timer 0 65614 39 0 0
    ∷ report_line.timer 0 65616 40 0 0
    ∷ report_line.timer 0 65618 41 0 0
    ∷ report_line.timer 0 65620 42 0 0
    ∷ report_line.timer 0 65622 43 0 0
    ∷ report_line.timer 0 65624 44 0 0
    ∷ report_line.timer 0 65626 45 0 0
    ∷ report_line.timer 0 65628 46 0 0
    ∷ report_line.timer 0 65630 47 0 0
    ∷ report_line.timer 0 65632 48 0 0
    ∷ report_line.timer 0 65634 49 0 0
    ∷ report_line.timer 0 65636 50 0 0
    ∷ report_line.timer 0 65638 51 0 0
    ∷ report_line.timer 0 65640 52 0 0
    ∷ report_line.timer 0 65642 53 0 0
    ∷ report_line.timer 0 65644 54 0 0
    ∷ report_line.timer 0 65646 55 0 0
    ∷ report_line.timer 0 65648 56 0 0
    ∷ report_line.timer 0 65650 57 0 0
    ∷ report_line.timer 0 65652 58 0 0
    ∷ report_line.timer 0 65654 59 0 0
    ∷ report_line.timer 0 65656 60 0 0
    ∷ report_line.timer 0 65658 61 0 0
    ∷ report_line.timer 0 65660 62 0 0
    ∷ report_line.timer 0 65662 63 0 0
    ∷ []

abbrev text : List ℕ
text = texts.lines (
    "0 core 0 slice 0 0 fired 0 ran 1 call arm clock 2"
    ∷ "1 core 0 slice 0 0 fired 0 ran 1 call arm clock 4"
    ∷ "2 core 0 slice 0 0 fired 0 ran 1 call arm clock 6"
    ∷ "3 core 0 slice 0 0 fired 0 ran 1 call arm clock 8"
    ∷ "4 core 0 slice 0 0 fired 0 ran 1 call arm clock 10"
    ∷ "5 core 0 slice 0 0 fired 0 ran 1 call arm clock 12"
    ∷ "6 core 0 slice 0 0 fired 0 ran 1 call arm clock 14"
    ∷ "7 core 0 slice 0 0 fired 0 ran 1 call arm clock 16"
    ∷ "8 core 0 slice 0 0 fired 0 ran 1 call arm clock 18"
    ∷ "9 core 0 slice 0 0 fired 0 ran 1 call arm clock 20"
    ∷ "10 core 0 slice 0 0 fired 0 ran 1 call arm clock 22"
    ∷ "11 core 0 slice 0 0 fired 0 ran 1 call arm clock 24"
    ∷ "12 core 0 slice 0 0 fired 0 ran 1 call arm clock 26"
    ∷ "13 core 0 slice 0 0 fired 0 ran 1 call arm clock 28"
    ∷ "14 core 0 slice 0 0 fired 0 ran 1 call arm clock 30"
    ∷ "15 core 0 slice 0 0 fired 0 ran 1 call arm clock 32"
    ∷ "16 core 0 slice 0 0 fired 0 ran 1 call arm clock 34"
    ∷ "17 core 0 slice 0 0 fired 0 ran 1 call arm clock 36"
    ∷ "18 core 0 slice 0 0 fired 0 ran 1 call arm clock 38"
    ∷ "19 core 0 slice 0 0 fired 0 ran 1 call arm clock 40"
    ∷ "20 core 0 slice 0 0 fired 0 ran 1 call arm clock 42"
    ∷ "21 core 0 slice 0 0 fired 0 ran 1 call arm clock 44"
    ∷ "22 core 0 slice 0 0 fired 0 ran 1 call arm clock 46"
    ∷ "23 core 0 slice 0 0 fired 0 ran 1 call arm clock 48"
    ∷ "24 core 0 slice 0 0 fired 0 ran 1 call arm clock 50"
    ∷ "25 core 0 slice 0 0 fired 0 ran 1 call arm clock 52"
    ∷ "26 core 0 slice 0 0 fired 0 ran 1 call arm clock 54"
    ∷ "27 core 0 slice 0 0 fired 0 ran 1 call arm clock 56"
    ∷ "28 core 0 slice 0 0 fired 0 ran 1 call arm clock 58"
    ∷ "29 core 0 slice 0 0 fired 0 ran 1 call arm clock 60"
    ∷ "30 core 0 slice 0 0 fired 0 ran 1 call arm clock 62"
    ∷ "31 core 0 slice 0 0 fired 0 ran 1 call arm clock 64"
    ∷ "32 core 0 slice 0 0 fired 0 ran 1 call arm clock 66"
    ∷ "33 core 0 slice 0 0 fired 0 ran 1 call arm clock 68"
    ∷ "34 core 0 slice 0 0 fired 0 ran 1 call arm clock 70"
    ∷ "35 core 0 slice 0 0 fired 0 ran 1 call arm clock 72"
    ∷ "36 core 0 slice 0 0 fired 0 ran 1 call arm clock 74"
    ∷ "37 core 0 slice 0 0 fired 0 ran 1 call arm clock 76"
    ∷ "38 core 0 slice 0 0 fired 0 ran 1 call arm clock 78"
    ∷ "39 core 0 slice 0 0 fired 0 ran 1 call arm clock 80"
    ∷ "40 core 0 slice 0 0 fired 0 ran 1 call arm clock 82"
    ∷ "41 core 0 slice 0 0 fired 0 ran 1 call arm clock 84"
    ∷ "42 core 0 slice 0 0 fired 0 ran 1 call arm clock 86"
    ∷ "43 core 0 slice 0 0 fired 0 ran 1 call arm clock 88"
    ∷ "44 core 0 slice 0 0 fired 0 ran 1 call arm clock 90"
    ∷ "45 core 0 slice 0 0 fired 0 ran 1 call arm clock 92"
    ∷ "46 core 0 slice 0 0 fired 0 ran 1 call arm clock 94"
    ∷ "47 core 0 slice 0 0 fired 0 ran 1 call arm clock 96"
    ∷ "48 core 0 slice 0 0 fired 0 ran 1 call arm clock 98"
    ∷ "49 core 0 slice 0 0 fired 0 ran 1 call arm clock 100"
    ∷ "50 core 0 slice 0 0 fired 0 ran 1 call arm clock 102"
    ∷ "51 core 0 slice 0 0 fired 0 ran 1 call arm clock 104"
    ∷ "52 core 0 slice 0 0 fired 0 ran 1 call arm clock 106"
    ∷ "53 core 0 slice 0 0 fired 0 ran 1 call arm clock 108"
    ∷ "54 core 0 slice 0 0 fired 0 ran 1 call arm clock 110"
    ∷ "55 core 0 slice 0 0 fired 0 ran 1 call arm clock 112"
    ∷ "56 core 0 slice 0 0 fired 0 ran 1 call arm clock 114"
    ∷ "57 core 0 slice 0 0 fired 0 ran 1 call arm clock 116"
    ∷ "58 core 0 slice 0 0 fired 0 ran 1 call arm clock 118"
    ∷ "59 core 0 slice 0 0 fired 0 ran 1 call arm clock 120"
    ∷ "60 core 0 slice 0 0 fired 0 ran 1 call arm clock 122"
    ∷ "61 core 0 slice 0 0 fired 0 ran 1 call arm clock 124"
    ∷ "62 core 0 slice 0 0 fired 0 ran 1 call arm clock 126"
    ∷ "63 core 0 slice 0 0 fired 0 ran 1 call arm clock 128"
    ∷ "64 core 0 slice 0 0 fired 0 ran 1 trap 10 clock 129"
    ∷ "report"
    ∷ "core 0 on rr clock 129 home 0 share 0 used 65"
    ∷ "block 0 core 0 time 129 armed 64"
    ∷ "disp 0 0 trap 10 place 1 due 0"
    ∷ "ready 0 -"
    ∷ "cap 0 0 signal 0 rights 7 parent -"
    ∷ "timer 0 65536 0 0 0"
    ∷ "timer 0 65538 1 0 0"
    ∷ "timer 0 65540 2 0 0"
    ∷ "timer 0 65542 3 0 0"
    ∷ "timer 0 65544 4 0 0"
    ∷ "timer 0 65546 5 0 0"
    ∷ "timer 0 65548 6 0 0"
    ∷ "timer 0 65550 7 0 0"
    ∷ "timer 0 65552 8 0 0"
    ∷ "timer 0 65554 9 0 0"
    ∷ "timer 0 65556 10 0 0"
    ∷ "timer 0 65558 11 0 0"
    ∷ "timer 0 65560 12 0 0"
    ∷ "timer 0 65562 13 0 0"
    ∷ "timer 0 65564 14 0 0"
    ∷ "timer 0 65566 15 0 0"
    ∷ "timer 0 65568 16 0 0"
    ∷ "timer 0 65570 17 0 0"
    ∷ "timer 0 65572 18 0 0"
    ∷ "timer 0 65574 19 0 0"
    ∷ "timer 0 65576 20 0 0"
    ∷ "timer 0 65578 21 0 0"
    ∷ "timer 0 65580 22 0 0"
    ∷ "timer 0 65582 23 0 0"
    ∷ "timer 0 65584 24 0 0"
    ∷ "timer 0 65586 25 0 0"
    ∷ "timer 0 65588 26 0 0"
    ∷ "timer 0 65590 27 0 0"
    ∷ "timer 0 65592 28 0 0"
    ∷ "timer 0 65594 29 0 0"
    ∷ "timer 0 65596 30 0 0"
    ∷ "timer 0 65598 31 0 0"
    ∷ "timer 0 65600 32 0 0"
    ∷ "timer 0 65602 33 0 0"
    ∷ "timer 0 65604 34 0 0"
    ∷ "timer 0 65606 35 0 0"
    ∷ "timer 0 65608 36 0 0"
    ∷ "timer 0 65610 37 0 0"
    ∷ "timer 0 65612 38 0 0"
    ∷ "timer 0 65614 39 0 0"
    ∷ "timer 0 65616 40 0 0"
    ∷ "timer 0 65618 41 0 0"
    ∷ "timer 0 65620 42 0 0"
    ∷ "timer 0 65622 43 0 0"
    ∷ "timer 0 65624 44 0 0"
    ∷ "timer 0 65626 45 0 0"
    ∷ "timer 0 65628 46 0 0"
    ∷ "timer 0 65630 47 0 0"
    ∷ "timer 0 65632 48 0 0"
    ∷ "timer 0 65634 49 0 0"
    ∷ "timer 0 65636 50 0 0"
    ∷ "timer 0 65638 51 0 0"
    ∷ "timer 0 65640 52 0 0"
    ∷ "timer 0 65642 53 0 0"
    ∷ "timer 0 65644 54 0 0"
    ∷ "timer 0 65646 55 0 0"
    ∷ "timer 0 65648 56 0 0"
    ∷ "timer 0 65650 57 0 0"
    ∷ "timer 0 65652 58 0 0"
    ∷ "timer 0 65654 59 0 0"
    ∷ "timer 0 65656 60 0 0"
    ∷ "timer 0 65658 61 0 0"
    ∷ "timer 0 65660 62 0 0"
    ∷ "timer 0 65662 63 0 0"
    ∷ "skipped 0"
    ∷ "end"
    ∷ [])

is_played : played image script schedule ≡ record {
  journal = journal;
  skipped = 0;
  reasons = [];
  report = report;
  text = text;
  again = journal;
}
unfolding machine_with_cores whole_texts
is_played = refl

is_judged : judged image script journal ≡ record { is_run = true; shown = Some (all_shown_by report) }
unfolding machine_of_blocks
is_judged = refl

-- each entry touches what the table says
is_tabled : tabled image script schedule ≡ true
unfolding machine_with_cores
is_tabled = refl

-- each block is reported once, on the core that holds it or at rest
is_none_lost : blocks_reported report ≡ blocks_held (image_origin image script) journal
unfolding machine_of_blocks
is_none_lost = refl

-- the journal has told what the state shows
is_told : option_map facts_told (run image script journal)
    ≡ option_map (facts_of (core_run image script schedule).state) (run image script journal)
unfolding machine_with_cores machine_of_blocks
is_told = refl

-- journals that are changed, and the first bad entry of each
are_changed : first_bads image script (
    with_line 17 (texts.slice 0 0 0 0 1 (end.Call op.Arm) 35) journal
    ∷ without_line 32 journal
    ∷ [])
    ≡ Some 17 ∷ Some 32 ∷ []
unfolding machine_of_blocks
are_changed = refl
