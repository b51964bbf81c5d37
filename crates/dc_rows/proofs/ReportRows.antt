-- Lines of reports, spelled.
use Rattle.std.specs.Prelude.{◌≡◌, List, [], ◌∷◌, codes, map, refl, Some, None}
use Prim.Native.String.{String}
use Rattle.dc_base.specs.declared.kernels.Version.TheVariants.{Rr, Edf}
use Rattle.dc_base.specs.declared.dispatchers.DispState.TheVariants as state
use Rattle.dc_base.specs.declared.reports.ReportLine.{ReportLine}
use Rattle.dc_base.specs.ReportText.{report_line_text}
use Rattle.dc_rows.specs.Computed.{whole_texts}
use Rattle.dc_rows.specs.Images as image_of
use Rattle.dc_rows.specs.Reports as report_line

-- a line, and what it tells
record Row : Type 0 where
  line : String
  told : ReportLine

abbrev row : String → ReportLine → Row
row line told = record { line = line; told = told }

abbrev rows : List Row
rows =
    row "core 1 off clock 0 used 0" (report_line.core_off 1 0 0)
    ∷ row "core 0 on edf clock 1000002 home - share - used 1" (report_line.core_on 0 Edf 1000002 None [] 1)
    ∷ row "core 0 on rr clock 16 home 0 share 0,1 used 4" (report_line.core_on 0 Rr 16 (Some 0) (0 ∷ 1 ∷ []) 4)
    ∷ row "block 8 rest time 7 armed 64" (report_line.block 8 None 7 64)
    ∷ row "disp 0 0 trap 4 place 5 due 0" (report_line.disp 0 0 (state.Trapped 4) 5 0)
    ∷ row "disp 0 0 wait send 0 place 0 due 0" (report_line.disp 0 0 (report_line.waits_send 0) 0 0)
    ∷ row "ready 0 1,2,0" (report_line.ready 0 (1 ∷ 2 ∷ 0 ∷ []))
    ∷ row "cap 0 0 ram 0 100 rights 7 parent -" (report_line.cap 0 0 (image_of.ram 0 100) 7 None)
    ∷ row "cap 0 1 frame 0 50 rights 7 parent 0" (report_line.cap 0 1 (image_of.frame 0 50) 7 (Some 0))
    ∷ row "cap 1 2 line 0 rights 7 parent -" (report_line.cap 1 2 (image_of.line 0) 7 None)
    ∷ row "timer 0 65662 63 0 0" (report_line.timer 0 65662 63 0 0)
    ∷ row "port 0 0 1 2 3 4" (report_line.port 0 0 1 2 3 4)
    ∷ row "signal 0 0 line 0 1" (report_line.signal 0 0 (report_line.from_line 0) 1)
    ∷ row "signal 0 2 timer 1" (report_line.signal 0 2 report_line.from_timer 1)
    ∷ row "channel 0 sent 2 taken 2" (report_line.channel 0 2 2)
    ∷ row "message 0 1 0 0 0" (report_line.message 0 1 0 0 0)
    ∷ row "line 0 to 0 0 route 1 raised 2 stray 0 pending 0 merged 1 latched 0 joined 0 delivered 1" (report_line.wire 0 (Some (0, 0)) (Some 1) 2 0 0 1 0 0 1)
    ∷ row "line 0 to - - route - raised 0 stray 0 pending 0 merged 0 latched 0 joined 0 delivered 0" (report_line.wire 0 None None 0 0 0 0 0 0 0)
    ∷ row "offer 0 0 rights 7" (report_line.offer 0 0 7)
    ∷ []

are_spelled : map (λ (r : Row). report_line_text r.told) rows ≡ map (λ (r : Row). codes r.line) rows
unfolding whole_texts
are_spelled = refl
