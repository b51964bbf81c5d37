use Rattle.std.proofs.Common.{sym, arith}
use Rattle.std.proofs.lemmas.Option.{slice_get_within}
use Rattle.dc_report.proofs.DispParts.{disp_parts}
use Rattle.dc_report.proofs.PartLaws.{disp_told, disps_over}
use Rattle.dc_report.proofs.Telling.{instead}
use Rattle.dc_report.proofs.disps.disp.Goals as goal

pub overflow_add-result : goal.overflow_add-result
overflow_add-result g c =
    let x = c.args.block.now.control in
    let is = disp_parts x c.args.d c.in-Some.disp (sym c.in-Some.ensures) in
    let within = slice_get_within x.states c.args.d c.in-Some.disp.state is.state in
    let most = c.requires.disps in
    omega (arith, within, most)

pub returns-in-Some : goal.returns-in-Some
returns-in-Some g c = disp_told c.args.b c.args.block.now c.args.d c.in-Some.disp (sym c.in-Some.ensures)

pub returns-in-None : goal.returns-in-None
returns-in-None g c = instead _ _ _ _ (disps_over c.args.b c.args.block.now c.args.d c.requires (sym c.in-None.ensures)) c.ready.ensures
