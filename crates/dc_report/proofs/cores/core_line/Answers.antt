use Rattle.std.proofs.Common.{sym, ap, ◌∙◌, map}
use Rattle.dc_base.specs.Report.{block_no, home_of}
use Rattle.dc_base.specs.States.{Member}
use Rattle.dc_report.proofs.Readings.{on_is}
use Rattle.dc_report.proofs.cores.core_line.Goals as goal

pub returns-in-Some : goal.returns-in-Some
returns-in-Some c =
    on_is c.args.c c.args.core.now c.in-Some.version c.clock.result c.used.result c.home.result c.blocks-in-Some.result
    (sym c.in-Some.ensures) c.clock.ensures (c.home.ensures.value ∙ ap home_of c.share.ensures)
    (c.blocks-in-Some.ensures ∙ ap (map (λ (m : Member). block_no m.block)) c.share-in-Some.ensures) c.used.ensures
