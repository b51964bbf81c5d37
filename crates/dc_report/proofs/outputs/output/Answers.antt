use Rattle.std.proofs.Common.{sym, ◌∙◌, arith}
use Rattle.dc_objects.specs.States.{state_of}
use Rattle.dc_report.proofs.PlaceLaws.{out_told, out_passed, outs_over}
use Rattle.dc_report.proofs.outputs.output.Goals as goal

pub returns-in-Some : goal.returns-in-Some
returns-in-Some g c = sym c.loop-block.invariant ∙ out_told (state_of c.args.objects.now) c.loop-block.block c.loop-block.at c.in-Some.word (sym c.in-Some.ensures)

pub loop-block-preserved : goal.loop-block-preserved
loop-block-preserved g c = sym (out_passed (state_of c.args.objects.now) c.loop-block.block c.loop-block.at (sym c.in_default.ensures)) ∙ c.loop-block.invariant

pub returns : goal.returns
returns g c =
    let settled = c.requires.settled in
    let many = settled.consoles in
    let most = settled.limits.blocks.1 in
    let past = c.loop-block-test.false in
    sym c.loop-block.invariant ∙ outs_over (state_of c.args.objects.now) c.loop-block.block c.loop-block.at (omega (arith, many, most, past))
