use Rattle.std.proofs.Common.{sym, ◌∙◌}
use Rattle.dc_report.proofs.PartLaws.{signal_told, signal_passed, signals_over}
use Rattle.dc_report.proofs.signals.signal.Goals as goal

pub returns-in-Some : goal.returns-in-Some
returns-in-Some g c = sym c.loop-signal.invariant ∙ signal_told c.args.b c.args.block.now c.loop-signal.signal c.in-Some.latch (sym c.in-Some.ensures)

pub loop-signal-preserved : goal.loop-signal-preserved
loop-signal-preserved g c = sym (signal_passed c.args.b c.args.block.now c.loop-signal.signal (sym c.in_default.ensures)) ∙ c.loop-signal.invariant

pub returns : goal.returns
returns g c = sym c.loop-signal.invariant ∙ signals_over c.args.b c.args.block.now c.loop-signal.signal c.requires c.loop-signal-test.false
