use Rattle.std.proofs.Common.{sym, ◌∙◌}
use Rattle.dc_report.proofs.PartLaws.{message_told, message_passed, messages_over}
use Rattle.dc_report.proofs.Telling.{instead}
use Rattle.dc_report.proofs.messages.message.Goals as goal

pub returns-in-Some : goal.returns-in-Some
returns-in-Some g c = sym c.loop-port.invariant ∙ message_told c.args.b c.args.block.now c.loop-port.port c.loop-port.at c.in-Some.message (sym c.in-Some.ensures)

pub loop-port-preserved : goal.loop-port-preserved
loop-port-preserved g c = sym (message_passed c.args.b c.args.block.now c.loop-port.port c.loop-port.at (sym c.in_default.ensures)) ∙ c.loop-port.invariant

pub returns : goal.returns
returns g c = instead _ _ _ _ (sym c.loop-port.invariant ∙ messages_over c.args.b c.args.block.now c.loop-port.port c.loop-port.at c.requires.shape c.loop-port-test.false) c.signal.ensures
