use Rattle.dc_hands.proofs.KindCases.{not_console}
use Rattle.dc_hands.proofs.of_kind.as_console.Goals as goal

pub unreachable-requires : goal.unreachable-requires
unreachable-requires g c = not_console c.args.object c.in_default.not-Console c.requires.kind
