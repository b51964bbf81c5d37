use Rattle.dc_hands.proofs.KindCases.{not_core}
use Rattle.dc_hands.proofs.of_kind.as_core.Goals as goal

pub unreachable-requires : goal.unreachable-requires
unreachable-requires g c = not_core c.args.object c.in_default.not-Core c.requires.kind
