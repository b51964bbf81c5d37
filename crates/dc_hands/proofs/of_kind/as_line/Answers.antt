use Rattle.dc_hands.proofs.KindCases.{not_line}
use Rattle.dc_hands.proofs.of_kind.as_line.Goals as goal

pub unreachable-requires : goal.unreachable-requires
unreachable-requires g c = not_line c.args.object c.in_default.not-Line c.requires.kind
