use Rattle.dc_hands.proofs.KindCases.{not_block}
use Rattle.dc_hands.proofs.of_kind.as_block.Goals as goal

pub unreachable-requires : goal.unreachable-requires
unreachable-requires g c = not_block c.args.object c.in_default.not-Block c.requires.kind
