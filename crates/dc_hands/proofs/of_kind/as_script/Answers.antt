use Rattle.dc_hands.proofs.KindCases.{not_script}
use Rattle.dc_hands.proofs.of_kind.as_script.Goals as goal

pub unreachable-requires : goal.unreachable-requires
unreachable-requires g c = not_script c.args.object c.in_default.not-Script c.requires.kind
