use Rattle.dc_hands.proofs.KindCases.{not_channel}
use Rattle.dc_hands.proofs.of_kind.as_channel.Goals as goal

pub unreachable-requires : goal.unreachable-requires
unreachable-requires g c = not_channel c.args.object c.in_default.not-Channel c.requires.kind
