use Rattle.dc_hands.proofs.KindCases.{not_mailbox}
use Rattle.dc_hands.proofs.of_kind.as_mailbox.Goals as goal

pub unreachable-requires : goal.unreachable-requires
unreachable-requires g c = not_mailbox c.args.object c.in_default.not-Mailbox c.requires.kind
