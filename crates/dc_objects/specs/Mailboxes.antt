-- What a mailbox holds.
use Rattle.std.specs.Prelude.{Bool, true, false, Option, Some, None}
use Rattle.dc_base.specs.declared.commands.Order.{Order}
use Rattle.dc_base.specs.States.{Mailbox, empty, ack}
use Rattle.dc_base.specs.States.{order as ordered}
use Rattle.dc_objects.specs.declared.mailboxes.Letter.{Letter}
use Rattle.dc_objects.specs.declared.mailboxes.Letter.TheVariants as letter

abbrev pub letter_seen : Letter → Mailbox
letter_seen letter.Nothing = empty
letter_seen (letter.Order o) = ordered o
letter_seen letter.Ack = ack

abbrev pub letter_of : Mailbox → Letter
letter_of empty = letter.Nothing
letter_of (ordered o) = letter.Order o
letter_of ack = letter.Ack

-- the order that waits
abbrev pub order_in : Mailbox → Option Order
order_in (ordered o) = Some o
order_in m = None

abbrev pub is_ack : Mailbox → Bool
is_ack ack = true
is_ack m = false
