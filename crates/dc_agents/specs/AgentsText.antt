-- The text of two agents: their bookings, and the script that was booked.
use Rattle.std.specs.Prelude.{ℕ, ◌+◌, List, [], ◌∷◌, ◌++◌, flat_map, decimal, codes, Option, Some, None}
use Rattle.dc_base.specs.declared.commands.Command.{Command}
use Rattle.dc_base.specs.declared.commands.Command.TheVariants as command
use Rattle.dc_base.specs.declared.commands.Refusal.{Refusal}
use Rattle.dc_agents.specs.declared.bookings.Booking.{Booking}
use Rattle.dc_base.specs.TextWords.{spaced, ended}
use Rattle.dc_base.specs.EntryText.{version_word, refusal_words}

abbrev pub booked_words : Option Refusal → List (List ℕ)
booked_words None = codes "done" ∷ []
booked_words (Some r) = codes "refused" ∷ refusal_words r

-- a booking's line
unfoldable pub booking_text : ℕ → Booking → List ℕ
booking_text ticket b = spaced (decimal ticket ∷ codes "agent" ∷ decimal b.agent ∷ decimal b.line ∷ booked_words b.refused)

-- a boot command as a line of a script
abbrev pub command_words : Command → List (List ℕ)
command_words (command.Start c v) = codes "start" ∷ decimal c.0 ∷ version_word v ∷ []
command_words (command.Stop c) = codes "stop" ∷ decimal c.0 ∷ []
command_words (command.Replace c v) = codes "replace" ∷ decimal c.0 ∷ version_word v ∷ []
command_words (command.Attach b c) = codes "attach" ∷ decimal b.0 ∷ decimal c.0 ∷ []
command_words (command.Move b c) = codes "move" ∷ decimal b.0 ∷ decimal c.0 ∷ []
command_words (command.Park b c) = codes "park" ∷ decimal b.0 ∷ decimal c.0 ∷ []
command_words (command.Unpark b c) = codes "unpark" ∷ decimal b.0 ∷ decimal c.0 ∷ []

unfoldable pub command_text : Command → List ℕ
command_text c = spaced (command_words c)

abbrev pub bookings_from : ℕ → List Booking → List ℕ
bookings_from ticket [] = []
bookings_from ticket (b ∷ bs) = ended (booking_text ticket b) ++ bookings_from (ticket + 1) bs

-- the text of these bookings
unfoldable pub agents_text : List Booking → List ℕ
agents_text bookings =
    bookings_from 0 bookings ++ ended (codes "script") ++ flat_map (λ (b : Booking). ended (command_text b.command)) bookings ++ ended (codes "end")
