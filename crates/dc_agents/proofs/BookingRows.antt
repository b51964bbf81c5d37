-- The text of two agents, computed.
use Rattle.std.specs.Prelude.{◌≡◌, List, [], ◌∷◌, ◌++◌, codes, refl, Some, None}
use Rattle.std.specs.Fmt.{digits}
use Rattle.dc_base.specs.declared.commands.Command.TheVariants as command
use Rattle.dc_base.specs.declared.commands.Refusal.TheVariants as refusal
use Rattle.dc_base.specs.TextWords.{ended}
use Rattle.dc_agents.specs.declared.bookings.Booking.{Booking}
use Rattle.dc_agents.specs.AgentsText.{agents_text, booking_text, command_text}

abbrev bookings : List Booking
bookings =
    record { agent = 0; line = 0; command = command.Attach (record { 0 = 1 }) (record { 0 = 1 }); refused = None }
    ∷ record {
      agent = 1;
      line = 0;
      command = command.Move (record { 0 = 0 }) (record { 0 = 1 });
      refused = Some (refusal.HomeTaken (record { 0 = 1 }) (record { 0 = 1 }));
    }
    ∷ []

are_told : agents_text bookings
    ≡ ended (codes "0 agent 0 0 done")
    ++ ended (codes "1 agent 1 0 refused 5 HomeTaken 1 1")
    ++ ended (codes "script")
    ++ ended (codes "attach 1 1")
    ++ ended (codes "move 0 1")
    ++ ended (codes "end")
unfolding agents_text booking_text command_text digits
are_told = refl
