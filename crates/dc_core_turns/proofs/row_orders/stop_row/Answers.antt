use Rattle.dc_hands.proofs.Rowing.{places_apart}
use Rattle.dc_core_turns.proofs.row_orders.stop_row.Goals as goal

pub stop_held-requires-clause-apart : goal.stop_held-requires-clause-apart
stop_held-requires-clause-apart g c κs within =
    places_apart (record { numbers = c.row.inside.numbers.numbers.items; blocks = c.row.inside.blocks.items }) c.row.invariant.0
