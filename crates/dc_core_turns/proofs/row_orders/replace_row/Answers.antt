use Rattle.dc_hands.proofs.Rowing.{places_apart}
use Rattle.dc_core_turns.proofs.row_orders.replace_row.Goals as goal

pub replace_held-requires-clause-apart : goal.replace_held-requires-clause-apart
replace_held-requires-clause-apart g c κs within =
    places_apart (record { numbers = c.row.inside.numbers.numbers.items; blocks = c.row.inside.blocks.items }) c.row.invariant.0
