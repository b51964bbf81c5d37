-- How contracts see a line: as the wire of the machine with cores.
use Rattle.dc_base.specs.Lines.{Wire}
use Rattle.dc_lines.specs.declared.line.Line.TheInside.{Inside}
use Rattle.dc_lines.specs.Wires.{binding_of, route_of, offer_of, tally_of, IsKept}

abbrev pub wire_of : Inside → Wire
wire_of l = record { bound = binding_of l.bound; route = route_of l.route; pending = l.pending; offer = offer_of l.offer; counts = tally_of l.counts }

abbrev pub IsLine : Inside → Type 0
IsLine l = IsKept (wire_of l)
