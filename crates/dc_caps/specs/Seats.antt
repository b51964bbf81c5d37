-- The slots of a forest with their capabilities.
use Rattle.std.specs.Prelude.{ℕ, List, map, filter, slice_index_or, Bool, ◌&&◌}
use Rattle.dc_base.specs.declared.capabilities.Cap.{Cap}
use Rattle.dc_base.specs.declared.capabilities.CapKind.TheVariants.{Port}
use Rattle.dc_base.specs.Words.{is_number}
use Rattle.dc_base.specs.Capabilities.{Seat, is_of_line, is_memory_within}
use Rattle.dc_mdb.specs.Forests.{Node, parent_at}

-- stands where no slot is
abbrev pub no_cap : Cap
no_cap = record { kind = Port (record { 0 = 0 }); rights = 0 }

-- a slot of the forest, with its capability
abbrev pub seat_of : List Cap → Node → Seat
seat_of caps n = record { slot = n.0; cap = slice_index_or caps n.0 no_cap; parent = n.1 }

abbrev pub seats_of : List Cap → List Node → List Seat
seats_of caps nodes = map (seat_of caps) nodes

-- the slots that hold a capability of this line
abbrev pub line_slots : ℕ → List Cap → List Node → List ℕ
line_slots l caps nodes = filter (λ s. is_of_line l (slice_index_or caps s no_cap).kind) (map (λ (n : Node). n.0) nodes)

-- whether slot s is a child of another that is memory which meets this range
abbrev pub child_within : List Cap → List Node → ℕ → ℕ → ℕ → ℕ → Bool
child_within caps nodes slot first length s = is_number slot (parent_at nodes s) && is_memory_within first length (slice_index_or caps s no_cap).kind
