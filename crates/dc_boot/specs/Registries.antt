-- Plans as lists of orders, and orders that find room.
use Rattle.std.specs.Prelude.{ℕ, ◌<◌, List, [], ◌∷◌, true, Option, Some, None, length, ⊤}
use Rattle.dc_base.specs.declared.numbers.CoreNo.{CoreNo}
use Rattle.dc_base.specs.declared.commands.Order.{Order}
use Rattle.dc_base.specs.declared.commands.Order.TheVariants as order
use Rattle.dc_base.specs.Boot.{Registry, parked_on, after_order}
use Rattle.dc_boot.specs.declared.plan.Plan.{Plan}

-- an order with the number of its core
abbrev pub posted : CoreNo × Order → ℕ × Order
posted o = (o.0.0, o.1)

abbrev pub further : Option (CoreNo × Order) → List (ℕ × Order)
further None = []
further (Some o) = posted o ∷ []

-- the orders of a plan, in order
abbrev pub plan_orders : Plan → List (ℕ × Order)
plan_orders p = posted p.first ∷ further p.second

-- a block that is to be parked finds fewer than eight there
abbrev pub FindsRoom : Registry → ℕ → Order → Type 0
FindsRoom r c (order.Adopt b true) = length (parked_on r c) < 8
FindsRoom r c o = ⊤

-- each order does, after those before it
abbrev pub FindRoom : Registry → List (ℕ × Order) → Type 0
FindRoom r [] = ⊤
FindRoom r (o ∷ os) = FindsRoom r o.0 o.1 × FindRoom (after_order r o.0 o.1) os
