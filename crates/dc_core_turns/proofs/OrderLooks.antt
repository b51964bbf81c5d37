-- What the turn of an order looks at, and what it comes to.
use Rattle.std.proofs.Common.{◌≡◌, ℕ, List, [], ◌∷◌, ◌++◌, Some, refl, sym, ap, ◌∙◌, subst, inl, inr, map}
use Rattle.std.specs.Prelude.{slice_get}
use Rattle.dc_base.specs.declared.actions.Action.TheVariants as action
use Rattle.dc_base.specs.declared.actions.Actor.TheVariants as actor
use Rattle.dc_base.specs.declared.commands.Order.{Order}
use Rattle.dc_base.specs.declared.commands.Order.TheVariants as orders
use Rattle.dc_base.specs.declared.numbers.CoreNo.{CoreNo}
use Rattle.dc_base.specs.Changes.{Name, a_block, a_core, a_mailbox}
use Rattle.dc_base.specs.Cores.{core_turn, turn_of}
use Rattle.dc_base.specs.Histories.{Listed}
use Rattle.dc_base.specs.Orders.{carry_out, order_turn}
use Rattle.dc_base.specs.Outcomes.{share_blocks}
use Rattle.dc_base.specs.States.{State, Core, Script}
use Rattle.dc_base.specs.States.{order as ordered}
use Rattle.dc_base.specs.Turns.{looks, outcome}
use Rattle.dc_bodies.specs.Ordered.{StandsAt}

-- the blocks at which an order looks
abbrev pub order_blocks : Core → Order → List Name
order_blocks k (orders.Start v) = []
order_blocks k orders.Stop = map a_block (share_blocks k.share) ++ []
order_blocks k (orders.Replace v) = map a_block (share_blocks k.share) ++ []
order_blocks k (orders.Adopt b parked) = a_block b.0 ∷ []
order_blocks k (orders.Release b) = a_block b.0 ∷ []

blocks_looked : (s : State) (c : ℕ) (k : Core) (o : Order) → looks s (carry_out c k o) ≡ order_blocks k o
unfolding carry_out
blocks_looked s c k (orders.Start v) = refl
blocks_looked s c k orders.Stop = refl
blocks_looked s c k (orders.Replace v) = refl
blocks_looked s c k (orders.Adopt b parked) = refl
blocks_looked s c k (orders.Release b) = refl

module _ (s : State) (c : CoreNo) (k : Core) where
  -- each order looks at the mailbox
  pub mailbox_looked : slice_get s.cores c.0 ≡ Some k → Listed (a_mailbox c.0) (looks s (turn_of (λ t. 0) (actor.Core c) action.Order))
  unfolding turn_of
  mailbox_looked at = inr (subst (λ o. Listed (a_mailbox c.0) (looks s (core_turn c.0 action.Order o))) (sym at) (inl refl))

  module _ (o : Order) (at : StandsAt s c.0 k (ordered o)) where
    pub order_comes : (polls : Script → ℕ) → outcome s (turn_of polls (actor.Core c) action.Order) ≡ outcome s (carry_out c.0 k o)
    unfolding turn_of
    order_comes polls = ap (λ q. outcome s (core_turn c.0 action.Order q)) at.core ∙ ap (λ q. outcome s (order_turn c.0 k q)) at.mailbox

    pub order_looks : looks s (turn_of (λ t. 0) (actor.Core c) action.Order) ≡ a_core c.0 ∷ a_mailbox c.0 ∷ order_blocks k o
    unfolding turn_of
    order_looks =
        ap (λ q. a_core c.0 ∷ looks s (core_turn c.0 action.Order q)) at.core
        ∙ (ap (λ q. a_core c.0 ∷ a_mailbox c.0 ∷ looks s (order_turn c.0 k q)) at.mailbox
        ∙ ap (λ ns. a_core c.0 ∷ a_mailbox c.0 ∷ ns) (blocks_looked s c.0 k o))
