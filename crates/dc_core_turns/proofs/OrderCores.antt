-- What an order makes of the core.
use Rattle.std.proofs.Common.{◌≡◌, ℕ, List, [], ◌∷◌, ◌++◌, Bool, Option, Some, None, sym, ap, ◌∙◌}
use Rattle.std.specs.Prelude.{slice_get}
use Rattle.dc_base.specs.declared.commands.Order.{Order}
use Rattle.dc_base.specs.declared.commands.Order.TheVariants as orders
use Rattle.dc_base.specs.declared.entries.Entry.{Entry}
use Rattle.dc_base.specs.declared.kernels.Version.{Version}
use Rattle.dc_base.specs.declared.numbers.CoreNo.{CoreNo}
use Rattle.dc_base.specs.Changes.{Change, core_becomes}
use Rattle.dc_base.specs.Orders.{adopt_outcome, carry_out, release_outcome}
use Rattle.dc_base.specs.Outcomes.{share_without}
use Rattle.dc_base.specs.States.{State, Core, Block, Member}
use Rattle.dc_base.specs.States.{order as ordered}
use Rattle.dc_base.specs.Turns.{Outcome, did, outcome}
use Rattle.dc_bodies.specs.Ordered.{StandsAt, DoesOrder}
use Rattle.dc_core_turns.proofs.OrderLooks.{order_comes}

-- the share that an order leaves
abbrev pub share_after : List Member → Order → List Member
share_after share (orders.Start v) = share
share_after share orders.Stop = []
share_after share (orders.Replace v) = share
share_after share (orders.Adopt b parked) = share ++ record { block = b.0; parked = parked } ∷ []
share_after share (orders.Release b) = share_without b.0 share

module _ (c : CoreNo) (k k' : Core) (more : List Change) (e : Entry) where
  abbrev Does : Outcome → Type 0
  Does o = o ≡ did (core_becomes c.0 k' ∷ more) e

  adopt_share : (b : ℕ) (parked : Bool) (v : Option Version) (o : Option Block) → Does (adopt_outcome c.0 k b parked v o) → k'.share ≡ k.share ++ record { block = b; parked = parked } ∷ []
  adopt_share b parked None None h = cc
  adopt_share b parked None (Some x) h = cc
  adopt_share b parked (Some v) None h = cc
  adopt_share b parked (Some v) (Some x) h =
      let same : record k { share = k.share ++ record { block = b; parked = parked } ∷ [] } ≡ k' = cc in ap (λ (x : Core). x.share) (sym same)

  release_share : (b : ℕ) (o : Option Block) → Does (release_outcome c.0 k b o) → k'.share ≡ share_without b k.share
  release_share b None h = cc
  release_share b (Some x) h = let same : record k { share = share_without b k.share } ≡ k' = cc in ap (λ (x : Core). x.share) (sym same)

  share_by : (s : State) (o : Order) → Does (outcome s (carry_out c.0 k o)) → k'.share ≡ share_after k.share o
  unfolding carry_out
  share_by s (orders.Start v) h = let same : record k { version = Some v } ≡ k' = cc in ap (λ (x : Core). x.share) (sym same)
  share_by s orders.Stop h = let same : record k { version = None; share = [] } ≡ k' = cc in ap (λ (x : Core). x.share) (sym same)
  share_by s (orders.Replace v) h = let same : record k { version = Some v } ≡ k' = cc in ap (λ (x : Core). x.share) (sym same)
  share_by s (orders.Adopt b parked) h = adopt_share b.0 parked k.version (slice_get s.blocks b.0) h
  share_by s (orders.Release b) h = release_share b.0 (slice_get s.blocks b.0) h

  -- the core's share after an order
  pub ordered_share : (s : State) (o : Order) → StandsAt s c.0 k (ordered o) → DoesOrder s c.0 (core_becomes c.0 k' ∷ more) e → k'.share ≡ share_after k.share o
  ordered_share s o at does = share_by s o (sym (order_comes s c k o at (λ t. 0)) ∙ does (λ t. 0))
