-- What a core's order comes to, by what stands.
use Rattle.std.proofs.Common.{◌≡◌, ℕ, List, [], ◌∷◌, ◌++◌, Bool, true, Option, Some, None, refl, sym, ap, ◌∙◌, length, map}
use Rattle.std.specs.Prelude.{slice_get, ◌||◌, ◌==◌}
use Rattle.std.specs.Option.{option_map, option_map_or}
use Rattle.std.proofs.Math.Bool.{or-true}
use Rattle.dc_base.specs.declared.actions.Action.TheVariants as action
use Rattle.dc_base.specs.declared.actions.Actor.TheVariants as actor
use Rattle.dc_base.specs.declared.commands.Order.{Order}
use Rattle.dc_base.specs.declared.commands.Order.TheVariants as orders
use Rattle.dc_base.specs.declared.entries.Entry.{Entry}
use Rattle.dc_base.specs.declared.entries.Reason.TheVariants as reason
use Rattle.dc_base.specs.declared.entries.What.TheVariants as what
use Rattle.dc_base.specs.declared.kernels.Version.{Version}
use Rattle.dc_base.specs.Changes.{Change, core_becomes, block_becomes, mailbox_becomes}
use Rattle.dc_base.specs.Cores.{core_turn, turn_of}
use Rattle.dc_base.specs.Orders.{acked, adopt_outcome, adopted_time, block_at_rest, block_under, carry_out, change_all, order_turn, release_outcome}
use Rattle.dc_base.specs.Outcomes.{by_core, has, share_blocks, share_without}
use Rattle.dc_base.specs.States.{State, Core, Block, Mailbox, Member, Script, empty, ack, place_on, time_at}
use Rattle.dc_base.specs.States.{order as ordered}
use Rattle.dc_base.specs.Turns.{did, looked_at, outcome}
use Rattle.dc_block_sound.proofs.Elements.{same_is}
use Rattle.dc_objects.specs.Mailboxes.{order_in}
use Rattle.dc_bodies.specs.Does.{Refuses}
use Rattle.dc_bodies.specs.Handing.{AreChanged}
use Rattle.dc_bodies.specs.Ordered.{StandsAt, StandAt, become_all, IsOrder, IsBlockOrder, IsShareOrder, IsNoOrder}

-- the order that waits

pub holds : (m : Mailbox) (o : Order) → Some o ≡ order_in m → m ≡ ordered o
holds empty o e = absurd cc
holds (ordered w) o e = let same : w ≡ o = cc in ap ordered same
holds ack o e = absurd cc

module _ (c : ℕ) (k : Core) (s : State) where
  none_by : (m : Mailbox) → None ≡ order_in m → StandsAt s c k m → Refuses s (actor.Core (record { 0 = c })) action.Order reason.NoOrder
  unfolding turn_of
  none_by empty e h polls = ap (λ q. outcome s (core_turn c action.Order q)) h.core ∙ ap (λ q. outcome s (order_turn c k q)) h.mailbox
  none_by (ordered o) e h polls = absurd cc
  none_by ack e h polls = ap (λ q. outcome s (core_turn c action.Order q)) h.core ∙ ap (λ q. outcome s (order_turn c k q)) h.mailbox

pub no_order : (m : Mailbox) → None ≡ order_in m → (c : ℕ) (k : Core) → IsNoOrder c k m reason.NoOrder
no_order m e c k s h = none_by c k s m e h

module _ (c : ℕ) (k : Core) (s : State) (m : Mailbox) (o : Order) (is : m ≡ ordered o) (h : StandsAt s c k m) where
  carries : (polls : Script → ℕ) → outcome s (turn_of polls (actor.Core (record { 0 = c })) action.Order) ≡ outcome s (carry_out c k o)
  unfolding turn_of
  carries polls = ap (λ q. outcome s (core_turn c action.Order q)) h.core ∙ ap (λ q. outcome s (order_turn c k q)) (h.mailbox ∙ ap Some is)

-- the changes and the entry, part by part
same_did : (c : ℕ) (k k' : Core) (m' : Mailbox) (more more' : List Change) (e e' : Entry) → k' ≡ k → m' ≡ ack → more' ≡ more → e' ≡ e →
    did (acked c k more) e ≡ did (core_becomes c k' ∷ mailbox_becomes c m' ∷ more') e'
same_did c k k' m' more more' e e' a b d f = sym (
    ap (λ x. did (core_becomes c x ∷ mailbox_becomes c m' ∷ more') e') a
    ∙ ap (λ x. did (core_becomes c k ∷ mailbox_becomes c x ∷ more') e') b
    ∙ ap (λ x. did (core_becomes c k ∷ mailbox_becomes c ack ∷ x) e') d
    ∙ ap (did (core_becomes c k ∷ mailbox_becomes c ack ∷ more)) f
    )

-- the blocks of a share as they are seen afterwards
module _ (f : Block → Block) (s : State) (seen' : ℕ → Option Block) where
  same_step : (n : ℕ) (more more' : List Change) (o : Option Block) → more' ≡ more →
      option_map_or (λ x. block_becomes n x ∷ more') (option_map f o) more' ≡ option_map_or (λ x. block_becomes n (f x) ∷ more) o more
  same_step n more more' None e = e
  same_step n more more' (Some x) e = ap (λ cs. block_becomes n (f x) ∷ cs) e

  become_changed : (share : List Member) → ((b : ℕ) → has share b ≡ true → seen' b ≡ option_map f (slice_get s.blocks b)) → become_all seen' share ≡ change_all f (map (looked_at s.blocks) (share_blocks share))
  become_changed [] h = refl
  become_changed (m ∷ ms) h =
      ap (λ o. option_map_or (λ x. block_becomes m.block x ∷ become_all seen' ms) o (become_all seen' ms)) (h m.block (ap (λ t. t || has ms m.block) (same_is m.block)))
      ∙ same_step m.block (change_all f (map (looked_at s.blocks) (share_blocks ms))) (become_all seen' ms) (slice_get s.blocks m.block)
      (become_changed ms (λ b g. h b (ap (λ t. (m.block == b) || t) g ∙ or-true (m.block == b))))

module _ (c : ℕ) (k k' : Core) (m m' : Mailbox) (e : Entry) (acks : m' ≡ ack) where
  pub start_is : (v : Version) → m ≡ ordered (orders.Start v) → k' ≡ record k { version = Some v } → e ≡ by_core c (what.Start v k.clock) → IsOrder c k k' m m' e
  unfolding carry_out
  start_is v is a b s h polls =
      carries c k s m (orders.Start v) is h polls
      ∙ same_did c (record k { version = Some v }) k' m' [] [] (by_core c (what.Start v k.clock)) e a acks refl b

  module _ (f : Block → Block) (seen seen' : ℕ → Option Block) (made : AreChanged f k.share seen seen') where
    all_become : (s : State) → StandAt s k.share seen → become_all seen' k.share ≡ change_all f (map (looked_at s.blocks) (share_blocks k.share))
    all_become s at = become_changed f s seen' k.share (λ b g. made.here b g ∙ ap (option_map f) (sym (at b g)))

  pub stop_is : (seen seen' : ℕ → Option Block) → m ≡ ordered orders.Stop → AreChanged (block_at_rest k.clock) k.share seen seen' → k' ≡ record k { version = None; share = [] } →
      e ≡ by_core c (what.Stop (length k.share)) → IsShareOrder c k k' m m' seen seen' e
  unfolding carry_out
  stop_is seen seen' is made a b s h at polls =
      carries c k s m orders.Stop is h polls
      ∙ same_did c (record k { version = None; share = [] }) k' m' (change_all (block_at_rest k.clock) (map (looked_at s.blocks) (share_blocks k.share))) (become_all seen' k.share) (by_core c (what.Stop (length k.share))) e
      a acks (all_become (block_at_rest k.clock) seen seen' made s at) b

  pub replace_is : (v : Version) (seen seen' : ℕ → Option Block) → m ≡ ordered (orders.Replace v) → AreChanged (block_under v) k.share seen seen' → k' ≡ record k { version = Some v } →
      e ≡ by_core c (what.Replace v) → IsShareOrder c k k' m m' seen seen' e
  unfolding carry_out
  replace_is v seen seen' is made a b s h at polls =
      carries c k s m (orders.Replace v) is h polls
      ∙ same_did c (record k { version = Some v }) k' m' (change_all (block_under v) (map (looked_at s.blocks) (share_blocks k.share))) (become_all seen' k.share) (by_core c (what.Replace v)) e
      a acks (all_become (block_under v) seen seen' made s at) b

  pub release_is : (b : ℕ) (x x' : Block) → m ≡ ordered (orders.Release (record { 0 = b })) → k' ≡ record k { share = share_without b k.share } → x' ≡ block_at_rest k.clock x →
      e ≡ by_core c (what.Release (record { 0 = b }) (time_at k.clock x.whereabouts)) → IsBlockOrder c b k k' m m' x x' e
  unfolding carry_out
  release_is b x x' is a d w s h at polls =
      carries c k s m (orders.Release (record { 0 = b })) is h polls
      ∙ ap (λ o. release_outcome c k b o) at
      ∙ same_did c (record k { share = share_without b k.share }) k' m' (block_becomes b (block_at_rest k.clock x) ∷ []) (block_becomes b x' ∷ []) (by_core c (what.Release (record { 0 = b }) (time_at k.clock x.whereabouts))) e
      a acks (ap (λ y. block_becomes b y ∷ []) d) w

  pub adopt_is : (b : ℕ) (parked : Bool) (v : Version) (time : ℕ) (x x' : Block) → m ≡ ordered (orders.Adopt (record { 0 = b }) parked) → k.version ≡ Some v →
      time ≡ adopted_time k.settings.clocks (time_at k.clock x.whereabouts) k.clock → k' ≡ record k { share = k.share ++ record { block = b; parked = parked } ∷ [] } →
      x' ≡ record x { whereabouts = place_on c k.clock time v } → e ≡ by_core c (what.Adopt (record { 0 = b }) parked time) → IsBlockOrder c b k k' m m' x x' e
  unfolding carry_out
  adopt_is b parked v time x x' is on t a d w s h at polls =
      let at_time : ℕ = adopted_time k.settings.clocks (time_at k.clock x.whereabouts) k.clock in
      carries c k s m (orders.Adopt (record { 0 = b }) parked) is h polls
      ∙ ap (λ o. adopt_outcome c k b parked k.version o) at
      ∙ ap (λ o. adopt_outcome c k b parked o (Some x)) on
      ∙ same_did c (record k { share = k.share ++ record { block = b; parked = parked } ∷ [] }) k' m' (block_becomes b (record x { whereabouts = place_on c k.clock at_time v }) ∷ []) (block_becomes b x' ∷ [])
      (by_core c (what.Adopt (record { 0 = b }) parked at_time)) e a acks
      (ap (λ y. block_becomes b y ∷ []) (d ∙ ap (λ n. record x { whereabouts = place_on c k.clock n v }) t)) (w ∙ ap (λ n. by_core c (what.Adopt (record { 0 = b }) parked n)) t)

-- a core that is off adopts nothing
pub no_adoption : (c b : ℕ) (k : Core) (m : Mailbox) (x : Block) (parked : Bool) → m ≡ ordered (orders.Adopt (record { 0 = b }) parked) → k.version ≡ None →
    (s : State) → StandsAt s c k m → slice_get s.blocks b ≡ Some x → Refuses s (actor.Core (record { 0 = c })) action.Order reason.NoOrder
unfolding carry_out
no_adoption c b k m x parked is off s h at polls =
    carries c k s m (orders.Adopt (record { 0 = b }) parked) is h polls
    ∙ ap (λ o. adopt_outcome c k b parked k.version o) at
    ∙ ap (λ o. adopt_outcome c k b parked o (Some x)) off
