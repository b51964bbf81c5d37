-- What an order makes of the objects that it touches, whatever stands elsewhere.
use Rattle.std.specs.Prelude.{◌≡◌, ℕ, ◌<◌, ◌^◌, List, [], ◌∷◌, Bool, true, false, Option, Some, slice_get}
use Rattle.std.specs.Option.{option_map_or}
use Rattle.dc_base.specs.declared.actions.Action.TheVariants as action
use Rattle.dc_base.specs.declared.actions.Actor.TheVariants as actor
use Rattle.dc_base.specs.declared.entries.Entry.{Entry}
use Rattle.dc_base.specs.declared.entries.Reason.{Reason}
use Rattle.dc_base.specs.Changes.{Change, core_becomes, block_becomes, mailbox_becomes}
use Rattle.dc_base.specs.Outcomes.{has}
use Rattle.dc_base.specs.States.{State, Core, Block, Mailbox, Member}
use Rattle.dc_objects.specs.Places.{IsResting, kept_in}
use Rattle.dc_share.specs.Shares.{HasRoom}
use Rattle.dc_bodies.specs.Does.{Does, Refuses}

-- core c and its mailbox stand so
pub record StandsAt (s : State) (c : ℕ) (k : Core) (m : Mailbox) : Type 0 where
  pub core : slice_get s.cores c ≡ Some k
  pub mailbox : slice_get s.mailboxes c ≡ Some m

-- the blocks of a share stand as they are seen
abbrev pub StandAt : State → List Member → (ℕ → Option Block) → Type 0
StandAt s share seen = (b : ℕ) → has share b ≡ true → slice_get s.blocks b ≡ seen b

-- each block of a share becomes as it is seen
abbrev pub become_all : (ℕ → Option Block) → List Member → List Change
become_all seen [] = []
become_all seen (m ∷ ms) = option_map_or (λ x. block_becomes m.block x ∷ become_all seen ms) (seen m.block) (become_all seen ms)

-- core c carries an order out, with these changes and this entry
abbrev pub DoesOrder : State → ℕ → List Change → Entry → Type 0
DoesOrder s c changes e = Does s (actor.Core (record { 0 = c })) action.Order changes e

-- the order took the core and its mailbox from the first to the second
abbrev pub IsOrder : ℕ → Core → Core → Mailbox → Mailbox → Entry → Type 0
IsOrder c k k' m m' e = (s : State) → StandsAt s c k m → DoesOrder s c (core_becomes c k' ∷ mailbox_becomes c m' ∷ []) e

-- and block b
abbrev pub IsBlockOrder : ℕ → ℕ → Core → Core → Mailbox → Mailbox → Block → Block → Entry → Type 0
IsBlockOrder c b k k' m m' x x' e = (s : State) → StandsAt s c k m → slice_get s.blocks b ≡ Some x →
    DoesOrder s c (core_becomes c k' ∷ mailbox_becomes c m' ∷ block_becomes b x' ∷ []) e

-- and the blocks of the core's share
abbrev pub IsShareOrder : ℕ → Core → Core → Mailbox → Mailbox → (ℕ → Option Block) → (ℕ → Option Block) → Entry → Type 0
IsShareOrder c k k' m m' seen seen' e = (s : State) → StandsAt s c k m → StandAt s k.share seen →
    DoesOrder s c (core_becomes c k' ∷ mailbox_becomes c m' ∷ become_all seen' k.share) e

-- core c does not carry its order out, for this reason
abbrev pub IsNoOrder : ℕ → Core → Mailbox → Reason → Type 0
IsNoOrder c k m why = (s : State) → StandsAt s c k m → Refuses s (actor.Core (record { 0 = c })) action.Order why

-- core c does not adopt block b, for this reason, and the three objects are as they were
pub record IsNoAdoption (c b : ℕ) (k k' : Core) (m m' : Mailbox) (x x' : Block) (why : Reason) : Type 0 where
  pub turn : (s : State) → StandsAt s c k m → slice_get s.blocks b ≡ Some x → Refuses s (actor.Core (record { 0 = c })) action.Order why
  pub core : k' ≡ k
  pub mailbox : m' ≡ m
  pub block : x' ≡ x

-- block b can be adopted by a core, as its home block or parked
pub record CanAdopt (k : Core) (b : ℕ) (parked : Bool) (x : Block) : Type 0 where
  pub resting : IsResting x
  pub kept : kept_in x < 2 ^ 63
  pub clock : k.clock < 2 ^ 63
  pub below : b < 16
  pub apart : has k.share b ≡ false
  pub room : HasRoom parked k.share
