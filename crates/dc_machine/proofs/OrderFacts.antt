-- What a sound machine says of the order in a core's mailbox.
use Rattle.std.proofs.Common.{◌≡◌, ℕ, zero, suc, [], ◌∷◌, ◌^◌, ◌<◌, ◌≤◌, Bool, true, false, List, Option, Some, None, refl, sym, ap, ◌∙◌, subst, arith, length, get_or}
use Rattle.std.specs.Prelude.{slice_get, slice_set}
use Rattle.std.proofs.lemmas.Option.{slice_get_past, slice_get_read, slice_get_within, get_or_from_slice_get}
use Rattle.dc_base.specs.declared.commands.Order.{Order}
use Rattle.dc_base.specs.declared.commands.Order.TheVariants as orders
use Rattle.dc_base.specs.declared.numbers.BlockNo.{BlockNo}
use Rattle.dc_base.specs.declared.numbers.CoreNo.{CoreNo}
use Rattle.dc_base.specs.Outcomes.{has}
use Rattle.dc_base.specs.Placed.{IsOn, count_in}
use Rattle.dc_base.specs.Progress.{IsRest, IsAtRest}
use Rattle.dc_base.specs.Progress.{HasRoom as Fits}
use Rattle.dc_base.specs.Sound.{IsSound}
use Rattle.dc_base.specs.States.{State, Core, Block, Mailbox, Whereabouts, rest, on, time_of}
use Rattle.dc_base.specs.States.{order as ordered}
use Rattle.dc_block_sound.proofs.Walks.{set_same}
use Rattle.dc_objects.specs.Blocks.{IsTimed}
use Rattle.dc_objects.specs.Places.{IsRestAt, IsResting, kept_at}
use Rattle.dc_share.specs.Shares.{HasRoom}
use Rattle.dc_bodies.specs.Handing.{AreTimed}
use Rattle.dc_bodies.specs.Ordered.{CanAdopt, StandsAt}
use Rattle.dc_machine.proofs.InHands.{budget_most, in_hand}

-- what was read at a place

pub read_at : {A : Type 0} (xs : List A) (i : ℕ) (x : A) → i < length xs → x ≡ get_or xs i x → slice_get xs i ≡ Some x
read_at xs i x h e = slice_get_read xs (length xs) i x refl h e

pub read_is : {A : Type 0} (xs : List A) (i : ℕ) (x y : A) → slice_get xs i ≡ Some y → x ≡ get_or xs i x → x ≡ y
read_is xs i x y h e = e ∙ get_or_from_slice_get xs i y x h

-- what a slice has at a place, or that nothing is there

pub found_in : {A : Type 0} (ys xs : List A) (i : ℕ) (x : A) → ys ≡ xs → i < length ys → x ≡ get_or ys i x → slice_get xs i ≡ Some x
found_in ys xs i x same within e = ap (λ zs. slice_get zs i) (sym same) ∙ slice_get_read ys (length ys) i x refl within e

pub none_in : {A : Type 0} (ys xs : List A) (i : ℕ) → ys ≡ xs → length ys ≤ i → slice_get xs i ≡ None
none_in ys xs i same past = ap (λ zs. slice_get zs i) (sym same) ∙ slice_get_past ys i past

pub element_at : {A : Type 0} (xs : List A) (i : ℕ) → i < length xs → (x : A) × (slice_get xs i ≡ Some x)
element_at [] i h = absurd (omega (arith, h))
element_at (x ∷ xs) zero h = (x, refl)
element_at (x ∷ xs) (suc i) h = element_at xs i (omega (arith, h))

-- the time of a block at rest

kept_of : (cores : List Core) (w : Whereabouts) → IsRestAt w → time_of cores w ≡ kept_at w
kept_of cores (rest kept) h = refl
kept_of cores (on c offset v) h = absurd h

-- a block to be released
pub record IsReleasable (s : State) (k : Core) (b : ℕ) : Type 0 where
  pub block : Block
  pub found : slice_get s.blocks b ≡ Some block
  pub timed : IsTimed k.clock block
  pub there : has k.share b ≡ true

-- a block to be adopted
pub record IsAdoptable (s : State) (k : Core) (b : ℕ) (parked : Bool) : Type 0 where
  pub block : Block
  pub found : slice_get s.blocks b ≡ Some block
  pub can : CanAdopt k b parked block

room_by : (parked : Bool) (k : Core) → Fits parked k → HasRoom parked k.share
room_by false k h = h
room_by true k h = h

rest_by : (w : Whereabouts) → IsRest w → IsRestAt w
rest_by (rest kept) h = h
rest_by (on c offset v) h = h

no_core : (c : ℕ) (w : Whereabouts) → IsRestAt w → IsOn c w → ⊥
no_core c (rest kept) h o = o
no_core c (on d offset v) h o = h

module _ (s : State) (p : IsSound s) (c : ℕ) (k : Core) (at : slice_get s.cores c ≡ Some k) where
  pub lists_once : (b : ℕ) → count_in k.share b ≤ 1
  lists_once = (p.shares c k at).once

  pub all_timed : AreTimed k.clock k.share (slice_get s.blocks)
  all_timed b h = let x = in_hand s p c k at b h in (x.0, x.1, x.2.timed)

  pub releasable : (b : BlockNo) → slice_get s.mailboxes c ≡ Some (ordered (orders.Release b)) → IsReleasable s k b.0
  releasable b o =
      let fit = p.posts c (orders.Release b) k o at in
      let x = in_hand s p c k at b.0 fit.1 in
      record { block = x.0; found = x.1; timed = x.2.timed; there = fit.1 }

  -- a block at rest is in no share
  apart_by : (b : ℕ) (x : Block) → slice_get s.blocks b ≡ Some x → IsResting x → (t : Bool) → has k.share b ≡ t → t ≡ false
  apart_by b x found r false h = refl
  apart_by b x found r true h =
      let own = p.placed.only c k at b h in
      let same : own.0 ≡ x = (let e : Some own.0 ≡ Some x = sym own.1 ∙ found in cc) in
      absurd (no_core c x.whereabouts r (subst (λ (y : Block). IsOn c y.whereabouts) same own.2))

  adoptable_by : (b : BlockNo) (parked : Bool) → Fits parked k → (o : Option Block) → slice_get s.blocks b.0 ≡ o → IsAtRest o → IsAdoptable s k b.0 parked
  adoptable_by b parked room None e r = absurd r
  adoptable_by b parked room (Some x) e r =
      let resting = rest_by x.whereabouts r in
      let most = budget_most s p in
      record {
        block = x;
        found = e;
        can = record {
          resting = resting;
          kept = let t = p.clocked.times b.0 x e in let same = kept_of s.cores x.whereabouts resting in omega (arith, t, same, most);
          clock = let t = p.clocked.clocks c k at in omega (arith, t, most);
          below = let within = slice_get_within s.blocks b.0 x e in let many = p.settled.blocks in let few = p.settled.limits.blocks.1 in omega (arith, within, many, few);
          apart = apart_by b.0 x e resting (has k.share b.0) refl;
          room = room_by parked k room;
        };
      }

  pub adoptable : (b : BlockNo) (parked : Bool) → slice_get s.mailboxes c ≡ Some (ordered (orders.Adopt b parked)) → IsAdoptable s k b.0 parked
  adoptable b parked o = let fit = p.posts c (orders.Adopt b parked) k o at in adoptable_by b parked fit.2 (slice_get s.blocks b.0) refl fit.1

-- the core and its mailbox stand as they were read

module _ (s : State) (c : CoreNo) (k : Core) (m : Mailbox) (within : c.0 < length s.cores) (core : k ≡ get_or s.cores c.0 k) (mailbox : m ≡ get_or s.mailboxes c.0 m) where
  pub stands : (o : Order) → slice_get s.mailboxes c.0 ≡ Some (ordered o) → StandsAt s c.0 k m
  stands o h = record { core = read_at s.cores c.0 k within core; mailbox = read_at s.mailboxes c.0 m (slice_get_within s.mailboxes c.0 (ordered o) h) mailbox }

pub mailbox_at : (s : State) → IsSound s → (c : ℕ) (m : Mailbox) → c < length s.cores → m ≡ get_or s.mailboxes c m → slice_get s.mailboxes c ≡ Some m
mailbox_at s p c m within read = read_at s.mailboxes c m (let n = p.settled.cores in let l = p.settled.mailboxes in omega (arith, n, l, within)) read

-- what stands in its place, put back as it was, changes nothing
pub put_back : (s : State) (c : ℕ) (k k' : Core) (m m' : Mailbox) (b : ℕ) (x x' : Block) → StandsAt s c k m → slice_get s.blocks b ≡ Some x → k' ≡ k → m' ≡ m → x' ≡ x →
    record s { cores = slice_set s.cores c k'; mailboxes = slice_set s.mailboxes c m'; blocks = slice_set s.blocks b x' } ≡ s
put_back s c k k' m m' b x x' at there core mailbox block =
    let cores = ap (slice_set s.cores c) core ∙ set_same s.cores c k at.core in
    let mailboxes = ap (slice_set s.mailboxes c) mailbox ∙ set_same s.mailboxes c m at.mailbox in
    let blocks = ap (slice_set s.blocks b) block ∙ set_same s.blocks b x there in
    ap (λ ks. record s { cores = ks; mailboxes = slice_set s.mailboxes c m'; blocks = slice_set s.blocks b x' }) cores
    ∙ ap (λ ms. record s { mailboxes = ms; blocks = slice_set s.blocks b x' }) mailboxes
    ∙ ap (λ bs. record s { blocks = bs }) blocks
