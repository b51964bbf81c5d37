-- The boot state of the cores and blocks after an order that fits is that after the order in the registry.
use Rattle.std.proofs.Common.{◌≡◌, ℕ, suc, ◌≤◌, List, [], ◌∷◌, ◌++◌, Bool, true, false, Option, Some, None, refl, sym, ap, ◌∙◌, subst, arith, map, length}
use Rattle.std.proofs.lemmas.List.{map-set, append-nil}
use Rattle.std.proofs.lemmas.List.Sums.{sum_by_push}
use Rattle.std.proofs.lemmas.Option.{slice_get-map}
use Rattle.std.specs.Prelude.{slice_get, slice_set, ◌==◌, not, if◌then◌else◌, IsSome}
use Rattle.std.specs.Option.{option_map}
use Rattle.dc_base.specs.declared.commands.Order.{Order}
use Rattle.dc_base.specs.declared.commands.Order.TheVariants as orders
use Rattle.dc_base.specs.declared.entries.Entry.{Entry}
use Rattle.dc_base.specs.declared.kernels.Version.{Version}
use Rattle.dc_base.specs.Words.{bind, with_number}
use Rattle.dc_base.specs.Boot.{Booted, booted_at, after_order, after_order_at, with_block, without_block, none_on}
use Rattle.dc_base.specs.Changes.{Change, block_becomes, apply}
use Rattle.dc_base.specs.Orders.{acked, change_all, block_at_rest, block_under, under, adopted_time}
use Rattle.dc_base.specs.Outcomes.{has, share_blocks, share_without}
use Rattle.dc_base.specs.Placed.{IsPlaced, IsListed, IsOn, AreShares, homes_in}
use Rattle.dc_base.specs.Progress.{booted_of, boot_of, parked_blocks, home_block, PostsFit, HasRoom}
use Rattle.dc_base.specs.States.{State, Core, Block, Member, Whereabouts, rest, on, core_in, place_on, time_at}
use Rattle.dc_base.specs.Turns.{looked_at}
use Rattle.dc_sound.proofs.EntryKinds.{IsStart, IsStop, IsReplace, IsAdopt, IsRelease}
use Rattle.dc_sound.proofs.BootStays.{core_of_block}
use Rattle.dc_block_sound.proofs.Elements.{same_is, is_same, same_some, all_cores, AllCase, was_listed, not_listed, block_case}
use Rattle.dc_sound.proofs.Lengths.{same_lengths}
use Rattle.dc_sound.proofs.ParkedBlocks.{parked_left, home_left, unless}
use Rattle.dc_sound.proofs.Registry.{home_middle, parked_middle}

-- two lists whose elements are read alike
map_same : {A B : Type 0} (f g : A → B) (xs ys : List A) → length ys ≡ length xs → ((i : ℕ) (x y : A) → slice_get xs i ≡ Some x → slice_get ys i ≡ Some y → f y ≡ g x) → map f ys ≡ map g xs
map_same f g [] [] n h = refl
map_same f g [] (y ∷ ys) n h = absurd (omega (arith, n))
map_same f g (x ∷ xs) [] n h = absurd (omega (arith, n))
map_same f g (x ∷ xs) (y ∷ ys) n h = ap (λ b. b ∷ map f ys) (h 0 x y refl refl) ∙ ap (λ l. g x ∷ l) (map_same f g xs ys (omega (arith, n)) (λ i a b p q. h (suc i) a b p q))

map_twice : {A B C : Type 0} (f : A → B) (g : B → C) (xs : List A) → map g (map f xs) ≡ map (λ x. g (f x)) xs
map_twice f g [] = refl
map_twice f g (x ∷ xs) = ap (λ l. g (f x) ∷ l) (map_twice f g xs)

-- the boot state, part by part
boot_is : (t : State) (cores : List (Option Booted)) (places : List (Option ℕ)) → map booted_of t.cores ≡ cores → map core_of_block t.blocks ≡ places → boot_of t ≡ record { cores = cores; places = places }
unfolding boot_of
boot_is t cores places h k = ap (λ l. record { cores = l; places = map core_of_block t.blocks }) h ∙ ap (λ l. record { cores = cores; places = l }) k

pub booted_is : (s : State) (c : ℕ) (k : Core) → slice_get s.cores c ≡ Some k → booted_at (boot_of s) c ≡ booted_of k
unfolding boot_of
booted_is s c k h = ap (λ o. bind o (λ x. x)) (slice_get-map booted_of s.cores c ∙ ap (option_map booted_of) h)

-- a core that is on
some_version : (o : Option Version) → IsSome o → (v : Version) × (o ≡ Some v)
some_version None h = absurd cc
some_version (Some v) h = (v, refl)

abbrev pub booted_with : Core → Version → Booted
booted_with k v = record { version = v; home = home_block k.share; parked = parked_blocks k.share }

pub booted_on : (k : Core) (v : Version) → k.version ≡ Some v → booted_of k ≡ Some (booted_with k v)
booted_on k v h = ap (option_map (λ u. booted_with k u)) h

-- a block more
joined_home : (share : List Member) (m : Member) → homes_in (share ++ m ∷ []) ≤ 1 → home_block (share ++ m ∷ []) ≡ (if m.parked then home_block share else Some m.block)
joined_home share m h = home_middle share m [] h ∙ ap (λ l. if m.parked then home_block l else Some m.block) (append-nil share)

joined_parked : (share : List Member) (m : Member) → parked_blocks (share ++ m ∷ []) ≡ (if m.parked then with_number m.block (parked_blocks share) else parked_blocks share)
joined_parked share m = parked_middle share m [] ∙ ap (λ l. if m.parked then with_number m.block (parked_blocks l) else parked_blocks l) (append-nil share)

room_home : (parked : Bool) (k : Core) (b : ℕ) → HasRoom parked k → homes_in k.share ≤ 1 → homes_in (k.share ++ record { block = b; parked = parked } ∷ []) ≤ 1
room_home true k b r h = let e = sum_by_push (λ (n : Member). if not n.parked then 1 else 0) k.share (record { block = b; parked = true }) in omega (arith, e, h)
room_home false k b r h = let e = sum_by_push (λ (n : Member). if not n.parked then 1 else 0) k.share (record { block = b; parked = false }) in omega (arith, e, r)

booted_by : (b : ℕ) (parked : Bool) (v : Version) (home : Option ℕ) (ns : List ℕ) →
    ◌≡◌ {A = Booted} (record { version = v; home = if parked then home else Some b; parked = if parked then with_number b ns else ns }) (with_block b parked (record { version = v; home = home; parked = ns }))
booted_by b true v home ns = refl
booted_by b false v home ns = refl

joined_boot : (k : Core) (b : ℕ) (parked : Bool) (v : Version) → homes_in (k.share ++ record { block = b; parked = parked } ∷ []) ≤ 1 →
    booted_with (record k { share = k.share ++ record { block = b; parked = parked } ∷ [] }) v ≡ with_block b parked (booted_with k v)
joined_boot k b parked v h =
    ap (λ l. record { version = v; home = l; parked = parked_blocks (k.share ++ record { block = b; parked = parked } ∷ []) }) (joined_home k.share (record { block = b; parked = parked }) h)
    ∙ ap (λ l. record { version = v; home = if parked then home_block k.share else Some b; parked = l }) (joined_parked k.share (record { block = b; parked = parked }))
    ∙ booted_by b parked v (home_block k.share) (parked_blocks k.share)

-- a block less
left_boot : (k : Core) (b : ℕ) (v : Version) → homes_in k.share ≤ 1 → booted_with (record k { share = share_without b k.share }) v ≡ without_block b (booted_with k v)
left_boot k b v h =
    ap (λ l. record { version = v; home = l; parked = parked_blocks (share_without b k.share) }) (home_left b k.share h)
    ∙ ap (λ l. record { version = v; home = unless b (home_block k.share); parked = l }) (parked_left b k.share)

number_same : (c : ℕ) → none_on c (Some c) ≡ None
number_same c = ap (λ (t : Bool). if t then None else Some c) (same_is c)

module _ (s : State) (chs : List Change) (e : Entry) (placed : IsPlaced s) (shares : AreShares s) (fit : PostsFit s) where
  -- the order in the registry, where the core is so
  order_is : (c : ℕ) (k : Core) (o : Order) → slice_get s.cores c ≡ Some k → (b : Option Booted) → booted_of k ≡ b → after_order_at (boot_of s) c b o ≡ after_order (boot_of s) c o
  unfolding after_order
  order_is c k o h b q = ap (λ b. after_order_at (boot_of s) c b o) (sym (booted_is s c k h ∙ q))

  pub start_boot : (i : IsStart s chs e) → boot_of (apply s chs) ≡ after_order (boot_of s) i.c (orders.Start i.v)
  unfolding boot_of
  start_boot i =
      let new : Core = record i.k { version = Some i.v } in
      let off = fit i.c (orders.Start i.v) i.k i.order_at.mailbox_at i.order_at.core_at in
      let none = (shares i.c i.k i.order_at.core_at).off off in
      let t = apply s (acked i.c new []) in
      ap (λ cs. boot_of (apply s cs)) i.changes_are
      ∙ boot_is t _ _ (map-set booted_of s.cores i.c new ∙ ap (λ share. slice_set (map booted_of s.cores) i.c (Some (record { version = i.v; home = home_block share; parked = parked_blocks share }))) none) refl
      ∙ order_is i.c i.k (orders.Start i.v) i.order_at.core_at None (ap (option_map (λ u. booted_with i.k u)) off)

  -- the blocks of the share have no core afterwards
  pub stop_boot : (i : IsStop s chs e) → boot_of (apply s chs) ≡ after_order (boot_of s) i.c orders.Stop
  unfolding boot_of
  stop_boot i =
      let v = some_version i.k.version (fit i.c orders.Stop i.k i.order_at.mailbox_at i.order_at.core_at) in
      ap (λ cs. boot_of (apply s cs)) i.changes_are
      ∙ boot_is t _ _ (ap (map booted_of) (all_cores (block_at_rest i.k.clock) s.blocks i.k.share mid) ∙ map-set booted_of s.cores i.c new)
      (map_same core_of_block (λ x. none_on i.c (core_of_block x)) s.blocks t.blocks (same_lengths later mid).blocks (λ b x z p q. by_case b x z p (block_case (block_at_rest i.k.clock) s mid i.k.share b z refl q)) ∙ sym (map_twice core_of_block (none_on i.c) s.blocks))
      ∙ order_is i.c i.k orders.Stop i.order_at.core_at (Some (booted_with i.k v.0)) (booted_on i.k v.0 v.1)
    where
      new : Core
      new = record i.k { version = None; share = [] }

      mid : State
      mid = apply s (acked i.c new [])

      later : List Change
      later = change_all (block_at_rest i.k.clock) (map (looked_at s.blocks) (share_blocks i.k.share))

      t : State
      t = apply mid later

      here_none : (w : Whereabouts) → IsOn i.c w → none_on i.c (core_in w) ≡ None
      here_none (rest kept) o = absurd o
      here_none (on d offset v) o = ap (λ n. none_on i.c (Some n)) o ∙ number_same i.c

      other_by : (b : ℕ) (w : Whereabouts) → IsListed s b w → has i.k.share b ≡ false → core_in w ≡ none_on i.c (core_in w)
      other_by b (rest kept) l h = refl
      other_by b (on d offset v) l h = by_test (d == i.c) refl
        where
          by_test : (u : Bool) → (d == i.c) ≡ u → Some d ≡ (if u then None else Some d)
          by_test true q =
              let same : i.k ≡ l.0 = same_some (slice_get s.cores i.c) i.k l.0 i.order_at.core_at (ap (slice_get s.cores) (sym (is_same d i.c q)) ∙ l.1) in
              absurd (let z : true ≡ false = sym l.2 ∙ ap (λ (k : Core). has k.share b) (sym same) ∙ h in cc)
          by_test false q = refl

      by_case : (b : ℕ) (x z : Block) → slice_get s.blocks b ≡ Some x → AllCase (block_at_rest i.k.clock) s.blocks i.k.share mid b z → core_of_block z ≡ none_on i.c (core_of_block x)
      by_case b x z p (was_listed h y q g) =
          let own = placed.only i.c i.k i.order_at.core_at b h in
          let same : own.0 ≡ x = same_some (slice_get s.blocks b) own.0 x own.1 p in
          ap core_of_block g ∙ sym (here_none x.whereabouts (subst (λ (u : Block). IsOn i.c u.whereabouts) same own.2))
      by_case b x z p (not_listed h q) = ap core_of_block (same_some (slice_get s.blocks b) z x q p) ∙ other_by b x.whereabouts (placed.listed b x p) h

  pub replace_boot : (i : IsReplace s chs e) → boot_of (apply s chs) ≡ after_order (boot_of s) i.c (orders.Replace i.v)
  unfolding boot_of
  replace_boot i =
      let v = some_version i.k.version (fit i.c (orders.Replace i.v) i.k i.order_at.mailbox_at i.order_at.core_at) in
      ap (λ cs. boot_of (apply s cs)) i.changes_are
      ∙ boot_is t _ _ (ap (map booted_of) (all_cores (block_under i.v) s.blocks i.k.share mid) ∙ map-set booted_of s.cores i.c new)
      (map_same core_of_block core_of_block s.blocks t.blocks (same_lengths later mid).blocks (λ b x z p q. by_case b x z p (block_case (block_under i.v) s mid i.k.share b z refl q)))
      ∙ order_is i.c i.k (orders.Replace i.v) i.order_at.core_at (Some (booted_with i.k v.0)) (booted_on i.k v.0 v.1)
    where
      new : Core
      new = record i.k { version = Some i.v }

      mid : State
      mid = apply s (acked i.c new [])

      later : List Change
      later = change_all (block_under i.v) (map (looked_at s.blocks) (share_blocks i.k.share))

      t : State
      t = apply mid later

      under_same : (w : Whereabouts) → core_in (under i.v w) ≡ core_in w
      under_same (rest kept) = refl
      under_same (on d offset u) = refl

      by_case : (b : ℕ) (x z : Block) → slice_get s.blocks b ≡ Some x → AllCase (block_under i.v) s.blocks i.k.share mid b z → core_of_block z ≡ core_of_block x
      by_case b x z p (was_listed h y q g) = ap core_of_block g ∙ under_same y.whereabouts ∙ ap core_of_block (same_some (slice_get s.blocks b) y x q p)
      by_case b x z p (not_listed h q) = ap core_of_block (same_some (slice_get s.blocks b) z x q p)

  pub adopt_boot : (i : IsAdopt s chs e) → boot_of (apply s chs) ≡ after_order (boot_of s) i.c (orders.Adopt i.b i.parked)
  unfolding boot_of
  adopt_boot i =
      let new : Core = record i.k { share = i.k.share ++ record { block = i.b.0; parked = i.parked } ∷ [] } in
      let z : Block = record i.x { whereabouts = place_on i.c i.k.clock (adopted_time i.k.settings.clocks (time_at i.k.clock i.x.whereabouts) i.k.clock) i.v } in
      let room = (fit i.c (orders.Adopt i.b i.parked) i.k i.order_at.mailbox_at i.order_at.core_at).2 in
      let one = room_home i.parked i.k i.b.0 room (shares i.c i.k i.order_at.core_at).home in
      let t = apply s (acked i.c new (block_becomes i.b.0 z ∷ [])) in
      ap (λ cs. boot_of (apply s cs)) i.changes_are
      ∙ boot_is t _ _
      (map-set booted_of s.cores i.c new ∙ ap (slice_set (map booted_of s.cores) i.c) (booted_on new i.v i.version_at ∙ ap Some (joined_boot i.k i.b.0 i.parked i.v one)))
      (map-set core_of_block s.blocks i.b.0 z)
      ∙ order_is i.c i.k (orders.Adopt i.b i.parked) i.order_at.core_at (Some (booted_with i.k i.v)) (booted_on i.k i.v i.version_at)

  pub release_boot : (i : IsRelease s chs e) → boot_of (apply s chs) ≡ after_order (boot_of s) i.c (orders.Release i.b)
  unfolding boot_of
  release_boot i =
      let v = some_version i.k.version (fit i.c (orders.Release i.b) i.k i.order_at.mailbox_at i.order_at.core_at).0 in
      let new : Core = record i.k { share = share_without i.b.0 i.k.share } in
      let z : Block = block_at_rest i.k.clock i.x in
      let t = apply s (acked i.c new (block_becomes i.b.0 z ∷ [])) in
      ap (λ cs. boot_of (apply s cs)) i.changes_are
      ∙ boot_is t _ _
      (map-set booted_of s.cores i.c new ∙ ap (slice_set (map booted_of s.cores) i.c) (booted_on new v.0 v.1 ∙ ap Some (left_boot i.k i.b.0 v.0 (shares i.c i.k i.order_at.core_at).home)))
      (map-set core_of_block s.blocks i.b.0 z)
      ∙ order_is i.c i.k (orders.Release i.b) i.order_at.core_at (Some (booted_with i.k v.0)) (booted_on i.k v.0 v.1)
