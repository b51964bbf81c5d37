-- A block is on a core exactly where that core's share lists it: each order keeps this, and so each entry.
use Rattle.std.proofs.Common.{◌≡◌, ◌⊎◌, ℕ, List, [], ◌∷◌, ◌++◌, Bool, true, false, Some, None, refl, sym, ap, ◌∙◌, subst, map, inl, inr}
use Rattle.std.specs.Prelude.{slice_get, slice_set, ◌==◌, ◌||◌, ℤ}
use Rattle.std.proofs.lemmas.List.Folds.{list_any-append}
use Rattle.std.proofs.Math.Bool.{or-true}
use Rattle.dc_base.specs.declared.kernels.Version.{Version}
use Rattle.dc_base.specs.declared.entries.Entry.{Entry}
use Rattle.dc_base.specs.declared.commands.Order.TheVariants as orders
use Rattle.dc_base.specs.Changes.{Change, apply, block_becomes}
use Rattle.dc_base.specs.Orders.{change_all, under, block_under, block_at_rest, acked, adopted_time}
use Rattle.dc_base.specs.Outcomes.{has, share_blocks, share_without}
use Rattle.dc_base.specs.Placed.{IsListed, IsOn, IsPlaced}
use Rattle.dc_base.specs.Progress.{PostsFit, IsRest, IsAtRest}
use Rattle.dc_base.specs.States.{State, Core, Block, Member, Whereabouts, rest, on, place_on, time_at}
use Rattle.dc_base.specs.Turns.{looked_at}
use Rattle.dc_sound.proofs.EntryKinds.{IsStart, IsStop, IsReplace, IsAdopt, IsRelease, Kind, is_slice, is_slice_none, is_idle, is_wake, is_intake, is_start, is_stop, is_replace, is_adopt, is_release, is_post, is_done, is_refused, is_route, is_awaited, is_raise}
use Rattle.dc_sound.proofs.Rules.{block_stays}
use Rattle.dc_block_sound.proofs.Elements.{same_is, is_same, same_some, set_here, set_other, SetCase, set_now, set_before, set_case, AllCase, was_listed, not_listed, all_cores, block_case}
use Rattle.dc_sound.proofs.Shares.{has-without, has-stays}
use Rattle.dc_sound.proofs.Placed.{placed_frame, by_slice, by_slice_none, by_idle, by_wake, by_intake, by_post, by_done, by_refused, by_route, by_awaited, by_raise, both_on, rests, under_on, listed_on, here_on}

module _ (s : State) (chs : List Change) (e : Entry) (p : IsPlaced s) (fit : PostsFit s) where
  -- the core is off, so its share has no block that is on it
  start_kept : IsStart s chs e → IsPlaced (apply s chs)
  start_kept i = subst (λ cs. IsPlaced (apply s cs)) (sym i.changes_are) (record {
    listed = λ b x q. listed_on s p i.c i.k new i.order_at.core_at t refl b x.whereabouts (λ o h. off b x o q h) (p.listed b x q);
    only = λ d m q b h. by_set d m b h (set_case s.cores i.c new d m q);
  })
    where
      new : Core
      new = record i.k { version = Some i.v }

      t : State
      t = apply s (acked i.c new [])

      no_version : i.k.version ≡ None
      no_version = fit i.c (orders.Start i.v) i.k i.order_at.mailbox_at i.order_at.core_at

      off : (b : ℕ) (x : Block) → IsOn i.c x.whereabouts → slice_get s.blocks b ≡ Some x → has i.k.share b ≡ true → IsListed t b x.whereabouts
      off b x o q h = by_place x.whereabouts o (p.listed b x q)
        where
          by_place : (w : Whereabouts) → IsOn i.c w → IsListed s b w → IsListed t b w
          by_place (rest kept) o l = tt
          by_place (on d offset v) o l =
              let same : i.k ≡ l.0 = same_some (slice_get s.cores i.c) i.k l.0 i.order_at.core_at (ap (slice_get s.cores) (sym o) ∙ l.1) in
              let none : Some v ≡ None = sym l.3 ∙ ap (λ (k : Core). k.version) (sym same) ∙ no_version in
              absurd cc

      by_set : (d : ℕ) (m : Core) (b : ℕ) → has m.share b ≡ true → SetCase s.cores i.c new d m → (x : Block) × (slice_get t.blocks b ≡ Some x) × IsOn d x.whereabouts
      by_set d m b h (set_now same q) = subst (λ n. (x : Block) × (slice_get t.blocks b ≡ Some x) × IsOn n x.whereabouts) same (p.only i.c i.k i.order_at.core_at b (ap (λ (k : Core). has k.share b) (sym q) ∙ h))
      by_set d m b h (set_before n q) = p.only d m q b h

  -- all blocks of the share come to rest
  stop_kept : IsStop s chs e → IsPlaced (apply s chs)
  stop_kept i = subst (λ cs. IsPlaced (apply s cs)) (sym i.changes_are) (record {
    listed = λ b x q. listed_by b x (block_case (block_at_rest i.k.clock) s mid i.k.share b x refl q);
    only = λ d m q b h. by_set d m b h (set_case s.cores i.c new d m (ap (λ l. slice_get l d) (sym cores_are) ∙ q));
  })
    where
      new : Core
      new = record i.k { version = None; share = [] }

      mid : State
      mid = apply s (acked i.c new [])

      t : State
      t = apply mid (change_all (block_at_rest i.k.clock) (map (looked_at s.blocks) (share_blocks i.k.share)))

      cores_are : t.cores ≡ slice_set s.cores i.c new
      cores_are = all_cores (block_at_rest i.k.clock) s.blocks i.k.share mid

      listed_by : (b : ℕ) (x : Block) → AllCase (block_at_rest i.k.clock) s.blocks i.k.share mid b x → IsListed t b x.whereabouts
      listed_by b x (was_listed h y q z) = subst (λ (u : Block). IsListed t b u.whereabouts) (sym z) tt
      listed_by b x (not_listed h q) = listed_on s p i.c i.k new i.order_at.core_at t cores_are b x.whereabouts (λ o l. absurd (let z : true ≡ false = sym l ∙ h in cc)) (p.listed b x q)

      stays_on : (d b : ℕ) (x z : Block) → (i.c ≡ d → ⊥) → slice_get s.blocks b ≡ Some x → IsOn d x.whereabouts → AllCase (block_at_rest i.k.clock) s.blocks i.k.share mid b z → IsOn d z.whereabouts
      stays_on d b x z n q o (was_listed h y g f) =
          let own = p.only i.c i.k i.order_at.core_at b h in
          let same : own.0 ≡ x = same_some (slice_get s.blocks b) own.0 x own.1 q in
          absurd (n (both_on i.c d x.whereabouts (subst (λ (u : Block). IsOn i.c u.whereabouts) same own.2) o))
      stays_on d b x z n q o (not_listed h g) = subst (λ (u : Block). IsOn d u.whereabouts) (same_some (slice_get s.blocks b) x z q g) o

      by_set : (d : ℕ) (m : Core) (b : ℕ) → has m.share b ≡ true → SetCase s.cores i.c new d m → (x : Block) × (slice_get t.blocks b ≡ Some x) × IsOn d x.whereabouts
      by_set d m b h (set_now same q) = absurd (let z : true ≡ false = sym h ∙ ap (λ (k : Core). has k.share b) q in cc)
      by_set d m b h (set_before n q) =
          let was = p.only d m q b h in
          let stay = block_stays (change_all (block_at_rest i.k.clock) (map (looked_at s.blocks) (share_blocks i.k.share))) mid b was.0 was.1 in
          (stay.0, stay.1, stays_on d b was.0 stay.0 n was.1 was.2 (block_case (block_at_rest i.k.clock) s mid i.k.share b stay.0 refl stay.1))

  -- the blocks of the share go on under the new version
  replace_kept : IsReplace s chs e → IsPlaced (apply s chs)
  replace_kept i = subst (λ cs. IsPlaced (apply s cs)) (sym i.changes_are) (record {
    listed = λ b x q. listed_by b x (block_case (block_under i.v) s mid i.k.share b x refl q);
    only = λ d m q b h. by_set d m b h (set_case s.cores i.c new d m (ap (λ l. slice_get l d) (sym cores_are) ∙ q));
  })
    where
      new : Core
      new = record i.k { version = Some i.v }

      mid : State
      mid = apply s (acked i.c new [])

      t : State
      t = apply mid (change_all (block_under i.v) (map (looked_at s.blocks) (share_blocks i.k.share)))

      cores_are : t.cores ≡ slice_set s.cores i.c new
      cores_are = all_cores (block_under i.v) s.blocks i.k.share mid

      under_version : (w : Whereabouts) (offset : ℤ) (u : Version) → under i.v w ≡ on i.c offset u → i.v ≡ u
      under_version (rest kept) offset u h = absurd cc
      under_version (on d o w) offset u h = cc

      listed_by : (b : ℕ) (x : Block) → AllCase (block_under i.v) s.blocks i.k.share mid b x → IsListed t b x.whereabouts
      listed_by b x (was_listed h y q z) =
          let own = p.only i.c i.k i.order_at.core_at b h in
          let same : own.0 ≡ y = same_some (slice_get s.blocks b) own.0 y own.1 q in
          subst (λ (u : Block). IsListed t b u.whereabouts) (sym z)
          (here_on s p i.c i.k new i.order_at.core_at t cores_are b (under i.v y.whereabouts) (under_on i.v i.c y.whereabouts (subst (λ (u : Block). IsOn i.c u.whereabouts) same own.2)) h
          (λ offset u g. ap Some (under_version y.whereabouts offset u g)))
      listed_by b x (not_listed h q) = listed_on s p i.c i.k new i.order_at.core_at t cores_are b x.whereabouts (λ o l. absurd (let z : true ≡ false = sym l ∙ h in cc)) (p.listed b x q)

      stays_on : (d b : ℕ) (x z : Block) → slice_get s.blocks b ≡ Some x → IsOn d x.whereabouts → AllCase (block_under i.v) s.blocks i.k.share mid b z → IsOn d z.whereabouts
      stays_on d b x z q o (was_listed h y g f) =
          let same : x ≡ y = same_some (slice_get s.blocks b) x y q g in
          subst (λ (u : Block). IsOn d u.whereabouts) (sym f) (under_on i.v d y.whereabouts (subst (λ (u : Block). IsOn d u.whereabouts) same o))
      stays_on d b x z q o (not_listed h g) = subst (λ (u : Block). IsOn d u.whereabouts) (same_some (slice_get s.blocks b) x z q g) o

      only_by : (d b : ℕ) → (x : Block) × (slice_get s.blocks b ≡ Some x) × IsOn d x.whereabouts → (x : Block) × (slice_get t.blocks b ≡ Some x) × IsOn d x.whereabouts
      only_by d b was =
          let stay = block_stays (change_all (block_under i.v) (map (looked_at s.blocks) (share_blocks i.k.share))) mid b was.0 was.1 in
          (stay.0, stay.1, stays_on d b was.0 stay.0 was.1 was.2 (block_case (block_under i.v) s mid i.k.share b stay.0 refl stay.1))

      by_set : (d : ℕ) (m : Core) (b : ℕ) → has m.share b ≡ true → SetCase s.cores i.c new d m → (x : Block) × (slice_get t.blocks b ≡ Some x) × IsOn d x.whereabouts
      by_set d m b h (set_now same q) = only_by d b (subst (λ n. (x : Block) × (slice_get s.blocks b ≡ Some x) × IsOn n x.whereabouts) same (p.only i.c i.k i.order_at.core_at b (ap (λ (k : Core). has k.share b) (sym q) ∙ h)))
      by_set d m b h (set_before n q) = only_by d b (p.only d m q b h)

  has_more : (share : List Member) (m : Member) (j : ℕ) → has share j ≡ true → has (share ++ m ∷ []) j ≡ true
  has_more share m j h = list_any-append (λ (n : Member). n.block == j) share (m ∷ []) ∙ ap (λ u. u || ((m.block == j) || false)) h

  has_own : (share : List Member) (m : Member) → has (share ++ m ∷ []) m.block ≡ true
  has_own share m =
      list_any-append (λ (n : Member). n.block == m.block) share (m ∷ []) ∙ ap (λ u. has share m.block || (u || false)) (same_is m.block) ∙ or-true (has share m.block)

  has_less : (share : List Member) (m : Member) (j : ℕ) → has (share ++ m ∷ []) j ≡ true → (has share j ≡ true) ⊎ (m.block ≡ j)
  has_less share m j h = by_bool (has share j) (m.block == j) refl refl (sym (list_any-append (λ (n : Member). n.block == j) share (m ∷ [])) ∙ h)
    where
      by_bool : (t u : Bool) → has share j ≡ t → (m.block == j) ≡ u → (t || (u || false)) ≡ true → (has share j ≡ true) ⊎ (m.block ≡ j)
      by_bool true u g f h = inl g
      by_bool false true g f h = inr (is_same m.block j f)
      by_bool false false g f h = absurd cc

  -- the block was at rest, and is on the core
  adopt_kept : IsAdopt s chs e → IsPlaced (apply s chs)
  adopt_kept i = subst (λ cs. IsPlaced (apply s cs)) (sym i.changes_are) (record {
    listed = λ b x q. listed_by b x (set_case s.blocks i.b.0 moved b x q);
    only = λ d m q b h. by_set d m b h (set_case s.cores i.c new d m q);
  })
    where
      member : Member
      member = record { block = i.b.0; parked = i.parked }

      new : Core
      new = record i.k { share = i.k.share ++ member ∷ [] }

      moved : Block
      moved = record i.x { whereabouts = place_on i.c i.k.clock (adopted_time i.k.settings.clocks (time_at i.k.clock i.x.whereabouts) i.k.clock) i.v }

      t : State
      t = apply s (acked i.c new (block_becomes i.b.0 moved ∷ []))

      at_rest : IsRest i.x.whereabouts
      at_rest = subst IsAtRest i.block_at (fit i.c (orders.Adopt i.b i.parked) i.k i.order_at.mailbox_at i.order_at.core_at).1

      listed_by : (b : ℕ) (x : Block) → SetCase s.blocks i.b.0 moved b x → IsListed t b x.whereabouts
      listed_by b x (set_now same q) =
          subst (λ (u : Block). IsListed t b u.whereabouts) (sym q)
          (new, set_here s.cores i.c i.k new i.order_at.core_at, subst (λ n. has new.share n ≡ true) same (has_own i.k.share member), i.version_at)
      listed_by b x (set_before n q) =
          listed_on s p i.c i.k new i.order_at.core_at t refl b x.whereabouts
          (λ o h. here_on s p i.c i.k new i.order_at.core_at t refl b x.whereabouts o (has_more i.k.share member b h) (λ offset v w. version_by b x q offset v w)) (p.listed b x q)
        where
          version_by : (b : ℕ) (x : Block) → slice_get s.blocks b ≡ Some x → (offset : ℤ) (v : Version) → x.whereabouts ≡ on i.c offset v → i.k.version ≡ Some v
          version_by b x q offset v w =
              let l : IsListed s b (on i.c offset v) = subst (IsListed s b) w (p.listed b x q) in
              ap (λ (k : Core). k.version) (same_some (slice_get s.cores i.c) i.k l.0 i.order_at.core_at l.1) ∙ l.3

      others_stay : (d b : ℕ) → (x : Block) × (slice_get s.blocks b ≡ Some x) × IsOn d x.whereabouts → (x : Block) × (slice_get t.blocks b ≡ Some x) × IsOn d x.whereabouts
      others_stay d b was = (
        was.0,
        set_other s.blocks i.b.0 b moved (λ same.
            rests i.x.whereabouts at_rest d
            (subst (λ (u : Block). IsOn d u.whereabouts) (same_some (slice_get s.blocks b) was.0 i.x was.1 (ap (slice_get s.blocks) (sym same) ∙ i.block_at)) was.2)) ∙ was.1,
        was.2,
      )

      here_by : (b : ℕ) → (has i.k.share b ≡ true) ⊎ (i.b.0 ≡ b) → (x : Block) × (slice_get t.blocks b ≡ Some x) × IsOn i.c x.whereabouts
      here_by b (inl h) = others_stay i.c b (p.only i.c i.k i.order_at.core_at b h)
      here_by b (inr same) = (moved, subst (λ n. slice_get t.blocks n ≡ Some moved) same (set_here s.blocks i.b.0 i.x moved i.block_at), refl)

      by_set : (d : ℕ) (m : Core) (b : ℕ) → has m.share b ≡ true → SetCase s.cores i.c new d m → (x : Block) × (slice_get t.blocks b ≡ Some x) × IsOn d x.whereabouts
      by_set d m b h (set_now same q) =
          subst (λ n. (x : Block) × (slice_get t.blocks b ≡ Some x) × IsOn n x.whereabouts) same (here_by b (has_less i.k.share member b (ap (λ (k : Core). has k.share b) (sym q) ∙ h)))
      by_set d m b h (set_before n q) = others_stay d b (p.only d m q b h)

  -- the block is at rest, and no longer listed
  release_kept : IsRelease s chs e → IsPlaced (apply s chs)
  release_kept i = subst (λ cs. IsPlaced (apply s cs)) (sym i.changes_are) (record {
    listed = λ b x q. listed_by b x (set_case s.blocks i.b.0 moved b x q);
    only = λ d m q b h. by_set d m b h (set_case s.cores i.c new d m q);
  })
    where
      new : Core
      new = record i.k { share = share_without i.b.0 i.k.share }

      moved : Block
      moved = block_at_rest i.k.clock i.x

      t : State
      t = apply s (acked i.c new (block_becomes i.b.0 moved ∷ []))

      version_by : (b : ℕ) (x : Block) → slice_get s.blocks b ≡ Some x → (offset : ℤ) (v : Version) → x.whereabouts ≡ on i.c offset v → i.k.version ≡ Some v
      version_by b x q offset v w =
          let l : IsListed s b (on i.c offset v) = subst (IsListed s b) w (p.listed b x q) in
          ap (λ (k : Core). k.version) (same_some (slice_get s.cores i.c) i.k l.0 i.order_at.core_at l.1) ∙ l.3

      listed_by : (b : ℕ) (x : Block) → SetCase s.blocks i.b.0 moved b x → IsListed t b x.whereabouts
      listed_by b x (set_now same q) = subst (λ (u : Block). IsListed t b u.whereabouts) (sym q) tt
      listed_by b x (set_before n q) =
          listed_on s p i.c i.k new i.order_at.core_at t refl b x.whereabouts
          (λ o h. here_on s p i.c i.k new i.order_at.core_at t refl b x.whereabouts o (has-stays i.b.0 b i.k.share n h) (λ offset v w. version_by b x q offset v w)) (p.listed b x q)

      on_this : IsOn i.c i.x.whereabouts
      on_this =
          let own = p.only i.c i.k i.order_at.core_at i.b.0 (fit i.c (orders.Release i.b) i.k i.order_at.mailbox_at i.order_at.core_at).1 in
          subst (λ (u : Block). IsOn i.c u.whereabouts) (same_some (slice_get s.blocks i.b.0) own.0 i.x own.1 i.block_at) own.2

      others_stay : (d b : ℕ) → (i.b.0 ≡ b → ⊥) → (x : Block) × (slice_get s.blocks b ≡ Some x) × IsOn d x.whereabouts → (x : Block) × (slice_get t.blocks b ≡ Some x) × IsOn d x.whereabouts
      others_stay d b n was = (was.0, set_other s.blocks i.b.0 b moved n ∙ was.1, was.2)

      by_set : (d : ℕ) (m : Core) (b : ℕ) → has m.share b ≡ true → SetCase s.cores i.c new d m → (x : Block) × (slice_get t.blocks b ≡ Some x) × IsOn d x.whereabouts
      by_set d m b h (set_now same q) =
          let part = has-without i.b.0 b i.k.share (ap (λ (k : Core). has k.share b) (sym q) ∙ h) in
          subst (λ n. (x : Block) × (slice_get t.blocks b ≡ Some x) × IsOn n x.whereabouts) same (others_stay i.c b part.0 (p.only i.c i.k i.order_at.core_at b part.1))
      by_set d m b h (set_before n q) =
          let was = p.only d m q b h in
          others_stay d b (λ same. n (both_on i.c d i.x.whereabouts on_this
          (subst (λ (u : Block). IsOn d u.whereabouts) (same_some (slice_get s.blocks b) was.0 i.x was.1 (ap (slice_get s.blocks) (sym same) ∙ i.block_at)) was.2))) was

  -- each entry keeps this part; the orders use that posts fit
  pub placed_kept : Kind s chs e → IsPlaced (apply s chs)
  placed_kept (is_slice i) = placed_frame s chs (by_slice s chs e i) p
  placed_kept (is_slice_none i) = placed_frame s chs (by_slice_none s chs e i) p
  placed_kept (is_idle i) = placed_frame s chs (by_idle s chs e i) p
  placed_kept (is_wake i) = placed_frame s chs (by_wake s chs e i) p
  placed_kept (is_intake i) = placed_frame s chs (by_intake s chs e i) p
  placed_kept (is_start i) = start_kept i
  placed_kept (is_stop i) = stop_kept i
  placed_kept (is_replace i) = replace_kept i
  placed_kept (is_adopt i) = adopt_kept i
  placed_kept (is_release i) = release_kept i
  placed_kept (is_post i) = placed_frame s chs (by_post s chs e i) p
  placed_kept (is_done i) = placed_frame s chs (by_done s chs e i) p
  placed_kept (is_refused i) = placed_frame s chs (by_refused s chs e i) p
  placed_kept (is_route i) = placed_frame s chs (by_route s chs e i) p
  placed_kept (is_awaited i) = placed_frame s chs (by_awaited s chs e i) p
  placed_kept (is_raise i) = placed_frame s chs (by_raise s chs e i) p
