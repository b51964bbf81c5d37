-- A posted order fits: what each command's refusals leave out, and what its release leaves.
use Rattle.std.proofs.Common.{◌≡◌, ℕ, zero, suc, ◌≤◌, ◌<◌, List, [], ◌∷◌, ◌++◌, Bool, true, false, Option, Some, None, refl, sym, ap, ◌∙◌, subst, inl, inr, arith, length, take}
use Rattle.std.proofs.lemmas.Bool.Decides.{nat_tests}
use Rattle.std.proofs.lemmas.Option.{slice_get-map, slice_get_within}
use Rattle.std.specs.Prelude.{slice_get, slice_set, ◌==◌, nat_le, if◌then◌else◌, IsSome, is_some}
use Rattle.std.specs.Option.{option_map, option_map_or}
use Rattle.dc_base.specs.declared.commands.Command.{Command}
use Rattle.dc_base.specs.declared.commands.Command.TheVariants as command
use Rattle.dc_base.specs.declared.commands.Order.{Order}
use Rattle.dc_base.specs.declared.commands.Order.TheVariants as order
use Rattle.dc_base.specs.declared.commands.Refusal.{Refusal}
use Rattle.dc_base.specs.declared.commands.Refusal.TheVariants.{HomeTaken, Off, AlreadyOn, NotAtRest, NotHome, NotParked, ShareFull}
use Rattle.dc_base.specs.declared.kernels.Version.{Version}
use Rattle.dc_base.specs.declared.numbers.BlockNo.{BlockNo}
use Rattle.dc_base.specs.declared.numbers.CoreNo.{CoreNo}
use Rattle.dc_base.specs.Boot.{Registry, Booted, core_of, booted_at, home_on, parked_on, after_order, after_order_at, after_orders, without_block, off, not_at_rest, home_taken, is_home, is_parked, not_home, not_parked, share_full, on_that_core, refusal, orders, to_its_core}
use Rattle.dc_base.specs.Bounded.{IsSettled, CommandWithin}
use Rattle.dc_base.specs.Outcomes.{has}
use Rattle.dc_base.specs.Placed.{IsPlaced, IsListed, IsOn, homes_in}
use Rattle.dc_base.specs.Progress.{booted_of, boot_of, parked_blocks, home_block, IsRest, IsAtRest, HasRoom, Fits}
use Rattle.dc_base.specs.States.{State, Core, Block, Whereabouts, rest, on, core_in}
use Rattle.dc_base.specs.Words.{bind, first_of, is_number, lists}
use Rattle.dc_sound.proofs.BootOrders.{booted_is, booted_with, booted_on}
use Rattle.dc_sound.proofs.BootStays.{core_of_block}
use Rattle.dc_block_sound.proofs.Elements.{is_same, same_some, same_or_not, set_here, set_other}
use Rattle.dc_sound.proofs.ParkedBlocks.{parked_length, without_length, homes_none, home_in}
use Rattle.dc_sound.proofs.Placed.{rests}

-- refusals that do not apply

first_none : (o : Option Refusal) (os : List (Option Refusal)) → first_of (o ∷ os) ≡ None → (o ≡ None) × (first_of os ≡ None)
first_none None os h = (refl, h)
first_none (Some r) os h = absurd cc

none_if : (t : Bool) (r : Refusal) → (if t then None else Some r) ≡ None → t ≡ true
none_if true r h = refl
none_if false r h = absurd cc

if_none : (t : Bool) (r : Refusal) → (if t then Some r else None) ≡ None → t ≡ false
if_none true r h = absurd cc
if_none false r h = refl

is_on : (r : Registry) (c : CoreNo) → off r c ≡ None → is_some (booted_at r c.0) ≡ true
is_on r c h = none_if (is_some (booted_at r c.0)) (Off c) h

-- the block has a core, which is on
pub record HasCore (r : Registry) (b : ℕ) : Type 0 where
  pub core : ℕ
  pub place : core_of r b ≡ Some core
  pub booted : Booted
  pub booted_is : booted_at r core ≡ Some booted

has_core_by : (r : Registry) (b c : ℕ) → core_of r b ≡ Some c → (o : Option Booted) → booted_at r c ≡ o → (o ≡ None → ⊥) → HasCore r b
has_core_by r b c q None e n = absurd (n refl)
has_core_by r b c q (Some k) e n = record { core = c; place = q; booted = k; booted_is = e }

home_core : (r : Registry) (b : ℕ) → is_home r b ≡ true → HasCore r b
home_core r b h = by_place (core_of r b) refl h
  where
    by_place : (o : Option ℕ) → core_of r b ≡ o → is_number b (bind o (home_on r)) ≡ true → HasCore r b
    by_place None q h = absurd cc
    by_place (Some c) q h = has_core_by r b c q (booted_at r c) refl (λ n. let z : false ≡ true = ap (λ o. is_number b (bind o (λ (k : Booted). k.home))) (sym n) ∙ h in absurd cc)

parked_core : (r : Registry) (b : ℕ) → is_parked r b ≡ true → HasCore r b
parked_core r b h = by_place (core_of r b) refl h
  where
    by_place : (o : Option ℕ) → core_of r b ≡ o → option_map_or (λ c. lists (parked_on r c) b) o false ≡ true → HasCore r b
    by_place None q h = absurd cc
    by_place (Some c) q h = has_core_by r b c q (booted_at r c) refl (λ n. let z : false ≡ true = ap (λ o. lists (option_map_or (λ (k : Booted). k.parked) o []) b) (sym n) ∙ h in absurd cc)

-- the boot state after a block was released, or where it was at rest before
pub record Released (r boot : Registry) (b : ℕ) : Type 0 where
  pub on : (c : ℕ) → is_some (booted_at r c) ≡ true → is_some (booted_at boot c) ≡ true
  pub home : (c h : ℕ) → home_on boot c ≡ Some h → home_on r c ≡ Some h
  pub parked : (c : ℕ) → length (parked_on boot c) ≤ length (parked_on r c)
  pub gone : core_of boot b ≡ None

at_rest : (r : Registry) (b : ℕ) → core_of r b ≡ None → Released r r b
at_rest r b h = record { on = λ c k. k; home = λ c h k. k; parked = λ c. omega arith; gone = h }

there_by : {A : Type 0} (o : Option (Option A)) (x : A) → bind o (λ p. p) ≡ Some x → o ≡ Some (Some x)
there_by None x h = absurd cc
there_by (Some None) x h = absurd cc
there_by (Some (Some y)) x h = let same : y ≡ x = cc in ap (λ z. Some (Some z)) same

module _ (r : Registry) (b : ℕ) (k : HasCore r b) where
  abbrev left : Registry
  left = record { cores = slice_set r.cores k.core (Some (without_block b k.booted)); places = slice_set r.places b None }

  cores_there : slice_get r.cores k.core ≡ Some (Some k.booted)
  cores_there = there_by (slice_get r.cores k.core) k.booted k.booted_is

  -- a core after the release
  data LeftCore (c : ℕ) : Type 0 where
    this_core : booted_at r c ≡ Some k.booted → booted_at left c ≡ Some (without_block b k.booted) → LeftCore c
    that_core : booted_at left c ≡ booted_at r c → LeftCore c

  left_core : (c : ℕ) → LeftCore c
  left_core c = elim (same_or_not k.core c) [
    | inl e ↦ this_core (subst (λ n. booted_at r n ≡ Some k.booted) e k.booted_is)
        (subst (λ n. booted_at left n ≡ Some (without_block b k.booted)) e (ap (λ o. bind o (λ (p : Option Booted). p)) (set_here r.cores k.core (Some k.booted) (Some (without_block b k.booted)) cores_there)))
    | inr n ↦ that_core (ap (λ o. bind o (λ (p : Option Booted). p)) (set_other r.cores k.core c (Some (without_block b k.booted)) n))
  ]

  on_by : (c : ℕ) → LeftCore c → is_some (booted_at r c) ≡ true → is_some (booted_at left c) ≡ true
  on_by c (this_core p q) h = ap is_some q
  on_by c (that_core q) h = ap is_some q ∙ h

  kept_home : (h : ℕ) (o : Option ℕ) (t : Bool) → (if t then None else o) ≡ Some h → o ≡ Some h
  kept_home h o true e = absurd cc
  kept_home h o false e = e

  home_by : (c h : ℕ) → LeftCore c → home_on left c ≡ Some h → home_on r c ≡ Some h
  home_by c h (this_core p q) e =
      ap (λ o. bind o (λ (k : Booted). k.home)) p ∙ kept_home h k.booted.home (is_number b k.booted.home) (sym (ap (λ o. bind o (λ (k : Booted). k.home)) q) ∙ e)
  home_by c h (that_core q) e = sym (ap (λ o. bind o (λ (k : Booted). k.home)) q) ∙ e

  parked_by : (c : ℕ) → LeftCore c → length (parked_on left c) ≤ length (parked_on r c)
  parked_by c (this_core p q) =
      let new = ap (λ o. length (option_map_or (λ (k : Booted). k.parked) o [])) q in
      let old = ap (λ o. length (option_map_or (λ (k : Booted). k.parked) o [])) p in
      let less = without_length b k.booted.parked in
      omega (arith, new, old, less)
  parked_by c (that_core q) = let same = ap (λ o. length (option_map_or (λ (k : Booted). k.parked) o [])) q in omega (arith, same)

  left_released : Released r left b
  left_released = record {
    on = λ c h. on_by c (left_core c) h;
    home = λ c h e. home_by c h (left_core c) e;
    parked = λ c. parked_by c (left_core c);
    gone = ap (λ o. bind o (λ (p : Option ℕ). p)) (set_here r.places b (Some k.core) None (there_by (slice_get r.places b) k.core k.place));
  }

  release_is : (n : BlockNo) → n.0 ≡ b → after_order r k.core (order.Release n) ≡ left
  unfolding after_order
  release_is n e = ap (λ o. after_order_at r k.core o (order.Release n)) k.booted_is ∙ ap (λ m. record { cores = slice_set r.cores k.core (Some (without_block m k.booted)); places = slice_set r.places m None }) e

  released : (n : BlockNo) → n.0 ≡ b → (boot : Registry) → boot ≡ after_order r k.core (order.Release n) → Released r boot b
  released n e boot h = subst (λ u. Released r u b) (sym (h ∙ release_is n e)) left_released

-- what the refusals of a command that adopts leave: room, by its registry
abbrev RoomIn : Registry → CoreNo → BlockNo → Bool → Type 0
RoomIn r c b false = home_taken r c b ≡ None
RoomIn r c b true = share_full r c ≡ None

-- the order's core exists, and the order fits it
pub record PostFits (s : State) (o : ℕ × Order) : Type 0 where
  pub core_is : o.0 < length s.cores
  pub fits : (k : Core) → slice_get s.cores o.0 ≡ Some k → Fits s k o.1

module _ (s : State) (placed : IsPlaced s) (settled : IsSettled s) where
  abbrev boot : Registry
  boot = boot_of s

  place_is : (b : ℕ) (x : Block) → slice_get s.blocks b ≡ Some x → core_of boot b ≡ core_in x.whereabouts
  unfolding boot_of
  place_is b x h = ap (λ o. bind o (λ p. p)) (slice_get-map core_of_block s.blocks b ∙ ap (option_map core_of_block) h)

  -- a core of the boot state
  is_version : (o : Option Version) (f : Version → Booted) → is_some (option_map f o) ≡ true → IsSome o
  is_version None f h = h
  is_version (Some v) f h = refl

  some_version : (o : Option Version) → IsSome o → (v : Version) × (o ≡ Some v)
  some_version None h = absurd cc
  some_version (Some v) h = (v, refl)

  core_on : (c : ℕ) (k : Core) → slice_get s.cores c ≡ Some k → is_some (booted_at boot c) ≡ true → IsSome k.version
  core_on c k h o = is_version k.version (booted_with k) (sym (ap is_some (booted_is s c k h)) ∙ o)

  home_is : (c : ℕ) (k : Core) → slice_get s.cores c ≡ Some k → IsSome k.version → home_on boot c ≡ home_block k.share
  home_is c k h o = let v = some_version k.version o in ap (λ p. bind p (λ (k : Booted). k.home)) (booted_is s c k h ∙ booted_on k v.0 v.1)

  parked_is : (c : ℕ) (k : Core) → slice_get s.cores c ≡ Some k → IsSome k.version → parked_on boot c ≡ parked_blocks k.share
  parked_is c k h o = let v = some_version k.version o in ap (λ p. option_map_or (λ (k : Booted). k.parked) p []) (booted_is s c k h ∙ booted_on k v.0 v.1)

  there_is : {A : Type 0} (xs : List A) (i : ℕ) → i < length xs → (x : A) × (slice_get xs i ≡ Some x)
  there_is [] i h = absurd (omega arith)
  there_is (x ∷ xs) zero h = (x, refl)
  there_is (x ∷ xs) (suc i) h = there_is xs i (omega arith)

  rest_by : (w : Whereabouts) → core_in w ≡ None → IsRest w
  rest_by (rest kept) h = tt
  rest_by (on c offset v) h = absurd cc

  -- an adopt fits
  adopt_fits : (r : Registry) (c : CoreNo) (b : BlockNo) (parked : Bool) → Released r boot b.0 → off r c ≡ None → RoomIn r c b parked → b.0 < length s.blocks → (k : Core) → slice_get s.cores c.0 ≡ Some k → Fits s k (order.Adopt b parked)
  adopt_fits r c b parked left o room there k at =
      let alive = core_on c.0 k at (left.on c.0 (is_on r c o)) in
      let x = there_is s.blocks b.0 there in
      let still = rest_by x.0.whereabouts (sym (place_is b.0 x.0 x.1) ∙ left.gone) in
      (alive, subst IsAtRest (sym x.1) still, room_by alive x.0 x.1 still parked room)
    where
      taken : (h : ℕ) → bind (Some h) (λ h. if h == b.0 then None else Some (HomeTaken c (record { 0 = h }))) ≡ None → h ≡ b.0
      taken h e = is_same h b.0 (none_if (h == b.0) (HomeTaken c (record { 0 = h })) e)

      home_by : (x : Block) → slice_get s.blocks b.0 ≡ Some x → IsRest x.whereabouts → IsSome k.version → home_taken r c b ≡ None → (o : Option ℕ) → home_block k.share ≡ o → homes_in k.share ≡ 0
      home_by x q still alive room None e = homes_none k.share e
      home_by x q still alive room (Some h) e =
          let was = left.home c.0 h (home_is c.0 k at alive ∙ e) in
          let same = taken h (sym (ap (λ p. bind p (λ h. if h == b.0 then None else Some (HomeTaken c (record { 0 = h })))) was) ∙ room) in
          let own = placed.only c.0 k at b.0 (subst (λ n. has k.share n ≡ true) same (home_in k.share h e)) in
          absurd (rests x.whereabouts still c.0 (subst (λ (u : Block). IsOn c.0 u.whereabouts) (same_some (slice_get s.blocks b.0) own.0 x own.1 q) own.2))

      room_by : IsSome k.version → (x : Block) → slice_get s.blocks b.0 ≡ Some x → IsRest x.whereabouts → (t : Bool) → RoomIn r c b t → HasRoom t k
      room_by alive x q still false room = home_by x q still alive room (home_block k.share) refl
      room_by alive x q still true room =
          let full = if_none (nat_le 8 (length (parked_on r c.0))) (ShareFull c) room in
          let less : length (parked_on r c.0) < 8 = grind (arith, nat_tests) in
          let fewer = left.parked c.0 in
          let same = ap length (parked_is c.0 k at alive) in
          let count = parked_length k.share in
          omega (arith, less, fewer, same, count)

  -- a release fits
  release_by : (b : BlockNo) (c : ℕ) (x : Block) → IsListed s b.0 x.whereabouts → core_in x.whereabouts ≡ Some c → (w : Whereabouts) → x.whereabouts ≡ w → PostFits s (c, order.Release b)
  release_by b c x l h (rest kept) e = absurd (let z : None ≡ Some c = sym (ap core_in e) ∙ h in cc)
  release_by b c x l h (on d offset v) e =
      let listed : IsListed s b.0 (on d offset v) = subst (IsListed s b.0) e l in
      let here : d ≡ c = let z : Some d ≡ Some c = sym (ap core_in e) ∙ h in cc in
      let at : slice_get s.cores c ≡ Some listed.0 = ap (slice_get s.cores) (sym here) ∙ listed.1 in
      record {
        core_is = slice_get_within s.cores c listed.0 at;
        fits = λ k q. let same = same_some (slice_get s.cores c) listed.0 k at q in (ap is_some (sym (ap (λ (m : Core). m.version) same) ∙ listed.3), ap (λ (m : Core). has m.share b.0) (sym same) ∙ listed.2);
      }

  release_fits : (b : BlockNo) (c : ℕ) → core_of boot b.0 ≡ Some c → b.0 < length s.blocks → PostFits s (c, order.Release b)
  release_fits b c h there = let x = there_is s.blocks b.0 there in release_by b c x.0 (placed.listed b.0 x.0 x.1) (sym (place_is b.0 x.0 x.1) ∙ h) x.0.whereabouts refl

  -- the limits of a command's numbers
  core_there : (c : ℕ) → c < s.script.settings.cores → c < length s.cores
  core_there c h = let e = settled.cores in omega (arith, h, e)

  block_there : (b : ℕ) → b < s.script.settings.blocks → b < length s.blocks
  block_there b h = let e = settled.blocks in omega (arith, h, e)

  one_of : {o p : ℕ × Order} → Some o ≡ Some p → PostFits s o → PostFits s p
  one_of e h = subst (PostFits s) (let q : _ = e in some_same q) h
    where
      some_same : {o p : ℕ × Order} → Some o ≡ Some p → o ≡ p
      some_same e = cc

  -- the first post, where the registry is the boot state
  only_first : (b : BlockNo) (more : List (ℕ × Order)) (o : ℕ × Order) → b.0 < length s.blocks → HasCore boot b.0 → slice_get (to_its_core boot b ++ more) 0 ≡ Some o → PostFits s o
  only_first b more o there k e =
      one_of (sym (ap (λ p. slice_get (option_map_or (λ c. (c, order.Release b) ∷ []) p [] ++ more) 0) k.place) ∙ e) (release_fits b k.core k.place there)

  pub first_fits : (m : Command) (o : ℕ × Order) → CommandWithin s.script.settings m → refusal boot m ≡ None → slice_get (orders boot m) 0 ≡ Some o → PostFits s o
  unfolding refusal orders
  first_fits (command.Start c v) o w h e =
      one_of e (record { core_is = core_there c.0 w; fits = λ k q. no_version k (sym (ap (option_map (λ (k : Booted). AlreadyOn c)) (booted_is s c.0 k q)) ∙ h) })
    where
      no_version_by : (k : Core) (o : Option Version) → option_map (λ (k : Booted). AlreadyOn c) (option_map (booted_with k) o) ≡ None → o ≡ None
      no_version_by k None h = refl
      no_version_by k (Some v) h = absurd cc

      no_version : (k : Core) → option_map (λ (k : Booted). AlreadyOn c) (booted_of k) ≡ None → k.version ≡ None
      no_version k h = no_version_by k k.version h
  first_fits (command.Stop c) o w h e = one_of e (record { core_is = core_there c.0 w; fits = λ k q. core_on c.0 k q (is_on boot c h) })
  first_fits (command.Replace c v) o w h e = one_of e (record { core_is = core_there c.0 w; fits = λ k q. core_on c.0 k q (is_on boot c (first_none _ _ h).0) })
  first_fits (command.Attach b c) o w h e =
      let a = first_none (off boot c) (not_at_rest boot b ∷ home_taken boot c b ∷ []) h in
      let d = first_none (not_at_rest boot b) (home_taken boot c b ∷ []) a.1 in
      let f = first_none (home_taken boot c b) [] d.1 in
      one_of e (record { core_is = core_there c.0 w.1; fits = λ k q. adopt_fits boot c b false (at_rest boot b.0 (no_core (core_of boot b.0) d.0)) a.0 f.0 (block_there b.0 w.0) k q })
    where
      no_core : (o : Option ℕ) → option_map (λ c. NotAtRest b (record { 0 = c })) o ≡ None → o ≡ None
      no_core None h = refl
      no_core (Some c) h = absurd cc
  first_fits (command.Move b c) o w h e =
      let a = first_none (off boot c) _ h in
      let d = first_none (home_taken boot c b) _ a.1 in
      let f = first_none (not_home boot b) _ d.1 in
      only_first b _ o (block_there b.0 w.0) (home_core boot b.0 (none_if (is_home boot b.0) (NotHome b) f.0)) e
  first_fits (command.Park b c) o w h e =
      let a = first_none (off boot c) _ h in
      let f = first_none (not_home boot b) _ a.1 in
      only_first b _ o (block_there b.0 w.0) (home_core boot b.0 (none_if (is_home boot b.0) (NotHome b) f.0)) e
  first_fits (command.Unpark b c) o w h e =
      let a = first_none (off boot c) _ h in
      let d = first_none (home_taken boot c b) _ a.1 in
      let f = first_none (not_parked boot b) _ d.1 in
      only_first b _ o (block_there b.0 w.0) (parked_core boot b.0 (none_if (is_parked boot b.0) (NotParked b) f.0)) e

  -- the second post, where the first order was carried out
  none_more : (o p : ℕ × Order) (n : ℕ) → slice_get (o ∷ []) (suc n) ≡ Some p → PostFits s p
  none_more o p n e = absurd cc

  only_next : (r : Registry) (b : BlockNo) (c : CoreNo) (parked : Bool) (o : ℕ × Order) (n : ℕ) → b.0 < length s.blocks → c.0 < length s.cores → HasCore r b.0 → off r c ≡ None → RoomIn r c b parked →
      slice_get (to_its_core r b ++ (c.0, order.Adopt b parked) ∷ []) (suc n) ≡ Some o → boot ≡ after_orders r (take (suc n) (to_its_core r b ++ (c.0, order.Adopt b parked) ∷ [])) → PostFits s o
  only_next r b c parked o n there core k alive room e g =
      by_last n
      (sym (ap (λ p. slice_get (option_map_or (λ c. (c, order.Release b) ∷ []) p [] ++ (c.0, order.Adopt b parked) ∷ []) (suc n)) k.place) ∙ e)
      (g ∙ ap (λ p. after_orders r (take (suc n) (option_map_or (λ c. (c, order.Release b) ∷ []) p [] ++ (c.0, order.Adopt b parked) ∷ []))) k.place)
    where
      by_last : (n : ℕ) → slice_get ((k.core, order.Release b) ∷ (c.0, order.Adopt b parked) ∷ []) (suc n) ≡ Some o → boot ≡ after_orders r (take (suc n) ((k.core, order.Release b) ∷ (c.0, order.Adopt b parked) ∷ [])) → PostFits s o
      by_last zero e g = one_of e (record { core_is = core; fits = λ m q. adopt_fits r c b parked (released r b.0 k b refl boot g) alive room there m q })
      by_last (suc n) e g = absurd cc

  pub next_fits : (r : Registry) (m : Command) (o : ℕ × Order) (n : ℕ) → CommandWithin s.script.settings m → refusal r m ≡ None → slice_get (orders r m) (suc n) ≡ Some o → boot ≡ after_orders r (take (suc n) (orders r m)) → PostFits s o
  unfolding refusal orders
  next_fits r (command.Start c v) o n w h e g = none_more (c.0, order.Start v) o n e
  next_fits r (command.Stop c) o n w h e g = none_more (c.0, order.Stop) o n e
  next_fits r (command.Replace c v) o n w h e g = none_more (c.0, order.Replace v) o n e
  next_fits r (command.Attach b c) o n w h e g = none_more (c.0, order.Adopt b false) o n e
  next_fits r (command.Move b c) o n w h e g =
      let a = first_none (off r c) _ h in
      let d = first_none (home_taken r c b) _ a.1 in
      let f = first_none (not_home r b) _ d.1 in
      only_next r b c false o n (block_there b.0 w.0) (core_there c.0 w.1) (home_core r b.0 (none_if (is_home r b.0) (NotHome b) f.0)) a.0 d.0 e g
  next_fits r (command.Park b c) o n w h e g =
      let a = first_none (off r c) _ h in
      let f = first_none (not_home r b) _ a.1 in
      let d = first_none (on_that_core r b c) _ f.1 in
      let i = first_none (share_full r c) _ d.1 in
      only_next r b c true o n (block_there b.0 w.0) (core_there c.0 w.1) (home_core r b.0 (none_if (is_home r b.0) (NotHome b) f.0)) a.0 i.0 e g
  next_fits r (command.Unpark b c) o n w h e g =
      let a = first_none (off r c) _ h in
      let d = first_none (home_taken r c b) _ a.1 in
      let f = first_none (not_parked r b) _ d.1 in
      only_next r b c false o n (block_there b.0 w.0) (core_there c.0 w.1) (parked_core r b.0 (none_if (is_parked r b.0) (NotParked b) f.0)) a.0 d.0 e g
