-- Where the blocks are at the start: places, shares, the boot state and times.
use Rattle.std.proofs.Common.{◌≡◌, ℕ, suc, ◌+◌, List, [], ◌∷◌, true, Option, Some, None, refl, sym, ap, ◌∙◌, subst, arith, map, zero-add}
use Rattle.std.specs.Prelude.{slice_get, IfSome, IsSome, ℤ, pos, ◌+ℤ◌, ◌-ℤ◌, ◌≤ℤ◌, unwrap_or}
use Rattle.std.specs.Option.{option_map, option_map_or}
use Rattle.std.proofs.lemmas.Int.{ints}
use Rattle.std.proofs.lemmas.Option.{slice_get-map}
use Rattle.dc_base.specs.declared.commands.ScriptLine.{ScriptLine}
use Rattle.dc_base.specs.declared.images.BlockImage.{BlockImage}
use Rattle.dc_base.specs.declared.images.CoreImage.{CoreImage}
use Rattle.dc_base.specs.declared.images.Image.{Image}
use Rattle.dc_base.specs.declared.kernels.Version.{Version}
use Rattle.dc_base.specs.declared.numbers.CoreNo.{CoreNo}
use Rattle.dc_base.specs.Words.{bind, Each, is_number, above_zero}
use Rattle.dc_base.specs.Boot.{Booted, home_from, boot_cores, boot_start}
use Rattle.dc_base.specs.Bounded.{IsFromZero, IsClocked}
use Rattle.dc_base.specs.Outcomes.{has}
use Rattle.dc_base.specs.Placed.{IsListed, IsOn, IsPlaced, IsShare, AreShares}
use Rattle.dc_base.specs.Progress.{home_block, parked_blocks, booted_of, boot_of, IsRegistered}
use Rattle.dc_base.specs.States.{State, Core, Block, Whereabouts, rest, core_in, clock_of, time_of, place_on, settings_of, home_members_from, core_started, cores_from, first_place, block_started, core_start}
use Rattle.dc_base.specs.Valid.{IsOnAtStart, IsValid}
use Rattle.dc_block_sound.proofs.Elements.{same_is, is_same, same_some}
use Rattle.dc_block_sound.proofs.Seats.{map_there}
use Rattle.dc_block_sound.proofs.StartLists.{first_core, first_core_there, is_home_of, home_there, there_home, members_none, members_once, members_home, members_parked, members_block, members_parked_blocks}

-- a block whose home is this core, which is on
record IsHome (cores : List CoreImage) (h : CoreNo) : Type 0 where
  pub image : CoreImage
  pub image_at : slice_get cores h.0 ≡ Some image
  pub version : Version
  pub version_is : image.version ≡ Some version
  pub place_is : first_place cores (Some h) ≡ place_on h.0 image.base 0 version

home_place : (cores : List CoreImage) (h : CoreNo) → IsOnAtStart cores h → IsHome cores h
home_place cores h o = by_version o.0.version refl o.2
  where
    by_version : (r : Option Version) → o.0.version ≡ r → IsSome r → IsHome cores h
    by_version None q some = absurd cc
    by_version (Some r) q some = record {
      image = o.0;
      image_at = o.1;
      version = r;
      version_is = q;
      place_is =
          ap (λ k. unwrap_or (bind k (λ (k : CoreImage). option_map (λ v. place_on h.0 k.base 0 v) k.version)) (rest 0)) o.1
          ∙ ap (λ v. unwrap_or (option_map (λ v. place_on h.0 o.0.base 0 v) v) (rest 0)) q;
    }

-- the home that a test tells
home_is : (c : ℕ) (o : Option CoreNo) → is_number c (option_map (λ (h : CoreNo). h.0) o) ≡ true → (h : CoreNo) × (o ≡ Some h) × (h.0 ≡ c)
home_is c None e = absurd cc
home_is c (Some h) e = (h, refl, is_same h.0 c e)

is_home : (b : BlockImage) (h : CoreNo) → b.home ≡ Some h → is_home_of h.0 b ≡ true
is_home b h e = ap (λ o. is_number h.0 (option_map (λ (h : CoreNo). h.0) o)) e ∙ same_is h.0

module _ (image : Image) (script : List ScriptLine) (v : IsValid image) where
  abbrev start : State
  start = core_start image script

  on_home : (i : ℕ) (b : BlockImage) (h : CoreNo) → slice_get image.blocks i ≡ Some b → b.home ≡ Some h → IsHome image.cores h
  on_home i b h e q = home_place image.cores h (subst (λ o. IfSome o (IsOnAtStart image.cores)) q (v.homes i b e))

  abbrev first_block : BlockImage → Block
  first_block b = block_started image.cores b

  -- what holds where a block is, by its home
  by_home : (P : Whereabouts → Type 0) (i : ℕ) (b : BlockImage) → slice_get image.blocks i ≡ Some b → P (rest 0) → ((h : CoreNo) → b.home ≡ Some h → (k : IsHome image.cores h) → P (place_on h.0 k.image.base 0 k.version)) → P (first_place image.cores b.home)
  by_home P i b e r o = go b.home refl
    where
      go : (home : Option CoreNo) → b.home ≡ home → P (first_place image.cores home)
      go None q = r
      go (Some h) q = let k = on_home i b h e q in subst P (sym k.place_is) (o h q k)

  listed_home : (i : ℕ) (b : BlockImage) → slice_get image.blocks i ≡ Some b → (h : CoreNo) → b.home ≡ Some h → (k : IsHome image.cores h) → IsListed start i (place_on h.0 k.image.base 0 k.version)
  unfolding core_start
  listed_home i b e h q k = (
    core_started (settings_of image) h.0 image.blocks k.image,
    first_core (settings_of image) image.blocks image.cores h.0 k.image k.image_at,
    subst (λ n. has (home_members_from h.0 0 image.blocks) n ≡ true) (zero-add i) (there_home h.0 0 image.blocks i b e (is_home b h q)),
    k.version_is,
  )

  -- a share lists home blocks alone
  only_home : (c b : ℕ) → has (home_members_from c 0 image.blocks) b ≡ true → (x : Block) × (slice_get (map first_block image.blocks) b ≡ Some x) × IsOn c x.whereabouts
  only_home c b h =
      let w = home_there c 0 image.blocks b h in
      let same : b ≡ w.0 = w.1 ∙ zero-add w.0 in
      let t = home_is c w.2.home w.4 in
      let k = on_home w.0 w.2 t.0 w.3 t.1 in
      let at : slice_get (map first_block image.blocks) b ≡ Some (first_block w.2) = subst (λ n. slice_get (map first_block image.blocks) n ≡ Some (first_block w.2)) (sym same) (slice_get-map first_block image.blocks w.0 ∙ ap (option_map first_block) w.3) in
      (first_block w.2, at, subst (λ o. IsOn c (first_place image.cores o)) (sym t.1) (subst (IsOn c) (sym k.place_is) t.2))

  pub start_placed : IsPlaced start
  unfolding core_start
  start_placed = record {
    listed = λ b x e. (let m = map_there first_block image.blocks b x e in subst (λ (z : Block). IsListed start b z.whereabouts) (sym m.2) (by_home (IsListed start b) b m.0 m.1 tt (listed_home b m.0 m.1)));
    only = λ c k e b h. (let m = first_core_there (settings_of image) image.blocks image.cores c k e in only_home c b (subst (λ (z : Core). has z.share b ≡ true) m.2 h));
  }

  -- shares

  homes_apart : (c i j : ℕ) (a b : BlockImage) → slice_get image.blocks i ≡ Some a → slice_get image.blocks j ≡ Some b → is_home_of c a ≡ true → is_home_of c b ≡ true → i ≡ j
  homes_apart c i j a b e f g h =
      let t = home_is c a.home g in let u = home_is c b.home h in
      let same : u.0 ≡ t.0 = same_core u.0 t.0 (u.2 ∙ sym t.2) in
      v.homes_differ i j a b t.0 e f t.1 (u.1 ∙ ap Some same)
    where
      same_core : (g h : CoreNo) → g.0 ≡ h.0 → g ≡ h
      same_core g h e = ap (λ n. record { 0 = n }) e

  -- no block is home on a core that is off
  off_none : (c : ℕ) (k : CoreImage) → slice_get image.cores c ≡ Some k → k.version ≡ None → Each image.blocks (λ i b. is_home_of c b ≡ true → ⊥)
  off_none c k e q i b f h =
      let t = home_is c b.home h in
      let o = on_home i b t.0 f t.1 in
      let same = same_some (slice_get image.cores c) k o.image e (subst (λ n. slice_get image.cores n ≡ Some o.image) t.2 o.image_at) in
      let bad : None ≡ Some o.version = sym q ∙ ap (λ (k : CoreImage). k.version) same ∙ o.version_is in
      cc

  first_share : (c : ℕ) (k : CoreImage) → slice_get image.cores c ≡ Some k → IsShare (core_started (settings_of image) c image.blocks k)
  first_share c k e = record {
    once = λ b. members_once c 0 image.blocks b;
    home = members_home c 0 image.blocks (homes_apart c);
    parked = (let z = members_parked c 0 image.blocks in omega (arith, z));
    off = λ q. members_none c 0 image.blocks (off_none c k e q);
  }

  pub start_shares : AreShares start
  unfolding core_start
  start_shares c k e = let m = first_core_there (settings_of image) image.blocks image.cores c k e in subst IsShare (sym m.2) (first_share c m.0 m.1)

  -- the boot state

  abbrev booted_image : ℕ → Version → Booted
  booted_image c r = record { version = r; home = home_from c 0 image.blocks; parked = [] }

  abbrev booted_share : ℕ → Version → Booted
  booted_share c r = record { version = r; home = home_block (home_members_from c 0 image.blocks); parked = parked_blocks (home_members_from c 0 image.blocks) }

  one_booted : (c : ℕ) (r : Version) → booted_image c r ≡ booted_share c r
  one_booted c r =
      let a = members_block c 0 image.blocks in
      let b = members_parked_blocks c 0 image.blocks in
      same_record (booted_image c r) (booted_share c r) refl (sym a) (sym b)
    where
      same_record : (j k : Booted) → j.version ≡ k.version → j.home ≡ k.home → j.parked ≡ k.parked → j ≡ k
      same_record j k v h p = λ n. record { version = v n; home = h n; parked = p n }

  same_booted : (c : ℕ) (r : Option Version) → option_map (booted_image c) r ≡ option_map (booted_share c) r
  same_booted c None = refl
  same_booted c (Some r) = ap Some (one_booted c r)

  same_cores : (c : ℕ) (ks : List CoreImage) → boot_cores c image.blocks ks ≡ map booted_of (cores_from (settings_of image) c image.blocks ks)
  same_cores c [] = refl
  same_cores c (k ∷ ks) =
      ap (λ o. o ∷ boot_cores (c + 1) image.blocks ks) (same_booted c k.version)
      ∙ ap (λ os. booted_of (core_started (settings_of image) c image.blocks k) ∷ os) (same_cores (c + 1) ks)

  same_place : (i : ℕ) (b : BlockImage) → slice_get image.blocks i ≡ Some b → option_map (λ (h : CoreNo). h.0) b.home ≡ core_in (first_place image.cores b.home)
  same_place i b e = go b.home refl
    where
      go : (home : Option CoreNo) → b.home ≡ home → option_map (λ (h : CoreNo). h.0) home ≡ core_in (first_place image.cores home)
      go None q = refl
      go (Some h) q = let k = on_home i b h e q in ap core_in (sym k.place_is)

  same_places : (bs : List BlockImage) → ((i : ℕ) (b : BlockImage) → slice_get bs i ≡ Some b → option_map (λ (h : CoreNo). h.0) b.home ≡ core_in (first_place image.cores b.home)) →
      map (λ (b : BlockImage). option_map (λ (h : CoreNo). h.0) b.home) bs ≡ map (λ (x : Block). core_in x.whereabouts) (map first_block bs)
  same_places [] h = refl
  same_places (b ∷ bs) h =
      ap (λ o. o ∷ map (λ (b : BlockImage). option_map (λ (h : CoreNo). h.0) b.home) bs) (h 0 b refl)
      ∙ ap (λ os. core_in (first_place image.cores b.home) ∷ os) (same_places bs (λ i x e. h (suc i) x e))

  same_boot : boot_start image ≡ boot_of start
  unfolding core_start boot_start boot_of
  same_boot =
      ap (λ cs. record { cores = cs; places = map (λ (b : BlockImage). option_map (λ (h : CoreNo). h.0) b.home) image.blocks }) (same_cores 0 image.cores)
      ∙ ap (λ ps. record { cores = map booted_of (cores_from (settings_of image) 0 image.blocks image.cores); places = ps }) (same_places image.blocks same_place)

  pub start_registered : IsRegistered start
  unfolding core_start
  start_registered = record { idle = λ e. same_boot; accepted = λ c h e. absurd (omega (arith, h)); carried = λ h. absurd (omega (arith, h)) }

  -- clocks and times

  zero_time : (clock base : ℕ) → clock ≡ base → pos clock +ℤ (pos 0 -ℤ pos base) ≡ pos 0
  zero_time clock base e = omega (arith, ints)

  home_clock : (h : CoreNo) (k : IsHome image.cores h) → clock_of (cores_from (settings_of image) 0 image.blocks image.cores) h.0 ≡ k.image.base
  home_clock h k = ap (λ o. option_map_or (λ (k : Core). k.clock) o 0) (first_core (settings_of image) image.blocks image.cores h.0 k.image k.image_at)

  abbrev first_cores : List Core
  first_cores = cores_from (settings_of image) 0 image.blocks image.cores

  home_from_zero : (h : CoreNo) (k : IsHome image.cores h) → IsFromZero first_cores (place_on h.0 k.image.base 0 k.version)
  home_from_zero h k = let z = zero_time _ _ (home_clock h k) in subst (λ (n : ℤ). pos 0 ≤ℤ n) (sym z) (omega (arith, ints))

  home_time : (h : CoreNo) (k : IsHome image.cores h) → time_of first_cores (place_on h.0 k.image.base 0 k.version) ≡ 0
  home_time h k = ap above_zero (zero_time _ _ (home_clock h k))

  pub start_clocked : IsClocked start
  unfolding core_start
  start_clocked = record {
    clocks = λ c k e. (
        let m = first_core_there (settings_of image) image.blocks image.cores c k e in
        let b = v.bases c m.0 m.1 in
        let same : k.clock ≡ m.0.base = ap (λ (z : Core). z.clock) m.2 in
        omega (arith, b, same));
    from_zero = λ b x e. (let m = map_there first_block image.blocks b x e in subst (λ (z : Block). IsFromZero first_cores z.whereabouts) (sym m.2) (by_home (IsFromZero first_cores) b m.0 m.1 tt (λ h q k. home_from_zero h k)));
    times = λ b x e. (
        let m = map_there first_block image.blocks b x e in
        let same : time_of first_cores x.whereabouts ≡ 0 = subst (λ (z : Block). time_of first_cores z.whereabouts ≡ 0) (sym m.2) (by_home (λ p. time_of first_cores p ≡ 0) b m.0 m.1 refl (λ h q k. home_time h k)) in
        omega (arith, same));
  }
