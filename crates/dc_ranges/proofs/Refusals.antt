-- A refusal names what exists.
use Rattle.std.proofs.Common.{◌≡◌, ℕ, ◌^◌, ◌<◌, Bool, true, false, List, [], ◌∷◌, Option, Some, None, refl, ap, sym, subst, ◌∙◌, length}
use Rattle.std.specs.Prelude.{⊤, slice_get, nat_le, ◌==◌, is_some, if◌then◌else◌}
use Rattle.std.specs.Option.{option_map}
use Rattle.std.proofs.lemmas.Option.{slice_get-map}
use Rattle.dc_base.specs.declared.kernels.Version.{Version}
use Rattle.dc_base.specs.declared.numbers.BlockNo.{BlockNo}
use Rattle.dc_base.specs.declared.numbers.CoreNo.{CoreNo}
use Rattle.dc_base.specs.declared.commands.Command.{Command}
use Rattle.dc_base.specs.declared.commands.Command.TheVariants as command
use Rattle.dc_base.specs.declared.commands.Refusal.{Refusal}
use Rattle.dc_base.specs.declared.commands.Refusal.TheVariants as refusals
use Rattle.dc_base.specs.Same.{is_same_version}
use Rattle.dc_base.specs.Words.{bind, first_of, is_number}
use Rattle.dc_base.specs.EntryRanges.{refusal_numbers}
use Rattle.dc_base.specs.Bounded.{CommandWithin}
use Rattle.dc_base.specs.Boot.{Booted, Registry, core_of, booted_at, home_on, parked_on, off, same_version, not_at_rest, home_taken, is_home, is_parked, not_home, not_parked, on_that_core, share_full, refusal}
use Rattle.dc_base.specs.Placed.{IsListed}
use Rattle.dc_base.specs.Progress.{home_block, parked_blocks, booted_of, boot_of}
use Rattle.dc_base.specs.Sound.{IsSound}
use Rattle.dc_base.specs.States.{State, Core, Block, Whereabouts, rest, on, core_in}
use Rattle.dc_sound.proofs.ParkedBlocks.{home_in}
use Rattle.dc_ranges.proofs.Bounds.{core_small, block_small, core_within, block_within}
use Rattle.dc_ranges.proofs.Shown.{AreSmall}

-- the numbers of a refusal, if there is one, have 32 bits
abbrev pub RefusalSmall : Option Refusal → Type 0
RefusalSmall None = ⊤
RefusalSmall (Some r) = AreSmall (refusal_numbers r)

first_small : (o : Option Refusal) (os : List (Option Refusal)) → RefusalSmall o → RefusalSmall (first_of os) → RefusalSmall (first_of (o ∷ os))
first_small None os one more = more
first_small (Some r) os one more = one

if_small : (t : Bool) (r : Refusal) → AreSmall (refusal_numbers r) → RefusalSmall (if t then Some r else None)
if_small true r low = low
if_small false r low = tt

unless_small : (t : Bool) (r : Refusal) → AreSmall (refusal_numbers r) → RefusalSmall (if t then None else Some r)
unless_small true r low = tt
unless_small false r low = low

-- the numbers that a registry names have 32 bits
pub record NamesSmall (r : Registry) : Type 0 where
  pub cores : (b c : ℕ) → core_of r b ≡ Some c → c < 2 ^ 32
  pub homes : (c h : ℕ) → home_on r c ≡ Some h → h < 2 ^ 32

module _ (r : Registry) (names : NamesSmall r) where
  on_by : (c : CoreNo) → c.0 < 2 ^ 32 → (o : Option Booted) → RefusalSmall (option_map (λ k. refusals.AlreadyOn c) o)
  on_by c low None = tt
  on_by c low (Some k) = (low, tt)

  version_by : (c : CoreNo) (v : Version) → c.0 < 2 ^ 32 → (o : Option Booted) → RefusalSmall (bind o (λ (k : Booted). if is_same_version k.version v then Some (refusals.SameVersion c v) else None))
  version_by c v low None = tt
  version_by c v low (Some k) = if_small (is_same_version k.version v) (refusals.SameVersion c v) (low, tt)

  rest_by : (b : BlockNo) → b.0 < 2 ^ 32 → (o : Option ℕ) → core_of r b.0 ≡ o → RefusalSmall (option_map (λ c. refusals.NotAtRest b (record { 0 = c })) o)
  rest_by b low None at = tt
  rest_by b low (Some c) at = (low, (names.cores b.0 c at, tt))

  taken_by : (c : CoreNo) (b : BlockNo) → c.0 < 2 ^ 32 → (o : Option ℕ) → home_on r c.0 ≡ o → RefusalSmall (bind o (λ h. if h == b.0 then None else Some (refusals.HomeTaken c (record { 0 = h }))))
  taken_by c b low None at = tt
  taken_by c b low (Some h) at = unless_small (h == b.0) (refusals.HomeTaken c (record { 0 = h })) (low, (names.homes c.0 h at, tt))

  module _ (c : CoreNo) (near : c.0 < 2 ^ 32) where
    off_small : RefusalSmall (off r c)
    off_small = unless_small (is_some (booted_at r c.0)) (refusals.Off c) (near, tt)

    full_small : RefusalSmall (share_full r c)
    full_small = if_small (nat_le 8 (length (parked_on r c.0))) (refusals.ShareFull c) (near, tt)

    taken_small : (b : BlockNo) → RefusalSmall (home_taken r c b)
    taken_small b = taken_by c b near (home_on r c.0) refl

    that_small : (b : BlockNo) → b.0 < 2 ^ 32 → RefusalSmall (on_that_core r b c)
    that_small b low = if_small (is_number c.0 (core_of r b.0)) (refusals.OnThatCore b c) (low, (near, tt))

  home_small : (b : BlockNo) → b.0 < 2 ^ 32 → RefusalSmall (not_home r b)
  home_small b low = unless_small (is_home r b.0) (refusals.NotHome b) (low, tt)

  parked_small : (b : BlockNo) → b.0 < 2 ^ 32 → RefusalSmall (not_parked r b)
  parked_small b low = unless_small (is_parked r b.0) (refusals.NotParked b) (low, tt)

  module _ (s : State) (p : IsSound s) where
    core_at : (c : ℕ) → c < s.script.settings.cores → c < 2 ^ 32
    core_at c within = core_within s p c within

    block_at : (b : ℕ) → b < s.script.settings.blocks → b < 2 ^ 32
    block_at b within = block_within s p b within

    pub refusal_small : (m : Command) → CommandWithin s.script.settings m → RefusalSmall (refusal r m)
    unfolding refusal
    refusal_small (command.Start c v) within = on_by c (core_at c.0 within) (booted_at r c.0)
    refusal_small (command.Stop c) within = off_small c (core_at c.0 within)
    refusal_small (command.Replace c v) within =
        let near = core_at c.0 within in
        first_small (off r c) (same_version r c v ∷ []) (off_small c near) (first_small (same_version r c v) [] (version_by c v near (booted_at r c.0)) tt)
    refusal_small (command.Attach b c) within =
        let near = core_at c.0 within.1 in
        first_small (off r c) (not_at_rest r b ∷ home_taken r c b ∷ []) (off_small c near)
        (first_small (not_at_rest r b) (home_taken r c b ∷ []) (rest_by b (block_at b.0 within.0) (core_of r b.0) refl) (first_small (home_taken r c b) [] (taken_small c near b) tt))
    refusal_small (command.Move b c) within =
        let near = core_at c.0 within.1 in
        let low = block_at b.0 within.0 in
        first_small (off r c) (home_taken r c b ∷ not_home r b ∷ on_that_core r b c ∷ []) (off_small c near)
        (first_small (home_taken r c b) (not_home r b ∷ on_that_core r b c ∷ []) (taken_small c near b)
        (first_small (not_home r b) (on_that_core r b c ∷ []) (home_small b low) (first_small (on_that_core r b c) [] (that_small c near b low) tt)))
    refusal_small (command.Park b c) within =
        let near = core_at c.0 within.1 in
        let low = block_at b.0 within.0 in
        first_small (off r c) (not_home r b ∷ on_that_core r b c ∷ share_full r c ∷ []) (off_small c near)
        (first_small (not_home r b) (on_that_core r b c ∷ share_full r c ∷ []) (home_small b low)
        (first_small (on_that_core r b c) (share_full r c ∷ []) (that_small c near b low) (first_small (share_full r c) [] (full_small c near) tt)))
    refusal_small (command.Unpark b c) within =
        let near = core_at c.0 within.1 in
        let low = block_at b.0 within.0 in
        first_small (off r c) (home_taken r c b ∷ not_parked r b ∷ []) (off_small c near)
        (first_small (home_taken r c b) (not_parked r b ∷ []) (taken_small c near b) (first_small (not_parked r b) [] (parked_small b low) tt))

-- the boot state of a sound state names what exists

module _ (s : State) (p : IsSound s) where
  place_by : (b : ℕ) (x : Block) → slice_get s.blocks b ≡ Some x → (w : Whereabouts) → x.whereabouts ≡ w → (c : ℕ) → core_in w ≡ Some c → c < 2 ^ 32
  place_by b x at (rest kept) w c is = absurd (cc is)
  place_by b x at (on d offset v) w c is =
      let listed = p.placed.listed b x at in
      let on_it : (k : Core) × (slice_get s.cores d ≡ Some k) × ⊤ = by_listed w listed in
      let same : d ≡ c = cc in
      subst (λ n. n < 2 ^ 32) same (core_small s p d on_it.0 on_it.1)
    where
      by_listed : x.whereabouts ≡ on d offset v → IsListed s b x.whereabouts → (k : Core) × (slice_get s.cores d ≡ Some k) × ⊤
      by_listed w listed = let here = subst (IsListed s b) w listed in (here.0, here.1, tt)

  places_by : (b : ℕ) (o : Option Block) → slice_get s.blocks b ≡ o → (c : ℕ) → bind (option_map (λ (x : Block). core_in x.whereabouts) o) (λ q. q) ≡ Some c → c < 2 ^ 32
  places_by b None at c is = absurd (cc is)
  places_by b (Some x) at c is = place_by b x at x.whereabouts refl c is

  boot_cores : (b c : ℕ) → core_of (boot_of s) b ≡ Some c → c < 2 ^ 32
  unfolding boot_of
  boot_cores b c is = places_by b (slice_get s.blocks b) refl c (sym (ap (λ o. bind o (λ q. q)) (slice_get-map (λ (x : Block). core_in x.whereabouts) s.blocks b)) ∙ is)

  home_by : (c : ℕ) (k : Core) → slice_get s.cores c ≡ Some k → (h : ℕ) → (v : Option Version) →
      bind (option_map (λ v. record { version = v; home = home_block k.share; parked = parked_blocks k.share }) v) (λ (k : Booted). k.home) ≡ Some h → h < 2 ^ 32
  home_by c k at h None is = absurd (cc is)
  home_by c k at h (Some v) is = let listed = p.placed.only c k at h (home_in k.share h is) in block_small s p h listed.0 listed.1

  homes_by : (c : ℕ) (o : Option Core) → slice_get s.cores c ≡ o → (h : ℕ) → bind (bind (option_map booted_of o) (λ q. q)) (λ (k : Booted). k.home) ≡ Some h → h < 2 ^ 32
  homes_by c None at h is = absurd (cc is)
  homes_by c (Some k) at h is = home_by c k at h k.version is

  boot_homes : (c h : ℕ) → home_on (boot_of s) c ≡ Some h → h < 2 ^ 32
  unfolding boot_of
  boot_homes c h is = homes_by c (slice_get s.cores c) refl h (sym (ap (λ o. bind (bind o (λ q. q)) (λ (k : Booted). k.home)) (slice_get-map booted_of s.cores c)) ∙ is)

  pub boot_names : NamesSmall (boot_of s)
  boot_names = record { cores = boot_cores; homes = boot_homes }
