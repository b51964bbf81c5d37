-- The lists of the first state: cores, shares and lists of one element.
use Rattle.std.proofs.Common.{◌≡◌, ℕ, zero, suc, ◌+◌, ◌<◌, ◌≤◌, List, [], ◌∷◌, ◌++◌, Bool, true, false, Some, refl, sym, ap, ◌∙◌, subst, arith, length, zero-add}
use Rattle.std.specs.Prelude.{slice_get, ◌==◌, ◌||◌, if◌then◌else◌, replicate}
use Rattle.std.specs.Option.{option_map}
use Rattle.std.proofs.lemmas.List.Sums.{sum_by-cons}
use Rattle.std.proofs.lemmas.Bool.{or_right}
use Rattle.dc_base.specs.declared.images.BlockImage.{BlockImage}
use Rattle.dc_base.specs.declared.images.CoreImage.{CoreImage}
use Rattle.dc_base.specs.declared.numbers.CoreNo.{CoreNo}
use Rattle.dc_base.specs.Words.{Each, is_number}
use Rattle.dc_base.specs.Boot.{home_from}
use Rattle.dc_base.specs.Outcomes.{has}
use Rattle.dc_base.specs.Placed.{count_in, homes_in, parked_in}
use Rattle.dc_base.specs.Progress.{home_block, parked_blocks}
use Rattle.dc_base.specs.States.{Settings, Core, Member, home_members_from, core_started, cores_from}
use Rattle.dc_block_sound.proofs.Elements.{same_is, is_same, other_is}

-- a list of one element

pub replicate_there : {A : Type 0} (n : ℕ) (a : A) (i : ℕ) (b : A) → slice_get (replicate n a) i ≡ Some b → b ≡ a
replicate_there zero a i b e = absurd cc
replicate_there (suc n) a zero b e = let same : a ≡ b = cc in sym same
replicate_there (suc n) a (suc i) b e = replicate_there n a i b e

pub each_replicate : {A : Type 0} (P : A → Type 0) (n : ℕ) (a : A) → P a → Each (replicate n a) (λ i b. P b)
each_replicate P n a p i b e = subst P (sym (replicate_there n a i b e)) p

pub each_both : {A : Type 0} (P : A → Type 0) (xs ys : List A) → Each xs (λ i a. P a) → Each ys (λ i a. P a) → Each (xs ++ ys) (λ i a. P a)
each_both P [] ys h k i a e = k i a e
each_both P (x ∷ xs) ys h k zero a e = h 0 a e
each_both P (x ∷ xs) ys h k (suc i) a e = each_both P xs ys (λ j b f. h (suc j) b f) k i a e

-- cores

pub core_there : (t : Settings) (c : ℕ) (blocks : List BlockImage) (ks : List CoreImage) (i : ℕ) (k : Core) → slice_get (cores_from t c blocks ks) i ≡ Some k → (image : CoreImage) × (slice_get ks i ≡ Some image) × (k ≡ core_started t (c + i) blocks image)
core_there t c blocks [] i k e = absurd cc
core_there t c blocks (x ∷ xs) zero k e =
    let same : core_started t c blocks x ≡ k = cc in
    let z : c + 0 ≡ c = omega arith in
    (x, refl, sym same ∙ ap (λ n. core_started t n blocks x) (sym z))
core_there t c blocks (x ∷ xs) (suc i) k e =
    let w = core_there t (c + 1) blocks xs i k e in
    let z : (c + 1) + i ≡ c + suc i = omega arith in
    (w.0, w.1, w.2 ∙ ap (λ n. core_started t n blocks w.0) z)

pub core_at : (t : Settings) (c : ℕ) (blocks : List BlockImage) (ks : List CoreImage) (i : ℕ) (image : CoreImage) → slice_get ks i ≡ Some image → slice_get (cores_from t c blocks ks) i ≡ Some (core_started t (c + i) blocks image)
core_at t c blocks [] i image e = absurd cc
core_at t c blocks (x ∷ xs) zero image e =
    let same : x ≡ image = cc in let z : c + 0 ≡ c = omega arith in
    ap (λ n. Some (core_started t n blocks x)) (sym z) ∙ ap (λ k. Some (core_started t (c + 0) blocks k)) same
core_at t c blocks (x ∷ xs) (suc i) image e = let z : (c + 1) + i ≡ c + suc i = omega arith in core_at t (c + 1) blocks xs i image e ∙ ap (λ n. Some (core_started t n blocks image)) z

pub first_core : (t : Settings) (blocks : List BlockImage) (ks : List CoreImage) (i : ℕ) (image : CoreImage) → slice_get ks i ≡ Some image → slice_get (cores_from t 0 blocks ks) i ≡ Some (core_started t i blocks image)
first_core t blocks ks i image e = core_at t 0 blocks ks i image e ∙ ap (λ n. Some (core_started t n blocks image)) (zero-add i)

pub first_core_there : (t : Settings) (blocks : List BlockImage) (ks : List CoreImage) (i : ℕ) (k : Core) → slice_get (cores_from t 0 blocks ks) i ≡ Some k → (image : CoreImage) × (slice_get ks i ≡ Some image) × (k ≡ core_started t i blocks image)
first_core_there t blocks ks i k e = let w = core_there t 0 blocks ks i k e in (w.0, w.1, w.2 ∙ ap (λ n. core_started t n blocks w.0) (zero-add i))

pub length_cores : (t : Settings) (c : ℕ) (blocks : List BlockImage) (ks : List CoreImage) → length (cores_from t c blocks ks) ≡ length ks
length_cores t c blocks [] = refl
length_cores t c blocks (x ∷ xs) = ap suc (length_cores t (c + 1) blocks xs)

-- the blocks that are home on a core

abbrev pub is_home_of : ℕ → BlockImage → Bool
is_home_of c b = is_number c (option_map (λ (h : CoreNo). h.0) b.home)

-- block j is home on core c
abbrev pub IsHomeAt : ℕ → ℕ → List BlockImage → ℕ → Type 0
IsHomeAt c n blocks j = (i : ℕ) × (j ≡ n + i) × (b : BlockImage) × (slice_get blocks i ≡ Some b) × (is_home_of c b ≡ true)

home_later : (c n : ℕ) (b : BlockImage) (blocks : List BlockImage) (j : ℕ) → IsHomeAt c (n + 1) blocks j → IsHomeAt c n (b ∷ blocks) j
home_later c n b blocks j w = let e = w.1 in (suc w.0, omega (arith, e), w.2, w.3, w.4)

home_by : (c n : ℕ) (b : BlockImage) (blocks : List BlockImage) (j : ℕ) → (has (home_members_from c (n + 1) blocks) j ≡ true → IsHomeAt c (n + 1) blocks j) → (t : Bool) → is_home_of c b ≡ t →
    has (if t then record { block = n; parked = false } ∷ home_members_from c (n + 1) blocks else home_members_from c (n + 1) blocks) j ≡ true → IsHomeAt c n (b ∷ blocks) j
home_by c n b blocks j more true q h = by_first (n == j) refl h
  where
    by_first : (u : Bool) → (n == j) ≡ u → (u || has (home_members_from c (n + 1) blocks) j) ≡ true → IsHomeAt c n (b ∷ blocks) j
    by_first true e h = let same = is_same n j e in (0, omega (arith, same), b, refl, q)
    by_first false e h = home_later c n b blocks j (more h)
home_by c n b blocks j more false q h = home_later c n b blocks j (more h)

pub home_there : (c n : ℕ) (blocks : List BlockImage) (j : ℕ) → has (home_members_from c n blocks) j ≡ true → IsHomeAt c n blocks j
home_there c n [] j h = absurd cc
home_there c n (b ∷ blocks) j h = home_by c n b blocks j (λ k. home_there c (n + 1) blocks j k) (is_home_of c b) refl h

pub there_home : (c n : ℕ) (blocks : List BlockImage) (i : ℕ) (b : BlockImage) → slice_get blocks i ≡ Some b → is_home_of c b ≡ true → has (home_members_from c n blocks) (n + i) ≡ true
there_home c n [] i b e h = absurd cc
there_home c n (x ∷ xs) zero b e h =
    let same : x ≡ b = cc in
    let q : is_home_of c x ≡ true = ap (is_home_of c) same ∙ h in
    let z : n ≡ n + 0 = omega arith in
    let r : (n == n + 0) ≡ true = subst (λ m. (n == m) ≡ true) z (same_is n) in
    ap (λ t. has (if t then record { block = n; parked = false } ∷ home_members_from c (n + 1) xs else home_members_from c (n + 1) xs) (n + 0)) q ∙ ap (λ u. u || has (home_members_from c (n + 1) xs) (n + 0)) r
there_home c n (x ∷ xs) (suc i) b e h =
    let z : (n + 1) + i ≡ n + suc i = omega arith in
    by_test (is_home_of c x) (subst (λ m. has (home_members_from c (n + 1) xs) m ≡ true) z (there_home c (n + 1) xs i b e h))
  where
    by_test : (t : Bool) → has (home_members_from c (n + 1) xs) (n + suc i) ≡ true → has (if t then record { block = n; parked = false } ∷ home_members_from c (n + 1) xs else home_members_from c (n + 1) xs) (n + suc i) ≡ true
    by_test true k = or_right (n == n + suc i) _ k
    by_test false k = k

-- none is home there
pub members_none : (c n : ℕ) (blocks : List BlockImage) → Each blocks (λ i b. is_home_of c b ≡ true → ⊥) → home_members_from c n blocks ≡ []
members_none c n [] h = refl
members_none c n (b ∷ blocks) h = by_test (is_home_of c b) refl (members_none c (n + 1) blocks (λ i x e. h (suc i) x e))
  where
    by_test : (t : Bool) → is_home_of c b ≡ t → home_members_from c (n + 1) blocks ≡ [] → (if t then record { block = n; parked = false } ∷ home_members_from c (n + 1) blocks else home_members_from c (n + 1) blocks) ≡ []
    by_test true q k = absurd (h 0 b refl q)
    by_test false q k = k

-- counts of a share

abbrev one_if : Bool → ℕ
one_if t = if t then 1 else 0

one_other : (m n : ℕ) → (m ≡ n → ⊥) → one_if (m == n) ≡ 0
one_other m n h = ap (λ (t : Bool). one_if t) (other_is m n h)

count_in-cons : (m : Member) (ms : List Member) (b : ℕ) → count_in (m ∷ ms) b ≡ one_if (m.block == b) + count_in ms b
count_in-cons m ms b = sum_by-cons (λ (m : Member). one_if (m.block == b)) m ms

below_none : (c n : ℕ) (blocks : List BlockImage) (j : ℕ) → j < n → count_in (home_members_from c n blocks) j ≡ 0
below_none c n [] j h = refl
below_none c n (b ∷ blocks) j h = by_test (is_home_of c b) (below_none c (n + 1) blocks j (omega arith))
  where
    by_test : (t : Bool) → count_in (home_members_from c (n + 1) blocks) j ≡ 0 → count_in (if t then record { block = n; parked = false } ∷ home_members_from c (n + 1) blocks else home_members_from c (n + 1) blocks) j ≡ 0
    by_test true k = let a = count_in-cons (record { block = n; parked = false }) (home_members_from c (n + 1) blocks) j in let o = one_other n j (λ e. omega arith) in omega (arith, a, o, k)
    by_test false k = k

pub members_once : (c n : ℕ) (blocks : List BlockImage) (j : ℕ) → count_in (home_members_from c n blocks) j ≤ 1
members_once c n [] j = omega arith
members_once c n (b ∷ blocks) j = by_test (is_home_of c b) (members_once c (n + 1) blocks j)
  where
    by_number : (u : Bool) → (n == j) ≡ u → count_in (home_members_from c (n + 1) blocks) j ≤ 1 → one_if u + count_in (home_members_from c (n + 1) blocks) j ≤ 1
    by_number true q k = let same = is_same n j q in let z = below_none c (n + 1) blocks j (omega (arith, same)) in omega (arith, z)
    by_number false q k = omega (arith, k)

    by_test : (t : Bool) → count_in (home_members_from c (n + 1) blocks) j ≤ 1 → count_in (if t then record { block = n; parked = false } ∷ home_members_from c (n + 1) blocks else home_members_from c (n + 1) blocks) j ≤ 1
    by_test true k = let a = count_in-cons (record { block = n; parked = false }) (home_members_from c (n + 1) blocks) j in let z = by_number (n == j) refl k in omega (arith, a, z)
    by_test false k = k

pub members_home : (c n : ℕ) (blocks : List BlockImage) → ((i j : ℕ) (a b : BlockImage) → slice_get blocks i ≡ Some a → slice_get blocks j ≡ Some b → is_home_of c a ≡ true → is_home_of c b ≡ true → i ≡ j) → homes_in (home_members_from c n blocks) ≤ 1
members_home c n [] differ = omega arith
members_home c n (x ∷ xs) differ = by_test (is_home_of c x) refl (members_home c (n + 1) xs (λ i j a b e f g h. (let z = differ (suc i) (suc j) a b e f g h in omega (arith, z))))
  where
    by_test : (t : Bool) → is_home_of c x ≡ t → homes_in (home_members_from c (n + 1) xs) ≤ 1 → homes_in (if t then record { block = n; parked = false } ∷ home_members_from c (n + 1) xs else home_members_from c (n + 1) xs) ≤ 1
    by_test true q k =
        let none = members_none c (n + 1) xs (λ i b e h. (let z = differ 0 (suc i) x b refl e q h in omega (arith, z))) in
        let one : homes_in (record { block = n; parked = false } ∷ []) ≤ 1 = omega arith in
        subst (λ ms. homes_in (record { block = n; parked = false } ∷ ms) ≤ 1) (sym none) one
    by_test false q k = k

pub members_parked : (c n : ℕ) (blocks : List BlockImage) → parked_in (home_members_from c n blocks) ≡ 0
members_parked c n [] = refl
members_parked c n (x ∷ xs) = by_test (is_home_of c x) (members_parked c (n + 1) xs)
  where
    by_test : (t : Bool) → parked_in (home_members_from c (n + 1) xs) ≡ 0 → parked_in (if t then record { block = n; parked = false } ∷ home_members_from c (n + 1) xs else home_members_from c (n + 1) xs) ≡ 0
    by_test true k = let a = sum_by-cons (λ (m : Member). one_if m.parked) (record { block = n; parked = false }) (home_members_from c (n + 1) xs) in omega (arith, a, k)
    by_test false k = k

-- the boot state of a share

pub members_block : (c n : ℕ) (blocks : List BlockImage) → home_block (home_members_from c n blocks) ≡ home_from c n blocks
members_block c n [] = refl
members_block c n (x ∷ xs) = by_test (is_home_of c x) (members_block c (n + 1) xs)
  where
    by_test : (t : Bool) → home_block (home_members_from c (n + 1) xs) ≡ home_from c (n + 1) xs → home_block (if t then record { block = n; parked = false } ∷ home_members_from c (n + 1) xs else home_members_from c (n + 1) xs) ≡ (if t then Some n else home_from c (n + 1) xs)
    by_test true k = refl
    by_test false k = k

pub members_parked_blocks : (c n : ℕ) (blocks : List BlockImage) → parked_blocks (home_members_from c n blocks) ≡ []
members_parked_blocks c n [] = refl
members_parked_blocks c n (x ∷ xs) = by_test (is_home_of c x) (members_parked_blocks c (n + 1) xs)
  where
    by_test : (t : Bool) → parked_blocks (home_members_from c (n + 1) xs) ≡ [] → parked_blocks (if t then record { block = n; parked = false } ∷ home_members_from c (n + 1) xs else home_members_from c (n + 1) xs) ≡ []
    by_test true k = k
    by_test false k = k
