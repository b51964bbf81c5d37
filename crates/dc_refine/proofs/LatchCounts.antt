-- As many signals hold a latch of a line as it has latched fates.
use Rattle.std.proofs.Common.{◌≡◌, ℕ, zero, suc, ◌+◌, List, [], ◌∷◌, ◌++◌, Bool, true, false, Option, Some, None, refl, sym, ap, ◌∙◌, subst, map, length, arith, inl, inr, ◌⊎◌, length-append}
use Rattle.std.specs.Prelude.{slice_get, filter, count_by, sum_by, ◌==◌, if◌then◌else◌}
use Rattle.std.proofs.lemmas.Bool.Decides.{nat_tests}
use Rattle.std.proofs.lemmas.List.Sums.{length-filter, sum_by-cons}
use Rattle.dc_base.specs.declared.interrupts.Latch.{Latch}
use Rattle.dc_base.specs.declared.interrupts.Source.{Source}
use Rattle.dc_base.specs.declared.interrupts.Source.TheVariants as source
use Rattle.dc_base.specs.Words.{bind}
use Rattle.dc_base.specs.Ports.{latch_at}
use Rattle.dc_base.specs.Parts.{Parts}
use Rattle.dc_base.specs.Lines.{Line, Fate, stray, pending, merged, latched, joined, delivered, line_latch}
use Rattle.dc_base.specs.Blocks.{Blocks}
use Rattle.dc_base.specs.Blocks as blocks
use Rattle.dc_base.specs.States.{State, Block}
use Rattle.dc_base.specs.Shown.{is_latched}
use Rattle.dc_base.specs.Report.{is_from, is_latch_of, latches_of}
use Rattle.dc_base.specs.StandsFor.{LatchesMatch, PartsAgree, signal_of, fate_at}
use Rattle.dc_refine.proofs.Members.{In, in_left, in_right, in_either}
use Rattle.dc_refine.proofs.Distinct.{AreDistinct, distinct_both, same_length}

-- the numbers of a line's latches in these signals
abbrev pub of_latch : ℕ → Latch → Bool → List ℕ → List ℕ
of_latch l k is ns = if is then k.value ∷ ns else ns

abbrev pub numbers_in : ℕ → List (Option Latch) → List ℕ
numbers_in l [] = []
numbers_in l (None ∷ os) = numbers_in l os
numbers_in l (Some k ∷ os) = of_latch l k (is_from l k.source) (numbers_in l os)

-- in the signals of these blocks' parts
abbrev pub numbers_of : ℕ → List Parts → List ℕ
numbers_of l [] = []
numbers_of l (p ∷ ps) = numbers_in l p.signals ++ numbers_of l ps

-- they are as many as are counted
counted_by : (l : ℕ) (k : Latch) (t : Bool) (ns : List ℕ) (os : List (Option Latch)) → length ns ≡ length (filter (is_latch_of l) os) → length (of_latch l k t ns) ≡ length (if t then Some k ∷ filter (is_latch_of l) os else filter (is_latch_of l) os)
counted_by l k true ns os h = ap suc h
counted_by l k false ns os h = h

numbers_filtered : (l : ℕ) (os : List (Option Latch)) → length (numbers_in l os) ≡ length (filter (is_latch_of l) os)
numbers_filtered l [] = refl
numbers_filtered l (None ∷ os) = numbers_filtered l os
numbers_filtered l (Some k ∷ os) = counted_by l k (is_from l k.source) (numbers_in l os) os (numbers_filtered l os)

numbers_counted : (l : ℕ) (xs : List Block) → length (numbers_of l (map (λ (x : Block). x.control.parts) xs)) ≡ sum_by (λ (x : Block). count_by (is_latch_of l) x.control.parts.signals) xs
numbers_counted l [] = refl
numbers_counted l (x ∷ xs) =
    length-append (numbers_in l x.control.parts.signals) (numbers_of l (map (λ (x : Block). x.control.parts) xs))
    ∙ ap (λ n. n + length (numbers_of l (map (λ (x : Block). x.control.parts) xs))) (numbers_filtered l x.control.parts.signals ∙ length-filter (is_latch_of l) x.control.parts.signals)
    ∙ ap (λ n. count_by (is_latch_of l) x.control.parts.signals + n) (numbers_counted l xs)
    ∙ sym (sum_by-cons (λ (x : Block). count_by (is_latch_of l) x.control.parts.signals) x xs)

pub latches-counted : (l : ℕ) (xs : List Block) → latches_of l xs ≡ length (numbers_of l (map (λ (x : Block). x.control.parts) xs))
unfolding latches_of
latches-counted l xs = sym (numbers_counted l xs)

-- a latch of a line by its number
from_by : (l v : ℕ) (so : Source) → is_from l so ≡ true → so ≡ source.Line (record { 0 = l })
from_by l v source.Timer h = cc
from_by l v (source.Line m) h = let e : m.0 ≡ l = grind (arith, nat_tests, h) in ap (λ n. source.Line (record { 0 = n })) e

latch_is : (l : ℕ) (k : Latch) → is_from l k.source ≡ true → k ≡ line_latch l k.value
latch_is l k h = ap (λ so. record { source = so; value = k.value }) (from_by l k.value k.source h)

is_of : (l v : ℕ) (k : Latch) → k ≡ line_latch l v → is_from l k.source ≡ true
is_of l v k e = ap (λ (k : Latch). is_from l k.source) e ∙ (let f : (l == l) ≡ true = grind (arith, nat_tests) in f)

-- a signal that holds it
abbrev HoldsAt : ℕ → List (Option Latch) → ℕ → Type 0
HoldsAt l os v = (i : ℕ) × (latch_at os i ≡ Some (line_latch l v))

held_by_first : (l v : ℕ) (k : Latch) (os : List (Option Latch)) → (In v (numbers_in l os) → HoldsAt l os v) → (t : Bool) → is_from l k.source ≡ t → In v (of_latch l k t (numbers_in l os)) → HoldsAt l (Some k ∷ os) v
held_by_first l v k os more true e (inl f) = (0, ap Some (latch_is l k e ∙ ap (line_latch l) (sym f)))
held_by_first l v k os more true e (inr h) = let r = more h in (suc r.0, r.1)
held_by_first l v k os more false e h = let r = more h in (suc r.0, r.1)

number_held : (l v : ℕ) (os : List (Option Latch)) → In v (numbers_in l os) → HoldsAt l os v
number_held l v [] h = absurd h
number_held l v (None ∷ os) h = let r = number_held l v os h in (suc r.0, r.1)
number_held l v (Some k ∷ os) h = held_by_first l v k os (λ g. number_held l v os g) (is_from l k.source) refl h

first_in : (l v : ℕ) (k : Latch) (ns : List ℕ) → k ≡ line_latch l v → (t : Bool) → is_from l k.source ≡ t → In v (of_latch l k t ns)
first_in l v k ns e true f = inl (sym (ap (λ (k : Latch). k.value) e))
first_in l v k ns e false f = let g : true ≡ false = sym (is_of l v k e) ∙ f in cc

further_in : (l v : ℕ) (k : Latch) (ns : List ℕ) (t : Bool) → In v ns → In v (of_latch l k t ns)
further_in l v k ns true h = inr h
further_in l v k ns false h = h

held_number : (l v i : ℕ) (os : List (Option Latch)) → latch_at os i ≡ Some (line_latch l v) → In v (numbers_in l os)
held_number l v i [] h = cc
held_number l v zero (None ∷ os) h = cc
held_number l v zero (Some k ∷ os) h = first_in l v k (numbers_in l os) (let e : k ≡ line_latch l v = cc in e) (is_from l k.source) refl
held_number l v (suc i) (None ∷ os) h = held_number l v i os h
held_number l v (suc i) (Some k ∷ os) h = further_in l v k (numbers_in l os) (is_from l k.source) (held_number l v i os h)

-- in blocks
abbrev pub latch_in_parts : List Parts → ℕ → ℕ → Option Latch
latch_in_parts ps b i = bind (slice_get ps b) (λ (p : Parts). latch_at p.signals i)

abbrev pub HeldIn : ℕ → List Parts → ℕ → Type 0
HeldIn l ps v = (b : ℕ) × (i : ℕ) × (latch_in_parts ps b i ≡ Some (line_latch l v))

in_parts : (l v : ℕ) (p : Parts) (ps : List Parts) → (In v (numbers_of l ps) → HeldIn l ps v) → In v (numbers_in l p.signals) ⊎ In v (numbers_of l ps) → HeldIn l (p ∷ ps) v
in_parts l v p ps more (inl h) = let r = number_held l v p.signals h in (0, r.0, r.1)
in_parts l v p ps more (inr h) = let r = more h in (suc r.0, r.1, r.2)

pub number-held : (l v : ℕ) (ps : List Parts) → In v (numbers_of l ps) → HeldIn l ps v
number-held l v [] h = absurd h
number-held l v (p ∷ ps) h = in_parts l v p ps (λ g. number-held l v ps g) (in_either v (numbers_in l p.signals) (numbers_of l ps) h)

pub held-number : (l v b i : ℕ) (ps : List Parts) → latch_in_parts ps b i ≡ Some (line_latch l v) → In v (numbers_of l ps)
held-number l v b i [] h = cc
held-number l v zero i (p ∷ ps) h = in_left v (numbers_in l p.signals) (numbers_of l ps) (held_number l v i p.signals h)
held-number l v (suc b) i (p ∷ ps) h = in_right v (numbers_in l p.signals) (numbers_of l ps) (held-number l v b i ps h)

-- no number stands twice, where no two signals hold the same latch
abbrev pub Differ : ℕ → List Parts → Type 0
Differ l ps = (v b i c j : ℕ) → latch_in_parts ps b i ≡ Some (line_latch l v) → latch_in_parts ps c j ≡ Some (line_latch l v) → (b ≡ c) × (i ≡ j)

abbrev DifferIn : ℕ → List (Option Latch) → Type 0
DifferIn l os = (v i j : ℕ) → latch_at os i ≡ Some (line_latch l v) → latch_at os j ≡ Some (line_latch l v) → i ≡ j

distinct_first : (l : ℕ) (k : Latch) (os : List (Option Latch)) → DifferIn l (Some k ∷ os) → AreDistinct (numbers_in l os) → (t : Bool) → is_from l k.source ≡ t → AreDistinct (of_latch l k t (numbers_in l os))
distinct_first l k os differ d true e =
    (λ h. let r = number_held l k.value os h in let f : 0 ≡ suc r.0 = differ k.value 0 (suc r.0) (ap Some (latch_is l k e)) r.1 in omega (arith, f), d)
distinct_first l k os differ d false e = d

distinct_in : (l : ℕ) (os : List (Option Latch)) → DifferIn l os → AreDistinct (numbers_in l os)
distinct_in l [] differ = tt
distinct_in l (None ∷ os) differ = distinct_in l os (λ v i j g h. let e : suc i ≡ suc j = differ v (suc i) (suc j) g h in omega (arith, e))
distinct_in l (Some k ∷ os) differ =
    distinct_first l k os differ (distinct_in l os (λ v i j g h. let e : suc i ≡ suc j = differ v (suc i) (suc j) g h in omega (arith, e))) (is_from l k.source) refl

pub numbers_distinct : (l : ℕ) (ps : List Parts) → Differ l ps → AreDistinct (numbers_of l ps)
numbers_distinct l [] differ = tt
numbers_distinct l (p ∷ ps) differ =
    distinct_both (numbers_in l p.signals) (numbers_of l ps)
    (distinct_in l p.signals (λ v i j g h. (differ v 0 i 0 j g h).1))
    (numbers_distinct l ps (λ v b i c j g h. let e = differ v (suc b) i (suc c) j g h in let f : suc b ≡ suc c = e.0 in (omega (arith, f), e.1)))
    (λ v g h. let a = number_held l v p.signals g in let b = number-held l v ps h in let e = differ v 0 a.0 (suc b.0) b.1 a.1 b.2 in let f : 0 ≡ suc b.0 = e.0 in omega (arith, f))

-- the numbers of the latched fates
abbrev latched_numbers : ℕ → List Fate → List ℕ
latched_numbers k [] = []
latched_numbers k (f ∷ fs) = if is_latched f then k ∷ latched_numbers (k + 1) fs else latched_numbers (k + 1) fs

fates_filtered : (k : ℕ) (fs : List Fate) → length (latched_numbers k fs) ≡ length (filter is_latched fs)
fates_filtered k [] = refl
fates_filtered k (f ∷ fs) = by_test (is_latched f) (fates_filtered (k + 1) fs)
  where
    by_test : (t : Bool) → length (latched_numbers (k + 1) fs) ≡ length (filter is_latched fs) → length (if t then k ∷ latched_numbers (k + 1) fs else latched_numbers (k + 1) fs) ≡ length (if t then f ∷ filter is_latched fs else filter is_latched fs)
    by_test true h = ap suc h
    by_test false h = h

is_latched-fate : (f : Fate) → is_latched f ≡ true → f ≡ latched
is_latched-fate stray h = cc
is_latched-fate pending h = cc
is_latched-fate merged h = cc
is_latched-fate latched h = refl
is_latched-fate joined h = cc
is_latched-fate delivered h = cc

abbrev LatchedAt : ℕ → List Fate → ℕ → Type 0
LatchedAt k fs v = (m : ℕ) × (v ≡ k + m) × (slice_get fs m ≡ Some latched)

latched_by : (k v : ℕ) (f : Fate) (fs : List Fate) → (In v (latched_numbers (k + 1) fs) → LatchedAt (k + 1) fs v) → (t : Bool) → is_latched f ≡ t → In v (if t then k ∷ latched_numbers (k + 1) fs else latched_numbers (k + 1) fs) → LatchedAt k (f ∷ fs) v
latched_by k v f fs more true e (inl g) = (0, omega (arith, g), ap Some (is_latched-fate f e))
latched_by k v f fs more true e (inr h) = let r = more h in (suc r.0, omega (arith, r.1), r.2)
latched_by k v f fs more false e h = let r = more h in (suc r.0, omega (arith, r.1), r.2)

number_latched : (k v : ℕ) (fs : List Fate) → In v (latched_numbers k fs) → LatchedAt k fs v
number_latched k v [] h = absurd h
number_latched k v (f ∷ fs) h = latched_by k v f fs (λ g. number_latched (k + 1) v fs g) (is_latched f) refl h

latched_first : (k v : ℕ) (f : Fate) (ns : List ℕ) → f ≡ latched → v ≡ k → In v (if is_latched f then k ∷ ns else ns)
latched_first k v f ns e g = subst (λ f. In v (if is_latched f then k ∷ ns else ns)) (sym e) (inl g)

latched_more : (k v : ℕ) (t : Bool) (ns : List ℕ) → In v ns → In v (if t then k ∷ ns else ns)
latched_more k v true ns h = inr h
latched_more k v false ns h = h

latched_number : (k v m : ℕ) (fs : List Fate) → v ≡ k + m → slice_get fs m ≡ Some latched → In v (latched_numbers k fs)
latched_number k v m [] e h = cc
latched_number k v zero (f ∷ fs) e h = latched_first k v f (latched_numbers (k + 1) fs) (let g : f ≡ latched = cc in g) (omega (arith, e))
latched_number k v (suc m) (f ∷ fs) e h = latched_more k v (is_latched f) (latched_numbers (k + 1) fs) (latched_number (k + 1) v m fs (omega (arith, e)) h)

distinct_latched : (k : ℕ) (fs : List Fate) → AreDistinct (latched_numbers k fs)
distinct_latched k [] = tt
distinct_latched k (f ∷ fs) = by_test (is_latched f) (distinct_latched (k + 1) fs) (λ h. let r = number_latched (k + 1) k fs h in let e = r.1 in omega (arith, e))
  where
    by_test : (t : Bool) → AreDistinct (latched_numbers (k + 1) fs) → (In k (latched_numbers (k + 1) fs) → ⊥) → AreDistinct (if t then k ∷ latched_numbers (k + 1) fs else latched_numbers (k + 1) fs)
    by_test true d apart = (apart, d)
    by_test false d apart = d

-- signals of blocks are signals of their parts
signal-parts : (xs : List blocks.Block) (b i : ℕ) → bind (slice_get xs b) (λ (x : blocks.Block). latch_at x.parts.signals i) ≡ latch_in_parts (map (λ (x : blocks.Block). x.parts) xs) b i
signal-parts [] b i = refl
signal-parts (x ∷ xs) zero i = refl
signal-parts (x ∷ xs) (suc b) i = signal-parts xs b i

module _ (s : State) (t : Blocks) (agree : PartsAgree s t) where
  pub signal-there : (b i : ℕ) → latch_in_parts (map (λ (x : Block). x.control.parts) s.blocks) b i ≡ signal_of t b i
  signal-there b i = ap (λ ps. latch_in_parts ps b i) (sym agree) ∙ sym (signal-parts t.blocks b i)

  module _ (latches : LatchesMatch t) (l : ℕ) (x : Line) (at : slice_get t.lines l ≡ Some x) where
    abbrev parts : List Parts
    parts = map (λ (x : Block). x.control.parts) s.blocks

    add_one : (n : ℕ) → 1 + n ≡ n + 1
    add_one n = omega arith

    held_latched_by : (v b i : ℕ) → signal_of t b i ≡ Some (line_latch l v) → (n : ℕ) → v ≡ n → In v (latched_numbers 1 x.fates)
    held_latched_by v b i h zero e = absurd (latches.numbered l b i (h ∙ ap (λ n. Some (line_latch l n)) e))
    held_latched_by v b i h (suc n) e =
        let f : v ≡ n + 1 = omega (arith, e) in
        let g : fate_at t l n ≡ Some latched = (latches.agree l n).1 (b, i, h ∙ ap (λ n. Some (line_latch l n)) f) in
        latched_number 1 v n x.fates (omega (arith, e)) (sym (ap (λ o. bind o (λ (x : Line). slice_get x.fates n)) at) ∙ g)

    held_latched : (v : ℕ) → In v (numbers_of l parts) → In v (latched_numbers 1 x.fates)
    held_latched v h = let r = number-held l v parts h in held_latched_by v r.0 r.1 (sym (signal-there r.0 r.1) ∙ r.2) v refl

    latched_held : (v : ℕ) → In v (latched_numbers 1 x.fates) → In v (numbers_of l parts)
    latched_held v h =
        let r = number_latched 1 v x.fates h in
        let g : fate_at t l r.0 ≡ Some latched = ap (λ o. bind o (λ (x : Line). slice_get x.fates r.0)) at ∙ r.2 in
        let q = (latches.agree l r.0).0 g in
        held-number l v q.0 q.1 parts (signal-there q.0 q.1 ∙ q.2 ∙ ap (λ n. Some (line_latch l n)) (sym (r.1 ∙ add_one r.0)))

    pub latches-latched : latches_of l s.blocks ≡ count_by is_latched x.fates
    latches-latched =
        latches-counted l s.blocks
        ∙ same_length (numbers_of l parts) (latched_numbers 1 x.fates)
        (numbers_distinct l parts (λ v b i c j g h. latches.differ l v b i c j (sym (signal-there b i) ∙ g) (sym (signal-there c j) ∙ h)))
        (distinct_latched 1 x.fates) held_latched latched_held
        ∙ fates_filtered 1 x.fates ∙ length-filter is_latched x.fates
