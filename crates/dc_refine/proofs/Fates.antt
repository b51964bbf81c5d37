-- Fates after the pending one is latched or joined: counts, the pending number, and the latched fates.
use Rattle.std.proofs.Common.{◌≡◌, ℕ, zero, suc, ◌+◌, ◌≤◌, List, [], ◌∷◌, length, Bool, true, false, Option, Some, None, refl, sym, ap, ◌∙◌, arith, inl, inr, ◌⊎◌}
use Rattle.std.specs.Prelude.{slice_get, slice_set, filter, count_by, if◌then◌else◌}
use Rattle.std.proofs.lemmas.List.{length-set}
use Rattle.std.proofs.lemmas.List.Sums.{length-filter}
use Rattle.dc_base.specs.Words.{bind}
use Rattle.dc_base.specs.Lines.{Line, Fate, stray, pending, merged, latched, joined, delivered, is_pending, pending_from}
use Rattle.dc_base.specs.Shown.{is_stray, is_merged, is_latched, is_joined, is_delivered}
use Rattle.dc_base.specs.StandsFor.{counts_of}
use Rattle.dc_refine.proofs.Elements.{slice_get-set_same}
use Rattle.dc_refine.proofs.TakeLine.{count_alike}

-- one more passes a test
more_first : (p : Fate → Bool) (f new old : Fate) (fs : List Fate) → f ≡ old → p old ≡ false → p new ≡ true → length (if p new then new ∷ filter p fs else filter p fs) ≡ suc (length (if p f then f ∷ filter p fs else filter p fs))
more_first p f new old fs e was now = by_tests (p new) (p f) now (ap p e ∙ was)
  where
    by_tests : (t u : Bool) → t ≡ true → u ≡ false → length (if t then new ∷ filter p fs else filter p fs) ≡ suc (length (if u then f ∷ filter p fs else filter p fs))
    by_tests true false g h = refl
    by_tests true true g h = cc
    by_tests false u g h = cc

more_rest : (f : Fate) (t : Bool) (xs ys : List Fate) → length xs ≡ suc (length ys) → length (if t then f ∷ xs else xs) ≡ suc (length (if t then f ∷ ys else ys))
more_rest f true xs ys h = ap suc h
more_rest f false xs ys h = h

one_more : (p : Fate → Bool) (fs : List Fate) (n : ℕ) (old new : Fate) → slice_get fs n ≡ Some old → p old ≡ false → p new ≡ true → length (filter p (slice_set fs n new)) ≡ suc (length (filter p fs))
one_more p [] n old new h was now = cc
one_more p (f ∷ fs) zero old new h was now = more_first p f new old fs (let e : f ≡ old = cc in e) was now
one_more p (f ∷ fs) (suc n) old new h was now = more_rest f (p f) (filter p (slice_set fs n new)) (filter p fs) (one_more p fs n old new h was now)

pub count_more : (p : Fate → Bool) (fs : List Fate) (n : ℕ) (old new : Fate) → slice_get fs n ≡ Some old → p old ≡ false → p new ≡ true → count_by p (slice_set fs n new) ≡ count_by p fs + 1
count_more p fs n old new h was now =
    let e = one_more p fs n old new h was now in let a = length-filter p (slice_set fs n new) in let b = length-filter p fs in omega (arith, a, b, e)

-- one fewer passes it
fewer_first : (p : Fate → Bool) (f new old : Fate) (fs : List Fate) → f ≡ old → p old ≡ true → p new ≡ false → suc (length (if p new then new ∷ filter p fs else filter p fs)) ≡ length (if p f then f ∷ filter p fs else filter p fs)
fewer_first p f new old fs e was now = by_tests (p new) (p f) now (ap p e ∙ was)
  where
    by_tests : (t u : Bool) → t ≡ false → u ≡ true → suc (length (if t then new ∷ filter p fs else filter p fs)) ≡ length (if u then f ∷ filter p fs else filter p fs)
    by_tests false true g h = refl
    by_tests false false g h = cc
    by_tests true u g h = cc

fewer_rest : (f : Fate) (t : Bool) (xs ys : List Fate) → suc (length xs) ≡ length ys → suc (length (if t then f ∷ xs else xs)) ≡ length (if t then f ∷ ys else ys)
fewer_rest f true xs ys h = ap suc h
fewer_rest f false xs ys h = h

one_fewer : (p : Fate → Bool) (fs : List Fate) (n : ℕ) (old new : Fate) → slice_get fs n ≡ Some old → p old ≡ true → p new ≡ false → suc (length (filter p (slice_set fs n new))) ≡ length (filter p fs)
one_fewer p [] n old new h was now = cc
one_fewer p (f ∷ fs) zero old new h was now = fewer_first p f new old fs (let e : f ≡ old = cc in e) was now
one_fewer p (f ∷ fs) (suc n) old new h was now = fewer_rest f (p f) (filter p (slice_set fs n new)) (filter p fs) (one_fewer p fs n old new h was now)

-- each fate is of one kind
abbrev number_of : (Fate → Bool) → List Fate → ℕ
number_of p fs = length (filter p fs)

kinds : (fs : List Fate) → length fs ≡ number_of is_stray fs + number_of is_merged fs + (number_of is_latched fs + number_of is_delivered fs) + number_of is_joined fs + number_of is_pending fs
kinds [] = refl
kinds (stray ∷ fs) = let h = kinds fs in omega (arith, h)
kinds (pending ∷ fs) = let h = kinds fs in omega (arith, h)
kinds (merged ∷ fs) = let h = kinds fs in omega (arith, h)
kinds (latched ∷ fs) = let h = kinds fs in omega (arith, h)
kinds (joined ∷ fs) = let h = kinds fs in omega (arith, h)
kinds (delivered ∷ fs) = let h = kinds fs in omega (arith, h)

pub kinds_counted : (fs : List Fate) → length fs ≡ count_by is_stray fs + count_by is_merged fs + (count_by is_latched fs + count_by is_delivered fs) + count_by is_joined fs + count_by is_pending fs
kinds_counted fs =
    let a = length-filter is_stray fs in let b = length-filter is_merged fs in let c = length-filter is_latched fs in let d = length-filter is_delivered fs in
    let e = length-filter is_joined fs in let f = length-filter is_pending fs in let h = kinds fs in omega (arith, a, b, c, d, e, f, h)

-- the pending number
none_pending_by : (k : ℕ) (f : Fate) (fs : List Fate) → (length (filter is_pending fs) ≤ 0 → pending_from (k + 1) fs ≡ None) → (t : Bool) → length (if t then f ∷ filter is_pending fs else filter is_pending fs) ≤ 0 → (if t then Some k else pending_from (k + 1) fs) ≡ None
none_pending_by k f fs more true h = absurd (omega (arith, h))
none_pending_by k f fs more false h = more h

none_pending : (k : ℕ) (fs : List Fate) → length (filter is_pending fs) ≤ 0 → pending_from k fs ≡ None
none_pending k [] h = refl
none_pending k (f ∷ fs) h = none_pending_by k f fs (λ g. none_pending (k + 1) fs g) (is_pending f) h

is_pending-fate : (f : Fate) → is_pending f ≡ true → f ≡ pending
is_pending-fate stray h = cc
is_pending-fate pending h = refl
is_pending-fate merged h = cc
is_pending-fate latched h = cc
is_pending-fate joined h = cc
is_pending-fate delivered h = cc

abbrev pub PendingAt : ℕ → List Fate → ℕ → Type 0
PendingAt k fs n = (m : ℕ) × (n ≡ k + m) × (slice_get fs m ≡ Some pending)

pending_there_by : (k : ℕ) (f : Fate) (fs : List Fate) (n : ℕ) → (pending_from (k + 1) fs ≡ Some n → PendingAt (k + 1) fs n) → (t : Bool) → is_pending f ≡ t → (if t then Some k else pending_from (k + 1) fs) ≡ Some n → PendingAt k (f ∷ fs) n
pending_there_by k f fs n more true e h = (0, (let g : k ≡ n = cc in omega (arith, g)), ap Some (is_pending-fate f e))
pending_there_by k f fs n more false e h = let r = more h in (suc r.0, omega (arith, r.1), r.2)

pub pending_there : (k : ℕ) (fs : List Fate) (n : ℕ) → pending_from k fs ≡ Some n → PendingAt k fs n
pending_there k [] n h = cc
pending_there k (f ∷ fs) n h = pending_there_by k f fs n (λ g. pending_there (k + 1) fs n g) (is_pending f) refl h

-- where one fate is pending, none is after it has got another
pub none_pending_after : (k : ℕ) (fs : List Fate) (m : ℕ) (new : Fate) → slice_get fs m ≡ Some pending → is_pending new ≡ false → count_by is_pending fs ≡ 1 → pending_from k (slice_set fs m new) ≡ None
none_pending_after k fs m new h e one =
    let a = one_fewer is_pending fs m pending new h refl e in let b = length-filter is_pending fs in
    none_pending k (slice_set fs m new) (omega (arith, a, b, one))

-- the counts after it
pub counts_latched : (fs : List Fate) (m : ℕ) → slice_get fs m ≡ Some pending → counts_of (slice_set fs m latched) ≡ record (counts_of fs) { given = (counts_of fs).given + 1 }
counts_latched fs m h =
    let a : length (slice_set fs m latched) ≡ length fs = length-set fs m latched in
    let b : count_by is_stray (slice_set fs m latched) ≡ count_by is_stray fs = count_alike is_stray fs m pending latched h refl in
    let c : count_by is_merged (slice_set fs m latched) ≡ count_by is_merged fs = count_alike is_merged fs m pending latched h refl in
    let d : count_by is_delivered (slice_set fs m latched) ≡ count_by is_delivered fs = count_alike is_delivered fs m pending latched h refl in
    let e : count_by is_joined (slice_set fs m latched) ≡ count_by is_joined fs = count_alike is_joined fs m pending latched h refl in
    let f = count_more is_latched fs m pending latched h refl refl in
    let g : count_by is_latched (slice_set fs m latched) + count_by is_delivered (slice_set fs m latched) ≡ (count_by is_latched fs + count_by is_delivered fs) + 1 = omega (arith, d, f) in
    cc

pub counts_joined : (fs : List Fate) (m : ℕ) → slice_get fs m ≡ Some pending → counts_of (slice_set fs m joined) ≡ record (counts_of fs) { joined = (counts_of fs).joined + 1 }
counts_joined fs m h =
    let a : length (slice_set fs m joined) ≡ length fs = length-set fs m joined in
    let b : count_by is_stray (slice_set fs m joined) ≡ count_by is_stray fs = count_alike is_stray fs m pending joined h refl in
    let c : count_by is_merged (slice_set fs m joined) ≡ count_by is_merged fs = count_alike is_merged fs m pending joined h refl in
    let d : count_by is_delivered (slice_set fs m joined) ≡ count_by is_delivered fs = count_alike is_delivered fs m pending joined h refl in
    let e : count_by is_latched (slice_set fs m joined) ≡ count_by is_latched fs = count_alike is_latched fs m pending joined h refl in
    let f : count_by is_joined (slice_set fs m joined) ≡ count_by is_joined fs + 1 = count_more is_joined fs m pending joined h refl refl in
    cc

-- the latched fates after it
abbrev pub fate_in : List Line → ℕ → ℕ → Option Fate
fate_in ls l n = bind (slice_get ls l) (λ (x : Line). slice_get x.fates n)

abbrev pub with_fate_at : List Line → ℕ → ℕ → Line → Fate → List Line
with_fate_at ls m n old f = slice_set ls m (record old { fates = slice_set old.fates n f })

set_on : (fs : List Fate) (n k : ℕ) → slice_get fs k ≡ Some latched → slice_get (slice_set fs n latched) k ≡ Some latched
set_on [] n k h = cc
set_on (f ∷ fs) zero zero h = refl
set_on (f ∷ fs) zero (suc k) h = h
set_on (f ∷ fs) (suc n) zero h = h
set_on (f ∷ fs) (suc n) (suc k) h = set_on fs n k h

set_back_by : (n k : ℕ) (fs : List Fate) → (k ≡ n) ⊎ (slice_get fs k ≡ Some latched) → (suc k ≡ suc n) ⊎ (slice_get fs k ≡ Some latched)
set_back_by n k fs (inl e) = inl (ap suc e)
set_back_by n k fs (inr h) = inr h

set_back : (fs : List Fate) (n k : ℕ) → slice_get (slice_set fs n latched) k ≡ Some latched → (k ≡ n) ⊎ (slice_get fs k ≡ Some latched)
set_back [] n k h = cc
set_back (f ∷ fs) zero zero h = inl refl
set_back (f ∷ fs) zero (suc k) h = inr h
set_back (f ∷ fs) (suc n) zero h = inr h
set_back (f ∷ fs) (suc n) (suc k) h = set_back_by n k fs (set_back fs n k h)

pub latched_on : (ls : List Line) (m n : ℕ) (old : Line) → slice_get ls m ≡ Some old → (l k : ℕ) → fate_in ls l k ≡ Some latched → fate_in (with_fate_at ls m n old latched) l k ≡ Some latched
latched_on [] m n old h l k g = g
latched_on (x ∷ ls) zero n old h zero k g = let e : x ≡ old = cc in set_on old.fates n k (ap (λ (v : Line). slice_get v.fates k) (sym e) ∙ g)
latched_on (x ∷ ls) zero n old h (suc l) k g = g
latched_on (x ∷ ls) (suc m) n old h zero k g = g
latched_on (x ∷ ls) (suc m) n old h (suc l) k g = latched_on ls m n old h l k g

back_here : (z : ℕ) (x old : Line) (n k : ℕ) → x ≡ old → (k ≡ n) ⊎ (slice_get old.fates k ≡ Some latched) → ((z ≡ z) × (k ≡ n)) ⊎ (slice_get x.fates k ≡ Some latched)
back_here z x old n k e (inl f) = inl (refl, f)
back_here z x old n k e (inr g) = inr (ap (λ (v : Line). slice_get v.fates k) e ∙ g)

back_further : (l m n k : ℕ) (ls : List Line) → ((l ≡ m) × (k ≡ n)) ⊎ (fate_in ls l k ≡ Some latched) → ((suc l ≡ suc m) × (k ≡ n)) ⊎ (fate_in ls l k ≡ Some latched)
back_further l m n k ls (inl e) = inl (ap suc e.0, e.1)
back_further l m n k ls (inr h) = inr h

pub latched_back : (ls : List Line) (m n : ℕ) (old : Line) → slice_get ls m ≡ Some old → (l k : ℕ) → fate_in (with_fate_at ls m n old latched) l k ≡ Some latched → ((l ≡ m) × (k ≡ n)) ⊎ (fate_in ls l k ≡ Some latched)
latched_back [] m n old h l k g = cc
latched_back (x ∷ ls) zero n old h zero k g = back_here zero x old n k (let e : x ≡ old = cc in e) (set_back old.fates n k g)
latched_back (x ∷ ls) zero n old h (suc l) k g = inr g
latched_back (x ∷ ls) (suc m) n old h zero k g = inr g
latched_back (x ∷ ls) (suc m) n old h (suc l) k g = back_further l m n k ls (latched_back ls m n old h l k g)

pub latched_there : (ls : List Line) (m n : ℕ) (old : Line) (f : Fate) → slice_get ls m ≡ Some old → slice_get old.fates n ≡ Some f → fate_in (with_fate_at ls m n old latched) m n ≡ Some latched
latched_there ls m n old f h g =
    ap (λ o. bind o (λ (x : Line). slice_get x.fates n)) (slice_get-set_same ls m old (record old { fates = slice_set old.fates n latched }) h)
    ∙ slice_get-set_same old.fates n f latched g

-- a pending fate that is joined
joined_fate_on : (fs : List Fate) (n k : ℕ) → slice_get fs n ≡ Some pending → slice_get fs k ≡ Some latched → slice_get (slice_set fs n joined) k ≡ Some latched
joined_fate_on [] n k h g = cc
joined_fate_on (f ∷ fs) zero zero h g = cc
joined_fate_on (f ∷ fs) zero (suc k) h g = g
joined_fate_on (f ∷ fs) (suc n) zero h g = g
joined_fate_on (f ∷ fs) (suc n) (suc k) h g = joined_fate_on fs n k h g

joined_fate_back : (fs : List Fate) (n k : ℕ) → slice_get (slice_set fs n joined) k ≡ Some latched → slice_get fs k ≡ Some latched
joined_fate_back [] n k g = g
joined_fate_back (f ∷ fs) zero zero g = cc
joined_fate_back (f ∷ fs) zero (suc k) g = g
joined_fate_back (f ∷ fs) (suc n) zero g = g
joined_fate_back (f ∷ fs) (suc n) (suc k) g = joined_fate_back fs n k g

pub joined_on : (ls : List Line) (m n : ℕ) (old : Line) → slice_get ls m ≡ Some old → slice_get old.fates n ≡ Some pending → (l k : ℕ) → fate_in ls l k ≡ Some latched → fate_in (with_fate_at ls m n old joined) l k ≡ Some latched
joined_on [] m n old h p l k g = g
joined_on (x ∷ ls) zero n old h p zero k g = let e : x ≡ old = cc in joined_fate_on old.fates n k p (ap (λ (v : Line). slice_get v.fates k) (sym e) ∙ g)
joined_on (x ∷ ls) zero n old h p (suc l) k g = g
joined_on (x ∷ ls) (suc m) n old h p zero k g = g
joined_on (x ∷ ls) (suc m) n old h p (suc l) k g = joined_on ls m n old h p l k g

pub joined_back : (ls : List Line) (m n : ℕ) (old : Line) → slice_get ls m ≡ Some old → (l k : ℕ) → fate_in (with_fate_at ls m n old joined) l k ≡ Some latched → fate_in ls l k ≡ Some latched
joined_back [] m n old h l k g = g
joined_back (x ∷ ls) zero n old h zero k g = let e : x ≡ old = cc in ap (λ (v : Line). slice_get v.fates k) e ∙ joined_fate_back old.fates n k g
joined_back (x ∷ ls) zero n old h (suc l) k g = g
joined_back (x ∷ ls) (suc m) n old h zero k g = g
joined_back (x ∷ ls) (suc m) n old h (suc l) k g = joined_back ls m n old h l k g
