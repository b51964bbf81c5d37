-- A share whose block went to its end shows the same home and the same parked blocks.
use Rattle.std.proofs.Common.{◌≡◌, ℕ, ◌<◌, ◌≤◌, List, [], ◌∷◌, ◌++◌, length, Bool, true, false, Some, refl, sym, ap, ◌∙◌, subst, arith}
use Rattle.std.specs.Prelude.{filter, ◌==◌, not, nat_lt, if◌then◌else◌}
use Rattle.std.proofs.lemmas.Bool.Decides.{nat_tests}
use Rattle.std.proofs.lemmas.List.Sums.{length-filter}
use Rattle.dc_base.specs.Words.{with_number}
use Rattle.dc_base.specs.States.{Member}
use Rattle.dc_base.specs.Outcomes.{share_without, share_with_last}
use Rattle.dc_base.specs.Progress.{home_block, parked_blocks}
use Rattle.dc_base.specs.Placed.{homes_in}

-- numbers put in their places, in either order
comm_two : (a b : ℕ) (rest : List ℕ) (ab ba : Bool) → nat_lt a b ≡ ab → nat_lt b a ≡ ba → (if ab then a ∷ b ∷ rest else b ∷ a ∷ rest) ≡ (if ba then b ∷ a ∷ rest else a ∷ b ∷ rest)
comm_two a b rest true true e f = absurd (let p : a < b = grind (arith, nat_tests, e) in let q : b < a = grind (arith, nat_tests, f) in omega arith)
comm_two a b rest true false e f = refl
comm_two a b rest false true e f = refl
comm_two a b rest false false e f =
    let p : b ≤ a = grind (arith, nat_tests, e) in let q : a ≤ b = grind (arith, nat_tests, f) in
    let same : a ≡ b = omega arith in cc

lt_false : (a b : ℕ) → b ≤ a → nat_lt a b ≡ false
lt_false a b h = grind (arith, nat_tests)

comm_more : (a b m : ℕ) (ms : List ℕ) → with_number a (with_number b ms) ≡ with_number b (with_number a ms) → (am bm : Bool) → nat_lt a m ≡ am → nat_lt b m ≡ bm →
    with_number a (if bm then b ∷ m ∷ ms else m ∷ with_number b ms) ≡ with_number b (if am then a ∷ m ∷ ms else m ∷ with_number a ms)
comm_more a b m ms more true true e f = rw (e, f) (comm_two a b (m ∷ ms) (nat_lt a b) (nat_lt b a) refl refl)
comm_more a b m ms more true false e f =
    let p : a < m = grind (arith, nat_tests, e) in let q : m ≤ b = grind (arith, nat_tests, f) in
    rw (e, f, lt_false b a (omega arith)) refl
comm_more a b m ms more false true e f =
    let p : m ≤ a = grind (arith, nat_tests, e) in let q : b < m = grind (arith, nat_tests, f) in
    rw (e, f, lt_false a b (omega arith)) refl
comm_more a b m ms more false false e f = rw (e, f) (ap (λ l. m ∷ l) more)

with_number_comm : (a b : ℕ) (l : List ℕ) → with_number a (with_number b l) ≡ with_number b (with_number a l)
with_number_comm a b [] = comm_two a b [] (nat_lt a b) (nat_lt b a) refl refl
with_number_comm a b (m ∷ ms) = comm_more a b m ms (with_number_comm a b ms) (nat_lt a m) (nat_lt b m) refl refl

abbrev pub put : Bool → ℕ → List ℕ → List ℕ
put p n l = if p then with_number n l else l

put_comm : (p q : Bool) (a b : ℕ) (l : List ℕ) → put p a (put q b l) ≡ put q b (put p a l)
put_comm true true a b l = with_number_comm a b l
put_comm true false a b l = refl
put_comm false true a b l = refl
put_comm false false a b l = refl

pub parked_behind : (xs ys : List Member) (m : Member) → parked_blocks (xs ++ m ∷ ys) ≡ put m.parked m.block (parked_blocks (xs ++ ys))
parked_behind [] ys m = refl
parked_behind (x ∷ xs) ys m = ap (put x.parked x.block) (parked_behind xs ys m) ∙ put_comm x.parked m.parked x.block m.block (parked_blocks (xs ++ ys))

parked_by : (m : Member) (xs bs : List Member) (l : List ℕ) → parked_blocks (xs ++ bs) ≡ l → (t : Bool) →
    parked_blocks ((if not t then m ∷ xs else xs) ++ (if t then m ∷ bs else bs)) ≡ put m.parked m.block l
parked_by m xs bs l h true = parked_behind xs bs m ∙ ap (put m.parked m.block) h
parked_by m xs bs l h false = ap (put m.parked m.block) h

pub parked_with_last : (b : ℕ) (share : List Member) → parked_blocks (share_with_last b share) ≡ parked_blocks share
parked_with_last b [] = refl
parked_with_last b (m ∷ ms) = parked_by m (share_without b ms) (filter (λ (m : Member). m.block == b) ms) (parked_blocks ms) (parked_with_last b ms) (m.block == b)

abbrev pub AllParked : List Member → Type 0
AllParked [] = Unit {0}
AllParked (m ∷ ms) = (m.parked ≡ true) × AllParked ms

none_by : (m : Member) (t : Bool) (ms : List Member) → m.parked ≡ t → length (if not t then m ∷ ms else ms) ≤ 0 → (m.parked ≡ true) × (length ms ≤ 0)
none_by m true ms e h = (e, h)
none_by m false ms e h = absurd (omega (arith, h))

pub all_parked : (ms : List Member) → length (filter (λ (m : Member). not m.parked) ms) ≤ 0 → AllParked ms
all_parked [] h = tt
all_parked (m ∷ ms) h = let k = none_by m m.parked (filter (λ (m : Member). not m.parked) ms) refl h in (k.0, all_parked ms k.1)

home_past : (p : Member → Bool) (ms ys : List Member) → AllParked ms → home_block (filter p ms ++ ys) ≡ home_block ys
home_past p [] ys h = refl
home_past p (m ∷ ms) ys h = past_by (p m) (filter p ms) (home_past p ms ys h.1)
  where
    past_by : (t : Bool) (l : List Member) → home_block (l ++ ys) ≡ home_block ys → home_block ((if t then m ∷ l else l) ++ ys) ≡ home_block ys
    past_by true l e = ap (λ v. if v then home_block (l ++ ys) else Some m.block) h.0 ∙ e
    past_by false l e = e

pub home_behind : (xs ys : List Member) (m : Member) → m.parked ≡ true → home_block (xs ++ m ∷ ys) ≡ home_block (xs ++ ys)
home_behind [] ys m h = ap (λ v. if v then home_block ys else Some m.block) h
home_behind (x ∷ xs) ys m h = ap (λ o. if x.parked then o else Some x.block) (home_behind xs ys m h)

home_by : (b : ℕ) (m : Member) (ms : List Member) (p : Bool) → m.parked ≡ p → (p ≡ false → AllParked ms) → home_block (share_with_last b ms) ≡ home_block ms → (t : Bool) →
    home_block ((if not t then m ∷ share_without b ms else share_without b ms) ++ (if t then m ∷ filter (λ (m : Member). m.block == b) ms else filter (λ (m : Member). m.block == b) ms)) ≡ (if m.parked then home_block ms else Some m.block)
home_by b m ms true e none more true = home_behind (share_without b ms) (filter (λ (m : Member). m.block == b) ms) m e ∙ more ∙ ap (λ v. if v then home_block ms else Some m.block) (sym e)
home_by b m ms false e none more true = home_past (λ (m : Member). not (m.block == b)) ms (m ∷ filter (λ (m : Member). m.block == b) ms) (none refl) ∙ ap (λ v. if v then home_block (filter (λ (m : Member). m.block == b) ms) else Some m.block) e ∙ ap (λ v. if v then home_block ms else Some m.block) (sym e)
home_by b m ms p e none more false = ap (λ o. if m.parked then o else Some m.block) more

pub one_less : (m : Member) (t : Bool) (ms : List Member) → m.parked ≡ t → length (if not t then m ∷ ms else ms) ≤ 1 → (length ms ≤ 1) × (m.parked ≡ false → length ms ≤ 0)
one_less m true ms e h = (h, λ f. let g : true ≡ false = sym e ∙ f in cc)
one_less m false ms e h = (omega (arith, h), λ f. omega (arith, h))

home_last : (b : ℕ) (ms : List Member) → length (filter (λ (m : Member). not m.parked) ms) ≤ 1 → home_block (share_with_last b ms) ≡ home_block ms
home_last b [] h = refl
home_last b (m ∷ ms) h =
    let k = one_less m m.parked (filter (λ (m : Member). not m.parked) ms) refl h in
    home_by b m ms m.parked refl (λ f. all_parked ms (k.1 f)) (home_last b ms k.0) (m.block == b)

pub home_with_last : (b : ℕ) (share : List Member) → homes_in share ≤ 1 → home_block (share_with_last b share) ≡ home_block share
home_with_last b share h = home_last b share (subst (λ n. n ≤ 1) (sym (length-filter (λ (m : Member). not m.parked) share)) h)
