-- A command that is not refused finds room for the block that it parks.
use Rattle.std.proofs.Common.{◌≡◌, ◌≢◌, ℕ, zero, suc, ◌<◌, List, [], ◌∷◌, ◌++◌, Bool, true, false, Option, Some, None, refl, sym, ap, subst, length, arith}
use Rattle.std.specs.Prelude.{nat_le, if◌then◌else◌, slice_get, slice_set}
use Rattle.std.specs.Option.{option_map_or}
use Rattle.std.proofs.lemmas.Bool.Decides.{nat_tests}
use Rattle.dc_base.specs.declared.numbers.BlockNo.{BlockNo}
use Rattle.dc_base.specs.declared.numbers.CoreNo.{CoreNo}
use Rattle.dc_base.specs.declared.commands.Command.{Command}
use Rattle.dc_base.specs.declared.commands.Command.TheVariants.{Start, Stop, Replace, Attach, Move, Park, Unpark}
use Rattle.dc_base.specs.declared.commands.Order.TheVariants as order
use Rattle.dc_base.specs.declared.commands.Refusal.{Refusal}
use Rattle.dc_base.specs.declared.commands.Refusal.TheVariants.{OnThatCore, ShareFull}
use Rattle.dc_base.specs.Words.{bind, first_of, is_number}
use Rattle.dc_base.specs.Boot.{Booted, Registry, booted_at, parked_on, core_of, refusal, orders, off, not_home, on_that_core, share_full, after_order, after_order_at, without_block}
use Rattle.dc_boot.specs.Registries.{FindRoom}

-- no cause applies
none_first : (o : Option Refusal) (os : List (Option Refusal)) → first_of (o ∷ os) ≡ None → (o ≡ None) × (first_of os ≡ None)
none_first None os h = (refl, h)
none_first (Some x) os h = absurd (let bad : Some x ≡ None = h in cc)

no_test : (t : Bool) (x : Refusal) → (if t then Some x else None) ≡ None → t ≡ false
no_test true x h = absurd (let bad : Some x ≡ None = h in cc)
no_test false x h = refl

has_room : (r : Registry) (c : CoreNo) → share_full r c ≡ None → length (parked_on r c.0) < 8
has_room r c h = let e : nat_le 8 (length (parked_on r c.0)) ≡ false = no_test (nat_le 8 (length (parked_on r c.0))) (ShareFull c) h in grind (arith, nat_tests, e)

-- a block that leaves one core leaves the others as they are
set_other : {X : Type 0} (xs : List X) (i j : ℕ) (x : X) → i ≢ j → slice_get (slice_set xs i x) j ≡ slice_get xs j
set_other [] i j x n = refl
set_other (y ∷ xs) zero zero x n = absurd (n refl)
set_other (y ∷ xs) zero (suc j) x n = refl
set_other (y ∷ xs) (suc i) zero x n = refl
set_other (y ∷ xs) (suc i) (suc j) x n = set_other xs i j x (λ e. n (ap suc e))

other_by : (r : Registry) (d c : ℕ) (b : BlockNo) → d ≢ c → (s : Option Booted) → parked_on (after_order_at r d s (order.Release b)) c ≡ parked_on r c
other_by r d c b n None = refl
other_by r d c b n (Some k) = ap (λ o. option_map_or (λ (k : Booted). k.parked) (bind o (λ x. x)) []) (set_other r.cores d c (Some (without_block b.0 k)) n)

other : (r : Registry) (d c : ℕ) (b : BlockNo) → d ≢ c → parked_on (after_order r d (order.Release b)) c ≡ parked_on r c
unfolding after_order
other r d c b n = other_by r d c b n (booted_at r d)

home_found : (r : Registry) (b : BlockNo) (c : ℕ) (o : Option ℕ) → FindRoom r (option_map_or (λ d. (d, order.Release b) ∷ []) o [] ++ (c, order.Adopt b false) ∷ [])
home_found r b c None = (tt, tt)
home_found r b c (Some d) = (tt, (tt, tt))

parked_found : (r : Registry) (b : BlockNo) (c : CoreNo) (o : Option ℕ) → length (parked_on r c.0) < 8 → is_number c.0 o ≡ false →
    FindRoom r (option_map_or (λ d. (d, order.Release b) ∷ []) o [] ++ (c.0, order.Adopt b true) ∷ [])
parked_found r b c None h n = (h, tt)
parked_found r b c (Some d) h n =
    let apart : d ≢ c.0 = λ e. grind (arith, nat_tests, n, e) in
    (tt, (subst (λ ns. length ns < 8) (sym (other r d c.0 b apart)) h, tt))

park_found : (r : Registry) (b : BlockNo) (c : CoreNo) → first_of (off r c ∷ not_home r b ∷ on_that_core r b c ∷ share_full r c ∷ []) ≡ None →
    FindRoom r (option_map_or (λ d. (d, order.Release b) ∷ []) (core_of r b.0) [] ++ (c.0, order.Adopt b true) ∷ [])
park_found r b c h =
    let a = none_first (off r c) (not_home r b ∷ on_that_core r b c ∷ share_full r c ∷ []) h in
    let e = none_first (not_home r b) (on_that_core r b c ∷ share_full r c ∷ []) a.1 in
    let f = none_first (on_that_core r b c) (share_full r c ∷ []) e.1 in
    let g = none_first (share_full r c) [] f.1 in
    parked_found r b c (core_of r b.0) (has_room r c g.0) (no_test (is_number c.0 (core_of r b.0)) (OnThatCore b c) f.0)

pub all_found : (r : Registry) (c : Command) → refusal r c ≡ None → FindRoom r (orders r c)
unfolding refusal orders
all_found r (Start c v) h = (tt, tt)
all_found r (Stop c) h = (tt, tt)
all_found r (Replace c v) h = (tt, tt)
all_found r (Attach b c) h = (tt, tt)
all_found r (Move b c) h = home_found r b c.0 (core_of r b.0)
all_found r (Park b c) h = park_found r b c h
all_found r (Unpark b c) h = home_found r b c.0 (core_of r b.0)
