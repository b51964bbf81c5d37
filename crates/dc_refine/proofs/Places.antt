-- The share of a core and the told holders list the same blocks: those that are on the core.
use Rattle.std.proofs.Common.{◌≡◌, ℕ, zero, suc, ◌+◌, List, [], ◌∷◌, Bool, true, false, Some, refl, sym, ap, ◌∙◌, subst, map, arith, inl, inr, ◌⊎◌}
use Rattle.std.specs.Prelude.{slice_get, filter, ◌==◌, ◌||◌, if◌then◌else◌}
use Rattle.std.proofs.lemmas.Bool.Decides.{nat_tests}
use Rattle.std.proofs.lemmas.Bool.{or_right}
use Rattle.dc_base.specs.States.{State, Core, Block, Member, Whereabouts, rest, on}
use Rattle.dc_base.specs.Outcomes.{has, share_blocks}
use Rattle.dc_base.specs.Holders.{held_by}
use Rattle.dc_base.specs.Placed.{IsPlaced, IsListed, IsOn}
use Rattle.dc_base.specs.Telling.{with_holder, holders_from}
use Rattle.dc_refine.proofs.Members.{In}

same_test : (n m : ℕ) → n ≡ m → (n == m) ≡ true
same_test n m e = grind (arith, nat_tests, e)

-- the blocks of a share
or_by : (n b : ℕ) (ns : List ℕ) (t u : Bool) → (n == b) ≡ t → (u ≡ true → In b ns) → (t || u) ≡ true → In b (n ∷ ns)
or_by n b ns true u e more h = inl (let f : n ≡ b = grind (arith, nat_tests, e) in sym f)
or_by n b ns false u e more h = inr (more h)

pub has-in : (share : List Member) (b : ℕ) → has share b ≡ true → In b (share_blocks share)
has-in [] b h = cc
has-in (m ∷ ms) b h = or_by m.block b (share_blocks ms) (m.block == b) (has ms b) refl (λ g. has-in ms b g) h

pub in-has : (share : List Member) (b : ℕ) → In b (share_blocks share) → has share b ≡ true
in-has [] b h = absurd h
in-has (m ∷ ms) b (inl e) = ap (λ t. t || has ms b) (same_test m.block b (sym e))
in-has (m ∷ ms) b (inr h) = or_right (m.block == b) (has ms b) (in-has ms b h)

-- the held blocks
held_first : (c : ℕ) (w : Whereabouts) (n b : ℕ) (ps : List (ℕ × ℕ)) → IsOn c w → b ≡ n → In b (held_by c (with_holder n w ps))
held_first c (rest kept) n b ps h e = absurd h
held_first c (on d z v) n b ps h e = subst (λ t. In b (map (λ (p : ℕ × ℕ). p.0) (if t then (n, d) ∷ filter (λ (p : ℕ × ℕ). p.1 == c) ps else filter (λ (p : ℕ × ℕ). p.1 == c) ps))) (sym (same_test d c h)) (inl e)

held_further : (c : ℕ) (w : Whereabouts) (n b : ℕ) (ps : List (ℕ × ℕ)) → In b (held_by c ps) → In b (held_by c (with_holder n w ps))
held_further c (rest kept) n b ps h = h
held_further c (on d z v) n b ps h = by_test (d == c)
  where
    by_test : (t : Bool) → In b (map (λ (p : ℕ × ℕ). p.0) (if t then (n, d) ∷ filter (λ (p : ℕ × ℕ). p.1 == c) ps else filter (λ (p : ℕ × ℕ). p.1 == c) ps))
    by_test true = inr h
    by_test false = h

held_split : (c : ℕ) (w : Whereabouts) (n b : ℕ) (ps : List (ℕ × ℕ)) → In b (held_by c (with_holder n w ps)) → ((b ≡ n) × IsOn c w) ⊎ In b (held_by c ps)
held_split c (rest kept) n b ps h = inr h
held_split c (on d z v) n b ps h = by_test (d == c) refl h
  where
    by_test : (t : Bool) → (d == c) ≡ t → In b (map (λ (p : ℕ × ℕ). p.0) (if t then (n, d) ∷ filter (λ (p : ℕ × ℕ). p.1 == c) ps else filter (λ (p : ℕ × ℕ). p.1 == c) ps)) →
        ((b ≡ n) × (d ≡ c)) ⊎ In b (held_by c ps)
    by_test true e (inl f) = inl (f, grind (arith, nat_tests, e))
    by_test true e (inr g) = inr g
    by_test false e g = inr g

pub in-held : (c n : ℕ) (xs : List Block) (i b : ℕ) (x : Block) → slice_get xs i ≡ Some x → IsOn c x.whereabouts → b ≡ n + i → In b (held_by c (holders_from n xs))
in-held c n [] i b x h is_on e = cc
in-held c n (y ∷ ys) zero b x h is_on e = let f : y ≡ x = cc in held_first c y.whereabouts n b (holders_from (n + 1) ys) (subst (λ (v : Block). IsOn c v.whereabouts) (sym f) is_on) (omega (arith, e))
in-held c n (y ∷ ys) (suc i) b x h is_on e = held_further c y.whereabouts n b (holders_from (n + 1) ys) (in-held c (n + 1) ys i b x h is_on (omega (arith, e)))

-- a block that is on core c
pub record OnCore (c n : ℕ) (xs : List Block) (b : ℕ) : Type 0 where
  pub place : ℕ
  pub block : Block
  pub number : b ≡ n + place
  pub there : slice_get xs place ≡ Some block
  pub is_on : IsOn c block.whereabouts

held_by_part : (c n : ℕ) (y : Block) (ys : List Block) (b : ℕ) → (In b (held_by c (holders_from (n + 1) ys)) → OnCore c (n + 1) ys b) → ((b ≡ n) × IsOn c y.whereabouts) ⊎ In b (held_by c (holders_from (n + 1) ys)) → OnCore c n (y ∷ ys) b
held_by_part c n y ys b more (inl h) = record { place = 0; block = y; number = omega (arith, h.0); there = refl; is_on = h.1 }
held_by_part c n y ys b more (inr h) = let r = more h in record { place = suc r.place; block = r.block; number = omega (arith, r.number); there = r.there; is_on = r.is_on }

pub held-on : (c n : ℕ) (xs : List Block) (b : ℕ) → In b (held_by c (holders_from n xs)) → OnCore c n xs b
held-on c n [] b h = absurd h
held-on c n (y ∷ ys) b h = held_by_part c n y ys b (λ g. held-on c (n + 1) ys b g) (held_split c y.whereabouts n b (holders_from (n + 1) ys) h)

-- the share of its core lists a block
listed_at : (s : State) (b c : ℕ) (k : Core) (w : Whereabouts) → IsListed s b w → slice_get s.cores c ≡ Some k → IsOn c w → has k.share b ≡ true
listed_at s b c k (rest kept) h at is_on = absurd is_on
listed_at s b c k (on d z v) h at is_on =
    let same : Some h.0 ≡ Some k = sym h.1 ∙ ap (slice_get s.cores) is_on ∙ at in
    let f : h.0 ≡ k = cc in
    ap (λ (k : Core). has k.share b) (sym f) ∙ h.2

pub on-has : (s : State) → IsPlaced s → (b c : ℕ) (k : Core) (x : Block) → slice_get s.blocks b ≡ Some x → slice_get s.cores c ≡ Some k → IsOn c x.whereabouts → has k.share b ≡ true
on-has s placed b c k x block_at core_at is_on = listed_at s b c k x.whereabouts (placed.listed b x block_at) core_at is_on
