-- A row whose blocks are in a share has at most as many.
use Rattle.std.proofs.Common.{◌≡◌, ℕ, suc, ◌<◌, ◌≤◌, ◌==◌, ◌||◌, not, Bool, true, false, List, [], ◌∷◌, if◌then◌else◌, refl, subst, length, arith}
use Rattle.dc_base.specs.declared.numbers.BlockNo.{BlockNo}
use Rattle.dc_base.specs.Outcomes.{share_without}
use Rattle.dc_base.specs.Outcomes.{has as in_share}
use Rattle.dc_base.specs.States.{Member}
use Rattle.dc_sound.proofs.Shares.{has-stays}
use Rattle.dc_hands.specs.Rows.{place_in, AreOnce}
use Rattle.dc_hands.proofs.Rowing.{at_head, in_tail}

most_by : (m : Member) (ms rest : List Member) → length rest ≤ length ms → (t : Bool) → length (if not t then m ∷ rest else rest) ≤ suc (length ms)
most_by m ms rest h true = omega (arith, h)
most_by m ms rest h false = omega (arith, h)

at_most : (b : ℕ) (share : List Member) → length (share_without b share) ≤ length share
at_most b [] = omega arith
at_most b (m ∷ ms) = most_by m ms (share_without b ms) (at_most b ms) (m.block == b)

fewer_by : (b : ℕ) (m : Member) (ms rest : List Member) → length rest ≤ length ms → (in_share ms b ≡ true → length rest < length ms) → (t : Bool) → (t || in_share ms b) ≡ true
    → length (if not t then m ∷ rest else rest) < suc (length ms)
fewer_by b m ms rest most fewer true h = omega (arith, most)
fewer_by b m ms rest most fewer false h = let k = fewer h in omega (arith, k)

-- a share without one of its blocks is shorter
fewer_without : (b : ℕ) (share : List Member) → in_share share b ≡ true → length (share_without b share) < length share
fewer_without b [] h = absurd (let bad : false ≡ true = h in cc)
fewer_without b (m ∷ ms) h = fewer_by b m ms (share_without b ms) (at_most b ms) (fewer_without b ms) (m.block == b) h

pub few_numbers : (ns : List BlockNo) (share : List Member) → AreOnce ns → ((b : ℕ) → place_in ns b < length ns → in_share share b ≡ true) → length ns ≤ length share
few_numbers [] share once among = omega arith
few_numbers (n ∷ ns) share once among =
    let fewer = fewer_without n.0 share (among n.0 (let p = at_head n ns n.0 refl in omega (arith, p))) in
    let more = few_numbers ns (share_without n.0 share) once.1 rest in
    omega (arith, fewer, more)
  where
    other : (b : ℕ) → place_in ns b < length ns → n.0 ≡ b → ⊥
    other b near e = let past = subst (λ c. place_in ns c ≡ length ns) e once.0 in absurd (omega (arith, past, near))

    rest : (b : ℕ) → place_in ns b < length ns → in_share (share_without n.0 share) b ≡ true
    rest b near = has-stays n.0 b share (other b near) (among b (let p = in_tail n ns b (other b near) in omega (arith, p, near)))
