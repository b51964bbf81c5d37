-- The blocks of a share, looked at one after another.
use Rattle.std.proofs.Common.{◌≡◌, ℕ, zero, suc, ◌+◌, ◌<◌, ◌≤◌, List, [], ◌∷◌, Bool, true, false, Option, Some, None, refl, sym, ap, ◌∙◌, subst, cond, length, drop, arith, map}
use Rattle.std.specs.Prelude.{slice_get, ◌||◌, ◌==◌}
use Rattle.std.specs.List.{find}
use Rattle.std.specs.Option.{option_map, option_map_or, option_copied}
use Rattle.std.proofs.Common.{Bor}
use Rattle.dc_base.specs.declared.numbers.BlockNo.{BlockNo}
use Rattle.std.proofs.Math.Bool.{or-true}
use Rattle.std.proofs.lemmas.List.{drop_more, length-map}
use Rattle.std.proofs.lemmas.Option.{none-some, same_Some, slice_get_within, slice_get-get_or, get_or_from_slice_get}
use Rattle.dc_base.specs.Outcomes.{has, share_blocks}
use Rattle.dc_base.specs.States.{Core, Block, Member}
use Rattle.dc_base.specs.Steps.{can_run, is_runnable}
use Rattle.dc_base.specs.Turns.{Looked}
use Rattle.dc_block_sound.proofs.Elements.{same_is}
use Rattle.dc_bodies.specs.InHand.{AreInHand, IsInHand, looked_in}
use Rattle.dc_bodies.specs.Nexts.{first_runnable}

abbrev pub look : (ℕ → Option Block) → ℕ → Looked
look seen b = record { number = b; found = seen b }

pub drop_at : {A : Type 0} (xs : List A) (i : ℕ) (x : A) → slice_get xs i ≡ Some x → drop i xs ≡ x ∷ drop (i + 1) xs
drop_at xs i x e = drop_more xs i x (slice_get_within xs i x e) ∙ ap (λ y. y ∷ drop (i + 1) xs) (get_or_from_slice_get xs i x x e)

pub drop_past : {A : Type 0} (xs : List A) (i : ℕ) → length xs ≤ i → drop i xs ≡ []
drop_past [] zero h = refl
drop_past [] (suc i) h = refl
drop_past (x ∷ xs) zero h = absurd (omega (arith, h))
drop_past (x ∷ xs) (suc i) h = drop_past xs i (omega (arith, h))

-- what stands at a place of the share is listed
pub listed_at : (share : List Member) (i b : ℕ) → slice_get (share_blocks share) i ≡ Some b → has share b ≡ true
listed_at [] i b e = absurd (none-some b e)
listed_at (m ∷ ms) zero b e = ap (λ t. t || has ms b) (subst (λ n. (m.block == n) ≡ true) (same_Some m.block b e) (same_is m.block))
listed_at (m ∷ ms) (suc i) b e = ap (λ t. (m.block == b) || t) (listed_at ms i b e) ∙ or-true (m.block == b)

-- a place below the length has a block
place_has : (share : List Member) (i : ℕ) → i < length share → slice_get (share_blocks share) i ≡ None → ⊥
place_has share i h e = none-some _ (sym e ∙ slice_get-get_or (share_blocks share) i 0 (let n = length-map share (λ (m : Member). m.block) in omega (arith, n, h)))

module _ (seen : ℕ → Option Block) (clock : ℕ) where
  abbrev pub first_from : ℕ → List Member → Option Looked
  first_from i share = find (is_runnable clock) (map (look seen) (drop i (share_blocks share)))

  pub first_here : (share : List Member) (i b : ℕ) (x : Block) → slice_get (share_blocks share) i ≡ Some b → seen b ≡ Some x → can_run clock x ≡ true → first_from i share ≡ Some (look seen b)
  first_here share i b x e s r =
      let t : is_runnable clock (look seen b) ≡ true = ap (λ o. option_map_or (can_run clock) o false) s ∙ r in
      ap (λ ns. find (is_runnable clock) (map (look seen) ns)) (drop_at (share_blocks share) i b e) ∙ ap (λ u. cond u (Some (look seen b)) (first_from (i + 1) share)) t

  pub first_later : (share : List Member) (i b : ℕ) (x : Block) → slice_get (share_blocks share) i ≡ Some b → seen b ≡ Some x → can_run clock x ≡ false → first_from (i + 1) share ≡ first_from i share
  first_later share i b x e s r =
      let t : is_runnable clock (look seen b) ≡ false = ap (λ o. option_map_or (can_run clock) o false) s ∙ r in
      sym (ap (λ ns. find (is_runnable clock) (map (look seen) ns)) (drop_at (share_blocks share) i b e) ∙ ap (λ u. cond u (Some (look seen b)) (first_from (i + 1) share)) t)

  pub none_first : (share : List Member) (i : ℕ) → length share ≤ i → first_from i share ≡ None
  none_first share i h =
      let n = length-map share (λ (m : Member). m.block) in
      ap (λ ns. find (is_runnable clock) (map (look seen) ns)) (drop_past (share_blocks share) i (omega (arith, n, h)))

-- a block at a place of the share is there
pub hand_at : (c : ℕ) (k : Core) (seen : ℕ → Option Block) → AreInHand c k seen → (i b : ℕ) → slice_get (share_blocks k.share) i ≡ Some b → (x : Block) → seen b ≡ Some x → IsInHand c k.clock x
hand_at c k seen hand i b at x e =
    let h = hand b (listed_at k.share i b at) in
    subst (IsInHand c k.clock) (same_Some h.0 x (sym h.1 ∙ e)) h.2

pub hand_has : (c : ℕ) (k : Core) (seen : ℕ → Option Block) → AreInHand c k seen → (b : ℕ) → has k.share b ≡ true → seen b ≡ None → ⊥
hand_has c k seen hand b listed e = let h = hand b listed in none-some h.0 (sym e ∙ h.1)

-- the block that a share tells at a place
number_at : (o : Option BlockNo) (b : BlockNo) (r : Option ℕ) → o ≡ Some b → option_map (λ (n : BlockNo). n.0) o ≡ r → r ≡ Some b.0
number_at o b r e h = sym h ∙ ap (option_map (λ (n : BlockNo). n.0)) e

pub place_is : (ms share : List Member) (i : ℕ) (o : Option BlockNo) (b : BlockNo) → ms ≡ share → o ≡ Some b → option_map (λ (n : BlockNo). n.0) o ≡ slice_get (share_blocks ms) i → slice_get (share_blocks share) i ≡ Some b.0
place_is ms share i o b same e h = ap (λ (ms : List Member). slice_get (share_blocks ms) i) (sym same) ∙ number_at o b (slice_get (share_blocks ms) i) e h

pub no_number_at : (o : Option BlockNo) (r : Option ℕ) → o ≡ None → option_map (λ (n : BlockNo). n.0) o ≡ r → r ≡ None
no_number_at o r e h = sym h ∙ ap (option_map (λ (n : BlockNo). n.0)) e

-- none stands there only past the end
pub place_past : (ms share : List Member) (i : ℕ) (o : Option BlockNo) → ms ≡ share → i < length share → o ≡ None → option_map (λ (n : BlockNo). n.0) o ≡ slice_get (share_blocks ms) i → ⊥
place_past ms share i o same within e h = place_has share i within (ap (λ (ms : List Member). slice_get (share_blocks ms) i) (sym same) ∙ no_number_at o (slice_get (share_blocks ms) i) e h)

pub seen_some : {T : Type 0} (o : Option (Bor T)) (x : Bor T) (r : Option T) → o ≡ Some x → option_copied o ≡ r → r ≡ Some x.now
seen_some o x r e h = sym h ∙ ap option_copied e

pub seen_none : {T : Type 0} (o : Option (Bor T)) (r : Option T) → o ≡ None → option_copied o ≡ r → r ≡ None
seen_none o r e h = sym h ∙ ap option_copied e

-- the first that can run is one of the share
module _ (seen : ℕ → Option Block) (p : Looked → Bool) where
  one_of : (m : Member) (ms : List Member) (l : Looked) → (find p (map (look seen) (share_blocks ms)) ≡ Some l → (l ≡ look seen l.number) × (has ms l.number ≡ true)) → (t : Bool) → cond t (Some (look seen m.block)) (find p (map (look seen) (share_blocks ms))) ≡ Some l → (l ≡ look seen l.number) × (has (m ∷ ms) l.number ≡ true)
  one_of m ms l more true e =
      let same : look seen m.block ≡ l = same_Some (look seen m.block) l e in
      subst (λ (l : Looked). (l ≡ look seen l.number) × (has (m ∷ ms) l.number ≡ true)) same (refl, ap (λ t. t || has ms m.block) (same_is m.block))
  one_of m ms l more false e =
      let r = more e in
      (r.0, ap (λ t. (m.block == l.number) || t) r.1 ∙ or-true (m.block == l.number))

  pub found_one : (share : List Member) (l : Looked) → find p (map (look seen) (share_blocks share)) ≡ Some l → (l ≡ look seen l.number) × (has share l.number ≡ true)
  found_one [] l e = absurd (none-some l e)
  found_one (m ∷ ms) l e = one_of m ms l (λ q. found_one ms l q) (p (look seen m.block)) e

pub number_found : (o : Option Looked) (n : ℕ) → Some n ≡ option_map (λ (l : Looked). l.number) o → (l : Looked) × (o ≡ Some l) × (l.number ≡ n)
number_found None n e = absurd (none-some n (sym e))
number_found (Some l) n e = (l, refl, sym (same_Some n l.number e))

pub no_number_found : (o : Option Looked) → None ≡ option_map (λ (l : Looked). l.number) o → o ≡ None
no_number_found None e = refl
no_number_found (Some l) e = absurd (none-some l.number e)

-- the first that can run, by its number
pub first_is : (c : ℕ) (k : Core) (seen : ℕ → Option Block) → AreInHand c k seen → (o : Option BlockNo) (b : BlockNo) → o ≡ Some b → option_map (λ (n : BlockNo). n.0) o ≡ option_map (λ (l : Looked). l.number) (first_runnable k (looked_in seen k.share)) →
    (has k.share b.0 ≡ true) × (first_runnable k (looked_in seen k.share) ≡ Some (look seen b.0))
first_is c k seen hand o b e h =
    let l = number_found (first_runnable k (looked_in seen k.share)) b.0 (sym (number_at o b _ e h)) in
    let f = found_one seen (is_runnable k.clock) k.share l.0 l.1 in
    (subst (λ n. has k.share n ≡ true) l.2 f.1, l.1 ∙ ap (λ (x : Looked). Some x) (f.0 ∙ ap (look seen) l.2))

pub hand_of : (c : ℕ) (k : Core) (seen : ℕ → Option Block) → AreInHand c k seen → (b : ℕ) → has k.share b ≡ true → (x : Block) → seen b ≡ Some x → IsInHand c k.clock x
hand_of c k seen hand b listed x e =
    let h = hand b listed in
    subst (IsInHand c k.clock) (same_Some h.0 x (sym h.1 ∙ e)) h.2
