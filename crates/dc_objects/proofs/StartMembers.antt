-- The share of a core at the start, block by block.
use Rattle.std.proofs.Common.{◌≡◌, ℕ, ◌+◌, ◌<◌, ◌≤◌, List, [], ◌∷◌, ◌++◌, Bool, true, false, Option, Some, None, refl, sym, ap, ◌∙◌, length, drop, get_or, slice_get, arith}
use Rattle.std.specs.Prelude.{if◌then◌else◌}
use Rattle.std.specs.Option.{option_map}
use Rattle.std.proofs.lemmas.Bool.{eqb-true}
use Rattle.std.proofs.lemmas.List.{drop_more}
use Rattle.std.proofs.lemmas.Option.{slice_get-get_or}
use Rattle.dc_base.specs.declared.images.BlockImage.{BlockImage}
use Rattle.dc_base.specs.declared.numbers.CoreNo.{CoreNo}
use Rattle.dc_base.specs.Valid.{HomesDiffer}
use Rattle.dc_base.specs.Words.{is_number}
use Rattle.dc_base.specs.States.{Member, home_members_from}
use Rattle.dc_objects.specs.Starts.{is_home_of}

append_one : {X : Type 0} (xs ys : List X) (x : X) → (xs ++ x ∷ []) ++ ys ≡ xs ++ x ∷ ys
append_one [] ys x = refl
append_one (z ∷ xs) ys x = ap (λ zs. z ∷ zs) (append_one xs ys x)

abbrev members_if : ℕ → List BlockImage → ℕ → Bool → List Member
members_if c bs i t = if t then record { block = i; parked = false } ∷ home_members_from c (i + 1) (drop (i + 1) bs) else home_members_from c (i + 1) (drop (i + 1) bs)

member_here : (c : ℕ) (bs : List BlockImage) (i : ℕ) (d : BlockImage) → i < length bs → is_home_of c (get_or bs i d) ≡ true → home_members_from c i (drop i bs) ≡ record { block = i; parked = false } ∷ home_members_from c (i + 1) (drop (i + 1) bs)
member_here c bs i d h e = ap (λ xs. home_members_from c i xs) (drop_more bs i d h) ∙ ap (members_if c bs i) e

member_later : (c : ℕ) (bs : List BlockImage) (i : ℕ) (d : BlockImage) → i < length bs → is_home_of c (get_or bs i d) ≡ false → home_members_from c i (drop i bs) ≡ home_members_from c (i + 1) (drop (i + 1) bs)
member_later c bs i d h e = ap (λ xs. home_members_from c i xs) (drop_more bs i d h) ∙ ap (members_if c bs i) e

abbrev some_core : ℕ → Option CoreNo
some_core n = Some (record { 0 = n })

home_known : (c : CoreNo) (home : Option CoreNo) → is_number c.0 (option_map (λ (h : CoreNo). h.0) home) ≡ true → home ≡ Some c
home_known c None e = absurd (cc)
home_known c (Some h) e = ap some_core (eqb-true h.0 c.0 e)

-- the home blocks before a place, those from it on, and none before it where one comes
pub record AreMembers (c : CoreNo) (blocks : List BlockImage) (at : ℕ) (share : List Member) : Type 0 where
  pub told : share ++ home_members_from c.0 at (drop at blocks) ≡ home_members_from c.0 0 blocks
  pub awaits : (k : ℕ) (x : BlockImage) → at ≤ k → slice_get blocks k ≡ Some x → is_home_of c.0 x ≡ true → share ≡ []

pub one_member_more : (c : CoreNo) (blocks : List BlockImage) (at : ℕ) (share : List Member) (d : BlockImage) → HomesDiffer blocks → at < length blocks → is_home_of c.0 (get_or blocks at d) ≡ true →
    AreMembers c blocks at share → AreMembers c blocks (at + 1) (share ++ record { block = at; parked = false } ∷ [])
one_member_more c blocks at share d differ h e a = record {
  told = append_one share (home_members_from c.0 (at + 1) (drop (at + 1) blocks)) (record { block = at; parked = false }) ∙ sym (ap (λ ms. share ++ ms) (member_here c.0 blocks at d h e)) ∙ a.told;
  awaits = λ k x below g f.
      let same : at ≡ k = differ at k (get_or blocks at d) x c (slice_get-get_or blocks at d h) g (home_known c (get_or blocks at d).home e) (home_known c x.home f) in
      absurd (omega arith);
}

pub no_member_more : (c : CoreNo) (blocks : List BlockImage) (at : ℕ) (share : List Member) (d : BlockImage) → at < length blocks → is_home_of c.0 (get_or blocks at d) ≡ false →
    AreMembers c blocks at share → AreMembers c blocks (at + 1) share
no_member_more c blocks at share d h e a = record {
  told = ap (λ ms. share ++ ms) (sym (member_later c.0 blocks at d h e)) ∙ a.told;
  awaits = λ k x below g f. a.awaits k x (omega arith) g f;
}
