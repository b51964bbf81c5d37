-- What a core's hand holds, and what it does not.
use Rattle.std.proofs.Common.{◌≡◌, ℕ, ◌<◌, true, false, true≢false, List, [], ◌∷◌, ◌||◌, ◌==◌, Some, refl, sym, ap, ◌∙◌, subst, inl, inr, map, eq-eqb, eqb-true}
use Rattle.std.proofs.Common.{Bool}
use Rattle.std.specs.Prelude.{⊤, slice_get}
use Rattle.std.specs.Option.{option_map}
use Rattle.std.proofs.Math.Bool.{or-true}
use Rattle.std.proofs.lemmas.Option.{slice_get_within}
use Rattle.dc_base.specs.Changes.{Name, a_core, a_block, the_script, core, block, script}
use Rattle.dc_base.specs.Histories.{Listed}
use Rattle.dc_base.specs.Outcomes.{share_blocks}
use Rattle.dc_base.specs.Outcomes.{has as in_share}
use Rattle.dc_base.specs.States.{Member, Block}
use Rattle.dc_touch.specs.Within.{Within}
use Rattle.dc_stage.specs.Numbers.{has}
use Rattle.dc_hands.specs.declared.hands.CoreHand.{CoreHand}
use Rattle.dc_hands.specs.declared.hands.ScriptHand.{ScriptHand}
use Rattle.dc_hands.specs.Machines.{Staged, Passing, IsOpened, state_after, number_of}
use Rattle.dc_hands.specs.Holding.{Has}
use Rattle.dc_hands.specs.Hands.{objects_of, HoldsCore, HoldsScript}
use Rattle.dc_hands.proofs.HeldNames.{AreWithin, just_held, not_held}
use Rattle.dc_hands.proofs.Sounding.{sized_after}

-- the object is not one of a core with this share
abbrev pub IsBeyond : ℕ → List Member → Name → Type 0
IsBeyond c share (a_core d) = d ≡ c → ⊥
IsBeyond c share (a_block b) = in_share share b ≡ false
IsBeyond c share n = ⊤

listed_by : (m : Member) (share : List Member) (b : ℕ) (t : Bool) → (m.block == b) ≡ t → (in_share share b ≡ true → Listed (a_block b) (map a_block (share_blocks share)))
    → (t || in_share share b) ≡ true → Listed (a_block b) (map a_block (share_blocks (m ∷ share)))
listed_by m share b true e more h = inl (sym (ap a_block (eqb-true m.block b e)))
listed_by m share b false e more h = inr (more h)

-- a block of the share is listed
pub block_listed : (share : List Member) (b : ℕ) → in_share share b ≡ true → Listed (a_block b) (map a_block (share_blocks share))
block_listed [] b h = absurd (true≢false (sym h))
block_listed (m ∷ share) b h = listed_by m share b (m.block == b) refl (block_listed share b) h

-- what is listed of a share is a block of it
pub listed_block : (n : Name) (share : List Member) → Listed n (map a_block (share_blocks share)) → (b : ℕ) × (n ≡ a_block b) × (in_share share b ≡ true)
listed_block n [] l = absurd l
listed_block n (m ∷ share) (inl e) = (m.block, e, ap (λ t. t || in_share share m.block) (eq-eqb m.block m.block refl))
listed_block n (m ∷ share) (inr l) = let r = listed_block n share l in (r.0, r.1, ap (λ t. (m.block == r.0) || t) r.2 ∙ or-true (m.block == r.0))

-- the objects of a core are the core and the blocks of its share
pub listed_of : (c : ℕ) (share : List Member) (P : Name → Type 0) → P (a_core c) → ((b : ℕ) → in_share share b ≡ true → P (a_block b))
    → (n : Name) → Listed n (objects_of c share) → P n
listed_of c share P first rest n (inl e) = subst P (sym e) first
listed_of c share P first rest n (inr l) = let r = listed_block n share l in subst P (sym r.1) (rest r.0 r.2)

beyond_unlisted : (c : ℕ) (share : List Member) (n : Name) → IsBeyond c share n → Listed n (objects_of c share) → ⊥
beyond_unlisted c share n far l =
    listed_of c share (λ m. IsBeyond c share m → ⊥) (λ f. f refl) (λ b h f. true≢false (sym h ∙ f)) n l far

module _ {D : Type 0} (st : Staged D) (opened : IsOpened st) (k : Passing D) where
  core_within : (c : ℕ) (x : _) → slice_get (state_after st k.seen).cores c ≡ Some x → Within st.scene.settings (a_core c)
  core_within c x e = subst (λ n. c < n) (sized_after st opened k.seen).cores (slice_get_within (state_after st k.seen).cores c x e)

  block_within : (b : ℕ) (x : _) → slice_get (state_after st k.seen).blocks b ≡ Some x → Within st.scene.settings (a_block b)
  block_within b x e = subst (λ n. b < n) (sized_after st opened k.seen).blocks (slice_get_within (state_after st k.seen).blocks b x e)

  module _ (h : CoreHand D) (holds : HoldsCore st k h) where
    -- each object of the hand is one of the machine
    pub hand_within : AreWithin st (objects_of h.number.0 h.core.share)
    hand_within n l = listed_of h.number.0 h.core.share (Within st.scene.settings) (core_within h.number.0 h.core holds.core)
        (λ b i. let x = holds.blocks b i in block_within b x.0 x.2) n l

    -- the core is held
    pub holds_core : Has st k (a_core h.number.0) (core h.core)
    holds_core = record {
      within = core_within h.number.0 h.core holds.core;
      held = just_held st k (a_core h.number.0) (objects_of h.number.0 h.core.share) holds.holds (inl refl);
      stands = ap (option_map core) holds.core;
    }

    -- a block of the share is held
    pub holds_block : (b : ℕ) (x : Block) → in_share h.core.share b ≡ true → slice_get (state_after st k.seen).blocks b ≡ Some x → Has st k (a_block b) (block x)
    holds_block b x i e = record {
      within = block_within b x e;
      held = just_held st k (a_block b) (objects_of h.number.0 h.core.share) holds.holds (inr (block_listed h.core.share b i));
      stands = ap (option_map block) e;
    }

    -- what is not of the core is not held
    pub none_beyond : (n : Name) → Within st.scene.settings n → IsBeyond h.number.0 h.core.share n → has (number_of st n) k.holds ≡ false
    none_beyond n w far = not_held st k n (objects_of h.number.0 h.core.share) holds.holds w hand_within (beyond_unlisted h.number.0 h.core.share n far)

  module _ (h : ScriptHand) (holds : HoldsScript st k h) where
    -- the script is held
    pub holds_script : Has st k the_script (script h.script)
    holds_script = record {
      within = tt;
      held = just_held st k the_script (the_script ∷ []) holds.holds (inl refl);
      stands = ap (λ t. Some (script t)) holds.script;
    }

    -- nothing but the script is held
    pub none_beside : (n : Name) → Within st.scene.settings n → (n ≡ the_script → ⊥) → has (number_of st n) k.holds ≡ false
    none_beside n w ne = not_held st k n (the_script ∷ []) holds.holds w (λ m l. script_within m l) out
      where
        script_within : (m : Name) → Listed m (the_script ∷ []) → Within st.scene.settings m
        script_within m (inl e) = subst (Within st.scene.settings) (sym e) tt
        script_within m (inr l) = absurd l

        out : Listed n (the_script ∷ []) → ⊥
        out (inl e) = ne e
        out (inr l) = l
