-- A core and the blocks of a row are held: how blocks come into the row, and go back.
use Rattle.std.proofs.Common.{◌≡◌, ℕ, ◌+◌, ◌<◌, ◌≤◌, true, false, true≢false, List, [], ◌∷◌, ◌++◌, Option, Some, None, refl, sym, ap, ◌∙◌, subst, inl, inr}
use Rattle.std.proofs.Common.{length, map, arith}
use Rattle.std.specs.Prelude.{slice_get}
use Rattle.std.specs.Option.{option_map}
use Rattle.std.proofs.lemmas.Bool.{cases_Bool}
use Rattle.std.proofs.lemmas.List.{map-append, length-map}
use Rattle.std.proofs.lemmas.Option.{none-some, same_Some, slice_get_cases, slice_get_within}
use mathlib.Core.Logic.{dite}
use native.Mathlib.Decide.{ℕ_discrete}
use Rattle.dc_base.specs.declared.numbers.BlockNo.{BlockNo}
use Rattle.dc_base.specs.Changes.{Name, a_core, a_block, the_script, core, block}
use Rattle.dc_base.specs.Histories.{Listed}
use Rattle.dc_base.specs.Outcomes.{share_blocks}
use Rattle.dc_base.specs.Outcomes.{has as in_share}
use Rattle.dc_base.specs.Placed.{count_in}
use Rattle.dc_base.specs.States.{Core, Block}
use Rattle.dc_base.specs.Sound.{IsSound}
use Rattle.dc_touch.specs.Within.{Within}
use Rattle.dc_stage.specs.Numbers.{has}
use Rattle.dc_stage.specs.Passes.{having_put}
use Rattle.dc_stage.proofs.Numbers.{has_head}
use Rattle.dc_hands.specs.declared.hands.CoreHand.{CoreHand}
use Rattle.dc_hands.specs.declared.hands.ScriptHand.{ScriptHand}
use Rattle.dc_hands.specs.Machines.{Staged, Passing, IsOpened, IsLawfulHere, state_after, number_of}
use Rattle.dc_hands.specs.declared.takes.Busy.{Busy}
use Rattle.dc_hands.specs.Holding.{Has, Gets, Misses}
use Rattle.dc_hands.specs.Hands.{objects_of, HoldsJust, HoldsCore, HoldsScript}
use Rattle.dc_hands.specs.Rows.{Rowed, place_in, in_row, with_last, no_row, IsRow}
use Rattle.dc_hands.specs.Gathering.{row_blocks, HoldsRow, HoldsFirst}
use Rattle.dc_hands.proofs.Seeing.{goes_taken, has_taken, has_beside, has_left, has_missed}
use Rattle.dc_hands.proofs.Sounding.{sized_after, sound_after}
use Rattle.dc_hands.proofs.HeldNames.{AreWithin, just_alike, just_last, just_first, just_taken, just_missed, just_back, not_held, other_number}
use Rattle.dc_hands.proofs.HeldHands.{block_listed, listed_of, holds_core, holds_block}
use Rattle.dc_hands.proofs.Rowing.{placed_none, some_placed, longer_here, longer_others}
use Rattle.dc_hands.proofs.ShareRows.{take_grown, take_few, take_whole, at_in_share, not_before, share_placed, other_placed, placed_listed, listed_placed, longer_numbers}

-- a core that stands at its name is there
pub core_there : (o : Option Core) (k : Core) → option_map core o ≡ Some (core k) → o ≡ Some k
core_there None k e = absurd cc
core_there (Some x) k e = let same : x ≡ k = cc in ap Some same

pub block_there : (o : Option Block) (x : Block) → option_map block o ≡ Some (block x) → o ≡ Some x
block_there None x e = absurd cc
block_there (Some y) x e = let same : y ≡ x = cc in ap Some same

-- nothing is held where no number is
pub none_held : (xs : List ℕ) → ((i : ℕ) → has i xs ≡ false) → xs ≡ []
none_held [] h = refl
none_held (x ∷ xs) h = absurd (let bad = h x in true≢false (sym (head_has x xs) ∙ bad))
  where
    head_has : (x : ℕ) (xs : List ℕ) → has x (x ∷ xs) ≡ true
    head_has x xs = has_head x x xs refl

-- a row whose block has a place has a block there
pub placed_some : (r : Rowed) → IsRow r → (b : ℕ) → place_in r.numbers b < length r.numbers → (x : Block) × (in_row r b ≡ Some x)
placed_some r ok b near = elim (slice_get_cases r.blocks (place_in r.numbers b)).1 [
  | inl found ↦ (found.0, found.2)
  | inr past ↦ absurd (let far = past.0 in let each = ok.each in omega (arith, far, near, each))
]

module _ {D : Type 0} (st : Staged D) where
  -- the names of a row with one block more
  names_longer : (c : ℕ) (r : Rowed) (b : BlockNo) (x : Block)
      → (a_core c ∷ map a_block (row_blocks r)) ++ a_block b.0 ∷ [] ≡ a_core c ∷ map a_block (row_blocks (with_last r b x))
  names_longer c r b x = ap (λ ns. a_core c ∷ ns) (sym (ap (map a_block) (longer_numbers r b x) ∙ map-append a_block (row_blocks r) (b.0 ∷ [])))

  -- the core alone is held
  pub row_begun : (k l : Passing D) (h : CoreHand D) → k.holds ≡ [] → k.actor ≡ h.number.0 → Within st.scene.settings (a_core h.number.0)
      → Gets st k l (a_core h.number.0) (core h.core) → h.row ≡ no_row → HoldsFirst st l h 0
  row_begun k l h free actor within g empty = record {
    row = record {
      actor = (goes_taken st k l (a_core h.number.0) (core h.core) g).actor ∙ actor;
      lawful = g.lawful;
      core = has_taken st k l (a_core h.number.0) (core h.core) g within;
      blocks = λ b x e. absurd (none-some x (ap (λ (r : Rowed). in_row r b) (sym empty) ∙ e));
      holds = subst (λ (r : Rowed). HoldsJust st l (a_core h.number.0 ∷ map a_block (row_blocks r))) (sym empty)
          (just_taken st k l (a_core h.number.0) (core h.core) [] (λ i. ap (has i) free) g);
    };
    taken = ap row_blocks empty;
  }

  module _ (k : Passing D) (h : CoreHand D) (held : HoldsRow st k h) (ok : IsRow h.row) where
    -- each object that is held is one of the machine
    row_within : AreWithin st (a_core h.number.0 ∷ map a_block (row_blocks h.row))
    row_within n (inl e) = subst (Within st.scene.settings) (sym e) held.core.within
    row_within n (inr l) =
        let p = listed_placed h.row.numbers n l in
        let x = placed_some h.row ok p.0 p.2 in
        subst (Within st.scene.settings) (sym p.1) (held.blocks p.0 x.0 x.1).within

    -- a block that is not in the row is not listed
    row_unlisted : (b : ℕ) → in_row h.row b ≡ None → Listed (a_block b) (a_core h.number.0 ∷ map a_block (row_blocks h.row)) → ⊥
    row_unlisted b none (inl e) = cc
    row_unlisted b none (inr l) =
        let p = listed_placed h.row.numbers (a_block b) l in
        let same : b ≡ p.0 = (let e = p.1 in cc) in
        let x = placed_some h.row ok p.0 p.2 in
        none-some x.0 (sym none ∙ (ap (in_row h.row) same ∙ x.1))

    -- a block that is not in the row is not held
    pub row_free : (b : ℕ) → Within st.scene.settings (a_block b) → in_row h.row b ≡ None → has (number_of st (a_block b)) k.holds ≡ false
    row_free b w none = not_held st k (a_block b) (a_core h.number.0 ∷ map a_block (row_blocks h.row)) held.holds w row_within (row_unlisted b none)

    module _ (opened : IsOpened st) where
      -- the machine is sound, and the core stands in it
      pub row_sound : IsSound (state_after st k.seen)
      row_sound = sound_after st opened k.seen held.lawful

      pub row_core : slice_get (state_after st k.seen).cores h.number.0 ≡ Some h.core
      row_core = core_there (slice_get (state_after st k.seen).cores h.number.0) h.core held.core.stands

      -- a block of the share is one of the machine
      pub shared_within : (i b : ℕ) → slice_get (share_blocks h.core.share) i ≡ Some b → Within st.scene.settings (a_block b)
      shared_within i b e =
          let x = row_sound.placed.only h.number.0 h.core row_core b (at_in_share h.core.share i b e) in
          subst (λ n. b < n) (sized_after st opened k.seen).blocks (slice_get_within (state_after st k.seen).blocks b x.0 x.1)

      pub shared_once : (b : ℕ) → count_in h.core.share b ≤ 1
      shared_once b = (row_sound.shares h.number.0 h.core row_core).once b

  -- a block goes from the row
  module _ (k : Passing D) (h : CoreHand D) (held : HoldsRow st k h) (r : Rowed) (b : BlockNo) (x : Block) (rest : IsRow r) (is : h.row ≡ with_last r b x)
      (gone : in_row r b.0 ≡ None) where
    pub last_held : Has st k (a_block b.0) (block x)
    last_held = held.blocks b.0 x (ap (λ (q : Rowed). in_row q b.0) is ∙ longer_here r rest b x gone)

    module _ (l : Passing D) (g : CoreHand D) (put : l ≡ having_put k (number_of st (a_block b.0))) (next : g ≡ record h { row = r }) where
      not_it : (n : ℕ) (y : Block) → in_row r n ≡ Some y → n ≡ b.0 → ⊥
      not_it n y e q = none-some y (sym gone ∙ (ap (in_row r) (sym q) ∙ e))

      core_left : Has st l (a_core h.number.0) (core h.core)
      core_left = has_left st k l (a_block b.0) (a_core h.number.0) (core h.core) put
          (other_number st (a_core h.number.0) (a_block b.0) held.core.within last_held.within (λ e. cc)) held.core

      block_left : (n : ℕ) (y : Block) → in_row r n ≡ Some y → Has st l (a_block n) (block y)
      block_left n y e =
          let ne = not_it n y e in
          let was = held.blocks n y (ap (λ (q : Rowed). in_row q n) is ∙ (longer_others r rest b x gone n ne ∙ e)) in
          has_left st k l (a_block b.0) (a_block n) (block y) put
          (other_number st (a_block n) (a_block b.0) was.within last_held.within (λ q. ne (let f = q in cc))) was

      names_left : HoldsJust st l (a_core h.number.0 ∷ map a_block (row_blocks r))
      names_left =
          let all : HoldsJust st k ((a_core h.number.0 ∷ map a_block (row_blocks r)) ++ a_block b.0 ∷ []) =
          subst (HoldsJust st k) (sym (names_longer h.number.0 r b x))
          (subst (λ (q : Rowed). HoldsJust st k (a_core h.number.0 ∷ map a_block (row_blocks q))) is held.holds) in
          just_back st k l (a_block b.0) (a_core h.number.0 ∷ map a_block (row_blocks r)) (just_first st k (a_block b.0) (a_core h.number.0 ∷ map a_block (row_blocks r)) all) last_held.within fewer out put
        where
          fewer : AreWithin st (a_core h.number.0 ∷ map a_block (row_blocks r))
          fewer n (inl e) = subst (Within st.scene.settings) (sym e) held.core.within
          fewer n (inr q) =
              let p = listed_placed r.numbers n q in
              let y = placed_some r rest p.0 p.2 in
              subst (Within st.scene.settings) (sym p.1) (block_left p.0 y.0 y.1).within

          out : Listed (a_block b.0) (a_core h.number.0 ∷ map a_block (row_blocks r)) → ⊥
          out (inl e) = cc
          out (inr q) =
              let p = listed_placed r.numbers (a_block b.0) q in
              let y = placed_some r rest p.0 p.2 in
              not_it p.0 y.0 y.1 (let e = p.1 in cc)

      pub row_shrunk : HoldsRow st l g
      row_shrunk = subst (HoldsRow st l) (sym next) (record {
        actor = ap (λ (q : Passing D). q.actor) put ∙ held.actor;
        lawful = subst (λ (q : Passing D). IsLawfulHere st q.seen) (sym put) held.lawful;
        core = core_left;
        blocks = block_left;
        holds = names_left;
      })

  -- a block joins the row
  module _ (k l : Passing D) (h g : CoreHand D) (i : ℕ) (b : BlockNo) (x : Block) (held : HoldsFirst st k h i) (ok : IsRow h.row)
      (at_i : slice_get (share_blocks h.core.share) i ≡ Some b.0) (gets : Gets st k l (a_block b.0) (block x)) (within : Within st.scene.settings (a_block b.0))
      (apart : in_row h.row b.0 ≡ None) (next : g ≡ record h { row = with_last h.row b x }) where
    joined_blocks : (n : ℕ) (y : Block) → in_row (with_last h.row b x) n ≡ Some y → Has st l (a_block n) (block y)
    joined_blocks n y e = dite (ℕ_discrete n b.0)
        (λ q.
        let same : x ≡ y = same_Some x y (sym (longer_here h.row ok b x apart) ∙ (ap (in_row (with_last h.row b x)) (sym q) ∙ e)) in
        subst (λ (m : ℕ). Has st l (a_block m) (block y)) (sym q)
        (subst (λ (z : Block). Has st l (a_block b.0) (block z)) same (has_taken st k l (a_block b.0) (block x) gets within)))
        (λ q. has_beside st k l (a_block b.0) (a_block n) (block x) (block y) gets (held.row.blocks n y (sym (longer_others h.row ok b x apart n q) ∙ e)))

    pub row_grown : HoldsFirst st l g (i + 1)
    row_grown = subst (λ (m : CoreHand D). HoldsFirst st l m (i + 1)) (sym next) (record {
      row = record {
        actor = (goes_taken st k l (a_block b.0) (block x) gets).actor ∙ held.row.actor;
        lawful = gets.lawful;
        core = has_beside st k l (a_block b.0) (a_core h.number.0) (block x) (core h.core) gets held.row.core;
        blocks = joined_blocks;
        holds = subst (HoldsJust st l) (names_longer h.number.0 h.row b x)
            (just_last st l (a_block b.0) (a_core h.number.0 ∷ map a_block (row_blocks h.row))
            (just_taken st k l (a_block b.0) (block x) (a_core h.number.0 ∷ map a_block (row_blocks h.row)) held.row.holds gets));
      };
      taken = longer_numbers h.row b x ∙ (ap (λ ns. ns ++ b.0 ∷ []) held.taken ∙ sym (take_grown (share_blocks h.core.share) i b.0 at_i));
    })

  -- a refused take leaves what is held
  pub row_missed : (k l : Passing D) (h : CoreHand D) (n : Name) (b : Busy) → HoldsRow st k h → Misses st k l n b → HoldsRow st l h
  row_missed k l h n b held m = record {
    actor = ap (λ (p : Passing D). p.actor) m.same ∙ held.actor;
    lawful = subst (λ (p : Passing D). IsLawfulHere st p.seen) (sym m.same) held.lawful;
    core = has_missed st k l n (a_core h.number.0) b (core h.core) m held.core;
    blocks = λ j x e. has_missed st k l n (a_block j) b (block x) m (held.blocks j x e);
    holds = just_missed st k l n b (a_core h.number.0 ∷ map a_block (row_blocks h.row)) held.holds m;
  }

  -- the next block of the share is not in the row
  pub next_apart : (k : Passing D) (h : CoreHand D) (i b : ℕ) → HoldsFirst st k h i → IsRow h.row → slice_get (share_blocks h.core.share) i ≡ Some b
      → count_in h.core.share b ≤ 1 → in_row h.row b ≡ None
  next_apart k h i b held ok at_i once = placed_none h.row ok b (not_before h.core.share i b h.row.numbers at_i once held.taken)

  -- the row has no more blocks than were taken
  pub few_taken : (k : Passing D) (h : CoreHand D) (i : ℕ) → HoldsFirst st k h i → length h.row.numbers ≤ i
  few_taken k h i held =
      let long : length (row_blocks h.row) ≡ length h.row.numbers = length-map h.row.numbers _ in
      let same = ap length held.taken in
      let few = take_few (share_blocks h.core.share) i in
      omega (arith, long, same, few)

  -- no place of the share is left
  pub all_taken : (k : Passing D) (h : CoreHand D) (i : ℕ) → HoldsFirst st k h i → length h.core.share ≤ i → HoldsFirst st k h (length h.core.share)
  all_taken k h i held far =
      let long : length (share_blocks h.core.share) ≡ length h.core.share = length-map h.core.share _ in
      record {
        row = held.row;
        taken = held.taken ∙ (take_whole (share_blocks h.core.share) i (omega (arith, long, far))
            ∙ sym (take_whole (share_blocks h.core.share) (length h.core.share) (omega (arith, long))));
      }

  -- all blocks of the share are in the row
  pub hand_full : (k : Passing D) (h : CoreHand D) → HoldsFirst st k h (length h.core.share) → IsRow h.row → HoldsCore st k h
  hand_full k h held ok =
      let long : length (share_blocks h.core.share) ≡ length h.core.share = length-map h.core.share _ in
      let all : row_blocks h.row ≡ share_blocks h.core.share =
      held.taken ∙ take_whole (share_blocks h.core.share) (length h.core.share) (omega (arith, long)) in
      record {
        actor = held.row.actor;
        lawful = held.row.lawful;
        core = core_there (slice_get (state_after st k.seen).cores h.number.0) h.core held.row.core.stands;
        blocks = λ b i.
            let x = placed_some h.row ok b (share_placed h.core.share b h.row.numbers all i) in
            (x.0, x.1, block_there (slice_get (state_after st k.seen).blocks b) x.0 (held.row.blocks b x.0 x.1).stands);
        others = λ b o. placed_none h.row ok b (other_placed h.core.share b h.row.numbers all o);
        holds = subst (λ ns. HoldsJust st k (a_core h.number.0 ∷ map a_block ns)) all held.row.holds;
      }

  module _ (opened : IsOpened st) (k : Passing D) (h : CoreHand D) (holds : HoldsCore st k h) (ok : IsRow h.row) where
    in_share_of : (b : ℕ) (x : Block) → in_row h.row b ≡ Some x → in_share h.core.share b ≡ true
    in_share_of b x e = elim (cases_Bool (in_share h.core.share b)) [
      | inl here ↦ here
      | inr gone ↦ absurd (none-some x (sym (holds.others b gone) ∙ e))
    ]

    of_row : (b : ℕ) (x : Block) → in_row h.row b ≡ Some x → Has st k (a_block b) (block x)
    of_row b x e =
        let i = in_share_of b x e in
        let y = holds.blocks b i in
        let same : y.0 ≡ x = same_Some y.0 x (sym y.1 ∙ e) in
        subst (λ (z : Block). Has st k (a_block b) (block z)) same (holds_block st opened k h holds b y.0 i y.2)

    to_row : (n : Name) → Listed n (objects_of h.number.0 h.core.share) → Listed n (a_core h.number.0 ∷ map a_block (row_blocks h.row))
    to_row n l = listed_of h.number.0 h.core.share (λ m. Listed m (a_core h.number.0 ∷ map a_block (row_blocks h.row))) (inl refl)
        (λ b i. let y = holds.blocks b i in inr (placed_listed h.row.numbers b (some_placed h.row ok b y.0 y.1))) n l

    from_row : (n : Name) → Listed n (a_core h.number.0 ∷ map a_block (row_blocks h.row)) → Listed n (objects_of h.number.0 h.core.share)
    from_row n (inl e) = inl e
    from_row n (inr l) =
        let p = listed_placed h.row.numbers n l in
        let x = placed_some h.row ok p.0 p.2 in
        inr (subst (λ (m : Name). Listed m (map a_block (share_blocks h.core.share))) (sym p.1) (block_listed h.core.share p.0 (in_share_of p.0 x.0 x.1)))

    -- a hand holds the core and the blocks of its row
    pub row_of_hand : HoldsRow st k h
    row_of_hand = record {
      actor = holds.actor;
      lawful = holds.lawful;
      core = holds_core st opened k h holds;
      blocks = of_row;
      holds = just_alike st k (objects_of h.number.0 h.core.share) (a_core h.number.0 ∷ map a_block (row_blocks h.row)) to_row from_row holds.holds;
    }

  -- with the core put back too, nothing is held
  pub none_left : (k l : Passing D) (h : CoreHand D) → HoldsRow st k h → h.row ≡ no_row → l ≡ having_put k (number_of st (a_core h.number.0)) → l.holds ≡ []
  none_left k l h held empty put =
      let one : HoldsJust st k (a_core h.number.0 ∷ []) =
      subst (λ (r : Rowed). HoldsJust st k (a_core h.number.0 ∷ map a_block (row_blocks r))) empty held.holds in
      none_held l.holds (just_back st k l (a_core h.number.0) [] one held.core.within (λ n q. absurd q) (λ q. q) put)

  -- with the script put back, nothing is held
  pub script_left : (k l : Passing D) (h : ScriptHand) → HoldsScript st k h → l ≡ having_put k (number_of st the_script) → l.holds ≡ []
  script_left k l h held put = none_held l.holds (just_back st k l the_script [] held.holds tt (λ n q. absurd q) (λ q. q) put)
