-- The sentences on who holds which block.
use Rattle.std.proofs.Common.{◌≡◌, ℕ, ◌+◌, ◌<◌, List, [], ◌∷◌, ◌++◌, Bool, true, false, Option, Some, None, refl, sym, ap, ◌∙◌, subst, arith, length}
use Rattle.std.specs.Prelude.{◌==◌, ◌&&◌, not, filter, map, if◌then◌else◌}
use Rattle.std.specs.Option.{option_map, option_map_or}
use Rattle.std.proofs.lemmas.Bool.Decides.{nat_tests}
use Rattle.std.proofs.lemmas.List.Filters.{length-filter_both}
use Rattle.std.proofs.lemmas.List.{length-map}
use Rattle.dc_base.specs.declared.images.Image.{Image}
use Rattle.dc_base.specs.declared.images.BlockImage.{BlockImage}
use Rattle.dc_base.specs.declared.numbers.CoreNo.{CoreNo}
use Rattle.dc_base.specs.declared.kernels.Clocks.{Clocks}
use Rattle.dc_base.specs.declared.commands.ScriptLine.{ScriptLine}
use Rattle.dc_base.specs.declared.entries.Entry.{Entry}
use Rattle.dc_base.specs.declared.entries.What.{What}
use Rattle.dc_base.specs.declared.entries.What.TheVariants as what
use Rattle.dc_base.specs.Outcomes.{by_core}
use Rattle.dc_base.specs.Holders.{homes_from, held_start, held_after, held_after_core, held_by, held, holds, holds_for, holds_for_by, is_free, held_once, adopted_at, well_held}
use Rattle.dc_base.specs.StrikeOut.{clock_told, told_start, told_after}
use Rattle.dc_base.specs.Columns.{columns_agree}
use Rattle.dc_base.specs.Answers.{from_on}
use Rattle.dc_base.specs.Runs.{terms_of, Seen, seen_start, entry_holds, run, run_of, block_clock}
use Rattle.dc_base.proofs.RunLaws.{Comes}
use Rattle.dc_journal_laws.specs.Clocks.{core_clock, block_time, ReleasedInTime, AdoptedInTime}
use Rattle.dc_journal_laws.specs.Holding.{HeldOnce, block_in, MadeByHolders, AdoptedFree, EndsPairs, StopsEnd}
use Rattle.dc_journal_laws.proofs.Tests.{both, numbers}
use Rattle.dc_journal_laws.proofs.Prefixes.{around, run_part, holds_after, holders_are, held-snoc, clock_is, time_is}

-- the homes from n on are of blocks from n on
homes-free_by : (k n : ℕ) (bs : List BlockImage) (home : Option CoreNo) → k < n → is_free (homes_from (n + 1) bs) k ≡ true →
    is_free (option_map_or (λ (c : CoreNo). (n, c.0) ∷ homes_from (n + 1) bs) home (homes_from (n + 1) bs)) k ≡ true
homes-free_by k n bs None h more = more
homes-free_by k n bs (Some c) h more = let other : (n == k) ≡ false = grind (arith, nat_tests) in rw other more

homes-free : (k n : ℕ) (bs : List BlockImage) → k < n → is_free (homes_from n bs) k ≡ true
homes-free k n [] h = refl
homes-free k n (b ∷ bs) h = homes-free_by k n bs b.home h (homes-free k (n + 1) bs (omega arith))

homes-once_by : (n : ℕ) (bs : List BlockImage) (home : Option CoreNo) → held_once (homes_from (n + 1) bs) ≡ true →
    held_once (option_map_or (λ (c : CoreNo). (n, c.0) ∷ homes_from (n + 1) bs) home (homes_from (n + 1) bs)) ≡ true
homes-once_by n bs None more = more
homes-once_by n bs (Some c) more = rw (homes-free n (n + 1) bs (omega arith)) more

-- each block has at most one home
homes-once : (n : ℕ) (bs : List BlockImage) → held_once (homes_from n bs) ≡ true
homes-once n [] = refl
homes-once n (b ∷ bs) = homes-once_by n bs b.home (homes-once (n + 1) bs)

-- the pairs of core c
abbrev is_of : ℕ → ℕ × ℕ → Bool
is_of c p = p.1 == c

abbrev is_other : ℕ → ℕ × ℕ → Bool
is_other c p = not (p.1 == c)

not_twice : (q : Bool) → q ≡ not (not q)
not_twice true = refl
not_twice false = refl

none-left_by : (c : ℕ) (p : ℕ × ℕ) (ps : List (ℕ × ℕ)) (q : Bool) → (p.1 == c) ≡ q → filter (is_of c) (filter (is_other c) ps) ≡ [] → filter (is_of c) (if not q then p ∷ filter (is_other c) ps else filter (is_other c) ps) ≡ []
none-left_by c p ps true e more = more
none-left_by c p ps false e more = rw e more

none-left : (c : ℕ) (ps : List (ℕ × ℕ)) → filter (is_of c) (filter (is_other c) ps) ≡ []
none-left c [] = refl
none-left c (p ∷ ps) = none-left_by c p ps (p.1 == c) refl (none-left c ps)

-- the pairs of a core end with it
ends_pairs : (c n : ℕ) (ps : List (ℕ × ℕ)) → n ≡ length (held_by c ps) → EndsPairs c n ps (filter (is_other c) ps)
ends_pairs c n ps shown = record {
  held = shown;
  ended =
      let parts = length-filter_both (is_other c) (is_of c) (λ p. not_twice (p.1 == c)) ps in
      let same : length (held_by c ps) ≡ length (filter (is_of c) ps) = length-map (filter (is_of c) ps) (λ (p : ℕ × ℕ). p.0) in
      omega (arith, parts, same, shown);
  none = ap (λ qs. map (λ (p : ℕ × ℕ). p.0) qs) (none-left c ps);
}

-- what an entry needs of the holders, by its kind
made_by : (kind : Clocks) (pairs : List (ℕ × ℕ)) (time : ℕ → ℕ) (clock c : ℕ) (w : What) (b : ℕ) → holds_for kind pairs time clock c w ≡ true → block_in w ≡ Some b → holds pairs c b ≡ true
unfolding holds_for
made_by kind pairs time clock c (what.Slice a d fired ran e k) b h same = let at : a.0 ≡ b = cc in subst (λ n. holds pairs c n ≡ true) at h
made_by kind pairs time clock c (what.SliceNone a fired k) b h same = let at : a.0 ≡ b = cc in subst (λ n. holds pairs c n ≡ true) at h
made_by kind pairs time clock c (what.Wake a d) b h same = let at : a.0 ≡ b = cc in subst (λ n. holds pairs c n ≡ true) at h
made_by kind pairs time clock c (what.Intake l n a s how) b h same = let at : a.0 ≡ b = cc in subst (λ n. holds pairs c n ≡ true) at h
made_by kind pairs time clock c (what.Release a x) b h same = let at : a.0 ≡ b = cc in subst (λ n. holds pairs c n ≡ true) at (both (holds pairs c a.0) (x == time a.0) h).0
made_by kind pairs time clock c w b h same = absurd cc

module _ (image : Image) (lines : List ScriptLine) where
  -- what an entry needs of the holders is so, after it no block has two, and its core is on where it must be
  pub record IsHeld (s : Seen) (e : Entry) : Type 0 where
    pub need : holds_for_by image.clocks s.told.holders (block_clock s.blocks) (clock_told s.told) e.actor e.what ≡ true
    pub once : held_once (held_after s.told.holders e) ≡ true
    pub on : from_on s.boot e ≡ true

  pub is_held : (s : Seen) (e : Entry) (n : Seen) → Comes (terms_of image) lines s e n → IsHeld s e
  unfolding entry_holds well_held
  is_held s e n comes =
      let need = holds_for_by image.clocks s.told.holders (block_clock s.blocks) (clock_told s.told) e.actor e.what in
      let once = held_once (held_after s.told.holders e) in
      let outer = both (columns_agree image.quantum s.told s.blocks e) ((need && once) && from_on s.boot e) comes.holds in
      let inner = both (need && once) (from_on s.boot e) outer.1 in
      let parts = both need once inner.0 in
      record { need = parts.0; once = parts.1; on = inner.1 }

  pub held_once-told : (before : List Entry) (s : Seen) → run image lines before ≡ Some s → held_once s.told.holders ≡ true
  unfolding seen_start told_start told_after held_start
  held_once-told = holds_after image lines (λ before s. held_once s.told.holders ≡ true) (homes-once 0 image.blocks)
      (λ before s e n r comes p. ap (λ t. held_once t.holders) comes.told ∙ (is_held s e n comes).once)

  -- what an entry of a core needs, by the journal before it
  record Needs (before : List Entry) (c : ℕ) (w : What) : Type 0 where
    time : ℕ → ℕ
    need : holds_for image.clocks (held image before) time (core_clock image before c) c w ≡ true
    clock : (b : ℕ) → block_time image before b ≡ Some (time b)

  needs : (journal before after : List Entry) (c : ℕ) (w : What) → run_of image lines journal ≡ true → journal ≡ before ++ by_core c w ∷ after → Needs before c w
  needs journal before after c w h same =
      let a = around image lines journal before after (by_core c w) h same in
      record {
        time = block_clock a.seen.blocks;
        need = rw (← holders_are image lines before a.seen a.run_to, ← clock_is image lines before a.seen a.run_to c) (is_held a.seen (by_core c w) a.next a.comes).need;
        clock = time_is image lines before a.seen a.run_to;
      }

  module _ (journal : List Entry) (h : run_of image lines journal ≡ true) where
    pub held_once-each : HeldOnce image lines journal
    held_once-each before after same =
        let part = run_part image lines journal before after h same in
        ap held_once (sym (holders_are image lines before part.0 part.1)) ∙ held_once-told before part.0 part.1

    pub made_by_holders : MadeByHolders image lines journal
    made_by_holders before after c w b same at =
        let n = needs journal before after c w h same in made_by image.clocks (held image before) n.time (core_clock image before c) c w b n.need at

    pub adopted_free : AdoptedFree image lines journal
    unfolding holds_for
    adopted_free before after c b parked time same =
        let n = needs journal before after c (what.Adopt b parked time) h same in
        (both (is_free (held image before) b.0) (time == adopted_at image.clocks (n.time b.0) (core_clock image before c)) n.need).0

    pub stops_end : StopsEnd image lines journal
    unfolding holds_for held_after held_after_core
    stops_end before after c n same =
        let need = needs journal before after c (what.Stop n) h same in
        subst (EndsPairs c n (held image before)) (sym (held-snoc image before (by_core c (what.Stop n)))) (ends_pairs c n (held image before) (numbers n (length (held_by c (held image before))) need.need))

    pub released_in_time : ReleasedInTime image lines journal
    unfolding holds_for
    released_in_time before after c b time same =
        let n = needs journal before after c (what.Release b time) h same in
        let shown = (both (holds (held image before) c b.0) (time == n.time b.0) n.need).1 in
        n.clock b.0 ∙ ap Some (sym (numbers time (n.time b.0) shown))

    pub adopted_in_time : AdoptedInTime image lines journal
    unfolding holds_for
    adopted_in_time before after c b parked time same =
        let n = needs journal before after c (what.Adopt b parked time) h same in
        let clock = core_clock image before c in
        let shown = (both (is_free (held image before) b.0) (time == adopted_at image.clocks (n.time b.0) clock) n.need).1 in
        ap (λ o. option_map (λ t. adopted_at image.clocks t clock) o) (n.clock b.0) ∙ ap Some (sym (numbers time (adopted_at image.clocks (n.time b.0) clock) shown))
