-- How far the raises of the script are made.
use Rattle.std.proofs.Common.{◌≡◌, ℕ, ◌+◌, ◌<◌, List, [], ◌∷◌, ◌++◌, Bool, true, false, Some, refl, sym, ap, ◌∙◌, arith}
use Rattle.std.specs.Prelude.{◌==◌, slice_get}
use Rattle.std.proofs.lemmas.Bool.Decides.{nat_tests}
use Rattle.dc_base.specs.declared.images.Image.{Image}
use Rattle.dc_base.specs.declared.numbers.LineNo.{LineNo}
use Rattle.dc_base.specs.declared.commands.ScriptLine.{ScriptLine}
use Rattle.dc_base.specs.declared.commands.ScriptLine.TheVariants as line
use Rattle.dc_base.specs.declared.entries.Entry.{Entry}
use Rattle.dc_base.specs.declared.entries.What.TheVariants as what
use Rattle.dc_base.specs.Words.{lists}
use Rattle.dc_base.specs.Outcomes.{by_core, by_script}
use Rattle.dc_base.specs.StrikeOut.{clock_told}
use Rattle.dc_base.specs.Script.{next_raise}
use Rattle.dc_base.specs.Boot.{Registry}
use Rattle.dc_base.specs.Answers.{Answered, answered_start}
use Rattle.dc_base.specs.Runs.{Seen, seen_start, run}
use Rattle.dc_journal_laws.specs.Entries.{raise_in, raised}
use Rattle.dc_journal_laws.proofs.Prefixes.{holds_after}
use Rattle.dc_journal_laws.proofs.Cases.{Case, works, carries, begins, posts, does, answers_once, raises, case_of}
use Rattle.dc_journal_laws.proofs.Lists.{collect-none, collect-one, any-more, any-new, EachOf, each_of-snoc, each_of-weaken}
use Rattle.dc_journal_laws.proofs.Places.{raise_counted, raise_below, Order3, is_less, is_equal, is_more, order3}

module _ (lines : List ScriptLine) where
  -- a raise entry is one of the first n raises of the script
  abbrev pub IsMade : ℕ → Entry → Type 0
  IsMade n e = (p : ℕ) → raise_in e.what ≡ p ∷ [] → (k : ℕ) × (k < n) × (next_raise lines k ≡ Some p)

  -- the first n raises were made, and no other; those above the command in progress are among them
  pub record Raises (before : List Entry) (place : ℕ) (begun : Bool) (n : ℕ) : Type 0 where
    pub made : (k r : ℕ) → k < n → next_raise lines k ≡ Some r → lists (raised before) r ≡ true
    pub places : EachOf (IsMade n) before
    pub above : begun ≡ true → (p : ℕ) (l : LineNo) → slice_get lines p ≡ Some (line.Raise l) → p < place → lists (raised before) p ≡ true

  -- an entry that is no raise
  beside : (before : List Entry) (e : Entry) (place : ℕ) (begun : Bool) (n : ℕ) → raise_in e.what ≡ [] →
      ((k r : ℕ) → k < n → next_raise lines k ≡ Some r → lists (raised before) r ≡ true) → EachOf (IsMade n) before →
      (begun ≡ true → (p : ℕ) (l : LineNo) → slice_get lines p ≡ Some (line.Raise l) → p < place → lists (raised before) p ≡ true) → Raises (before ++ e ∷ []) place begun n
  beside before e place begun n none made places above =
      let same : raised (before ++ e ∷ []) ≡ raised before = collect-none (λ (d : Entry). raise_in d.what) before e none in
      record {
        made = λ k r h at. ap (λ rs. lists rs r) same ∙ made k r h at;
        places = each_of-snoc (IsMade n) before e places (λ p h. absurd cc);
        above = λ b p l at h. ap (λ rs. lists rs p) same ∙ above b p l at h;
      }

  -- the next raise
  one_more : (before : List Entry) (e : Entry) (place : ℕ) (begun : Bool) (n q : ℕ) → raise_in e.what ≡ q ∷ [] → next_raise lines n ≡ Some q → Raises before place begun n → Raises (before ++ e ∷ []) place begun (n + 1)
  one_more before e place begun n q one at w = record {
    made = λ k r h found. made_by k r h found (order3 k n);
    places = each_of-snoc (IsMade (n + 1)) before e
        (each_of-weaken (IsMade n) (IsMade (n + 1)) (λ d m p h. let t = m p h in (t.0, (let low = t.1 in omega (arith, low)), t.2)) before w.places)
        (λ p h. let same : q ≡ p = cc in (n, omega arith, at ∙ ap Some same));
    above = λ b p l there h. still p (w.above b p l there h);
  }
    where
      same : raised (before ++ e ∷ []) ≡ raised before ++ q ∷ []
      same = collect-one (λ (d : Entry). raise_in d.what) before e q one

      still : (p : ℕ) → lists (raised before) p ≡ true → lists (raised (before ++ e ∷ [])) p ≡ true
      still p h = ap (λ rs. lists rs p) same ∙ any-more (λ m. m == p) (raised before) (q ∷ []) h

      made_by : (k r : ℕ) → k < n + 1 → next_raise lines k ≡ Some r → Order3 k n → lists (raised (before ++ e ∷ [])) r ≡ true
      made_by k r h found (is_less a) = still r (w.made k r a found)
      made_by k r h found (is_equal a) =
          let now : next_raise lines n ≡ Some r = ap (λ i. next_raise lines i) (sym a) ∙ found in
          let here : q ≡ r = cc in
          let test : (q == r) ≡ true = grind (arith, nat_tests) in
          ap (λ rs. lists rs r) same ∙ any-new (λ m. m == r) (raised before) q test
      made_by k r h found (is_more a) = absurd (omega (arith, h, a))

  raises_keep : (r : Registry) (before : List Entry) (a n : Answered) (e : Entry) → Case lines r a e n → Raises before a.place a.begun a.raises → Raises (before ++ e ∷ []) n.place n.begun n.raises
  raises_keep r before a n e (works c u plain none) w = beside before (by_core c u) a.place a.begun a.raises plain.no_raise w.made w.places w.above
  raises_keep r before a n e (carries c u o plain some at) w = beside before (by_core c u) a.place a.begun a.raises plain.no_raise w.made w.places w.above
  raises_keep r before a n e (begins q c o more answer begin first) w =
      beside before (by_script (what.Post q c o)) a.place true a.raises refl w.made w.places
      (λ b p l at h.
      let k = raise_counted lines p l at in
      let place = begin.place in
      w.made k.0 p (raise_below lines a.raises k.0 q p begin.above k.1 (omega (arith, h, place))) k.1)
  raises_keep r before a n e (posts q c o more begun at none left) w = beside before (by_script (what.Post q c o)) a.place true a.raises refl w.made w.places (λ b. w.above begun)
  raises_keep r before a n e (does q at begun left none) w = beside before (by_script (what.Done q)) _ false a.raises refl w.made w.places (λ b. absurd cc)
  raises_keep r before a n e (answers_once q u single begin) w = beside before (by_script u) _ false a.raises single.no_raise w.made w.places (λ b. absurd cc)
  raises_keep r before a n e (raises q l x at below there) w = one_more before (by_script (what.Raise q l x)) a.place a.begun a.raises q refl at w

  pub raises_are : (image : Image) (before : List Entry) (s : Seen) → run image lines before ≡ Some s → Raises before s.answered.place s.answered.begun s.answered.raises
  unfolding seen_start answered_start
  raises_are image = holds_after image lines (λ before s. Raises before s.answered.place s.answered.begun s.answered.raises)
      (record { made = λ k r h at. absurd (omega (arith, h)); places = tt; above = λ h. absurd cc })
      (λ before s e n r comes w. raises_keep s.boot before s.answered n.answered e (case_of lines s.boot (clock_told s.told) s.answered e n.answered comes.answered) w)
