-- The first bad entry is the one with which a journal stops being a run.
use Rattle.std.proofs.Common.{◌≡◌, ℕ, suc, ◌+◌, ◌<◌, List, [], ◌∷◌, true, false, Option, Some, None, refl, ap, ◌∙◌, subst, arith, add-one, length, take}
use Rattle.std.specs.Prelude.{is_some}
use Rattle.std.specs.Option.{option_map_or}
use Rattle.dc_base.specs.declared.images.Image.{Image}
use Rattle.dc_base.specs.declared.commands.ScriptLine.{ScriptLine}
use Rattle.dc_base.specs.declared.entries.Entry.{Entry}
use Rattle.dc_base.specs.Words.{bind}
use Rattle.dc_base.specs.Runs.{Terms, terms_of, Seen, seen_start, run_step, run_from, run, bad_from, first_bad}
use Rattle.dc_laws.specs.FirstBad.{IsFirstBad}

module _ (terms : Terms) (lines : List ScriptLine) where
  -- entry k of these is the first bad one
  pub record IsBadAt (s : Seen) (es : List Entry) (k : ℕ) : Type 0 where
    pub within : k < length es
    pub before : is_some (run_from terms lines s (take k es)) ≡ true
    pub bad : is_some (run_from terms lines s (take (suc k) es)) ≡ false

  abbrev pub Found : (base ticket : ℕ) → Seen → List Entry → Type 0
  Found base ticket s es = (k : ℕ) × (ticket ≡ base + k) × IsBadAt s es k

  found_by : (base ticket : ℕ) (s : Seen) (e : Entry) (es : List Entry) → ((n : Seen) → bad_from terms lines (base + 1) n es ≡ Some ticket → Found (base + 1) ticket n es) →
      (o : Option Seen) → run_step terms lines s e ≡ o → option_map_or (λ n. bad_from terms lines (base + 1) n es) o (Some base) ≡ Some ticket → Found base ticket s (e ∷ es)
  found_by base ticket s e es more None oe g =
      let same : base ≡ ticket = cc in (
        0,
        omega (arith, same),
        record {
          within = omega arith;
          before = refl;
          bad = ap (λ o. is_some (bind o (λ n. run_from terms lines n (take 0 es)))) oe;
        },
      )
  found_by base ticket s e es more (Some n) oe g =
      let r = more n g in (
        suc r.0,
        omega (arith, r.1),
        record {
          within = omega (arith, r.2.within);
          before = ap (λ o. is_some (bind o (λ m. run_from terms lines m (take r.0 es)))) oe ∙ r.2.before;
          bad = ap (λ o. is_some (bind o (λ m. run_from terms lines m (take (suc r.0) es)))) oe ∙ r.2.bad;
        },
      )

  pub bad_from-found : (base ticket : ℕ) (s : Seen) (es : List Entry) → bad_from terms lines base s es ≡ Some ticket → Found base ticket s es
  bad_from-found base ticket s [] g = cc
  bad_from-found base ticket s (e ∷ es) g = found_by base ticket s e es (λ n h. bad_from-found (base + 1) ticket n es h) (run_step terms lines s e) refl g

pub first_bad-named : (image : Image) (lines : List ScriptLine) (journal : List Entry) (ticket : ℕ) → first_bad image lines journal ≡ Some ticket → IsFirstBad image lines journal ticket
unfolding first_bad run
first_bad-named image lines journal ticket g =
    let found = bad_from-found (terms_of image) lines 0 ticket (seen_start image lines) journal g in
    let same : found.0 ≡ ticket = omega (arith, found.1) in
    subst (λ t. IsFirstBad image lines journal t) same (record {
      within = found.2.within;
      before = found.2.before;
      bad = rw add-one found.2.bad;
    })
