-- Orders are carried out as they were posted, one after another.
use Rattle.std.proofs.Common.{◌≡◌, ℕ, List, [], ◌∷◌, ◌++◌, Bool, true, false, Option, Some, None, refl, sym, ap, ◌∙◌}
use Rattle.std.specs.Option.{option_map_or}
use Rattle.dc_base.specs.declared.images.Image.{Image}
use Rattle.dc_base.specs.declared.commands.Order.{Order}
use Rattle.dc_base.specs.declared.commands.ScriptLine.{ScriptLine}
use Rattle.dc_base.specs.declared.entries.Entry.{Entry}
use Rattle.dc_base.specs.declared.entries.What.TheVariants as what
use Rattle.dc_base.specs.Outcomes.{by_core, by_script}
use Rattle.dc_base.specs.StrikeOut.{clock_told}
use Rattle.dc_base.specs.Boot.{Registry}
use Rattle.dc_base.specs.Answers.{Answered, answered_start}
use Rattle.dc_base.specs.Runs.{Seen, seen_start, run}
use Rattle.dc_journal_laws.specs.Entries.{posted, post_in, carried_out, carried_in}
use Rattle.dc_journal_laws.proofs.Prefixes.{holds_after}
use Rattle.dc_journal_laws.proofs.Cases.{Case, works, carries, begins, posts, does, answers_once, raises, case_of}
use Rattle.dc_journal_laws.proofs.Lists.{collect-none, collect-one}

-- what was posted is carried out but for the order that waits
pub record Waits (before : List Entry) (begun : Bool) (waiting : Option (ℕ × Order)) : Type 0 where
  pub none : waiting ≡ None → posted before ≡ carried_out before
  pub some : (o : ℕ × Order) → waiting ≡ Some o → posted before ≡ carried_out before ++ o ∷ []
  pub fresh : begun ≡ false → waiting ≡ None

module _ (before : List Entry) (e : Entry) where
  abbrev grown : List Entry
  grown = before ++ e ∷ []

  posted-none : post_in e.what ≡ [] → posted grown ≡ posted before
  posted-none h = collect-none (λ (d : Entry). post_in d.what) before e h

  posted-one : (o : ℕ × Order) → post_in e.what ≡ o ∷ [] → posted grown ≡ posted before ++ o ∷ []
  posted-one o h = collect-one (λ (d : Entry). post_in d.what) before e o h

  carried-none : carried_in e.actor e.what ≡ [] → carried_out grown ≡ carried_out before
  carried-none h = collect-none (λ (d : Entry). carried_in d.actor d.what) before e h

  carried-one : (o : ℕ × Order) → carried_in e.actor e.what ≡ o ∷ [] → carried_out grown ≡ carried_out before ++ o ∷ []
  carried-one o h = collect-one (λ (d : Entry). carried_in d.actor d.what) before e o h

  -- an entry that posts nothing and carries nothing out
  idles : (begun : Bool) (waiting : Option (ℕ × Order)) → post_in e.what ≡ [] → carried_in e.actor e.what ≡ [] → Waits before begun waiting → Waits grown begun waiting
  idles begun waiting p c w = record {
    none = λ h. posted-none p ∙ w.none h ∙ sym (carried-none c);
    some = λ o h. posted-none p ∙ w.some o h ∙ ap (λ os. os ++ o ∷ []) (sym (carried-none c));
    fresh = w.fresh;
  }

  -- one that ends a command
  ends : post_in e.what ≡ [] → carried_in e.actor e.what ≡ [] → posted before ≡ carried_out before → Waits grown false None
  ends p c same = record { none = λ h. posted-none p ∙ same ∙ sym (carried-none c); some = λ o h. absurd cc; fresh = λ h. refl }

  -- one that posts an order
  orders : (o : ℕ × Order) → post_in e.what ≡ o ∷ [] → carried_in e.actor e.what ≡ [] → posted before ≡ carried_out before → Waits grown true (Some o)
  orders o p c same = record {
    none = λ h. absurd cc;
    some = λ q h. let at : o ≡ q = cc in posted-one o p ∙ ap (λ os. os ++ o ∷ []) (same ∙ sym (carried-none c)) ∙ ap (λ r. carried_out grown ++ r ∷ []) at;
    fresh = λ h. absurd cc;
  }

  -- one that carries it out
  obeys : (begun : Bool) (o : ℕ × Order) → post_in e.what ≡ [] → carried_in e.actor e.what ≡ o ∷ [] → posted before ≡ carried_out before ++ o ∷ [] → Waits grown begun None
  obeys begun o p c same = record { none = λ h. posted-none p ∙ same ∙ sym (carried-one o c); some = λ q h. absurd cc; fresh = λ h. refl }

module _ (lines : List ScriptLine) (r : Registry) where
  waits_keep : (before : List Entry) (a n : Answered) (e : Entry) → Case lines r a e n → Waits before a.begun a.posted → Waits (before ++ e ∷ []) n.begun n.posted
  waits_keep before a n e (works c u plain none) w = idles before (by_core c u) a.begun a.posted plain.no_post (ap (λ o. option_map_or (λ p. (c, p) ∷ []) o []) none) w
  waits_keep before a n e (carries c u o plain some at) w = obeys before (by_core c u) a.begun (c, o) plain.no_post (ap (λ o. option_map_or (λ p. (c, p) ∷ []) o []) some) (w.some (c, o) at)
  waits_keep before a n e (begins q c o more answer begin first) w = orders before (by_script (what.Post q c o)) (c.0, o) refl refl (w.none (w.fresh begin.fresh))
  waits_keep before a n e (posts q c o more begun at none left) w = orders before (by_script (what.Post q c o)) (c.0, o) refl refl (w.none none)
  waits_keep before a n e (does q at begun left none) w = ends before (by_script (what.Done q)) refl refl (w.none none)
  waits_keep before a n e (answers_once q u single begin) w = ends before (by_script u) single.no_post refl (w.none (w.fresh begin.fresh))
  waits_keep before a n e (raises q l x at below there) w = idles before (by_script (what.Raise q l x)) a.begun a.posted refl refl w

module _ (image : Image) (lines : List ScriptLine) where
  pub waits : (before : List Entry) (s : Seen) → run image lines before ≡ Some s → Waits before s.answered.begun s.answered.posted
  unfolding seen_start answered_start
  waits = holds_after image lines (λ before s. Waits before s.answered.begun s.answered.posted) (record { none = λ h. refl; some = λ o h. absurd cc; fresh = λ h. refl })
      (λ before s e n r comes w. waits_keep lines s.boot before s.answered n.answered e (case_of lines s.boot (clock_told s.told) s.answered e n.answered comes.answered) w)
