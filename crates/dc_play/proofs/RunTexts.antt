-- The text of a journal grows with its run.
use Rattle.std.proofs.Common.{◌≡◌, ◌∙◌, ℕ, ◌+◌, List, [], ◌∷◌, ◌++◌, refl, sym, ap, arith, length, append_assoc, add-zero}
use Rattle.std.proofs.lemmas.List.{append-nil}
use Rattle.dc_base.specs.declared.actions.Actor.{Actor}
use Rattle.dc_base.specs.declared.actions.Action.{Action}
use Rattle.dc_base.specs.declared.entries.Entry.{Entry}
use Rattle.dc_base.specs.TextWords.{ended}
use Rattle.dc_base.specs.EntryText.{entry_text, journal_from}
use Rattle.dc_base.specs.Turns.{Outcome, did, not_enabled, spent}
use Rattle.dc_base.specs.Cores.{core_step}
use Rattle.dc_base.specs.CoreRuns.{Run, after_outcome, run_all}

pub journal_from-append : (t : ℕ) (xs ys : List Entry) → journal_from t (xs ++ ys) ≡ journal_from t xs ++ journal_from (t + length xs) ys
journal_from-append t [] ys = ap (λ n. journal_from n ys) (sym (add-zero t))
journal_from-append t (x ∷ xs) ys =
    let same : (t + 1) + length xs ≡ t + length (x ∷ xs) = omega arith in
    ap (λ (text : List ℕ). ended (entry_text t x) ++ text) (journal_from-append (t + 1) xs ys) ∙ sym (append_assoc (ended (entry_text t x)) (journal_from (t + 1) xs) (journal_from ((t + 1) + length xs) ys))
    ∙ ap (λ n. (ended (entry_text t x) ++ journal_from (t + 1) xs) ++ journal_from n ys) same

-- the journal of a run goes on from that of its part
pub record GoesOn (r s : Run) : Type 0 where
  pub more : List Entry
  pub longer : s.journal ≡ r.journal ++ more

goes_on_by : (r : Run) (a : Action) (o : Outcome) → GoesOn r (after_outcome r a o)
goes_on_by r a (did changes e) = record { more = e ∷ []; longer = refl }
goes_on_by r a (not_enabled why) = record { more = []; longer = sym (append-nil r.journal) }
goes_on_by r a spent = record { more = []; longer = sym (append-nil r.journal) }

goes_on_twice : (r s t : Run) → GoesOn r s → GoesOn s t → GoesOn r t
goes_on_twice r s t h g = record { more = h.more ++ g.more; longer = g.longer ∙ ap (λ (js : List Entry). js ++ g.more) h.longer ∙ append_assoc r.journal h.more g.more }

pub run_all-goes_on : (r : Run) (schedule : List (Actor × Action)) → GoesOn r (run_all r schedule)
run_all-goes_on r [] = record { more = []; longer = sym (append-nil r.journal) }
run_all-goes_on r (a ∷ more) =
    let next : Run = after_outcome r a.1 (core_step r.state r.polls a.0 a.1) in
    goes_on_twice r next (run_all next more) (goes_on_by r a.1 (core_step r.state r.polls a.0 a.1)) (run_all-goes_on next more)
