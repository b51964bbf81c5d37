-- What stands in the logs of passes: the marks of their actors, each once.
use Rattle.std.proofs.Common.{◌≡◌, ℕ, zero, suc, List, [], ◌∷◌, length, map, Option, Some, None, sym, refl, ap, ◌∙◌, arith}
use Rattle.std.specs.Prelude.{slice_get, vec_len}
use Rattle.std.specs.Option.{option_map}
use Rattle.std.specs.Global.{Vec}
use Rattle.std.proofs.lemmas.Option.{same_Some, slice_get-map}
use Rattle.std.proofs.lemmas.List.{length-map}
use Rattle.std.proofs.lemmas.List.Sums.{sum_by-cons}
use Rattle.dc_base.specs.declared.entries.Entry.{Entry}
use Rattle.dc_stage.specs.History.{Log, own}
use Rattle.dc_stage.specs.Pasts.{actors_of}
use Rattle.dc_stage.specs.declared.view.Past.{Past}
use Rattle.dc_journal.specs.Logs.{logged_at, logged_count}
use Rattle.dc_journal.specs.declared.merging.Logged.{Logged}
use Rattle.dc_logs.specs.Marks.{marked, mark_of}
use Rattle.dc_logs.specs.Logs.{EachLog}
use Rattle.dc_logs.proofs.Marks.{length_marked}
use Rattle.dc_logs.proofs.Counts.{counted}

module _ (h : Log Entry) where
  log_at : (log : List Logged) (ms : List (ℕ × Entry)) (k : ℕ) (e : Logged) → map mark_of log ≡ ms → slice_get log k ≡ Some e
      → slice_get ms k ≡ Some (mark_of e)
  log_at log ms k e is at = ap (λ z. slice_get z k) (sym is) ∙ (slice_get-map mark_of log k ∙ ap (option_map mark_of) at)

  abbrev IsOfRow : List (Past Entry) → ℕ → ℕ → Logged → Type 0
  IsOfRow xs i k e = (x : Past Entry) × (slice_get xs i ≡ Some x) × (slice_get (marked x.actor 0 h) k ≡ Some (mark_of e))

  pub row_at : (xs : List (Past Entry)) (logs : List (Vec Logged)) → EachLog h xs logs → (i k : ℕ) (e : Logged) → logged_at logs i k ≡ Some e
      → IsOfRow xs i k e
  row_at [] [] l i k e is = absurd (cc is)
  row_at [] (g ∷ gs) l i k e is = absurd l
  row_at (x ∷ xs) [] l i k e is = absurd l
  row_at (x ∷ xs) (g ∷ gs) l zero k e is = (x, refl, log_at g.items (marked x.actor 0 h) k e l.0 is)
  row_at (x ∷ xs) (g ∷ gs) l (suc i) k e is = row_at xs gs l.1 i k e is

  back : (k : ℕ) (m : ℕ × Entry) (o : Option Logged) → option_map mark_of o ≡ Some m → (e : Logged) × (o ≡ Some e) × (mark_of e ≡ m)
  back k m None is = absurd (cc is)
  back k m (Some e) is = (e, refl, same_Some (mark_of e) m is)

  pub row_has : (xs : List (Past Entry)) (logs : List (Vec Logged)) → EachLog h xs logs → (i k : ℕ) (x : Past Entry) (m : ℕ × Entry)
      → slice_get xs i ≡ Some x → slice_get (marked x.actor 0 h) k ≡ Some m
      → (e : Logged) × (logged_at logs i k ≡ Some e) × (mark_of e ≡ m)
  row_has [] logs l i k x m is at = absurd (cc is)
  row_has (y ∷ xs) [] l i k x m is at = absurd l
  row_has (y ∷ xs) (g ∷ gs) l zero k x m is at =
      let same : y ≡ x = same_Some y x is in
      back k m (slice_get g.items k)
      (sym (slice_get-map mark_of g.items k) ∙ (ap (λ z. slice_get z k) (l.0 ∙ ap (λ (p : Past Entry). marked p.actor 0 h) same) ∙ at))
  row_has (y ∷ xs) (g ∷ gs) l (suc i) k x m is at = row_has xs gs l.1 i k x m is at

-- the logs have as many entries as the actors made
pub count_rows : (h : Log Entry) (xs : List (Past Entry)) (logs : List (Vec Logged)) → EachLog h xs logs → logged_count logs ≡ counted (actors_of xs) h
count_rows h [] [] l = refl
count_rows h [] (g ∷ gs) l = absurd l
count_rows h (x ∷ xs) [] l = absurd l
count_rows h (x ∷ xs) (g ∷ gs) l =
    let p = sum_by-cons (λ (log : Vec Logged). vec_len log) g gs in
    let q : vec_len g ≡ length g.items = omega arith in
    let r : length g.items ≡ length (own x.actor h) = sym (length-map g.items mark_of) ∙ (ap length l.0 ∙ length_marked x.actor 0 h) in
    let s = count_rows h xs gs l.1 in omega (arith, p, q, r, s)
