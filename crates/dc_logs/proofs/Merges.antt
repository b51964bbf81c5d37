-- The logs of all passes of a stage, merged by ticket, are the history.
use Rattle.std.proofs.Common.{◌≡◌, ℕ, zero, suc, ◌+◌, ◌<◌, Bool, true, false, List, [], ◌∷◌, length, Option, Some, None, Result, Ok, Err, sym, refl}
use Rattle.std.proofs.Common.{ap, ap₂, ◌∙◌, arith}
use Rattle.std.specs.Prelude.{slice_get, vec_len, IfOk}
use Rattle.std.specs.Option.{option_map}
use Rattle.std.specs.Global.{Vec}
use Rattle.std.proofs.lemmas.Option.{same_Some, slice_get-map}
use Rattle.std.proofs.lemmas.List.{length-map}
use Rattle.dc_base.specs.declared.entries.Entry.{Entry}
use Rattle.dc_base.specs.Histories.{entries_in}
use Rattle.dc_stage.specs.Numbers.{has}
use Rattle.dc_stage.specs.History.{Log}
use Rattle.dc_stage.specs.Pasts.{actors_of}
use Rattle.dc_stage.specs.declared.view.Past.{Past}
use Rattle.dc_journal.specs.Logs.{logged_at, logged_count}
use Rattle.dc_journal.specs.declared.merging.Logged.{Logged}
use Rattle.dc_logs.specs.Marks.{marked, mark_of}
use Rattle.dc_logs.specs.Logs.{AreLogs}
use Rattle.dc_logs.proofs.Marks.{length_marked}
use Rattle.dc_logs.proofs.MarkPlaces.{mark_at, mark_has, mark_once}
use Rattle.dc_logs.proofs.Actors.{actor_once, has_actor}
use Rattle.dc_logs.proofs.Counts.{counted_all}
use Rattle.dc_logs.proofs.Rows.{row_at, row_has, count_rows}

same_list : {A : Type 0} (xs ys : List A) → length xs ≡ length ys → ((i : ℕ) (y : A) → slice_get ys i ≡ Some y → slice_get xs i ≡ Some y) → xs ≡ ys
same_list [] [] n f = refl
same_list [] (y ∷ ys) n f = absurd (omega arith)
same_list (x ∷ xs) [] n f = absurd (omega arith)
same_list (x ∷ xs) (y ∷ ys) n f = ap₂ (λ z zs. z ∷ zs) (same_Some x y (f 0 y refl)) (same_list xs ys (omega arith) (λ i z is. f (suc i) z is))

module _ (h : Log Entry) (xs : List (Past Entry)) (logs : List (Vec Logged)) (are : AreLogs h xs logs) where
  pub merge_count : logged_count logs ≡ length h
  merge_count = count_rows h xs logs are.each ∙ counted_all (actors_of xs) h are.apart are.others

  within : (ys : Log Entry) (i : ℕ) (y : ℕ × Entry) → slice_get ys i ≡ Some y → i < length ys
  within [] i y is = absurd (cc is)
  within (z ∷ ys) zero y is = omega arith
  within (z ∷ ys) (suc i) y is = let p = within ys i y is in omega (arith, p)

  pub merge_below : (i k : ℕ) (e : Logged) → logged_at logs i k ≡ Some e → e.ticket.0 < logged_count logs
  merge_below i k e is =
      let r = row_at h xs logs are.each i k e is in
      let m = mark_at r.0.actor 0 h k (mark_of e) r.2 in
      let w = within h m.0 (r.0.actor, e.entry) m.2 in
      let p = m.1 in
      let n = merge_count in omega (arith, w, p, n)

  pub merge_once : (i j k m : ℕ) (d e : Logged) → logged_at logs i k ≡ Some d → logged_at logs j m ≡ Some e → d.ticket.0 ≡ e.ticket.0 → (i ≡ j) × (k ≡ m)
  merge_once i j k m d e p q same =
      let r = row_at h xs logs are.each i k d p in
      let s = row_at h xs logs are.each j m e q in
      let a = mark_at r.0.actor 0 h k (mark_of d) r.2 in
      let b = mark_at s.0.actor 0 h m (mark_of e) s.2 in
      let place : a.0 ≡ b.0 = (let u = a.1 in let v = b.1 in omega (arith, u, v, same)) in
      let both = same_Some (r.0.actor, d.entry) (s.0.actor, e.entry) (sym a.2 ∙ (ap (λ t. slice_get h t) place ∙ b.2)) in
      let actor : r.0.actor ≡ s.0.actor = ap (λ z. z.0) both in (
        actor_once xs are.apart i j r.0 s.0 r.1 s.1 actor,
        mark_once s.0.actor 0 h k m (mark_of d) (mark_of e) (ap (λ n. slice_get (marked n 0 h) k) (sym actor) ∙ r.2) s.2 same,
      )

  known : (t : ℕ) (x : ℕ × Entry) → slice_get h t ≡ Some x → (b : Bool) → has x.0 (actors_of xs) ≡ b → has x.0 (actors_of xs) ≡ true
  known t x is true e = e
  known t x is false e =
      let m = mark_has x.0 0 h t x.1 is in
      let n = ap length (are.others x.0 e) in
      let k = length_marked x.0 0 h in
      absurd (let w = within (marked x.0 0 h) m.0 (0 + t, x.1) m.1 in omega (arith, n, k, w))

  pub merged : (es : List Entry) → length es ≡ logged_count logs
      → ((i k : ℕ) (e : Logged) → logged_at logs i k ≡ Some e → slice_get es e.ticket.0 ≡ Some e.entry) → es ≡ entries_in h
  merged es count places = same_list es (entries_in h) (count ∙ (merge_count ∙ sym (length-map h (λ (x : ℕ × Entry). x.1)))) at
    where
      at_entry : (t : ℕ) (x : ℕ × Entry) → slice_get h t ≡ Some x → slice_get es t ≡ Some x.1
      at_entry t x is =
          let a = has_actor xs x.0 (known t x is (has x.0 (actors_of xs)) refl) in
          let m = mark_has x.0 0 h t x.1 is in
          let e = row_has h xs logs are.each a.0 m.0 a.1 (0 + t, x.1) a.2 (ap (λ n. slice_get (marked n 0 h) m.0) a.3 ∙ m.1) in
          let place : e.0.ticket.0 ≡ t = (let u = ap (λ (z : ℕ × Entry). z.0) e.2 in omega (arith, u)) in
          ap (λ n. slice_get es n) (sym place) ∙ (places a.0 m.0 e.0 e.1 ∙ ap (λ (z : ℕ × Entry). Some z.1) e.2)

      by_place : (t : ℕ) (y : Entry) (o : Option (ℕ × Entry)) → slice_get h t ≡ o → option_map (λ (x : ℕ × Entry). x.1) o ≡ Some y → slice_get es t ≡ Some y
      by_place t y None is e = absurd (cc e)
      by_place t y (Some x) is e = at_entry t x is ∙ e

      at : (t : ℕ) (y : Entry) → slice_get (entries_in h) t ≡ Some y → slice_get es t ≡ Some y
      at t y is = by_place t y (slice_get h t) refl (sym (slice_get-map (λ (x : ℕ × Entry). x.1) h t) ∙ is)

-- what the merge gives is the journal of each history with these logs
pub journal_is : {F : Type 0} (logs : List (Vec Logged)) (r : Result (Vec Entry) F) → IfOk r (λ es. vec_len es ≡ logged_count logs)
    → IfOk r (λ es. (i k : ℕ) (e : Logged) → logged_at logs i k ≡ Some e → slice_get es.items e.ticket.0 ≡ Some e.entry)
    → IfOk r (λ es. (h : Log Entry) (xs : List (Past Entry)) → AreLogs h xs logs → es.items ≡ entries_in h)
journal_is logs (Ok es) count places = λ h xs are. merged h xs logs are es.items (let q : vec_len es ≡ length es.items = omega arith in sym q ∙ count) places
journal_is logs (Err e) count places = tt
