-- The rests that a run's cores have seen, while they see more and the script's log grows.
use Rattle.std.proofs.Common.{◌≡◌, ◌⊎◌, inl, inr, ℕ, Bool, true, false, cond, List, [], ◌∷◌, ◌++◌, map, sym, refl, ◌∙◌, subst}
use Rattle.std.proofs.lemmas.List.{map-append}
use Rattle.dc_base.specs.declared.entries.Entry.{Entry}
use Rattle.dc_base.specs.declared.entries.What.{What}
use Rattle.dc_base.specs.declared.entries.What.TheVariants as what
use Rattle.dc_crew.specs.declared.seats.Seat.{Seat}
use Rattle.dc_crew.specs.Laters.{IsLaterSeat, Pairs}
use Rattle.dc_crew.specs.Machines.{Staged}
use Rattle.dc_crew.specs.ScriptWorks.{GrowsQuietly}
use Rattle.dc_journal.specs.declared.merging.Logged.{Logged}
use Rattle.dc_logs.specs.Marks.{mark_of}
use Rattle.dc_logs.specs.Recorded.{Recorded}
use Rattle.dc_logs.specs.Rests.{AllOf, QuietBy, places}
use Rattle.dc_logs.proofs.RestLaws.{quiet_later, quiet_now}
use Rattle.dc_rests.specs.Resting.{GrowsAt}
use Rattle.dc_rounds.specs.Working.{IsQuietAt}
use Rattle.dc_script_turns.specs.Scripting.{IsNoUnmet}
use Rattle.dc_run.specs.Rested.{is_unmet, needs_rest, IsTriedAfter, HasSeenRests, HaveSeenRests}

module _ {A : Type 0} where
  all_by : (P Q : A → Type 0) → ((x : A) → P x → Q x) → (xs : List A) → AllOf P xs → AllOf Q xs
  all_by P Q f [] a = tt
  all_by P Q f (x ∷ xs) a = (f x a.0, all_by P Q f xs a.1)

  pub all_both : (P Q R : A → Type 0) → ((x : A) → P x → Q x → R x) → (xs : List A) → AllOf P xs → AllOf Q xs → AllOf R xs
  all_both P Q R f [] a b = tt
  all_both P Q R f (x ∷ xs) a b = (f x a.0 b.0, all_both P Q R f xs a.1 b.1)

  all_later : (R : A → A → Type 0) (P Q : A → Type 0) → ((x y : A) → R x y → P x → Q y) → (xs ys : List A) → Pairs R xs ys → AllOf P xs → AllOf Q ys
  all_later R P Q f [] [] p a = tt
  all_later R P Q f [] (y ∷ ys) p a = absurd p
  all_later R P Q f (x ∷ xs) [] p a = absurd p
  all_later R P Q f (x ∷ xs) (y ∷ ys) p a = (f x y p.0 a.0, all_later R P Q f xs ys p.1 a.1)

module _ (P : ℕ → Type 0) where
  more_by : (b : Bool) (t : ℕ) (ts us : List ℕ) → AllOf P (cond b (t ∷ ts) ts) → (AllOf P ts → AllOf P us) → AllOf P (cond b (t ∷ us) us)
  more_by true t ts us a f = (a.0, f a.1)
  more_by false t ts us a f = f a

  one_by : (b : Bool) (t : ℕ) (us : List ℕ) → (b ≡ true → P t) → AllOf P us → AllOf P (cond b (t ∷ us) us)
  one_by true t us p a = (p refl, a)
  one_by false t us p a = a

  both_places : (ms ns : List (ℕ × Entry)) → AllOf P (places needs_rest ms) → AllOf P (places needs_rest ns) → AllOf P (places needs_rest (ms ++ ns))
  both_places [] ns a b = b
  both_places (m ∷ ms) ns a b = more_by (needs_rest m.1) m.0 (places needs_rest ms) (places needs_rest (ms ++ ns)) a (λ r. both_places ms ns r b)

  -- so it is of the places in a log where each entry that needs a rest has such a place
  each_place : (log : List Logged) → AllOf (λ (x : Logged). needs_rest x.entry ≡ true → P x.ticket.0) log → AllOf P (places needs_rest (map mark_of log))
  each_place [] a = tt
  each_place (x ∷ log) a = one_by (needs_rest x.entry) x.ticket.0 (places needs_rest (map mark_of log)) a.0 (each_place log a.1)

needs_none : (w : What) → IsNoUnmet w → is_unmet w ≡ true → ⊥
needs_none (what.Unmet q b seen) none is = none
needs_none w none is = absurd (cc is)

module _ (st : Staged) where
  -- the core sees more
  sees_more : (log : List Logged) (s t : Seat) → IsLaterSeat st s t → HasSeenRests st log s → HasSeenRests st log t
  sees_more log s t l h =
      all_by (λ n. QuietBy (IsTriedAfter st s.pass.actor) n s.pass.seen) (λ n. QuietBy (IsTriedAfter st t.pass.actor) n t.pass.seen)
      (λ n q. subst (λ c. QuietBy (IsTriedAfter st c) n t.pass.seen) (sym l.pass.actor)
      (quiet_later (needs_rest) (IsTriedAfter st s.pass.actor) n s.pass.seen t.pass.seen l.pass.sees q)) (places needs_rest (map mark_of log)) h

  -- the log grows by entries that need no rest, or after one that was seen
  log_grows : (log more : List Logged) (s : Seat)
      → AllOf (λ (x : Logged). needs_rest x.entry ≡ true → QuietBy (IsTriedAfter st s.pass.actor) x.ticket.0 s.pass.seen) more
      → HasSeenRests st log s → HasSeenRests st (log ++ more) s
  log_grows log more s each h =
      let P : ℕ → Type 0 = λ n. QuietBy (IsTriedAfter st s.pass.actor) n s.pass.seen in
      subst (λ ms. AllOf P (places needs_rest ms)) (sym (map-append mark_of log more))
      (both_places P (map mark_of log) (map mark_of more) h (each_place P more each))

  -- before the first entry of the log there is none
  pub none_seen : (m : Recorded) (seats : List Seat) → m.entries ≡ [] → HaveSeenRests st m seats
  none_seen m [] e = tt
  none_seen m (s ∷ seats) e = (subst (λ log. HasSeenRests st log s) (sym e) tt, none_seen m seats e)

  pub seen_later : (m : Recorded) (ss ts : List Seat) → Pairs (IsLaterSeat st) ss ts → HaveSeenRests st m ss → HaveSeenRests st m ts
  seen_later m = all_later (IsLaterSeat st) (HasSeenRests st m.entries) (HasSeenRests st m.entries) (sees_more m.entries)

  pub seen_quietly : (m o : Recorded) (seats : List Seat) → GrowsQuietly m o → HaveSeenRests st m seats → HaveSeenRests st o seats
  seen_quietly m o seats g =
      all_by (HasSeenRests st m.entries) (HasSeenRests st o.entries)
      (λ s h. subst (λ log. HasSeenRests st log s) (sym g.entries) (log_grows m.entries g.more s
      (all_by (λ (x : Logged). IsNoUnmet x.entry.what)
      (λ (x : Logged). needs_rest x.entry ≡ true → QuietBy (IsTriedAfter st s.pass.actor) x.ticket.0 s.pass.seen)
      (λ x none is. absurd (needs_none x.entry.what none is)) g.more g.quiet) h)) seats

  pub seen_at : (n : ℕ) (m o : Recorded) (seats : List Seat) → AllOf (λ (s : Seat). IsQuietAt st n s.pass s.pass.actor) seats → GrowsAt n m o
      → HaveSeenRests st m seats → HaveSeenRests st o seats
  seen_at n m o seats quiet g =
      all_both (λ (s : Seat). IsQuietAt st n s.pass s.pass.actor) (HasSeenRests st m.entries) (HasSeenRests st o.entries)
      (λ s q h. subst (λ log. HasSeenRests st log s) (sym g.entries) (log_grows m.entries g.more s
      (all_by (λ (x : Logged). IsNoUnmet x.entry.what ⊎ (x.ticket.0 ≡ n))
      (λ (x : Logged). needs_rest x.entry ≡ true → QuietBy (IsTriedAfter st s.pass.actor) x.ticket.0 s.pass.seen) (by_place s q) g.more g.each) h)) seats quiet
    where
      by_place : (s : Seat) → IsQuietAt st n s.pass s.pass.actor → (x : Logged) → IsNoUnmet x.entry.what ⊎ (x.ticket.0 ≡ n) → needs_rest x.entry ≡ true
          → QuietBy (IsTriedAfter st s.pass.actor) x.ticket.0 s.pass.seen
      by_place s q x (inl none) is = absurd (needs_none x.entry.what none is)
      by_place s q x (inr e) is =
          quiet_now needs_rest (IsTriedAfter st s.pass.actor) x.ticket.0 s.pass.seen (q.length_is ∙ sym e) q.tried
