-- Whether the soonest timer is due.
use Rattle.std.proofs.Common.{◌≡◌, ◌<◌, ◌≤◌, ℕ, Bool, true, false, cond, List, sym, refl, ap, ◌∙◌, subst}
use Rattle.std.specs.Prelude.{Option, Some, None, nat_le, is_some}
use Rattle.std.specs.Option.{option_map}
use Rattle.std.proofs.lemmas.Bool.{le-leb, lt-leb}
use Rattle.std.proofs.lemmas.Option.{none-some, same_Some}
use Rattle.dc_base.specs.declared.interrupts.Timer.{Timer}
use Rattle.dc_base.specs.Timers.{soonest, if_due, due_timer, is_due}

abbrev deadline_of : Option Timer → Option ℕ
deadline_of o = option_map (λ (t : Timer). t.deadline) o

-- none is armed
none_due : (now : ℕ) (o : Option Timer) → None ≡ deadline_of o → None ≡ if_due now o
none_due now None e = refl
none_due now (Some t) e = absurd (none-some t.deadline e)

-- the soonest is later
later_due : (now d : ℕ) (o : Option Timer) → Some d ≡ deadline_of o → now < d → None ≡ if_due now o
later_due now d None e lt = refl
later_due now d (Some t) e lt =
    let later : nat_le t.deadline now ≡ false = subst (λ x. nat_le x now ≡ false) (same_Some d t.deadline e) (lt-leb d now lt) in
    ap (λ b. cond b (Some t) None) (sym later)

now_due : (now d : ℕ) (t : Timer) → Some d ≡ Some t.deadline → d ≤ now → Some t ≡ if_due now (Some t)
now_due now d t e le =
    let due : nat_le t.deadline now ≡ true = subst (λ x. nat_le x now ≡ true) (same_Some d t.deadline e) (le-leb d now le) in
    ap (λ b. cond b (Some t) None) (sym due)

some_due : (now d : ℕ) (o : Option Timer) → Some d ≡ deadline_of o → nat_le d now ≡ is_some (if_due now o)
some_due now d None e = absurd (none-some d (sym e))
some_due now d (Some t) e = ap (λ x. nat_le x now) (same_Some d t.deadline e) ∙ by_test (nat_le t.deadline now)
  where
    by_test : (b : Bool) → b ≡ is_some (cond b (Some t) None)
    by_test true = refl
    by_test false = refl

module _ (now : ℕ) (ts : List Timer) where
  pub due-none : None ≡ deadline_of (soonest ts) → None ≡ due_timer now ts
  unfolding due_timer
  due-none e = none_due now (soonest ts) e

  pub due-later : (d : ℕ) → Some d ≡ deadline_of (soonest ts) → now < d → None ≡ due_timer now ts
  unfolding due_timer
  due-later d e lt = later_due now d (soonest ts) e lt

  pub due-now : (d : ℕ) (t : Timer) → Some d ≡ deadline_of (soonest ts) → d ≤ now → soonest ts ≡ Some t → Some t ≡ due_timer now ts
  unfolding due_timer
  due-now d t e le s = now_due now d t (e ∙ ap deadline_of s) le ∙ ap (if_due now) (sym s)

  pub is_due-none : None ≡ deadline_of (soonest ts) → false ≡ is_due now ts
  unfolding due_timer
  is_due-none e = ap is_some (none_due now (soonest ts) e)

  pub is_due-some : (d : ℕ) → Some d ≡ deadline_of (soonest ts) → nat_le d now ≡ is_due now ts
  unfolding due_timer
  is_due-some d e = some_due now d (soonest ts) e
