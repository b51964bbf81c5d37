-- What firings leave: no due timer, the latches of lines, the place, and ready dispatchers in the ready list.
use Rattle.std.proofs.Common.{◌≡◌, ℕ, zero, suc, ◌+◌, ◌<◌, ◌≤◌, List, [], ◌∷◌, length, Bool, true, false, Option, Some, None, refl, sym, ap, ◌∙◌, subst, arith, map}
use Rattle.std.specs.Prelude.{slice_get, filter, ◌==◌, not, if◌then◌else◌, count_by, ◌||◌}
use Rattle.std.specs.List.{list_any}
use Rattle.std.specs.Option.{option_map}
use Rattle.std.proofs.lemmas.Option.{slice_get-map}
use Rattle.std.proofs.lemmas.Bool.Decides.{nat_tests}
use Rattle.std.proofs.lemmas.List.Folds.{list_any-append}
use Rattle.std.proofs.lemmas.List.Sums.{length-filter}
use Rattle.std.proofs.lemmas.Bool.{or_right}
use Rattle.dc_base.specs.declared.dispatchers.DispState.{DispState}
use Rattle.dc_base.specs.declared.dispatchers.DispState.TheVariants as disp
use Rattle.dc_base.specs.declared.dispatchers.Wait.{Wait}
use Rattle.dc_base.specs.declared.dispatchers.Wait.TheVariants as wait
use Rattle.dc_base.specs.declared.interrupts.Latch.{Latch}
use Rattle.dc_base.specs.declared.interrupts.Source.TheVariants as source
use Rattle.dc_base.specs.declared.interrupts.Timer.{Timer}
use Rattle.dc_base.specs.declared.kernels.Version.{Version}
use Rattle.dc_base.specs.declared.kernels.Version.TheVariants as version
use Rattle.dc_base.specs.Words.{change, count_of}
use Rattle.dc_base.specs.Timers.{due_timer, soonest, sooner, is_sooner, if_due, without_timer}
use Rattle.dc_base.specs.Ports.{latch_at, signal_after, signals_after}
use Rattle.dc_base.specs.Policies.{pick, earliest, earlier, is_earlier}
use Rattle.dc_base.specs.ControlBlocks.{ControlBlock}
use Rattle.dc_base.specs.Lines.{line_latch}
use Rattle.dc_base.specs.Firing.{waits_so, waiters_from, state_after_wake, wake, latch_in, after_firing, Fired, fire_if, fire_from, fire_all}
use Rattle.dc_base.specs.KeptByBlocks.{HasReady, is_ready}
use Rattle.dc_refine.proofs.Stands.{SameLatchesIn, same_latches_both, same_signals}

-- a latch of a timer comes to a signal: the latches of lines stay
timer_comes : (signals : List (Option Latch)) (i : ℕ) (l : Latch) → l.source ≡ source.Timer → (m n j : ℕ) → latch_at signals j ≡ Some (line_latch m n) → latch_at (change (signal_after l) i signals) j ≡ Some (line_latch m n)
timer_comes [] i l e m n j g = cc
timer_comes (None ∷ signals) zero l e m n zero g = cc
timer_comes (Some k ∷ signals) zero l e m n zero g = g
timer_comes (o ∷ signals) zero l e m n (suc j) g = g
timer_comes (o ∷ signals) (suc i) l e m n zero g = g
timer_comes (o ∷ signals) (suc i) l e m n (suc j) g = timer_comes signals i l e m n j g

was_there : (signals : List (Option Latch)) (i : ℕ) (l : Latch) → l.source ≡ source.Timer → (m n j : ℕ) → latch_at (change (signal_after l) i signals) j ≡ Some (line_latch m n) → latch_at signals j ≡ Some (line_latch m n)
was_there [] i l e m n j g = cc
was_there (None ∷ signals) zero l e m n zero g = let f : l ≡ line_latch m n = cc in let k : source.Timer ≡ source.Line (record { 0 = m }) = sym e ∙ ap (λ (v : Latch). v.source) f in cc
was_there (Some k ∷ signals) zero l e m n zero g = g
was_there (o ∷ signals) zero l e m n (suc j) g = g
was_there (o ∷ signals) (suc i) l e m n zero g = g
was_there (o ∷ signals) (suc i) l e m n (suc j) g = was_there signals i l e m n j g

fire_latches : (t : Timer) (x : ControlBlock) → SameLatchesIn x.parts (after_firing t x).parts
unfolding latch_in wake signals_after
fire_latches t x = record {
  there = λ m n j. (timer_comes x.parts.signals t.signal.0 (record { source = source.Timer; value = t.value }) refl m n j, was_there x.parts.signals t.signal.0 (record { source = source.Timer; value = t.value }) refl m n j);
}

fire_timers : (t : Timer) (x : ControlBlock) → (after_firing t x).parts.timers ≡ without_timer t x.parts.timers
unfolding latch_in wake
fire_timers t x = refl

-- each dispatcher of the ready list is ready
abbrev pub ReadyAreReady : ControlBlock → Type 0
ReadyAreReady x = (d : ℕ) → list_any (λ e. e == d) x.ready ≡ true → slice_get x.states d ≡ Some disp.Ready

abbrev Waiter : ℕ → Wait → List DispState → ℕ → Type 0
Waiter n w ss d = (i : ℕ) × (d ≡ n + i) × (slice_get (map (state_after_wake w) ss) i ≡ Some disp.Ready)

waiter_further : (n : ℕ) (w : Wait) (s : DispState) (ss : List DispState) (d : ℕ) → Waiter (n + 1) w ss d → Waiter n w (s ∷ ss) d
waiter_further n w s ss d r = (suc r.0, omega (arith, r.1), r.2)

waiter_number : (n : ℕ) (w : Wait) (s : DispState) (ss : List DispState) (d : ℕ) → (list_any (λ e. e == d) (waiters_from (n + 1) w ss) ≡ true → Waiter (n + 1) w ss d) → waits_so w s ≡ true →
    (t : Bool) → (n == d) ≡ t → (t || list_any (λ e. e == d) (waiters_from (n + 1) w ss)) ≡ true → Waiter n w (s ∷ ss) d
waiter_number n w s ss d more f true e g = (0, grind (arith, nat_tests, e), ap (λ t. Some (if t then disp.Ready else s)) f)
waiter_number n w s ss d more f false e g = waiter_further n w s ss d (more g)

waiter_by : (n : ℕ) (w : Wait) (s : DispState) (ss : List DispState) (d : ℕ) → (list_any (λ e. e == d) (waiters_from (n + 1) w ss) ≡ true → Waiter (n + 1) w ss d) →
    (t : Bool) → waits_so w s ≡ t → list_any (λ e. e == d) (if t then n ∷ waiters_from (n + 1) w ss else waiters_from (n + 1) w ss) ≡ true → Waiter n w (s ∷ ss) d
waiter_by n w s ss d more true e g = waiter_number n w s ss d more e (n == d) refl g
waiter_by n w s ss d more false e g = waiter_further n w s ss d (more g)

waiter_listed : (n : ℕ) (w : Wait) (ss : List DispState) (d : ℕ) → list_any (λ e. e == d) (waiters_from n w ss) ≡ true → Waiter n w ss d
waiter_listed n w [] d h = cc
waiter_listed n w (s ∷ ss) d h = waiter_by n w s ss d (λ g. waiter_listed (n + 1) w ss d g) (waits_so w s) refl h

wake_ready : (w : Wait) (x : ControlBlock) → ReadyAreReady x → ReadyAreReady (wake w x)
unfolding wake
wake_ready w x h d g = by_part (list_any (λ e. e == d) x.ready) refl (sym (list_any-append (λ e. e == d) x.ready (waiters_from 0 w x.states)) ∙ g)
  where
    by_part : (t : Bool) → list_any (λ e. e == d) x.ready ≡ t → (t || list_any (λ e. e == d) (waiters_from 0 w x.states)) ≡ true → slice_get (map (state_after_wake w) x.states) d ≡ Some disp.Ready
    by_part true e f = slice_get-map (state_after_wake w) x.states d ∙ ap (option_map (state_after_wake w)) (h d e)
    by_part false e f = let r = waiter_listed 0 w x.states d f in let same : d ≡ r.0 = omega (arith, r.1) in ap (slice_get (map (state_after_wake w) x.states)) same ∙ r.2

fire_ready : (t : Timer) (x : ControlBlock) → ReadyAreReady x → ReadyAreReady (after_firing t x)
unfolding latch_in
fire_ready t x h = wake_ready (wait.Signal (record { 0 = t.signal.0 }))
    (record x { parts = record x.parts { timers = without_timer t x.parts.timers; signals = signals_after t.signal.0 (record { source = source.Timer; value = t.value }) x.parts.signals } }) h

-- one timer fewer
abbrev NumberListed : Timer → List Timer → Type 0
NumberListed t ts = list_any (λ (u : Timer). u.number == t.number) ts ≡ true

first_number : (u t : Timer) (us : List Timer) → u ≡ t → NumberListed t (u ∷ us)
first_number u t us e = let k : u.number ≡ t.number = ap (λ (v : Timer). v.number) e in let f : (u.number == t.number) ≡ true = grind (arith, nat_tests, k) in ap (λ v. v || list_any (λ (v : Timer). v.number == t.number) us) f

soonest_test : (u t w : Timer) (us : List Timer) → (w ≡ t → NumberListed t us) → (v : Bool) → (if v then w else u) ≡ t → NumberListed t (u ∷ us)
soonest_test u t w us more true g = or_right (u.number == t.number) (list_any (λ (v : Timer). v.number == t.number) us) (more g)
soonest_test u t w us more false g = first_number u t us g

soonest_by : (u t : Timer) (us : List Timer) → (soonest us ≡ Some t → NumberListed t us) → (o : Option Timer) → soonest us ≡ o → Some (sooner u o) ≡ Some t → NumberListed t (u ∷ us)
soonest_by u t us more None e g = first_number u t us (let k : u ≡ t = cc in k)
soonest_by u t us more (Some w) e g = soonest_test u t w us (λ h. more (e ∙ ap Some h)) (is_sooner w u) (let k : sooner u (Some w) ≡ t = cc in k)

soonest_listed : (ts : List Timer) (t : Timer) → soonest ts ≡ Some t → NumberListed t ts
soonest_listed [] t h = cc
soonest_listed (u ∷ us) t h = soonest_by u t us (λ g. soonest_listed us t g) (soonest us) refl h

at_most_by : {A : Type 0} → (x : A) (t : Bool) (ys : List A) (n : ℕ) → length ys ≤ n → length (if not t then x ∷ ys else ys) ≤ suc n
at_most_by x true ys n h = omega arith
at_most_by x false ys n h = omega arith

filter_at_most : {A : Type 0} → (p : A → Bool) (xs : List A) → length (filter (λ x. not (p x)) xs) ≤ length xs
filter_at_most p [] = omega arith
filter_at_most p (x ∷ xs) = at_most_by x (p x) (filter (λ x. not (p x)) xs) (length xs) (filter_at_most p xs)

shorter_by : {A : Type 0} → (x : A) (t u : Bool) (ys : List A) (n : ℕ) → length ys ≤ n → (u ≡ true → length ys < n) → (t || u) ≡ true → length (if not t then x ∷ ys else ys) < suc n
shorter_by x true u ys n h more g = omega arith
shorter_by x false u ys n h more g = let k = more g in omega (arith, k)

filter_shorter : {A : Type 0} → (p : A → Bool) (xs : List A) → list_any p xs ≡ true → length (filter (λ x. not (p x)) xs) < length xs
filter_shorter p [] h = cc
filter_shorter p (x ∷ xs) h = shorter_by x (p x) (list_any p xs) (filter (λ x. not (p x)) xs) (length xs) (filter_at_most p xs) (λ g. filter_shorter p xs g) h

due_soonest : (time : ℕ) (ts : List Timer) (t : Timer) → due_timer time ts ≡ Some t → soonest ts ≡ Some t
unfolding due_timer
due_soonest time ts t h = by_soonest (soonest ts) h
  where
    by_test : (u : Timer) (v : Bool) → (if v then Some u else None) ≡ Some t → Some u ≡ Some t
    by_test u true g = g
    by_test u false g = cc

    by_soonest : (o : Option Timer) → if_due time o ≡ Some t → o ≡ Some t
    by_soonest None g = g
    by_soonest (Some u) g = by_test u _ g

none_of_none : (time : ℕ) (ts : List Timer) → length ts ≤ 0 → due_timer time ts ≡ None
unfolding due_timer
none_of_none time [] h = refl
none_of_none time (t ∷ ts) h = absurd (omega (arith, h))

-- what firings leave
pub record FiredWell (time : ℕ) (x : ControlBlock) (f : Fired) : Type 0 where
  pub latches_kept : SameLatchesIn x.parts f.control.parts
  pub none_left : due_timer time f.control.parts.timers ≡ None
  pub all_ready : ReadyAreReady f.control

well_by : (time n : ℕ) (x : ControlBlock) (further : ControlBlock → Fired) → ((y : ControlBlock) → length y.parts.timers ≤ n → ReadyAreReady y → FiredWell time y (further y)) → length x.parts.timers ≤ suc n → ReadyAreReady x →
    (o : Option Timer) → due_timer time x.parts.timers ≡ o → FiredWell time x (fire_if further x o)
well_by time n x further more h ready None e = record { latches_kept = same_signals x.parts x.parts refl; none_left = e; all_ready = ready }
well_by time n x further more h ready (Some t) e =
    let shorter = filter_shorter (λ (u : Timer). u.number == t.number) x.parts.timers (soonest_listed x.parts.timers t (due_soonest time x.parts.timers t e)) in
    let r = more (after_firing t x) (let k = ap length (fire_timers t x) in omega (arith, shorter, k)) (fire_ready t x ready) in
    record {
      latches_kept = same_latches_both x.parts (after_firing t x).parts (further (after_firing t x)).control.parts (fire_latches t x) r.latches_kept;
      none_left = r.none_left;
      all_ready = r.all_ready;
    }

fired_from : (time n : ℕ) (x : ControlBlock) → length x.parts.timers ≤ n → ReadyAreReady x → FiredWell time x (fire_from time n x)
fired_from time zero x h ready = record { latches_kept = same_signals x.parts x.parts refl; none_left = none_of_none time x.parts.timers h; all_ready = ready }
fired_from time (suc n) x h ready = well_by time n x (fire_from time n) (λ y g r. fired_from time n y g r) h ready (due_timer time x.parts.timers) refl

pub fired_well : (time : ℕ) (x : ControlBlock) → ReadyAreReady x → FiredWell time x (fire_all time x)
unfolding fire_all
fired_well time x ready = fired_from time (length x.parts.timers) x (omega arith) ready

-- what is picked is listed
first_listed : (e d : ℕ) (es : List ℕ) → e ≡ d → list_any (λ f. f == d) (e ∷ es) ≡ true
first_listed e d es k = let f : (e == d) ≡ true = grind (arith, nat_tests, k) in ap (λ v. v || list_any (λ f. f == d) es) f

earliest_test : (e d w : ℕ) (es : List ℕ) → (w ≡ d → list_any (λ f. f == d) es ≡ true) → (v : Bool) → (if v then w else e) ≡ d → list_any (λ f. f == d) (e ∷ es) ≡ true
earliest_test e d w es more true g = or_right (e == d) (list_any (λ f. f == d) es) (more g)
earliest_test e d w es more false g = first_listed e d es g

earliest_by : (dues : List ℕ) (e d : ℕ) (es : List ℕ) → (earliest dues es ≡ Some d → list_any (λ f. f == d) es ≡ true) → (o : Option ℕ) → earliest dues es ≡ o → Some (earlier dues e o) ≡ Some d → list_any (λ f. f == d) (e ∷ es) ≡ true
earliest_by dues e d es more None k g = first_listed e d es (let m : e ≡ d = cc in m)
earliest_by dues e d es more (Some w) k g = earliest_test e d w es (λ h. more (k ∙ ap Some h)) (is_earlier dues w e) (let m : earlier dues e (Some w) ≡ d = cc in m)

earliest_listed : (dues ds : List ℕ) (d : ℕ) → earliest dues ds ≡ Some d → list_any (λ e. e == d) ds ≡ true
earliest_listed dues [] d h = cc
earliest_listed dues (e ∷ es) d h = earliest_by dues e d es (λ g. earliest_listed dues es d g) (earliest dues es) refl h

pub pick_listed : (v : Version) (dues ready : List ℕ) (d : ℕ) → pick v dues ready ≡ Some d → list_any (λ e. e == d) ready ≡ true
unfolding pick
pick_listed version.Rr dues [] d h = cc
pick_listed version.Rr dues (e ∷ es) d h = first_listed e d es (let k : e ≡ d = cc in k)
pick_listed version.Edf dues [] d h = cc
pick_listed version.Edf dues (e ∷ es) d h = earliest_listed dues (e ∷ es) d h

-- the part of soundness that the ready list needs
kept_by : (e : ℕ) (t u : Bool) (ys : List ℕ) → (u ≡ true → 0 < length ys) → (t || u) ≡ true → 0 < length (if t then e ∷ ys else ys)
kept_by e true u ys more g = omega arith
kept_by e false u ys more g = more g

kept_listed : (ds : List ℕ) (d : ℕ) → list_any (λ e. e == d) ds ≡ true → 0 < length (filter (λ e. e == d) ds)
kept_listed [] d h = cc
kept_listed (e ∷ ds) d h = kept_by e (e == d) (list_any (λ e. e == d) ds) (filter (λ e. e == d) ds) (λ g. kept_listed ds d g) h

is_listed : (ds : List ℕ) (d : ℕ) → list_any (λ e. e == d) ds ≡ true → 0 < count_by (λ e. e == d) ds
is_listed ds d h = subst (λ n. 0 < n) (length-filter (λ e. e == d) ds) (kept_listed ds d h)

ready_by : (o : Option DispState) → 0 < count_of (is_ready o) → o ≡ Some disp.Ready
ready_by None h = absurd (omega (arith, h))
ready_by (Some disp.Ready) h = refl
ready_by (Some disp.Halted) h = absurd (omega (arith, h))
ready_by (Some (disp.Trapped x)) h = absurd (omega (arith, h))
ready_by (Some (disp.Waits w)) h = absurd (omega (arith, h))

pub ready_from : (x : ControlBlock) → HasReady x → ReadyAreReady x
ready_from x h d g = let k = is_listed x.ready d g in ready_by (slice_get x.states d) (subst (λ n. 0 < n) (h d) k)
