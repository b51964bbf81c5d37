-- Each ready dispatcher stands in the ready list once, and no other: what wakes, fires, runs or waits keeps this.
use Rattle.std.proofs.Common.{◌≡◌, ◌⊎◌, ℕ, zero, suc, ◌+◌, ◌≤◌, ◌<◌, List, [], ◌∷◌, ◌++◌, Bool, true, false, Option, Some, None, refl, sym, ap, ◌∙◌, subst, inl, inr, arith}
use Rattle.std.proofs.lemmas.Option.{slice_get-map}
use Rattle.std.proofs.lemmas.List.Sums.{sum_by-cons, sum_by-append}
use Rattle.std.specs.Prelude.{slice_get, slice_set, ◌==◌, not, if◌then◌else◌}
use Rattle.std.specs.List.{count_by}
use Rattle.std.specs.Option.{option_map}
use Rattle.dc_base.specs.declared.calls.Need.{Need}
use Rattle.dc_base.specs.declared.dispatchers.DispState.{DispState}
use Rattle.dc_base.specs.declared.dispatchers.DispState.TheVariants as disp
use Rattle.dc_base.specs.declared.interrupts.Latch.{Latch}
use Rattle.dc_base.specs.declared.interrupts.Timer.{Timer}
use Rattle.dc_base.specs.declared.dispatchers.Wait.{Wait}
use Rattle.dc_base.specs.Ahead.{Ahead, AheadEnd, at_quantum, at_halt, at_trap, at_call, ahead}
use Rattle.dc_base.specs.ControlBlocks.{ControlBlock}
use Rattle.dc_base.specs.Effects.{Context}
use Rattle.dc_base.specs.Firing.{waits_so, waiters_from, state_after_wake, wake, latch_in, after_firing, fire_if, fire_from, fire_all, wake_if}
use Rattle.dc_base.specs.KeptByBlocks.{HasReady, is_ready}
use Rattle.dc_base.specs.Policies.{pick, front, earliest, earlier, is_earlier}
use Rattle.dc_base.specs.Serving.{need, Outside, Served, faulted, held_up, served, serve}
use Rattle.dc_base.specs.Slices.{Halfway, stopped, stands, after_served, after_ahead, halfway, due_after, slice_end, without_ready, ready_last, with_state, with_ahead}
use Rattle.dc_base.specs.Timers.{due_timer}
use Rattle.dc_base.specs.Wakes.{ready_again}
use Rattle.dc_base.specs.Words.{without, count_of, bind}
use Rattle.dc_base.specs.declared.calls.Op.{Op}
use Rattle.dc_base.specs.declared.kernels.Version.{Version}
use Rattle.dc_base.specs.declared.kernels.Version.TheVariants as version
use Rattle.dc_block_sound.proofs.Elements.{is_same, same_is, other_is, same_or_not, set_here, set_other}

abbrev pub times_in : ℕ → List ℕ → ℕ
times_in d xs = count_by (λ e. e == d) xs

abbrev pub one_if : Bool → ℕ
one_if t = if t then 1 else 0

pub times-cons : (d x : ℕ) (xs : List ℕ) → times_in d (x ∷ xs) ≡ one_if (x == d) + times_in d xs
times-cons d x xs = sum_by-cons (λ e. one_if (e == d)) x xs

pub times-append : (d : ℕ) (xs ys : List ℕ) → times_in d (xs ++ ys) ≡ times_in d xs + times_in d ys
times-append d xs ys = sum_by-append (λ e. one_if (e == d)) xs ys

one_other : (x d : ℕ) → (x ≡ d → ⊥) → one_if (x == d) ≡ 0
one_other x d h = ap (λ (t : Bool). one_if t) (other_is x d h)

pub one_same : (d : ℕ) → one_if (d == d) ≡ 1
one_same d = ap (λ (t : Bool). one_if t) (same_is d)

-- waiters

waits_at : Wait → Option DispState → ℕ
waits_at w None = 0
waits_at w (Some s) = one_if (waits_so w s)

below_none : (w : Wait) (ss : List DispState) (n d : ℕ) → d < n → times_in d (waiters_from n w ss) ≡ 0
below_none w [] n d h = refl
below_none w (s ∷ ss) n d h = by_test (waits_so w s) (below_none w ss (n + 1) d (omega arith))
  where
    by_test : (t : Bool) → times_in d (waiters_from (n + 1) w ss) ≡ 0 → times_in d (if t then n ∷ waiters_from (n + 1) w ss else waiters_from (n + 1) w ss) ≡ 0
    by_test true k = let c = times-cons d n (waiters_from (n + 1) w ss) in let o = one_other n d (λ e. omega arith) in omega (arith, c, o, k)
    by_test false k = k

first_by : (w : Wait) (ss : List DispState) (n : ℕ) → times_in n (waiters_from (n + 1) w ss) ≡ 0 → (t : Bool) → times_in n (if t then n ∷ waiters_from (n + 1) w ss else waiters_from (n + 1) w ss) ≡ one_if t
first_by w ss n k true = let c = times-cons n n (waiters_from (n + 1) w ss) in let o = one_same n in omega (arith, c, o, k)
first_by w ss n k false = k

later_by : (w : Wait) (ss : List DispState) (n d : ℕ) → n < d → (t : Bool) → times_in d (if t then n ∷ waiters_from (n + 1) w ss else waiters_from (n + 1) w ss) ≡ times_in d (waiters_from (n + 1) w ss)
later_by w ss n d h true = let c = times-cons d n (waiters_from (n + 1) w ss) in let o = one_other n d (λ e. omega arith) in omega (arith, c, o)
later_by w ss n d h false = refl

waiters_times : (w : Wait) (ss : List DispState) (n i : ℕ) → times_in (n + i) (waiters_from n w ss) ≡ waits_at w (slice_get ss i)
unfolding waits_at
waiters_times w [] n i = refl
waiters_times w (s ∷ ss) n zero =
    let z : n + 0 ≡ n = omega arith in
    subst (λ d. times_in d (waiters_from n w (s ∷ ss)) ≡ one_if (waits_so w s)) (sym z) (first_by w ss n (below_none w ss (n + 1) n (omega arith)) (waits_so w s))
waiters_times w (s ∷ ss) n (suc i) =
    let z : n + suc i ≡ (n + 1) + i = omega arith in
    later_by w ss n (n + suc i) (omega arith) (waits_so w s) ∙ subst (λ d. times_in d (waiters_from (n + 1) w ss) ≡ waits_at w (slice_get ss i)) (sym z) (waiters_times w ss (n + 1) i)

-- a wake makes ready exactly those that wait so

woken : (w : Wait) (o : Option DispState) → count_of (is_ready (option_map (state_after_wake w) o)) ≡ count_of (is_ready o) + waits_at w o
unfolding waits_at
woken w None = refl
woken w (Some disp.Ready) = refl
woken w (Some (disp.Waits v)) = by_test (waits_so w (disp.Waits v))
  where
    by_test : (t : Bool) → count_of (is_ready (Some (if t then disp.Ready else disp.Waits v))) ≡ 0 + one_if t
    by_test true = refl
    by_test false = refl
woken w (Some disp.Halted) = refl
woken w (Some (disp.Trapped x)) = refl

-- so many times more in the ready list than it is ready: what a wake, a latch and a firing leave as it is
abbrev pub Owes : (ℕ → ℕ) → ControlBlock → Type 0
Owes f x = (d : ℕ) → times_in d x.ready + f d ≡ count_of (is_ready (slice_get x.states d))

module _ (f : ℕ → ℕ) where
  pub wake_owes : (w : Wait) (x : ControlBlock) → Owes f x → Owes f (wake w x)
  unfolding wake
  wake_owes w x h d =
      let a = times-append d x.ready (waiters_from 0 w x.states) in
      let z : 0 + d ≡ d = omega arith in
      let b : times_in d (waiters_from 0 w x.states) ≡ waits_at w (slice_get x.states d) = subst (λ n. times_in n (waiters_from 0 w x.states) ≡ waits_at w (slice_get x.states d)) z (waiters_times w x.states 0 d) in
      let c = ap (λ o. count_of (is_ready o)) (slice_get-map (state_after_wake w) x.states d) ∙ woken w (slice_get x.states d) in
      let k = h d in
      omega (arith, a, b, c, k)

  pub latch_owes : (s : ℕ) (l : Latch) (x : ControlBlock) → Owes f x → Owes f (latch_in s l x)
  unfolding latch_in
  latch_owes s l x h = wake_owes _ _ h

  fired_by : (time n : ℕ) (x : ControlBlock) → Owes f x → ((y : ControlBlock) → Owes f y → Owes f (fire_from time n y).control) → (o : Option Timer) → Owes f (fire_if (fire_from time n) x o).control
  fired_by time n x h more None = h
  fired_by time n x h more (Some t) = more (after_firing t x) (latch_owes _ _ _ h)

  from_owes : (time n : ℕ) (x : ControlBlock) → Owes f x → Owes f (fire_from time n x).control
  from_owes time zero x h = h
  from_owes time (suc n) x h = fired_by time n x h (λ y k. from_owes time n y k) (due_timer time x.parts.timers)

  pub fire_owes : (time : ℕ) (x : ControlBlock) → Owes f x → Owes f (fire_all time x).control
  unfolding fire_all
  fire_owes time x h = from_owes time _ x h

pub ready_owes : (x : ControlBlock) → HasReady x → Owes (λ d. 0) x
ready_owes x h d = let k = h d in omega (arith, k)

pub owes_ready : (x : ControlBlock) → Owes (λ d. 0) x → HasReady x
owes_ready x h d = let k = h d in omega (arith, k)

-- the dispatcher that runs is out of the ready list, which owes it once

abbrev pub owed : ℕ → ℕ → ℕ
owed d e = one_if (d == e)

without_by : (d e x : ℕ) (xs : List ℕ) → (d ≡ e → ⊥) → times_in e (without d xs) ≡ times_in e xs → (t : Bool) → (x == d) ≡ t → times_in e (if not t then x ∷ without d xs else without d xs) ≡ one_if (x == e) + times_in e xs
without_by d e x xs n h true q = let o = one_other x e (λ g. n (sym (is_same x d q) ∙ g)) in omega (arith, h, o)
without_by d e x xs n h false q = let c = times-cons e x (without d xs) in omega (arith, c, h)

without_other : (d e : ℕ) (xs : List ℕ) → (d ≡ e → ⊥) → times_in e (without d xs) ≡ times_in e xs
without_other d e [] n = refl
without_other d e (x ∷ xs) n = without_by d e x xs n (without_other d e xs n) (x == d) refl ∙ sym (times-cons e x xs)

none_by : (d x : ℕ) (xs : List ℕ) → times_in d (without d xs) ≡ 0 → (t : Bool) → (x == d) ≡ t → times_in d (if not t then x ∷ without d xs else without d xs) ≡ 0
none_by d x xs h true q = h
none_by d x xs h false q = let c = times-cons d x (without d xs) in let o = ap (λ (t : Bool). one_if t) q in omega (arith, c, o, h)

pub without_same : (d : ℕ) (xs : List ℕ) → times_in d (without d xs) ≡ 0
without_same d [] = refl
without_same d (x ∷ xs) = none_by d x xs (without_same d xs) (x == d) refl

-- the dispatcher that is picked is in the list

earlier_by : (dues : List ℕ) (x : ℕ) (xs : List ℕ) (d : ℕ) → ((k : ℕ) → earliest dues xs ≡ Some k → 0 < times_in k xs) → (o : Option ℕ) → earliest dues xs ≡ o → Some (earlier dues x o) ≡ Some d → 0 < one_if (x == d) + times_in d xs
earlier_by dues x xs d more None q h = let e : x ≡ d = cc in let o = one_same d in let z : one_if (x == d) ≡ one_if (d == d) = ap (λ y. one_if (y == d)) e in omega (arith, o, z)
earlier_by dues x xs d more (Some k) q h = by_test (is_earlier dues k x) h
  where
    by_test : (t : Bool) → Some (if t then k else x) ≡ Some d → 0 < one_if (x == d) + times_in d xs
    by_test true h = let e : k ≡ d = cc in let m : 0 < times_in d xs = subst (λ y. 0 < times_in y xs) e (more k q) in omega (arith, m)
    by_test false h = let e : x ≡ d = cc in let o = one_same d in let z : one_if (x == d) ≡ one_if (d == d) = ap (λ y. one_if (y == d)) e in omega (arith, o, z)

earliest_in : (dues xs : List ℕ) (d : ℕ) → earliest dues xs ≡ Some d → 0 < times_in d xs
earliest_in dues [] d h = absurd cc
earliest_in dues (x ∷ xs) d h = let c = times-cons d x xs in let m = earlier_by dues x xs d (λ k q. earliest_in dues xs k q) (earliest dues xs) refl h in omega (arith, c, m)

front_in : (xs : List ℕ) (d : ℕ) → front xs ≡ Some d → 0 < times_in d xs
front_in [] d h = absurd cc
front_in (x ∷ xs) d h = let e : x ≡ d = cc in let c = times-cons d x xs in let o = one_same d in let z : one_if (x == d) ≡ one_if (d == d) = ap (λ y. one_if (y == d)) e in omega (arith, c, o, z)

pub picked_in : (v : Version) (dues xs : List ℕ) (d : ℕ) → pick v dues xs ≡ Some d → 0 < times_in d xs
unfolding pick
picked_in version.Rr dues xs d h = front_in xs d h
picked_in version.Edf dues xs d h = earliest_in dues xs d h

pub count_most : (t : Bool) → count_of t ≤ 1
count_most true = omega arith
count_most false = omega arith

pub without_owes : (x : ControlBlock) (d : ℕ) → HasReady x → 0 < times_in d x.ready → Owes (owed d) (without_ready d x)
without_owes x d h m e = by_same (same_or_not d e)
  where
    by_same : (d ≡ e) ⊎ (d ≡ e → ⊥) → times_in e (without d x.ready) + owed d e ≡ count_of (is_ready (slice_get x.states e))
    by_same (inl q) =
        let z : times_in e (without d x.ready) ≡ 0 = subst (λ n. times_in n (without d x.ready) ≡ 0) q (without_same d x.ready) in
        let o : owed d e ≡ 1 = ap (owed d) (sym q) ∙ one_same d in
        let k = h e in let l = count_most (is_ready (slice_get x.states e)) in
        let m1 : 0 < times_in e x.ready = subst (λ n. 0 < times_in n x.ready) q m in
        omega (arith, z, o, k, l, m1)
    by_same (inr n) = let a = without_other d e x.ready n in let o = one_other d e n in let k = h e in omega (arith, a, o, k)

-- it is last in the list again
last_ready : (x : ControlBlock) (d : ℕ) → Owes (owed d) x → HasReady (ready_last d x)
last_ready x d h e = let a = times-append e x.ready (d ∷ []) in let c = times-cons e d [] in let k = h e in omega (arith, a, c, k)

-- or it is in a state that is not ready
out_ready : (x : ControlBlock) (d : ℕ) (st : DispState) → is_ready (Some st) ≡ false → Owes (owed d) x → HasReady (with_state d st x)
out_ready x d st r h e = by_same (same_or_not d e)
  where
    by_there : (o : Option DispState) → slice_get x.states e ≡ o → d ≡ e → times_in e x.ready ≡ count_of (is_ready (slice_get (slice_set x.states d st) e))
    by_there None q same = let k = h e in let g = ap (λ o. count_of (is_ready o)) q in let o : owed d e ≡ 1 = ap (owed d) (sym same) ∙ one_same d in absurd (omega (arith, k, g, o))
    by_there (Some old) q same =
        let k = h e in let l = count_most (is_ready (slice_get x.states e)) in let o : owed d e ≡ 1 = ap (owed d) (sym same) ∙ one_same d in
        let g : slice_get (slice_set x.states d st) e ≡ Some st = subst (λ n. slice_get (slice_set x.states n st) e ≡ Some st) (sym same) (set_here x.states e old st q) in
        let z : count_of (is_ready (slice_get (slice_set x.states d st) e)) ≡ 0 = ap (λ o. count_of (is_ready o)) g ∙ ap count_of r in
        omega (arith, k, l, o, z)

    by_same : (d ≡ e) ⊎ (d ≡ e → ⊥) → times_in e x.ready ≡ count_of (is_ready (slice_get (slice_set x.states d st) e))
    by_same (inl same) = by_there (slice_get x.states e) refl same
    by_same (inr n) = let k = h e in let o = one_other d e n in let z = ap (λ o. count_of (is_ready o)) (set_other x.states d e st n) in omega (arith, k, o, z)

-- a whole slice

if_owes : (f : ℕ → ℕ) (w : Option Wait) (x : ControlBlock) → Owes f x → Owes f (wake_if w x)
if_owes f None x h = h
if_owes f (Some w) x h = wake_owes f w x h

answer_ready : (x : ControlBlock) (d ran : ℕ) (o : Op) (n : Need) (out : Outside) (a : Served) → Owes (owed d) x → HasReady (after_served x d ran o n out a).control
answer_ready x d ran o n out (faulted y) h = out_ready x d (disp.Trapped y) refl h
answer_ready x d ran o n out (held_up w) h = out_ready x d (disp.Waits w) refl h
answer_ready x d ran o n out (served w p new) h = last_ready (wake_if w (record x { parts = p })) d (if_owes (owed d) w (record x { parts = p }) h)

-- how a slice stands before its call is answered
abbrev pub HalfReady : ℕ → Halfway → Type 0
HalfReady d (stopped x ran e) = HasReady x
HalfReady d (stands x ran o call) = Owes (owed d) x

ahead_ready : (time : ℕ) (x : ControlBlock) (d : ℕ) (a : Ahead) (e : AheadEnd) → Owes (owed d) x → HalfReady d (after_ahead time x d a e)
ahead_ready time x d a at_quantum h = last_ready (with_ahead x d a) d h
ahead_ready time x d a at_halt h = out_ready (with_ahead x d a) d disp.Halted refl h
ahead_ready time x d a (at_trap y) h = out_ready (with_ahead x d a) d (disp.Trapped y) refl h
ahead_ready time x d a (at_call o i) h = h

context_ready : (quantum time : ℕ) (x : ControlBlock) (d : ℕ) (h : Halfway) → Owes (owed d) x → (code : List ℕ) (o : Option Context) →
    bind o (λ c. Some (after_ahead time x d (ahead time code quantum c x.parts.memory) (ahead time code quantum c x.parts.memory).end)) ≡ Some h → HalfReady d h
context_ready quantum time x d h w code None e = absurd cc
context_ready quantum time x d h w code (Some c) e =
    let a = ahead time code quantum c x.parts.memory in
    let same : after_ahead time x d a a.end ≡ h = cc in
    subst (HalfReady d) same (ahead_ready time x d a a.end w)

code_ready : (quantum time : ℕ) (x : ControlBlock) (d : ℕ) (h : Halfway) → Owes (owed d) x → (o : Option (List ℕ)) →
    bind o (λ code. bind (slice_get x.parts.contexts d) (λ c. Some (after_ahead time x d (ahead time code quantum c x.parts.memory) (ahead time code quantum c x.parts.memory).end))) ≡ Some h → HalfReady d h
code_ready quantum time x d h w None e = absurd cc
code_ready quantum time x d h w (Some code) e = context_ready quantum time x d h w code (slice_get x.parts.contexts d) e

pub half_ready : (quantum time : ℕ) (x : ControlBlock) (d : ℕ) (h : Halfway) → Owes (owed d) x → halfway quantum time x d ≡ Some h → HalfReady d h
unfolding halfway
half_ready quantum time x d h w e = code_ready quantum time x d h w (slice_get x.parts.code d) e

due_ready : (v : Version) (d : ℕ) (x : ControlBlock) → HasReady x → HasReady (due_after v d x)
due_ready version.Rr d x h = h
due_ready version.Edf d x h = h

pub end_ready : (c n : ℕ) (v : Version) (d : ℕ) (h : Halfway) (out : Outside) → HalfReady d h → HasReady (slice_end c n v d h out).control
unfolding slice_end
end_ready c n v d (stopped x ran e) out h = due_ready v d x h
end_ready c n v d (stands x ran o call) out h = due_ready v d (after_served x d ran o (need call) out (serve c n call out)).control (answer_ready x d ran o (need call) out (serve c n call out) h)

-- a dispatcher that waited is ready again
pub again_ready : (x : ControlBlock) (d : ℕ) (st : DispState) → slice_get x.states d ≡ Some st → is_ready (Some st) ≡ false → HasReady x → HasReady (ready_again d x)
again_ready x d st q r h e = by_same (same_or_not d e)
  where
    by_same : (d ≡ e) ⊎ (d ≡ e → ⊥) → times_in e (x.ready ++ d ∷ []) ≡ count_of (is_ready (slice_get (slice_set x.states d disp.Ready) e))
    by_same (inl same) =
        let a = times-append e x.ready (d ∷ []) in let c = times-cons e d [] in let k = h e in
        let o : one_if (d == e) ≡ 1 = ap (λ n. one_if (d == n)) (sym same) ∙ one_same d in
        let z : count_of (is_ready (slice_get x.states e)) ≡ 0 = ap (λ n. count_of (is_ready (slice_get x.states n))) (sym same) ∙ ap (λ o. count_of (is_ready o)) q ∙ ap count_of r in
        let y : count_of (is_ready (slice_get (slice_set x.states d disp.Ready) e)) ≡ 1 = ap (λ n. count_of (is_ready (slice_get (slice_set x.states d disp.Ready) n))) (sym same) ∙ ap (λ o. count_of (is_ready o)) (set_here x.states d st disp.Ready q) in
        omega (arith, a, c, k, o, z, y)
    by_same (inr n) =
        let a = times-append e x.ready (d ∷ []) in let c = times-cons e d [] in let k = h e in let o = one_other d e n in
        let z = ap (λ o. count_of (is_ready o)) (set_other x.states d e disp.Ready n) in
        omega (arith, a, c, k, o, z)
