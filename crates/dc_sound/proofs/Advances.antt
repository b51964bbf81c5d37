-- How far a clock goes in one entry.
use Rattle.std.proofs.Common.{◌≡◌, ◌⊎◌, ℕ, zero, suc, ◌+◌, ◌*◌, ◌^◌, ◌≤◌, ◌<◌, List, [], ◌∷◌, ◌++◌, Bool, true, false, Option, Some, None, refl, sym, ap, ◌∙◌, subst, inl, inr, arith, map, ◌-◌}
use Rattle.std.proofs.Math.Bool.{or-true}
use Rattle.std.proofs.lemmas.List.Concat.{flat_map-cons}
use Rattle.dc_block_sound.proofs.Elements.{same_is, is_same}
use Rattle.std.proofs.lemmas.Int.{ints}
use Rattle.std.proofs.lemmas.Bool.Decides.{nat_tests}
use Rattle.std.specs.Prelude.{slice_get, max, ℤ, pos, negsuc, ◌+ℤ◌, ◌-ℤ◌, ◌≤ℤ◌, nat_lt, nat_le, ◌==◌, ◌||◌, if◌then◌else◌, is_some}
use Rattle.std.specs.List.{flat_map, find}
use Rattle.std.specs.Option.{option_map_or}
use Rattle.dc_base.specs.declared.calls.Need.{Need}
use Rattle.dc_base.specs.declared.interrupts.Timer.{Timer}
use Rattle.dc_base.specs.declared.calls.Op.{Op}
use Rattle.dc_base.specs.declared.kernels.Version.{Version}
use Rattle.dc_base.specs.Ahead.{Ahead, AheadEnd, at_quantum, at_halt, at_trap, at_call, ahead, ahead_from}
use Rattle.dc_base.specs.ControlBlocks.{ControlBlock}
use Rattle.dc_base.specs.Effects.{Context, Move, goes, halts, traps, calls, act}
use Rattle.dc_base.specs.Outcomes.{share_blocks, has}
use Rattle.dc_base.specs.Serving.{need, serve, Served, faulted, held_up, served, Outside}
use Rattle.dc_base.specs.Slices.{Halfway, stopped, stands, after_ahead, halfway, slice_end, after_served}
use Rattle.dc_base.specs.States.{Block, Member, time_on}
use Rattle.dc_base.specs.Steps.{can_run, is_runnable}
use Rattle.dc_base.specs.IdleTurns.{due_clock, due_clocks, next_due}
use Rattle.dc_base.specs.Timers.{is_sooner, sooner, soonest, if_due, due_timer, is_due}
use Rattle.dc_base.specs.Turns.{Looked, looked_at}
use Rattle.dc_base.specs.Words.{bind, Each, above_zero, least, lesser}

-- the plain part of a slice is at most so long

ran_by : (n : ℕ) (further : Context → List ℕ → Ahead) → ((c : Context) (m : List ℕ) → (further c m).ran ≤ n) → (c : Context) (m : List ℕ) (move : Move) → (ahead_from further c m move).ran ≤ suc n
ran_by n further h c m (goes d l) = let f = h d l in omega (arith, f)
ran_by n further h c m halts = omega arith
ran_by n further h c m (traps x) = omega arith
ran_by n further h c m (calls o i) = omega arith

ahead_ran : (time : ℕ) (code : List ℕ) (n : ℕ) (c : Context) (m : List ℕ) → (ahead time code n c m).ran ≤ n
ahead_ran time code zero c m = omega arith
ahead_ran time code (suc n) c m = ran_by n (ahead time code n) (λ d l. ahead_ran time code n d l) c m (act time code c m)

abbrev pub ran_of : Halfway → ℕ
ran_of (stopped x ran e) = ran
ran_of (stands x ran o call) = ran

end_ran : (time : ℕ) (x : ControlBlock) (d : ℕ) (a : Ahead) (e : AheadEnd) → ran_of (after_ahead time x d a e) ≡ a.ran
end_ran time x d a at_quantum = refl
end_ran time x d a at_halt = refl
end_ran time x d a (at_trap y) = refl
end_ran time x d a (at_call o i) = refl

context_ran : (quantum time : ℕ) (x : ControlBlock) (d : ℕ) (h : Halfway) (code : List ℕ) (o : Option Context) →
    bind o (λ c. Some (after_ahead time x d (ahead time code quantum c x.parts.memory) (ahead time code quantum c x.parts.memory).end)) ≡ Some h → ran_of h ≤ quantum
context_ran quantum time x d h code None e = absurd cc
context_ran quantum time x d h code (Some c) e =
    let a = ahead time code quantum c x.parts.memory in
    let same : after_ahead time x d a a.end ≡ h = cc in
    subst (λ n. n ≤ quantum) (sym (end_ran time x d a a.end) ∙ ap ran_of same) (ahead_ran time code quantum c x.parts.memory)

code_ran : (quantum time : ℕ) (x : ControlBlock) (d : ℕ) (h : Halfway) (o : Option (List ℕ)) →
    bind o (λ code. bind (slice_get x.parts.contexts d) (λ c. Some (after_ahead time x d (ahead time code quantum c x.parts.memory) (ahead time code quantum c x.parts.memory).end))) ≡ Some h → ran_of h ≤ quantum
code_ran quantum time x d h None e = absurd cc
code_ran quantum time x d h (Some code) e = context_ran quantum time x d h code (slice_get x.parts.contexts d) e

pub half_ran : (quantum time : ℕ) (x : ControlBlock) (d : ℕ) (h : Halfway) → halfway quantum time x d ≡ Some h → ran_of h ≤ quantum
unfolding halfway
half_ran quantum time x d h e = code_ran quantum time x d h (slice_get x.parts.code d) e

max_more : (n : ℕ) → max n 1 ≤ n + 1
max_more n = grind (arith, nat_tests)

answer_advance : (x : ControlBlock) (d ran : ℕ) (o : Op) (w : Need) (out : Outside) (a : Served) → (after_served x d ran o w out a).advance ≤ ran + 1
answer_advance x d ran o w out (faulted y) = max_more ran
answer_advance x d ran o w out (held_up v) = max_more ran
answer_advance x d ran o w out (served v p new) = omega arith

pub end_advance : (c n : ℕ) (v : Version) (d : ℕ) (h : Halfway) (out : Outside) → (slice_end c n v d h out).advance ≤ ran_of h + 1
unfolding slice_end
end_advance c n v d (stopped x ran e) out = max_more ran
end_advance c n v d (stands x ran o call) out = answer_advance x d ran o (need call) out (serve c n call out)

-- where no timer is due, each is later

lesser_by : (t u : Timer) (b : Bool) → is_sooner u t ≡ b → ((if b then u else t).deadline ≤ t.deadline) × ((if b then u else t).deadline ≤ u.deadline)
lesser_by t u true h = (grind (arith, nat_tests), omega arith)
lesser_by t u false h = (omega arith, grind (arith, nat_tests))

first_by : (x : Timer) (xs : List Timer) (u : Timer) → ((v : Timer) → soonest xs ≡ Some v → Each xs (λ i (t : Timer). v.deadline ≤ t.deadline)) → (o : Option Timer) → soonest xs ≡ o → Some (sooner x o) ≡ Some u →
    (i : ℕ) (t : Timer) → slice_get (x ∷ xs) i ≡ Some t → u.deadline ≤ t.deadline
first_by x xs u more None q h zero t e = let f : t.deadline ≡ u.deadline = cc in omega (arith, f)
first_by x [] u more None q h (suc i) t e = absurd cc
first_by x (y ∷ ys) u more None q h (suc i) t e = absurd cc
first_by x xs u more (Some v) q h zero t e =
    let l = lesser_by x v (is_sooner v x) refl in let f : (if is_sooner v x then v else x) ≡ u = cc in let g : t.deadline ≡ x.deadline = cc in
    let k : (if is_sooner v x then v else x).deadline ≡ u.deadline = ap (λ (z : Timer). z.deadline) f in
    let a = l.0 in omega (arith, a, k, g)
first_by x xs u more (Some v) q h (suc i) t e =
    let l = lesser_by x v (is_sooner v x) refl in let f : (if is_sooner v x then v else x) ≡ u = cc in
    let k : (if is_sooner v x then v else x).deadline ≡ u.deadline = ap (λ (z : Timer). z.deadline) f in
    let a = l.1 in let r = more v q i t e in omega (arith, a, k, r)

soonest_least : (ts : List Timer) (u : Timer) → soonest ts ≡ Some u → Each ts (λ i (t : Timer). u.deadline ≤ t.deadline)
soonest_least [] u h i t e = absurd cc
soonest_least (x ∷ xs) u h i t e = first_by x xs u (λ v q. soonest_least xs v q) (soonest xs) refl h i t e

late_by : (time : ℕ) (ts : List Timer) (o : Option Timer) → soonest ts ≡ o → is_some (if_due time o) ≡ false → Each ts (λ i (t : Timer). time < t.deadline)
late_by time [] None q h i t e = absurd cc
late_by time (x ∷ xs) None q h i t e = absurd cc
late_by time ts (Some u) q h i t e = by_test (soonest_least ts u q i t e) (nat_le u.deadline time) refl h
  where
    by_test : u.deadline ≤ t.deadline → (b : Bool) → nat_le u.deadline time ≡ b → is_some (if b then Some u else None) ≡ false → time < t.deadline
    by_test l true g k = absurd cc
    by_test l false g k = let m : time < u.deadline = grind (arith, nat_tests) in omega (arith, l, m)

pub not_due : (time : ℕ) (ts : List Timer) → is_due time ts ≡ false → Each ts (λ i (t : Timer). time < t.deadline)
unfolding due_timer
not_due time ts h = late_by time ts (soonest ts) refl h

-- the due timer of a share

abbrev In : ℕ → List ℕ → Type 0
In n [] = ⊥
In n (m ∷ ms) = (n ≡ m) ⊎ In n ms

in_append : (n : ℕ) (ms ns : List ℕ) → In n (ms ++ ns) → In n ms ⊎ In n ns
in_append n [] ns h = inr h
in_append n (m ∷ ms) ns (inl e) = inl (inl e)
in_append n (m ∷ ms) ns (inr h) = elim (in_append n ms ns h) [ inl k ↦ inl (inr k) | inr k ↦ inr k ]

least_by : (n : ℕ) (ns : List ℕ) (m : ℕ) → ((k : ℕ) → least ns ≡ Some k → In k ns) → (o : Option ℕ) → least ns ≡ o → Some (lesser n o) ≡ Some m → In m (n ∷ ns)
least_by n ns m more None q h = inl cc
least_by n ns m more (Some k) q h = by_test (nat_lt k n) refl h
  where
    by_test : (b : Bool) → nat_lt k n ≡ b → Some (if b then k else n) ≡ Some m → In m (n ∷ ns)
    by_test true g h = inr (more m (q ∙ h))
    by_test false g h = inl cc

least_in : (ns : List ℕ) (m : ℕ) → least ns ≡ Some m → In m ns
least_in [] m h = absurd cc
least_in (n ∷ ns) m h = least_by n ns m (λ k q. least_in ns k q) (least ns) refl h

pub record TimerDue (ts : List Timer) (f : Timer → ℕ) (n : ℕ) : Type 0 where
  pub i : ℕ
  pub timer : Timer
  pub timer_at : slice_get ts i ≡ Some timer
  pub is : f timer ≡ n

timer_in : (f : Timer → ℕ) (n : ℕ) (ts : List Timer) → In n (map f ts) → TimerDue ts f n
timer_in f n [] h = absurd h
timer_in f n (t ∷ ts) (inl e) = record { i = 0; timer = t; timer_at = refl; is = sym e }
timer_in f n (t ∷ ts) (inr h) = let r = timer_in f n ts h in record { i = suc r.i; timer = r.timer; timer_at = r.timer_at; is = r.is }

-- a block of the share with a timer that is due at this clock
pub record DueIn (blocks : List Block) (share : List Member) (clock : ℕ) : Type 0 where
  pub b : ℕ
  pub x : Block
  pub here : has share b ≡ true
  pub block_at : slice_get blocks b ≡ Some x
  pub due : TimerDue x.control.parts.timers (due_clock x.whereabouts) clock

module _ (blocks : List Block) (clock : ℕ) where
  found_due : (m : Member) (ms : List Member) (o : Option Block) → slice_get blocks m.block ≡ o → In clock (due_clocks o) → DueIn blocks (m ∷ ms) clock
  found_due m ms None q h = absurd h
  found_due m ms (Some x) q h = record { b = m.block; x = x; here = ap (λ t. t || has ms m.block) (same_is m.block); block_at = q; due = timer_in (due_clock x.whereabouts) clock x.control.parts.timers h }

  due_later : (m : Member) (ms : List Member) → DueIn blocks ms clock → DueIn blocks (m ∷ ms) clock
  due_later m ms d = record { b = d.b; x = d.x; here = ap (λ t. (m.block == d.b) || t) d.here ∙ or-true (m.block == d.b); block_at = d.block_at; due = d.due }

  due_in : (share : List Member) → In clock (flat_map (λ (l : Looked). due_clocks l.found) (map (looked_at blocks) (share_blocks share))) → DueIn blocks share clock
  due_in [] h = absurd h
  due_in (m ∷ ms) h =
      elim (in_append clock (due_clocks (slice_get blocks m.block)) _ (subst (In clock) (flat_map-cons (λ (l : Looked). due_clocks l.found) (looked_at blocks m.block) (map (looked_at blocks) (share_blocks ms))) h)) [
        | inl k ↦ found_due m ms (slice_get blocks m.block) refl k
        | inr k ↦ due_later m ms (due_in ms k)
      ]

  pub next_in : (share : List Member) → next_due (map (looked_at blocks) (share_blocks share)) ≡ Some clock → DueIn blocks share clock
  next_in share h = due_in share (least_in _ clock h)

-- where no block of the share can run
module _ (blocks : List Block) (clock : ℕ) (b : ℕ) (x : Block) (at : slice_get blocks b ≡ Some x) where
  none_find : (l : Looked) (ls : List Looked) (t : Bool) → (if t then Some l else find (is_runnable clock) ls) ≡ None → (t ≡ false) × (find (is_runnable clock) ls ≡ None)
  none_find l ls true h = absurd cc
  none_find l ls false h = (refl, h)

  here_by : (m : Member) (ms : List Member) → (has ms b ≡ true → find (is_runnable clock) (map (looked_at blocks) (share_blocks ms)) ≡ None → can_run clock x ≡ false) → (t : Bool) → (m.block == b) ≡ t → (t || has ms b) ≡ true →
      (is_runnable clock (looked_at blocks m.block) ≡ false) × (find (is_runnable clock) (map (looked_at blocks) (share_blocks ms)) ≡ None) → can_run clock x ≡ false
  here_by m ms more true g h p = sym (ap (λ o. option_map_or (can_run clock) o false) (ap (slice_get blocks) (is_same m.block b g) ∙ at)) ∙ p.0
  here_by m ms more false g h p = more h p.1

  pub none_runs : (share : List Member) → has share b ≡ true → find (is_runnable clock) (map (looked_at blocks) (share_blocks share)) ≡ None → can_run clock x ≡ false
  none_runs [] h q = absurd cc
  none_runs (m ∷ ms) h q =
      here_by m ms (λ k r. none_runs ms k r) (m.block == b) refl h (none_find (looked_at blocks m.block) (map (looked_at blocks) (share_blocks ms)) (is_runnable clock (looked_at blocks m.block)) q)

later_by : (k deadline : ℕ) (offset z : ℤ) → pos k +ℤ offset ≡ z → pos 0 ≤ℤ z → above_zero z < deadline → deadline < above_zero z + 2 ^ 32 → (k ≤ above_zero (pos deadline -ℤ offset)) × (above_zero (pos deadline -ℤ offset) ≤ k + 1 * 2 ^ 32)
later_by k deadline offset (pos m) e h a b =
    let f : pos deadline -ℤ offset ≡ pos (k + (deadline - m)) = omega (arith, ints, e, a) in
    let g : above_zero (pos deadline -ℤ offset) ≡ k + (deadline - m) = ap above_zero f in
    (omega (arith, g), omega (arith, g, a, b))
later_by k deadline offset (negsuc m) e h a b = absurd (omega (arith, ints, h))

-- an idle core's clock goes on, by less than 2^32
pub idle_clock : (k deadline : ℕ) (offset : ℤ) → pos 0 ≤ℤ (pos k +ℤ offset) → time_on k offset < deadline → deadline < time_on k offset + 2 ^ 32 → (k ≤ above_zero (pos deadline -ℤ offset)) × (above_zero (pos deadline -ℤ offset) ≤ k + 1 * 2 ^ 32)
idle_clock k deadline offset h a b = later_by k deadline offset (pos k +ℤ offset) refl h a b
