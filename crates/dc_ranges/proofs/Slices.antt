-- What a slice shows: how many timers fired, which dispatcher ran, how far it came and how it ended.
use Rattle.std.proofs.Common.{◌≡◌, ℕ, zero, suc, ◌^◌, ◌<◌, ◌≤◌, Bool, true, false, not, List, [], ◌∷◌, ◌++◌, Option, Some, None, refl, subst, ◌∙◌, arith, length}
use Rattle.std.specs.Prelude.{⊤, slice_get, nat_lt, if◌then◌else◌}
use Rattle.std.proofs.lemmas.Bool.{lt-ltb}
use Rattle.std.proofs.lemmas.Option.{slice_get_within}
use Rattle.dc_base.specs.declared.calls.Need.{Need}
use Rattle.dc_base.specs.declared.calls.Op.{Op}
use Rattle.dc_base.specs.declared.calls.End.{End}
use Rattle.dc_base.specs.declared.calls.End.TheVariants as end
use Rattle.dc_base.specs.declared.interrupts.Timer.{Timer}
use Rattle.dc_base.specs.declared.kernels.Version.{Version}
use Rattle.dc_base.specs.declared.messages.Message.{Message}
use Rattle.dc_base.specs.EntryRanges.{is_empty_end, is_end_in_range}
use Rattle.dc_base.specs.Words.{bind}
use Rattle.dc_base.specs.Ahead.{Ahead, AheadEnd, at_quantum, at_halt, at_trap, at_call, ahead, ahead_from, last_look}
use Rattle.dc_base.specs.Channels.{Ring, ring_after_send, ring_after_take}
use Rattle.dc_base.specs.ControlBlocks.{ControlBlock}
use Rattle.dc_base.specs.Effects.{Context, Move, goes, halts, traps, calls, act}
use Rattle.dc_base.specs.Firing.{wake, latch_in, after_firing, fire_if, fire_from, fire_all}
use Rattle.dc_base.specs.Kernel.{Call, faults, waits, makes, takes, prints, sends, receives, binds, gives, claims}
use Rattle.dc_base.specs.Lines.{Wire, rights_over}
use Rattle.dc_base.specs.Parts.{Parts}
use Rattle.dc_base.specs.Serving.{need, Outside, console_outside, channel_outside, line_outside, Served, faulted, held_up, served, serve, serve_send, serve_receive, serve_claim}
use Rattle.dc_base.specs.Slices.{Halfway, stopped, stands, after_served, after_ahead, halfway, slice_end}
use Rattle.dc_base.specs.States.{State}
use Rattle.dc_base.specs.Timers.{due_timer}
use Rattle.dc_sound.proofs.Advances.{ran_of}
use Rattle.dc_block_sound.proofs.Calls.{CallFits}
use Rattle.dc_block_sound.proofs.PlainMoves.{Acts, acts}
use Rattle.dc_block_sound.proofs.Walks.{HalfFits}

-- at most as many timers fire as there are

fired_by : (time n : ℕ) (x : ControlBlock) → ((y : ControlBlock) → (fire_from time n y).count ≤ n) → (o : Option Timer) → (fire_if (fire_from time n) x o).count ≤ suc n
fired_by time n x more None = omega arith
fired_by time n x more (Some t) = let one = more (after_firing t x) in omega (arith, one)

fired_most : (time n : ℕ) (x : ControlBlock) → (fire_from time n x).count ≤ n
fired_most time zero x = omega arith
fired_most time (suc n) x = fired_by time n x (λ y. fired_most time n y) (due_timer time x.parts.timers)

pub fired_count : (time : ℕ) (x : ControlBlock) → (fire_all time x).count ≤ length x.parts.timers
unfolding fire_all
fired_count time x = fired_most time (length x.parts.timers) x

-- timers leave the code as it is

code_after : (t : Timer) (x : ControlBlock) → (after_firing t x).parts.code ≡ x.parts.code
unfolding latch_in wake
code_after t x = refl

code_by : (time n : ℕ) (x : ControlBlock) → ((y : ControlBlock) → (fire_from time n y).control.parts.code ≡ y.parts.code) → (o : Option Timer) → (fire_if (fire_from time n) x o).control.parts.code ≡ x.parts.code
code_by time n x more None = refl
code_by time n x more (Some t) = more (after_firing t x) ∙ code_after t x

code_from : (time n : ℕ) (x : ControlBlock) → (fire_from time n x).control.parts.code ≡ x.parts.code
code_from time zero x = refl
code_from time (suc n) x = code_by time n x (λ y. code_from time n y) (due_timer time x.parts.timers)

pub code_fired : (time : ℕ) (x : ControlBlock) → (fire_all time x).control.parts.code ≡ x.parts.code
unfolding fire_all
code_fired time x = code_from time (length x.parts.timers) x

-- the end of a slice has a word, and its trap is in range

pub record EndShown (e : End) : Type 0 where
  pub worded : not (is_empty_end e) ≡ true
  pub low : is_end_in_range e ≡ true

trap_shown : (n : ℕ) → n ≤ 12 → EndShown (end.Trap n)
trap_shown n low = record { worded = refl; low = lt-ltb n (2 ^ 8) (omega (arith, low)) }

abbrev TrapLow : AheadEnd → Type 0
TrapLow (at_trap n) = n ≤ 12
TrapLow e = ⊤

look_low : (m : Move) → TrapLow (last_look m)
look_low (calls o i) = tt
look_low m = tt

ahead_by : (code : List ℕ) (further : Context → List ℕ → Ahead) → ((c : Context) (m : List ℕ) → TrapLow (further c m).end) → (c : Context) (m : List ℕ) (move : Move) → Acts code c m move → TrapLow (ahead_from further c m move).end
ahead_by code further h c m (goes d l) a = h d l
ahead_by code further h c m halts a = tt
ahead_by code further h c m (traps n) a = a.1
ahead_by code further h c m (calls o i) a = tt

ahead_low : (time : ℕ) (code : List ℕ) (n : ℕ) (c : Context) (m : List ℕ) → TrapLow (ahead time code n c m).end
ahead_low time code zero c m = look_low (act time code c m)
ahead_low time code (suc n) c m = ahead_by code (ahead time code n) (λ d l. ahead_low time code n d l) c m (act time code c m) (acts time code c m)

abbrev pub HalfShown : Halfway → Type 0
HalfShown (stopped x ran e) = EndShown e
HalfShown (stands x ran o call) = ⊤

after_shown : (time : ℕ) (x : ControlBlock) (d : ℕ) (a : Ahead) (e : AheadEnd) → TrapLow e → HalfShown (after_ahead time x d a e)
after_shown time x d a at_quantum low = record { worded = refl; low = refl }
after_shown time x d a at_halt low = record { worded = refl; low = refl }
after_shown time x d a (at_trap n) low = trap_shown n low
after_shown time x d a (at_call o i) low = tt

-- the dispatcher has code, and what stops it is shown
pub record HalfFacts (x : ControlBlock) (d : ℕ) (h : Halfway) : Type 0 where
  pub place : d < length x.parts.code
  pub ends : HalfShown h

context_facts : (quantum time : ℕ) (x : ControlBlock) (d : ℕ) (h : Halfway) (code : List ℕ) (o : Option Context) →
    bind o (λ c. Some (after_ahead time x d (ahead time code quantum c x.parts.memory) (ahead time code quantum c x.parts.memory).end)) ≡ Some h → HalfShown h
context_facts quantum time x d h code None is = absurd (cc is)
context_facts quantum time x d h code (Some c) is =
    let a = ahead time code quantum c x.parts.memory in
    let same : after_ahead time x d a a.end ≡ h = cc in
    subst HalfShown same (after_shown time x d a a.end (ahead_low time code quantum c x.parts.memory))

code_facts : (quantum time : ℕ) (x : ControlBlock) (d : ℕ) (h : Halfway) (o : Option (List ℕ)) → slice_get x.parts.code d ≡ o →
    bind o (λ code. bind (slice_get x.parts.contexts d) (λ c. Some (after_ahead time x d (ahead time code quantum c x.parts.memory) (ahead time code quantum c x.parts.memory).end))) ≡ Some h → HalfFacts x d h
code_facts quantum time x d h None at is = absurd (cc is)
code_facts quantum time x d h (Some code) at is = record { place = slice_get_within x.parts.code d code at; ends = context_facts quantum time x d h code (slice_get x.parts.contexts d) is }

pub half_facts : (quantum time : ℕ) (x : ControlBlock) (d : ℕ) (h : Halfway) → halfway quantum time x d ≡ Some h → HalfFacts x d h
unfolding halfway
half_facts quantum time x d h is = code_facts quantum time x d h (slice_get x.parts.code d) refl is

-- what a call comes to

abbrev FaultLow : Served → Type 0
FaultLow (faulted n) = n ≤ 12
FaultLow a = ⊤

abbrev CallLow : Call → Type 0
CallLow (faults n) = n ≤ 12
CallLow call = ⊤

call_low : (s : State) (C : ℕ → Type 0) (x : ControlBlock) (d : ℕ) (call : Call) → CallFits s C x d call → CallLow call
call_low s C x d (faults n) fits = fits.1
call_low s C x d call fits = tt

printed_low : (w : ℕ) (p : Parts) (ws : List ℕ) (t : Bool) → FaultLow (if t then served None p (console_outside (ws ++ w ∷ [])) else faulted 11)
printed_low w p ws true = tt
printed_low w p ws false = omega arith

sent_low : (x : ℕ) (p : Parts) (o : Option Ring) → FaultLow (serve_send x p o)
sent_low x p None = tt
sent_low x p (Some r) = tt

taken_low : (x address : ℕ) (p : Parts) (o : Option (Message × Ring)) → FaultLow (serve_receive x address p o)
taken_low x address p None = tt
taken_low x address p (Some got) = tt

claimed_low : (l slot : ℕ) (p : Parts) (w : Wire) (o : Option ℕ) → FaultLow (serve_claim l slot p w o)
claimed_low l slot p w None = omega arith
claimed_low l slot p w (Some rights) = tt

serve_low : (c b : ℕ) (call : Call) (out : Outside) → CallLow call → FaultLow (serve c b call out)
unfolding serve
serve_low c b (faults n) out low = low
serve_low c b (waits w) out low = tt
serve_low c b (makes w p) out low = tt
serve_low c b (takes l p) out low = tt
serve_low c b (prints w p) (console_outside ws) low = printed_low w p ws (nat_lt (length ws) 65536)
serve_low c b (prints w p) out low = omega arith
serve_low c b (sends x m p) (channel_outside r) low = sent_low x p (ring_after_send r m)
serve_low c b (sends x m p) out low = tt
serve_low c b (receives x address p) (channel_outside r) low = taken_low x address p (ring_after_take r)
serve_low c b (receives x address p) out low = tt
serve_low c b (binds l signal p) (line_outside w) low = tt
serve_low c b (binds l signal p) out low = omega arith
serve_low c b (gives l x rights p) (line_outside w) low = tt
serve_low c b (gives l x rights p) out low = omega arith
serve_low c b (claims l x slot p) (line_outside w) low = claimed_low l slot p w (rights_over x w.offer)
serve_low c b (claims l x slot p) out low = omega arith

served_shown : (x : ControlBlock) (d ran : ℕ) (o : Op) (n : Need) (out : Outside) (a : Served) → FaultLow a → EndShown (after_served x d ran o n out a).end
served_shown x d ran o n out (faulted m) low = trap_shown m low
served_shown x d ran o n out (held_up w) low = record { worded = refl; low = refl }
served_shown x d ran o n out (served w p new) low = record { worded = refl; low = refl }

pub end_shown : (s : State) (C : ℕ → Type 0) (x : ControlBlock) (c b : ℕ) (v : Version) (d : ℕ) (h : Halfway) (out : Outside) → HalfShown h → HalfFits s d C x h → EndShown (slice_end c b v d h out).end
unfolding slice_end
end_shown s C x c b v d (stopped y ran e) out shown fits = shown
end_shown s C x c b v d (stands y ran o call) out shown fits = served_shown y d ran o (need call) out (serve c b call out) (serve_low c b call out (call_low s C y d call fits.1))

served_ran : (x : ControlBlock) (d ran : ℕ) (o : Op) (n : Need) (out : Outside) (a : Served) → (after_served x d ran o n out a).ran ≡ ran
served_ran x d ran o n out (faulted m) = refl
served_ran x d ran o n out (held_up w) = refl
served_ran x d ran o n out (served w p new) = refl

pub end_ran : (c b : ℕ) (v : Version) (d : ℕ) (h : Halfway) (out : Outside) → (slice_end c b v d h out).ran ≡ ran_of h
unfolding slice_end
end_ran c b v d (stopped y ran e) out = refl
end_ran c b v d (stands y ran o call) out = served_ran y d ran o (need call) out (serve c b call out)
