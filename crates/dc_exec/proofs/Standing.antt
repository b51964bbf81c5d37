-- What the instruction at a place does.
use Rattle.std.proofs.Common.{◌≡◌, ℕ, ◌+◌, ◌<◌, ◌≤◌, Bool, true, false, Option, Some, None, List, refl, ap, sym, ◌∙◌, rules, is_some, length, if◌then◌else◌}
use Rattle.std.specs.Prelude.{slice_get, slice_index, slice_set, IsTrue, ◌==◌, not, nat_lt}
use Rattle.dc_base.specs.declared.instructions.Instr.{Instr}
use Rattle.dc_base.specs.declared.instructions.Instr.TheVariants.{Beq, Bne, Bltu, Ld, St, Out}
use Rattle.dc_base.specs.declared.calls.Op.{Op}
use Rattle.dc_base.specs.Instructions.{is_proper, decode}
use Rattle.dc_base.specs.Effects.{Context, Move, goes, traps, calls, effect, effect_of, move_at, act, reg, sets, at_next_place}
use Rattle.dc_base.specs.Ahead.{at_quantum, last_look}
use Rattle.dc_isa.specs.declared.dispatchers.Dispatcher.{Dispatcher}
use Rattle.dc_exec.specs.Calls.{call_name, end_at, end_at_call}
use Rattle.dc_exec.specs.Steps.{context_of, Goes}
use Rattle.dc_exec.specs.Turns.{Stands, GoesOn}

-- a call does nothing by itself
pub effect-call : (i : Instr) (o : Op) (time : ℕ) (c : Context) (memory : List ℕ) → call_name i ≡ Some o → effect time c memory i ≡ calls o i
unfolding effect call_name
effect-call (Out a) o time c memory h = cc
effect-call i o time c memory h = cc

-- after the quantum neither side of a branch is looked at
either : (t : Bool) (m n : Move) → last_look m ≡ at_quantum → last_look n ≡ at_quantum → last_look (if t then m else n) ≡ at_quantum
either true m n p q = p
either false m n p q = q

-- after the quantum no plain instruction is looked at
pub last_look-plain : (i : Instr) (time : ℕ) (c : Context) (memory : List ℕ) → call_name i ≡ None → last_look (effect time c memory i) ≡ at_quantum
unfolding effect call_name
last_look-plain (Beq a b imm) time c memory h = either (reg c a == reg c b) (goes (record c { place = imm }) memory) (goes (at_next_place c) memory) refl refl
last_look-plain (Bne a b imm) time c memory h = either (not (reg c a == reg c b)) (goes (record c { place = imm }) memory) (goes (at_next_place c) memory) refl refl
last_look-plain (Bltu a b imm) time c memory h = either (nat_lt (reg c a) (reg c b)) (goes (record c { place = imm }) memory) (goes (at_next_place c) memory) refl refl
last_look-plain (Ld a b imm) time c memory h = either (nat_lt (reg c b + imm) 4096) (sets c memory a (slice_index memory (reg c b + imm))) (traps 3) refl refl
last_look-plain (St a b imm) time c memory h = either (nat_lt (reg c b + imm) 4096) (goes (at_next_place c) (slice_set memory (reg c b + imm) (reg c a))) (traps 3) refl refl
last_look-plain i time c memory h = cc

some_or_none : {A : Type 0} (o : Option A) → (is_some o ≡ false → o ≡ None) × (is_some o ≡ true → (x : A) × (o ≡ Some x))
some_or_none None = (λ h. refl, λ h. absurd (let bad : false ≡ true = h in cc))
some_or_none (Some x) = (λ h. absurd (let bad : true ≡ false = h in cc), λ h. (x, refl))

pub none_of : (i : Instr) → is_some (call_name i) ≡ false → call_name i ≡ None
none_of i h = (some_or_none (call_name i)).0 h

-- the word at the place, and its instruction
module _ (time : ℕ) (code : List ℕ) (c : Context) (memory : List ℕ) (w : ℕ) (there : slice_get code c.place ≡ Some w) where
  pub act-blank : decode w ≡ None → act time code c memory ≡ traps 1
  unfolding act
  act-blank none = ap (move_at time c memory) there ∙ ap (effect_of time c memory) none

  module _ (i : Instr) (is : decode w ≡ Some i) where
    pub act-instr : act time code c memory ≡ effect time c memory i
    unfolding act
    act-instr = ap (move_at time c memory) there ∙ ap (effect_of time c memory) is

    pub last_look-act-plain : is_some (call_name i) ≡ false → last_look (act time code c memory) ≡ at_quantum
    last_look-act-plain plain = ap last_look act-instr ∙ last_look-plain i time c memory (none_of i plain)

    pub last_look-act-call : is_some (call_name i) ≡ true → last_look (act time code c memory) ≡ end_at_call i
    last_look-act-call call =
        let named = (some_or_none (call_name i)).1 call in
        ap last_look (act-instr ∙ effect-call i named.0 time c memory named.1) ∙ sym (ap (λ n. end_at n i) named.1)

pub stands : (time : ℕ) (code : List ℕ) (d : Dispatcher) (memory : List ℕ) (w : ℕ) → slice_get code d.place ≡ Some w → (i : Instr) → decode w ≡ Some i → is_some (call_name i) ≡ true → IsTrue (is_proper i) → d.place < length code →
    Stands d code i (act time code (context_of d) memory)
stands time code d memory w there i is call proper within =
    let named = (some_or_none (call_name i)).1 call in
    record {
      name = named.0;
      named = named.1;
      move = act-instr time code (context_of d) memory w there i is ∙ effect-call i named.0 time (context_of d) memory named.1;
      proper = search (rules, call, proper);
      place = within;
    }

pub goes_on : (time : ℕ) (code : List ℕ) (d d' : Dispatcher) (memory memory' : List ℕ) (w : ℕ) → slice_get code d.place ≡ Some w → (i : Instr) → decode w ≡ Some i →
    Goes d d' memory' (effect time (context_of d) memory i) → d'.place ≤ 65535 → GoesOn d d' memory' (act time code (context_of d) memory)
goes_on time code d d' memory memory' w there i is g low = record {
  move = act-instr time code (context_of d) memory w there i is ∙ g.move;
  same = g.same;
  place = low;
}

pub act-past : (time : ℕ) (code : List ℕ) (c : Context) (memory : List ℕ) → slice_get code c.place ≡ None → act time code c memory ≡ traps 2
unfolding act
act-past time code c memory past = ap (move_at time c memory) past
