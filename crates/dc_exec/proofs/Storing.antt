-- A store is what the table says.
use Rattle.std.proofs.Common.{ℕ, ◌+◌, List, ap, sym, ◌∙◌, if◌then◌else◌}
use Rattle.std.specs.Prelude.{slice_index, slice_set}
use Rattle.std.proofs.lemmas.Bool.{lt-ltb, le-ltb}
use Rattle.dc_base.specs.declared.instructions.Instr.TheVariants.{St}
use Rattle.dc_base.specs.Effects.{goes, traps, effect, at_next_place}
use Rattle.dc_isa.specs.declared.dispatchers.Dispatcher.{Dispatcher}
use Rattle.dc_exec.specs.declared.steps.Went.{Went}
use Rattle.dc_exec.specs.declared.steps.Went.TheVariants as went
use Rattle.dc_exec.specs.Steps.{context_of, with_context, Makes, Stores}

pub store_makes : (w : Went) (d d' : Dispatcher) (m m' : List ℕ) (time a b imm : ℕ) →
    Stores w d d' m m' (slice_index d.regs a) (slice_index d.regs b + imm) →
    Makes w d d' m m' (effect time (context_of d) m (St a b imm))
unfolding effect
store_makes went.Next d d' m m' time a b imm (there, moved, put) =
    let address : ℕ = slice_index d.regs b + imm in
    let word : ℕ = slice_index d.regs a in
    record {
      move = ap (λ t. if t then goes (at_next_place (context_of d)) (slice_set m address word) else traps 3) (lt-ltb address 4096 there)
          ∙ ap (λ words. goes (at_next_place (context_of d)) words) (sym put)
          ∙ sym (ap (λ (e : Dispatcher). goes (context_of e) m') moved);
      same = moved ∙ sym (ap (λ (e : Dispatcher). with_context d (context_of e)) moved);
    }
store_makes went.Halted d d' m m' time a b imm never = absurd never
store_makes (went.Trap x) d d' m m' time a b imm (past, three, same, kept) =
    let address : ℕ = slice_index d.regs b + imm in
    let word : ℕ = slice_index d.regs a in
    (ap (λ t. if t then goes (at_next_place (context_of d)) (slice_set m address word) else traps 3) (le-ltb address 4096 past) ∙ sym (ap traps three), same, kept)
