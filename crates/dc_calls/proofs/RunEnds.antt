-- The end of a slice, from the end of its plain part.
use Rattle.std.proofs.Common.{◌≡◌, ℕ, ◌<◌, List, Bool, Option, Some, None, refl, sym, ap, ◌∙◌, subst}
use Rattle.std.specs.Prelude.{max, IsTrue, is_some, ◌&&◌, slice_get, slice_set}
use Rattle.std.proofs.lemmas.List.{length-set}
use Rattle.std.proofs.lemmas.Option.{slice_get-get_or, slice_get_within}
use Rattle.dc_base.specs.declared.calls.End.{End}
use Rattle.dc_base.specs.declared.calls.End.TheVariants as end
use Rattle.dc_base.specs.declared.calls.Need.TheVariants as needs
use Rattle.dc_base.specs.declared.calls.Op.{Op}
use Rattle.dc_base.specs.declared.instructions.Instr.{Instr}
use Rattle.dc_base.specs.declared.dispatchers.DispState.TheVariants as disp
use Rattle.dc_base.specs.declared.kernels.Version.{Version}
use Rattle.dc_base.specs.declared.numbers.DispNo.{DispNo}
use Rattle.dc_base.specs.Ahead.{AheadEnd, at_quantum, at_halt, at_trap, at_call}
use Rattle.dc_base.specs.Ahead as plain
use Rattle.dc_base.specs.ControlBlocks.{ControlBlock}
use Rattle.dc_base.specs.Kernel.{call_of}
use Rattle.dc_base.specs.Serving.{need, serve, nothing_outside}
use Rattle.dc_base.specs.Slices.{ready_last, with_state, stops, after_ahead, after_served, with_ahead, need_of, due_after, with_due, slice_end}
use Rattle.dc_exec.specs.Calls.{call_name, is_proper_call}
use Rattle.dc_block_sound.proofs.Elements.{set_here}
use Rattle.dc_calls.specs.declared.sliced.Sliced.{Sliced}
use Rattle.dc_calls.specs.declared.outsides.Outside.{Outside}
use Rattle.dc_calls.specs.declared.outsides.Outside.TheVariants as outside
use Rattle.dc_calls.specs.Outsides.{outside_seen, Fits}
use Rattle.dc_calls.specs.Slices.{sliced_seen}

abbrev pub stopped_as : DispNo → ℕ → ℕ → End → Sliced
stopped_as d fired ran e = record { disp = Some d; fired = fired; ran = ran; end = e; advance = max ran 1 }

module _ (v : Version) (no : DispNo) (fired time c n : ℕ) (b : ControlBlock) (a : plain.Ahead) (new : ControlBlock) (s : Sliced) (out : Outside) where
  -- it is the end of the slice, where the plain part ends so
  abbrev IsEnd : Outside → AheadEnd → Type 0
  IsEnd out' e = sliced_seen new s (need_of (after_ahead time b no.0 a e)) (outside_seen out') ≡ slice_end c n v no.0 (after_ahead time b no.0 a e) (outside_seen out)

  nothing_fits : (o : Outside) → Fits needs.Nothing o → outside_seen o ≡ nothing_outside
  nothing_fits outside.Nothing f = refl
  nothing_fits o f = absurd f

  stops_so : (x : ControlBlock) (e : End) → new ≡ due_after v no.0 x → s ≡ stopped_as no fired a.ran e → Fits needs.Nothing out → sliced_seen new s needs.Nothing (outside_seen out) ≡ with_due v no.0 (stops x a.ran e needs.Nothing nothing_outside)
  stops_so x e p q f =
      ap (λ y. sliced_seen y s needs.Nothing (outside_seen out)) p
      ∙ (ap (λ t. sliced_seen (due_after v no.0 x) t needs.Nothing (outside_seen out)) q
      ∙ ap (λ o. sliced_seen (due_after v no.0 x) (stopped_as no fired a.ran e) needs.Nothing o) (nothing_fits out f))

  pub quantum_end : a.end ≡ at_quantum → new ≡ due_after v no.0 (ready_last no.0 (with_ahead b no.0 a)) → s ≡ stopped_as no fired a.ran end.Quantum → Fits (need_of (after_ahead time b no.0 a a.end)) out → IsEnd out a.end
  unfolding slice_end
  quantum_end is p q f = subst (IsEnd out) (sym is) (stops_so (ready_last no.0 (with_ahead b no.0 a)) end.Quantum p q (subst (λ e. Fits (need_of (after_ahead time b no.0 a e)) out) is f))

  pub halt_end : a.end ≡ at_halt → new ≡ due_after v no.0 (with_state no.0 disp.Halted (with_ahead b no.0 a)) → s ≡ stopped_as no fired a.ran end.Halt → Fits (need_of (after_ahead time b no.0 a a.end)) out → IsEnd out a.end
  unfolding slice_end
  halt_end is p q f = subst (IsEnd out) (sym is) (stops_so (with_state no.0 disp.Halted (with_ahead b no.0 a)) end.Halt p q (subst (λ e. Fits (need_of (after_ahead time b no.0 a e)) out) is f))

  pub trap_end : (x : ℕ) → a.end ≡ at_trap x → new ≡ due_after v no.0 (with_state no.0 (disp.Trapped x) (with_ahead b no.0 a)) → s ≡ stopped_as no fired a.ran (end.Trap x) → Fits (need_of (after_ahead time b no.0 a a.end)) out → IsEnd out a.end
  unfolding slice_end
  trap_end x is p q f = subst (IsEnd out) (sym is) (stops_so (with_state no.0 (disp.Trapped x) (with_ahead b no.0 a)) (end.Trap x) p q (subst (λ e. Fits (need_of (after_ahead time b no.0 a e)) out) is f))

  pub call_end : (o : Op) (i : Instr) (out' : Outside) → a.end ≡ at_call o i → (let call = call_of time no.0 a.context i (with_ahead b no.0 a).parts in
      sliced_seen new s (need call) (outside_seen out') ≡ with_due v no.0 (after_served (with_ahead b no.0 a) no.0 a.ran o (need call) (outside_seen out) (serve c n call (outside_seen out)))) → IsEnd out' a.end
  unfolding slice_end
  call_end o i out' is e = subst (IsEnd out') (sym is) e

-- a proper call has a name
named_by : (i : Instr) (o : Option Op) → call_name i ≡ o → (b : Bool) → IsTrue (is_some o && b) → (p : Op) × (call_name i ≡ Some p)
named_by i None q b h = absurd cc
named_by i (Some p) q b h = (p, q)

pub call_named : (i : Instr) → IsTrue (is_proper_call i) → (p : Op) × (call_name i ≡ Some p)
call_named i h = named_by i (call_name i) refl _ h

-- what was set at a place that there is, is there
pub set_there : {A : Type 0} (xs : List A) (i : ℕ) (y z : A) → slice_get (slice_set xs i y) i ≡ Some z → slice_get (slice_set xs i y) i ≡ Some y
set_there xs i y z e = set_here xs i _ y (slice_get-get_or xs i y (subst (λ n. i < n) (length-set xs i y) (slice_get_within _ _ _ e)))
