use Rattle.std.proofs.Common.{◌≡◌, ℕ, Bool, sym, ap, ◌∙◌, arith}
use Rattle.std.specs.Prelude.{slice_index, slice_index_or}
use Rattle.dc_base.specs.declared.capabilities.Cap.{Cap}
use Rattle.dc_base.specs.Capabilities.{is_of_line}
use Rattle.dc_caps.specs.Seats.{no_cap}
use Rattle.dc_caps.proofs.Holding.{line_taken, line_passed, slots_below}
use Rattle.dc_caps.proofs.held.remove_line.Goals.{then-is_of_line, else-is_of_line}
use Rattle.dc_caps.proofs.held.remove_line.Goals as goal

pub loop-slot-preserved : goal.loop-slot-preserved
loop-slot-preserved c =
    let slots = c.as_slice-slot-items.result.now in let i = c.loop-slot.slot-index in
    let p : ℕ → Bool = λ s. is_of_line c.args.line.0 (slice_index_or c.args.caps.now s no_cap).kind in
    let answer : c.is_of_line.result ≡ p (slice_index slots i) = c.is_of_line.ensures ∙ ap (λ (cap : Cap). is_of_line c.args.line.0 cap.kind) c.cap_in.ensures in
    elim c.if-is_of_line.branch [
      | then-is_of_line w ↦ line_taken p slots i c.loop-slot-test.true c.args.forest.now c.loop-slot.forest c.loop-slot.invariant (sym answer ∙ w.if-is_of_line.true) c.if-is_of_line.forest (w.forest-is ∙ w.remove.ensures.after)
      | else-is_of_line w ↦ line_passed p slots i c.loop-slot-test.true c.args.forest.now c.loop-slot.forest c.loop-slot.invariant (sym answer ∙ w.if-is_of_line.false) c.if-is_of_line.forest w.forest-is
    ]

pub cap_in-requires : goal.cap_in-requires
cap_in-requires c = let l = slots_below c.args.forest.now c.slots-slots.ensures.forest c.as_slice-slot-items.result.now (c.as_slice-slot-items.ensures.value ∙ c.slots-slots.ensures.slots) c.loop-slot.slot-index c.loop-slot-test.true in omega (arith, l)
