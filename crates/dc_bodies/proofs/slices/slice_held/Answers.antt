-- A slice of objects in hand.
use Rattle.std.proofs.Common.{◌≡◌, ◌+◌, ℕ, sym, ap, ◌∙◌, subst, arith}
use Rattle.dc_base.specs.States.{Core, Block, with_control}
use Rattle.dc_base.specs.SliceTurns.{core_after_slice}
use Rattle.dc_calls.specs.Outsides.{outside_seen}
use Rattle.dc_kernel.specs.Begins.{IsBegun}
use Rattle.dc_objects.specs.Blocks.{IsTimed, running_of}
use Rattle.dc_bodies.proofs.Begun.{still_timed, still_bounds}
use Rattle.dc_bodies.proofs.Slicing.{did_at, entry_at, held_slice}
use Rattle.dc_bodies.proofs.slices.slice_held.Goals as goal

pub finish-sliced-requires-clause-timed : goal.finish-sliced-requires-clause-timed
finish-sliced-requires-clause-timed g c κs within = subst (λ n. IsTimed n c.args.block.now) (sym c.clock-clock.ensures) (still_timed c.args.c.0 c.args.core.now c.requires.begun.0 c.args.block.now c.args.begun.now c.requires.begun.1)

pub finish-sliced-requires-clause-bounds : goal.finish-sliced-requires-clause-bounds
finish-sliced-requires-clause-bounds g c κs within = still_bounds c.args.c.0 c.args.core.now c.requires.begun.0 c.args.block.now c.args.begun.now c.requires.begun.1

pub finish-sliced-requires-clause-begun : goal.finish-sliced-requires-clause-begun
finish-sliced-requires-clause-begun g c κs within =
    let k : Core = c.args.core.now in
    let x : Block = c.requires.begun.0 in
    (k.settings.quantum, running_of x, c.requires.quantum, subst (λ n. IsBegun k.settings.quantum n (running_of x) (running_of c.args.block.now) c.args.begun.now) (sym c.clock-clock.ensures) c.requires.begun.1.begun)

pub overflow_add-after : goal.overflow_add-after
overflow_add-after g c = let e = c.clock-clock.ensures in let small = c.requires.clock in omega (arith, e, small)

pub returns-clause-slice : goal.returns-clause-slice
returns-clause-slice g c = λ x h.
    let k : Core = c.args.core.now in
    let y : Block = c.finish-sliced.new.self in
    let sl = c.finish-sliced.result in
    let clock : c.clock-clock.result ≡ k.clock = c.clock-clock.ensures in
    let after : ℕ = c.clock-clock.result + c.from.result in
    let ends : after ≡ k.clock + sl.advance = ap (λ n. n + c.from.result) clock ∙ ap (λ n. k.clock + n) c.from.ensures in
    let did = c.finish-sliced.ensures.done k.settings.quantum (running_of x) c.requires.quantum (subst (λ n. IsBegun k.settings.quantum n (running_of x) (running_of c.args.block.now) c.args.begun.now) (sym clock) h.begun) in
    held_slice c.args.c k c.ran.new.self c.args.b x y c.args.begun.now.need (outside_seen c.args.outside.now) sl (outside_seen c.finish-sliced.new.outside) _
    h.hand.here h.begun.need (did_at c.args.c.0 k c.args.b.0 (outside_seen c.args.outside.now) x c.clock-clock.result _ clock did)
    (c.ran.ensures ∙ ap (core_after_slice k c.args.b.0) ends) (c.finish-sliced.ensures.whereabouts ∙ ap (with_control y.control) h.block) (c.by_core.ensures ∙ entry_at c.args.c c.args.b sl c.slice_what.result after (k.clock + sl.advance) c.slice_what.ensures ends)
