-- The object that the call needs is taken before the slice, and put back after it.
use Rattle.std.proofs.Common.{[]}
use Rattle.dc_hands.specs.declared.hands.CoreHand.{CoreHand}
use Rattle.dc_hands.specs.Machines.{Passing}
use Rattle.dc_core_turns.proofs.SliceAround.{outside_back, outside_beside, outside_busy, outside_free, outside_within}
use Rattle.dc_core_turns.proofs.SliceMade.{bounds, quantum, there}
use Rattle.dc_core_turns.proofs.steps.slice.Goals as goal

pub need_in_row-need-requires-clause-block : goal.need_in_row-need-requires-clause-block
need_in_row-need-requires-clause-block g c κs within =
    let k : Passing g.row.D.Denot = c.args.pass.now in
    let h : CoreHand g.row.D.Denot = c.args.hand.now in
    let x = c.requires.next in
    (x.0, there c.args.stage.now c.requires.opened k h [] c.requires.hand c.args.b x.0 x.1, (bounds c.args.stage.now c.requires.opened k h [] c.requires.hand c.args.b x.0 x.1).timed)

pub need_in_row-need-requires-clause-quantum : goal.need_in_row-need-requires-clause-quantum
need_in_row-need-requires-clause-quantum g c κs within =
    let k : Passing g.row.D.Denot = c.args.pass.now in
    let h : CoreHand g.row.D.Denot = c.args.hand.now in
    let x = c.requires.next in
    quantum c.args.stage.now c.requires.opened k h [] c.requires.hand c.args.b x.0 x.1

pub take_outside-requires-clause-within : goal.take_outside-requires-clause-within
take_outside-requires-clause-within g c κs within =
    let k : Passing g.row.D.Denot = c.args.pass.now in
    let h : CoreHand g.row.D.Denot = c.args.hand.now in
    let x = c.requires.next in
    outside_within c.args.stage.now c.requires.opened k h c.requires.hand c.args.b x.0 x.1 c.need_in_row-need.result (c.need_in_row-need.ensures x.0 (there c.args.stage.now c.requires.opened k h [] c.requires.hand c.args.b x.0 x.1))

pub take_outside-requires-clause-free : goal.take_outside-requires-clause-free
take_outside-requires-clause-free g c κs within =
    let k : Passing g.row.D.Denot = c.args.pass.now in
    let h : CoreHand g.row.D.Denot = c.args.hand.now in
    let x = c.requires.next in
    outside_free c.args.stage.now c.requires.opened k h c.requires.hand c.args.b x.0 x.1 c.need_in_row-need.result (c.need_in_row-need.ensures x.0 (there c.args.stage.now c.requires.opened k h [] c.requires.hand c.args.b x.0 x.1))

pub returns-in-Err : goal.returns-in-Err
returns-in-Err g c =
    let k : Passing g.row.D.Denot = c.args.pass.now in
    let h : CoreHand g.row.D.Denot = c.args.hand.now in
    let x = c.requires.next in
    outside_busy c.args.stage.now c.requires.opened k h c.requires.hand c.args.b x.0 x.1 c.need_in_row-need.result (c.need_in_row-need.ensures x.0 (there c.args.stage.now c.requires.opened k h [] c.requires.hand c.args.b x.0 x.1)) c.requires.acts c.take_outside.new.pass c.in-Err.busy c.in-Err.ensures.busy

pub slice_with-turned-requires-clause-hand : goal.slice_with-turned-requires-clause-hand
slice_with-turned-requires-clause-hand g c κs within =
    let k : Passing g.row.D.Denot = c.args.pass.now in
    let h : CoreHand g.row.D.Denot = c.args.hand.now in
    let x = c.requires.next in
    outside_beside c.args.stage.now c.requires.opened k h c.requires.hand c.args.b x.0 x.1 c.need_in_row-need.result (c.need_in_row-need.ensures x.0 (there c.args.stage.now c.requires.opened k h [] c.requires.hand c.args.b x.0 x.1)) c.take_outside.new.pass c.in-Ok.outside c.in-Ok.ensures.got

pub returns : goal.returns
returns g c =
    let k : Passing g.row.D.Denot = c.args.pass.now in
    let h : CoreHand g.row.D.Denot = c.args.hand.now in
    let x = c.requires.next in
    outside_back c.args.stage.now c.requires.opened k h c.requires.hand c.args.b x.0 x.1 c.need_in_row-need.result (c.need_in_row-need.ensures x.0 (there c.args.stage.now c.requires.opened k h [] c.requires.hand c.args.b x.0 x.1)) c.take_outside.new.pass c.in-Ok.outside c.in-Ok.ensures.got c.slice_with-turned.new.pass c.put_outside.new.pass c.slice_with-turned.new.hand c.slice_with-turned.result
    c.slice_with-turned.ensures.turn c.put_outside.ensures
