-- A dispatcher that does not go on.
use Rattle.std.proofs.Common.{[], ◌∷◌, sym, ◌∙◌}
use Rattle.dc_base.specs.Changes.{a_channel}
use Rattle.dc_bodies.specs.Waits.{channel_of}
use Rattle.dc_hands.specs.declared.hands.CoreHand.{CoreHand}
use Rattle.dc_hands.specs.Machines.{Passing}
use Rattle.dc_core_turns.proofs.WakeAround.{wake_still}
use Rattle.dc_core_turns.proofs.wakes.wake_on.Goals as goal

pub returns-else-goes_on-clause-turn : goal.returns-else-goes_on-clause-turn
returns-else-goes_on-clause-turn g c =
    let k : Passing g.row.D.Denot = c.args.pass.now in
    let h : CoreHand g.row.D.Denot = c.args.hand.now in
    let x = c.requires.block in
    wake_still c.args.stage.now c.requires.opened k h (a_channel (channel_of c.args.wait).0 ∷ []) c.requires.hand c.args.b c.args.d c.requires.acts c.requires.here x.0 x.1 c.args.wait x.2
    c.args.waited.now c.requires.channel (sym c.goes_on.ensures ∙ c.if-goes_on.false)
