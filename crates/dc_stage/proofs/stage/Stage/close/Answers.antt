use Rattle.std.proofs.Common.{ℕ, ◌<◌, Some, sym, ap, ◌∙◌, subst}
use mathlib.Core.Option.{some-injective}
use Rattle.std.specs.Mem.Slots.{slots_items, slots_counts}
use Rattle.dc_stage.proofs.Passes.{some_same}
use Rattle.dc_stage.proofs.Slots.{within}
use Rattle.dc_stage.proofs.Closes.{AtClose, at_close}
use Rattle.dc_stage.proofs.stage.Stage.close.Goals as goal

closed : (g : _) (c : goal.After-close_with g) → AtClose (g.S.Scene.meaning c.args.self.scene) g.S.Scene.state c.args.pass (slots_items c.close_with.result.slots)
closed g c = let seat = c.pass.inside.seat in at_close g.S.Scene.meaning g.S.Scene.state c.self.inside.board.shared.key c.args.self.scene seat.table_id seat.id seat.me.0 (slots_items c.close_with.result.words) (slots_items c.close_with.result.slots) c.args.pass
    c.pass.view_is (ap (λ z. z.scene) c.self.view_is) c.pass.invariant.live c.pass.invariant.joined c.requires.alone c.requires.empty c.close_with.ensures.values.2

ending : (g : _) (c : goal.After-into_inner g) → AtClose (g.S.Scene.meaning c.args.self.scene) g.S.Scene.state c.args.pass (slots_items c.close_with.result.slots)
ending g c = let seat = c.pass.inside.seat in at_close g.S.Scene.meaning g.S.Scene.state c.self.inside.board.shared.key c.args.self.scene seat.table_id seat.id seat.me.0 (slots_items c.close_with.result.words) (slots_items c.close_with.result.slots) c.args.pass
    c.pass.view_is (ap (λ z. z.scene) c.self.view_is) c.pass.invariant.live c.pass.invariant.joined c.requires.alone c.requires.empty c.close_with.ensures.values.2

pub out_of_table-objects-requires-clause-filled : goal.out_of_table-objects-requires-clause-filled
out_of_table-objects-requires-clause-filled g c i lt = let e = (closed g c).slots i (subst (λ (z : ℕ). i < z) (slots_counts c.close_with.result.slots).0 lt) in (e.0, e.1)

pub returns-clause-states : goal.returns-clause-states
returns-clause-states g c i x at = let found = c.out_of_table-objects.ensures.each i x at in let e = (ending g c).slots i (within (slots_items c.close_with.result.slots) i (Some x) found) in
    ap g.S.Scene.state (some_same x e.0 (some-injective (Some x) (Some e.0) (sym found ∙ e.1))) ∙ e.2

pub returns-clause-history : goal.returns-clause-history
returns-clause-history g c = (ending g c).history

pub returns-clause-refusals : goal.returns-clause-refusals
returns-clause-refusals g c = (ending g c).refusals
