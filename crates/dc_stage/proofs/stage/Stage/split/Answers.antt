use Rattle.std.proofs.Common.{sym, ap, ◌∙◌, arith}
use Rattle.dc_stage.proofs.Splits.{splits}
use Rattle.dc_stage.proofs.Passes.{goes_on, ok_making}
use Rattle.dc_stage.proofs.stage.Stage.split.Goals as goal

pub split_seat-seat-requires : goal.split_seat-seat-requires
split_seat-seat-requires g c = let key = c.self.inside.board.shared.key in (
  ap (λ z. z.table_id) c.pass.view_is ∙ (c.requires.stage.0 ∙ sym (ap (λ z. z.table_id) c.self.view_is)),
  omega (arith, c.self.invariant.0),
  splits (g.S.Scene.meaning key) g.S.Scene.state key c.pass.inside.seat.id c.pass.inside.seat.me.0 c.pass.invariant.live (ap (λ z. z.first) c.pass.view_is ∙ c.requires.first)
      (let made = ap (λ z. z.made) c.pass.view_is in let few = ap (λ z. z.actors) c.self.view_is in omega (arith, c.requires.room, c.self.invariant.2)),
)

pub invariant_of-pass : goal.invariant_of-pass
invariant_of-pass g c = let t = c.split_seat-seat.ensures in goes_on (ap (λ z. z.slots) t.0) t.2 (ok_making c.pass.invariant)
