use Rattle.std.proofs.Common.{ap}
use Rattle.dc_stage.proofs.Passes.{goes_on, ok_seeing}
use Rattle.dc_stage.proofs.stage.Stage.look.Goals as goal

pub invariant_of-pass : goal.invariant_of-pass
invariant_of-pass g c = let t = c.look.ensures in goes_on (ap (λ z. z.slots) t.same.0) t.told.2 (ok_seeing c.pass.invariant _ t.told.1.joined)
