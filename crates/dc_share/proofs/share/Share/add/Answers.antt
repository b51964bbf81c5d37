use Rattle.std.proofs.Common.{ap, ◌∙◌, subst, sym, arith}
use Rattle.dc_base.specs.Outcomes.{has}
use Rattle.dc_share.specs.Shares.{HasRoom}
use Rattle.dc_share.proofs.Parts.{joined_within, room_for_one}
use Rattle.dc_share.proofs.share.Share.add.Goals as goal

pub push-requires : goal.push-requires
push-requires c = (omega arith, room_for_one c.args.parked c.self.inside.seats.items c.self.invariant (subst (HasRoom c.args.parked) (sym c.self.view_is) c.requires.room))

pub invariant_of-self : goal.invariant_of-self
invariant_of-self c = rw c.push.ensures.items (rw c.new.ensures (joined_within c.args.b.0 c.args.parked c.self.inside.seats.items c.self.invariant c.requires.below (ap (λ s. has s c.args.b.0) c.self.view_is ∙ c.requires.apart) (subst (HasRoom c.args.parked) (sym c.self.view_is) c.requires.room)))
