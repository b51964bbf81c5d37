use Rattle.std.proofs.Common.{◌≡◌, ◌<◌, List, subst}
use Rattle.std.specs.Prelude.{Some, slice_get}
use Rattle.dc_base.specs.declared.interrupts.Timer.{Timer}
use Rattle.dc_timers.proofs.Shifts.{some-behind, take-keeps, taken-there}
use Rattle.dc_timers.proofs.buckets.Buckets.take.Goals as goal

pub move_earlier-requires-clause-some : goal.move_earlier-requires-clause-some
move_earlier-requires-clause-some c =
    let there = taken-there c.self.inside.room.items c.args.self.now c.args.at c.remove-timer.result c.self.view_is c.requires c.remove-timer.ensures.value in
    λ k lt small. some-behind c.self.inside.room.items c.self.inside.starts c.remove-timer.result c.args.at c.self.invariant there k (subst (λ b. b < k) c.bucket_of.ensures.value lt) small

pub invariant_of-self : goal.invariant_of-self
invariant_of-self c =
    let there = taken-there c.self.inside.room.items c.args.self.now c.args.at c.remove-timer.result c.self.view_is c.requires c.remove-timer.ensures.value in
    take-keeps c.self.inside.room.items c.remove-timer.new.self.items c.self.inside.starts c.move_earlier.new.starts c.remove-timer.result c.args.at c.bucket_of.result c.bucket_of.ensures.value c.self.invariant there c.move_earlier.ensures.size
    c.move_earlier.ensures.starts c.remove-timer.ensures.items

pub returns-clause-value : goal.returns-clause-value
returns-clause-value c = subst (λ (xs : List Timer). slice_get xs c.args.at ≡ Some c.remove-timer.result) c.self.view_is (taken-there c.self.inside.room.items c.args.self.now c.args.at c.remove-timer.result c.self.view_is c.requires c.remove-timer.ensures.value)
