use Rattle.std.proofs.Common.{sym, subst}
use Rattle.dc_base.specs.Boot.{after_order}
use Rattle.dc_boot.specs.Registries.{FindsRoom, FindRoom, further}
use Rattle.dc_boot.proofs.Room.{all_found}
use Rattle.dc_boot.proofs.registry.Registry.finish.Goals as goal

pub carry-requires : goal.carry-requires
carry-requires c = record { room = (subst (λ os. FindRoom c.args.self.now os) (sym c.orders-plan.ensures) (all_found c.args.self.now c.args.c.now c.requires)).0 }

pub carry-requires-in-Some : goal.carry-requires-in-Some
carry-requires-in-Some c =
    let first = c.orders-plan.result.first in
    let all = subst (λ os. FindRoom c.args.self.now os) (sym c.orders-plan.ensures) (all_found c.args.self.now c.args.c.now c.requires) in
    let second = subst (λ o. FindRoom (after_order c.args.self.now first.0.0 first.1) (further o)) c.in-Some.is all.1 in
    record { room = subst (λ r. FindsRoom r c.in-Some.core.0 c.in-Some.order) (sym c.carry.ensures) second.0 }
