use Rattle.std.proofs.Common.{subst, ◌<◌, ℕ}
use Rattle.dc_base.specs.declared.commands.Order.TheVariants as order
use Rattle.dc_boot.proofs.After.{release_done, left_off}
use Rattle.dc_boot.proofs.registry.Registry.release.Goals as goal

pub returns-in-Some : goal.returns-in-Some
returns-in-Some c = release_done c.self.inside.cores.items c.deref_mut.result.now c.self.inside.places.items c.args.self.now c.args.c.0 c.index-deref_mut-at.result c.self.view_is c.deref_mut.ensures.value (subst (λ (n : ℕ). c.args.c.0 < n) c.len.ensures.value c.if-at-len.true) c.args.b c.in-Some.kernel c.release.new.self c.set_place.new.self c.in-Some.is c.release.ensures c.set_place.ensures

pub returns-in_default : goal.returns-in_default
returns-in_default c = left_off c.self.inside.cores.items c.deref_mut.result.now c.self.inside.places.items c.args.self.now c.args.c.0 c.index-deref_mut-at.result c.self.view_is c.deref_mut.ensures.value (subst (λ (n : ℕ). c.args.c.0 < n) c.len.ensures.value c.if-at-len.true) (order.Release c.args.b) tt c.in_default.is
