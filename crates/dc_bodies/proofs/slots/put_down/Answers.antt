-- The element is put down where one was lifted out.
use Rattle.std.proofs.Common.{◌≡◌, ◌+◌, subst, arith, List, length}
use Rattle.std.specs.List.{SwappedAt}
use Rattle.dc_bodies.proofs.Lifting.{put_back}
use Rattle.dc_bodies.proofs.slots.put_down.Goals as goal

pub returns : goal.returns
returns g c whole e h =
    let s = subst (λ (us : List _). SwappedAt us c.swap.new.self.items c.args.i c.len-last.result) c.push_reserved.ensures.items c.swap.ensures.by_index in
    let last : c.len-last.result ≡ length c.args.list.now.items = omega arith in
    let long : length c.swap.new.self.items ≡ length c.args.list.now.items + 1 = omega arith in
    put_back c.args.list.now.items c.swap.new.self.items whole c.args.i c.len-last.result c.args.element h e last s long
