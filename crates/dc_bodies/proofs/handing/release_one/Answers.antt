use Rattle.std.proofs.Common.{◌<◌, ◌∙◌, List, get_or, length, sym, ap, subst, arith}
use Rattle.std.specs.Prelude.{slice_set}
use Rattle.std.proofs.lemmas.List.{length-set}
use Rattle.std.proofs.lemmas.Option.{slice_get_within}
use Rattle.dc_base.specs.Orders.{block_at_rest}
use Rattle.dc_base.specs.States.{Block}
use Rattle.dc_objects.specs.Blocks.{IsTimed}
use Rattle.dc_bodies.proofs.ShareChanges.{one_changed, read_here}
use Rattle.dc_bodies.proofs.handing.release_one.Goals as goal

pub index_mut-requires : goal.index_mut-requires
index_mut-requires g c =
    let xs : List Block = c.args.blocks.now.items in
    let h = subst (λ n. n < length xs) (sym c.place.ensures) (slice_get_within xs (g.P.Places.at c.args.places.now c.args.b.0) c.requires.block.0 c.requires.block.1) in
    omega (arith, h, c.args.blocks.now.ok.0)

pub release-requires-after_bounds : goal.release-requires-after_bounds
release-requires-after_bounds g c κs within =
    let xs : List Block = c.args.blocks.now.items in
    let x : Block = c.requires.block.0 in
    let v : Block = c.index_mut.result.now in
    let read = c.index_mut.ensures.value ∙ ap (λ n. get_or xs n v) c.place.ensures in
    subst (IsTimed c.args.clock) (sym (read_here (g.P.Places.at c.args.places.now) xs c.args.b.0 x v c.requires.block.1 read)) c.requires.block.2

pub returns-clause-block : goal.returns-clause-block
returns-clause-block g c =
    let at = g.P.Places.at c.args.places.now in
    let xs : List Block = c.args.blocks.now.items in
    let x : Block = c.requires.block.0 in
    let v : Block = c.index_mut.result.now in
    let y : Block = c.release.new.self in
    let read = c.index_mut.ensures.value ∙ ap (λ n. get_or xs n v) c.place.ensures in
    one_changed (block_at_rest c.args.clock) at xs (slice_set xs c.place.result y) c.args.b.0 x y c.requires.block.1
    (c.release.ensures ∙ ap (block_at_rest c.args.clock) (read_here at xs c.args.b.0 x v c.requires.block.1 read)) (ap (λ n. slice_set xs n y) c.place.ensures) c.requires.apart

pub returns-clause-count : goal.returns-clause-count
returns-clause-count g c = length-set c.args.blocks.now.items c.place.result c.release.new.self
