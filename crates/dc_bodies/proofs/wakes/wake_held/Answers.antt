-- The core and the block change.
use Rattle.std.proofs.Common.{[], ◌∷◌, sym, ap, ◌∙◌}
use Rattle.dc_base.specs.declared.entries.Entry.{Entry}
use Rattle.dc_base.specs.declared.entries.What.TheVariants as what
use Rattle.dc_base.specs.Changes.{core_becomes, block_becomes}
use Rattle.dc_base.specs.Outcomes.{by_core}
use Rattle.dc_base.specs.States.{Core, Block, with_control}
use Rattle.dc_base.specs.Turns.{did}
use Rattle.dc_base.specs.Wakes.{ready_again}
use Rattle.dc_bodies.proofs.WakeTurns.{wake_is}
use Rattle.dc_bodies.proofs.wakes.wake_held.Goals as goal

pub returns : goal.returns
returns g c =
    let x : Block = c.args.block.now in
    let b = c.args.b.0 in
    let e : Entry = by_core c.args.c.0 (what.Wake c.args.b c.args.d) in
    wake_is c.args.c.0 b c.args.d.0 c.args.core.now c.count.new.self x c.wake.new.self c.by_core.result
    (ap (λ (k : Core). did (core_becomes c.args.c.0 k ∷ block_becomes b (with_control (ready_again c.args.d.0 x.control) x) ∷ []) e) (sym c.count.ensures)
    ∙ ap (λ (y : Block). did (core_becomes c.args.c.0 c.count.new.self ∷ block_becomes b y ∷ []) e) (sym c.wake.ensures)
    ∙ ap (did (core_becomes c.args.c.0 c.count.new.self ∷ block_becomes b c.wake.new.self ∷ [])) (sym c.by_core.ensures))
