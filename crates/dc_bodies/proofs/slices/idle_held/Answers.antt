-- The core's clock goes on.
use Rattle.std.proofs.Common.{[], ◌∷◌, sym, ap, ◌∙◌}
use Rattle.dc_base.specs.declared.entries.Entry.{Entry}
use Rattle.dc_base.specs.declared.entries.What.TheVariants as what
use Rattle.dc_base.specs.Changes.{core_becomes}
use Rattle.dc_base.specs.Outcomes.{by_core}
use Rattle.dc_base.specs.States.{Core}
use Rattle.dc_base.specs.IdleTurns.{idle_outcome}
use Rattle.dc_base.specs.Turns.{did}
use Rattle.dc_bodies.proofs.slices.idle_held.Goals as goal

pub returns : goal.returns
unfolding idle_outcome
returns c =
    ap (λ (k : Core). did (core_becomes c.args.c.0 k ∷ []) (by_core c.args.c.0 (what.Idle c.args.clock))) (sym c.idled.ensures)
    ∙ ap (λ (e : Entry). did (core_becomes c.args.c.0 c.idled.new.self ∷ []) e) (sym c.by_core.ensures)
