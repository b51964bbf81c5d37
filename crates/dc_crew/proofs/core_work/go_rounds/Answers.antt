use Rattle.dc_crew.proofs.core_work.go_rounds.Goals as goal

pub go_past-requires-clause-work : goal.go_past-requires-clause-work
go_past-requires-clause-work g c κs within = (c.requires.work.0, c.loop.invariant.work c.requires.work.0 c.requires.work.1)

pub loop-preserved : goal.loop-preserved
loop-preserved g c = record {
  may_go = (tt, tt);
  work = λ s w. c.go_past.ensures s (c.loop.invariant.work s w);
}

pub returns-then-not-go_past : goal.returns-then-not-go_past
returns-then-not-go_past g c = λ s w. c.go_past.ensures s (c.loop.invariant.work s w)
