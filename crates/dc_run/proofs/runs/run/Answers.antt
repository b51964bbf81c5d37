use Rattle.std.proofs.Common.{ℕ, List, subst}
use Rattle.dc_io.specs.Told.{Adds}
use Rattle.dc_run.specs.Texts.{text_of}
use Rattle.dc_run.proofs.runs.run.Goals as goal

pub write_ended-requires-clause-lines : goal.write_ended-requires-clause-lines
write_ended-requires-clause-lines g c =
    let o = c.in-Ok.opening in
    let ready = c.in-Ok.ensures in
    let ran = c.in-Ok-run_events in
    (c.ended_runs_have_texts.ensures c.args.image.now c.args.script.now o.stage o.kinds ran.ended c.requires.image c.requires.script
    ready.of ready.opened ready.kinds ran.ensures).lined

pub write_ended-requires-clause-objects : goal.write_ended-requires-clause-objects
write_ended-requires-clause-objects g c =
    let o = c.in-Ok.opening in
    let ready = c.in-Ok.ensures in
    let ran = c.in-Ok-run_events in
    let has =
    c.ended_runs_have_texts.ensures c.args.image.now c.args.script.now o.stage o.kinds ran.ended c.requires.image c.requires.script
    ready.of ready.opened ready.kinds ran.ensures in
    (has.state, has.objects_are, has.room, has.sound)

pub returns-in-Ok-write_ended-clause-runs : goal.returns-in-Ok-write_ended-clause-runs
returns-in-Ok-write_ended-clause-runs g c =
    let o = c.in-Ok.opening in
    let ready = c.in-Ok.ensures in
    let ran = c.in-Ok-run_events in
    let has =
    c.ended_runs_have_texts.ensures c.args.image.now c.args.script.now o.stage o.kinds ran.ended c.requires.image c.requires.script
    ready.of ready.opened ready.kinds ran.ensures in (
      ran.ended.journal.items,
      has.run,
      has.short,
      subst (λ (text : List ℕ). Adds (g.S.Sink.told c.args.sink.now) (g.S.Sink.told c.write_ended.new.sink) text) has.text
          (c.in-Ok-write_ended.ensures.writes has.state has.objects_are),
    )

pub returns-in-Err-clause-runs : goal.returns-in-Err-clause-runs
returns-in-Err-clause-runs g c =
    let o = c.in-Ok.opening in
    let ready = c.in-Ok.ensures in
    let ran = c.in-Ok-run_events in
    let has =
    c.ended_runs_have_texts.ensures c.args.image.now c.args.script.now o.stage o.kinds ran.ended c.requires.image c.requires.script
    ready.of ready.opened ready.kinds ran.ensures in (
      c.in-Err.ensures.failed,
      (text_of ran.ended.journal.items has.state, (ran.ended.journal.items, has.run, has.text), c.in-Err.ensures.writes has.state has.objects_are),
    )
