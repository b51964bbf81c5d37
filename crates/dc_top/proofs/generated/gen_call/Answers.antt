use Rattle.std.proofs.Common.{ℕ, List, refl, subst, sym}
use Rattle.dc_base.specs.PlayText.{gen_text}
use Rattle.dc_play.specs.Written.{Writes}
use Rattle.dc_top.specs.Written.{PlaysAs, no_text}
use Rattle.dc_top.proofs.Answers.{plays_whole, written_as}
use Rattle.dc_top.proofs.Summaries.{gen_summed}
use Rattle.dc_top.proofs.generated.gen_call.Goals as goal

pub returns-in-Ok-clause-answers : goal.returns-in-Ok-clause-answers
returns-in-Ok-clause-answers g c =
    let before = g.S.Sink.told c.args.sink.now in
    let after = g.S.Sink.told c.put_summary.new.sink in
    let f : ℕ = g.S.Sink.faults c.args.sink.now in
    let h : ℕ = g.S.Sink.faults c.put_summary.new.sink in
    subst (λ (n : ℕ). PlaysAs f h before after (gen_text c.args.n) n) (sym c.status_for.ensures)
    (written_as f h before after (gen_text c.args.n) c.put_summary.result
    (subst (λ (t : List ℕ). Writes before after t c.put_summary.result) (gen_summed c.args.n c.in-Ok.summary c.in-Ok.ensures) c.put_summary.ensures.writes) c.put_summary.ensures.failed)

pub returns-in-Ok-clause-written : goal.returns-in-Ok-clause-written
returns-in-Ok-clause-written g c =
    plays_whole (g.S.Sink.faults c.args.sink.now) (g.S.Sink.faults c.put_summary.new.sink) (g.S.Sink.told c.args.sink.now) (g.S.Sink.told c.put_summary.new.sink) (gen_text c.args.n) c.status_for.result
    (returns-in-Ok-clause-answers g c)

pub returns-in-Err-clause-answers : goal.returns-in-Err-clause-answers
returns-in-Err-clause-answers g c = no_text refl
