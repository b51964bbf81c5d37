use Rattle.std.proofs.Common.{ℕ, List, subst, sym}
use Rattle.dc_base.specs.FaultText.{usage_line}
use Rattle.dc_base.specs.TextWords.{ended}
use Rattle.dc_top.specs.BadInputs.{usage}
use Rattle.dc_play.specs.Written.{Writes}
use Rattle.dc_top.specs.Written.{WritesAs}
use Rattle.dc_top.proofs.Answers.{writes_as}
use Rattle.dc_top.proofs.commands.tell_usage.Goals as goal

pub returns : goal.returns
unfolding usage_line
returns g c = record {
  told =
      subst (λ (n : ℕ). WritesAs (g.S.Sink.faults c.args.sink.now) (g.S.Sink.faults c.put_text.new.sink) (g.S.Sink.told c.args.sink.now) (g.S.Sink.told c.put_text.new.sink) 1 (ended usage) n) (sym c.status_for.ensures)
      (writes_as (g.S.Sink.faults c.args.sink.now) (g.S.Sink.faults c.put_text.new.sink) (g.S.Sink.told c.args.sink.now) (g.S.Sink.told c.put_text.new.sink) 1 (ended usage) c.put_text.result
      (subst (λ (t : List ℕ). Writes (g.S.Sink.told c.args.sink.now) (g.S.Sink.told c.put_text.new.sink) t c.put_text.result) c.as_bytes.ensures.value c.put_text.ensures.writes) c.put_text.ensures.failed);
  grows = c.put_text.ensures.grows;
}
