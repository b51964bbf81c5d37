use Rattle.std.proofs.Common.{◌++◌, ℕ, List, subst}
use Rattle.dc_base.specs.ReportText.{skipped_text, end_text}
use Rattle.dc_base.specs.TextWords.{ended}
use Rattle.dc_io.specs.Told.{Adds, AddsPrefix}
use Rattle.dc_play.specs.Written.{Writes}
use Rattle.dc_play.proofs.Adding.{prefix_first, writes_failed, writes_behind}
use Rattle.dc_play.proofs.ends.write_end.Goals as goal

pub returns-in_err-put_line-clause-writes : goal.returns-in_err-put_line-clause-writes
returns-in_err-put_line-clause-writes g c =
    let first = g.S.Sink.told c.args.sink.now in
    let now = g.S.Sink.told c.put_line.new.sink in
    let skipped : List ℕ = ended (skipped_text c.args.skipped) in
    let end : List ℕ = ended end_text in
    writes_failed first now (skipped ++ end) c.from_residual.result c.from_residual.ensures.0
    (prefix_first first now skipped end (subst (λ (t : List ℕ). AddsPrefix first now (ended t)) c.skipped_line.ensures.text c.in_err-put_line.ensures.writes))

pub returns-clause-writes : goal.returns-clause-writes
returns-clause-writes g c =
    let first = g.S.Sink.told c.args.sink.now in
    let mid = g.S.Sink.told c.put_line.new.sink in
    let now = g.S.Sink.told c.put_line-2.new.sink in
    let skipped : List ℕ = ended (skipped_text c.args.skipped) in
    let end : List ℕ = ended end_text in
    writes_behind first mid now skipped end c.put_line-2.result (subst (λ (t : List ℕ). Adds first mid (ended t)) c.skipped_line.ensures.text c.in_ok-put_line.ensures.writes)
    (subst (λ (t : List ℕ). Writes mid now (ended t) c.put_line-2.result) c.word_line.ensures.text c.put_line-2.ensures.writes)
