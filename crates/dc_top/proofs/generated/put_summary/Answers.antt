use Rattle.std.proofs.Common.{ℕ, List, [], ◌∷◌}
use Rattle.std.specs.Prelude.{codes, decimal}
use Prim.Native.String.{String}
use Rattle.dc_base.specs.Generated.{summary_text}
use Rattle.dc_base.specs.TextWords.{ended, spaced}
use Rattle.dc_play.proofs.Adding.{writes_failed}
use Rattle.dc_top.proofs.Summaries.{first_fails, second_fails, third_fails, all_put}
use Rattle.dc_top.proofs.generated.put_summary.Goals as goal

abbrev line : String → ℕ → List ℕ
line word n = ended (spaced (codes word ∷ decimal n ∷ []))

pub returns-in_err-put_count-clause-writes : goal.returns-in_err-put_count-clause-writes
unfolding summary_text
returns-in_err-put_count-clause-writes g c =
    let s = c.args.summary in
    let t0 = g.S.Sink.told c.args.sink.now in
    let t1 = g.S.Sink.told c.put_count.new.sink in
    writes_failed t0 t1 (summary_text s.entries s.skipped s.outputs s.sum) c.from_residual.result c.from_residual.ensures.0
    (first_fails t0 t1 (line "entries" s.entries) (line "skipped" s.skipped) (line "outputs" s.outputs) (line "sum" s.sum) c.in_err-put_count.ensures.writes)

pub returns-in_err-put_count-2-clause-writes : goal.returns-in_err-put_count-2-clause-writes
unfolding summary_text
returns-in_err-put_count-2-clause-writes g c =
    let s = c.args.summary in
    let t0 = g.S.Sink.told c.args.sink.now in
    let t1 = g.S.Sink.told c.put_count.new.sink in
    let t2 = g.S.Sink.told c.put_count-2.new.sink in
    writes_failed t0 t2 (summary_text s.entries s.skipped s.outputs s.sum) c.from_residual-in_err-put_count-2.result c.from_residual-in_err-put_count-2.ensures.0
    (second_fails t0 t1 (line "entries" s.entries) (line "skipped" s.skipped) (line "outputs" s.outputs) (line "sum" s.sum) t2 c.in_ok-put_count.ensures.writes c.in_err-put_count-2.ensures.writes)

pub returns-in_err-put_count-3-clause-writes : goal.returns-in_err-put_count-3-clause-writes
unfolding summary_text
returns-in_err-put_count-3-clause-writes g c =
    let s = c.args.summary in
    let t0 = g.S.Sink.told c.args.sink.now in
    let t1 = g.S.Sink.told c.put_count.new.sink in
    let t2 = g.S.Sink.told c.put_count-2.new.sink in
    let t3 = g.S.Sink.told c.put_count-3.new.sink in
    writes_failed t0 t3 (summary_text s.entries s.skipped s.outputs s.sum) c.from_residual-in_err-put_count-3.result c.from_residual-in_err-put_count-3.ensures.0
    (third_fails t0 t1 (line "entries" s.entries) (line "skipped" s.skipped) (line "outputs" s.outputs) (line "sum" s.sum) t2 c.in_ok-put_count.ensures.writes t3 c.in_ok-put_count-2.ensures.writes
    c.in_err-put_count-3.ensures.writes)

pub returns-clause-writes : goal.returns-clause-writes
unfolding summary_text
returns-clause-writes g c =
    let s = c.args.summary in
    let t0 = g.S.Sink.told c.args.sink.now in
    let t1 = g.S.Sink.told c.put_count.new.sink in
    let t2 = g.S.Sink.told c.put_count-2.new.sink in
    let t3 = g.S.Sink.told c.put_count-3.new.sink in
    let t4 = g.S.Sink.told c.put_count-4.new.sink in
    all_put t0 t1 (line "entries" s.entries) (line "skipped" s.skipped) (line "outputs" s.outputs) (line "sum" s.sum) t2 c.in_ok-put_count.ensures.writes t3 c.in_ok-put_count-2.ensures.writes t4
    c.put_count-4.result c.in_ok-put_count-3.ensures.writes c.put_count-4.ensures.writes
