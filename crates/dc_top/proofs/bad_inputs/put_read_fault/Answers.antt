use Rattle.std.proofs.Common.{◌≡◌, ◌++◌, ◌∷◌, [], ℕ, List, subst}
use Rattle.std.specs.Prelude.{codes}
use Rattle.dc_base.specs.FaultText.{read_fault_line}
use Rattle.dc_io.specs.Told.{Adds, AddsPrefix}
use Rattle.dc_play.specs.Written.{Writes}
use Rattle.dc_play.proofs.Adding.{prefix_first, writes_failed, writes_behind}
use Rattle.dc_top.proofs.bad_inputs.put_read_fault.Goals as goal

pub returns-in_err-put_both-clause-writes : goal.returns-in_err-put_both-clause-writes
unfolding read_fault_line
returns-in_err-put_both-clause-writes g c =
    let first = g.S.Sink.told c.args.sink.now in
    let now = g.S.Sink.told c.put_both.new.sink in
    let line : List ℕ = codes "read fault " ++ c.args.name.now in
    let same : c.as_bytes.result.now ++ c.as_bytes-2.result.now ≡ line = cc in
    writes_failed first now (line ++ 10 ∷ []) c.from_residual.result c.from_residual.ensures.0 (prefix_first first now line (10 ∷ []) (subst (λ (t : List ℕ). AddsPrefix first now t) same c.in_err-put_both.ensures.writes))

pub returns-clause-writes : goal.returns-clause-writes
unfolding read_fault_line
returns-clause-writes g c =
    let first = g.S.Sink.told c.args.sink.now in
    let mid = g.S.Sink.told c.put_both.new.sink in
    let now = g.S.Sink.told c.put_text.new.sink in
    let line : List ℕ = codes "read fault " ++ c.args.name.now in
    let same : c.as_bytes.result.now ++ c.as_bytes-2.result.now ≡ line = cc in
    writes_behind first mid now line (10 ∷ []) c.put_text.result (subst (λ (t : List ℕ). Adds first mid t) same c.in_ok-put_both.ensures.writes)
    (subst (λ (t : List ℕ). Writes mid now t c.put_text.result) c.as_bytes-3.ensures.value c.put_text.ensures.writes)
