use Rattle.std.proofs.Common.{◌≡◌, length}
use Rattle.dc_stage.specs.History.{own, after}
use Rattle.dc_stage.specs.Passes.{having_taken}
use Rattle.dc_stage.specs.Tally.{tally}
use Rattle.dc_stage.specs.declared.tests.tally.Add.{Add}
use Rattle.dc_stage.proofs.tests.count_up.Given as goal

abbrev pub invariant-loop-ticket : goal.invariant-loop-ticket
invariant-loop-ticket g l = record {
  same : l.pass ≡ having_taken l.fn.pass l.i l.pass.seen;
  room : length (own l.pass.actor l.pass.seen) ≡ l.ticket-index;
  number : l.number ≡ after (tally (λ (e : Add). e.0)) l.pass.seen l.i;
}
