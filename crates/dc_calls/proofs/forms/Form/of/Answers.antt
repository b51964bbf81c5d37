use Rattle.std.proofs.Common.{sym, subst}
use Rattle.dc_kcb.specs.Wholes.{resting_of}
use Rattle.dc_calls.specs.Queued.{AreQueued}
use Rattle.dc_calls.proofs.ListedReady.{listed_at}
use Rattle.dc_calls.proofs.forms.Form.of.Goals as goal

pub invariant_of-result : goal.invariant_of-result
invariant_of-result g c = subst (AreQueued c.args.parts.disps.items) (sym c.restore.ensures) (record {
  once = c.requires.once;
  dues = c.requires.dues;
  states = λ i e q. c.ready_stand_once.ensures.listed (resting_of c.args.parts).control c.requires.control.ready e.0 (listed_at _ i e q);
})
