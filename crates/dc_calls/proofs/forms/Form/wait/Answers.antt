use Rattle.std.proofs.Common.{◌∙◌, arith}
use Rattle.dc_calls.proofs.CallContexts.{place_within, running_places}
use Rattle.dc_calls.proofs.CallServed.{serves_faults, serves_waits, serves_takes}
use Rattle.dc_calls.proofs.CallSignals.{wait_fields, wait_faults, wait_is, latch_waits, latch_takes, latch_of_block, none_taken, still_there, latch_taken}
use Rattle.dc_calls.proofs.forms.Form.wait.Goals as goal

pub signal-requires-clause-slot : goal.signal-requires-clause-slot
signal-requires-clause-slot g c = (wait_fields c.args.a c.args.b c.requires.proper).0

pub returns-in-Err : goal.returns-in-Err
returns-in-Err g c = record { served = λ k n time out x there. serves_faults k n _ c.args.self.now c.args.self.now out _ _ (wait_faults time c.args.d.0 c.args.a c.args.b x c.args.self.now.parts _ c.in-Err.ensures.call) c.trap.ensures }

pub returns-in_default : goal.returns-in_default
returns-in_default g c = record {
  served = λ k n time out x there.
      serves_waits k n _ c.args.self.now _ out _
      (wait_is time c.args.d.0 c.args.a c.args.b x c.args.self.now.parts c.in-Ok.signal.0 c.in-Ok.ensures.call
      ∙ latch_waits c.args.d.0 c.in-Ok.signal.0 c.args.b x c.args.self.now.parts (latch_of_block _ _ c.take_latch.new.self _ c.self.view_is c.in-Ok.signal.0 _ c.in_default.ensures.latch))
      (none_taken _ _ _ _ c.self.view_is c.in-Ok.signal.0 c.take_latch.ensures.agenda c.in-Ok.ensures.named c.in_default.ensures.latch);
}

pub bounds-regs-b : goal.bounds-regs-b
bounds-regs-b g c = (wait_fields c.args.a c.args.b c.requires.proper).1

pub overflow_add-disp : goal.overflow_add-disp
overflow_add-disp g c = omega (arith, place_within _ _ _ _ _ c.self.view_is (still_there _ _ _ _ c.self.view_is c.in-Ok.signal.0 c.take_latch.ensures.agenda _ _ c.disp-disp.ensures) (running_places _ _ c.requires.running))

pub returns : goal.returns
returns g c = record {
  served = λ k n time out x there.
      serves_takes k n _ c.args.self.now _ out c.in-Some.latch _
      (wait_is time c.args.d.0 c.args.a c.args.b x c.args.self.now.parts c.in-Ok.signal.0 c.in-Ok.ensures.call
      ∙ latch_takes c.args.d.0 c.in-Ok.signal.0 c.args.b x c.args.self.now.parts c.in-Some.latch (latch_of_block _ _ c.take_latch.new.self _ c.self.view_is c.in-Ok.signal.0 _ c.in-Some.ensures.latch))
      (latch_taken _ _ _ _ c.self.view_is c.in-Ok.signal.0 c.take_latch.ensures.agenda _ c.args.d.0 c.args.b c.in-Some.latch.value c.disp-disp.result x c.disp-disp.ensures there (c.go_to.ensures.control _));
}
