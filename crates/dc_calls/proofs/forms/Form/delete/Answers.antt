use Rattle.std.proofs.Common.{rules, map}
use Rattle.dc_base.specs.Kernel.{call_of}
use Rattle.dc_base.specs.Instructions.{is_proper}
use Rattle.dc_caps.specs.Outcomes.{trap_of}
use Rattle.dc_calls.proofs.CapsServed.{Runs, refused, done}
use Rattle.dc_calls.proofs.forms.Form.delete.Goals as goal

pub delete-requires-clause-slot : goal.delete-requires-clause-slot
unfolding is_proper
delete-requires-clause-slot g c = search rules

pub returns-in-Err : goal.returns-in-Err
unfolding call_of
returns-in-Err g c =
    let f = c.self.inside in
    let h : Runs f.memory.items (map (λ v. v.items) f.code.items) f.ports.items f.table f.agenda c.args.self.now c.args.d.0 = record { seen = c.self.view_is; same = c.self.invariant; run = c.requires.running } in
    record { served = λ n b time out v e. refused h c.delete.new.self c.in-Err.ensures.err c.trap.result (trap_of c.in-Err.fault) c.trap.ensures _ c.in-Err.ensures.call v n b out }

pub returns : goal.returns
unfolding call_of
returns g c =
    let f = c.self.inside in
    let h : Runs f.memory.items (map (λ v. v.items) f.code.items) f.ports.items f.table f.agenda c.args.self.now c.args.d.0 = record { seen = c.self.view_is; same = c.self.invariant; run = c.requires.running } in
    record { served = λ n b time out v e. done h c.delete.new.self c.go_on.new.self c.go_on.ensures v e _ c.in_default.ensures.call n b out }
