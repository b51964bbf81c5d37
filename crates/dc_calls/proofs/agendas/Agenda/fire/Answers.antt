use Rattle.std.proofs.Common.{◌<◌, length, refl, arith}
use Rattle.dc_base.specs.Firing.{fire_all}
use Rattle.dc_kcb.specs.Controls.{control_of}
use Rattle.dc_calls.proofs.AgendaFires.{fired-none, named-signal, fewer-armed, size-after, named-after, fired-after, fired-end}
use Rattle.dc_calls.proofs.agendas.Agenda.fire.Goals as goal

pub loop-t-init : goal.loop-t-init
loop-t-init g c = record { named = c.requires.named; room = omega arith; size = refl; control = λ st. fired-none (fire_all c.args.time (control_of st c.args.self.now)) }

pub latch-requires : goal.latch-requires
latch-requires g c = record { there = named-signal c.args.time c.loop-t.self c.take_due.new.self c.take_due.result c.take_due.ensures.which c.take_due.ensures.rest c.in-Some.t c.in-Some.is c.loop-t.invariant.named }

pub loop-t-preserved : goal.loop-t-preserved
loop-t-preserved g c =
    let less : length c.latch.new.self.timers < length c.loop-t.self.timers = fewer-armed c.args.time c.loop-t.self c.take_due.new.self c.take_due.result c.take_due.ensures.which c.take_due.ensures.rest c.in-Some.t c.in-Some.is c.latch.new.self c.latch.ensures.control in
    record {
      named = named-after c.args.time c.loop-t.self c.take_due.new.self c.take_due.result c.take_due.ensures.which c.take_due.ensures.rest c.in-Some.t c.in-Some.is c.latch.new.self c.latch.ensures.control c.latch.ensures.signals c.loop-t.invariant.named;
      room = omega (arith, less, c.loop-t.invariant.room);
      size = size-after c.args.time c.loop-t.self c.take_due.new.self c.take_due.result c.take_due.ensures.which c.take_due.ensures.rest c.in-Some.t c.in-Some.is c.latch.new.self c.latch.ensures.control (length c.args.self.now.disps) c.latch.ensures.size c.loop-t.invariant.size;
      control = λ st. fired-after c.args.time c.loop-t.self c.take_due.new.self c.take_due.result c.take_due.ensures.which c.take_due.ensures.rest c.in-Some.t c.in-Some.is c.latch.new.self c.latch.ensures.control c.loop-t.count st (fire_all c.args.time (control_of st c.args.self.now)) (c.loop-t.invariant.control st);
    }

pub loop-t-smaller : goal.loop-t-smaller
loop-t-smaller g c = fewer-armed c.args.time c.loop-t.self c.take_due.new.self c.take_due.result c.take_due.ensures.which c.take_due.ensures.rest c.in-Some.t c.in-Some.is c.latch.new.self c.latch.ensures.control

pub returns-clause-control : goal.returns-clause-control
returns-clause-control g c st = fired-end c.args.time c.loop-t.self c.take_due.new.self c.take_due.result c.take_due.ensures.which c.take_due.ensures.rest c.in_default.is c.loop-t.count st (fire_all c.args.time (control_of st c.args.self.now)) (c.loop-t.invariant.control st)
