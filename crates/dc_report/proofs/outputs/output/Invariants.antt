use Rattle.std.proofs.Common.{◌≡◌}
use Rattle.dc_objects.specs.States.{state_of}
use Rattle.dc_report.specs.Remaining.{rest_from}
use Rattle.dc_report.specs.declared.places.Place.TheVariants.{Out}
use Rattle.dc_report.proofs.outputs.output.Given as goal

-- no console so far has a word there
abbrev pub invariant-loop-block : goal.invariant-loop-block
invariant-loop-block g l = rest_from (state_of l.objects) (Out l.block l.at) ≡ rest_from (state_of l.objects) (Out l.b l.i)
