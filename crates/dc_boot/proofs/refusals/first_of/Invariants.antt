use Rattle.std.proofs.Common.{◌≡◌, drop}
use Rattle.dc_base.specs.Words.{first_of}
use Rattle.dc_boot.proofs.refusals.first_of.Given as goal

-- no cause so far applies
abbrev pub invariant-loop-cause : goal.invariant-loop-cause
invariant-loop-cause l = first_of (drop l.cause-index l.causes) ≡ first_of l.causes
