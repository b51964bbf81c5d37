use Rattle.std.proofs.Common.{◌≡◌, take, map}
use Rattle.dc_base.specs.declared.images.CoreImage.{CoreImage}
use Rattle.dc_base.specs.States.{empty}
use Rattle.dc_objects.proofs.starts.mailboxes_of.Given as goal

abbrev pub invariant-loop-core : goal.invariant-loop-core
invariant-loop-core l = l.mailboxes.items ≡ map (λ (c : CoreImage). empty) (take l._core-index l.cores)
