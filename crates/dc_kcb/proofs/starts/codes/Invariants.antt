use Rattle.std.proofs.Common.{◌≡◌, map, take}
use Rattle.dc_base.specs.declared.images.DispImage.{DispImage}
use Rattle.dc_kcb.proofs.starts.codes.Given as goal

abbrev pub invariant-loop-disp : goal.invariant-loop-disp
invariant-loop-disp l = map (λ v. v.items) l.codes.items ≡ map (λ (i : DispImage). i.code) (take l.disp-index l.disps)
