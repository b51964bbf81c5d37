use Rattle.std.proofs.Common.{◌≡◌, subst}
use Rattle.std.specs.Option.{option_map}
use Rattle.dc_base.specs.declared.numbers.DispNo.{DispNo}
use Rattle.dc_base.specs.ControlBlocks.{ControlBlock}
use Rattle.dc_base.specs.Firing.{fire_all}
use Rattle.dc_base.specs.Policies.{pick}
use Rattle.dc_calls.proofs.forms.Form.pick_after.Goals as goal

pub returns : goal.returns
returns g c = subst (λ (x : ControlBlock). option_map (λ (d : DispNo). d.0) c.pick_after.result ≡ pick g.R.ReadyList.policy (fire_all c.args.time x).control.dues (fire_all c.args.time x).control.ready) c.self.view_is (c.pick_after.ensures _)
