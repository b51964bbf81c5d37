use Rattle.std.proofs.Common.{◌≡◌, true, Option, Some, None, refl, sym, ap, ◌∙◌, subst}
use Rattle.std.specs.Prelude.{slice_get}
use Rattle.std.specs.Option.{option_map}
use Rattle.dc_base.specs.declared.dispatchers.DispState.{DispState}
use Rattle.dc_base.specs.declared.dispatchers.DispState.TheVariants as disp
use Rattle.dc_base.specs.declared.dispatchers.Wait.{Wait}
use Rattle.dc_base.specs.Named.{waits_on_channel}
use Rattle.dc_block_sound.specs.SoundControls.{IsSoundControl}
use Rattle.dc_kernel.specs.Running.{Running}
use Rattle.dc_kernel.proofs.kernels.KernelDriver.wake.Goals as goal

waiting : (o : Option DispState) → option_map waits_on_channel o ≡ Some true → (w : Wait) × (o ≡ Some (disp.Waits w))
waiting None e = absurd cc
waiting (Some (disp.Waits w)) e = (w, refl)
waiting (Some s) e = absurd cc

pub invariant_of-self : goal.invariant_of-self
invariant_of-self g c =
    let w = waiting (slice_get c.self.inside.form.states c.args.d.0) (ap (λ (r : Running). option_map waits_on_channel (slice_get r.control.states c.args.d.0)) c.self.view_is ∙ c.requires) in
    record {
      sound = subst IsSoundControl (sym c.wake_one.ensures) (c.waking_keeps_controls.ensures c.args.d.0 w.0 c.self.inside.form w.1 c.self.invariant.sound);
      behind = c.self.invariant.behind;
      ahead = c.self.invariant.ahead;
    }
