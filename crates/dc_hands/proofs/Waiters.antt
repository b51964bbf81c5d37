-- Dispatchers that wait on a channel, as a hand shows them.
use Rattle.std.proofs.Common.{◌≡◌, false, Option, Some, None, refl}
use Rattle.std.specs.Prelude.{is_some}
use Rattle.std.specs.Option.{option_map_or}
use Rattle.dc_base.specs.declared.dispatchers.DispState.{DispState}
use Rattle.dc_base.specs.declared.dispatchers.DispState.TheVariants as disp
use Rattle.dc_base.specs.declared.dispatchers.Wait.TheVariants as wait
use Rattle.dc_base.specs.Named.{waits_on_channel}
use Rattle.dc_bodies.specs.Waits.{channel_wait}

-- a dispatcher has a channel on which it waits exactly where it waits on one
pub waits_shown : (o : Option DispState) → is_some (channel_wait o) ≡ option_map_or waits_on_channel o false
waits_shown None = refl
waits_shown (Some (disp.Waits (wait.Csend y))) = refl
waits_shown (Some (disp.Waits (wait.Crecv y))) = refl
waits_shown (Some state) = refl
