-- A state with no block, which has the object that one call needs.
use Rattle.std.proofs.Common.{◌≡◌, ℕ, zero, suc, ◌≤◌, List, [], Some, refl, ap}
use Rattle.std.specs.Prelude.{slice_get, replicate, IfSome}
use Rattle.dc_base.specs.declared.calls.Need.{Need}
use Rattle.dc_base.specs.declared.calls.Need.TheVariants as needs
use Rattle.dc_base.specs.declared.kernels.Clocks.TheVariants.{Kept}
use Rattle.dc_base.specs.Channels.{Ring}
use Rattle.dc_base.specs.Lines.{Wire}
use Rattle.dc_base.specs.Serving.{Outside, nothing_outside, console_outside, channel_outside, line_outside}
use Rattle.dc_base.specs.States.{State, Settings, Script}
use Rattle.dc_base.specs.NeededLooks.{as_console, as_channel, as_line}
use Rattle.dc_base.proofs.EachLaws.{each_nil}
use Rattle.dc_block_sound.specs.SoundControls.{Suits}
use Rattle.dc_block_sound.proofs.CapForms.{OffersWithin}
use Rattle.dc_block_sound.proofs.OutsideAt.{outside_at}
use Rattle.dc_block_sound.proofs.StartLists.{each_replicate}

pub no_settings : Settings
no_settings = record { quantum = 0; slices = 0; clocks = Kept; cores = 0; blocks = 0; channels = 0; lines = 0 }

pub no_script : Script
no_script = record { settings = no_settings; lines = []; registry = record { cores = []; places = [] }; place = 0; raises = 0; posts = 0 }

abbrev pub state_of : List (List ℕ) → List Ring → List Wire → State
state_of consoles channels lines = record { cores = []; blocks = []; channels = channels; lines = lines; mailboxes = []; consoles = consoles; script = no_script }

-- a state with nothing
abbrev pub nowhere : State
nowhere = state_of [] [] []

-- a state that has this object where a call of block b needs it
abbrev pub beside : ℕ → Need → Outside → State
beside b needs.Console (console_outside ws) = state_of (replicate (suc b) ws) [] []
beside b (needs.Channel x) (channel_outside r) = state_of [] (replicate (suc x.0) r) []
beside b (needs.Line l) (line_outside w) = state_of [] [] (replicate (suc l.0) w)
beside b n out = nowhere

last_there : {A : Type 0} (n : ℕ) (a : A) → slice_get (replicate (suc n) a) n ≡ Some a
last_there zero a = refl
last_there (suc n) a = last_there n a

-- a call finds it there
pub found_beside : (b : ℕ) (n : Need) (out : Outside) → Suits n out → outside_at (beside b n out) b n ≡ out
found_beside b needs.Nothing nothing_outside h = refl
found_beside b needs.Console nothing_outside h = refl
found_beside b needs.Console (console_outside ws) h = ap as_console (last_there b ws)
found_beside b (needs.Channel x) nothing_outside h = refl
found_beside b (needs.Channel x) (channel_outside r) h = ap as_channel (last_there x.0 r)
found_beside b (needs.Line l) nothing_outside h = refl
found_beside b (needs.Line l) (line_outside w) h = ap as_line (last_there l.0 w)
found_beside b n out h = absurd h

pub offers_nowhere : OffersWithin nowhere
offers_nowhere = each_nil (λ l (w : Wire). IfSome w.offer (λ (o : ℕ × ℕ). o.1 ≤ 7))

pub offers_beside : (b : ℕ) (n : Need) (out : Outside) → Suits n out → OffersWithin (beside b n out)
offers_beside b (needs.Line l) (line_outside w) h = each_replicate (λ (w : Wire). IfSome w.offer (λ (o : ℕ × ℕ). o.1 ≤ 7)) (suc l.0) w h
offers_beside b needs.Console (console_outside ws) h = offers_nowhere
offers_beside b (needs.Channel x) (channel_outside r) h = offers_nowhere
offers_beside b n nothing_outside h = offers_nowhere
offers_beside b n out h = absurd h
