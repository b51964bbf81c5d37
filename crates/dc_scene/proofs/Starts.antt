-- The start of a machine.
use Rattle.std.proofs.Common.{◌≡◌, ℕ, zero, suc, ◌+◌, ◌≤◌, List, [], ◌∷◌, Some, refl, sym, ap, ◌∙◌, map, length, arith}
use Rattle.std.specs.Prelude.{slice_get}
use Rattle.std.specs.Option.{option_map}
use Rattle.std.proofs.lemmas.Option.{slice_get-map}
use Rattle.std.proofs.lemmas.List.{length-map, length-replicate}
use mathlib.Core.Option.{some}
use lib.ListN.{get_elem?}
use Rattle.dc_base.specs.declared.images.Image.{Image}
use Rattle.dc_base.specs.declared.images.BlockImage.{BlockImage}
use Rattle.dc_base.specs.declared.images.CoreImage.{CoreImage}
use Rattle.dc_base.specs.declared.commands.ScriptLine.{ScriptLine}
use Rattle.dc_base.specs.States.{State, Settings, settings_of, cores_from, core_start}
use Rattle.dc_base.specs.Bounded.{AreLimited}
use Rattle.dc_base.specs.Objects.{objects, HasSizes}
use Rattle.dc_scene.specs.declared.objects.Object.{Object as Held}
use Rattle.dc_scene.specs.Objects.{object_seen}
use Rattle.dc_scene.specs.Machines.{at_sized}
use Rattle.dc_scene.specs.Sizes.{at_sizes}
use Rattle.dc_scene.proofs.Numbering.{at_objects, objects_count}

as_many_cores : (t : Settings) (c : ℕ) (blocks : List BlockImage) (ks : List CoreImage) → length (cores_from t c blocks ks) ≡ length ks
as_many_cores t c blocks [] = refl
as_many_cores t c blocks (k ∷ ks) = ap suc (as_many_cores t (c + 1) blocks ks)

module _ (image : Image) (lines : List ScriptLine) where
  -- the start has the sizes that the settings say
  pub start_sizes : HasSizes (settings_of image) (core_start image lines)
  unfolding core_start
  start_sizes = record {
    cores = as_many_cores (settings_of image) 0 image.blocks image.cores;
    blocks = length-map image.blocks _;
    channels = length-map image.channels _;
    lines = length-replicate image.lines _;
    mailboxes = length-map image.cores _;
    consoles = length-map image.blocks _;
  }

  -- and at most 1,024 objects
  pub start_few : AreLimited (settings_of image) → length (objects (core_start image lines)) ≤ 1024
  start_few h =
      let e = objects_count (settings_of image) (core_start image lines) start_sizes in
      omega (arith, e, h.cores.1, h.blocks.1, h.channels, h.lines)

same_get : {A : Type 0} (xs : List A) (i : ℕ) (x : A) → get_elem? xs i ≡ some x → slice_get xs i ≡ Some x
same_get [] i x h = cc
same_get (y ∷ xs) zero x h = let e : y ≡ x = cc in ap Some e
same_get (y ∷ xs) (suc i) x h = same_get xs i x h

-- objects that are those of a state of the right sizes are each as its number says
pub held_start : {D : Type 0} (t : Settings) (s : State) → HasSizes t s → (held : List (Held D)) → map object_seen held ≡ objects s
    → (i : ℕ) (x : Held D) → get_elem? held i ≡ some x → Some (object_seen x) ≡ at_sized t s i
held_start t s z held same i x h =
    ap (option_map object_seen) (sym (same_get held i x h))
    ∙ (sym (slice_get-map object_seen held i)
    ∙ (ap (λ os. slice_get os i) same
    ∙ (sym (at_objects t s z i) ∙ sym (at_sizes t s z i))))
