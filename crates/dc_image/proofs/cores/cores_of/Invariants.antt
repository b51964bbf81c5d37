use Rattle.std.proofs.Common.{◌≡◌, length, drop, []}
use Rattle.toml.specs.View.{items_view}
use Rattle.dc_image.specs.declared.keys.At.TheVariants as at
use Rattle.dc_image.specs.declared.keys.Name.TheVariants as name
use Rattle.dc_image.specs.declared.keys.Place.TheVariants as place
use Rattle.dc_image.specs.KeyText.{key_of}
use Rattle.dc_image.specs.ImageKeys.{items_read, table_by}
use Rattle.dc_image.specs.ImageOf.{core_in}
use Rattle.dc_image.proofs.cores.cores_of.Given as goal

abbrev pub invariant-loop-i : goal.invariant-loop-i
invariant-loop-i l = record {
  count : length l.cores.items ≡ l.i;
  left : items_read (λ before. table_by core_in) l.cores.items (key_of (at.Key place.Image name.Core)) (items_view (drop l.i l.items)) ≡ items_read (λ before. table_by core_in) [] (key_of (at.Key place.Image name.Core)) (items_view l.items);
}
