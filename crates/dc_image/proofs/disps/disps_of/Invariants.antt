use Rattle.std.proofs.Common.{◌≡◌, length, drop, []}
use Rattle.toml.specs.View.{items_view}
use Rattle.dc_image.specs.declared.keys.At.TheVariants as at
use Rattle.dc_image.specs.declared.keys.Name.TheVariants as name
use Rattle.dc_image.specs.declared.keys.Place.TheVariants as place
use Rattle.dc_image.specs.KeyText.{key_of}
use Rattle.dc_image.specs.ImageKeys.{items_read, table_by}
use Rattle.dc_image.specs.CapsOf.{around_of}
use Rattle.dc_image.specs.DispsOf.{disp_in}
use Rattle.dc_image.proofs.disps.disps_of.Given as goal

abbrev pub invariant-loop-i : goal.invariant-loop-i
invariant-loop-i l = record {
  count : length l.disps.items ≡ l.i;
  left : items_read (λ before. table_by (disp_in (around_of l.around))) l.disps.items (key_of (at.Key (place.Block l.block) name.Disp)) (items_view (drop l.i l.items)) ≡ items_read (λ before. table_by (disp_in (around_of l.around))) [] (key_of (at.Key (place.Block l.block) name.Disp)) (items_view l.items);
}
