use Rattle.std.proofs.Common.{◌≡◌, length, drop, []}
use Rattle.toml.specs.View.{items_view}
use Rattle.dc_image.specs.declared.keys.At.TheVariants as at
use Rattle.dc_image.specs.KeyText.{key_of}
use Rattle.dc_image.specs.ImageKeys.{items_read, any_number}
use Rattle.dc_image.proofs.arrays.words_of.Given as goal

abbrev pub invariant-loop-i : goal.invariant-loop-i
invariant-loop-i l = record {
  count : length l.words.items ≡ l.i;
  left : items_read (λ before. any_number) l.words.items (key_of (at.Key l.place l.name)) (items_view (drop l.i l.items)) ≡ items_read (λ before. any_number) [] (key_of (at.Key l.place l.name)) (items_view l.items);
}
