-- The generated image is valid.
use Rattle.std.proofs.Common.{◌≡◌, ◌^◌, ◌<◌, ◌∙◌, map, false, true, refl, ap, sym, subst, arith}
use Rattle.std.specs.Prelude.{IsTrue, IfSome}
use Rattle.std.specs.List.{range_with_len}
use Rattle.dc_base.specs.declared.images.CoreImage.{CoreImage}
use Rattle.dc_base.specs.declared.images.BlockImage.{BlockImage}
use Rattle.dc_base.specs.Bounded.{AreLimited}
use Rattle.dc_base.specs.States.{settings_of}
use Rattle.dc_base.specs.Generated.{generated_core, generated_block, generated_channel, generated_image}
use Rattle.dc_base.specs.Valid.{IsValidBlock, IsValidChannel, IsOnAtStart, HomesDiffer, is_given_line, LinesDiffer, IsValid}
use Rattle.dc_gen.proofs.Ranges.{of_range, each_of_range}
use Rattle.dc_gen.proofs.ImageParts.{IsRing, block, channel, home, home_is, base}

ring : IsRing generated_image
unfolding generated_image
ring = record { cores = refl; blocks = refl; channels = refl }

homes_differ : HomesDiffer (map generated_block (range_with_len 0 16))
homes_differ b d x y h at_b at_d home_x home_y =
    let p = of_range generated_block 16 b x at_b in
    let q = of_range generated_block 16 d y at_d in
    sym (home_is b h (sym (ap (λ (z : BlockImage). z.home) p.is) ∙ home_x)) ∙ home_is d h (sym (ap (λ (z : BlockImage). z.home) q.is) ∙ home_y)

lines_differ : LinesDiffer (map generated_block (range_with_len 0 16))
lines_differ l b d x y at_b at_d given_x given_y =
    let p = of_range generated_block 16 b x at_b in
    let no : false ≡ true = subst (λ z. IsTrue (is_given_line l z)) p.is given_x in
    cc

limited : AreLimited (settings_of generated_image)
unfolding generated_image
limited = record {
  quantum = (omega arith, omega arith);
  slices = (omega arith, omega arith);
  all_slices = omega arith;
  cores = (omega arith, omega arith);
  blocks = (omega arith, omega arith);
  channels = omega arith;
  lines = omega arith;
}

pub image_valid : IsValid generated_image
unfolding generated_image
image_valid = record {
  format = (omega arith, omega arith);
  kept = λ _. refl;
  limits = limited;
  bases = each_of_range (λ c (k : CoreImage). k.base < 2 ^ 62) generated_core 8 base;
  homes = each_of_range (λ b (x : BlockImage). IfSome x.home (IsOnAtStart generated_image.cores)) generated_block 16 (λ b lt. home generated_image b ring);
  homes_differ = homes_differ;
  blocks = each_of_range (λ b x. IsValidBlock generated_image b x) generated_block 16 (λ b lt. block generated_image b ring lt);
  channels = each_of_range (λ x c. IsValidChannel generated_image c) generated_channel 16 (λ x lt. channel generated_image x ring lt);
  lines_differ = lines_differ;
}
