-- Every image that a text is, is valid.
use Rattle.std.proofs.Common.{◌≡◌, ℕ, ◌-◌, ◌*◌, ◌/◌, ◌^◌, ◌<◌, ◌≤◌, min, Bool, true, false, List, [], length, take, Result, Ok, Err, Option, Some, None, IfSome, sym, subst, arith}
use Rattle.std.specs.Prelude.{slice_get, ◌==◌, ◌&&◌, nat_lt, not, codes, if◌then◌else◌}
use Rattle.std.proofs.lemmas.Bool.{and_parts}
use Rattle.std.proofs.lemmas.Bool.Decides.{nat_tests}
use Rattle.std.proofs.lemmas.Option.{slice_get_within}
use Rattle.std.proofs.lemmas.List.{length-take}
use Rattle.toml.specs.Data.{Members}
use Rattle.dc_base.specs.Results.{◌>>=◌, or_fault}
use Rattle.dc_base.specs.FaultText.{ImageRefusal, not_toml, too_long}
use Rattle.dc_base.specs.Limits.{longest_file}
use Rattle.dc_base.specs.declared.numbers.CoreNo.{CoreNo}
use Rattle.dc_base.specs.declared.kernels.Clocks.{Clocks}
use Rattle.dc_base.specs.declared.kernels.Clocks.TheVariants.{Kept}
use Rattle.dc_base.specs.declared.images.Image.{Image}
use Rattle.dc_base.specs.declared.images.CoreImage.{CoreImage}
use Rattle.dc_base.specs.declared.images.BlockImage.{BlockImage}
use Rattle.dc_base.specs.declared.images.ChanImage.{ChanImage}
use Rattle.dc_base.specs.Valid.{IsOnAtStart, HomesDiffer, is_given_line, LinesDiffer, IsValid}
use Rattle.dc_image.specs.ImageKeys.{Table, required, optional, maybe, number_where, number_within, number_below, word_where, version_of, clocks_of, clocks_in, item_count, array_within, each_within, table_by}
use Rattle.dc_image.specs.BlocksOf.{Machine, is_this, is_home_of, blocks_in}
use Rattle.dc_image.specs.ImageOf.{core_in, cores_in, slices_in, channel_in, channels_in, image_in, image_of, document_of}
use Rattle.dc_image.proofs.Chains.{chained}
use Rattle.dc_image.proofs.BuiltLaws.{IsBuilt, only_one}
use Rattle.dc_image.proofs.RuleLaws.{Within, IsList, required_has, optional_has, where_has, within_has, below_has, each_has, array_has, table_has}
use Rattle.dc_image.proofs.CapLaws.{not_true}
use Rattle.dc_image.proofs.DispLaws.{none_built}
use Rattle.dc_image.proofs.BlockLaws.{HomeLaw, BlockAfter, blocks_have, blocks_count}
use Rattle.dc_image.proofs.ValidParts.{machine, valid_block, line_new, home_new}

core_has : (t : Table) (k : CoreImage) → core_in t ≡ Ok k → k.base < 2 ^ 62
unfolding core_in
core_has t k e =
    let base = chained (optional t (codes "base") 0 (number_within 0 (2 ^ 62 - 1))) _ k e in
    let version = chained (maybe t (codes "version") (word_where version_of)) _ k base.after in
    let low : Within 0 (2 ^ 62 - 1) base.first =
    optional_has (Within 0 (2 ^ 62 - 1)) (number_within 0 (2 ^ 62 - 1)) (within_has 0 (2 ^ 62 - 1)) t (codes "base") 0 (omega arith, omega arith) base.first base.was in
    let made : CoreImage = record { base = base.first; version = version.first } in
    let same : made ≡ k = cc in
    let below : base.first < 2 ^ 62 = omega (arith, low.1) in
    subst (λ (c : CoreImage). c.base < 2 ^ 62) same below

cores_have : (t : Table) (cores : List CoreImage) → cores_in t ≡ Ok cores → IsList 1 8 (λ before k. k.base < 2 ^ 62) cores
unfolding cores_in
cores_have t cores e =
    required_has (IsList 1 8 (λ before k. k.base < 2 ^ 62)) (each_within 1 8 (λ before. table_by core_in))
    (each_has 1 8 (λ before k. k.base < 2 ^ 62) (λ before. table_by core_in) (λ before. table_has (λ k. k.base < 2 ^ 62) core_in core_has)) t (codes "core") cores e

-- a channel between two different blocks of so many
record ChannelLaw (blocks : ℕ) (r : ChanImage) : Type 0 where
  from : r.from.0 < blocks
  to : r.to.0 < blocks
  apart : r.from.0 ≡ r.to.0 → ⊥
  capacity : Within 1 64 r.capacity

other_block : (blocks from : ℕ) (n : ℕ) → (nat_lt n blocks && not (n == from)) ≡ true → (n < blocks) × (n ≡ from → ⊥)
other_block blocks from n both =
    let parts = and_parts (nat_lt n blocks) (not (n == from)) both in
    let test : nat_lt n blocks ≡ true = parts.0 in
    let other : (n == from) ≡ false = not_true (n == from) parts.1 in
    (grind (arith, nat_tests), λ same. apart n from other same)
  where
    apart : (m k : ℕ) → (m == k) ≡ false → m ≡ k → ⊥
    apart m k other same = grind (arith, nat_tests)

channel_has : (blocks : ℕ) (t : Table) (r : ChanImage) → channel_in blocks t ≡ Ok r → ChannelLaw blocks r
unfolding channel_in
channel_has blocks t r e =
    let from = chained (required t (codes "from") (number_below blocks)) _ r e in
    let test = λ (n : ℕ). nat_lt n blocks && not (n == from.first) in
    let to = chained (required t (codes "to") (number_where test)) _ r from.after in
    let capacity = chained (required t (codes "capacity") (number_within 1 64)) _ r to.after in
    let low : from.first < blocks = required_has (λ n. n < blocks) (number_below blocks) (below_has blocks) t (codes "from") from.first from.was in
    let other = other_block blocks from.first to.first (required_has (λ n. test n ≡ true) (number_where test) (where_has test) t (codes "to") to.first to.was) in
    let made : ChanImage = record { from = record { 0 = from.first }; to = record { 0 = to.first }; capacity = capacity.first } in
    let same : made ≡ r = cc in
    let law : ChannelLaw blocks made = record {
      from = low;
      to = other.0;
      apart = λ same. other.1 (sym same);
      capacity = required_has (Within 1 64) (number_within 1 64) (within_has 1 64) t (codes "capacity") capacity.first capacity.was;
    } in
    subst (ChannelLaw blocks) same law

channels_have : (blocks : ℕ) (t : Table) (channels : List ChanImage) → channels_in blocks t ≡ Ok channels → IsList 0 64 (λ before r. ChannelLaw blocks r) channels
unfolding channels_in
channels_have blocks t channels e =
    optional_has (IsList 0 64 (λ before r. ChannelLaw blocks r)) (each_within 0 64 (λ before. table_by (channel_in blocks)))
    (each_has 0 64 (λ before r. ChannelLaw blocks r) (λ before. table_by (channel_in blocks)) (λ before. table_has (ChannelLaw blocks) (channel_in blocks) (channel_has blocks)))
    t (codes "channel") [] (record { count = (omega arith, omega arith); built = none_built (λ before r. ChannelLaw blocks r) }) channels e

clocks_have : (format : ℕ) (t : Table) (clocks : Clocks) → clocks_in format t ≡ Ok clocks → format ≡ 1 → clocks ≡ Kept
clocks_have format t clocks e first = in_first (format == 2) (not_second format first) (optional t (codes "clocks") Kept (word_where clocks_of)) e
  where
    not_second : (n : ℕ) → n ≡ 1 → (n == 2) ≡ false
    not_second n one = rw one

    in_first : (b : Bool) → b ≡ false → (r : Result Clocks ImageRefusal) → (if b then r else Ok Kept) ≡ Ok clocks → clocks ≡ Kept
    in_first true other r h = cc
    in_first false other r h = cc

slices_has : (cores : ℕ) (t : Table) (slices : ℕ) → 1 ≤ cores → slices_in cores t ≡ Ok slices → Within 1 131072 slices × (cores * slices ≤ 241664)
unfolding slices_in
slices_has cores t slices some e =
    let most = min 131072 (241664 / cores) in
    let within : Within 1 most slices = required_has (Within 1 most) (number_within 1 most) (within_has 1 most) t (codes "slices") slices e in
    let low : slices ≤ 241664 / cores = omega (arith, within.1) in
    ((within.0, omega (arith, within.1)), product cores slices some low)
  where
    product : (c s : ℕ) → 1 ≤ c → s ≤ 241664 / c → c * s ≤ 241664
    product c s some low = grind arith

home_is : (o : Option CoreNo) (c : CoreNo) → o ≡ Some c → is_this c.0 o ≡ true
home_is None c e = cc
home_is (Some d) c e = let same : d.0 ≡ c.0 = cc in number_is d.0 c.0 same
  where
    number_is : (m n : ℕ) → m ≡ n → (m == n) ≡ true
    number_is m n same = grind (arith, nat_tests)

number-take : (blocks : List BlockImage) (b : ℕ) (x : BlockImage) → slice_get blocks b ≡ Some x → length (take b blocks) ≡ b
number-take blocks b x at = let low : b < length blocks = slice_get_within blocks b x at in simp length-take (omega arith)

on_only : (cores : List CoreImage) (before : List BlockImage) (o : Option CoreNo) → IfSome o (HomeLaw cores before) → IfSome o (IsOnAtStart cores)
on_only cores before None h = tt
on_only cores before (Some c) h = h.on

-- the parts before the blocks
record IsBegun (image : Image) : Type 0 where
  format : Within 1 2 image.format
  clocks : image.format ≡ 1 → image.clocks ≡ Kept
  quantum : Within 1 64 image.quantum
  slices : Within 1 131072 image.slices
  all_slices : length image.cores * image.slices ≤ 241664
  lines : image.lines ≤ 16
  cores : IsList 1 8 (λ before k. k.base < 2 ^ 62) image.cores
  block_count : Within 1 16 (length image.blocks)
  channels : IsList 0 64 (λ before r. ChannelLaw (length image.blocks) r) image.channels

module _ (image : Image) (law : IsBuilt (BlockAfter (machine image)) image.blocks) where
  homes_differ : HomesDiffer image.blocks
  homes_differ a b x y c at_x at_y home_x home_y =
      only_one (is_home_of c.0) image.blocks (λ i z at. home_new (machine image) (length (take i image.blocks)) (take i image.blocks) z (law i z at) c.0) a b x y at_x at_y
      (home_is x.home c home_x) (home_is y.home c home_y)

  lines_differ : LinesDiffer image.blocks
  lines_differ n a b x y at_x at_y given_x given_y =
      only_one (is_given_line n) image.blocks (λ i z at. line_new (machine image) (length (take i image.blocks)) (take i image.blocks) z (law i z at) n) a b x y at_x at_y given_x given_y

  valid_of : IsBegun image → IsValid image
  valid_of begun = record {
    format = begun.format;
    kept = begun.clocks;
    limits = record {
      quantum = begun.quantum;
      slices = begun.slices;
      all_slices = begun.all_slices;
      cores = begun.cores.count;
      blocks = begun.block_count;
      channels = begun.channels.count.1;
      lines = begun.lines;
    };
    bases = begun.cores.built;
    homes = λ b x at. on_only image.cores (take b image.blocks) x.home (law b x at).home;
    homes_differ = homes_differ;
    blocks = λ b x at. valid_block image (length (take b image.blocks)) (take b image.blocks) x b (number-take image.blocks b x at) (law b x at);
    channels = λ i r at. let c = begun.channels.built i r at in record { from = c.from; to = c.to; apart = c.apart; capacity = c.capacity };
    lines_differ = lines_differ;
  }

ok_same : {A : Type 0} (x y : A) → ◌≡◌ {A = Result A ImageRefusal} (Ok x) (Ok y) → x ≡ y
ok_same x y e = cc

lines_have : (t : Table) (n : ℕ) → optional t (codes "lines") 0 (number_within 0 16) ≡ Ok n → n ≤ 16
lines_have t n e = let within : Within 0 16 n = optional_has (Within 0 16) (number_within 0 16) (within_has 0 16) t (codes "lines") 0 (omega arith, omega arith) n e in within.1

-- the image of a table is valid
image_in_valid : (members : Members) (image : Image) → image_in members ≡ Ok image → IsValid image
unfolding image_in
image_in_valid members image e =
    let t : Table = record { path = []; members = members } in
    let format = chained (required t (codes "format") (number_within 1 2)) _ image e in
    let clocks = chained (clocks_in format.first t) _ image format.after in
    let quantum = chained (required t (codes "quantum") (number_within 1 64)) _ image clocks.after in
    let cores = chained (cores_in t) _ image quantum.after in
    let slices = chained (slices_in (length cores.first) t) _ image cores.after in
    let lines = chained (optional t (codes "lines") 0 (number_within 0 16)) _ image slices.after in
    let items = chained (required t (codes "block") (array_within 1 16)) _ image lines.after in
    let channels = chained (channels_in (item_count items.first) t) _ image items.after in
    let m : Machine = record { cores = cores.first; channels = channels.first; lines = lines.first } in
    let blocks = chained (blocks_in m items.first) _ image channels.after in
    let some = cores_have t cores.first cores.was in
    let budget = slices_has (length cores.first) t slices.first some.count.0 slices.was in
    let within = required_has (λ ds. Within 1 16 (item_count ds)) (array_within 1 16) (array_has 1 16) t (codes "block") items.first items.was in
    let list = blocks_have m items.first blocks.first within blocks.was in
    let count = blocks_count m items.first blocks.first blocks.was in
    let all : Image = record {
      format = format.first;
      clocks = clocks.first;
      quantum = quantum.first;
      slices = slices.first;
      lines = lines.first;
      cores = cores.first;
      blocks = blocks.first;
      channels = channels.first;
    } in
    let begun : IsBegun all = record {
      format = required_has (Within 1 2) (number_within 1 2) (within_has 1 2) t (codes "format") format.first format.was;
      clocks = clocks_have format.first t clocks.first clocks.was;
      quantum = required_has (Within 1 64) (number_within 1 64) (within_has 1 64) t (codes "quantum") quantum.first quantum.was;
      slices = budget.0;
      all_slices = budget.1;
      lines = lines_have t lines.first lines.was;
      cores = some;
      block_count = list.count;
      channels = subst (λ n. IsList 0 64 (λ before r. ChannelLaw n r) channels.first) (sym count) (channels_have (item_count items.first) t channels.first channels.was);
    } in
    subst IsValid (ok_same all image blocks.after) (valid_of all list.built begun)

tree_valid : (o : Option Members) (image : Image) → or_fault not_toml o >>= image_in ≡ Ok image → IsValid image
tree_valid None image e = cc
tree_valid (Some members) image e = image_in_valid members image e

-- the image of a text is valid
pub image_of_valid : (bytes : List ℕ) (image : Image) → image_of bytes ≡ Ok image → IsValid image
unfolding image_of
image_of_valid bytes image e = tree_valid (document_of bytes) image (short_enough (nat_lt longest_file (length bytes)) (or_fault not_toml (document_of bytes) >>= image_in) e)
  where
    short_enough : (b : Bool) (r : Result Image ImageRefusal) → (if b then Err too_long else r) ≡ Ok image → r ≡ Ok image
    short_enough true r h = cc
    short_enough false r h = h
