-- What the blocks have that are read.
use Rattle.std.proofs.Common.{◌≡◌, ℕ, ◌<◌, ◌≤◌, ◌^◌, true, false, List, [], length, Ok, Option, Some, None, IfSome, refl, ap, ◌∙◌, subst, arith}
use Rattle.std.specs.Prelude.{◌&&◌, not, slice_get, codes, ⊤}
use Rattle.std.specs.List.{list_any}
use Rattle.std.proofs.lemmas.Bool.{and_parts}
use Rattle.toml.specs.Data.{Items}
use Rattle.dc_base.specs.declared.numbers.CoreNo.{CoreNo}
use Rattle.dc_base.specs.declared.images.CoreImage.{CoreImage}
use Rattle.dc_base.specs.declared.images.BlockImage.{BlockImage}
use Rattle.dc_base.specs.KeptByBlocks.{AreWords}
use Rattle.dc_base.specs.Valid.{IsOnAtStart}
use Rattle.dc_image.specs.ImageKeys.{Table, optional, maybe, number_where, number_within, any_number, item_count, each_within, table_by}
use Rattle.dc_image.specs.DispsOf.{disps_in}
use Rattle.dc_image.specs.BlocksOf.{Machine, is_on, is_home_of, home_in, around, data_in, block_in, blocks_in}
use Rattle.dc_image.proofs.Chains.{chained}
use Rattle.dc_image.proofs.BuiltLaws.{items_built}
use Rattle.dc_image.proofs.RuleLaws.{Within, Has, IsList, optional_has, maybe_has, where_has, within_has, each_has, table_has, counted}
use Rattle.dc_image.proofs.CapLaws.{not_true}
use Rattle.dc_image.proofs.DispLaws.{DispLaw, any_has, disps_have, none_built}

-- a core that is on, and home of no block before
pub record HomeLaw (cores : List CoreImage) (before : List BlockImage) (c : CoreNo) : Type 0 where
  pub on : IsOnAtStart cores c
  pub free : list_any (is_home_of c.0) before ≡ false

pub record BlockLaw (m : Machine) (number : ℕ) (before : List BlockImage) (x : BlockImage) : Type 0 where
  pub home : IfSome x.home (HomeLaw m.cores before)
  pub memory : length x.memory ≤ 4096
  pub words : AreWords x.memory
  pub ports : x.ports ≤ 16
  pub signals : x.signals ≤ 16
  pub disps : IsList 1 16 (λ earlier d. DispLaw (around m number before x.ports x.signals) d) x.disps

core_on : (cores : List CoreImage) (c : CoreNo) (o : Option CoreImage) → slice_get cores c.0 ≡ o → is_on o ≡ true → IsOnAtStart cores c
core_on cores c None e h = cc
core_on cores c (Some k) e h = (k, e, h)

home_has : (cores : List CoreImage) (before : List BlockImage) → Has (home_in cores before) (HomeLaw cores before)
home_has cores before key d c e =
    let test = λ (n : ℕ). is_on (slice_get cores n) && not (list_any (is_home_of n) before) in
    let s = chained (number_where test key d) _ c e in
    let made : CoreNo = record { 0 = s.first } in
    let same : made ≡ c = cc in
    let parts = and_parts (is_on (slice_get cores s.first)) (not (list_any (is_home_of s.first) before)) (where_has test key d s.first s.was) in
    let law : HomeLaw cores before made = record { on = core_on cores made (slice_get cores s.first) refl parts.0; free = not_true (list_any (is_home_of s.first) before) parts.1 } in
    subst (HomeLaw cores before) same law

data_has : (t : Table) (words : List ℕ) → data_in t ≡ Ok words → IsList 0 4096 (λ before n. n < 2 ^ 32) words
data_has t words e =
    optional_has (IsList 0 4096 (λ before n. n < 2 ^ 32)) (each_within 0 4096 (λ before. any_number)) (each_has 0 4096 (λ before n. n < 2 ^ 32) (λ before. any_number) (λ before. any_has))
    t (codes "data") [] (record { count = (omega arith, omega arith); built = none_built (λ before n. n < 2 ^ 32) }) words e

few_has : (t : Table) (name : List ℕ) (n : ℕ) → optional t name 0 (number_within 0 16) ≡ Ok n → n ≤ 16
few_has t name n e = let within : Within 0 16 n = optional_has (Within 0 16) (number_within 0 16) (within_has 0 16) t name 0 (omega arith, omega arith) n e in within.1

block_has : (m : Machine) (number : ℕ) (before : List BlockImage) (t : Table) (x : BlockImage) → block_in m number before t ≡ Ok x → BlockLaw m number before x
unfolding block_in
block_has m number before t x e =
    let home = chained (maybe t (codes "home") (home_in m.cores before)) _ x e in
    let memory = chained (data_in t) _ x home.after in
    let ports = chained (optional t (codes "ports") 0 (number_within 0 16)) _ x memory.after in
    let signals = chained (optional t (codes "signals") 0 (number_within 0 16)) _ x ports.after in
    let disps = chained (disps_in (around m number before ports.first signals.first) t) _ x signals.after in
    let words : IsList 0 4096 (λ earlier n. n < 2 ^ 32) memory.first = data_has t memory.first memory.was in
    let made : BlockImage = record { home = home.first; memory = memory.first; ports = ports.first; signals = signals.first; disps = disps.first } in
    let same : made ≡ x = cc in
    let law : BlockLaw m number before made = record {
      home = maybe_has (HomeLaw m.cores before) (home_in m.cores before) (home_has m.cores before) t (codes "home") home.first home.was;
      memory = words.count.1;
      words = words.built;
      ports = few_has t (codes "ports") ports.first ports.was;
      signals = few_has t (codes "signals") signals.first signals.was;
      disps = disps_have (around m number before ports.first signals.first) t disps.first disps.was;
    } in
    subst (BlockLaw m number before) same law

-- what each block has, with those before it
abbrev pub BlockAfter : Machine → List BlockImage → BlockImage → Type 0
BlockAfter m before x = BlockLaw m (length before) before x

pub blocks_have : (m : Machine) (items : Items) (blocks : List BlockImage) → Within 1 16 (item_count items) → blocks_in m items ≡ Ok blocks → IsList 1 16 (BlockAfter m) blocks
unfolding blocks_in
blocks_have m items blocks within e =
    counted 1 16 (BlockAfter m) items blocks within
    (items_built (λ before. table_by (block_in m (length before) before)) (BlockAfter m)
    (λ before. table_has (BlockAfter m before) (block_in m (length before) before) (block_has m (length before) before)) [] (codes "block") items blocks e)

-- the blocks are as many as the elements
pub blocks_count : (m : Machine) (items : Items) (blocks : List BlockImage) → blocks_in m items ≡ Ok blocks → length blocks ≡ item_count items
unfolding blocks_in
blocks_count m items blocks e =
    let r = items_built (λ before. table_by (block_in m (length before) before)) (λ before x. ⊤) (λ before key d x given. tt) [] (codes "block") items blocks e in
    ap length r.all_is ∙ r.count_is
