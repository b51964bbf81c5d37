-- The blocks that tables of an image are.
use Rattle.std.specs.Prelude.{ℕ, ◌==◌, ◌&&◌, not, Bool, false, List, [], length, slice_get, Option, Some, None, is_some, Result, Ok, codes}
use Rattle.std.specs.List.{list_any}
use Rattle.dc_base.specs.declared.numbers.CoreNo.{CoreNo}
use Rattle.dc_base.specs.declared.images.CoreImage.{CoreImage}
use Rattle.dc_base.specs.declared.images.BlockImage.{BlockImage}
use Rattle.dc_base.specs.declared.images.ChanImage.{ChanImage}
use Rattle.toml.specs.Data.{Items}
use Rattle.dc_base.specs.Results.{◌>>=◌}
use Rattle.dc_base.specs.FaultText.{ImageRefusal}
use Rattle.dc_image.specs.declared.around.Machine.{Machine as MachineRead}
use Rattle.dc_image.specs.ImageKeys.{Table, Rule, optional, maybe, number_where, number_within, any_number, items_read, each_within, table_by}
use Rattle.dc_image.specs.CapsOf.{Around}
use Rattle.dc_image.specs.DispsOf.{disps_in}

-- what is read of an image before its blocks, and concerns them
pub record Machine : Type 0 where
  pub cores : List CoreImage
  pub channels : List ChanImage
  pub lines : ℕ

-- what the code keeps of it
abbrev pub machine_of : MachineRead → Machine
machine_of m = record { cores = m.cores.now; channels = m.channels.now; lines = m.lines }

abbrev pub is_on : Option CoreImage → Bool
is_on None = false
is_on (Some core) = is_some core.version

abbrev pub is_this : ℕ → Option CoreNo → Bool
is_this c None = false
is_this c (Some home) = home.0 == c

-- the block is home on this core
abbrev pub is_home_of : ℕ → BlockImage → Bool
is_home_of c b = is_this c b.home

-- a core that is on and home of no block before this one
abbrev pub home_in : List CoreImage → List BlockImage → Rule CoreNo
home_in cores before key d =
    number_where (λ n. is_on (slice_get cores n) && not (list_any (is_home_of n) before)) key d >>= (λ n. Ok (record { 0 = n }))

-- what the capabilities of the block of this number may name
abbrev pub around : Machine → ℕ → List BlockImage → (ports signals : ℕ) → Around
around m number before ports signals = record { block = number; ports = ports; signals = signals; channels = m.channels; lines = m.lines; before = before }

abbrev pub data_in : Table → Result (List ℕ) ImageRefusal
data_in t = optional t (codes "data") [] (each_within 0 4096 (λ words. any_number))

-- the block of this number, behind these
unfoldable pub block_in : Machine → ℕ → List BlockImage → Table → Result BlockImage ImageRefusal
block_in m number before t = do
  home ← maybe t (codes "home") (home_in m.cores before)
  memory ← data_in t
  ports ← optional t (codes "ports") 0 (number_within 0 16)
  signals ← optional t (codes "signals") 0 (number_within 0 16)
  disps ← disps_in (around m number before ports signals) t
  Ok (record { home = home; memory = memory; ports = ports; signals = signals; disps = disps })

-- the elements of `block`
unfoldable pub blocks_in : Machine → Items → Result (List BlockImage) ImageRefusal
blocks_in m items = items_read (λ before. table_by (block_in m (length before) before)) [] (codes "block") items
