-- The image that a text is, or the first fault in the order of the keys.
use Rattle.std.specs.Prelude.{ℕ, ◌-◌, ◌/◌, ◌^◌, ◌==◌, ◌&&◌, nat_lt, min, not, List, [], length, if◌then◌else◌, Option, None, Result, Ok, Err, codes}
use Rattle.std.specs.Str.{is_utf8}
use Rattle.toml.specs.Data.{Members}
use Rattle.toml.specs.Parse.{parse_document}
use Rattle.dc_base.specs.declared.images.Image.{Image}
use Rattle.dc_base.specs.declared.images.CoreImage.{CoreImage}
use Rattle.dc_base.specs.declared.images.ChanImage.{ChanImage}
use Rattle.dc_base.specs.Results.{◌>>=◌, or_fault}
use Rattle.dc_base.specs.Limits.{longest_file}
use Rattle.dc_base.specs.FaultText.{ImageRefusal, too_long, not_toml}
use Rattle.dc_image.specs.ImageKeys.{Table, required, optional, maybe, number_where, number_within, number_below, word_where, item_count, array_within}
use Rattle.dc_image.specs.ImageKeys.{each_within, table_by, version_of, clocks_in}
use Rattle.dc_image.specs.BlocksOf.{blocks_in}

unfoldable pub core_in : Table → Result CoreImage ImageRefusal
core_in t = do
  base ← optional t (codes "base") 0 (number_within 0 (2 ^ 62 - 1))
  version ← maybe t (codes "version") (word_where version_of)
  Ok (record { base = base; version = version })

unfoldable pub cores_in : Table → Result (List CoreImage) ImageRefusal
cores_in t = required t (codes "core") (each_within 1 8 (λ before. table_by core_in))

-- the budget of each core, of which there are so many
unfoldable pub slices_in : ℕ → Table → Result ℕ ImageRefusal
slices_in cores t = required t (codes "slices") (number_within 1 (min 131072 (241664 / cores)))

-- a channel between two of so many blocks
unfoldable pub channel_in : ℕ → Table → Result ChanImage ImageRefusal
channel_in blocks t = do
  from ← required t (codes "from") (number_below blocks)
  to ← required t (codes "to") (number_where (λ n. nat_lt n blocks && not (n == from)))
  capacity ← required t (codes "capacity") (number_within 1 64)
  Ok (record { from = record { 0 = from }; to = record { 0 = to }; capacity = capacity })

unfoldable pub channels_in : ℕ → Table → Result (List ChanImage) ImageRefusal
channels_in blocks t = optional t (codes "channel") [] (each_within 0 64 (λ before. table_by (channel_in blocks)))

-- the image of a whole table; the elements of `block` are read after all of `channel`
unfoldable pub image_in : Members → Result Image ImageRefusal
image_in members =
    let t : Table = record { path = []; members = members } in do
      format ← required t (codes "format") (number_within 1 2)
      clocks ← clocks_in format t
      quantum ← required t (codes "quantum") (number_within 1 64)
      cores ← cores_in t
      slices ← slices_in (length cores) t
      lines ← optional t (codes "lines") 0 (number_within 0 16)
      items ← required t (codes "block") (array_within 1 16)
      channels ← channels_in (item_count items) t
      blocks ← blocks_in (record { cores = cores; channels = channels; lines = lines }) items
      Ok (record { format = format; clocks = clocks; quantum = quantum; slices = slices; lines = lines; cores = cores; blocks = blocks; channels = channels })

-- the table that the bytes spell, where they are a text
abbrev pub document_of : List ℕ → Option Members
document_of bytes = let document = parse_document bytes in if is_utf8 bytes then document else None

unfoldable pub image_of : List ℕ → Result Image ImageRefusal
image_of bytes =
    let image = or_fault not_toml (document_of bytes) >>= image_in in
    if nat_lt longest_file (length bytes) then Err too_long else image
