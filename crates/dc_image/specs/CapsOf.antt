-- The capabilities that tables of an image are.
use Rattle.std.specs.Prelude.{ℕ, ◌-◌, ◌==◌, ◌&&◌, nat_lt, not, Bool, false, List, slice_get, if◌then◌else◌, Option, Some, None, Result, Ok, codes}
use Rattle.std.specs.List.{list_any}
use Rattle.dc_base.specs.declared.numbers.BlockNo.{BlockNo}
use Rattle.dc_base.specs.declared.capabilities.CapKind.{CapKind}
use Rattle.dc_base.specs.declared.capabilities.CapKind.TheVariants as kind
use Rattle.dc_base.specs.declared.images.BlockImage.{BlockImage}
use Rattle.dc_base.specs.declared.images.CapImage.{CapImage}
use Rattle.dc_base.specs.declared.images.ChanImage.{ChanImage}
use Rattle.dc_base.specs.Results.{◌>>=◌}
use Rattle.dc_base.specs.TextWords.{is_word}
use Rattle.dc_base.specs.FaultText.{ImageRefusal}
use Rattle.dc_image.specs.declared.around.Around.{Around as AroundBlock}
use Rattle.dc_image.specs.declared.kinds.KindName.{KindName}
use Rattle.dc_image.specs.declared.kinds.KindName.TheVariants as name
use Rattle.dc_base.specs.Valid.{is_given_line}
use Rattle.dc_image.specs.ImageKeys.{Table, required, optional, number_where, number_within, number_below, word_where}

-- what a block's capabilities may name
pub record Around : Type 0 where
  pub block : ℕ
  pub ports : ℕ
  pub signals : ℕ
  pub channels : List ChanImage
  pub lines : ℕ
  -- the blocks before this one
  pub before : List BlockImage

-- what the code keeps of it
abbrev pub around_of : AroundBlock → Around
around_of a = record { block = a.block; ports = a.ports; signals = a.signals; channels = a.channels.now; lines = a.lines; before = a.before.now }

abbrev pub kind_named : List ℕ → Option KindName
kind_named word =
    if is_word "ram" word then Some name.Ram
    else if is_word "frame" word then Some name.Frame
    else if is_word "port" word then Some name.Port
    else if is_word "signal" word then Some name.Signal
    else if is_word "sendend" word then Some name.SendEnd
    else if is_word "recvend" word then Some name.RecvEnd
    else if is_word "line" word then Some name.Line
    else None

-- the first word and the length of a part of the memory
abbrev pub range_in : Table → Result (ℕ × ℕ) ImageRefusal
range_in t = do
  first ← required t (codes "first") (number_within 0 4095)
  length ← required t (codes "length") (number_within 1 (4096 - first))
  Ok (first, length)

-- a channel that has this block at this end
abbrev pub is_end : (ChanImage → BlockNo) → ℕ → Option ChanImage → Bool
is_end end block None = false
is_end end block (Some x) = (end x).0 == block

-- a channel with the block at this end
abbrev pub end_in : Around → (ChanImage → BlockNo) → Table → Result ℕ ImageRefusal
end_in a end t = required t (codes "number") (number_where (λ n. is_end end a.block (slice_get a.channels n)))

-- a line that no block before this one was given
abbrev pub line_in : Around → Table → Result ℕ ImageRefusal
line_in a t = required t (codes "number") (number_where (λ n. nat_lt n a.lines && not (list_any (is_given_line n) a.before)))

-- what a capability of this name is for
abbrev pub kind_in : Around → Table → KindName → Result CapKind ImageRefusal
kind_in a t name.Ram = range_in t >>= (λ r. Ok (kind.Ram r.0 r.1))
kind_in a t name.Frame = range_in t >>= (λ r. Ok (kind.Frame r.0 r.1))
kind_in a t name.Port = required t (codes "number") (number_below a.ports) >>= (λ n. Ok (kind.Port (record { 0 = n })))
kind_in a t name.Signal = required t (codes "number") (number_below a.signals) >>= (λ n. Ok (kind.Signal (record { 0 = n })))
kind_in a t name.SendEnd = end_in a (λ x. x.from) t >>= (λ n. Ok (kind.SendEnd (record { 0 = n })))
kind_in a t name.RecvEnd = end_in a (λ x. x.to) t >>= (λ n. Ok (kind.RecvEnd (record { 0 = n })))
kind_in a t name.Line = line_in a t >>= (λ n. Ok (kind.Line (record { 0 = n })))

abbrev pub has_slot : ℕ → CapImage → Bool
has_slot n c = c.slot == n

-- a slot that no capability before this one has
abbrev pub slot_in : List CapImage → Table → Result ℕ ImageRefusal
slot_in before t = required t (codes "slot") (number_where (λ n. nat_lt n 16 && not (list_any (has_slot n) before)))

unfoldable pub cap_in : Around → List CapImage → Table → Result CapImage ImageRefusal
cap_in a before t = do
  slot ← slot_in before t
  name ← required t (codes "kind") (word_where kind_named)
  kind ← kind_in a t name
  rights ← optional t (codes "rights") 7 (number_within 0 7)
  Ok (record { slot = slot; cap = record { kind = kind; rights = rights } })
