-- What the columns of the script's entries must show of the machine of blocks: raises and awaits.
use Rattle.std.specs.Prelude.{ℕ, ◌+◌, Bool, true, false, Option, Some, None, slice_get, length}
use Rattle.std.specs.Option.{option_map}
use Rattle.dc_base.specs.declared.interrupts.Raised.{Raised}
use Rattle.dc_base.specs.declared.entries.What.{What}
use Rattle.dc_base.specs.declared.entries.What.TheVariants as what
use Rattle.dc_base.specs.Words.{is_number}
use Rattle.dc_base.specs.Same.{is_same_raised}
use Rattle.dc_base.specs.Lines.{Line, pending_in, how_raised}
use Rattle.dc_base.specs.Blocks.{Blocks, Block}

-- a raise has the line's next number, and becomes what its binding and its pending raise make of it
abbrev pub raise_agrees : Raised → Option Line → Bool
raise_agrees r None = false
raise_agrees r (Some l) = is_same_raised r (how_raised (length l.fates + 1) l.bound (pending_in l.fates))

-- the words that the block has put out
abbrev pub has_put_out : Blocks → ℕ → ℕ → Bool
has_put_out s b n = is_number n (option_map (λ (x : Block). length x.output) (slice_get s.blocks b))

unfoldable pub script_agrees : Blocks → What → Bool
script_agrees s (what.Raise q l r) = raise_agrees r (slice_get s.lines l.0)
script_agrees s (what.Met q b seen) = has_put_out s b.0 seen
script_agrees s (what.Unmet q b seen) = has_put_out s b.0 seen
script_agrees s w = true
