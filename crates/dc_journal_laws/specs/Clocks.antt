-- The clocks that a journal has come to, and the entries that show them.
use Rattle.std.specs.Prelude.{◌≡◌, ℕ, List, [], ◌∷◌, ◌++◌, Bool, Option, Some, slice_index, map}
use Rattle.std.specs.Option.{option_map}
use Rattle.dc_base.specs.declared.images.Image.{Image}
use Rattle.dc_base.specs.declared.images.CoreImage.{CoreImage}
use Rattle.dc_base.specs.declared.kernels.Version.{Version}
use Rattle.dc_base.specs.declared.numbers.BlockNo.{BlockNo}
use Rattle.dc_base.specs.declared.commands.ScriptLine.{ScriptLine}
use Rattle.dc_base.specs.declared.entries.Entry.{Entry}
use Rattle.dc_base.specs.declared.entries.What.TheVariants as what
use Rattle.dc_base.specs.Outcomes.{by_core}
use Rattle.dc_base.specs.Blocks.{Blocks}
use Rattle.dc_base.specs.BlockSteps.{blocks_run}
use Rattle.dc_base.specs.Holders.{adopted_at}
use Rattle.dc_base.specs.StrikeOut.{clocks_by, struck}
use Rattle.dc_base.specs.Runs.{block_clock}

abbrev pub clocks_from : List ℕ → List Entry → List ℕ
clocks_from clocks [] = clocks
clocks_from clocks (e ∷ es) = clocks_from (clocks_by clocks e.actor e.what) es

-- the clock of core c after the journal: that of its last slice or idle entry, and before the first one the image's
abbrev pub core_clock : Image → List Entry → ℕ → ℕ
core_clock image journal c = slice_index (clocks_from (map (λ (k : CoreImage). k.base) image.cores) journal) c

-- the clock of block b in the machine of blocks after the journal's events
abbrev pub block_time : Image → List Entry → ℕ → Option ℕ
block_time image journal b = option_map (λ (s : Blocks). block_clock s b) (blocks_run image (struck image journal))

-- a release shows the block's clock
abbrev pub ReleasedInTime : Image → List ScriptLine → List Entry → Type 0
ReleasedInTime image script journal =
    (before after : List Entry) (c : ℕ) (b : BlockNo) (time : ℕ) → journal ≡ before ++ by_core c (what.Release b time) ∷ after →
    block_time image before b.0 ≡ Some time

-- an adopt shows the block's clock where clocks are kept, and where they run the later of it and the core's clock
abbrev pub AdoptedInTime : Image → List ScriptLine → List Entry → Type 0
AdoptedInTime image script journal =
    (before after : List Entry) (c : ℕ) (b : BlockNo) (parked : Bool) (time : ℕ) → journal ≡ before ++ by_core c (what.Adopt b parked time) ∷ after →
    option_map (λ clock. adopted_at image.clocks clock (core_clock image before c)) (block_time image before b.0) ≡ Some time

-- a start shows its core's clock
abbrev pub StartedInTime : Image → List ScriptLine → List Entry → Type 0
StartedInTime image script journal =
    (before after : List Entry) (c : ℕ) (v : Version) (clock : ℕ) → journal ≡ before ++ by_core c (what.Start v clock) ∷ after →
    clock ≡ core_clock image before c
