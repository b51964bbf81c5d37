-- Who holds which block, in sentences over whole journals.
use Rattle.std.specs.Prelude.{◌≡◌, ℕ, ◌+◌, List, [], ◌∷◌, ◌++◌, Bool, Option, Some, None, IsTrue, length}
use Rattle.dc_base.specs.declared.images.Image.{Image}
use Rattle.dc_base.specs.declared.numbers.BlockNo.{BlockNo}
use Rattle.dc_base.specs.declared.commands.ScriptLine.{ScriptLine}
use Rattle.dc_base.specs.declared.entries.Entry.{Entry}
use Rattle.dc_base.specs.declared.entries.What.{What}
use Rattle.dc_base.specs.declared.entries.What.TheVariants as what
use Rattle.dc_base.specs.Outcomes.{by_core}
use Rattle.dc_base.specs.Holders.{held, held_by, held_once, holds, is_free}

-- after each first part of the journal no block stands in two pairs
abbrev pub HeldOnce : Image → List ScriptLine → List Entry → Type 0
HeldOnce image script journal = (before after : List Entry) → journal ≡ before ++ after → IsTrue (held_once (held image before))

-- the block of a slice, a wake, an intake or a release
abbrev pub block_in : What → Option ℕ
block_in (what.Slice b d fired ran e clock) = Some b.0
block_in (what.SliceNone b fired clock) = Some b.0
block_in (what.Wake b d) = Some b.0
block_in (what.Intake l n b s h) = Some b.0
block_in (what.Release b time) = Some b.0
block_in w = None

-- a slice, a wake, an intake and a release of a block come from the core that holds it
abbrev pub MadeByHolders : Image → List ScriptLine → List Entry → Type 0
MadeByHolders image script journal =
    (before after : List Entry) (c : ℕ) (w : What) (b : ℕ) → journal ≡ before ++ by_core c w ∷ after → block_in w ≡ Some b →
    IsTrue (holds (held image before) c b)

-- a block is adopted where no core holds it
abbrev pub AdoptedFree : Image → List ScriptLine → List Entry → Type 0
AdoptedFree image script journal =
    (before after : List Entry) (c : ℕ) (b : BlockNo) (parked : Bool) (time : ℕ) → journal ≡ before ++ by_core c (what.Adopt b parked time) ∷ after →
    IsTrue (is_free (held image before) b.0)

-- core c held n blocks, so many pairs end, and it holds none after
pub record EndsPairs (c n : ℕ) (before after : List (ℕ × ℕ)) : Type 0 where
  pub held : n ≡ length (held_by c before)
  pub ended : length after + n ≡ length before
  pub none : held_by c after ≡ []

-- a stop shows how many blocks its core held, and ends these pairs
abbrev pub StopsEnd : Image → List ScriptLine → List Entry → Type 0
StopsEnd image script journal =
    (before after : List Entry) (c n : ℕ) → journal ≡ before ++ by_core c (what.Stop n) ∷ after →
    EndsPairs c n (held image before) (held image (before ++ by_core c (what.Stop n) ∷ []))
