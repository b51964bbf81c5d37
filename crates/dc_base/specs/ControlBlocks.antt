-- Control blocks of the machine with cores: all that a kernel has of a block.
use Rattle.std.specs.Prelude.{ℕ, List, map, length}
use Rattle.std.specs.List.{range_with_len}
use Rattle.dc_base.specs.declared.images.BlockImage.{BlockImage}
use Rattle.dc_base.specs.declared.images.DispImage.{DispImage}
use Rattle.dc_base.specs.declared.dispatchers.DispState.{DispState}
use Rattle.dc_base.specs.declared.dispatchers.DispState.TheVariants as disp
use Rattle.dc_base.specs.Parts.{Parts, parts_of}

pub record ControlBlock : Type 0 where
  pub parts : Parts
  pub states : List DispState
  pub dues : List ℕ
  pub periods : List ℕ
  -- the ready dispatchers in order of arrival
  pub ready : List ℕ

-- the control block as the image gives it, with all dispatchers ready
unfoldable pub control_start : BlockImage → ControlBlock
control_start b = record {
  parts = parts_of b;
  states = map (λ (d : DispImage). disp.Ready) b.disps;
  dues = map (λ (d : DispImage). d.due) b.disps;
  periods = map (λ (d : DispImage). d.period) b.disps;
  ready = range_with_len 0 (length b.disps);
}
