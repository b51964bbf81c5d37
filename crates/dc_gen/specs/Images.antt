-- The parts of a generated block.
use Rattle.std.specs.Prelude.{ℕ, ◌+◌, ◌%◌, List, [], ◌∷◌}
use Rattle.dc_base.specs.declared.images.CapImage.{CapImage}
use Rattle.dc_base.specs.declared.images.DispImage.{DispImage}
use Rattle.dc_base.specs.declared.capabilities.CapKind.TheVariants.{SendEnd, RecvEnd, Frame}
use Rattle.dc_base.specs.Generated.{cap_of, code_of}

-- both ends of a block, and its frame
abbrev pub caps_of : ℕ → List CapImage
caps_of b = cap_of 0 (SendEnd (record { 0 = b })) ∷ cap_of 1 (RecvEnd (record { 0 = (b + 15) % 16 })) ∷ cap_of 2 (Frame 0 4) ∷ []

-- its dispatcher
abbrev pub disp_of : ℕ → DispImage
disp_of b = record { code = code_of b; period = 1; due = 0; caps = caps_of b }
