-- Passes that the first one makes.
use Rattle.std.specs.Prelude.{ℕ, ◌+◌}
use Rattle.dc_stage.specs.Passes.{Known}

-- the same pass but for n more that it made
abbrev pub having_made_more : {Sc En : Type 0} → Known Sc En → ℕ → Known Sc En
having_made_more k n = record k { made = k.made + n }
