-- What was written of a text: all of it, or a part that it begins with.
use Rattle.std.specs.Prelude.{ℕ, List, Option, Result, Ok, Err}
use Rattle.dc_io.specs.declared.sinks.Failed.{Failed}
use Rattle.dc_io.specs.Told.{Adds, AddsPrefix}

abbrev pub Writes : {T : Type 0} → Option (List ℕ) → Option (List ℕ) → List ℕ → Result T Failed → Type 0
Writes before after text (Ok x) = Adds before after text
Writes before after text (Err failed) = AddsPrefix before after text
