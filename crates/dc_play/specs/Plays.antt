-- How a text was written: whole, or a part of it, where a put failed, or nothing, where memory was wanting.
use Rattle.std.specs.Prelude.{◌≡◌, ℕ, List, Option, Result, Ok, Err}
use Rattle.dc_io.specs.declared.sinks.Ended.{Ended}
use Rattle.dc_io.specs.declared.sinks.Ended.TheVariants as ended
use Rattle.dc_io.specs.Counts.{Rose}
use Rattle.dc_io.specs.Told.{Adds, AddsPrefix}

abbrev pub Plays : {T : Type 0} → (faults faults_after : ℕ) → (told told_after : Option (List ℕ)) → List ℕ → Result T Ended → Type 0
Plays faults faults_after told told_after text (Ok x) = Adds told told_after text
Plays faults faults_after told told_after text (Err ended.Sink) = Rose faults faults_after × AddsPrefix told told_after text
Plays faults faults_after told told_after text (Err ended.Memory) = told_after ≡ told
