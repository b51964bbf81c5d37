-- How many entries an actor made.
use Rattle.std.specs.Prelude.{ℕ, length}
use Rattle.dc_base.specs.declared.entries.Entry.{Entry}
use Rattle.dc_stage.specs.History.{Log, own}

-- how many of the entries the actor of this number made
abbrev pub made_by : ℕ → Log Entry → ℕ
made_by a history = length (own a history)
