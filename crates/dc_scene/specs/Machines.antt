-- What the scene of a machine means.
use Rattle.std.specs.Prelude.{ℕ, ◌==◌, ◌&&◌, Bool, Option, None, if◌then◌else◌, length}
use Rattle.dc_base.specs.declared.entries.Entry.{Entry}
use Rattle.dc_base.specs.States.{State, Settings}
use Rattle.dc_base.specs.Changes.{Object}
use Rattle.dc_base.specs.Histories.{IsLawfulBy, next}
use Rattle.dc_base.specs.Objects.{at_number, touched_numbers, HasSizes}
use Rattle.dc_stage.specs.History.{Meaning}

-- whether there are as many objects of each kind as the settings say
unfoldable pub has_sizes : Settings → State → Bool
has_sizes t s =
    (length s.cores == t.cores) && (length s.blocks == t.blocks) && (length s.channels == t.channels) && (length s.lines == t.lines) &&
    (length s.mailboxes == t.cores) && (length s.consoles == t.blocks)

-- the state of the object of a number, if there is one; in a state of other sizes there is none
unfoldable pub at_sized : Settings → State → ℕ → Option Object
at_sized t s i = if has_sizes t s then at_number t s i else None

-- the actor of this number makes the entry in a state of the sizes that the settings say
pub record IsLawfulIn (t : Settings) (s : State) (by : ℕ) (e : Entry) : Type 0 where
  pub sizes : HasSizes t s
  pub lawful : IsLawfulBy t s by e

-- the scene with these settings and this start
abbrev pub machine : Settings → State → Meaning State (Option Object) Entry
machine t start = record { start = start; at = at_sized t; touched = λ s by e. touched_numbers t s e; lawful = IsLawfulIn t; next = λ s by e. next s e }
