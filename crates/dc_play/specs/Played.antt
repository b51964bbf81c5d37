-- What became of one action of a schedule.
use Rattle.std.specs.Prelude.{◌≡◌, ℕ, List, Bool, true, false, Option, Result, Ok, MatchResult}
use Rattle.dc_base.specs.TextWords.{ended}
use Rattle.dc_base.specs.EntryText.{entry_text}
use Rattle.dc_base.specs.States.{State, Settings}
use Rattle.dc_base.specs.Changes.{apply}
use Rattle.dc_base.specs.Turns.{Outcome, did}
use Rattle.dc_io.specs.declared.sinks.Failed.{Failed}
use Rattle.dc_io.specs.Told.{Adds, AddsPrefix}

-- an action of this outcome was made and its entry written, or a part of its line was; or it made none
abbrev pub PlaysTo : State → State → ℕ → Option (List ℕ) → Option (List ℕ) → Result Bool Failed → Outcome → Type 0
PlaysTo old new ticket before after r (did changes e) =
    (new ≡ apply old changes)
    × MatchResult r (λ made. (made ≡ true) × Adds before after (ended (entry_text ticket e))) (λ failed. AddsPrefix before after (ended (entry_text ticket e)))
PlaysTo old new ticket before after r o = (new ≡ old) × (r ≡ Ok false) × (after ≡ before)

-- as many cores, blocks and lines as these settings say
pub record IsSized (t : Settings) (s : State) : Type 0 where
  pub cores : s.script.settings.cores ≡ t.cores
  pub blocks : s.script.settings.blocks ≡ t.blocks
  pub lines : s.script.settings.lines ≡ t.lines
