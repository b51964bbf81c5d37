-- The parts of a step of a run, joined.
use Rattle.std.proofs.Common.{◌≡◌, List, true, Some, None, refl, ap, ◌∙◌}
use Rattle.std.specs.Prelude.{if◌then◌else◌, ◌&&◌}
use Rattle.dc_base.specs.declared.commands.ScriptLine.{ScriptLine}
use Rattle.dc_base.specs.declared.entries.Entry.{Entry}
use Rattle.dc_base.specs.Words.{bind}
use Rattle.dc_base.specs.Blocks.{Blocks}
use Rattle.dc_base.specs.States.{is_begun, State}
use Rattle.dc_base.specs.StandsFor.{StandsFor}
use Rattle.dc_base.specs.StrikeOut.{events_of, told_after, clock_told}
use Rattle.dc_base.specs.Holders.{well_held}
use Rattle.dc_base.specs.Answers.{from_on, boot_after, answered_after}
use Rattle.dc_base.specs.Runs.{Terms, Seen, run_step, entry_holds, seen_after, block_clock}
use Rattle.dc_base.specs.Columns.{columns_agree}
use Rattle.dc_base.specs.Progress.{boot_of}
use Rattle.dc_base.specs.Telling.{Agrees, told_of, answered_of, seen_of, left_of, posted_of}
use Rattle.dc_refine.specs.Follows.{Follows}
use Rattle.dc_refine.proofs.Leads.{Leads}

-- what agrees with a state is what the state and its blocks tell
pub agrees_is : (s : State) (n : Seen) → Agrees s n → n ≡ seen_of s n.blocks
agrees_is s n a =
    ap (λ c. record { blocks = n.blocks; told = record { clocks = c; times = n.told.times; holders = n.told.holders }; boot = n.boot; answered = n.answered }) a.clocks
    ∙ ap (λ c. record { blocks = n.blocks; told = record { clocks = (told_of s n.blocks).clocks; times = c; holders = n.told.holders }; boot = n.boot; answered = n.answered }) a.times
    ∙ ap (λ c. record { blocks = n.blocks; told = record { clocks = (told_of s n.blocks).clocks; times = (told_of s n.blocks).times; holders = c }; boot = n.boot; answered = n.answered }) a.holders
    ∙ ap (λ b. record { blocks = n.blocks; told = told_of s n.blocks; boot = b; answered = n.answered }) a.boot
    ∙ ap (λ p. record { blocks = n.blocks; told = told_of s n.blocks; boot = boot_of s; answered = record n.answered { place = p } }) a.place
    ∙ ap (λ p. record { blocks = n.blocks; told = told_of s n.blocks; boot = boot_of s; answered = record n.answered { place = s.script.place; begun = p } }) a.begun
    ∙ ap (λ p. record { blocks = n.blocks; told = told_of s n.blocks; boot = boot_of s; answered = record n.answered { place = s.script.place; begun = is_begun s.script.posts; left = p } }) a.left
    ∙ ap (λ p. record { blocks = n.blocks; told = told_of s n.blocks; boot = boot_of s; answered = record n.answered { place = s.script.place; begun = is_begun s.script.posts; left = left_of s.script; posted = p } }) a.posted
    ∙ ap (λ p. record { blocks = n.blocks; told = told_of s n.blocks; boot = boot_of s; answered = record { place = s.script.place; begun = is_begun s.script.posts; left = left_of s.script; posted = posted_of s; raises = p } }) a.raises

pub seen_agrees : (s : State) (t : Blocks) → Agrees s (seen_of s t)
seen_agrees s t = record { clocks = refl; times = refl; holders = refl; boot = refl; place = refl; begun = refl; left = refl; posted = refl; raises = refl }

-- the terms and the script's lines are as they were
pub record SameScript (s m : State) : Type 0 where
  pub settings : m.script.settings ≡ s.script.settings
  pub lines : m.script.lines ≡ s.script.lines

-- each part of a step of a run
pub record Parts (terms : Terms) (lines : List ScriptLine) (s : State) (t : Blocks) (e : Entry) (next : State) (u : Blocks) : Type 0 where
  pub stands : StandsFor next u
  pub events : Leads t (events_of (told_of s t) e.actor e.what) u
  pub columns : columns_agree terms.quantum (told_of s t) t e ≡ true
  pub held : well_held terms.clocks (told_of s t).holders (block_clock t) (clock_told (told_of s t)) e ≡ true
  pub from : from_on (boot_of s) e ≡ true
  pub told : told_after (told_of s t) e ≡ told_of next u
  pub boot : boot_after (boot_of s) e ≡ boot_of next
  pub answer : answered_after lines (boot_of s) (clock_told (told_of s t)) (answered_of s) e ≡ Some (answered_of next)
  pub same_script : SameScript s next

-- the entry follows, and the terms and the script's lines are as they were
pub record Gives (terms : Terms) (lines : List ScriptLine) (s : State) (t : Blocks) (e : Entry) (next : State) : Type 0 where
  pub follows : Follows terms lines (seen_of s t) e next
  pub same_script : SameScript s next

module _ (terms : Terms) (lines : List ScriptLine) (s : State) (t : Blocks) (e : Entry) (next : State) (u : Blocks) (p : Parts terms lines s t e next u) where
  holds : entry_holds terms (seen_of s t) e ≡ true
  unfolding entry_holds
  holds = ap (λ v. v && (well_held terms.clocks (told_of s t).holders (block_clock t) (clock_told (told_of s t)) e && from_on (boot_of s) e)) p.columns ∙ ap (λ v. v && from_on (boot_of s) e) p.held ∙ p.from

  step : run_step terms lines (seen_of s t) e ≡ Some (seen_of next u)
  unfolding run_step
  step =
      ap (λ o. bind o (λ b. bind (answered_after lines (boot_of s) (clock_told (told_of s t)) (answered_of s) e) (λ a. if entry_holds terms (seen_of s t) e then Some (seen_after (seen_of s t) e b a) else None))) p.events.by
      ∙ ap (λ o. bind o (λ a. if entry_holds terms (seen_of s t) e then Some (seen_after (seen_of s t) e u a) else None)) p.answer
      ∙ ap (λ v. if v then Some (seen_after (seen_of s t) e u (answered_of next)) else None) holds
      ∙ ap (λ k. Some (record { blocks = u; told = k; boot = boot_after (boot_of s) e; answered = answered_of next })) p.told
      ∙ ap (λ b. Some (record { blocks = u; told = told_of next u; boot = b; answered = answered_of next })) p.boot

  pub follows_seen : Gives terms lines s t e next
  follows_seen = record { follows = record { next = seen_of next u; step = step; stands = p.stands; agrees = seen_agrees next u }; same_script = p.same_script }
