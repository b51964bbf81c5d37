-- What an action comes to is good where its entry, if it gives one, follows.
use Rattle.std.proofs.Common.{◌≡◌, List, sym, subst}
use Rattle.dc_base.specs.declared.commands.ScriptLine.{ScriptLine}
use Rattle.dc_base.specs.declared.entries.Entry.{Entry}
use Rattle.dc_base.specs.Blocks.{Blocks}
use Rattle.dc_base.specs.States.{State}
use Rattle.dc_base.specs.Changes.{Change, apply}
use Rattle.dc_base.specs.Turns.{Outcome, did, not_enabled, spent}
use Rattle.dc_base.specs.Runs.{Terms, Seen}
use Rattle.dc_base.specs.Telling.{Agrees}
use Rattle.dc_refine.specs.Follows.{Follows}
use Rattle.dc_refine.proofs.Follow.{SameScript, Gives, agrees_is}

abbrev pub Good : Terms → List ScriptLine → State → Blocks → Outcome → Type 0
Good terms lines s t (did changes e) = Gives terms lines s t e (apply s changes)
Good terms lines s t (not_enabled why) = Unit {0}
Good terms lines s t spent = Unit {0}

-- what is good follows
pub follows_from : (terms : Terms) (lines : List ScriptLine) (s : State) (n : Seen) (o : Outcome) (changes : List Change) (e : Entry) → Agrees s n → Good terms lines s n.blocks o → o ≡ did changes e → Follows terms lines n e (apply s changes)
follows_from terms lines s n o changes e agrees good h =
    let gives : Gives terms lines s n.blocks e (apply s changes) = subst (Good terms lines s n.blocks) h good in
    subst (λ m. Follows terms lines m e (apply s changes)) (sym (agrees_is s n agrees)) gives.follows

-- and the terms and the script's lines stay
pub script_from : (terms : Terms) (lines : List ScriptLine) (s : State) (t : Blocks) (o : Outcome) (changes : List Change) (e : Entry) → Good terms lines s t o → o ≡ did changes e → SameScript s (apply s changes)
script_from terms lines s t o changes e good h =
    let gives : Gives terms lines s t e (apply s changes) = subst (Good terms lines s t) h good in gives.same_script
