-- How cores carry out the orders that the script posts, in sentences over whole journals.
use Rattle.std.specs.Prelude.{◌≡◌, ◌⊎◌, ℕ, List, [], ◌∷◌, ◌++◌, Some, IsTrue}
use Rattle.dc_base.specs.declared.images.Image.{Image}
use Rattle.dc_base.specs.declared.numbers.CoreNo.{CoreNo}
use Rattle.dc_base.specs.declared.commands.Order.{Order}
use Rattle.dc_base.specs.declared.commands.ScriptLine.{ScriptLine}
use Rattle.dc_base.specs.declared.entries.Entry.{Entry}
use Rattle.dc_base.specs.declared.entries.What.{What}
use Rattle.dc_base.specs.declared.entries.What.TheVariants as what
use Rattle.dc_base.specs.Outcomes.{by_core, by_script}
use Rattle.dc_base.specs.Answers.{order_in}
use Rattle.dc_journal_laws.specs.Entries.{command_line, no_commands, posted, carried_out}

-- an order entry is the last order posted, by the core that it was posted to, and all orders before were carried out
abbrev pub CarriedOutAsPosted : Image → List ScriptLine → List Entry → Type 0
CarriedOutAsPosted image script journal =
    (before after : List Entry) (c : ℕ) (w : What) (o : Order) → journal ≡ before ++ by_core c w ∷ after → order_in w ≡ Some o →
    posted before ≡ carried_out before ++ (c, o) ∷ []

-- where a command makes an entry, every order posted before was carried out
abbrev pub CarriedOutBefore : Image → List ScriptLine → List Entry → Type 0
CarriedOutBefore image script journal =
    (before after : List Entry) (e : Entry) (q : ℕ) → journal ≡ before ++ e ∷ after → command_line e.what ≡ Some q → posted before ≡ carried_out before

-- between a post and the next entry of a command stands one order entry: this order by this core
abbrev pub CarriedOutOnce : Image → List ScriptLine → List Entry → Type 0
CarriedOutOnce image script journal =
    (before between after : List Entry) (q p : ℕ) (c : CoreNo) (o : Order) (e : Entry) →
    journal ≡ before ++ by_script (what.Post q c o) ∷ (between ++ e ∷ after) →
    IsTrue (no_commands between) → command_line e.what ≡ Some p → carried_out between ≡ (c.0, o) ∷ []

-- after a post, as long as no command makes an entry, stands at most one order entry: this order by this core
abbrev pub OneAtMost : Image → List ScriptLine → List Entry → Type 0
OneAtMost image script journal =
    (before between after : List Entry) (q : ℕ) (c : CoreNo) (o : Order) → journal ≡ before ++ by_script (what.Post q c o) ∷ (between ++ after) →
    IsTrue (no_commands between) → (carried_out between ≡ []) ⊎ (carried_out between ≡ (c.0, o) ∷ [])
