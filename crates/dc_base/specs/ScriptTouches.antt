-- What an entry of the script touches: the script, and a mailbox, a line or a console.
use Rattle.std.specs.Prelude.{ℕ, zero, suc, List, [], ◌∷◌, Option, Some, None, slice_get}
use Rattle.dc_base.specs.declared.commands.Order.{Order}
use Rattle.dc_base.specs.declared.commands.ScriptLine.{ScriptLine}
use Rattle.dc_base.specs.declared.commands.ScriptLine.TheVariants as line
use Rattle.dc_base.specs.declared.entries.What.{What}
use Rattle.dc_base.specs.declared.entries.What.TheVariants as what
use Rattle.dc_base.specs.Boot.{orders}
use Rattle.dc_base.specs.States.{Script}
use Rattle.dc_base.specs.Changes.{Name, a_line, a_mailbox, a_console, the_script}

-- the orders of a boot command
abbrev pub orders_of : Script → Option ScriptLine → List (ℕ × Order)
orders_of t (Some (line.Boot command)) = orders t.registry command
orders_of t l = []

abbrev pub box_of : Option (ℕ × Order) → List Name
box_of None = []
box_of (Some o) = a_mailbox o.0 ∷ []

-- the mailbox that is emptied after n posts of the command at the script's place: that of the order posted last
abbrev pub emptied : Script → ℕ → List Name
emptied t zero = []
emptied t (suc n) = box_of (slice_get (orders_of t (slice_get t.lines t.place)) n)

-- what an entry of the script touches, kind by kind
abbrev pub script_touches : Script → What → List Name
script_touches t (what.Post q c o) = the_script ∷ a_mailbox c.0 ∷ emptied t t.posts
script_touches t (what.Done q) = the_script ∷ emptied t t.posts
script_touches t (what.Refused q r) = the_script ∷ []
script_touches t (what.Raise q l r) = the_script ∷ a_line l.0 ∷ []
script_touches t (what.Route q l c) = the_script ∷ a_line l.0 ∷ []
script_touches t (what.Met q b n) = the_script ∷ a_console b.0 ∷ []
script_touches t (what.Unmet q b n) = the_script ∷ a_console b.0 ∷ []
script_touches t w = []
