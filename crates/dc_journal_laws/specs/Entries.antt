-- The entries of a whole journal: which line of the script they answer, and which orders they post and carry out.
use Rattle.std.specs.Prelude.{ℕ, List, [], ◌∷◌, Bool, true, false, ◌&&◌, not, Option, Some, None, if◌then◌else◌, IsTrue, is_none}
use Rattle.std.specs.List.{flat_map, list_all, list_any}
use Rattle.std.specs.Option.{option_map_or}
use Rattle.dc_base.specs.declared.images.Image.{Image}
use Rattle.dc_base.specs.declared.actions.Actor.{Actor}
use Rattle.dc_base.specs.declared.actions.Actor.TheVariants as actor
use Rattle.dc_base.specs.declared.commands.Order.{Order}
use Rattle.dc_base.specs.declared.commands.ScriptLine.{ScriptLine}
use Rattle.dc_base.specs.declared.entries.Entry.{Entry}
use Rattle.dc_base.specs.declared.entries.What.{What}
use Rattle.dc_base.specs.declared.entries.What.TheVariants as what
use Rattle.dc_base.specs.Words.{is_number}
use Rattle.dc_base.specs.Answers.{order_in}
use Rattle.dc_base.specs.Runs.{run_of}

-- it holds of each run of each image and script
abbrev pub InEachRun : (Image → List ScriptLine → List Entry → Type 0) → Type 0
InEachRun P = (image : Image) (script : List ScriptLine) (journal : List Entry) → IsTrue (run_of image script journal) → P image script journal

-- the line of the script whose command an entry answers, if it answers one
abbrev pub command_line : What → Option ℕ
command_line (what.Post q c o) = Some q
command_line (what.Done q) = Some q
command_line (what.Refused q r) = Some q
command_line (what.Route q l c) = Some q
command_line (what.Met q b n) = Some q
command_line (what.Unmet q b n) = Some q
command_line w = None

-- whether an entry answers the command in line q
abbrev pub answers : ℕ → Entry → Bool
answers q e = is_number q (command_line e.what)

-- no entry is a command's
abbrev pub no_commands : List Entry → Bool
no_commands journal = list_all (λ (e : Entry). is_none (command_line e.what)) journal

abbrev pub is_post : What → Bool
is_post (what.Post q c o) = true
is_post w = false

-- whether an entry finishes the command in line q: every entry of a command but a post is its last
abbrev pub finishes : ℕ → Entry → Bool
finishes q e = answers q e && not (is_post e.what)

-- the command in line q has made an entry
abbrev pub is_begun : ℕ → List Entry → Bool
is_begun q journal = list_any (answers q) journal

-- the command in line q has made its last entry
abbrev pub is_finished : ℕ → List Entry → Bool
is_finished q journal = list_any (finishes q) journal

-- the entries before the first one of the command in line q
abbrev pub before_command : ℕ → List Entry → List Entry
before_command q [] = []
before_command q (e ∷ es) = if answers q e then [] else e ∷ before_command q es

abbrev pub post_in : What → List (ℕ × Order)
post_in (what.Post q c o) = (c.0, o) ∷ []
post_in w = []

-- the orders posted, each with its core
abbrev pub posted : List Entry → List (ℕ × Order)
posted journal = flat_map (λ (e : Entry). post_in e.what) journal

-- the orders that the command in line q posted
abbrev pub posted_by : ℕ → List Entry → List (ℕ × Order)
posted_by q journal = flat_map (λ (e : Entry). if answers q e then post_in e.what else []) journal

abbrev pub carried_in : Actor → What → List (ℕ × Order)
carried_in (actor.Core c) w = option_map_or (λ o. (c.0, o) ∷ []) (order_in w) []
carried_in actor.Script w = []

-- the orders carried out, each with its core
abbrev pub carried_out : List Entry → List (ℕ × Order)
carried_out journal = flat_map (λ (e : Entry). carried_in e.actor e.what) journal

abbrev pub raise_in : What → List ℕ
raise_in (what.Raise q l r) = q ∷ []
raise_in w = []

-- the lines of the script whose raises were made
abbrev pub raised : List Entry → List ℕ
raised journal = flat_map (λ (e : Entry). raise_in e.what) journal
