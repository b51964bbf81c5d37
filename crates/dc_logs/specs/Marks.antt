-- The entries of one actor, each with its place in the history.
use Rattle.std.specs.Prelude.{◌≡◌, ℕ, suc, ◌==◌, cond, List, [], ◌∷◌, map}
use Rattle.dc_base.specs.declared.entries.Entry.{Entry}
use Rattle.dc_base.specs.declared.numbers.Ticket.{Ticket}
use Rattle.dc_stage.specs.History.{Log}
use Rattle.dc_journal.specs.declared.merging.Logged.{Logged}

-- the entries of actor a with their places, of which the first is k
abbrev pub marked : {En : Type 0} → ℕ → ℕ → Log En → List (ℕ × En)
marked a k [] = []
marked a k (x ∷ xs) = cond (a == x.0) ((k, x.1) ∷ marked a (suc k) xs) (marked a (suc k) xs)

abbrev pub mark_of : Logged → ℕ × Entry
mark_of l = (l.ticket.0, l.entry)

abbrev pub ticket_no : ℕ → Ticket
ticket_no n = record { 0 = n }

-- the log has just the entries of this actor, with their places
abbrev pub IsLogOf : ℕ → Log Entry → List Logged → Type 0
IsLogOf a history log = map mark_of log ≡ marked a 0 history
