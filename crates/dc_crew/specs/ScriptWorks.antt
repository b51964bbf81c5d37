-- The script at work: it is in the hand, and its entries go into its log. A log is m before and n after.
use Rattle.std.specs.Prelude.{◌≡◌, ◌≤◌, ◌+◌, ℕ, List, [], ◌∷◌, ◌++◌, Some, slice_get, ⊤}
use Rattle.dc_base.specs.declared.commands.ScriptLine.TheVariants as line
use Rattle.dc_base.specs.declared.entries.Entry.{Entry}
use Rattle.dc_base.specs.declared.numbers.BlockNo.{BlockNo}
use Rattle.dc_hands.specs.declared.answers.Turned.{Turned}
use Rattle.dc_hands.specs.declared.answers.Turned.TheVariants as turned
use Rattle.dc_hands.specs.declared.hands.ScriptHand.{ScriptHand}
use Rattle.dc_hands.specs.Hands.{HoldsScript}
use Rattle.dc_hands.specs.Machines.{Staged, Passing}
use Rattle.dc_journal.specs.declared.merging.Logged.{Logged}
use Rattle.dc_logs.specs.Marks.{IsLogOf, ticket_no}
use Rattle.dc_logs.specs.Recorded.{Recorded}
use Rattle.dc_logs.specs.Rests.{AllOf}
use Rattle.dc_rounds.specs.declared.acting.Went.{Went}
use Rattle.dc_rounds.specs.declared.acting.Went.TheVariants as went
use Rattle.dc_script_turns.specs.Scripting.{IsNoUnmet}

-- the hand holds the script, and the log has its entries in what the pass has seen
pub record WorksScript {D : Type 0} (st : Staged D) (k : Passing D) (m : Recorded) (h : ScriptHand) : Type 0 where
  pub hand : HoldsScript st k h
  pub log : IsLogOf k.actor k.seen m.entries

-- the log has more entries behind, none of which ends an await whose console has too few words
pub record GrowsQuietly (m n : Recorded) : Type 0 where
  pub more : List Logged
  pub entries : n.entries ≡ m.entries ++ more
  pub quiet : AllOf (λ (x : Logged). IsNoUnmet x.entry.what) more
  pub room : n.room ≡ m.room

-- the log with this entry last
abbrev pub with_last : Recorded → Entry → ℕ → Recorded
with_last m e t = record m { entries = m.entries ++ record { ticket = ticket_no t; entry = e } ∷ [] }

-- the answer of a turn in short, and its entry in the log
abbrev pub IsNoted : Turned → Recorded → Recorded → Went → Type 0
IsNoted (turned.Did e t) m n w = (w ≡ went.Did) × (n ≡ with_last m e t.0)
IsNoted (turned.NotEnabled why) m n w = (w ≡ went.InVain) × (n ≡ m)
IsNoted turned.Spent m n w = (w ≡ went.InVain) × (n ≡ m)
IsNoted (turned.Busy b) m n w = (w ≡ went.Busy) × (n ≡ m)

-- an answer for which this is so
abbrev pub Answered : (Turned → Type 0) → Recorded → Recorded → Went → Type 0
Answered Answers m n w = (r : Turned) × Answers r × IsNoted r m n w

-- the entry of the turn, if there is one, ends no await whose console has too few words
abbrev pub IsNoUnmetTurn : Turned → Type 0
IsNoUnmetTurn (turned.Did e t) = IsNoUnmet e.what
IsNoUnmetTurn r = ⊤

-- the log was full
abbrev pub IsFull : Went → Type 0
IsFull went.Full = ⊤
IsFull w = ⊥

-- the script stands at an await whose next poll is the last
abbrev pub AwaitsLast : ScriptHand → Type 0
AwaitsLast h = (b : BlockNo) × (words limit : ℕ) × (slice_get h.script.lines h.script.place ≡ Some (line.Await b words limit)) × (limit ≤ h.polls + 1)
