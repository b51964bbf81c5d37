-- Openings: the states from which a run may begin, each with the one state of blocks that it stands for.
use Rattle.std.specs.Prelude.{◌≡◌, ℕ, List, [], Bool, map, is_some}
use Rattle.dc_base.specs.declared.entries.Entry.{Entry}
use Rattle.dc_base.specs.declared.reports.ReportLine.{ReportLine}
use Rattle.dc_base.specs.Words.{Each}
use Rattle.dc_base.specs.Script.{next_command}
use Rattle.dc_base.specs.Channels.{Ring}
use Rattle.dc_base.specs.Lines.{Wire}
use Rattle.dc_base.specs.Blocks as blocks
use Rattle.dc_base.specs.Blocks.{Blocks}
use Rattle.dc_base.specs.States.{State, Core, Block, Script, empty, time_of, idle_wire}
use Rattle.dc_base.specs.Report.{latches_of}
use Rattle.dc_base.specs.Shown.{life_of}
use Rattle.dc_base.specs.Runs.{Seen, run_from}
use Rattle.dc_base.specs.Telling.{seen_of, terms_at}
use Rattle.dc_base.specs.Sound.{IsSound}
use Rattle.dc_base.specs.Origins.{Origin}
use Rattle.dc_base.specs.Headline.{IsReportedRunOf}

-- nothing was sent over the channel
pub record IsUnsent (r : Ring) : Type 0 where
  pub untaken : r.untaken ≡ []
  pub sent : r.sent ≡ 0
  pub taken : r.taken ≡ 0

-- the script stands before its first line
pub record IsBeforeFirst (t : Script) : Type 0 where
  pub place : t.place ≡ next_command t.lines 0
  pub raises : t.raises ≡ 0
  pub posts : t.posts ≡ 0

-- a sound state with empty mailboxes, no output, nothing sent, idle lines and no latch of a line, whose script stands before its first line
pub record IsOpening (s : State) : Type 0 where
  pub sound : IsSound s
  pub mailboxes : Each s.mailboxes (λ c m. m ≡ empty)
  pub consoles : Each s.consoles (λ b ws. ws ≡ [])
  pub channels : Each s.channels (λ x r. IsUnsent r)
  pub lines : Each s.lines (λ l w. w ≡ idle_wire)
  pub latches : (l : ℕ) → latches_of l s.blocks ≡ 0
  pub script : IsBeforeFirst s.script

abbrev pub block_opened : List Core → Block → blocks.Block
block_opened cores x = record { parts = x.control.parts; lives = map life_of x.control.states; clock = time_of cores x.whereabouts; output = [] }

-- the state of blocks that an opening stands for
unfoldable pub blocks_opened : State → Blocks
blocks_opened s = record {
  blocks = map (block_opened s.cores) s.blocks;
  channels = map (λ (r : Ring). record { capacity = r.capacity; messages = []; taken = 0 }) s.channels;
  lines = map (λ (w : Wire). record { bound = w.bound; offer = w.offer; fates = [] }) s.lines;
}

-- what is told before the first entry
abbrev pub seen_opened : State → Seen
seen_opened s = seen_of s (blocks_opened s)

-- whether the journal is a run from the opening
abbrev pub run_of_opening : State → List Entry → Bool
run_of_opening s journal = is_some (run_from (terms_at s) s.script.lines (seen_opened s) journal)

abbrev pub opening_origin : State → Origin
opening_origin s = record { terms = terms_at s; lines = s.script.lines; seen = seen_opened s; state = s }

-- the promise from an opening
abbrev pub IsReportedRunFrom : State → List Entry → List ReportLine → Type 0
IsReportedRunFrom s journal report = IsReportedRunOf (opening_origin s) journal report
