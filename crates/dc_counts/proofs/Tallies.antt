-- What is counted of a state, and how it grows with the entries of cores and of the script.
use Rattle.std.proofs.Common.{◌≡◌, ℕ, ◌+◌, ◌*◌, ◌≤◌, ◌<◌, Bool, true, false, length, take}
use Rattle.std.specs.Prelude.{slice_get, is_some, count_by}
use Rattle.std.specs.Option.{option_map_or}
use Rattle.dc_base.specs.Bounded.{budget}
use Rattle.dc_base.specs.Lines.{Wire}
use Rattle.dc_base.specs.Script.{is_command}
use Rattle.dc_base.specs.States.{State, Core, Mailbox, order, Script}

-- the used budget of a core
abbrev pub used_at : State → ℕ → ℕ
used_at s c = option_map_or (λ (k : Core). k.used) (slice_get s.cores c) 0

abbrev pub is_order : Mailbox → Bool
is_order (order o) = true
is_order m = false

-- the orders that wait in mailboxes
abbrev pub orders_in : State → ℕ
orders_in s = count_by is_order s.mailboxes

abbrev pub has_pending : Wire → Bool
has_pending w = is_some w.pending

-- the lines with a pending raise
abbrev pub pending_in : State → ℕ
pending_in s = count_by has_pending s.lines

-- the commands above the script's place
abbrev pub commands_above : Script → ℕ
commands_above t = count_by is_command (take t.place t.lines)

-- what cores can come to do by the script: an order for each post, and an intake for each raise
abbrev pub asked : Script → ℕ
asked t = 2 * commands_above t + t.posts + t.raises

-- the entries that the script may have made
abbrev pub told : Script → ℕ
told t = 3 * commands_above t + t.posts + t.raises

-- core c made an entry, which led from s to u
pub record CoreMade (c : ℕ) (s u : State) : Type 0 where
  pub core : c < length s.cores
  pub used : (d : ℕ) → used_at s d ≤ used_at u d
  pub orders : orders_in u ≤ orders_in s
  pub pending : pending_in u ≤ pending_in s
  pub one : used_at s c + orders_in u + pending_in u + 1 ≤ used_at u c + orders_in s + pending_in s
  pub all : budget s + orders_in u + pending_in u + 1 ≤ budget u + orders_in s + pending_in s
  pub script : u.script ≡ s.script

-- the script made an entry, which led from s to u
pub record ScriptMade (s u : State) : Type 0 where
  pub cores : u.cores ≡ s.cores
  pub lines : u.script.lines ≡ s.script.lines
  pub settings : u.script.settings ≡ s.script.settings
  pub asks : asked s.script + orders_in u + pending_in u ≤ asked u.script + orders_in s + pending_in s
  pub one : told s.script + 1 ≤ told u.script
