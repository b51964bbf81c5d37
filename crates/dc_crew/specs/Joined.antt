-- Passes that were joined to the first, with their logs.
use Rattle.std.specs.Prelude.{◌≡◌, List, map, reverse}
use mathlib.Core.List.{IsPrefix}
use Rattle.std.specs.Global.{Vec}
use Rattle.dc_base.specs.declared.entries.Entry.{Entry}
use Rattle.dc_journal.specs.declared.merging.Logged.{Logged}
use Rattle.dc_logs.specs.Logs.{EachLog}
use Rattle.dc_logs.specs.Rests.{AllOf}
use Rattle.dc_stage.specs.History.{own}
use Rattle.dc_stage.specs.Pasts.{EachOwn}
use Rattle.dc_stage.specs.Passes.{past_of}
use Rattle.dc_stage.specs.declared.view.Past.{Past}
use Rattle.dc_crew.specs.declared.seats.Seat.{Seat}
use Rattle.dc_crew.specs.Machines.{Passing}

-- what is kept of the passes of these seats
abbrev pub pasts_of : List Seat → List (Past Entry)
pasts_of seats = map (λ (s : Seat). past_of s.pass) seats

-- The pass k became l when these seats ended, the last one first, and left these logs. It has seen all that they had seen, and no new entry of its own.
pub record HasJoined (k l : Passing) (seats : List Seat) (logs : List (Vec Logged)) : Type 0 where
  pub table : l.table_id ≡ k.table_id
  pub scene : l.scene ≡ k.scene
  pub actor : l.actor ≡ k.actor
  pub first : l.first ≡ k.first
  pub made : l.made ≡ k.made
  pub holds : l.holds ≡ k.holds
  pub joined : l.joined ≡ pasts_of seats
  pub own_same : own k.actor l.seen ≡ own k.actor k.seen
  pub each : EachOwn (pasts_of seats) l.seen
  pub logs_are : EachLog l.seen (pasts_of seats) (reverse logs)
  pub sees : IsPrefix k.seen l.seen
  pub sees_theirs : AllOf (λ (s : Seat). IsPrefix s.pass.seen l.seen) seats
