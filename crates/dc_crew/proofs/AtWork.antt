-- A core that did not get its objects comes back to its seat.
use Rattle.std.proofs.Common.{◌≡◌, ℕ, refl, sym, ap, ◌∙◌, subst}
use Rattle.dc_base.specs.declared.entries.Entry.{Entry}
use Rattle.dc_hands.specs.declared.takes.Busy.{Busy}
use Rattle.dc_hands.specs.Gathering.{FailsToGather}
use Rattle.dc_hands.specs.Rows.{Rowed}
use Rattle.dc_logs.specs.Marks.{IsLogOf}
use Rattle.dc_logs.proofs.ActorLogs.{log_later}
use Rattle.dc_stage.specs.Calls.{SeesMore}
use Rattle.dc_stage.specs.History.{Meaning, own}
use Rattle.dc_stage.specs.Passes.{having_seen}
use Rattle.dc_crew.specs.declared.seats.Seat.{Seat}
use Rattle.dc_crew.specs.Laters.{IsLater, IsLaterSeat}
use Rattle.dc_crew.specs.Machines.{Staged, Passing, IsLawfulHere}
use Rattle.dc_crew.specs.Seats.{IsSeat}
use Rattle.dc_crew.proofs.Laters.{later_through, later_of}

module _ {Wh St : Type 0} (p : Meaning Wh St Entry) (st : Staged) (s : Seat) (k l : Passing) (c : ℕ) {r : Rowed} {b : Busy}
    (fails : FailsToGather st s.pass k c r b) (same : l ≡ having_seen k l.seen) (more : SeesMore p k l.seen) where
  -- its pass is a later one
  later_pass : IsLater s.pass l
  later_pass =
      let on = fails.missed.on in
      later_through s.pass k l
      (record { table = on.table; scene = on.scene; actor = on.actor; first = on.first; made = on.made; joined = on.joined; sees = on.sees })
      (record {
        table = ap (λ (z : Passing). z.table_id) same;
        scene = ap (λ (z : Passing). z.scene) same;
        actor = ap (λ (z : Passing). z.actor) same;
        first = ap (λ (z : Passing). z.first) same;
        made = ap (λ (z : Passing). z.made) same;
        joined = ap (λ (z : Passing). z.joined) same;
        sees = more.sees;
      })

  -- and it made no entry
  none_made : own s.pass.actor l.seen ≡ own s.pass.actor s.pass.seen
  none_made = subst (λ a. own a l.seen ≡ own a k.seen) fails.missed.on.actor more.mine ∙ fails.missed.mine

  pub came_back : IsSeat st s → IsLawfulHere st l.seen → IsLaterSeat st s (record { pass = l; log = s.log; row = r })
  came_back seat lawful = record {
    pass = later_pass;
    seat = record {
      of = later_of s.pass l st later_pass seat.of;
      empty = ap (λ (z : Passing). z.holds) same ∙ fails.holds;
      lawful = lawful;
      log = subst (λ a. IsLogOf a l.seen s.log.entries) (sym later_pass.actor)
          (log_later s.pass.actor s.pass.seen l.seen s.log.entries later_pass.sees none_made seat.log);
      row = fails.row;
    };
    room = refl;
  }
