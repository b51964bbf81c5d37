use Rattle.std.proofs.Common.{◌≡◌, Some, length, refl, ap, ◌∙◌, subst, arith}
use Rattle.dc_hands.specs.Rows.{in_row}
use Rattle.dc_hands.proofs.Seeing.{goes_now, goes_through, still_of}
use Rattle.dc_rounds.proofs.QuietSteps.{still_now, still_through, disps_still, disps_more}
use Rattle.dc_rounds.proofs.quiet.are_wakes_in_vain.Goals as goal

pub loop-d-init : goal.loop-d-init
loop-d-init g c = record {
  work = c.requires.work;
  on = goes_now c.args.pass.now;
  room = refl;
  still = still_now c.args.pass.now c.args.hand.now;
  tried = λ d below. absurd (omega arith);
}

pub is_wake_in_vain-requires-clause-stage : goal.is_wake_in_vain-requires-clause-stage
is_wake_in_vain-requires-clause-stage g c κs within = still_of c.args.stage.now c.args.pass.now c.loop-d.pass c.loop-d.invariant.on c.requires.stage

pub is_wake_in_vain-requires-clause-work : goal.is_wake_in_vain-requires-clause-work
is_wake_in_vain-requires-clause-work g c κs within = c.loop-d.invariant.work

pub is_wake_in_vain-requires-clause-count : goal.is_wake_in_vain-requires-clause-count
is_wake_in_vain-requires-clause-count g c κs within = ap length c.loop-d.invariant.still.seen ∙ c.requires.count

pub is_wake_in_vain-requires-clause-disp : goal.is_wake_in_vain-requires-clause-disp
is_wake_in_vain-requires-clause-disp g c κs within =
    let x = c.requires.there in
    omega (arith, c.loop-d-test.true, c.disps-d-end.ensures x.0 x.1, (c.requires.shape x.0 x.1).disps)

pub is_wake_in_vain-requires-clause-shape : goal.is_wake_in_vain-requires-clause-shape
is_wake_in_vain-requires-clause-shape g c κs within = λ x at. c.requires.shape x (subst (λ h. in_row h.row c.args.b.0 ≡ Some x) c.loop-d.invariant.still.hand at)

pub returns-then-not-is_wake_in_vain-clause-number : goal.returns-then-not-is_wake_in_vain-clause-number
returns-then-not-is_wake_in_vain-clause-number g c = c.is_wake_in_vain.ensures.number ∙ ap (λ h. h.number) c.loop-d.invariant.still.hand

pub returns-then-not-is_wake_in_vain-clause-on : goal.returns-then-not-is_wake_in_vain-clause-on
returns-then-not-is_wake_in_vain-clause-on g c = goes_through c.args.pass.now c.loop-d.pass c.is_wake_in_vain.new.pass c.loop-d.invariant.on c.is_wake_in_vain.ensures.on

pub loop-d-preserved : goal.loop-d-preserved
loop-d-preserved g c =
    let st = c.args.stage.now in
    let i = c.loop-d.invariant in
    let s = c.is_wake_in_vain.ensures.still c.if-not-is_wake_in_vain.false in
    record {
      work = c.is_wake_in_vain.ensures.work;
      on = goes_through c.args.pass.now c.loop-d.pass c.is_wake_in_vain.new.pass i.on c.is_wake_in_vain.ensures.on;
      room = c.is_wake_in_vain.ensures.room ∙ c.loop-d.invariant.room;
      still = still_through c.args.pass.now c.loop-d.pass c.is_wake_in_vain.new.pass c.args.hand.now c.loop-d.hand c.is_wake_in_vain.new.hand i.still s;
      tried = disps_more st c.is_wake_in_vain.new.pass c.is_wake_in_vain.new.hand c.args.b.0 c.loop-d.d
          (disps_still st c.loop-d.pass c.is_wake_in_vain.new.pass c.loop-d.hand c.is_wake_in_vain.new.hand s c.args.b.0 c.loop-d.d i.tried)
          (c.is_wake_in_vain.ensures.tried c.if-not-is_wake_in_vain.false);
    }

pub returns-clause-work : goal.returns-clause-work
returns-clause-work g c = c.loop-d.invariant.work

pub returns-clause-number : goal.returns-clause-number
returns-clause-number g c = ap (λ h. h.number) c.loop-d.invariant.still.hand

pub returns-clause-on : goal.returns-clause-on
returns-clause-on g c = c.loop-d.invariant.on

pub returns-clause-still : goal.returns-clause-still
returns-clause-still g c = λ _. c.loop-d.invariant.still

pub returns-clause-tried : goal.returns-clause-tried
returns-clause-tried g c = λ _ x at d below. c.loop-d.invariant.tried d (omega (arith, c.loop-d-test.false, c.disps-d-end.ensures x (subst (λ h. in_row h.row c.args.b.0 ≡ Some x) c.loop-d.invariant.still.hand at), below))

pub returns-then-not-is_wake_in_vain-clause-room : goal.returns-then-not-is_wake_in_vain-clause-room
returns-then-not-is_wake_in_vain-clause-room g c = c.is_wake_in_vain.ensures.room ∙ c.loop-d.invariant.room

pub returns-clause-room : goal.returns-clause-room
returns-clause-room g c = c.loop-d.invariant.room
