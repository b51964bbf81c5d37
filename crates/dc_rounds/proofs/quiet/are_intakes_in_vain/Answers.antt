use Rattle.std.proofs.Common.{◌<◌, refl, inl, ap, ◌∙◌, subst, arith}
use Rattle.std.specs.Prelude.{length}
use Rattle.dc_base.specs.Changes.{a_core}
use Rattle.dc_hands.proofs.HeldHands.{hand_within}
use Rattle.dc_hands.proofs.Seeing.{goes_now, goes_through, still_of}
use Rattle.dc_rounds.proofs.QuietSteps.{still_now, still_through, lines_still, lines_more}
use Rattle.dc_rounds.proofs.quiet.are_intakes_in_vain.Goals as goal

pub loop-l-init : goal.loop-l-init
loop-l-init g c = record {
  work = c.requires.work;
  on = goes_now c.args.pass.now;
  room = refl;
  still = still_now c.args.pass.now c.args.hand.now;
  tried = λ l below. absurd (omega arith);
}

pub is_in_vain-requires-clause-stage : goal.is_in_vain-requires-clause-stage
is_in_vain-requires-clause-stage g c κs within = still_of c.args.stage.now c.args.pass.now c.loop-l.pass c.loop-l.invariant.on c.requires.stage

pub is_in_vain-requires-clause-work : goal.is_in_vain-requires-clause-work
is_in_vain-requires-clause-work g c κs within = c.loop-l.invariant.work

pub is_in_vain-requires-clause-action : goal.is_in_vain-requires-clause-action
is_in_vain-requires-clause-action g c κs within =
    let there = hand_within c.args.stage.now c.requires.opened c.loop-l.pass c.loop-l.hand c.loop-l.invariant.work.hand (a_core c.loop-l.hand.number.0) (inl refl) in
    (there, subst (λ n. c.loop-l.l < n) (c.lines-l-end.ensures ∙ ap (λ m. m.settings.lines) c.scene.ensures) c.loop-l-test.true)

pub is_in_vain-requires-clause-count : goal.is_in_vain-requires-clause-count
is_in_vain-requires-clause-count g c κs within = ap length c.loop-l.invariant.still.seen ∙ c.requires.count

pub returns-then-not-is_in_vain-clause-number : goal.returns-then-not-is_in_vain-clause-number
returns-then-not-is_in_vain-clause-number g c = c.is_in_vain.ensures.number ∙ ap (λ h. h.number) c.loop-l.invariant.still.hand

pub returns-then-not-is_in_vain-clause-on : goal.returns-then-not-is_in_vain-clause-on
returns-then-not-is_in_vain-clause-on g c = goes_through c.args.pass.now c.loop-l.pass c.is_in_vain.new.pass c.loop-l.invariant.on c.is_in_vain.ensures.on

pub loop-l-preserved : goal.loop-l-preserved
loop-l-preserved g c =
    let st = c.args.stage.now in
    let i = c.loop-l.invariant in
    let v = c.is_in_vain.ensures.vain c.if-not-is_in_vain.false in
    record {
      work = c.is_in_vain.ensures.work;
      on = goes_through c.args.pass.now c.loop-l.pass c.is_in_vain.new.pass i.on c.is_in_vain.ensures.on;
      room = c.is_in_vain.ensures.room ∙ c.loop-l.invariant.room;
      still = still_through c.args.pass.now c.loop-l.pass c.is_in_vain.new.pass c.args.hand.now c.loop-l.hand c.is_in_vain.new.hand i.still v.still;
      tried = lines_more st c.is_in_vain.new.pass c.is_in_vain.new.hand c.loop-l.l
          (lines_still st c.loop-l.pass c.is_in_vain.new.pass c.loop-l.hand c.is_in_vain.new.hand v.still c.loop-l.l i.tried) v.vain;
    }

pub returns-clause-work : goal.returns-clause-work
returns-clause-work g c = c.loop-l.invariant.work

pub returns-clause-number : goal.returns-clause-number
returns-clause-number g c = ap (λ h. h.number) c.loop-l.invariant.still.hand

pub returns-clause-on : goal.returns-clause-on
returns-clause-on g c = c.loop-l.invariant.on

pub returns-clause-still : goal.returns-clause-still
returns-clause-still g c = λ _. c.loop-l.invariant.still

pub returns-clause-tried : goal.returns-clause-tried
returns-clause-tried g c = λ _ l below. c.loop-l.invariant.tried l (omega (arith, c.loop-l-test.false, c.lines-l-end.ensures ∙ ap (λ m. m.settings.lines) c.scene.ensures, below))

pub returns-then-not-is_in_vain-clause-room : goal.returns-then-not-is_in_vain-clause-room
returns-then-not-is_in_vain-clause-room g c = c.is_in_vain.ensures.room ∙ c.loop-l.invariant.room

pub returns-clause-room : goal.returns-clause-room
returns-clause-room g c = c.loop-l.invariant.room
