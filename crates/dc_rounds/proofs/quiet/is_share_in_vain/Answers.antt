use Rattle.std.proofs.Common.{length, refl, inr, sym, ap, ◌∙◌, arith}
use Rattle.std.specs.Prelude.{slice_get}
use Rattle.dc_base.specs.Changes.{a_block}
use Rattle.dc_base.specs.Outcomes.{share_blocks}
use Rattle.dc_hands.proofs.HeldHands.{hand_within, block_listed}
use Rattle.dc_hands.proofs.ShareRows.{at_in_share}
use Rattle.dc_hands.proofs.Seeing.{goes_now, goes_through, still_of}
use Rattle.dc_rounds.proofs.QuietSteps.{still_now, still_through, share_still, share_more}
use Rattle.dc_rounds.proofs.quiet.is_share_in_vain.Goals as goal

pub loop-i-init : goal.loop-i-init
loop-i-init g c = record {
  work = c.requires.work;
  on = goes_now c.args.pass.now;
  room = refl;
  still = still_now c.args.pass.now c.args.hand.now;
  tried = λ j b below. absurd (omega arith);
}

pub returns-in_default-clause-work : goal.returns-in_default-clause-work
returns-in_default-clause-work g c = c.loop-i.invariant.work

pub returns-in_default-clause-number : goal.returns-in_default-clause-number
returns-in_default-clause-number g c = ap (λ h. h.number) c.loop-i.invariant.still.hand

pub returns-in_default-clause-on : goal.returns-in_default-clause-on
returns-in_default-clause-on g c = c.loop-i.invariant.on

pub are_wakes_in_vain-requires-clause-stage : goal.are_wakes_in_vain-requires-clause-stage
are_wakes_in_vain-requires-clause-stage g c κs within = still_of c.args.stage.now c.args.pass.now c.loop-i.pass c.loop-i.invariant.on c.requires.stage

pub are_wakes_in_vain-requires-clause-work : goal.are_wakes_in_vain-requires-clause-work
are_wakes_in_vain-requires-clause-work g c κs within = c.loop-i.invariant.work

pub are_wakes_in_vain-requires-clause-count : goal.are_wakes_in_vain-requires-clause-count
are_wakes_in_vain-requires-clause-count g c κs within = ap length c.loop-i.invariant.still.seen ∙ c.requires.count

pub are_wakes_in_vain-requires-clause-block : goal.are_wakes_in_vain-requires-clause-block
are_wakes_in_vain-requires-clause-block g c κs within =
    let h = c.loop-i.hand in
    let here = at_in_share h.core.share c.loop-i.i c.in-Some.b.0 (sym c.in-Some.ensures) in
    hand_within c.args.stage.now c.requires.opened c.loop-i.pass h c.loop-i.invariant.work.hand (a_block c.in-Some.b.0) (inr (block_listed h.core.share c.in-Some.b.0 here))

pub are_wakes_in_vain-requires-clause-there : goal.are_wakes_in_vain-requires-clause-there
are_wakes_in_vain-requires-clause-there g c κs within =
    let y = c.loop-i.invariant.work.hand.blocks c.in-Some.b.0 (at_in_share c.loop-i.hand.core.share c.loop-i.i c.in-Some.b.0 (sym c.in-Some.ensures)) in
    (y.0, y.1)

pub are_wakes_in_vain-requires-clause-shape : goal.are_wakes_in_vain-requires-clause-shape
are_wakes_in_vain-requires-clause-shape g c κs within =
    λ x at. c.hands_show_their_blocks.ensures.shapes c.args.stage.now c.loop-i.pass c.loop-i.hand c.requires.opened c.loop-i.invariant.work.hand c.in-Some.b.0 x at

pub returns-then-not-are_wakes_in_vain-clause-number : goal.returns-then-not-are_wakes_in_vain-clause-number
returns-then-not-are_wakes_in_vain-clause-number g c = c.are_wakes_in_vain.ensures.number ∙ ap (λ h. h.number) c.loop-i.invariant.still.hand

pub returns-then-not-are_wakes_in_vain-clause-on : goal.returns-then-not-are_wakes_in_vain-clause-on
returns-then-not-are_wakes_in_vain-clause-on g c = goes_through c.args.pass.now c.loop-i.pass c.are_wakes_in_vain.new.pass c.loop-i.invariant.on c.are_wakes_in_vain.ensures.on

pub loop-i-preserved : goal.loop-i-preserved
loop-i-preserved g c =
    let st = c.args.stage.now in
    let i = c.loop-i.invariant in
    let s = c.are_wakes_in_vain.ensures.still c.if-not-are_wakes_in_vain.false in
    let l = c.are_wakes_in_vain.new.pass in
    let h = c.are_wakes_in_vain.new.hand in
    record {
      work = c.are_wakes_in_vain.ensures.work;
      on = goes_through c.args.pass.now c.loop-i.pass l i.on c.are_wakes_in_vain.ensures.on;
      room = c.are_wakes_in_vain.ensures.room ∙ c.loop-i.invariant.room;
      still = still_through c.args.pass.now c.loop-i.pass l c.args.hand.now c.loop-i.hand h i.still s;
      tried = share_more st l h c.loop-i.i c.in-Some.b.0 (share_still st c.loop-i.pass l c.loop-i.hand h s c.loop-i.i i.tried)
          (ap (λ m. slice_get (share_blocks m.core.share) c.loop-i.i) s.hand ∙ sym c.in-Some.ensures)
          (c.are_wakes_in_vain.ensures.tried c.if-not-are_wakes_in_vain.false);
    }

pub returns-clause-work : goal.returns-clause-work
returns-clause-work g c = c.loop-i.invariant.work

pub returns-clause-number : goal.returns-clause-number
returns-clause-number g c = ap (λ h. h.number) c.loop-i.invariant.still.hand

pub returns-clause-on : goal.returns-clause-on
returns-clause-on g c = c.loop-i.invariant.on

pub returns-clause-still : goal.returns-clause-still
returns-clause-still g c = λ _. c.loop-i.invariant.still

pub returns-clause-tried : goal.returns-clause-tried
returns-clause-tried g c = λ _ j b below.
    c.loop-i.invariant.tried j b (omega (arith, c.loop-i-test.false, c.share_len-i-end.ensures.value, ap (λ h. length h.core.share) c.loop-i.invariant.still.hand, below))

pub returns-then-not-are_wakes_in_vain-clause-room : goal.returns-then-not-are_wakes_in_vain-clause-room
returns-then-not-are_wakes_in_vain-clause-room g c = c.are_wakes_in_vain.ensures.room ∙ c.loop-i.invariant.room

pub returns-clause-room : goal.returns-clause-room
returns-clause-room g c = c.loop-i.invariant.room

pub returns-in_default-clause-room : goal.returns-in_default-clause-room
returns-in_default-clause-room g c = c.loop-i.invariant.room
