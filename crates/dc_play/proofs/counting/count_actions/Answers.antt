use Rattle.std.proofs.Common.{◌+◌, None, refl, subst, arith, ℕ}
use Rattle.dc_objects.specs.States.{state_of}
use Rattle.dc_play.specs.Counting.{IsCounting}
use Rattle.dc_play.proofs.Playing.{begins}
use Rattle.dc_play.proofs.Actions.{action_of_state}
use Rattle.dc_play.proofs.Counted.{counted, entries_then, entries_is, skipped_is}
use Rattle.dc_play.proofs.counting.count_actions.Goals as goal

pub loop-i-init : goal.loop-i-init
loop-i-init g c = record {
  playing = begins (state_of c.args.objects.now) c.args.schedule.now None;
  sound = c.requires.sound;
  sized = record { cores = refl; blocks = refl; lines = refl };
  polls_few = omega arith;
  entries_few = omega arith;
  skipped_few = omega arith;
}

pub step-stepped-requires-clause-action : goal.step-stepped-requires-clause-action
step-stepped-requires-clause-action g c κs within =
    action_of_state (state_of c.args.objects.now).script.settings (state_of c.loop-i.objects) c.loop-i.invariant.sized _ _ (c.requires.schedule.lines c.loop-i.i _ c.row-who.ensures)

pub loop-i-preserved : goal.loop-i-preserved
loop-i-preserved g c =
    let start = state_of c.args.objects.now in
    let state = state_of c.loop-i.objects in
    let new = state_of c.step-stepped.new.objects in
    let r = c.step-stepped.result in
    let n = c.loop-i.counts in
    let more = counted c.sound_keeps.ensures start c.args.schedule.now c.loop-i.i state c.loop-i.polls n.entries n.skipped c.loop-i.invariant _ c.row-who.ensures r new c.step-stepped.new.polls
    c.step-stepped.ensures.few c.step-stepped.ensures.step c.step-stepped.ensures.polls in
    subst (λ (e : ℕ). IsCounting start c.args.schedule.now (c.loop-i.i + 1) new c.step-stepped.new.polls e c.with_one-counts.result.skipped) (entries_is r n c.with_one-counts.result c.with_one-counts.ensures)
    (subst (λ (k : ℕ). IsCounting start c.args.schedule.now (c.loop-i.i + 1) new c.step-stepped.new.polls (entries_then r n.entries) k) (skipped_is r n c.with_one-counts.result c.with_one-counts.ensures) more)
