use Rattle.std.proofs.Common.{◌≡◌, ℕ, List, Some, Ok, refl, arith}
use Rattle.std.specs.Prelude.{slice_get}
use Rattle.dc_base.specs.declared.actions.Actor.{Actor}
use Rattle.dc_base.specs.declared.actions.Action.{Action}
use Rattle.dc_base.specs.Cores.{core_step}
use Rattle.dc_objects.specs.States.{state_of}
use Rattle.dc_play.proofs.Playing.{begins}
use Rattle.dc_play.proofs.Actions.{action_of_state}
use Rattle.dc_play.proofs.Steps.{ends_failed, goes_on_made, goes_on_passed, stays_sound, stays_sized}
use Rattle.dc_play.proofs.schedules.play_schedule.Goals.{then-made, else-made}
use Rattle.dc_play.proofs.schedules.play_schedule.Goals as goal

pub loop-at-init : goal.loop-at-init
loop-at-init g c = record {
  entries = omega arith;
  none = omega arith;
  few = omega arith;
  sound = c.requires.sound;
  sized = record { cores = refl; blocks = refl; lines = refl };
  playing = begins (state_of c.args.objects.now) c.args.schedule.now (g.S.Sink.told c.args.sink.now);
  grow = omega arith;
}

pub play_action-requires-clause-action : goal.play_action-requires-clause-action
play_action-requires-clause-action g c κs within =
    let items : List (Actor × Action) = c.args.schedule.now in
    let i : ℕ = c.loop-at.at in
    let line : Actor × Action = c.row-who.result in
    let there : slice_get items i ≡ Some line = c.row-who.ensures in
    action_of_state (state_of c.args.objects.now).script.settings (state_of c.loop-at.objects) c.loop-at.invariant.sized line.0 line.1 (c.requires.schedule.lines i line there)

pub returns-in-Err-clause-writes : goal.returns-in-Err-clause-writes
returns-in-Err-clause-writes g c =
    let items : List (Actor × Action) = c.args.schedule.now in
    let i : ℕ = c.loop-at.at in
    let line : Actor × Action = c.row-who.result in
    let there : slice_get items i ≡ Some line = c.row-who.ensures in
    let start = state_of c.args.objects.now in
    let told = g.S.Sink.told c.args.sink.now in
    let later = g.S.Sink.told c.play_action.new.sink in
    ends_failed start items i told (g.S.Sink.told c.loop-at.sink) (state_of c.loop-at.objects) c.loop-at.polls c.loop-at.ticket c.loop-at.skipped c.loop-at.invariant.playing line there
    (state_of c.play_action.new.objects) c.play_action.new.polls later c.in-Err.failed c.in-Err.ensures.plays

pub loop-at-preserved : goal.loop-at-preserved
loop-at-preserved g c =
    let items : List (Actor × Action) = c.args.schedule.now in
    let i : ℕ = c.loop-at.at in
    let line : Actor × Action = c.row-who.result in
    let there : slice_get items i ≡ Some line = c.row-who.ensures in
    let start = state_of c.args.objects.now in
    let old = state_of c.loop-at.objects in
    let new = state_of c.play_action.new.objects in
    let told = g.S.Sink.told c.args.sink.now in
    let now = g.S.Sink.told c.loop-at.sink in
    let later = g.S.Sink.told c.play_action.new.sink in
    let p = c.loop-at.invariant in
    let ran = c.in-Ok.ensures in
    let sound = stays_sound old new c.loop-at.ticket now later (Ok c.in-Ok.made) c.sound_keeps.ensures p.sound c.loop-at.polls line.0 line.1 ran.plays in
    let sized = stays_sized old new c.loop-at.ticket now later (Ok c.in-Ok.made) start.script.settings p.sized p.sound sound (core_step old c.loop-at.polls line.0 line.1) ran.plays in
    elim c.if-made.branch [
      | then-made w ↦
          record {
            entries = omega (arith, p.entries, w.ticket-is);
            none = omega (arith, p.none, w.skipped-is);
            few = ran.few;
            sound = sound;
            sized = sized;
            playing = goes_on_made start items i told now old c.loop-at.polls c.loop-at.ticket c.loop-at.skipped p.playing line there new c.play_action.new.polls later c.in-Ok.made c.if-made.ticket c.if-made.skipped
                w.if-made.true w.ticket-is w.skipped-is ran.plays ran.polls;
            grow = omega (arith, p.grow, c.play_action.ensures.grows);
          }
      | else-made w ↦
          record {
            entries = omega (arith, p.entries, w.ticket-is);
            none = omega (arith, p.none, w.skipped-is);
            few = ran.few;
            sound = sound;
            sized = sized;
            playing = goes_on_passed start items i told now old c.loop-at.polls c.loop-at.ticket c.loop-at.skipped p.playing line there new c.play_action.new.polls later c.in-Ok.made c.if-made.ticket c.if-made.skipped
                w.if-made.false w.ticket-is w.skipped-is ran.plays ran.polls;
            grow = omega (arith, p.grow, c.play_action.ensures.grows);
          }
    ]
