use Rattle.std.proofs.Common.{◌≤◌}
use Rattle.dc_base.specs.Sound.{IsSound}
use Rattle.dc_objects.specs.States.{state_of}
use Rattle.dc_play.specs.Played.{IsSized}
use Rattle.dc_play.specs.Playing.{IsPlaying}
use Rattle.dc_play.proofs.schedules.play_schedule.Given as goal

-- the actions before this one are made and their entries written
abbrev pub invariant-loop-at : goal.invariant-loop-at
invariant-loop-at g l = record {
  entries : l.ticket ≤ l.at;
  none : l.skipped ≤ l.at;
  few : l.polls ≤ 1000000000;
  sound : IsSound (state_of l.objects);
  sized : IsSized (state_of l.initial.objects).script.settings (state_of l.objects);
  playing : IsPlaying (state_of l.initial.objects) l.schedule l.at (g.S.Sink.told l.initial.sink) (g.S.Sink.told l.sink) (state_of l.objects) l.polls l.ticket l.skipped;
  grow : g.S.Sink.faults l.initial.sink ≤ g.S.Sink.faults l.sink;
}
