-- The entry of a route follows.
use Rattle.std.proofs.Common.{◌≡◌, List, Option, Some, None, refl, ap, ◌∙◌}
use Rattle.std.specs.Prelude.{slice_get, slice_set, ◌==◌, ◌&&◌, if◌then◌else◌}
use Rattle.dc_base.specs.declared.numbers.LineNo.{LineNo}
use Rattle.dc_base.specs.declared.numbers.CoreNo.{CoreNo}
use Rattle.dc_base.specs.declared.commands.ScriptLine.{ScriptLine}
use Rattle.dc_base.specs.declared.commands.ScriptLine.TheVariants as line
use Rattle.dc_base.specs.declared.entries.What.TheVariants as what
use Rattle.dc_base.specs.Lines.{Wire}
use Rattle.dc_base.specs.Blocks.{Blocks}
use Rattle.dc_base.specs.Script.{next_raise}
use Rattle.dc_base.specs.States.{State}
use Rattle.dc_base.specs.Commands.{at_next_command, route_line, raise_above}
use Rattle.dc_base.specs.StandsFor.{StandsFor}
use Rattle.dc_base.specs.Answers.{may_begin, only_if, route_answer, finished}
use Rattle.dc_base.specs.Runs.{Terms}
use Rattle.dc_base.specs.Sound.{IsSound}
use Rattle.dc_base.specs.Telling.{IsOf, answered_of}
use Rattle.dc_refine.proofs.Turn.{map_set_same}
use Rattle.dc_refine.proofs.Beside.{SameButRoutes}
use Rattle.dc_refine.proofs.Good.{Good}
use Rattle.dc_refine.proofs.Heads.{events_open, columns_open, answer_open}
use Rattle.dc_refine.proofs.Quiet.{same_number, quiet, may_begin-at, no_posts}

module _ (terms : Terms) (lines : List ScriptLine) (s : State) (t : Blocks) (of : IsOf terms lines s) (sound : IsSound s) (stands : StandsFor s t)
    (none_above : raise_above s.script.place (next_raise s.script.lines s.script.raises) ≡ None) (l : LineNo) (c : CoreNo) (at : slice_get s.script.lines s.script.place ≡ Some (line.Route l c)) where
  route_answers : (if may_begin lines (answered_of s) s.script.place then route_answer lines (answered_of s) l.0 c.0 (slice_get lines s.script.place) else None) ≡ Some (answered_of (record s { script = at_next_command s.script }))
  route_answers =
      ap (λ ls. if may_begin ls (answered_of s) s.script.place then route_answer ls (answered_of s) l.0 c.0 (slice_get ls s.script.place) else None) of.same_lines
      ∙ ap (λ v. if v then route_answer s.script.lines (answered_of s) l.0 c.0 (slice_get s.script.lines s.script.place) else None) (may_begin-at s (line.Route l c) at (λ h. h) (no_posts s (line.Route l c) sound.in_form at refl) none_above)
      ∙ ap (route_answer s.script.lines (answered_of s) l.0 c.0) at
      ∙ ap (λ v. only_if (v && c.0 == c.0) (finished s.script.lines (answered_of s))) (same_number l.0)
      ∙ ap (λ v. only_if v (finished s.script.lines (answered_of s))) (same_number c.0)

  module _ (w : Wire) (wire_at : slice_get s.lines l.0 ≡ Some w) where
    abbrev routed : Wire
    routed = record w { route = Some c.0 }

    routes_alone : SameButRoutes s.lines (slice_set s.lines l.0 routed)
    routes_alone = record {
      bounds = map_set_same (λ (w : Wire). w.bound) s.lines l.0 w routed wire_at refl;
      offers = map_set_same (λ (w : Wire). w.offer) s.lines l.0 w routed wire_at refl;
      pending = map_set_same (λ (w : Wire). w.pending) s.lines l.0 w routed wire_at refl;
      counts = map_set_same (λ (w : Wire). w.counts) s.lines l.0 w routed wire_at refl;
    }

    routed_good : Good terms lines s t (route_line s.script l c (Some w))
    unfolding answer_open events_open columns_open
    routed_good = quiet terms lines s t stands (what.Route s.script.place l c) (at_next_command s.script) s.mailboxes (slice_set s.lines l.0 routed) routes_alone refl refl route_answers (record { settings = refl; lines = refl })

  pub route_good : (o : Option Wire) → slice_get s.lines l.0 ≡ o → Good terms lines s t (route_line s.script l c o)
  route_good None e = tt
  route_good (Some w) e = routed_good w e
