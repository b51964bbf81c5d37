-- Each entry keeps the parts of soundness that speak of control blocks alone.
use Rattle.std.proofs.Common.{ℕ, ◌<◌, ◌≤◌, ◌^◌, List, Option, Some, None, arith}
use Rattle.std.specs.Prelude.{IfSome}
use Rattle.std.proofs.lemmas.List.Sums.{count_by-le-length}
use Rattle.std.specs.Prelude.{not}
use Rattle.dc_base.specs.declared.commands.ScriptLine.{ScriptLine}
use Rattle.dc_base.specs.Script.{is_command}
use Rattle.dc_base.specs.declared.entries.Entry.{Entry}
use Rattle.dc_base.specs.Bounded.{IsCounted, IsSettled}
use Rattle.dc_base.specs.Changes.{Change, apply}
use Rattle.dc_base.specs.KeptByBlocks.{HasShape, HasDispatchers, HasWords, HasPorts, HasTimers, HasCaps, AllShapes, AllDispatchers, AllWords, AllPorts, AllTimers, AllCaps}
use Rattle.dc_base.specs.KeptOutside.{KeepsRings, KeepsLines}
use Rattle.dc_base.specs.Named.{IsNamed}
use Rattle.dc_base.specs.ScriptForm.{IsInForm}
use Rattle.dc_base.specs.States.{State}
use Rattle.dc_sound.proofs.BlockNaming.{keeps_names}
use Rattle.dc_sound.proofs.BlockWords.{PendingShort, ShapeAndNames, keeps_words}
use Rattle.dc_block_sound.proofs.CapForms.{keeps_caps}
use Rattle.dc_sound.proofs.ControlKept.{kept_alone, kept_under}
use Rattle.dc_block_sound.proofs.ControlSteps.{StepKeeps}
use Rattle.dc_sound.proofs.EntryKinds.{Kind}
use Rattle.dc_block_sound.proofs.Forms.{keeps_shape, keeps_dispatchers, keeps_ports, keeps_timers}

-- the pending numbers have 32 bits, since a script has at most 4,096 lines
pub pending_is_short : (s : State) → KeepsLines s → IsCounted s → IsInForm s → IsSettled s → PendingShort s
pending_is_short s lines counted form settled l w e = by_pending w.pending (lines.pending l w e)
  where
    by_pending : (o : Option ℕ) → IfSome o (λ n. n ≤ w.counts.raised) → IfSome o (λ n. n < 2 ^ 32)
    by_pending None h = tt
    by_pending (Some n) h =
        let a = counted.raised l w e in
        let b = form.raises in
        let c = settled.script in
        let f = count_by-le-length (λ (l : ScriptLine). not (is_command l)) s.script.lines in
        omega (arith, h, a, b, c, f)

pub keeps_both : (s : State) → StepKeeps s (ShapeAndNames s)
keeps_both s d C x y st h = (keeps_shape s d C x y st h.0, keeps_names s d C x y st h.1)

module _ (s : State) (chs : List Change) (e : Entry) (k : Kind s chs e) where
  pub shapes_kept : AllShapes s → AllShapes (apply s chs)
  shapes_kept h = kept_alone s chs e HasShape (keeps_shape s) h k

  pub dispatchers_kept : AllDispatchers s → AllDispatchers (apply s chs)
  dispatchers_kept h = kept_alone s chs e HasDispatchers (keeps_dispatchers s) h k

  pub ports_kept : AllPorts s → AllPorts (apply s chs)
  ports_kept h = kept_alone s chs e HasPorts (keeps_ports s) h k

  pub timers_kept : AllTimers s → AllTimers (apply s chs)
  timers_kept h = kept_alone s chs e HasTimers (keeps_timers s) h k

  pub caps_kept : AllCaps s → AllShapes s → KeepsLines s → AllCaps (apply s chs)
  caps_kept h shapes lines = kept_under s chs e HasShape HasCaps (keeps_shape s) (keeps_caps s lines.rights) shapes h k

  pub words_kept : AllWords s → AllShapes s → IsNamed s → KeepsRings s → PendingShort s → AllWords (apply s chs)
  words_kept h shapes named rings pending = kept_under s chs e (ShapeAndNames s) HasWords (keeps_both s) (keeps_words s rings pending) (λ b x q. (shapes b x q, named.blocks b x q)) h k
