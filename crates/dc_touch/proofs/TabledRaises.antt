-- A raise touches what the table says.
use Rattle.std.proofs.Common.{ℕ, List, [], ◌∷◌, Option, Some, None}
use Rattle.std.specs.Prelude.{slice_get, nat_lt}
use Rattle.std.proofs.lemmas.List.Sorted.{IsPermutation-refl}
use Rattle.dc_base.specs.declared.numbers.LineNo.{LineNo}
use Rattle.dc_base.specs.declared.commands.ScriptLine.{ScriptLine}
use Rattle.dc_base.specs.declared.commands.ScriptLine.TheVariants as script
use Rattle.dc_base.specs.declared.entries.Entry.{Entry}
use Rattle.dc_base.specs.Lines.{Wire}
use Rattle.dc_base.specs.States.{State}
use Rattle.dc_base.specs.Changes.{a_line, the_script, Change}
use Rattle.dc_base.specs.Turns.{not_enabled, ends}
use Rattle.dc_base.specs.Raises.{raise_on, raise_line, raise_turn, first_unbegun}
use Rattle.dc_touch.proofs.Tabled.{IsTabled, refused, made_by_script, either}

module _ (s : State) (chs : List Change) (e : Entry) where
  raised_tabled : (q : ℕ) (l : LineNo) (o : Option Wire) → IsTabled s chs e (the_script ∷ a_line l.0 ∷ []) (ends (raise_on s.script q l o))
  raised_tabled q l None = refused s chs e _
  raised_tabled q l (Some w) = made_by_script s chs e (the_script ∷ a_line l.0 ∷ []) _ _ (IsPermutation-refl _)

  line_tabled : (q : ℕ) (o : Option ScriptLine) → IsTabled s chs e (the_script ∷ []) (raise_line s.script q o)
  line_tabled q (Some (script.Raise l)) = raised_tabled q l (slice_get s.lines l.0)
  line_tabled q o = refused s chs e _

  pub raise_tabled : (o : Option ℕ) → IsTabled s chs e (the_script ∷ []) (raise_turn s.script o)
  raise_tabled None = refused s chs e _
  raise_tabled (Some q) = either s chs e (nat_lt (first_unbegun s.script) q) (the_script ∷ []) (ends (not_enabled _)) (raise_line s.script q (slice_get s.script.lines q)) (refused s chs e _) (line_tabled q (slice_get s.script.lines q))
