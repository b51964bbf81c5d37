-- The line that a sound machine's script raises is there, and may be raised once more.
use Rattle.std.proofs.Common.{◌≡◌, ℕ, ◌<◌, Some, sym, subst, arith, length}
use Rattle.std.specs.Prelude.{slice_get, not, ◌^◌, ◌-◌}
use Rattle.std.proofs.lemmas.List.Sums.{count_by-le-length}
use Rattle.dc_base.specs.declared.commands.ScriptLine.TheVariants as line
use Rattle.dc_base.specs.declared.numbers.LineNo.{LineNo}
use Rattle.dc_base.specs.Lines.{Wire}
use Rattle.dc_base.specs.Script.{is_command}
use Rattle.dc_base.specs.Sound.{IsSound}
use Rattle.dc_base.specs.States.{State}

pub raise_fits : (s : State) (l : ℕ) (w : Wire) → IsSound s → slice_get s.lines l ≡ Some w → w.counts.raised < 2 ^ 32 - 1
raise_fits s l w h e = let a = h.counted.raised l w e in let b = h.in_form.raises in let d = count_by-le-length (λ m. not (is_command m)) s.script.lines in let f = h.settled.script in omega (arith, a, b, d, f)

pub raised_there : (s : State) (q : ℕ) (l : LineNo) → IsSound s → slice_get s.script.lines q ≡ Some (line.Raise l) → l.0 < length s.lines
raised_there s q l h e = subst (λ n. l.0 < n) (sym h.settled.lines) (h.settled.within q (line.Raise l) e)
