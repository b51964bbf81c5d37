-- What a line of a sound script names is there.
use Rattle.std.proofs.Common.{◌≡◌, ◌<◌, ◌≤◌, ℕ, Some, sym, subst, length}
use Rattle.std.specs.Prelude.{slice_get}
use Rattle.dc_base.specs.declared.commands.ScriptLine.TheVariants as line
use Rattle.dc_base.specs.declared.numbers.BlockNo.{BlockNo}
use Rattle.dc_base.specs.declared.numbers.CoreNo.{CoreNo}
use Rattle.dc_base.specs.declared.numbers.LineNo.{LineNo}
use Rattle.dc_base.specs.Sound.{IsSound}
use Rattle.dc_base.specs.States.{State}

pub routed_there : (s : State) (q : ℕ) (l : LineNo) (c : CoreNo) → IsSound s → slice_get s.script.lines q ≡ Some (line.Route l c) → l.0 < length s.lines
routed_there s q l c h e = subst (λ n. l.0 < n) (sym h.settled.lines) (h.settled.within q (line.Route l c) e).0

pub awaited_there : (s : State) (q : ℕ) (b : BlockNo) (w m : ℕ) → IsSound s → slice_get s.script.lines q ≡ Some (line.Await b w m) → b.0 < length s.consoles
awaited_there s q b w m h e = subst (λ n. b.0 < n) (sym h.settled.consoles) (h.settled.within q (line.Await b w m) e).0

pub limit_within : (s : State) (q : ℕ) (b : BlockNo) (w m : ℕ) → IsSound s → slice_get s.script.lines q ≡ Some (line.Await b w m) → m ≤ 1000000000
limit_within s q b w m h e = (h.settled.within q (line.Await b w m) e).3
