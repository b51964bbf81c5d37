use Rattle.std.proofs.Common.{◌≡◌, ◌≤◌, ◌-◌, length}
use Rattle.dc_base.specs.Ahead as spec
use Rattle.dc_exec.specs.Steps.{context_of, with_context}
use Rattle.dc_exec.proofs.Foreseen.{forward}
use Rattle.dc_exec.proofs.slices.run.Given as goal

-- what has run, and what is still to be seen, is what was to be seen at the start
abbrev pub invariant-loop-ran : goal.invariant-loop-ran
invariant-loop-ran g l = record {
  size : length (g.M.Memory.words l.mem) ≡ 4096;
  room : l.quantum - l.ran ≤ g.M.Memory.room l.mem;
  same : l.d ≡ with_context l.fn.d (context_of l.d);
  place : l.fn.d.place ≤ 65535 → l.d.place ≤ 65535;
  told : forward l.ran (spec.ahead l.time l.code (l.quantum - l.ran) (context_of l.d) (g.M.Memory.words l.mem)) ≡ spec.ahead l.time l.code l.quantum (context_of l.fn.d) (g.M.Memory.words l.fn.mem);
}
