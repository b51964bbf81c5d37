use Rattle.std.proofs.Common.{◌≡◌, ◌+◌, ◌++◌, length, map}
use Rattle.std.specs.Prelude.{reverse}
use Rattle.std.specs.Vec.{vec_len, vec_capacity}
use Rattle.dc_base.specs.Changes.{Object as Seen}
use Rattle.dc_numbered.proofs.gathering.put.Given as goal

abbrev pub invariant-loop-object : goal.invariant-loop-object
invariant-loop-object g l = record {
  all : (see : _ → Seen) (shown : _ → Seen) → ((x : _) (o : _) → goal.F-post g l.wrap x o → see o ≡ shown x) →
      map see l.list.items ++ reverse (map shown l.kind.items) ≡ map see l.initial.list.items ++ reverse (map shown l.initial.kind.items);
  count : vec_len l.list + vec_len l.kind ≡ vec_len l.initial.list + vec_len l.initial.kind;
  room : vec_capacity l.list ≡ vec_capacity l.initial.list;
  kept : vec_capacity l.kind ≡ vec_capacity l.initial.kind;
  callable : goal.F-IsAlwaysCallable g l.wrap;
}

abbrev pub decreases-loop-object : goal.decreases-loop-object
decreases-loop-object g l = length l.kind.items
