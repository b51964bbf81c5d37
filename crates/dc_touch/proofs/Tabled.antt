-- Turns that look at just what the table says of the entries that they make.
use Rattle.std.proofs.Common.{◌≡◌, ℕ, List, ◌++◌, Bool, true, false, Option, Some, None, sym, subst}
use Rattle.std.specs.Prelude.{slice_get, if◌then◌else◌}
use Rattle.std.specs.List.Sorted.{IsPermutation}
use Rattle.std.proofs.lemmas.List.{append-nil, append_assoc}
use Rattle.dc_base.specs.declared.kernels.Version.{Version}
use Rattle.dc_base.specs.declared.entries.Entry.{Entry}
use Rattle.dc_base.specs.declared.entries.What.{What}
use Rattle.dc_base.specs.declared.entries.Reason.{Reason}
use Rattle.dc_base.specs.States.{State, Core, Member}
use Rattle.dc_base.specs.Changes.{Name, Change}
use Rattle.dc_base.specs.Turns.{Outcome, did, not_enabled, spent, Turn, ends, outcome, looks}
use Rattle.dc_base.specs.Outcomes.{by_core, by_script, if_on, if_here, has}
use Rattle.dc_base.specs.CoreTouches.{core_touches}
use Rattle.dc_base.specs.ScriptTouches.{script_touches}
use Rattle.dc_base.specs.TouchTable.{touched_by_core, tabled_touches}

module _ (s : State) (chs : List Change) (e : Entry) where
  -- after looks at these, the turn looks at the rest of what the table says of the entry, if it makes that
  abbrev pub IsTabled : List Name → Turn → Type 0
  IsTabled ns turn = outcome s turn ≡ did chs e → IsPermutation (ns ++ looks s turn) (tabled_touches s e)

  pub refused : {C : Type 0} (r : Reason) → not_enabled r ≡ did chs e → C
  refused r h = absurd cc

  pub ran_out : {C : Type 0} → spent ≡ did chs e → C
  ran_out h = absurd cc

  -- an entry whose objects in the table are these
  pub made : (ns : List Name) (more : List Change) (x : Entry) → IsPermutation ns (tabled_touches s x) → IsTabled ns (ends (did more x))
  made ns more x p h =
      let same : x ≡ e = cc in
      subst (λ ms. IsPermutation ms (tabled_touches s e)) (sym (append-nil ns)) (subst (λ y. IsPermutation ns (tabled_touches s y)) same p)

  pub made_by_core : (c : ℕ) (k : Core) → slice_get s.cores c ≡ Some k → (ns : List Name) (more : List Change) (w : What) →
      IsPermutation ns (core_touches s c k w) → IsTabled ns (ends (did more (by_core c w)))
  made_by_core c k here ns more w p = made ns more (by_core c w) (subst (λ o. IsPermutation ns (touched_by_core s c o w)) (sym here) p)

  pub made_by_script : (ns : List Name) (more : List Change) (w : What) → IsPermutation ns (script_touches s.script w) → IsTabled ns (ends (did more (by_script w)))
  made_by_script ns more w p = made ns more (by_script w) p

  -- looks that were made before
  pub seen : (ns ms : List Name) (turn : Turn) → IsTabled (ns ++ ms) turn → outcome s turn ≡ did chs e → IsPermutation (ns ++ (ms ++ looks s turn)) (tabled_touches s e)
  seen ns ms turn t h = subst (λ xs. IsPermutation xs (tabled_touches s e)) (append_assoc ns ms (looks s turn)) (t h)

  pub either : (b : Bool) (ns : List Name) (x y : Turn) → IsTabled ns x → IsTabled ns y → IsTabled ns (if b then x else y)
  either true ns x y t u = t
  either false ns x y t u = u

  pub either_end : (b : Bool) (ns : List Name) (x y : Outcome) → IsTabled ns (ends x) → IsTabled ns (ends y) → IsTabled ns (ends (if b then x else y))
  either_end true ns x y t u = t
  either_end false ns x y t u = u

  pub when_on : (o : Option Version) (ns : List Name) (turn : Turn) → IsTabled ns turn → IsTabled ns (if_on o turn)
  when_on None ns turn t = refused _
  when_on (Some v) ns turn t = t

  pub when_here : (share : List Member) (b : ℕ) (ns : List Name) (turn : Turn) → IsTabled ns turn → IsTabled ns (if_here share b turn)
  when_here share b ns turn t = either (has share b) ns turn (ends (not_enabled _)) t (refused _)
