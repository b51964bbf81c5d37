-- What contracts see of a stage and of a pass.
use Rattle.std.specs.Prelude.{◌≡◌, ◌≢◌, ℕ, ◌+◌, ◌∷◌, List, [], length, Option, Some, Bool, true, false}
use mathlib.Core.Option.{some}
use lib.ListN.{get_elem?}
use Rattle.atomic_table.specs.Seated.{TableId}
use Rattle.dc_stage.specs.Numbers.{has_pair, without}
use Rattle.dc_stage.specs.History.{Log, own}
use Rattle.dc_stage.specs.Pasts.{took_by}
use Rattle.dc_stage.specs.declared.view.Past.{Past}

-- which stage it is, its scene, and how many objects and actors it has
pub record Setting (Sc : Type 0) : Type 0 where
  pub table_id : TableId
  pub scene : Sc
  pub objects : ℕ
  pub actors : ℕ

-- Which stage a pass is of, and its scene; its actor; the entries that it has seen, its own among them; the objects that it holds, and all that it ever took;
-- its refused takes, as pairs of an object and the actor that had it; whether it is the first, how many passes it made, itself counted, and those that were
-- joined to it.
pub record Known (Sc En : Type 0) : Type 0 where
  pub table_id : TableId
  pub scene : Option Sc
  pub actor : ℕ
  pub seen : Log En
  pub holds : List ℕ
  pub took : List ℕ
  pub refused : List (ℕ × ℕ)
  pub first : Bool
  pub made : ℕ
  pub joined : List (Past En)

module _ {Sc En : Type 0} where
  -- the pass is of this stage
  abbrev pub IsOf : Known Sc En → Setting Sc → Type 0
  IsOf k s = (k.table_id ≡ s.table_id) × (k.scene ≡ Some s.scene)

  -- the first pass of a stage, which has seen nothing
  abbrev pub first_of : Setting Sc → Known Sc En
  first_of s =
      record { table_id = s.table_id; scene = Some s.scene; actor = 0; seen = []; holds = []; took = []; refused = []; first = true; made = 1; joined = [] }

  -- it is the first pass, and all passes that it made were joined to it
  abbrev pub IsAlone : Known Sc En → Type 0
  IsAlone k = (k.first ≡ true) × (k.made ≡ length k.joined + 1)

  -- the same pass but for what it has seen
  abbrev pub having_seen : Known Sc En → Log En → Known Sc En
  having_seen k log = record k { seen = log }

  -- the same pass but for object i, which it takes, and what it has seen
  abbrev pub having_taken : Known Sc En → ℕ → Log En → Known Sc En
  having_taken k i log = record k { seen = log; holds = i ∷ k.holds; took = i ∷ k.took }

  -- the same pass but for a refused take of object i, which actor a had
  abbrev pub refused_by : Known Sc En → ℕ → ℕ → Known Sc En
  refused_by k i a = record k { refused = (i, a) ∷ k.refused }

  -- the same pass but for object i, which it holds no longer
  abbrev pub having_put : Known Sc En → ℕ → Known Sc En
  having_put k i = record k { holds = without i k.holds }

  -- the same pass but for one more that it made
  abbrev pub having_made : Known Sc En → Known Sc En
  having_made k = record k { made = k.made + 1 }

  -- the pass that it made: the next actor's, which has seen as much
  abbrev pub made_by : Known Sc En → Known Sc En
  made_by k =
      record {
        table_id = k.table_id;
        scene = k.scene;
        actor = k.made;
        seen = k.seen;
        holds = [];
        took = [];
        refused = [];
        first = false;
        made = 0;
        joined = [];
      }

  -- the pass as it is known when it ends
  abbrev pub past_of : Known Sc En → Past En
  past_of k = record { actor = k.actor; entries = own k.actor k.seen; took = k.took; refused = k.refused }

  -- the same pass but for one that was joined to it, and what it has seen
  abbrev pub having_joined : Known Sc En → Known Sc En → Log En → Known Sc En
  having_joined k u log = record k { seen = log; joined = past_of u ∷ k.joined }

  -- all passes of the stage, where the first is alone
  abbrev pub passes_of : Known Sc En → List (Past En)
  passes_of k = past_of k ∷ k.joined

  -- each refused take of each pass names another actor, whose pass ever took the object
  abbrev pub NamesTakers : Known Sc En → Type 0
  NamesTakers k = (n : ℕ) (x : Past En) → get_elem? (passes_of k) n ≡ some x
      → (i a : ℕ) → has_pair i a x.refused ≡ true → (a ≢ x.actor) × (took_by i a (passes_of k) ≡ true)
