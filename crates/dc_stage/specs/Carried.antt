-- What a pass keeps beside its seat.
use Rattle.std.specs.Prelude.{◌≡◌, ℕ, ◌<◌, List, map, true}
use Rattle.atomic_table.specs.Seated.{TableId}
use Rattle.dc_stage.specs.Numbers.{has, IsApart, IsBelow}
use Rattle.dc_stage.specs.Pasts.{EachOwn}
use Rattle.dc_stage.specs.Steps.{At}
use Rattle.dc_stage.specs.Passes.{Known}
use Rattle.dc_stage.specs.declared.view.View.{View}

-- what contracts see of a pass, of its view
abbrev pub known_of : {Sc En : Type 0} → TableId → View Sc En → Known Sc En
known_of t v = record {
  table_id = t;
  scene = v.scene;
  actor = v.actor;
  seen = v.seen;
  holds = v.holds;
  took = v.took;
  refused = v.refused;
  first = v.first;
  made = v.made;
  joined = v.joined;
}

-- the numbers of the slots that a seat carries
abbrev pub keys : {X : Type 0} → List (ℕ × X) → List ℕ
keys c = map (λ x. x.0) c

-- the numbers held are those of the slots that the seat carries, in their order, and of n objects
pub record Carries (n : ℕ) (holds held carried : List ℕ) : Type 0 where
  pub keys : carried ≡ held
  pub same : (i : ℕ) → has i holds ≡ has i held
  pub apart : IsApart held
  pub below : IsBelow n held

-- what a pass keeps goes with its seat, and the first pass has room for all objects
pub record PassIsKept {Sc En Ob : Type 0} (n : ℕ) (me : At Sc En Ob) (actor made : ℕ) (held : List ℕ) (Room : ℕ → Type 0) : Type 0 where
  pub live : me.0.live ≡ true
  pub actor_is : me.0.actor ≡ actor
  pub small : actor < 64
  pub made_is : made ≡ me.0.made
  pub carries : Carries n me.0.holds held (keys me.1)
  pub joined : EachOwn me.0.joined me.0.seen
  pub room : me.0.first ≡ true → Room n
