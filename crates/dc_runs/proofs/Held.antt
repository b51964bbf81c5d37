-- Objects that are those of a list, place by place.
use Rattle.std.proofs.Common.{◌≡◌, ℕ, suc, List, [], ◌∷◌, Some, refl, ap, ◌∙◌, map, length, arith}
use Rattle.std.specs.Prelude.{slice_get}
use mathlib.Core.Option.{some}
use lib.ListN.{get_elem?}
use Rattle.dc_base.specs.Changes.{Object}
use Rattle.dc_scene.specs.declared.objects.Object.{Object as Held}
use Rattle.dc_scene.specs.Objects.{object_seen}

both_same : (x y : Object) (xs ys : List Object) → x ≡ y → xs ≡ ys → x ∷ xs ≡ y ∷ ys
both_same x y xs ys h k = ap (λ (z : Object). z ∷ xs) h ∙ ap (λ zs. y ∷ zs) k

-- as many objects as the list has, each as it is there, are the list
pub held_list : {D : Type 0} (held : List (Held D)) (os : List Object) → length held ≡ length os →
    ((i : ℕ) (x : Held D) → get_elem? held i ≡ some x → Some (object_seen x) ≡ slice_get os i) → map object_seen held ≡ os
held_list [] [] n h = refl
held_list [] (o ∷ os) n h = absurd (omega (arith, n))
held_list (x ∷ held) [] n h = absurd (omega (arith, n))
held_list (x ∷ held) (o ∷ os) n h =
    let first : Some (object_seen x) ≡ Some o = h 0 x refl in
    let same : object_seen x ≡ o = cc in
    let more : map object_seen held ≡ os = held_list held os (omega (arith, n)) (λ i y e. h (suc i) y e) in
    both_same (object_seen x) o (map object_seen held) os same more
