-- The links stand for a forest, as they change.
use Rattle.std.proofs.Common.{◌≡◌, ℕ, ◌<◌, List, [], ◌∷◌, Bool, true, false, Option, Some, None, refl, sym, ap, ◌∙◌, subst, arith, length, map}
use Rattle.std.specs.Prelude.{slice_index_or, slice_set, filter, IfSome, if◌then◌else◌}
use Rattle.dc_base.specs.Words.{is_number}
use Rattle.dc_base.proofs.EachLaws.{each_nil}
use Rattle.dc_mdb.specs.declared.links.Link.{Link}
use Rattle.dc_mdb.specs.declared.links.Link.TheVariants.{Absent, Root, Child}
use Rattle.dc_mdb.specs.Forests.{Node, has_slot, parent_at, with_node, with_parent, without_slot, without_descendants, descendants, IsForest}
use Rattle.dc_mdb.specs.Links.{nodes_of, link_to, link_parent, is_there, with_link}
use Rattle.dc_base.proofs.Ascending.{ascends_nil}
use Rattle.dc_mdb.proofs.Clearing.{out_below, is_none_of}
use Rattle.dc_mdb.proofs.Leaving.{removed_rooted}
use Rattle.dc_mdb.proofs.Linked.{slot_of, is_not, has_slot_links, parent_at_links, links_with_root, links_with_child, links_without, links_hung, links_ascend, links_below}
use Rattle.dc_mdb.proofs.Reaching.{pruned_rooted}
use Rattle.dc_mdb.proofs.Rooted.{IsRooted, rooted_of, put_rooted}

pub empty_forest : IsForest []
empty_forest = record { ascending = ascends_nil slot_of; below = each_nil (λ i (n : Node). n.0 < 256); parents = each_nil (λ i (n : Node). IfSome n.1 (λ p. has_slot [] p ≡ true)); roots = (λ s. s, each_nil (λ i (n : Node). IfSome n.1 (λ p. p < n.0))) }

abbrev Whole : List Link → Type 0
Whole links = length links ≡ 256

from_rooted : (links : List Link) → Whole links → IsRooted (nodes_of links) → IsForest (nodes_of links)
from_rooted links w r = record { ascending = links_ascend links; below = links_below links 256 (omega (arith, w)); parents = r.parents; roots = r.roots }

along : (links : List Link) (nodes : List Node) → Whole links → nodes_of links ≡ nodes → IsRooted nodes → IsForest (nodes_of links)
along links nodes w e r = from_rooted links w (subst IsRooted (sym e) r)

pub unused : (links : List Link) (s : ℕ) → has_slot (nodes_of links) s ≡ false → is_there (slice_index_or links s Absent) ≡ false
unused links s h = sym (has_slot_links links s) ∙ h

module _ (links : List Link) (f : IsForest (nodes_of links)) (s : ℕ) (within : s < length links) where
  pub root_is_put : has_slot (nodes_of links) s ≡ false → nodes_of (slice_set links s Root) ≡ with_node (s, None) (nodes_of links)
  root_is_put h = links_with_root links s within (unused links s h)

  pub root_forest : has_slot (nodes_of links) s ≡ false → Whole (slice_set links s Root) → IsForest (nodes_of (slice_set links s Root))
  root_forest h w = along (slice_set links s Root) (with_node (s, None) (nodes_of links)) w (root_is_put h) (put_rooted (nodes_of links) (rooted_of (nodes_of links) f) (s, None) h tt)

  pub child_is_put : (p : ℕ) → has_slot (nodes_of links) s ≡ false → nodes_of (slice_set links s (Child p)) ≡ with_node (s, Some p) (nodes_of links)
  child_is_put p h = links_with_child links s p within (unused links s h)

  pub child_forest : (p : ℕ) → has_slot (nodes_of links) s ≡ false → has_slot (nodes_of links) p ≡ true → Whole (slice_set links s (Child p)) → IsForest (nodes_of (slice_set links s (Child p)))
  child_forest p h u w = along (slice_set links s (Child p)) (with_node (s, Some p) (nodes_of links)) w (child_is_put p h) (put_rooted (nodes_of links) (rooted_of (nodes_of links) f) (s, Some p) h u)

-- a slot that goes

stays_apart : (s : ℕ) (o : Option ℕ) (n : Node) → is_not s (with_parent s o n) ≡ is_not s n
stays_apart s o n = by_test (is_number s n.1)
  where
    by_test : (t : Bool) → is_not s (if t then (n.0, o) else n) ≡ is_not s n
    by_test true = refl
    by_test false = refl

hung_then_out : (s : ℕ) (o : Option ℕ) (ns : List Node) → filter (is_not s) (map (with_parent s o) ns) ≡ map (with_parent s o) (filter (is_not s) ns)
hung_then_out s o [] = refl
hung_then_out s o (n ∷ ns) = ap (λ t. if t then with_parent s o n ∷ filter (is_not s) (map (with_parent s o) ns) else filter (is_not s) (map (with_parent s o) ns)) (stays_apart s o n) ∙ by_test (is_not s n) (hung_then_out s o ns)
  where
    by_test : (t : Bool) → filter (is_not s) (map (with_parent s o) ns) ≡ map (with_parent s o) (filter (is_not s) ns) →
        (if t then with_parent s o n ∷ filter (is_not s) (map (with_parent s o) ns) else filter (is_not s) (map (with_parent s o) ns)) ≡ map (with_parent s o) (if t then n ∷ filter (is_not s) ns else filter (is_not s) ns)
    by_test true e = ap (λ ms. with_parent s o n ∷ ms) e
    by_test false e = e

link_back : (l : Link) → is_there l ≡ true → l ≡ link_to (link_parent l)
link_back Absent h = absurd cc
link_back Root h = refl
link_back (Child p) h = refl

module _ (links : List Link) (f : IsForest (nodes_of links)) (s : ℕ) where
  abbrev moved : Link → List Link
  moved up = slice_set (map (with_link s up) links) s Absent

  pub slot_is_out : (up : Link) → up ≡ slice_index_or links s Absent → has_slot (nodes_of links) s ≡ true → nodes_of (moved up) ≡ without_slot s (nodes_of links)
  slot_is_out up e h =
      let o = parent_at (nodes_of links) s in
      let u : up ≡ link_to o = e ∙ link_back (slice_index_or links s Absent) (sym (has_slot_links links s) ∙ h) ∙ ap link_to (sym (parent_at_links links s)) in
      ap (λ l. nodes_of (moved l)) u ∙ links_without (map (with_link s (link_to o)) links) s ∙ ap (filter (is_not s)) (links_hung s o links) ∙ hung_then_out s o (nodes_of links)

  pub left_forest : (up : Link) → up ≡ slice_index_or links s Absent → has_slot (nodes_of links) s ≡ true → Whole (moved up) → IsForest (nodes_of (moved up))
  left_forest up e h w = along (moved up) (without_slot s (nodes_of links)) w (slot_is_out up e h) (removed_rooted s (nodes_of links) (rooted_of (nodes_of links) f))

-- all below a slot go
module _ (links left : List Link) (f : IsForest (nodes_of links)) (s : ℕ) (e : nodes_of left ≡ filter (is_none_of (descendants (nodes_of links) s)) (nodes_of links)) where
  pub below_is_out : nodes_of left ≡ without_descendants s (nodes_of links)
  below_is_out = e ∙ out_below (nodes_of links) s f

  pub pruned_forest : Whole left → IsForest (nodes_of left)
  pruned_forest w = along left (without_descendants s (nodes_of links)) w below_is_out (pruned_rooted s (nodes_of links) (rooted_of (nodes_of links) f))
