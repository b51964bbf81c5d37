-- What the slots of a forest hold: a child that meets a range, and the slots of a line.
use Rattle.std.proofs.Common.{◌≡◌, ℕ, zero, suc, ◌+◌, ◌<◌, List, [], ◌∷◌, ◌++◌, Bool, true, false, Option, Some, None, refl, sym, ap, ◌∙◌, arith, length, map, take}
use Rattle.std.specs.Prelude.{slice_index, slice_index_or, slice_get, ◌==◌, ◌&&◌, ◌||◌, if◌then◌else◌, filter, fold}
use Rattle.std.specs.List.{list_any}
use Rattle.std.proofs.lemmas.List.{take_more, append-nil}
use Rattle.std.proofs.lemmas.List.Elements.{filter-append}
use Rattle.std.proofs.lemmas.List.Sums.{fold-append}
use Rattle.std.proofs.lemmas.Option.{slice_get-get_or}
use Rattle.dc_mdb.proofs.Elements.{map_there}
use Rattle.std.proofs.lemmas.Bool.Decides.{nat_tests}
use Rattle.std.proofs.lemmas.Bool.{or_parts, or_right}
use Rattle.dc_base.specs.declared.capabilities.Cap.{Cap}
use Rattle.dc_base.specs.Words.{Each, is_number}
use Rattle.dc_base.proofs.EachLaws.{each_first, each_rest}
use Rattle.dc_base.specs.Capabilities.{Seat, is_memory_within, has_child_within, is_of_line, slots_of_line, without_line, after_delete}
use Rattle.dc_mdb.specs.Forests.{Node, node_at, parent_at, parent_in, is_parent, without_slot, IsForest}
use Rattle.dc_mdb.proofs.Nodes.{there_used, used_node, node_found}
use Rattle.dc_caps.specs.Seats.{no_cap, seat_of, seats_of, line_slots, child_within}
use Rattle.dc_caps.specs.Tables.{IsWithin}
use Rattle.dc_caps.specs.declared.table.Table.TheInside.{Inside}
use Rattle.dc_caps.proofs.Seating.{deleted_seats}
use Rattle.dc_caps.proofs.Tabled.{deleted_within}

-- a node is found by its slot

same_node : (nodes : List Node) → IsForest nodes → (i j : ℕ) (m n : Node) → slice_get nodes i ≡ Some m → slice_get nodes j ≡ Some n → m.0 ≡ n.0 → m ≡ n
same_node nodes f i j m n d e q = by_order (i == j) refl
  where
    apart : (a b : ℕ) → (a == b) ≡ false → (a < b → ⊥) → (b < a → ⊥) → ⊥
    apart a b h l g = grind (arith, nat_tests)

    equal : (a b : ℕ) → (a == b) ≡ true → a ≡ b
    equal a b h = grind (arith, nat_tests)

    by_order : (t : Bool) → (i == j) ≡ t → m ≡ n
    by_order true h = let s : Some m ≡ Some n = sym d ∙ ap (slice_get nodes) (equal i j h) ∙ e in cc
    by_order false h = absurd (apart i j h (λ l. (let lt = f.ascending i j m n l d e in omega (arith, lt, q))) (λ l. (let lt = f.ascending j i n m l e d in omega (arith, lt, q))))

found_node : (nodes : List Node) → IsForest nodes → (i : ℕ) (n : Node) → slice_get nodes i ≡ Some n → node_at nodes n.0 ≡ Some n
found_node nodes f i n e =
    let w = used_node nodes n.0 (there_used nodes n i e) in
    w.1.found ∙ ap Some (same_node nodes f w.1.place i w.0 n w.1.there e w.1.slot_is)

module _ (caps : List Cap) where
  none_any : (p : Seat → Bool) (ns : List Node) → Each ns (λ i n. p (seat_of caps n) ≡ false) → list_any p (seats_of caps ns) ≡ false
  none_any p [] h = refl
  none_any p (n ∷ ns) h = ap (λ t. t || list_any p (seats_of caps ns)) (each_first (λ i n. p (seat_of caps n) ≡ false) n ns h) ∙ none_any p ns (each_rest (λ i n. p (seat_of caps n) ≡ false) n ns h)

  some_any : (p : Seat → Bool) (ns : List Node) (n : Node) (i : ℕ) → slice_get ns i ≡ Some n → p (seat_of caps n) ≡ true → list_any p (seats_of caps ns) ≡ true
  some_any p [] n i e h = absurd cc
  some_any p (m ∷ ms) n zero e h = let same : m ≡ n = cc in ap (λ t. t || list_any p (seats_of caps ms)) (ap (λ v. p (seat_of caps v)) same ∙ h)
  some_any p (m ∷ ms) n (suc i) e h = or_right (p (seat_of caps m)) (list_any p (seats_of caps ms)) (some_any p ms n i e h)

  module _ (nodes : List Node) (slot first words : ℕ) where
    abbrev meets_here : Seat → Bool
    meets_here h = is_number slot h.parent && is_memory_within first words h.cap.kind

    test_of : (n : Node) (k : ℕ) → node_at nodes k ≡ Some n → n.0 ≡ k → meets_here (seat_of caps n) ≡ child_within caps nodes slot first words k
    test_of n k e q =
        ap (λ o. is_number slot o && is_memory_within first words (slice_index_or caps n.0 no_cap).kind) (sym (ap parent_in e))
        ∙ ap (λ j. is_number slot (parent_at nodes k) && is_memory_within first words (slice_index_or caps j no_cap).kind) q

    pub no_child : IsForest nodes → ((k : ℕ) → k < 256 → child_within caps nodes slot first words k ≡ false) → has_child_within (seats_of caps nodes) slot first words ≡ false
    no_child f none = none_any meets_here nodes (λ i n e. (test_of n n.0 (found_node nodes f i n e) refl ∙ none n.0 (f.below i n e)))

    no_parent_here : (ns : List Node) → is_parent ns slot ≡ false → has_child_within (seats_of caps ns) slot first words ≡ false
    no_parent_here [] h = refl
    no_parent_here (n ∷ ns) h = let w = or_parts (is_number slot n.1) (is_parent ns slot) h in
        ap (λ t. (t && is_memory_within first words (slice_index_or caps n.0 no_cap).kind) || has_child_within (seats_of caps ns) slot first words) w.0 ∙ no_parent_here ns w.1

    pub no_parent : is_parent nodes slot ≡ false → has_child_within (seats_of caps nodes) slot first words ≡ false
    no_parent h = no_parent_here nodes h

    left_true : (a b : Bool) → (a && b) ≡ true → a ≡ true
    left_true true b h = refl
    left_true false b h = absurd cc

    pub a_child : (k : ℕ) → child_within caps nodes slot first words k ≡ true → has_child_within (seats_of caps nodes) slot first words ≡ true
    a_child k h = by_node (node_at nodes k) refl
      where
        by_node : (o : Option Node) → node_at nodes k ≡ o → has_child_within (seats_of caps nodes) slot first words ≡ true
        by_node None e = let z : false ≡ true = ap (λ o. is_number slot (parent_in o)) (sym e) ∙ left_true _ _ h in absurd cc
        by_node (Some n) e = let w = node_found nodes k n e in some_any meets_here nodes n w.0.0 w.0.1 (test_of n k e w.1 ∙ h)

  -- the slots of a line

  line_seats : (l : ℕ) (ns : List Node) → slots_of_line l (seats_of caps ns) ≡ line_slots l caps ns
  line_seats l [] = refl
  line_seats l (n ∷ ns) = by_test (is_of_line l (slice_index_or caps n.0 no_cap).kind) (line_seats l ns)
    where
      by_test : (t : Bool) → slots_of_line l (seats_of caps ns) ≡ line_slots l caps ns →
          map (λ (h : Seat). h.slot) (if t then seat_of caps n ∷ filter (λ (h : Seat). is_of_line l h.cap.kind) (seats_of caps ns) else filter (λ (h : Seat). is_of_line l h.cap.kind) (seats_of caps ns))
          ≡ (if t then n.0 ∷ line_slots l caps ns else line_slots l caps ns)
      by_test true e = ap (λ ss. n.0 ∷ ss) e
      by_test false e = e

  abbrev taken : List ℕ → List Node → List Node
  taken slots nodes = fold (λ nodes s. without_slot s nodes) nodes slots

  taken_seats : (slots : List ℕ) (nodes : List Node) → seats_of caps (taken slots nodes) ≡ fold (λ caps s. after_delete s caps) (seats_of caps nodes) slots
  taken_seats [] nodes = refl
  taken_seats (s ∷ ss) nodes = taken_seats ss (without_slot s nodes) ∙ ap (λ set. fold (λ caps s. after_delete s caps) set ss) (deleted_seats caps nodes s)

  pub given_seats : (l : ℕ) (nodes : List Node) → seats_of caps (taken (line_slots l caps nodes) nodes) ≡ without_line l (seats_of caps nodes)
  unfolding without_line
  given_seats l nodes = taken_seats (line_slots l caps nodes) nodes ∙ ap (fold (λ caps s. after_delete s caps) (seats_of caps nodes)) (sym (line_seats l nodes))

pub taken_within : (slots : List ℕ) (t : Inside) → IsWithin t → IsWithin (record t { forest = fold (λ nodes s. without_slot s nodes) t.forest slots })
taken_within [] t w = w
taken_within (s ∷ ss) t w = taken_within ss (record t { forest = without_slot s t.forest }) (deleted_within t w s)

-- one slot more is looked at
module _ (p : ℕ → Bool) (slots : List ℕ) (i : ℕ) (within : i < length slots) (init nodes : List Node) (before : nodes ≡ fold (λ nodes s. without_slot s nodes) init (filter p (take i slots))) where
  abbrev here : ℕ
  here = slice_index slots i

  looked : (t : Bool) → p here ≡ t → filter p (take (i + 1) slots) ≡ filter p (take i slots) ++ (if t then here ∷ [] else [])
  looked t e = ap (filter p) (take_more slots i 0 within) ∙ filter-append p (take i slots) (here ∷ []) ∙ ap (λ t. filter p (take i slots) ++ (if t then here ∷ [] else [])) e

  pub line_taken : p here ≡ true → (after : List Node) → after ≡ without_slot here nodes → after ≡ fold (λ nodes s. without_slot s nodes) init (filter p (take (i + 1) slots))
  line_taken e after h =
      h ∙ ap (without_slot here) before
      ∙ sym (fold-append (λ nodes s. without_slot s nodes) init (filter p (take i slots)) (here ∷ []))
      ∙ ap (fold (λ nodes s. without_slot s nodes) init) (sym (looked true e))

  pub line_passed : p here ≡ false → (after : List Node) → after ≡ nodes → after ≡ fold (λ nodes s. without_slot s nodes) init (filter p (take (i + 1) slots))
  line_passed e after h = h ∙ before ∙ ap (fold (λ nodes s. without_slot s nodes) init) (sym (looked false e ∙ append-nil (filter p (take i slots))))

pub slots_below : (nodes : List Node) → IsForest nodes → (slots : List ℕ) → slots ≡ map (λ (n : Node). n.0) nodes → (i : ℕ) → i < length slots → slice_index slots i < 256
slots_below nodes f slots e i l =
    let at : slice_get (map (λ (n : Node). n.0) nodes) i ≡ Some (slice_index slots i) = ap (λ ss. slice_get ss i) (sym e) ∙ slice_get-get_or slots i 0 l in
    let m = map_there (λ (n : Node). n.0) nodes i (slice_index slots i) at in
    let b = f.below i m.0 m.1 in let q = m.2 in
    omega (arith, b, q)
