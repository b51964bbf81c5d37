-- The leaves of a ready list as it changes.
use Rattle.std.proofs.Common.{◌≡◌, ℕ, ◌+◌, ◌*◌, ◌<◌, Bool, true, false, cond, not, List, [], ◌∷◌, ◌++◌, length, sym, refl, ap, ◌∙◌, subst, arith}
use Rattle.std.specs.Prelude.{◌==◌, Option, Some, None, if◌then◌else◌}
use Rattle.std.proofs.Math.ListN.{replicate}
use Rattle.std.proofs.lemmas.List.{get_or-replicate}
use Rattle.std.proofs.lemmas.Bool.{eqb-true, eqb-false, eq-eqb, ne_eqb, or_parts}
use Rattle.dc_base.specs.Words.{lists}
use Rattle.dc_ready.specs.Entries.{dispatchers, without_disp, IsReadyList}
use Rattle.dc_ready.specs.Heaps.{winner, node, leaf, IsHeap, IsHeapOf}
use Rattle.dc_ready.specs.declared.heaps.Candidate.{Candidate}
use Rattle.dc_ready.proofs.Listed.{once-push, once-without, without-absent}

abbrev candidate : ℕ → ℕ → Option Candidate
candidate d due = Some (record { due = due; number = d })

last : (k d due : ℕ) (b : Bool) → (d == k) ≡ b → cond b (candidate k due) None ≡ (if k == d then candidate d due else None)
last k d due true q = let e = eqb-true d k q in ap (λ n. candidate n due) (sym e) ∙ ap (λ b. cond b (candidate d due) None) (sym (eq-eqb k d (sym e)))
last k d due false q = ap (λ b. cond b (candidate d due) None) (sym (ne_eqb k d (λ e. eqb-false d k q (sym e))))

leaf-push : (k d due : ℕ) (es : List (ℕ × ℕ)) → lists (dispatchers es) d ≡ false → leaf k (es ++ (d, due) ∷ []) ≡ (if k == d then candidate d due else leaf k es)
leaf-push k d due [] h = last k d due (d == k) refl
leaf-push k d due (e ∷ es) h = by_test (leaf-push k d due es (or_parts (e.0 == d) (lists (dispatchers es) d) h).1) (or_parts (e.0 == d) (lists (dispatchers es) d) h).0 (e.0 == k) refl
  where
    by_test : leaf k (es ++ (d, due) ∷ []) ≡ (if k == d then candidate d due else leaf k es) → (e.0 == d) ≡ false → (b : Bool) → (e.0 == k) ≡ b → cond b (candidate k e.1) (leaf k (es ++ (d, due) ∷ [])) ≡ (if k == d then candidate d due else cond b (candidate k e.1) (leaf k es))
    by_test rest ne true q = ap (λ b. cond b (candidate d due) (candidate k e.1)) (sym (subst (λ n. (n == d) ≡ false) (eqb-true e.0 k q) ne))
    by_test rest ne false q = rest

leaf-without : (k d : ℕ) (es : List (ℕ × ℕ)) → leaf k (without_disp d es) ≡ (if k == d then None else leaf k es)
leaf-without k d [] = by_test (k == d)
  where
    by_test : (b : Bool) → ◌≡◌ {A = Option Candidate} None (cond b None None)
    by_test true = refl
    by_test false = refl
leaf-without k d (e ∷ es) = by_test (leaf-without k d es) (e.0 == d) refl (e.0 == k) refl
  where
    by_test : leaf k (without_disp d es) ≡ (if k == d then None else leaf k es) → (b : Bool) → (e.0 == d) ≡ b → (t : Bool) → (e.0 == k) ≡ t → leaf k (cond (not b) (e ∷ without_disp d es) (without_disp d es)) ≡ (if k == d then None else cond t (candidate k e.1) (leaf k es))
    by_test rest true q true s = let same = eq-eqb k d (sym (eqb-true e.0 k s) ∙ eqb-true e.0 d q) in rest ∙ (ap (λ b. cond b None (leaf k es)) same ∙ ap (λ b. cond b None (candidate k e.1)) (sym same))
    by_test rest true q false s = rest
    by_test rest false q true s =
        ap (λ b. cond b (candidate k e.1) (leaf k (without_disp d es))) s
        ∙ ap (λ b. cond b None (candidate k e.1)) (sym (subst (λ n. (n == d) ≡ false) (eqb-true e.0 k s) q))
    by_test rest false q false s = ap (λ b. cond b (candidate k e.1) (leaf k (without_disp d es))) s ∙ rest

abbrev empty : List (Option Candidate)
empty = replicate 32 None

pub empty-heap : (es : List (ℕ × ℕ)) → es ≡ [] → IsHeapOf (replicate 32 None) es
empty-heap es none = record {
  size = refl;
  heap = λ i lo hi.
      let at_i : node empty i ≡ None = get_or-replicate 32 i None None (omega arith) in
      let at_left : node empty (2 * i) ≡ None = get_or-replicate 32 (2 * i) None None (omega arith) in
      let at_right : node empty (2 * i + 1) ≡ None = get_or-replicate 32 (2 * i + 1) None None (omega arith) in
      at_i ∙ (sym at_right ∙ ap (λ o. winner o (node empty (2 * i + 1))) (sym at_left));
  leaves = λ d lt. let at_leaf : node empty (16 + d) ≡ None = get_or-replicate 32 (16 + d) None None (omega arith) in at_leaf ∙ ap (leaf d) (sym none);
  once = subst IsReadyList (sym none) tt;
}

module _ (old new : List (Option Candidate)) (es fs : List (ℕ × ℕ)) (is : IsHeapOf old es) (d : ℕ) (size : length new ≡ 32) (heap : IsHeap new) where
  pub heap-push : (due : ℕ) → fs ≡ es ++ (d, due) ∷ [] → d < 16 → lists (dispatchers es) d ≡ false → ((k : ℕ) → k < 16 → node new (16 + k) ≡ (if k == d then candidate d due else node old (16 + k))) → IsHeapOf new fs
  heap-push due same lt absent leaves = record {
    size = size;
    heap = heap;
    leaves = λ k small. leaves k small ∙ (ap (λ o. cond (k == d) (candidate d due) o) (is.leaves k small) ∙ (sym (leaf-push k d due es absent) ∙ ap (leaf k) (sym same)));
    once = subst IsReadyList (sym same) (once-push 16 d due es is.once lt absent);
  }

  pub heap-without : fs ≡ without_disp d es → ((k : ℕ) → k < 16 → node new (16 + k) ≡ (if k == d then None else node old (16 + k))) → IsHeapOf new fs
  heap-without same leaves = record {
    size = size;
    heap = heap;
    leaves = λ k small. leaves k small ∙ (ap (λ o. cond (k == d) None o) (is.leaves k small) ∙ (sym (leaf-without k d es) ∙ ap (leaf k) (sym same)));
    once = subst IsReadyList (sym same) (once-without 16 d es is.once);
  }

-- nothing goes
pub heap-same : (nodes : List (Option Candidate)) (es fs : List (ℕ × ℕ)) (d : ℕ) → IsHeapOf nodes es → fs ≡ without_disp d es → lists (dispatchers es) d ≡ false → IsHeapOf nodes fs
heap-same nodes es fs d is same absent = subst (IsHeapOf nodes) (sym (same ∙ without-absent d es absent)) is
