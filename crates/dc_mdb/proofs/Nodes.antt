-- The slots of a forest: what stays as one is added.
use Rattle.std.proofs.Common.{◌≡◌, ℕ, zero, suc, List, [], ◌∷◌, Bool, true, false, Option, Some, None, refl, ap, ◌∙◌, subst}
use Rattle.std.specs.Prelude.{slice_get, nat_lt, ◌==◌, if◌then◌else◌, is_some}
use Rattle.dc_base.specs.Words.{Each}
use Rattle.dc_base.proofs.EachLaws.{each_cons}
use Rattle.dc_mdb.specs.Forests.{Node, node_at, has_slot, with_node}
use Rattle.dc_mdb.proofs.Elements.{same_is, is_same, In, in_later}

-- slots that are there

found_by : (x : Node) (xs : List Node) (p : ℕ) (h : Node) → (node_at xs p ≡ Some h → In xs h × (h.0 ≡ p)) → (t : Bool) → (x.0 == p) ≡ t → (if t then Some x else node_at xs p) ≡ Some h → In (x ∷ xs) h × (h.0 ≡ p)
found_by x xs p h more true q e = let same : x ≡ h = cc in ((0, e), subst (λ (v : Node). v.0 ≡ p) same (is_same x.0 p q))
found_by x xs p h more false q e = let w = more e in (in_later x xs h w.0, w.1)

pub node_found : (xs : List Node) (p : ℕ) (h : Node) → node_at xs p ≡ Some h → In xs h × (h.0 ≡ p)
node_found [] p h e = absurd cc
node_found (x ∷ xs) p h e = found_by x xs p h (λ g. node_found xs p h g) (x.0 == p) refl e

used_by : (x : Node) (xs : List Node) (p : ℕ) → is_some (node_at xs p) ≡ true → (t : Bool) → is_some (if t then Some x else node_at xs p) ≡ true
used_by x xs p h true = refl
used_by x xs p h false = h

pub there_used : (xs : List Node) (h : Node) (i : ℕ) → slice_get xs i ≡ Some h → has_slot xs h.0 ≡ true
there_used [] h i e = absurd cc
there_used (x ∷ xs) h zero e = let same : x ≡ h = cc in ap (λ t. is_some (if t then Some x else node_at xs h.0)) (ap (λ (v : Node). v.0 == h.0) same ∙ same_is h.0)
there_used (x ∷ xs) h (suc i) e = used_by x xs h.0 (there_used xs h i e) (x.0 == h.0)

-- the node of a slot that is there
pub record IsNode (nodes : List Node) (p : ℕ) (h : Node) : Type 0 where
  pub found : node_at nodes p ≡ Some h
  pub place : ℕ
  pub there : slice_get nodes place ≡ Some h
  pub slot_is : h.0 ≡ p

pub used_node : (nodes : List Node) (p : ℕ) → has_slot nodes p ≡ true → (h : Node) × IsNode nodes p h
used_node nodes p u = by_node (node_at nodes p) refl u
  where
    by_node : (o : Option Node) → node_at nodes p ≡ o → is_some o ≡ true → (h : Node) × IsNode nodes p h
    by_node None q u = absurd cc
    by_node (Some h) q u = let w = node_found nodes p h q in (h, record { found = q; place = w.0.0; there = w.0.1; slot_is = w.1 })

-- one node more

module _ (h : Node) where
  put_by : (k : Node) (ks : List Node) (P : Node → Type 0) → P h → Each (k ∷ ks) (λ i. P) → Each (with_node h ks) (λ i. P) → (t : Bool) → Each (if t then h ∷ k ∷ ks else k ∷ with_node h ks) (λ i. P)
  put_by k ks P p all more true = each_cons (λ i. P) h (k ∷ ks) p all
  put_by k ks P p all more false = each_cons (λ i. P) k (with_node h ks) (all 0 k refl) more

  pub each_put : (P : Node → Type 0) (nodes : List Node) → P h → Each nodes (λ i. P) → Each (with_node h nodes) (λ i. P)
  each_put P [] p all = each_cons (λ i. P) h [] p all
  each_put P (k ∷ ks) p all = put_by k ks P p all (each_put P ks p (λ i a e. all (suc i) a e)) (nat_lt h.0 k.0)

  pub still_in : (nodes : List Node) (g : Node) (i : ℕ) → slice_get nodes i ≡ Some g → In (with_node h nodes) g
  still_in [] g i e = absurd cc
  still_in (k ∷ ks) g zero e = by_test (nat_lt h.0 k.0)
    where
      by_test : (t : Bool) → In (if t then h ∷ k ∷ ks else k ∷ with_node h ks) g
      by_test true = (1, e)
      by_test false = (0, e)
  still_in (k ∷ ks) g (suc i) e = by_test (nat_lt h.0 k.0) (still_in ks g i e)
    where
      by_test : (t : Bool) → In (with_node h ks) g → In (if t then h ∷ k ∷ ks else k ∷ with_node h ks) g
      by_test true w = (suc (suc i), e)
      by_test false w = in_later k (with_node h ks) g w

  pub still_used : (nodes : List Node) (p : ℕ) → has_slot nodes p ≡ true → has_slot (with_node h nodes) p ≡ true
  still_used nodes p u =
      let w = used_node nodes p u in let g = still_in nodes w.0 w.1.place w.1.there in
      subst (λ q. has_slot (with_node h nodes) q ≡ true) w.1.slot_is (there_used (with_node h nodes) w.0 g.0 g.1)
