-- Labels by name, in a map and in a list.
use Rattle.std.proofs.Common.{◌≡◌, ℕ, Bool, true, false, cond, List, [], ◌∷◌, map, Some, refl, ap, sym, ◌∙◌, ◌⊎◌, inl, inr, if◌then◌else◌, min, ◌||◌, is_some}
use Rattle.std.specs.List.{list_any}
use Rattle.std.specs.Prelude.{find, bytes_eq}
use Rattle.std.specs.Option.{option_map}
use Rattle.std.specs.Borrow.{Bor}
use Rattle.std.specs.BTreeMap.{BTreeMap, is_at, get_by, UpdatesBy}
use Rattle.std.specs.Map.{lookup}
use Rattle.std.specs.Cmp.Lexicographic.{slice_cmp}
use Rattle.std.specs.Ordering.{nat_cmp}
use Rattle.std.proofs.lemmas.Map.Text.{is_eq-slice_cmp, btree_map_updates_str}
use Rattle.std.proofs.lemmas.Slice.Eq.{bytes_eq-Decides}
use Rattle.std.proofs.lemmas.Bool.{cases_Bool}
use Rattle.dc_base.specs.ProgramText.{Label, place_of}
use Rattle.dc_isa.specs.Labels.{capped}

-- the same bytes, whichever stand first
pub bytes_eq-comm : (xs ys : List ℕ) → bytes_eq xs ys ≡ bytes_eq ys xs
bytes_eq-comm xs ys = go (cases_Bool (bytes_eq xs ys)) (cases_Bool (bytes_eq ys xs))
  where
    go : (bytes_eq xs ys ≡ true) ⊎ (bytes_eq xs ys ≡ false) → (bytes_eq ys xs ≡ true) ⊎ (bytes_eq ys xs ≡ false) → bytes_eq xs ys ≡ bytes_eq ys xs
    go (inl e) (inl f) = e ∙ sym f
    go (inr e) (inr f) = e ∙ sym f
    go (inl e) (inr f) = e ∙ sym ((bytes_eq-Decides ys xs).1 (sym ((bytes_eq-Decides xs ys).0 e)))
    go (inr e) (inl f) = (bytes_eq-Decides xs ys).1 (sym ((bytes_eq-Decides ys xs).0 f)) ∙ sym f

abbrev pub label_of : Bor (List ℕ) × ℕ → Label
label_of e = (e.0.now, e.1)

abbrev finds : List ℕ → Bor (List ℕ) → Bool
finds q = is_at (λ (k : Bor (List ℕ)). slice_cmp nat_cmp q k.now)

pub place_of-entries : (es : List (Bor (List ℕ) × ℕ)) (q : List ℕ) → place_of (map label_of es) q ≡ lookup (finds q) es
place_of-entries [] q = refl
place_of-entries (e ∷ es) q =
    ap (λ t. option_map (λ (l : Label). l.1) (cond t (Some (label_of e)) (find (λ (l : Label). bytes_eq l.0 q) (map label_of es)))) (bytes_eq-comm e.0.now q ∙ sym (is_eq-slice_cmp q e.0.now))
    ∙ elim (finds q e.0) as (λ t. option_map (λ (l : Label). l.1) (cond t (Some (label_of e)) (find (λ (l : Label). bytes_eq l.0 q) (map label_of es))) ≡ cond t (Some e.1) (lookup (finds q) es)) [
      | true ↦ refl
      | false ↦ place_of-entries es q
    ]

pub place_of-get : (m : BTreeMap (Bor (List ℕ)) ℕ) (q : List ℕ) → get_by (λ (k : Bor (List ℕ)). slice_cmp nat_cmp q k.now) m ≡ place_of (map label_of m.entries) q
place_of-get m q = sym (place_of-entries m.entries q)

-- after a label is defined
pub place_of-updated : (name : List ℕ) (place : ℕ) (m n : BTreeMap (Bor (List ℕ)) ℕ) →
    UpdatesBy (λ (x y : Bor (List ℕ)). slice_cmp nat_cmp x.now y.now) (λ (k : Bor (List ℕ)). slice_cmp nat_cmp name k.now) m n (Some place) →
    (q : List ℕ) → place_of (map label_of n.entries) q ≡ (if bytes_eq name q then Some place else place_of (map label_of m.entries) q)
place_of-updated name place m n u q =
    sym (place_of-get n q) ∙ btree_map_updates_str name m n (Some place) u q ∙ ap (λ p. if bytes_eq name q then Some place else p) (place_of-get m q)

pub place_of_capped : (labels : List Label) (q : List ℕ) → place_of (capped labels) q ≡ option_map (λ p. min p 1025) (place_of labels q)
place_of_capped [] q = refl
place_of_capped (l ∷ ls) q = elim (bytes_eq l.0 q) as (λ t. option_map (λ (l : Label). l.1) (cond t (Some (l.0, min l.1 1025)) (find (λ (l : Label). bytes_eq l.0 q) (capped ls)))
    ≡ option_map (λ p. min p 1025) (option_map (λ (l : Label). l.1) (cond t (Some l) (find (λ (l : Label). bytes_eq l.0 q) ls)))) [
      | true ↦ refl
      | false ↦ place_of_capped ls q
    ]

-- the names of labels are those that have a place
names-placed : (es : List (Bor (List ℕ) × ℕ)) (q : List ℕ) → list_any (bytes_eq q) (map (λ (e : Bor (List ℕ) × ℕ). e.0.now) es) ≡ is_some (place_of (map label_of es) q)
names-placed [] q = refl
names-placed (e ∷ es) q =
    ap (λ t. t || list_any (bytes_eq q) (map (λ (e : Bor (List ℕ) × ℕ). e.0.now) es)) (bytes_eq-comm q e.0.now)
    ∙ ap (λ t. bytes_eq e.0.now q || t) (names-placed es q)
    ∙ elim (bytes_eq e.0.now q) as (λ t. (t || is_some (place_of (map label_of es) q)) ≡ is_some (option_map (λ (l : Label). l.1) (cond t (Some (label_of e)) (find (λ (l : Label). bytes_eq l.0 q) (map label_of es))))) [
      | true ↦ refl
      | false ↦ refl
    ]

pub names-get : (m : BTreeMap (Bor (List ℕ)) ℕ) (q : List ℕ) → is_some (get_by (λ (k : Bor (List ℕ)). slice_cmp nat_cmp q k.now) m) ≡ list_any (bytes_eq q) (map (λ (e : Bor (List ℕ) × ℕ). e.0.now) m.entries)
names-get m q = ap is_some (place_of-get m q) ∙ sym (names-placed m.entries q)

-- after a label is defined its name is among the names
pub names-updated : (name : List ℕ) (place : ℕ) (m n : BTreeMap (Bor (List ℕ)) ℕ) →
    UpdatesBy (λ (x y : Bor (List ℕ)). slice_cmp nat_cmp x.now y.now) (λ (k : Bor (List ℕ)). slice_cmp nat_cmp name k.now) m n (Some place) →
    (q : List ℕ) → list_any (bytes_eq q) (map (λ (e : Bor (List ℕ) × ℕ). e.0.now) n.entries) ≡ (bytes_eq q name || list_any (bytes_eq q) (map (λ (e : Bor (List ℕ) × ℕ). e.0.now) m.entries))
names-updated name place m n u q =
    names-placed n.entries q ∙ ap is_some (place_of-updated name place m n u q)
    ∙ elim (bytes_eq name q) as (λ t. is_some (if t then Some place else place_of (map label_of m.entries) q) ≡ (t || is_some (place_of (map label_of m.entries) q))) [ true ↦ refl | false ↦ refl ]
    ∙ ap (λ t. t || is_some (place_of (map label_of m.entries) q)) (bytes_eq-comm name q) ∙ ap (λ t. bytes_eq q name || t) (sym (names-placed m.entries q))
