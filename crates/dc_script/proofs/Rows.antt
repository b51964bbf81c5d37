-- A row of the grammar, by its words.
use Rattle.std.proofs.Common.{◌≡◌, ℕ, List, [], ◌∷◌, Result, Err, refl, ap}
use Rattle.dc_base.specs.declared.faults.TextKind.{TextKind}
use Rattle.dc_base.specs.ScriptText.{no_words, one_word, two_words, three_words}
use Rattle.dc_script.specs.Words.{IsMiscount}

-- another count of words
pub not_one : {X B : Type 0} (f : List ℕ → Result X TextKind) (make : X → B) (texts : List (List ℕ)) (kind : TextKind) → IsMiscount 1 texts kind → Err kind ≡ one_word f make texts
not_one f make [] kind miscount = ap Err miscount.wrong
not_one f make (u ∷ []) kind miscount = absurd (miscount.count refl)
not_one f make (u ∷ v ∷ texts) kind miscount = ap Err miscount.wrong

pub not_two : {X Y B : Type 0} (f : List ℕ → Result X TextKind) (g : List ℕ → Result Y TextKind) (make : X → Y → B) (texts : List (List ℕ)) (kind : TextKind) → IsMiscount 2 texts kind → Err kind ≡ two_words f g make texts
not_two f g make [] kind miscount = ap Err miscount.wrong
not_two f g make (u ∷ []) kind miscount = ap Err miscount.wrong
not_two f g make (u ∷ v ∷ []) kind miscount = absurd (miscount.count refl)
not_two f g make (u ∷ v ∷ w ∷ texts) kind miscount = ap Err miscount.wrong

pub not_three : {X Y Z B : Type 0} (f : List ℕ → Result X TextKind) (g : List ℕ → Result Y TextKind) (h : List ℕ → Result Z TextKind) (make : X → Y → Z → B) (texts : List (List ℕ)) (kind : TextKind) → IsMiscount 3 texts kind →
    Err kind ≡ three_words f g h make texts
not_three f g h make [] kind miscount = ap Err miscount.wrong
not_three f g h make (u ∷ []) kind miscount = ap Err miscount.wrong
not_three f g h make (u ∷ v ∷ []) kind miscount = ap Err miscount.wrong
not_three f g h make (u ∷ v ∷ w ∷ []) kind miscount = absurd (miscount.count refl)
not_three f g h make (u ∷ v ∷ w ∷ x ∷ texts) kind miscount = ap Err miscount.wrong

-- another count of words behind the first
pub not_none : {B : Type 0} (x : B) (texts : List (List ℕ)) (kind : TextKind) → IsMiscount 0 texts kind → Err kind ≡ no_words x texts
not_none x [] kind miscount = absurd (miscount.count refl)
not_none x (u ∷ texts) kind miscount = ap Err miscount.wrong

pub not_none_behind : {X B : Type 0} (f : List ℕ → Result X TextKind) (make : X → B) (u : List ℕ) (texts : List (List ℕ)) (kind : TextKind) → IsMiscount 0 texts kind → Err kind ≡ one_word f make (u ∷ texts)
not_none_behind f make u [] kind miscount = absurd (miscount.count refl)
not_none_behind f make u (v ∷ texts) kind miscount = ap Err miscount.wrong

pub not_one_behind : {X Y B : Type 0} (f : List ℕ → Result X TextKind) (g : List ℕ → Result Y TextKind) (make : X → Y → B) (u : List ℕ) (texts : List (List ℕ)) (kind : TextKind) → IsMiscount 1 texts kind →
    Err kind ≡ two_words f g make (u ∷ texts)
not_one_behind f g make u [] kind miscount = ap Err miscount.wrong
not_one_behind f g make u (v ∷ []) kind miscount = absurd (miscount.count refl)
not_one_behind f g make u (v ∷ w ∷ texts) kind miscount = ap Err miscount.wrong

pub not_two_behind : {X Y Z B : Type 0} (f : List ℕ → Result X TextKind) (g : List ℕ → Result Y TextKind) (h : List ℕ → Result Z TextKind) (make : X → Y → Z → B) (u : List ℕ) (texts : List (List ℕ)) (kind : TextKind) → IsMiscount 2 texts kind →
    Err kind ≡ three_words f g h make (u ∷ texts)
not_two_behind f g h make u [] kind miscount = ap Err miscount.wrong
not_two_behind f g h make u (v ∷ []) kind miscount = ap Err miscount.wrong
not_two_behind f g h make u (v ∷ w ∷ []) kind miscount = absurd (miscount.count refl)
not_two_behind f g h make u (v ∷ w ∷ x ∷ texts) kind miscount = ap Err miscount.wrong
