-- Lists that a loop builds from the front of another, element by element.
use Rattle.std.proofs.Common.{◌≡◌, ℕ, suc, ◌+◌, ◌-◌, ◌<◌, ◌≤◌, List, [], ◌∷◌, ◌++◌, length, take, get_or, replicate, refl, sym, ap, ◌∙◌, arith}
use Rattle.std.proofs.lemmas.List.{length-map, length-take-le, map-append, take_more, take_all}
use Rattle.dc_base.specs.declared.images.DispImage.{DispImage}
use Rattle.dc_base.specs.declared.numbers.DispNo.{DispNo}
use Rattle.dc_base.specs.Parts.{whole_memory}
use Rattle.dc_ready.specs.Entries.{entry_of, entries_of}
use Rattle.dc_kcb.specs.Starts.{dues_from}

dues_end : (n : ℕ) (is : List DispImage) (x : DispImage) → dues_from n (is ++ x ∷ []) ≡ dues_from n is ++ (n + length is, x.due) ∷ []
dues_end n [] x = let z : n ≡ n + 0 = omega arith in ap (λ m. (m, x.due) ∷ []) z
dues_end n (i ∷ is) x =
    let z : (n + 1) + length is ≡ n + suc (length is) = omega arith in
    ap (λ es. (n, i.due) ∷ es) (dues_end (n + 1) is x ∙ ap (λ m. dues_from (n + 1) is ++ (m, x.due) ∷ []) z)

dues_length : (n : ℕ) (is : List DispImage) → length (dues_from n is) ≡ length is
dues_length n [] = refl
dues_length n (i ∷ is) = ap suc (dues_length (n + 1) is)

-- one more is ready
pub ready_more : (is : List DispImage) (i : ℕ) (d : DispImage) (es fs : List (DispNo × ℕ)) → entries_of es ≡ dues_from 0 (take i is) → i < length is → fs ≡ es ++ (record { 0 = i }, (get_or is i d).due) ∷ [] → entries_of fs ≡ dues_from 0 (take (i + 1) is)
ready_more is i d es fs e lt same =
    let z : 0 + length (take i is) ≡ i = let l = length-take-le i is (omega arith) in omega (arith, l) in
    ap entries_of same ∙ (map-append entry_of es ((record { 0 = i }, (get_or is i d).due) ∷ []) ∙ (ap (λ zs. zs ++ (i, (get_or is i d).due) ∷ []) e
    ∙ sym (ap (dues_from 0) (take_more is i d lt) ∙ (dues_end 0 (take i is) (get_or is i d) ∙ ap (λ m. dues_from 0 (take i is) ++ (m, (get_or is i d).due) ∷ []) z))))

pub ready_length : (is : List DispImage) (i : ℕ) (es : List (DispNo × ℕ)) → entries_of es ≡ dues_from 0 (take i is) → i ≤ length is → length es ≡ i
ready_length is i es e le = sym (length-map es entry_of) ∙ (ap length e ∙ (dues_length 0 (take i is) ∙ length-take-le i is le))

-- a memory that was filled with 0 behind its words
pub filled_words : (words memory : List ℕ) (n : ℕ) → memory ≡ words → n ≡ length words → length words ≤ 4096 → take 4096 memory ++ replicate (4096 - n) 0 ≡ whole_memory words
filled_words words memory n same same_length within =
    ap (λ (xs : List ℕ). take 4096 xs ++ replicate (4096 - n) 0) same
    ∙ (ap (λ (xs : List ℕ). xs ++ replicate (4096 - n) 0) (take_all 4096 words within)
    ∙ ap (λ (k : ℕ). words ++ replicate (4096 - k) 0) same_length)
