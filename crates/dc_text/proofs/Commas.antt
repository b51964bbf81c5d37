-- Numbers with commas between them.
use Rattle.std.proofs.Common.{◌≡◌, ℕ, ◌-◌, ◌≤◌, List, [], ◌∷◌, ◌++◌, length, take, drop, get_or, map, decimal, refl, ap, sym, ◌∙◌, append-nil, arith}
use Rattle.std.proofs.Math.Seq.{take-length}
use mathlib.Core.List.{append_assoc}
use Rattle.dc_base.specs.TextWords.{add_word, comma_list}
use Rattle.dc_text.specs.Lines.{behind_commas}

-- a list that is not empty is its first number, and the others behind commas
pub comma_list-cons : (n : ℕ) (ns : List ℕ) → comma_list (n ∷ ns) ≡ decimal n ++ behind_commas ns
comma_list-cons n [] = sym (append-nil (decimal n))
comma_list-cons n (m ∷ ns) = ap (λ text. decimal n ++ (44 ∷ text)) (comma_list-cons m ns)

-- the first of some items, and the others behind commas
pub first_and_others : {T : Type 0} (number : T → ℕ) (items : List T) (d : T) (n : ℕ) → 1 ≤ length items → n ≡ number (get_or items 0 d) →
    comma_list (map number items) ≡ decimal n ++ behind_commas (map number (take (length items - 1) (drop 1 items)))
first_and_others number [] d n some named = absurd (omega (arith, some))
first_and_others number (x ∷ xs) d n some named =
    let one : length (x ∷ xs) - 1 ≡ length xs = omega arith in
    let others : take (length (x ∷ xs) - 1) (drop 1 (x ∷ xs)) ≡ xs = ap (λ k. take k xs) one ∙ take-length xs in
    comma_list-cons (number x) (map number xs)
    ∙ ap (λ m. decimal m ++ behind_commas (map number xs)) (sym named)
    ∙ ap (λ ys. decimal n ++ behind_commas (map number ys)) (sym others)

-- a word in two pieces
pub add_word-append : (line word more : List ℕ) → add_word line word ++ more ≡ add_word line (word ++ more)
add_word-append [] word more = refl
add_word-append (b ∷ line) word more = append_assoc (b ∷ line) (32 ∷ word) more
