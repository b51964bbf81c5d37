-- The last of a line's words, and those behind a place.
use Rattle.std.proofs.Common.{◌≡◌, ℕ, suc, ◌-◌, List, [], ◌∷◌, length, take, drop, Option, Some, ap, sym, ◌∙◌, arith}
use Rattle.std.specs.Borrow.{Bor}
use Rattle.std.specs.Option.{option_copied}
use Rattle.std.specs.List.{slice_get}
use Rattle.std.proofs.lemmas.List.{take_all, length-drop, drop-map}
use Rattle.dc_base.specs.LooseWords.{last_word}
use Rattle.dc_journal.specs.Lines.{texts}

last_at : (words : List (Bor (List ℕ))) (w : Bor (List ℕ)) → slice_get words (length words - 1) ≡ Some w → w.now ≡ last_word (texts words)
last_at [] w e = absurd (cc e)
last_at (x ∷ []) w e = let same : w ≡ x = cc e in ap (λ (v : Bor (List ℕ)). v.now) same
last_at (x ∷ y ∷ words) w e =
    let k : length (x ∷ y ∷ words) - 1 ≡ suc (length (y ∷ words) - 1) = omega arith in
    last_at (y ∷ words) w (sym (ap (λ n. slice_get (x ∷ y ∷ words) n) k) ∙ e)

-- the word found at the last place is the last
pub last_found : (words : List (Bor (List ℕ))) (found : Option (Bor (Bor (List ℕ)))) (w : Bor (Bor (List ℕ))) → option_copied found ≡ slice_get words (length words - 1) → found ≡ Some w → w.now.now ≡ last_word (texts words)
last_found words found w e is = last_at words w.now (sym e ∙ ap option_copied is)

-- the texts behind a place are those of the words behind it
pub texts_behind : (words : List (Bor (List ℕ))) (n : ℕ) → texts (take (length words - n) (drop n words)) ≡ drop n (texts words)
texts_behind words n =
    ap texts (take_all (length words - n) (drop n words) (let e = length-drop n words in omega (arith, e)))
    ∙ sym (drop-map (λ (word : Bor (List ℕ)). word.now) n words)
