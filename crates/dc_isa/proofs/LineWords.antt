-- The statement of a line's words.
use Rattle.std.proofs.Common.{◌≡◌, ℕ, true, false, List, [], ◌∷◌, ap, ◌∙◌}
use Rattle.std.specs.Prelude.{if◌then◌else◌}
use Rattle.dc_base.specs.ProgramText.{label, instruction, statement, ends_in_colon, without_last}

pub plain_word : (words : List (List ℕ)) (word : List ℕ) (rest : List (List ℕ)) → words ≡ word ∷ rest → ends_in_colon word ≡ false → statement words ≡ instruction word rest
plain_word words word [] is e = ap statement is ∙ ap (λ t. if t then label (without_last word) else instruction word []) e
plain_word words word (w ∷ rest) is e = ap statement is

pub more_words : (words : List (List ℕ)) (word next : List ℕ) (rest further : List (List ℕ)) → words ≡ word ∷ rest → rest ≡ next ∷ further → statement words ≡ instruction word rest
more_words words word next [] further is e = absurd (cc e)
more_words words word next (w ∷ rest) further is e = ap statement is

pub label_alone : (words : List (List ℕ)) (word : List ℕ) (rest : List (List ℕ)) → words ≡ word ∷ rest → rest ≡ [] → ends_in_colon word ≡ true → statement words ≡ label (without_last word)
label_alone words word rest is none e = ap statement (is ∙ ap (λ r. word ∷ r) none) ∙ ap (λ t. if t then label (without_last word) else instruction word []) e
