-- Sums over the words and consoles that are left.
use Rattle.std.proofs.Common.{◌≡◌, ◌<◌, ℕ, ◌+◌, ◌*◌, List, [], ◌∷◌, ◌++◌, Some, None, sym, ap, ◌∙◌, arith, length, drop, length-append}
use Rattle.std.specs.Prelude.{◌%◌, ◌/◌, ◌^◌, slice_get, sum, flat_map, fold}
use Rattle.std.proofs.Math.Nat.{mod-add-div, add-mul-mod_self_left}
use Rattle.std.proofs.lemmas.Option.{slice_get-get_or}
use Rattle.dc_play.proofs.Playing.{drop-next}

pub mod_plus : (a b m : ℕ) → (a % m + b) % m ≡ (a + b) % m
mod_plus a b m =
    sym (ap (λ (x : ℕ). (x + b) % m) (sym (mod-add-div a m))
    ∙ ap (λ (x : ℕ). x % m) (regroup (a % m) (m * (a / m)) b)
    ∙ add-mul-mod_self_left (a % m + b) m (a / m))
  where
    regroup : (x t b : ℕ) → (x + t) + b ≡ (x + b) + t
    regroup x t b = omega arith

fold_from : (a : ℕ) (xs : List ℕ) → fold ◌+◌ a xs ≡ a + sum xs
fold_from a [] = omega arith
fold_from a (x ∷ xs) = fold_from (a + x) xs ∙ regroup a x (sum xs) ∙ ap (λ (n : ℕ). a + n) (sym (fold_from (0 + x) xs))
  where
    regroup : (a b c : ℕ) → (a + b) + c ≡ a + ((0 + b) + c)
    regroup a b c = omega arith

sum-cons : (x : ℕ) (xs : List ℕ) → sum (x ∷ xs) ≡ x + sum xs
sum-cons x xs = fold_from (0 + x) xs ∙ omega arith

-- a word more, and the others after it
pub word_added : (total w whole : ℕ) (words : List ℕ) (i : ℕ) → slice_get words i ≡ Some w → (total + sum (drop i words)) % 2 ^ 32 ≡ whole →
    ((total + w) % 2 ^ 32 + sum (drop (i + 1) words)) % 2 ^ 32 ≡ whole
word_added total w whole words i e h =
    mod_plus (total + w) (sum (drop (i + 1) words)) (2 ^ 32)
    ∙ ap (λ (x : ℕ). x % 2 ^ 32) (regroup total w (sum (drop (i + 1) words)))
    ∙ ap (λ (n : ℕ). (total + n) % 2 ^ 32) (sym (ap sum (drop-next words i w e) ∙ sum-cons w (drop (i + 1) words))) ∙ h
  where
    regroup : (a b c : ℕ) → (a + b) + c ≡ a + (b + c)
    regroup a b c = omega arith

sum-append : (xs ys : List ℕ) → sum (xs ++ ys) ≡ sum xs + sum ys
sum-append [] ys = omega arith
sum-append (x ∷ xs) ys = sum-cons x (xs ++ ys) ∙ ap (λ (n : ℕ). x + n) (sum-append xs ys) ∙ sym (ap (λ (n : ℕ). n + sum ys) (sum-cons x xs) ∙ regroup x (sum xs) (sum ys))
  where
    regroup : (a b c : ℕ) → (a + b) + c ≡ a + (b + c)
    regroup a b c = omega arith

-- the words of these consoles
abbrev pub words_in : List (List ℕ) → List ℕ
words_in consoles = flat_map (λ ws. ws) consoles

next_words : (consoles : List (List ℕ)) (i : ℕ) (ws : List ℕ) → slice_get consoles i ≡ Some ws → words_in (drop i consoles) ≡ ws ++ words_in (drop (i + 1) consoles)
next_words consoles i ws e = ap words_in (drop-next consoles i ws e)

-- the words of a console more are counted
pub words_counted : (count whole : ℕ) (consoles : List (List ℕ)) (i : ℕ) (ws : List ℕ) → slice_get consoles i ≡ Some ws → count + length (words_in (drop i consoles)) ≡ whole →
    (count + length ws) + length (words_in (drop (i + 1) consoles)) ≡ whole
words_counted count whole consoles i ws e h = let a = ap length (next_words consoles i ws e) ∙ length-append ws (words_in (drop (i + 1) consoles)) in omega (arith, a, h)

-- the words of a console more are added
pub words_added : (before total whole : ℕ) (consoles : List (List ℕ)) (i : ℕ) (ws : List ℕ) → slice_get consoles i ≡ Some ws → (before + sum (words_in (drop i consoles))) % 2 ^ 32 ≡ whole →
    total ≡ (before + sum ws) % 2 ^ 32 → (total + sum (words_in (drop (i + 1) consoles))) % 2 ^ 32 ≡ whole
words_added before total whole consoles i ws e h t =
    ap (λ (x : ℕ). (x + sum (words_in (drop (i + 1) consoles))) % 2 ^ 32) t
    ∙ mod_plus (before + sum ws) (sum (words_in (drop (i + 1) consoles))) (2 ^ 32)
    ∙ ap (λ (x : ℕ). x % 2 ^ 32) (regroup before (sum ws) (sum (words_in (drop (i + 1) consoles))))
    ∙ ap (λ (x : ℕ). (before + x) % 2 ^ 32) (sym (ap sum (next_words consoles i ws e) ∙ sum-append ws (words_in (drop (i + 1) consoles)))) ∙ h
  where
    regroup : (a b c : ℕ) → (a + b) + c ≡ a + (b + c)
    regroup a b c = omega arith

-- a word before the end is there
pub not_past : (words : List ℕ) (i : ℕ) → i < length words → slice_get words i ≡ None → ⊥
not_past words i h e = let k = sym (slice_get-get_or words i 0 h) ∙ e in cc
