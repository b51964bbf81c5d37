-- Beginnings of lists.
use Rattle.std.proofs.Common.{◌≡◌, List, [], ◌∷◌, ◌++◌, length, sym, refl, ap, ap₂, ◌∙◌, arith, append_assoc, length-append}
use Rattle.std.proofs.lemmas.List.{append-nil}
use mathlib.Core.List.{IsPrefix}

module _ {A : Type 0} where
  pub prefix_same : (xs : List A) → IsPrefix xs xs
  prefix_same xs = ([], append-nil xs)

  pub prefix_through : (xs ys zs : List A) → IsPrefix xs ys → IsPrefix ys zs → IsPrefix xs zs
  prefix_through xs ys zs p q = (p.0 ++ q.0, sym (append_assoc xs p.0 q.0) ∙ (ap (λ t. t ++ q.0) p.1 ∙ q.1))

  none : (zs : List A) → length zs ≡ 0 → zs ≡ []
  none [] h = refl
  none (z ∷ zs) h = absurd (omega arith)

  -- a beginning that is as long is the whole
  pub prefix_whole : (xs ys : List A) → IsPrefix xs ys → length xs ≡ length ys → xs ≡ ys
  prefix_whole xs ys (zs, is) same =
      sym (append-nil xs)
      ∙ (ap (λ z. xs ++ z) (sym (none zs (let n = ap length is in let m = length-append xs zs in omega arith))) ∙ is)

  first_of : (x y : A) (xs ys : List A) → x ∷ xs ≡ y ∷ ys → x ≡ y
  first_of x y xs ys is = cc is

  rest_of : (x y : A) (xs ys : List A) → x ∷ xs ≡ y ∷ ys → xs ≡ ys
  rest_of x y xs ys is = cc is

  -- two lists of one length that begin two equal lists are the same
  begun : (xs ys us vs : List A) → xs ++ us ≡ ys ++ vs → length xs ≡ length ys → xs ≡ ys
  begun [] [] us vs is same = refl
  begun [] (y ∷ ys) us vs is same = absurd (omega arith)
  begun (x ∷ xs) [] us vs is same = absurd (omega arith)
  begun (x ∷ xs) (y ∷ ys) us vs is same =
      ap₂ (λ z zs. z ∷ zs) (first_of x y (xs ++ us) (ys ++ vs) is) (begun xs ys us vs (rest_of x y (xs ++ us) (ys ++ vs) is) (omega arith))

  pub prefix_both : (xs ys zs : List A) → IsPrefix xs zs → IsPrefix ys zs → length xs ≡ length ys → xs ≡ ys
  prefix_both xs ys zs (us, p) (vs, q) same = begun xs ys us vs (p ∙ sym q) same
