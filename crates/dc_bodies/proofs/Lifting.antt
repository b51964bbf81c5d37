-- Lists from which an element was lifted.
use Rattle.std.proofs.Common.{◌≡◌, ◌⊎◌, ℕ, ◌+◌, ◌-◌, ◌<◌, List, [], ◌∷◌, ◌++◌, sym, ap, ◌∙◌, subst, arith, length, get_or, inl, inr, take}
use Rattle.std.specs.Prelude.{slice_set}
use Rattle.std.specs.List.{swap_remove, SwappedAt}
use Rattle.std.proofs.Math.Seq.{get_or-append_seam}
use Rattle.std.proofs.lemmas.List.{length-set, length-take-le, get_or-take, get_or-set_same, get_or-set_other, get_or_append_left, ext_get_or}
use Rattle.std.proofs.lemmas.Option.{slice_get-get_or}
use Rattle.dc_block_sound.proofs.Elements.{same_or_not}
use Rattle.dc_bodies.specs.Slots.{lifted, with_at}

module _ {T : Type 0} where
  pub lifted_is : (xs : List T) (i : ℕ) (d : T) → i < length xs → lifted xs i ≡ swap_remove xs i d
  lifted_is xs i d h = ap (λ o. take (length xs - 1) (with_at xs i o)) (slice_get-get_or xs (length xs - 1) d (omega (arith, h)))

  pub length_lifted : (xs : List T) (i : ℕ) (d : T) → i < length xs → length (lifted xs i) + 1 ≡ length xs
  length_lifted xs i d h =
      let e = ap length (lifted_is xs i d h) in
      let n = length-set xs i (get_or xs (length xs - 1) d) in
      let t = length-take-le (length xs - 1) (slice_set xs i (get_or xs (length xs - 1) d)) (omega (arith, n)) in
      omega (arith, e, t, h)

  -- below the last place stands what the list has with its last element at place i
  lifted_at : (xs : List T) (i k : ℕ) (d : T) → i < length xs → k + 1 < length xs → get_or (lifted xs i) k d ≡ get_or (slice_set xs i (get_or xs (length xs - 1) d)) k d
  lifted_at xs i k d h w = ap (λ ys. get_or ys k d) (lifted_is xs i d h) ∙ get_or-take (length xs - 1) (slice_set xs i (get_or xs (length xs - 1) d)) k d (omega (arith, w))

  module _ (ys zs whole : List T) (i last : ℕ) (x : T) (h : i < length whole) (e : ys ≡ lifted whole i) (l : last ≡ length ys) (sw : SwappedAt (ys ++ x ∷ []) zs i last) where
    before : length ys + 1 ≡ length whole
    before = ap (λ zs. length zs + 1) e ∙ length_lifted whole i x h

    -- what stood there before the element was put down
    stood : (k : ℕ) → k < length ys → get_or (ys ++ x ∷ []) k x ≡ get_or (slice_set whole i (get_or whole (length whole - 1) x)) k x
    stood k w = get_or_append_left ys (x ∷ []) x k w ∙ (ap (λ us. get_or us k x) e ∙ lifted_at whole i k x h (let b = before in omega (arith, b, w)))

    here : get_or zs i x ≡ get_or (slice_set whole i x) i x
    here = sw.0 x ∙ (subst (λ n. get_or (ys ++ x ∷ []) n x ≡ x) (sym l) (get_or-append_seam ys x [] x) ∙ sym (get_or-set_same whole i x x h))

    at_last : (i ≡ last → ⊥) → get_or zs last x ≡ get_or (slice_set whole i x) last x
    at_last n =
        let b = before in
        let end : last ≡ length whole - 1 = omega (arith, b, l) in
        sw.1 x ∙ (stood i (omega (arith, b, l, h, n)) ∙ (get_or-set_same whole i (get_or whole (length whole - 1) x) x h ∙ (ap (λ n. get_or whole n x) (sym end) ∙ sym (get_or-set_other whole i last x x (λ q. n (sym q))))))

    elsewhere : (k : ℕ) → k < length whole → (k ≡ i → ⊥) → (k ≡ last → ⊥) → get_or zs k x ≡ get_or (slice_set whole i x) k x
    elsewhere k w n m =
        let b = before in
        sw.2 k x n m ∙ (stood k (omega (arith, b, l, w, m)) ∙ (get_or-set_other whole i k (get_or whole (length whole - 1) x) x n ∙ sym (get_or-set_other whole i k x x n)))

    at_place : (k : ℕ) → k < length whole → (k ≡ i) ⊎ (k ≡ i → ⊥) → (k ≡ last) ⊎ (k ≡ last → ⊥) → get_or zs k x ≡ get_or (slice_set whole i x) k x
    at_place k w (inl q) o = subst (λ n. get_or zs n x ≡ get_or (slice_set whole i x) n x) (sym q) here
    at_place k w (inr n) (inl q) = subst (λ n. get_or zs n x ≡ get_or (slice_set whole i x) n x) (sym q) (at_last (λ r. n (q ∙ sym r)))
    at_place k w (inr n) (inr m) = elsewhere k w n m

    -- an element pushed and swapped to place i is put down there
    pub put_back : length zs ≡ length ys + 1 → zs ≡ slice_set whole i x
    put_back long =
        let b = before in
        let s = length-set whole i x in
        ext_get_or x zs (slice_set whole i x) (omega (arith, b, s, long)) (λ k w. at_place k (omega (arith, b, w, long)) (same_or_not k i) (same_or_not k last))
