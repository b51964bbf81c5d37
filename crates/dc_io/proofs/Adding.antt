-- Bytes added in pieces.
use Rattle.std.proofs.Common.{◌≡◌, ℕ, ◌+◌, ◌-◌, List, [], ◌++◌, length, take, drop, Option, Some, ap, sym, ◌∙◌, subst, append_assoc, append-nil, length-drop, refl}
use Rattle.std.proofs.Math.Seq.{take-add, take-length}
use Rattle.std.proofs.lemmas.List.{take-append-drop}
use Rattle.dc_io.specs.Told.{Adds, AddsPrefix}

-- nothing is added
pub adds_none : {o : Option (List ℕ)} → Adds o o []
adds_none = record { added = λ told e. e ∙ ap Some (sym (append-nil told)) }

-- bytes are added, and then further bytes
pub adds_both : {a b c : Option (List ℕ)} {xs ys : List ℕ} → Adds a b xs → Adds b c ys → Adds a c (xs ++ ys)
adds_both {xs} {ys} first second = record {
  added = λ told e. second.added (told ++ xs) (first.added told e) ∙ ap Some (append_assoc told xs ys);
}

-- bytes are added, and then nothing
pub adds_and_none : {a b c : Option (List ℕ)} {xs : List ℕ} → Adds a b xs → Adds b c [] → Adds a c xs
adds_and_none {a} {b} {c} {xs} first second = subst (λ bytes. Adds a c bytes) (append-nil xs) (adds_both first second)

-- a part of no bytes
pub prefix_none : {a b : Option (List ℕ)} (xs : List ℕ) → Adds a b [] → AddsPrefix a b xs
prefix_none xs adds = record { part = []; rest = xs; whole = refl; adds = adds }

-- all of the bytes are a part of them
pub prefix_all : {a b : Option (List ℕ)} {xs : List ℕ} → Adds a b xs → AddsPrefix a b xs
prefix_all {a} {b} {xs} adds = record { part = xs; rest = []; whole = sym (append-nil xs); adds = adds }

-- a part is one of longer bytes too
pub prefix_longer : {a b : Option (List ℕ)} {xs : List ℕ} (ys : List ℕ) → AddsPrefix a b xs → AddsPrefix a b (xs ++ ys)
prefix_longer ys p = record {
  part = p.part;
  rest = p.rest ++ ys;
  whole = ap (λ bytes. bytes ++ ys) p.whole ∙ append_assoc p.part p.rest ys;
  adds = p.adds;
}

-- a part of further bytes behind bytes that were added
pub prefix_behind : {a b c : Option (List ℕ)} {xs ys : List ℕ} → Adds a b xs → AddsPrefix b c ys → AddsPrefix a c (xs ++ ys)
prefix_behind {xs = xs} first p = record {
  part = xs ++ p.part;
  rest = p.rest;
  whole = ap (λ bytes. xs ++ bytes) p.whole ∙ sym (append_assoc xs p.part p.rest);
  adds = adds_both first p.adds;
}

-- the value of `&xs[n..]`
pub to_end : (n : ℕ) (xs : List ℕ) → take (length xs - n) (drop n xs) ≡ drop n xs
to_end n xs = ap (λ k. take k (drop n xs)) (sym (length-drop n xs)) ∙ take-length (drop n xs)

-- the first n bytes of a piece, and then m of the rest
pub adds_more : {a b c : Option (List ℕ)} (n m : ℕ) (piece : List ℕ) → Adds a b (take n piece) → Adds b c (take m (take (length piece - n) (drop n piece))) → Adds a c (take (n + m) piece)
adds_more {a} {b} {c} n m piece first second =
    subst (λ bytes. Adds a c bytes) (sym (take-add n m piece)) (adds_both first (subst (λ rest. Adds b c (take m rest)) (to_end n piece) second))

-- the first n bytes of a piece, and then nothing
pub adds_front : {a b c : Option (List ℕ)} (n : ℕ) (piece : List ℕ) → Adds a b (take n piece) → Adds b c [] → AddsPrefix a c piece
adds_front n piece first second = record {
  part = take n piece;
  rest = drop n piece;
  whole = sym (take-append-drop n piece);
  adds = adds_and_none first second;
}
