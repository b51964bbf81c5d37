-- A list of names in another order lists the same names.
use Rattle.std.proofs.Common.{◌↔◌, List, [], ◌∷◌, refl, sym, subst, inl, inr}
use Rattle.std.specs.List.{All}
use Rattle.std.specs.List.Sorted.{IsPermutation}
use Rattle.std.proofs.lemmas.List.Elements.{All-nil, All-cons, All-head, All-tail}
use Rattle.std.proofs.lemmas.List.Sorted.{All-permutation, IsPermutation-sym}
use Rattle.dc_base.specs.Changes.{Name}
use Rattle.dc_base.specs.Histories.{Listed}

all_listed : (ns : List Name) → All (λ n. Listed n ns) ns
all_listed [] = All-nil (λ n. Listed n [])
all_listed (m ∷ ns) = All-cons (λ n. Listed n (m ∷ ns)) m ns (inl refl) (λ k d h. inr (all_listed ns k d h))

of_listed : (P : Name → Type 0) (ns : List Name) (n : Name) → All P ns → Listed n ns → P n
of_listed P [] n h l = absurd l
of_listed P (m ∷ ns) n h (inl e) = subst P (sym e) (All-head P m ns h)
of_listed P (m ∷ ns) n h (inr l) = of_listed P ns n (All-tail P m ns h) l

listed_again : (ns ms : List Name) (n : Name) → IsPermutation ms ns → Listed n ns → Listed n ms
listed_again ns ms n p l = of_listed (λ n. Listed n ms) ns n (All-permutation (λ n. Listed n ms) ms ns p (all_listed ms)) l

pub listed_alike : (ns ms : List Name) (n : Name) → IsPermutation ns ms → Listed n ns ↔ Listed n ms
listed_alike ns ms n p = (listed_again ns ms n (IsPermutation-sym ns ms p), listed_again ms ns n p)
