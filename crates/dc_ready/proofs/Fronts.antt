-- The front of a list of entries.
use Rattle.std.proofs.Common.{◌≡◌, ℕ, ◌<◌, ◌≤◌, List, [], ◌∷◌, length, get_or, refl, arith}
use Rattle.std.specs.Prelude.{Some, None}
use Rattle.dc_base.specs.declared.kernels.Version.TheVariants.{Rr}
use Rattle.dc_base.specs.declared.numbers.DispNo.{DispNo}
use Rattle.dc_base.specs.Policies.{pick}
use Rattle.dc_ready.specs.Entries.{dispatchers, entries_of}

pub front-none : (dues : List ℕ) (xs : List (DispNo × ℕ)) → length xs < 1 → None ≡ pick Rr dues (dispatchers (entries_of xs))
unfolding pick
front-none dues [] h = refl
front-none dues (x ∷ xs) h = absurd (omega arith)

pub front-some : (dues : List ℕ) (xs : List (DispNo × ℕ)) (o : DispNo × ℕ) → 1 ≤ length xs → Some (get_or xs 0 o).0.0 ≡ pick Rr dues (dispatchers (entries_of xs))
unfolding pick
front-some dues [] o h = absurd (omega arith)
front-some dues (x ∷ xs) o h = refl
