-- A chain of tests: the tests that fail are skipped, and the one that holds is taken.
use Rattle.std.proofs.Common.{◌≡◌, Bool, true, false, sym, ap, ◌∙◌}
use Rattle.std.specs.Prelude.{if◌then◌else◌}

pub skip : {A : Type 0} (test seen : Bool) (x y r : A) → seen ≡ test → seen ≡ false → r ≡ y → r ≡ (if test then x else y)
skip test seen x y r is e same = same ∙ sym (ap (λ t. if t then x else y) (sym is ∙ e))

pub here : {A : Type 0} (test seen : Bool) (x y r : A) → seen ≡ test → seen ≡ true → r ≡ x → r ≡ (if test then x else y)
here test seen x y r is e same = same ∙ sym (ap (λ t. if t then x else y) (sym is ∙ e))
