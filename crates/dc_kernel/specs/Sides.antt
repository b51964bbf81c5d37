-- What is one of two.
use Rattle.dc_kernel.specs.declared.both.Both.{Both}
use Rattle.dc_kernel.specs.declared.both.Both.TheVariants as both

abbrev pub by_side : {A B C : Type 0} → (A → C) → (B → C) → Both A B → C
by_side f g (both.First a) = f a
by_side f g (both.Second b) = g b
