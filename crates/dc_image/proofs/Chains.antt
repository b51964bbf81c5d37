-- What is known of each step, where a chain of steps gives a value.
use Rattle.std.proofs.Common.{◌≡◌, Bool, true, false, Result, Ok, Err, Option, Some, None, refl, if◌then◌else◌}
use Rattle.dc_base.specs.Results.{◌>>=◌, or_fault}

-- the first step gave a value, and the others gave theirs from it
pub record Chained {A B F : Type 0} (r : Result A F) (f : A → Result B F) (y : B) : Type 0 where
  pub first : A
  pub was : r ≡ Ok first
  pub after : f first ≡ Ok y

pub chained : {A B F : Type 0} (r : Result A F) (f : A → Result B F) (y : B) → r >>= f ≡ Ok y → Chained r f y
chained (Ok x) f y e = record { first = x; was = refl; after = e }
chained (Err fault) f y e = cc

-- the test passed, and the value was kept
pub record Passed {A : Type 0} (test : Bool) (x y : A) : Type 0 where
  pub passed : test ≡ true
  pub same : x ≡ y

pub passed : {A F : Type 0} (test : Bool) (x y : A) (fault : F) → (if test then Ok x else Err fault) ≡ Ok y → Passed test x y
passed true x y fault e = record { passed = refl; same = cc }
passed false x y fault e = cc

-- a value was there
pub was_there : {A F : Type 0} (fault : F) (o : Option A) (x : A) → or_fault fault o ≡ Ok x → o ≡ Some x
was_there fault None x e = cc
was_there fault (Some y) x e = cc
