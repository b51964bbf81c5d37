-- Results and what clauses say of them.
use Rattle.std.proofs.Common.{◌≡◌, Bool, false, refl}
use Rattle.std.specs.Prelude.{Result, Ok, Err, is_err, IsOk, IsErr, OnOk, OnErr}

pub on_ok : {A E P : Type 0} (r : Result A E) → IsOk r → OnOk r P → P
on_ok (Ok x) ok h = h
on_ok (Err e) ok h = cc

pub on_err : {A E P : Type 0} (r : Result A E) → IsErr r → OnErr r P → P
on_err (Ok x) err h = cc
on_err (Err e) err h = h

pub ok_not_err : {A E : Type 0} (r : Result A E) → IsErr r → IsOk r → ⊥
ok_not_err (Ok x) err ok = cc
ok_not_err (Err e) err ok = cc

-- where a test for an error fails
pub ok_of : {A E : Type 0} (r : Result A E) (b : Bool) → b ≡ is_err r → b ≡ false → IsOk r
ok_of (Ok x) b is h = refl
ok_of (Err e) b is h = cc

pub err_not_ok : {A E : Type 0} (r : Result A E) → IsOk r → IsErr r → ⊥
err_not_ok (Ok x) ok err = cc
err_not_ok (Err e) ok err = cc
