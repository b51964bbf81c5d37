-- One more.
use Rattle.std.proofs.Common.{◌≡◌, ℕ, zero, suc, ◌+◌, ◌<◌, List, [], ◌∷◌, ◌++◌, refl, ap, length, take, map, arith}
use Rattle.dc_base.specs.declared.images.CoreImage.{CoreImage}
use Rattle.dc_base.specs.States.{empty}
use Rattle.dc_objects.proofs.starts.mailboxes_of.Goals as goal

one_constant_more : {X Y : Type 0} (y : Y) (xs : List X) (i : ℕ) → i < length xs → map (λ (x : X). y) (take (i + 1) xs) ≡ map (λ (x : X). y) (take i xs) ++ y ∷ []
one_constant_more {X} y [] i h = absurd (omega arith)
one_constant_more {X} y (x ∷ xs) zero h = refl
one_constant_more {X} {Y} y (x ∷ xs) (suc i) h =
    let e : suc i + 1 ≡ suc (i + 1) = omega arith in
    rw e (ap (λ (zs : List Y). y ∷ zs) (one_constant_more {X = X} y xs i (omega arith)))

pub loop-core-preserved : goal.loop-core-preserved
loop-core-preserved c =
    let e = one_constant_more {X = CoreImage} empty c.args.cores.now c.loop-core._core-index c.loop-core-test.true in
    cc (c.in_ok-add.ensures, c.empty.ensures)
