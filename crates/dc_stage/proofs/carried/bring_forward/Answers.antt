use Rattle.std.proofs.Common.{◌≡◌, ℕ, ◌<◌, ◌∷◌, ◌++◌, [], List, true, sym, ap, ap₂, ◌∙◌, subst}
use Rattle.std.specs.Prelude.{slice_index_or}
use Rattle.std.specs.List.{remove}
use Rattle.dc_stage.specs.Numbers.{has, IsApart}
use Rattle.dc_stage.specs.Carried.{keys}
use Rattle.dc_stage.proofs.Numbers.{not_empty, has_snoc, apart_snoc, place_falls, place_of}
use Rattle.dc_stage.proofs.Rotations.{turned_keys}
use Rattle.dc_stage.proofs.carried.bring_forward.Goals as goal

-- the front, and what stands behind it
abbrev next : (g : _) (c : goal.After-push g) → (y : ℕ) × (ys : List ℕ) × (c.loop-seat.held.items ≡ y ∷ ys) × (c.push.new.self.items ≡ ys ++ y ∷ [])
next g c = let f = not_empty c.args.i c.loop-seat.held.items c.loop-seat.invariant.held in
    (f.0, f.1, f.2, c.push.ensures.items ∙ ap₂ (λ a b. a ++ b ∷ []) (c.remove-first.ensures.items ∙ ap (λ z. remove z 0) f.2) (c.remove-first.ensures.value ∙ ap (λ z. slice_index_or z 0 c.remove-first.result) f.2))

pub loop-seat-preserved : goal.loop-seat-preserved
loop-seat-preserved g c = let inv = c.loop-seat.invariant in let h = c.loop-seat.held.items in let f = next g c in let y : ℕ = f.0 in let ys = f.1 in
    let same : (j : ℕ) → has j c.push.new.self.items ≡ has j h = λ j. ap (has j) f.3 ∙ (has_snoc j y ys ∙ ap (has j) (sym f.2)) in
    let apart : IsApart (y ∷ ys) = subst IsApart f.2 inv.apart in
    record {
      same = (c.turn.ensures.0 ∙ inv.same.0, c.turn.ensures.1 ∙ inv.same.1, ap (λ z. z.0) c.turn.ensures.2 ∙ inv.same.2);
      keys = ap (λ z. keys z.1) c.turn.ensures.2 ∙ (turned_keys c.loop-seat.seat.me.1 y ys (inv.keys ∙ f.2) ∙ sym f.3);
      kept = λ j. same j ∙ inv.kept j;
      held = same c.args.i ∙ inv.held;
      apart = subst IsApart (sym f.3) (apart_snoc y ys apart.0 apart.1);
    }

pub loop-seat-smaller : goal.loop-seat-smaller
loop-seat-smaller g c = let f = next g c in let i : ℕ = c.args.i in let y : ℕ = f.0 in let ys = f.1 in
    subst (λ z. place_of i z < place_of i c.loop-seat.held.items) (sym f.3) (subst (λ z. place_of i (ys ++ y ∷ []) < place_of i z) (sym f.2)
    (place_falls i y ys (λ e. c.loop-seat-test.true (ap (λ z. slice_index_or z 0 0) (c.as_slice.ensures.value ∙ f.2) ∙ sym e)) (subst (λ z. has i z ≡ true) f.2 c.loop-seat.invariant.held)))
