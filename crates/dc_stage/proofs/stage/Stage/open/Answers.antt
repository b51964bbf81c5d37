use Rattle.std.proofs.Common.{◌≡◌, ℕ, ◌<◌, ◌≤◌, length, Some, sym, ap, ◌∙◌, refl, subst}
use mathlib.Core.Option.{some}
use lib.ListN.{get_elem?}
use Rattle.dc_stage.specs.Slots.{AllSome}
use Rattle.dc_stage.proofs.Passes.{goes_on, holding, ok_first}
use Rattle.std.specs.Vec.{vec_capacity}
use Rattle.dc_stage.proofs.Opens.{length_map}
use Rattle.dc_stage.proofs.Slots.{all_some, at_each, map_same}
use Rattle.dc_stage.proofs.stage.Stage.open.Goals as goal

pub lay_out-requires-clause-start : goal.lay_out-requires-clause-start
lay_out-requires-clause-start g c κs within = let sc = c.deref.result.now in
    let start : (i : ℕ) (x : g.row.S-Object.Denot) → get_elem? c.args.objects.items i ≡ some x → g.S.Scene.state x ≡ (g.S.Scene.meaning sc).at (g.S.Scene.meaning sc).start i =
    subst (λ z. (i : ℕ) (x : g.row.S-Object.Denot) → get_elem? c.args.objects.items i ≡ some x → g.S.Scene.state x ≡ (g.S.Scene.meaning z).at (g.S.Scene.meaning z).start i) (sym (c.deref.ensures ∙ c.in-Ok.ensures.ok)) c.requires.start in
    subst (λ z. (i : ℕ) → i < length z → (x : g.row.S-Object.Denot) × (get_elem? z i ≡ some (Some x)) × (g.S.Scene.state x ≡ (g.S.Scene.meaning sc).at (g.S.Scene.meaning sc).start i)) (sym c.in-Ok-into_slots.ensures.ok.0)
    (at_each (λ i x. g.S.Scene.state x ≡ (g.S.Scene.meaning sc).at (g.S.Scene.meaning sc).start i) c.args.objects.items start)

pub invariant_of-pass : goal.invariant_of-pass
invariant_of-pass g c = let t = c.in-Ok-lay_out.ensures.ok in let r = c.in-Ok-into_slots.ensures.ok in
    let room : length c.args.objects.items ≤ vec_capacity c.in-Ok-into_slots.rows.1 = r.2 in
    let same : c.in-Ok-lay_out.seat.table_id.slots ≡ length c.args.objects.items = ap (λ z. z.slots) t.2 ∙ (t.1 ∙ (ap length r.0 ∙ length_map (λ x. Some x) c.args.objects.items)) in
    let few : c.in-Ok-lay_out.seat.table_id.slots ≤ vec_capacity c.in-Ok-into_slots.rows.1 = subst (λ (z : ℕ). z ≤ vec_capacity c.in-Ok-into_slots.rows.1) (sym same) room in goes_on refl t.3 (holding c.new-in-Ok-lay_out.ensures
    (ok_first c.in-Ok-lay_out.seat.table_id.slots _ (c.in-Ok-into_slots.rows.1, refl, r.1, few)))

pub out_of_slots-requires-clause-filled : goal.out_of_slots-requires-clause-filled
out_of_slots-requires-clause-filled g c = subst AllSome (sym (c.in-Err-lay_out.ensures.err ∙ c.in-Ok-into_slots.ensures.ok.0)) (all_some c.args.objects.items)

pub returns-in-Err-lay_out-clause-memory : goal.returns-in-Err-lay_out-clause-memory
returns-in-Err-lay_out-clause-memory g c = (c.into_inner-in-Err-lay_out.ensures ∙ c.in-Ok.ensures.ok, map_same c.out_of_slots.result.items c.args.objects.items (c.out_of_slots.ensures ∙ (c.in-Err-lay_out.ensures.err ∙ c.in-Ok-into_slots.ensures.ok.0)))
