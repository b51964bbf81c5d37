use Rattle.std.proofs.Common.{◌≡◌, ◌<◌, ◌++◌, [], ◌∷◌, sym, ◌∙◌, ap, length, arith}
use Rattle.std.specs.Prelude.{slice_index_or}
use Rattle.dc_mdb.specs.declared.links.Link.TheVariants.{Absent}
use Rattle.dc_mdb.specs.Links.{is_there}
use Rattle.dc_mdb.proofs.Slots.{slot_next, slot_none}
use Rattle.dc_mdb.proofs.links.all_slots.Goals.{then-is_there, else-is_there}
use Rattle.dc_mdb.proofs.links.all_slots.Goals as goal

pub loop-slot-preserved : goal.loop-slot-preserved
loop-slot-preserved c =
    let links = c.args.links.now in let k = c.loop-slot.slot in
    let within : k < length links = omega arith in
    let answer : c.is_there.result ≡ is_there (slice_index_or links k Absent) = c.is_there.ensures ∙ ap is_there c.link_at.ensures in
    elim c.if-is_there.branch [
      | then-is_there w ↦ rw w.slots-is (record {
        items = w.push.ensures.items ∙ ap (λ xs. xs ++ k ∷ []) c.loop-slot.invariant.items ∙ sym (slot_next links k within (sym answer ∙ w.if-is_there.true));
        room = let l = w.push.ensures.len in omega arith;
      })
      | else-is_there w ↦ rw w.slots-is (record {
        items = c.loop-slot.invariant.items ∙ sym (slot_none links k within (sym answer ∙ w.if-is_there.false));
        room = omega arith;
      })
    ]
