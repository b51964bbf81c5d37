use Rattle.std.proofs.Common.{◌≡◌, refl, sym, ap, ◌∙◌, true, arith, length-set}
use Rattle.std.specs.Prelude.{slice_index_or, slice_set}
use Rattle.dc_mdb.specs.Forests.{has_slot, without_slot}
use Rattle.std.proofs.lemmas.List.{length-map}
use Rattle.dc_mdb.specs.declared.links.Link.TheVariants.{Absent}
use Rattle.dc_mdb.specs.Links.{nodes_of}
use Rattle.dc_mdb.proofs.Slots.{without_absent}
use Rattle.dc_mdb.proofs.Forested.{slot_is_out, left_forest}
use Rattle.dc_mdb.proofs.forests.Forest.remove.Goals as goal

pub invariant_of-self : goal.invariant_of-self
invariant_of-self c =
    let links = c.self.inside.links in let s = c.args.s in let up = slice_index_or links s Absent in
    let used : has_slot (nodes_of links) s ≡ true = ap (λ ns. has_slot ns s) c.self.view_is ∙ sym c.contains.ensures.value ∙ c.if-not-contains.false in
    record {
      forest = rw c.cut.ensures.links (rw c.hang.ensures.links (left_forest links c.self.invariant.forest s up refl used (simp (length-set, length-map) (omega arith))));
      counted = c.cut.ensures.counted;
    }

pub returns-clause-after : goal.returns-clause-after
returns-clause-after c =
    let links = c.self.inside.links in let s = c.args.s in let up = slice_index_or links s Absent in
    let used : has_slot (nodes_of links) s ≡ true = ap (λ ns. has_slot ns s) c.self.view_is ∙ sym c.contains.ensures.value ∙ c.if-not-contains.false in
    ap nodes_of c.cut.ensures.links ∙ ap (λ ls. nodes_of (slice_set ls s Absent)) c.hang.ensures.links ∙ slot_is_out links c.self.invariant.forest s up refl used ∙ ap (without_slot s) c.self.view_is

pub returns-then-not-contains-clause-after : goal.returns-then-not-contains-clause-after
returns-then-not-contains-clause-after c = without_absent c.args.self.now c.contains.ensures.forest c.args.s (sym c.contains.ensures.value ∙ c.if-not-contains.true)
