use Rattle.std.proofs.Common.{sym, ap, ◌∙◌, take, arith}
use Rattle.std.specs.Prelude.{slice_index, filter}
use Rattle.std.proofs.lemmas.List.{take_more}
use Rattle.std.proofs.lemmas.Option.{slice_get-get_or}
use Rattle.dc_mdb.specs.Links.{nodes_of}
use Rattle.dc_mdb.proofs.Clearing.{out_after, is_none_of, none_out}
use Rattle.dc_mdb.proofs.Linked.{links_without, is_not}
use Rattle.dc_mdb.proofs.links.clear.Goals as goal

pub loop-s-preserved : goal.loop-s-preserved
loop-s-preserved c =
    let slots = c.args.slots.now in let i = c.loop-s.s-index in let s = slice_index slots i in
    record {
      nodes = ap nodes_of c.cut.ensures.links
          ∙ links_without c.loop-s.links s
          ∙ ap (filter (is_not s)) c.loop-s.invariant.nodes
          ∙ out_after (take i slots) s (nodes_of c.args.links.now)
          ∙ ap (λ ss. filter (is_none_of ss) (nodes_of c.args.links.now)) (sym (take_more slots i 0 c.loop-s-test.true));
      counted = c.cut.ensures.counted;
    }

pub loop-s-init : goal.loop-s-init
loop-s-init c = record { nodes = none_out (nodes_of c.args.links.now); counted = c.requires.counted }

pub cut-requires-clause-slot : goal.cut-requires-clause-slot
cut-requires-clause-slot c = let l = c.requires.slots c.loop-s.s-index (slice_index c.args.slots.now c.loop-s.s-index) (slice_get-get_or c.args.slots.now c.loop-s.s-index 0 c.loop-s-test.true) in let e = c.loop-s.auto.links in omega (arith, l, e)
