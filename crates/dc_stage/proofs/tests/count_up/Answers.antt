use Rattle.std.proofs.Common.{◌+◌, ◌∷◌, ◌++◌, [], length, sym, ap, ◌∙◌, arith, length-append}
use Rattle.dc_stage.specs.History.{own}
use Rattle.dc_stage.specs.Passes.{having_seen, having_taken}
use Rattle.dc_stage.specs.declared.tests.tally.Add.{Add}
use Rattle.dc_stage.proofs.tests.count_up.Goals as goal

pub add-requires-clause-room : goal.add-requires-clause-room
add-requires-clause-room g c = let a = c.loop-ticket.auto in omega (arith, c.loop-ticket.invariant.room, c.requires.room.1, c.loop-ticket-test.true, a.tickets, a.ticket-index-end)

pub loop-ticket-preserved : goal.loop-ticket-preserved
loop-ticket-preserved g c = let inv = c.loop-ticket.invariant in let m = c.add.ensures.commits in let pass = c.loop-ticket.pass in let new = c.add.new.pass in let e : Add = record { 0 = c.args.i } in record {
  same = m.same ∙ (ap (λ k. having_seen k (m.before ++ (pass.actor, e) ∷ [])) inv.same ∙ ap (having_taken c.args.pass c.args.i) (sym (ap (λ k. k.seen) m.same)));
  room = ap (λ k. length (own k.actor new.seen)) m.same ∙ (ap length m.mine ∙ (length-append (own pass.actor pass.seen) ((pass.actor, e) ∷ []) ∙ ap (λ z. z + 1) inv.room));
  number = c.one_more-number.ensures ∙ (ap (λ z. z + 1) inv.number ∙ sym c.add.ensures.one_more);
}
