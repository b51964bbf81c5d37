use Rattle.std.proofs.Common.{Some, ◌≡◌, ◌+◌, ◌∷◌, sym, ap, ◌∙◌}
use Rattle.std.specs.Prelude.{Option, None}
use Rattle.atomic_table.specs.Table.{rest}
use Rattle.dc_stage.specs.History.{Log, after}
use Rattle.dc_stage.specs.Views.{taking}
use Rattle.dc_stage.specs.Steps.{GoesOn}
use Rattle.dc_stage.proofs.Passes.{some_same}
use Rattle.dc_stage.proofs.Takes.{got, slot_same}
use Rattle.dc_stage.proofs.steps.take.Goals as goal

abbrev tried : (g : _) (c : goal.After-exchange-arg-1 g) → (x : g.row.S-Object.Denot) × (log : Log g.row.S-Entry.Denot) × (go : GoesOn g.S.Scene.meaning c.args.seat.now.me.0 log)
    × (c.try_turn-found.new.seat.me ≡ (taking c.args.seat.now.me.0 c.args.i log, (c.args.i, Some x) ∷ c.args.seat.now.me.1)) × (g.S.Scene.state x ≡ after (g.S.Scene.meaning go.scene) log c.args.i)
tried g c = let f = c.try_turn-found in got g.S.Scene.meaning g.S.Scene.state c.args.board.now.table_id.slots c.args.i (c.args.actor + 1) c.args.seat.now.me f.new.seat.me f.result f.ensures.told c.if-found-ne0.false

pub exchange-requires : goal.exchange-requires
exchange-requires g c = let t = tried g c in
    (c.try_turn-found.ensures.same.0 ∙ c.requires.place.0, (Some t.0, ap (λ z. z.1) t.3 ∙ ap (λ z. (c.args.i, Some t.0) ∷ rest z.1) (sym t.3)))

pub returns-clause-told : goal.returns-clause-told
returns-clause-told g c = let f = c.try_turn-found in let t = got g.S.Scene.meaning g.S.Scene.state c.args.board.now.table_id.slots c.args.i (c.args.actor + 1) c.args.seat.now.me f.new.seat.me f.result f.ensures.told c.if-found-ne0.false in let ex = c.exchange.ensures in
    let found : Option g.row.S-Object.Denot = Some t.0 in
    let same : c.exchange.result ≡ found = slot_same c.args.i c.exchange.result found (rest f.new.seat.me.1) c.args.seat.now.me.1 (sym ex.2 ∙ ap (λ z. z.1) t.3) in
    (t.1, t.2, None, ex.3 ∙ ap (λ z. (z.0, (c.args.i, None) ∷ rest z.1)) t.3, ap g.S.Scene.state (some_same c.in-Some.object t.0 (sym c.in-Some.is ∙ same)) ∙ t.4)
