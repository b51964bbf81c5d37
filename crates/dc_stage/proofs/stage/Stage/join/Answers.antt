use Rattle.std.proofs.Common.{ap, ◌∙◌, subst}
use Rattle.dc_stage.specs.Pasts.{EachOwn}
use Rattle.dc_stage.specs.Views.{seeing}
use Rattle.dc_stage.proofs.Passes.{goes_on, ok_joining, joins_as, no_keys, none_held}
use Rattle.dc_stage.proofs.stage.Stage.join.Goals as goal

pub join-requires-clause-other : goal.join-requires-clause-other
join-requires-clause-other g c κs within = let ok = c.other.invariant in let empty = ap (λ z. z.holds) c.other.view_is ∙ c.requires.empty in
    (ok.live, empty, no_keys _ (ok.carries.keys ∙ none_held _ _ empty ok.carries.same))

pub invariant_of-first : goal.invariant_of-first
invariant_of-first g c = let t = c.look.ensures in let j = c.join.ensures in goes_on (ap (λ z. z.slots) (t.same.0 ∙ j.same.0)) (t.told.2 ∙ ap (λ z. (seeing z.0 t.told.0, z.1)) j.told)
    (ok_joining c.first.invariant c.other.inside.seat.me.0 t.told.0 (subst (λ z. EachOwn z.0.joined t.told.0) j.told t.told.1.joined))

pub returns : goal.returns
returns g c = let t = c.look.ensures in let j = c.join.ensures in let first = c.first.inside.seat in let other = c.other.inside.seat in
    joins_as g.S.Scene.meaning c.args.self.now.scene first.table_id c.look.new.seat.table_id other.table_id first.me.0 other.me.0 c.join.new.seat.me c.look.new.seat.me t.told.0 c.args.first.now c.args.other
    c.first.view_is c.other.view_is c.requires.stage.0.1 (t.same.0 ∙ j.same.0) (ap (λ z. z.0) j.told) t.told.1 (ap (λ z. z.0) t.told.2)
