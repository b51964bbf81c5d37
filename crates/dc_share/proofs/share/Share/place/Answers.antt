use Rattle.std.proofs.Common.{subst, sym, ap, ◌∙◌, ◌<◌, length, unwrap_or, ◌==◌}
use Rattle.std.specs.List.{position}
use Rattle.dc_base.specs.States.{Member}
use Rattle.dc_share.proofs.Places.{place_or, place_below}
use Rattle.dc_share.proofs.share.Share.place.Goals as goal

pub returns-clause-value : goal.returns-clause-value
returns-clause-value c =
    c.unwrap_or.ensures
    ∙ ap (λ o. unwrap_or o c.len.result) c.position.ensures
    ∙ ap (λ n. unwrap_or (position (λ (m : Member). m.block == c.args.b.0) c.args.self.now) n) (c.len.ensures.value ∙ ap length c.self.view_is)
    ∙ place_or c.args.b.0 c.args.self.now

pub returns-clause-within : goal.returns-clause-within
returns-clause-within c = subst (λ n. n < length c.args.self.now) (sym (returns-clause-value c)) (place_below c.args.b.0 c.args.self.now c.requires.there)
