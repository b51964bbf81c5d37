use Rattle.std.proofs.Common.{subst, sym, ap, ◌∙◌, ◌==◌, List}
use Rattle.std.specs.List.{remove}
use Rattle.dc_base.specs.States.{Member}
use Rattle.dc_share.specs.Shares.{IsWithin}
use Rattle.dc_share.proofs.Places.{taken_out}
use Rattle.dc_share.proofs.Parts.{left_within}
use Rattle.dc_share.proofs.share.Share.remove.Goals as goal

pub returns : goal.returns
returns c =
    let share : List Member = c.args.self.now in
    let within : IsWithin share = subst IsWithin c.self.view_is c.self.invariant in
    c.remove.ensures.items
    ∙ ap (λ ms. remove ms c.place-at.result) c.self.view_is
    ∙ ap (λ i. remove share i) c.place-at.ensures.value
    ∙ taken_out (λ (m : Member). m.block == c.args.b.0) share c.requires.there (within.once c.args.b.0)

pub invariant_of-self : goal.invariant_of-self
invariant_of-self c = subst IsWithin (sym (returns c)) (left_within c.args.b.0 c.args.self.now (subst IsWithin c.self.view_is c.self.invariant))
