use Rattle.std.proofs.Common.{subst, sym, ap, ◌∙◌, get_or, arith, ◌==◌, ◌++◌, [], ◌∷◌, List}
use Rattle.std.specs.List.{remove}
use Rattle.dc_base.specs.Outcomes.{share_without}
use Rattle.dc_base.specs.States.{Member}
use Rattle.dc_share.specs.Shares.{IsWithin}
use Rattle.dc_share.proofs.Places.{taken_out, found_alone}
use Rattle.dc_share.proofs.Parts.{turned_within, at_most_nine}
use Rattle.dc_share.proofs.share.Share.turned.Goals as goal

pub push-requires : goal.push-requires
push-requires c = let most = at_most_nine c.self.inside.seats.items c.self.invariant in let left = c.remove-seat.ensures.len in (omega arith, omega (arith, most, left))

pub returns : goal.returns
returns c =
    let share : List Member = c.args.self.now in
    let seat : Member = c.remove-seat.result in
    let within : IsWithin share = subst IsWithin c.self.view_is c.self.invariant in
    let here = taken_out (λ (m : Member). m.block == c.args.b.0) share c.requires.there (within.once c.args.b.0) in
    let alone = found_alone (λ (m : Member). m.block == c.args.b.0) share seat c.requires.there (within.once c.args.b.0) in
    c.push.ensures.items
    ∙ ap (λ ms. ms ++ seat ∷ []) (c.remove-seat.ensures.items ∙ ap (λ ms. remove ms c.place-at.result) c.self.view_is ∙ ap (λ i. remove share i) c.place-at.ensures.value ∙ here)
    ∙ ap (λ ms. share_without c.args.b.0 share ++ ms) (ap (λ m. m ∷ []) (c.remove-seat.ensures.value ∙ ap (λ ms. get_or ms c.place-at.result seat) c.self.view_is ∙ ap (λ i. get_or share i seat) c.place-at.ensures.value) ∙ sym alone)

pub invariant_of-self : goal.invariant_of-self
invariant_of-self c = subst IsWithin (sym (returns c)) (turned_within c.args.b.0 c.args.self.now (subst IsWithin c.self.view_is c.self.invariant))
