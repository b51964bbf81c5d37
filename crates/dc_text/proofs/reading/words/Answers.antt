use Rattle.std.proofs.Common.{rules, ◌≡◌, length, take, ◌∙◌, subst}
use Rattle.dc_text.specs.Places.{IsScanned, places_of}
use Rattle.dc_text.proofs.reading.words.Goals as goal
use Rattle.dc_text.proofs.Scanning.{line_ends}
use Rattle.dc_text.proofs.Texts.{texts-places_of, within-places_of}

pub returns : goal.returns
returns c =
    let at_end : c.loop-at.at ≡ length c.args.line.now = search rules in
    let found : c.push_place.new.found.items ≡ take 16 (places_of c.args.line.now) =
    c.push_place.ensures ∙ line_ends c.args.line.now c.loop-at.found.items c.loop-at.from (subst (λ n. IsScanned c.args.line.now c.loop-at.found.items c.loop-at.from n) at_end c.loop-at.invariant) in
    record { places = found; texts = texts-places_of c.args.line.now _ found; within = within-places_of c.args.line.now _ found }
