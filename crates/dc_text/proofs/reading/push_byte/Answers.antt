use Rattle.std.proofs.Common.{rules, ◌≡◌, ◌==◌, ◌+◌, true, false, get_or, subst, sym}
use Rattle.dc_text.specs.Places.{IsScanned}
use Rattle.dc_text.proofs.reading.push_byte.Goals as goal
use Rattle.dc_text.proofs.Scanning.{word_ends, goes_on}

pub returns-then-line-at-eq32 : goal.returns-then-line-at-eq32
returns-then-line-at-eq32 c =
    let space : (get_or c.args.line.now c.args.at 0 == 32) ≡ true = search rules in
    subst (λ items. IsScanned c.args.line.now items (c.args.at + 1) (c.args.at + 1)) (sym c.push_place.ensures)
    (word_ends c.args.line.now c.args.found.now.items c.args.from c.args.at c.requires.within space c.requires.scanned)

pub returns-else-line-at-eq32 : goal.returns-else-line-at-eq32
returns-else-line-at-eq32 c =
    let other : (get_or c.args.line.now c.args.at 0 == 32) ≡ false = search rules in
    goes_on c.args.line.now c.args.found.now.items c.args.from c.args.at c.requires.within other c.requires.scanned
