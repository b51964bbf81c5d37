use Rattle.std.proofs.Common.{rules, ◌≡◌, length}
use Rattle.dc_text.proofs.reading.push_place.Goals as goal
use Rattle.dc_text.proofs.Scanning.{no_room}

pub returns-then-is_full : goal.returns-then-is_full
returns-then-is_full c =
    let full : length c.args.found.now.items ≡ 16 = search rules in
    no_room _ _ full
