use Rattle.dc_journal.proofs.words.last_word.Goals as goal
use Rattle.dc_journal.proofs.WordPlaces.{last_found}

pub returns-in-Some : goal.returns-in-Some
returns-in-Some c = last_found c.args.words.now c.last.result c.in-Some.word c.last.ensures.value c.in-Some.is
