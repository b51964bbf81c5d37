use Rattle.dc_block_sound.proofs.ListedOnce.{listed_ready, ready_listed, listed_once, none_left}
use Rattle.dc_block_sound.proofs.ready_stand_once.Goals as goal

pub returns : goal.returns
returns c = record { listed = listed_ready; all = ready_listed; once = listed_once; taken = none_left }
