use Rattle.dc_counts.proofs.Reached.{all_few}
use Rattle.dc_counts.proofs.histories_are_short.Goals as goal

pub returns : goal.returns
returns c = λ image lines history valid script lawful. all_few c.entries_keep_sound.ensures image lines history (c.the_start_is_sound.ensures image lines valid script) lawful
