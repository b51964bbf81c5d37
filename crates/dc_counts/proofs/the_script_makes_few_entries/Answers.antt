use Rattle.dc_counts.proofs.Reached.{script_few}
use Rattle.dc_counts.proofs.the_script_makes_few_entries.Goals as goal

pub returns : goal.returns
returns c = λ image lines history valid script lawful. script_few c.entries_keep_sound.ensures image lines history (c.the_start_is_sound.ensures image lines valid script) lawful
