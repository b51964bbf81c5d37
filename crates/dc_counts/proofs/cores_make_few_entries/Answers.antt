use Rattle.dc_counts.proofs.Reached.{core_few}
use Rattle.dc_counts.proofs.cores_make_few_entries.Goals as goal

pub returns : goal.returns
returns c = λ image lines history core valid script lawful within. core_few c.entries_keep_sound.ensures image lines history (c.the_start_is_sound.ensures image lines valid script) lawful core within
