use Rattle.std.proofs.Common.{refl}
use Rattle.dc_base.specs.EntryRanges.{has_line}
use Rattle.dc_tests.proofs.texts.entries_have_lines.Goals as goal

pub entry_line-requires : goal.entry_line-requires
unfolding has_line
entry_line-requires g c = refl

pub entry_line-requires-2 : goal.entry_line-requires-2
unfolding has_line
entry_line-requires-2 g c = refl

pub entry_line-requires-3 : goal.entry_line-requires-3
unfolding has_line
entry_line-requires-3 g c = refl
