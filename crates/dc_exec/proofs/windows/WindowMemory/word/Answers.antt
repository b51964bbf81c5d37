use Rattle.std.proofs.Common.{◌<◌, length, ap, sym, ◌∙◌, subst}
use Rattle.dc_exec.specs.Changes.{Overlay, memory_of}
use Rattle.dc_exec.proofs.Changed.{length-with_changes}
use Rattle.dc_exec.proofs.windows.WindowMemory.word.Goals as goal

pub word_under-requires : goal.word_under-requires
word_under-requires c = subst (λ n. c.args.address < n) (ap (λ (o : Overlay). length (memory_of o)) (sym c.self.view_is) ∙ length-with_changes c.self.inside.words.now c.self.inside.changes.items) c.requires
