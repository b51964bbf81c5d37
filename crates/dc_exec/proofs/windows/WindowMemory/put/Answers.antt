use Rattle.std.proofs.Common.{ap, ◌∙◌}
use Rattle.std.specs.Prelude.{slice_set}
use Rattle.dc_exec.specs.Changes.{Overlay, memory_of, with_changes}
use Rattle.dc_exec.proofs.Changed.{with_changes-push}
use Rattle.dc_exec.proofs.windows.WindowMemory.put.Goals as goal

pub returns-clause-words : goal.returns-clause-words
returns-clause-words c =
    ap (λ cs. with_changes c.self.inside.words.now cs) c.push.ensures.items
    ∙ (with_changes-push c.self.inside.words.now c.self.inside.changes.items (c.args.address, c.args.word)
    ∙ ap (λ (o : Overlay). slice_set (memory_of o) c.args.address c.args.word) c.self.view_is)
