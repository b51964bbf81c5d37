use Rattle.std.proofs.Common.{[], ◌∷◌, ap, sym, ◌∙◌, codes, decimal}
use Rattle.dc_base.specs.TextWords.{add_word, add_words}
use Rattle.dc_base.specs.EntryText.{refusal_words}
use Rattle.dc_journal.proofs.whats.push_refusal.Goals as goal

pub returns-in-SameVersion-clause-words : goal.returns-in-SameVersion-clause-words
returns-in-SameVersion-clause-words c =
    c.push_word.ensures.added
    ∙ ap (λ l. add_word l c.version_name.result.now) c.push_refused_core-in-SameVersion.ensures.words
    ∙ ap (λ w. add_words c.args.line.now.bytes (codes "3" ∷ codes "SameVersion" ∷ decimal c.in-SameVersion.core.0 ∷ w ∷ [])) c.version_name.ensures.named
    ∙ sym (ap (λ r. add_words c.args.line.now.bytes (refusal_words r)) c.in-SameVersion.is)
