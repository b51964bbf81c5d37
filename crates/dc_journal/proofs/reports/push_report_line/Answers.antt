use Rattle.std.proofs.Common.{[], ◌∷◌, map, codes, decimal, ap, sym, ◌∙◌}
use Rattle.std.specs.Option.{option_map}
use Rattle.dc_base.specs.declared.numbers.BlockNo.{BlockNo}
use Rattle.dc_base.specs.declared.numbers.DispNo.{DispNo}
use Rattle.dc_base.specs.TextWords.{add_word, add_words, comma_list, number_or_dash}
use Rattle.dc_base.specs.EntryText.{version_word}
use Rattle.dc_base.specs.ReportText.{report_line_text}
use Rattle.dc_journal.proofs.reports.push_report_line.Goals as goal

pub returns-in-CoreOn-clause-text : goal.returns-in-CoreOn-clause-text
unfolding report_line_text
returns-in-CoreOn-clause-text c =
    c.push_named.ensures.words
    ∙ ap (λ l. add_words l (codes "used" ∷ decimal c.in-CoreOn.used ∷ []))
    (c.push_share.ensures.words
    ∙ ap (λ l. add_words l (codes "home" ∷ number_or_dash (option_map (λ (b : BlockNo). b.0) c.in-CoreOn.home) ∷ codes "share" ∷ comma_list (map (λ (b : BlockNo). b.0) c.in-CoreOn.share.items) ∷ []))
    (c.push_on.ensures.words
    ∙ ap (λ l. add_words l (codes "core" ∷ decimal c.in-CoreOn.core.0 ∷ codes "on" ∷ version_word c.in-CoreOn.version ∷ codes "clock" ∷ decimal c.in-CoreOn.clock ∷ [])) c.requires))
    ∙ sym (ap report_line_text c.in-CoreOn.is)

pub returns-in-Ready-clause-text : goal.returns-in-Ready-clause-text
unfolding report_line_text
returns-in-Ready-clause-text c =
    c.push_ready.ensures.word
    ∙ ap (λ l. add_word l (comma_list (map (λ (d : DispNo). d.0) c.in-Ready.list.items)))
    (c.push_named-in-Ready.ensures.words ∙ ap (λ l. add_words l (codes "ready" ∷ decimal c.in-Ready.block.0 ∷ [])) c.requires)
    ∙ sym (ap report_line_text c.in-Ready.is)
