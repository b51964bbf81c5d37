-- The reader gives exactly the entries that a text tells, and so a text tells one list.
use Rattle.std.proofs.Common.{◌≡◌, ℕ, List, Result, Ok, sym, ap, ◌∙◌}
use Rattle.dc_base.specs.declared.entries.Entry.{Entry}
use Rattle.dc_base.specs.EntryText.{journal_text}
use Rattle.dc_base.specs.Journals.{IsJournal}
use Rattle.dc_base.specs.JournalText.{journal_of}
use Rattle.dc_spelling.proofs.Journals.{spelled_reads}
use Rattle.dc_spelling.proofs.ReadLines.{journal_told}

pub read_journal : (text : List ℕ) (es : List Entry) → journal_of text ≡ Ok es → IsJournal text es
unfolding journal_text
read_journal text es is =
    let told = journal_told text es is in
    record { lined = told.lined; in_range = told.low; rest = told.rest; spelled = told.same; ends = told.ends }

pub journal_read : (text : List ℕ) (es : List Entry) → IsJournal text es → journal_of text ≡ Ok es
journal_read text es j = ap journal_of j.spelled ∙ spelled_reads es j.rest j.lined j.in_range j.ends

pub one_told : (text : List ℕ) (es others : List Entry) → IsJournal text es → IsJournal text others → es ≡ others
one_told text es others j k =
    let both : ◌≡◌ {A = Result (List Entry) ℕ} (Ok es) (Ok others) = sym (journal_read text es j) ∙ journal_read text others k in
    cc
