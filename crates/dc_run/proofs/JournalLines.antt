-- The text of a journal is written line by line.
use Rattle.std.proofs.Common.{◌≡◌, ◌∙◌, ℕ, ◌+◌, ◌<◌, ◌≤◌, List, [], ◌∷◌, ◌++◌, Option, refl, sym, ap, subst, arith, length, take, drop, get_or}
use Rattle.std.proofs.lemmas.List.{append-nil, length-take-le, take-append-drop, take_more, drop_more, take_all}
use Rattle.dc_base.specs.declared.entries.Entry.{Entry}
use Rattle.dc_base.specs.EntryText.{entry_text, journal_from, journal_text}
use Rattle.dc_base.specs.TextWords.{ended}
use Rattle.dc_io.specs.Told.{Adds, AddsPrefix}
use Rattle.dc_play.proofs.Adding.{adds_more, adds_none, prefix_more}
use Rattle.dc_play.proofs.RunTexts.{journal_from-append}

pub no_lines : (es : List Entry) (told : Option (List ℕ)) → Adds told told (journal_text (take 0 es))
unfolding journal_text
no_lines [] told = adds_none told told refl
no_lines (e ∷ es) told = adds_none told told refl

pub all_lines : (es : List Entry) (i : ℕ) → length es ≤ i → journal_text (take i es) ≡ journal_text es
all_lines es i h = ap journal_text (take_all i es h)

module _ (es : List Entry) (i : ℕ) (e : Entry) (within : i < length es) where
  taken : 0 + length (take i es) ≡ i
  taken = let n = length-take-le i es (omega arith) in omega (arith, n)

  from_here : (more : List Entry) → journal_text (take i es ++ more) ≡ journal_text (take i es) ++ journal_from i more
  unfolding journal_text
  from_here more = journal_from-append 0 (take i es) more ∙ ap (λ (k : ℕ). journal_from 0 (take i es) ++ journal_from k more) taken

  -- the lines of these entries and of this one
  one_more : journal_text (take (i + 1) es) ≡ journal_text (take i es) ++ ended (entry_text i (get_or es i e))
  one_more =
      ap journal_text (take_more es i e within) ∙ from_here (get_or es i e ∷ [])
      ∙ ap (λ (line : List ℕ). journal_text (take i es) ++ line) (append-nil (ended (entry_text i (get_or es i e))))

  -- all lines
  whole : journal_text es ≡ journal_text (take i es) ++ (ended (entry_text i (get_or es i e)) ++ journal_from (i + 1) (drop (i + 1) es))
  whole =
      ap journal_text (sym (take-append-drop i es)) ∙ from_here (drop i es)
      ∙ ap (λ (rest : List Entry). journal_text (take i es) ++ journal_from i rest) (drop_more es i e within)

  module _ (told now later : Option (List ℕ)) (so_far : Adds told now (journal_text (take i es))) where
    pub line_more : Adds now later (ended (entry_text i (get_or es i e))) → Adds told later (journal_text (take (i + 1) es))
    line_more line =
        subst (λ (text : List ℕ). Adds told later text) (sym one_more)
        (adds_more told now later (journal_text (take i es)) (ended (entry_text i (get_or es i e))) so_far line)

    pub line_fails : AddsPrefix now later (ended (entry_text i (get_or es i e))) → AddsPrefix told later (journal_text es)
    line_fails line =
        subst (λ (text : List ℕ). AddsPrefix told later text) (sym whole)
        (prefix_more told now later (journal_text (take i es)) (ended (entry_text i (get_or es i e))) (journal_from (i + 1) (drop (i + 1) es)) so_far line)
