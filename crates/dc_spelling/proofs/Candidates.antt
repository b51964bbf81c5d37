-- The line of an entry is read as that entry.
use Rattle.std.proofs.Common.{◌≡◌, ℕ, ◌≤◌, true, ◌&&◌, [], ◌∷◌, ◌++◌, length, take, decimal, Some, None, option_and_then, refl, ap, ◌∙◌, arith, bytes_eq}
use Rattle.std.specs.Prelude.{if◌then◌else◌}
use Rattle.std.proofs.lemmas.Bool.{and_parts, leb-true}
use Rattle.std.proofs.lemmas.List.{take_all}
use Rattle.std.proofs.lemmas.Slice.Eq.{bytes_eq-Decides}
use Rattle.dc_base.specs.declared.actions.Actor.{Actor}
use Rattle.dc_base.specs.declared.actions.Actor.TheVariants as actor
use Rattle.dc_base.specs.declared.entries.What.{What}
use Rattle.dc_base.specs.declared.entries.Entry.{Entry}
use Rattle.dc_base.specs.EntryText.{actor_words, what_words, entry_text}
use Rattle.dc_base.specs.EntryRanges.{suits, has_line, is_actor_in_range, is_what_in_range, is_in_range}
use Rattle.dc_base.specs.LooseEntries.{candidate}
use Rattle.dc_base.specs.JournalText.{if_spelled, entry_of}
use Rattle.dc_spelling.proofs.Numerals.{numbers_read}
use Rattle.dc_spelling.proofs.EntryWords.{few_words}
use Rattle.dc_spelling.proofs.EntryLines.{entry_words}
use Rattle.dc_spelling.proofs.CoreEntries.{core_read}
use Rattle.dc_spelling.proofs.ScriptEntries.{script_read}

abbrev of : Actor → What → Entry
of who w = record { actor = who; what = w }

-- all words of a line are read
all_words : (t : ℕ) (who : Actor) (w : What) → take 16 (decimal t ∷ (actor_words who ++ what_words w)) ≡ decimal t ∷ (actor_words who ++ what_words w)
all_words t (actor.Core c) w = take_all 16 _ (let few : length (what_words w) ≤ 13 = leb-true _ _ (few_words w) in omega (arith, few))
all_words t actor.Script w = take_all 16 _ (let few : length (what_words w) ≤ 13 = leb-true _ _ (few_words w) in omega (arith, few))

words_read : (t : ℕ) (who : Actor) (w : What) → suits who w ≡ true → is_actor_in_range who ≡ true → is_what_in_range w ≡ true → candidate (decimal t ∷ (actor_words who ++ what_words w)) ≡ Some (of who w)
unfolding candidate
words_read t (actor.Core c) w suited near low = rw ((numbers_read (c.0 ∷ []) near).0, core_read w suited low)
words_read t actor.Script w suited near low = rw (script_read w suited low)

-- where an entry is spelled just so, it is taken
taken : (t : ℕ) (e : Entry) → has_line e ≡ true → if_spelled t (entry_text t e) e ≡ Some e
taken t e lined =
    let same : bytes_eq (entry_text t e) (entry_text t e) ≡ true = (bytes_eq-Decides (entry_text t e) (entry_text t e)).1 refl in
    ap (λ x. if x && bytes_eq (entry_text t e) (entry_text t e) then Some e else None) lined
    ∙ ap (λ x. if x then Some e else None) same

pub entry_read : (t : ℕ) (e : Entry) → has_line e ≡ true → is_in_range e ≡ true → entry_of t (entry_text t e) ≡ Some e
unfolding entry_of has_line is_in_range
entry_read t e lined low =
    let parts = and_parts (is_actor_in_range e.actor) (is_what_in_range e.what) low in
    let given = option_and_then (if_spelled t (entry_text t e)) in
    ap (λ ws. given (candidate (take 16 ws))) (entry_words t e)
    ∙ ap (λ ws. given (candidate ws)) (all_words t e.actor e.what)
    ∙ ap given (words_read t e.actor e.what lined parts.0 parts.1)
    ∙ taken t e lined
