-- Lawful histories, entry by entry.
use Rattle.std.proofs.Common.{◌≡◌, ℕ, List, [], ◌∷◌, ◌++◌, refl, ap, ◌∙◌}
use Rattle.dc_base.specs.declared.entries.Entry.{Entry}
use Rattle.dc_base.specs.States.{State, Settings}
use Rattle.dc_base.specs.Histories.{IsLawful, IsLawfulHistory, next, after, entries_in}
use Rattle.dc_base.specs.Sound.{IsSound}

-- where each entry keeps soundness, a history does
pub kept_sound : ((s : State) (e : Entry) → IsSound s → IsLawful s e → IsSound (next s e)) → (t : Settings) (s : State) (history : List (ℕ × Entry)) →
    IsSound s → IsLawfulHistory t s history → IsSound (after s history)
kept_sound keeps t s [] sound lawful = sound
kept_sound keeps t s (e ∷ es) sound lawful = kept_sound keeps t (next s e.1) es (keeps s e.1 sound lawful.0.1) lawful.1

pub first_lawful : (t : Settings) (s : State) (before more : List (ℕ × Entry)) → IsLawfulHistory t s (before ++ more) → IsLawfulHistory t s before
first_lawful t s [] more h = tt
first_lawful t s (e ∷ before) more h = (h.0, first_lawful t (next s e.1) before more h.1)

pub rest_lawful : (t : Settings) (s : State) (before more : List (ℕ × Entry)) → IsLawfulHistory t s (before ++ more) → IsLawfulHistory t (after s before) more
rest_lawful t s [] more h = h
rest_lawful t s (e ∷ before) more h = rest_lawful t (next s e.1) before more h.1

pub after_parts : (s : State) (before more : List (ℕ × Entry)) → after s (before ++ more) ≡ after (after s before) more
after_parts s [] more = refl
after_parts s (e ∷ before) more = after_parts (next s e.1) before more

-- a history in which an entry stands at a place of its journal
pub record IsParted (history : List (ℕ × Entry)) (before more : List Entry) (e : Entry) : Type 0 where
  pub first : List (ℕ × Entry)
  pub who : ℕ
  pub rest : List (ℕ × Entry)
  pub whole : history ≡ first ++ (who, e) ∷ rest
  pub begins : entries_in first ≡ before

one_more : (x : ℕ × Entry) (history : List (ℕ × Entry)) (d : Entry) (before more : List Entry) (e : Entry) → x.1 ≡ d → IsParted history before more e →
    IsParted (x ∷ history) (d ∷ before) more e
one_more x history d before more e same p = record {
  first = x ∷ p.first;
  who = p.who;
  rest = p.rest;
  whole = ap (λ es. x ∷ es) p.whole;
  begins = ap (λ (y : Entry). y ∷ entries_in p.first) same ∙ ap (λ es. d ∷ es) p.begins;
}

-- where a journal is parted at an entry, so is its history
pub parted : (history : List (ℕ × Entry)) (before more : List Entry) (e : Entry) → entries_in history ≡ before ++ e ∷ more → IsParted history before more e
parted [] [] more e h = absurd cc
parted [] (d ∷ before) more e h = absurd cc
parted (x ∷ history) [] more e h =
    let same : x.1 ≡ e = cc in
    record { first = []; who = x.0; rest = history; whole = ap (λ (d : Entry). (x.0, d) ∷ history) same; begins = refl }
parted (x ∷ history) (d ∷ before) more e h =
    let same : x.1 ≡ d = cc in
    one_more x history d before more e same (parted history before more e cc)
