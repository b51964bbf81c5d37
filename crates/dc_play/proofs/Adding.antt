-- Texts that were written in parts.
use Rattle.std.proofs.Common.{◌≡◌, ◌∙◌, ℕ, List, [], ◌++◌, Option, Some, Result, Ok, Err, sym, ap, append_assoc}
use Rattle.std.specs.Prelude.{IsErr}
use Rattle.std.proofs.lemmas.List.{append-nil}
use Rattle.dc_io.specs.declared.sinks.Failed.{Failed}
use Rattle.dc_io.specs.Told.{Adds, AddsPrefix}
use Rattle.dc_play.specs.Written.{Writes}

-- what was added in two parts
pub adds_more : (a b c : Option (List ℕ)) (s t : List ℕ) → Adds a b s → Adds b c t → Adds a c (s ++ t)
adds_more a b c s t h g = record { added = λ told e. g.added (told ++ s) (h.added told e) ∙ ap Some (append_assoc told s t) }

pub adds_none : (a b : Option (List ℕ)) → b ≡ a → Adds a b []
adds_none a b h = record { added = λ told e. h ∙ e ∙ ap Some (sym (append-nil told)) }

-- a part of what is longer
pub prefix_more : (a b c : Option (List ℕ)) (s t u : List ℕ) → Adds a b s → AddsPrefix b c t → AddsPrefix a c (s ++ (t ++ u))
prefix_more a b c s t u h g = record {
  part = s ++ g.part;
  rest = g.rest ++ u;
  whole = ap (λ (xs : List ℕ). s ++ (xs ++ u)) g.whole ∙ ap (λ (xs : List ℕ). s ++ xs) (append_assoc g.part g.rest u) ∙ sym (append_assoc s g.part (g.rest ++ u));
  adds = adds_more a b c s g.part h g.adds;
}

pub prefix_first : (a b : Option (List ℕ)) (s t : List ℕ) → AddsPrefix a b s → AddsPrefix a b (s ++ t)
prefix_first a b s t g = record { part = g.part; rest = g.rest ++ t; whole = ap (λ (xs : List ℕ). xs ++ t) g.whole ∙ append_assoc g.part g.rest t; adds = g.adds }

pub writes_failed : {T : Type 0} (a b : Option (List ℕ)) (t : List ℕ) (r : Result T Failed) → IsErr r → AddsPrefix a b t → Writes a b t r
writes_failed a b t (Ok x) h g = cc
writes_failed a b t (Err f) h g = g

-- a part behind what was added
pub prefix_behind : (a b c : Option (List ℕ)) (s t : List ℕ) → Adds a b s → AddsPrefix b c t → AddsPrefix a c (s ++ t)
prefix_behind a b c s t h g = record {
  part = s ++ g.part;
  rest = g.rest;
  whole = ap (λ (xs : List ℕ). s ++ xs) g.whole ∙ sym (append_assoc s g.part g.rest);
  adds = adds_more a b c s g.part h g.adds;
}

-- what was written behind what was added
pub writes_behind : {T : Type 0} (a b c : Option (List ℕ)) (s t : List ℕ) (r : Result T Failed) → Adds a b s → Writes b c t r → Writes a c (s ++ t) r
writes_behind a b c s t (Ok x) h g = adds_more a b c s t h g
writes_behind a b c s t (Err failed) h g = prefix_behind a b c s t h g
