-- The words of a line, as texts.
use Rattle.std.specs.Prelude.{◌≡◌, ◌≢◌, ℕ, List, [], ◌∷◌, length, Result, Ok, Err}
use Rattle.std.specs.Borrow.{Bor}
use Rattle.dc_base.specs.declared.faults.TextKind.{TextKind}
use Rattle.dc_base.specs.declared.faults.TextKind.TheVariants.{WrongCount}
use Rattle.dc_text.specs.Places.{texts_at}
use Rattle.dc_script.specs.declared.words.Words.{Words}

abbrev pub texts_of : Words → List (List ℕ)
texts_of ws = texts_at ws.line.now ws.places.now

-- there are other than so many texts, which is a wrong count
pub record IsMiscount (n : ℕ) (texts : List (List ℕ)) (kind : TextKind) : Type 0 where
  pub count : length texts ≢ n
  pub wrong : kind ≡ WrongCount

-- there is no word, or the count is wrong
abbrev pub AreNone : List (List ℕ) → Result (Unit {0}) TextKind → Type 0
AreNone texts (Ok u) = texts ≡ []
AreNone texts (Err kind) = IsMiscount 0 texts kind

-- the word is the only one, or the count is wrong
abbrev pub IsOne : List (List ℕ) → Result (Bor (List ℕ)) TextKind → Type 0
IsOne texts (Ok u) = texts ≡ u.now ∷ []
IsOne texts (Err kind) = IsMiscount 1 texts kind

abbrev pub AreTwo : List (List ℕ) → Result (Bor (List ℕ) × Bor (List ℕ)) TextKind → Type 0
AreTwo texts (Ok ws) = texts ≡ ws.0.now ∷ ws.1.now ∷ []
AreTwo texts (Err kind) = IsMiscount 2 texts kind

abbrev pub AreThree : List (List ℕ) → Result (Bor (List ℕ) × Bor (List ℕ) × Bor (List ℕ)) TextKind → Type 0
AreThree texts (Ok ws) = texts ≡ ws.0.now ∷ ws.1.now ∷ ws.2.now ∷ []
AreThree texts (Err kind) = IsMiscount 3 texts kind
