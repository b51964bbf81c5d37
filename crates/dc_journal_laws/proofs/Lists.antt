-- What is collected from a journal as it grows by one entry.
use Rattle.std.proofs.Common.{◌≡◌, ℕ, List, [], ◌∷◌, ◌++◌, Bool, true, false, Some, None, refl, ap, ◌∙◌, rules}
use Rattle.std.specs.Prelude.{◌==◌, ◌||◌, ◌&&◌, not, if◌then◌else◌}
use Rattle.std.specs.List.{flat_map, list_any}
use Rattle.std.proofs.lemmas.List.{append-nil}
use Rattle.std.proofs.lemmas.Grind.{flat_map-append}
use Rattle.std.proofs.lemmas.List.Folds.{list_any-append}
use Rattle.dc_base.specs.declared.entries.Entry.{Entry}
use Rattle.dc_base.specs.Words.{is_number}
use Rattle.dc_journal_laws.specs.Entries.{command_line, answers, is_post, finishes, is_begun, is_finished, before_command}

module _ {A : Type 0} (f : Entry → List A) where
  pub collect-none : (es : List Entry) (e : Entry) → f e ≡ [] → flat_map f (es ++ e ∷ []) ≡ flat_map f es
  collect-none es e h = flat_map-append f es (e ∷ []) ∙ ap (λ xs. flat_map f es ++ (xs ++ [])) h ∙ append-nil (flat_map f es)

  pub collect-one : (es : List Entry) (e : Entry) (x : A) → f e ≡ x ∷ [] → flat_map f (es ++ e ∷ []) ≡ flat_map f es ++ x ∷ []
  collect-one es e x h = flat_map-append f es (e ∷ []) ∙ ap (λ xs. flat_map f es ++ (xs ++ [])) h

any_or : (p q : Bool) → p ≡ true → (p || q) ≡ true
any_or true q h = refl
any_or false q h = absurd (let bad : false ≡ true = h in cc)

any_or_new : (p q : Bool) → q ≡ true → (p || (q || false)) ≡ true
any_or_new true q h = refl
any_or_new false true h = refl
any_or_new false false h = h

module _ {A : Type 0} (p : A → Bool) where
  -- what was among them still is
  pub any-more : (es fs : List A) → list_any p es ≡ true → list_any p (es ++ fs) ≡ true
  any-more es fs h = list_any-append p es fs ∙ any_or (list_any p es) (list_any p fs) h

  -- the new one is among them
  pub any-new : (es : List A) (e : A) → p e ≡ true → list_any p (es ++ e ∷ []) ≡ true
  any-new es e h = list_any-append p es (e ∷ []) ∙ any_or_new (list_any p es) (p e) h

-- it holds of each entry
abbrev pub EachOf : (Entry → Type 0) → List Entry → Type 0
EachOf P [] = Unit {0}
EachOf P (e ∷ es) = P e × EachOf P es

module _ (P : Entry → Type 0) where
  pub each_of-snoc : (es : List Entry) (e : Entry) → EachOf P es → P e → EachOf P (es ++ e ∷ [])
  each_of-snoc [] e h p = (p, tt)
  each_of-snoc (d ∷ es) e h p = (h.0, each_of-snoc es e h.1 p)

  pub each_of-at : (es : List Entry) (d : Entry) (fs : List Entry) → EachOf P (es ++ d ∷ fs) → P d
  each_of-at [] d fs h = h.0
  each_of-at (e ∷ es) d fs h = each_of-at es d fs h.1

pub each_of-weaken : (P Q : Entry → Type 0) → ((e : Entry) → P e → Q e) → (es : List Entry) → EachOf P es → EachOf Q es
each_of-weaken P Q more [] h = tt
each_of-weaken P Q more (e ∷ es) h = (more e h.0, each_of-weaken P Q more es h.1)

-- what an entry of line q passes
pub answers-line : (q : ℕ) (e : Entry) → command_line e.what ≡ Some q → answers q e ≡ true
answers-line q e h = ap (is_number q) h ∙ same
  where
    same : q == q ≡ true
    same = search rules

pub answers-none : (q : ℕ) (e : Entry) → command_line e.what ≡ None → answers q e ≡ false
answers-none q e h = ap (is_number q) h

pub finishes-line : (q : ℕ) (e : Entry) → command_line e.what ≡ Some q → is_post e.what ≡ false → finishes q e ≡ true
finishes-line q e h post = ap (λ p. p && not (is_post e.what)) (answers-line q e h) ∙ ap not post

begun_of : (p q : Bool) → (p && q) ≡ true → p ≡ true
begun_of true q h = refl
begun_of false q h = absurd (let bad : false ≡ true = h in cc)

begun_step : (q : ℕ) (e : Entry) (es : List Entry) (f a : Bool) → (f ≡ true → a ≡ true) → (is_finished q es ≡ true → is_begun q es ≡ true) → (f || is_finished q es) ≡ true → (a || is_begun q es) ≡ true
begun_step q e es true a one more h = any_or a (is_begun q es) (one refl)
begun_step q e es false true one more h = refl
begun_step q e es false false one more h = more h

-- a command that is finished has begun
pub finished-begun : (q : ℕ) (es : List Entry) → is_finished q es ≡ true → is_begun q es ≡ true
finished-begun q [] h = h
finished-begun q (e ∷ es) h = begun_step q e es (finishes q e) (answers q e) (begun_of (answers q e) (not (is_post e.what))) (finished-begun q es) h

before_by : (q : ℕ) (e : Entry) (es fs : List Entry) (a : Bool) → (is_begun q es ≡ true → before_command q (es ++ fs) ≡ before_command q es) → (a || is_begun q es) ≡ true →
    (if a then [] else e ∷ before_command q (es ++ fs)) ≡ (if a then [] else e ∷ before_command q es)
before_by q e es fs true more h = refl
before_by q e es fs false more h = ap (λ xs. e ∷ xs) (more h)

-- where the command has begun, the entries before it stay
pub before_command-stays : (q : ℕ) (es fs : List Entry) → is_begun q es ≡ true → before_command q (es ++ fs) ≡ before_command q es
before_command-stays q [] fs h = absurd (let bad : false ≡ true = h in cc)
before_command-stays q (e ∷ es) fs h = before_by q e es fs (answers q e) (before_command-stays q es fs) h

-- no entry answers the command in line q
abbrev pub NoneOf : ℕ → List Entry → Type 0
NoneOf q es = EachOf (λ e. answers q e ≡ false) es

-- where the command begins, all entries are before it
pub before_command-all : (q : ℕ) (es : List Entry) (e : Entry) → NoneOf q es → answers q e ≡ true → before_command q (es ++ e ∷ []) ≡ es
before_command-all q [] e h a = ap (λ t. if t then [] else e ∷ []) a
before_command-all q (d ∷ es) e h a = ap (λ t. if t then [] else d ∷ before_command q (es ++ e ∷ [])) h.0 ∙ ap (λ xs. d ∷ xs) (before_command-all q es e h.1 a)

pub before_command-none : (q : ℕ) (es : List Entry) → NoneOf q es → before_command q es ≡ es
before_command-none q [] h = refl
before_command-none q (d ∷ es) h = ap (λ t. if t then [] else d ∷ before_command q es) h.0 ∙ ap (λ xs. d ∷ xs) (before_command-none q es h.1)
