-- Words read loosely: a word that is no number counts as 0, and names of calls and versions.
use Rattle.std.specs.Prelude.{ℕ, ◌^◌, ◌&&◌, nat_lt, List, [], ◌∷◌, if◌then◌else◌, find, bytes_eq, Option, get_or}
use Rattle.std.specs.List.{list_all}
use Rattle.std.specs.Char.{is_ascii_digit}
use Rattle.std.specs.Str.Parse.{digits_value}
use Rattle.dc_base.specs.declared.kernels.Version.{Version}
use Rattle.dc_base.specs.declared.kernels.Version.TheVariants.{Rr, Edf}
use Rattle.dc_base.specs.declared.calls.Op.{Op}
use Rattle.dc_base.specs.declared.calls.Op.TheVariants as op
use Rattle.dc_base.specs.EntryText.{op_word, version_word}

-- the number of a word below a limit, or 0 where the word is no such number
abbrev pub loose_number : ℕ → List ℕ → ℕ
loose_number limit word =
    let n = digits_value 10 word in
    if list_all is_ascii_digit word && nat_lt n limit then n else 0

-- the word at this place, or no byte
abbrev pub word_at : List (List ℕ) → ℕ → List ℕ
word_at words i = get_or words i []

abbrev pub last_word : List (List ℕ) → List ℕ
last_word [] = []
last_word (word ∷ []) = word
last_word (word ∷ next ∷ words) = last_word (next ∷ words)

-- the numbers of 32 bits and of 64 bits at a place
abbrev pub number_at : List (List ℕ) → ℕ → ℕ
number_at words i = loose_number (2 ^ 32) (word_at words i)

abbrev pub last_number : List (List ℕ) → ℕ
last_number words = loose_number (2 ^ 64) (last_word words)

abbrev pub all_ops : List Op
all_ops =
    op.Out ∷ op.Yield ∷ op.Send ∷ op.Recv ∷ op.Csend ∷ op.Crecv ∷ op.Wait ∷ op.Arm ∷ op.Copy ∷ op.Retype ∷ op.Delete ∷ op.Revoke ∷ op.Bind ∷
    op.Give ∷ op.Claim ∷ []

abbrev pub op_of : List ℕ → Option Op
op_of word = find (λ o. bytes_eq (op_word o) word) all_ops

abbrev pub version_of : List ℕ → Option Version
version_of word = find (λ v. bytes_eq (version_word v) word) (Rr ∷ Edf ∷ [])
