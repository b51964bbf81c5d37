-- What a core did is read back from its words.
use Rattle.std.proofs.Common.{◌≡◌, ℕ, Bool, true, false, not, ◌&&◌, List, [], ◌∷◌, ◌++◌, refl, ap, decimal, codes, Some, option_map}
use Rattle.std.specs.Prelude.{if◌then◌else◌}
use Rattle.std.proofs.lemmas.Bool.{and_parts}
use Rattle.dc_base.specs.declared.kernels.Version.{Version}
use Rattle.dc_base.specs.declared.kernels.Version.TheVariants.{Rr, Edf}
use Rattle.dc_base.specs.declared.calls.Op.{Op}
use Rattle.dc_base.specs.declared.calls.Op.TheVariants as op
use Rattle.dc_base.specs.declared.calls.End.{End}
use Rattle.dc_base.specs.declared.calls.End.TheVariants as end
use Rattle.dc_base.specs.declared.interrupts.Latched.{Latched}
use Rattle.dc_base.specs.declared.interrupts.Latched.TheVariants as latched
use Rattle.dc_base.specs.declared.entries.What.{What}
use Rattle.dc_base.specs.declared.entries.What.TheVariants as what
use Rattle.dc_base.specs.TextWords.{is_word}
use Rattle.dc_base.specs.EntryText.{version_word, op_word, end_words, latched_word, adopted_word, what_words}
use Rattle.dc_base.specs.EntryRanges.{is_empty_end, is_of_core, is_end_in_range, is_what_in_range, are_in_range, is_time}
use Rattle.dc_base.specs.LooseWords.{word_at, last_word, op_of, version_of}
use Rattle.dc_base.specs.LooseEntries.{end_of, core_what}
use Rattle.dc_spelling.proofs.Numerals.{decimal_is_numeral, byte_read, numbers_read, time_read}
use Rattle.dc_spelling.proofs.EntryLines.{numeral_first, another_word}

pub version_read : (v : Version) → version_of (version_word v) ≡ Some v
version_read Rr = refl
version_read Edf = refl

op_read : (o : Op) → op_of (op_word o) ≡ Some o
op_read op.Out = refl
op_read o = refl

-- the end of a slice, whatever follows
end_read : (e : End) (more : List (List ℕ)) → not (is_empty_end e) ≡ true → is_end_in_range e ≡ true → end_of (word_at (end_words e ++ more) 0) (word_at (end_words e ++ more) 1) ≡ Some e
end_read end.Quantum more lined low = refl
end_read end.Halt more lined low = refl
end_read (end.Trap x) more lined low = ap (λ n. Some (end.Trap n)) (byte_read x low)
end_read (end.Call o) more lined low = ap (option_map end.Call) (op_read o)
end_read (end.Hold o) more lined low = ap (option_map end.Hold) (op_read o)
end_read end.Empty more lined low = absurd (cc lined)

-- the last word behind an end
last_read : (word : List ℕ) (e : End) (n : ℕ) → last_word (word ∷ (end_words e ++ codes "clock" ∷ decimal n ∷ [])) ≡ decimal n
last_read word end.Quantum n = refl
last_read word e n = refl

-- a number is no dash
no_dash : (n : ℕ) → is_word "-" (decimal n) ≡ false
no_dash n = another_word (codes "-") (decimal n) refl (numeral_first (decimal n) (decimal_is_numeral n))

pub parked_read : (parked : Bool) → is_word "parked" (adopted_word parked) ≡ parked
parked_read true = refl
parked_read false = refl

latched_read : (how : Latched) → (if is_word "latched" (latched_word how) then latched.Latched else latched.Coalesced) ≡ how
latched_read latched.Latched = refl
latched_read latched.Coalesced = refl

-- each of a core's kinds
pub core_read : (w : What) → is_of_core w ≡ true → is_what_in_range w ≡ true → core_what (what_words w) ≡ Some w
unfolding core_what
core_read (what.Slice b d fired ran e clock) lined low =
    let outer = and_parts (are_in_range (b.0 ∷ d.0 ∷ fired ∷ ran ∷ []) && is_end_in_range e) (is_time clock) low in
    let inner = and_parts (are_in_range (b.0 ∷ d.0 ∷ fired ∷ ran ∷ [])) (is_end_in_range e) outer.0 in
    let read = numbers_read (b.0 ∷ d.0 ∷ fired ∷ ran ∷ []) inner.0 in
    let ended = end_read e (codes "clock" ∷ decimal clock ∷ []) lined inner.1 in
    rw (no_dash d.0, ended, last_read (decimal ran) e clock, read.0, read.1.0, read.1.1.0, read.1.1.1.0, time_read clock outer.1)
core_read (what.SliceNone b fired clock) lined low =
    let parts = and_parts (are_in_range (b.0 ∷ fired ∷ [])) (is_time clock) low in
    let read = numbers_read (b.0 ∷ fired ∷ []) parts.0 in
    rw (read.0, read.1.0, time_read clock parts.1)
core_read (what.Idle clock) lined low = rw (time_read clock low)
core_read (what.Wake b d) lined low =
    let read = numbers_read (b.0 ∷ d.0 ∷ []) low in
    rw (read.0, read.1.0)
core_read (what.Intake l n b s how) lined low =
    let read = numbers_read (l.0 ∷ n ∷ b.0 ∷ s.0 ∷ []) low in
    rw (read.0, read.1.0, read.1.1.0, read.1.1.1.0, latched_read how)
core_read (what.Start v clock) lined low = rw (version_read v, time_read clock low)
core_read (what.Stop n) lined low = rw ((numbers_read (n ∷ []) low).0)
core_read (what.Replace v) lined low = rw (version_read v)
core_read (what.Adopt b parked time) lined low =
    let parts = and_parts (are_in_range (b.0 ∷ [])) (is_time time) low in
    rw ((numbers_read (b.0 ∷ []) parts.0).0, parked_read parked, time_read time parts.1)
core_read (what.Release b time) lined low =
    let parts = and_parts (are_in_range (b.0 ∷ [])) (is_time time) low in
    rw ((numbers_read (b.0 ∷ []) parts.0).0, time_read time parts.1)
core_read (what.Post q c o) lined low = absurd (cc lined)
core_read w lined low = absurd (cc lined)
