-- What the script did is read back from its words.
use Rattle.std.proofs.Common.{◌≡◌, ◌^◌, true, [], ◌∷◌, drop, decimal, Some, refl, ap}
use Rattle.dc_base.specs.declared.interrupts.Raised.{Raised}
use Rattle.dc_base.specs.declared.interrupts.Raised.TheVariants as raised
use Rattle.dc_base.specs.declared.commands.Order.{Order}
use Rattle.dc_base.specs.declared.commands.Order.TheVariants as order
use Rattle.dc_base.specs.declared.commands.Refusal.{Refusal}
use Rattle.dc_base.specs.declared.commands.Refusal.TheVariants as refusal
use Rattle.dc_base.specs.declared.entries.What.{What}
use Rattle.dc_base.specs.declared.entries.What.TheVariants as what
use Rattle.dc_base.specs.EntryText.{order_words, refusal_words, raised_words, what_words}
use Rattle.dc_base.specs.EntryRanges.{order_numbers, refusal_numbers, raised_number, is_of_script, is_what_in_range}
use Rattle.dc_base.specs.LooseWords.{loose_number, word_at, number_at}
use Rattle.dc_base.specs.LooseEntries.{order_of, refusal_of, raised_of, script_what}
use Rattle.dc_spelling.proofs.Numerals.{AreRead, numbers_read}
use Rattle.dc_spelling.proofs.CoreEntries.{version_read, parked_read}

order_read : (o : Order) → AreRead (order_numbers o) → order_of (order_words o) ≡ Some o
order_read (order.Start v) read = rw (version_read v)
order_read order.Stop read = refl
order_read (order.Replace v) read = rw (version_read v)
order_read (order.Adopt b parked) read = rw (read.0, parked_read parked)
order_read (order.Release b) read = rw (read.0)

-- behind its number
refusal_read : (r : Refusal) → AreRead (refusal_numbers r) → refusal_of (drop 1 (refusal_words r)) ≡ Some r
refusal_read (refusal.AlreadyOn c) read = rw (read.0)
refusal_read (refusal.Off c) read = rw (read.0)
refusal_read (refusal.SameVersion c v) read = rw (read.0, version_read v)
refusal_read (refusal.NotAtRest b c) read = rw (read.0, read.1.0)
refusal_read (refusal.HomeTaken c b) read = rw (read.0, read.1.0)
refusal_read (refusal.NotHome b) read = rw (read.0)
refusal_read (refusal.NotParked b) read = rw (read.0)
refusal_read (refusal.OnThatCore b c) read = rw (read.0, read.1.0)
refusal_read (refusal.ShareFull c) read = rw (read.0)

raised_read : (r : Raised) → loose_number (2 ^ 32) (decimal (raised_number r)) ≡ raised_number r → raised_of (number_at (raised_words r) 0) (word_at (raised_words r) 1) ≡ r
raised_read (raised.Pended n) read = ap raised.Pended read
raised_read (raised.Coalesced n) read = ap raised.Coalesced read
raised_read (raised.Stray n) read = ap raised.Stray read

-- each of the script's kinds
pub script_read : (w : What) → is_of_script w ≡ true → is_what_in_range w ≡ true → script_what (what_words w) ≡ Some w
unfolding script_what
script_read (what.Post q c o) lined low =
    let read = numbers_read (q ∷ c.0 ∷ order_numbers o) low in
    rw (read.0, read.1.0, order_read o read.1.1)
script_read (what.Done q) lined low = rw ((numbers_read (q ∷ []) low).0)
script_read (what.Refused q r) lined low =
    let read = numbers_read (q ∷ refusal_numbers r) low in
    rw (read.0, refusal_read r read.1)
script_read (what.Raise q l r) lined low =
    let read = numbers_read (q ∷ l.0 ∷ raised_number r ∷ []) low in
    rw (read.0, read.1.0, raised_read r read.1.1.0)
script_read (what.Route q l c) lined low =
    let read = numbers_read (q ∷ l.0 ∷ c.0 ∷ []) low in
    rw (read.0, read.1.0, read.1.1.0)
script_read (what.Met q b n) lined low =
    let read = numbers_read (q ∷ b.0 ∷ n ∷ []) low in
    rw (read.0, read.1.0, read.1.1.0)
script_read (what.Unmet q b n) lined low =
    let read = numbers_read (q ∷ b.0 ∷ n ∷ []) low in
    rw (read.0, read.1.0, read.1.1.0)
script_read (what.Idle clock) lined low = absurd (cc lined)
script_read w lined low = absurd (cc lined)
