-- The words of an entry's line: each is plain, and there are at most 16.
use Rattle.std.proofs.Common.{◌≡◌, Bool, true, false, length, nat_le, refl}
use Rattle.dc_base.specs.declared.kernels.Version.{Version}
use Rattle.dc_base.specs.declared.kernels.Version.TheVariants.{Rr, Edf}
use Rattle.dc_base.specs.declared.actions.Actor.{Actor}
use Rattle.dc_base.specs.declared.actions.Actor.TheVariants as actor
use Rattle.dc_base.specs.declared.calls.Op.{Op}
use Rattle.dc_base.specs.declared.calls.Op.TheVariants as op
use Rattle.dc_base.specs.declared.calls.End.{End}
use Rattle.dc_base.specs.declared.calls.End.TheVariants as end
use Rattle.dc_base.specs.declared.interrupts.Latched.{Latched}
use Rattle.dc_base.specs.declared.interrupts.Latched.TheVariants as latched
use Rattle.dc_base.specs.declared.interrupts.Raised.{Raised}
use Rattle.dc_base.specs.declared.interrupts.Raised.TheVariants as raised
use Rattle.dc_base.specs.declared.commands.Order.{Order}
use Rattle.dc_base.specs.declared.commands.Order.TheVariants as order
use Rattle.dc_base.specs.declared.commands.Refusal.{Refusal}
use Rattle.dc_base.specs.declared.commands.Refusal.TheVariants as refusal
use Rattle.dc_base.specs.declared.entries.What.{What}
use Rattle.dc_base.specs.declared.entries.What.TheVariants as what
use Rattle.dc_base.specs.EntryText.{version_word, op_word, end_words, latched_word, adopted_word, order_words, refusal_words, raised_words, actor_words, what_words}
use Rattle.dc_spelling.proofs.PlainWords.{is_plain, ArePlain, ArePlain-append}
use Rattle.dc_spelling.proofs.Numerals.{plain_number}

plain_version : (v : Version) → is_plain (version_word v) ≡ true
plain_version Rr = refl
plain_version Edf = refl

plain_op : (o : Op) → is_plain (op_word o) ≡ true
plain_op op.Out = refl
plain_op o = refl

plain_latched : (how : Latched) → is_plain (latched_word how) ≡ true
plain_latched latched.Latched = refl
plain_latched latched.Coalesced = refl

plain_adopted : (parked : Bool) → is_plain (adopted_word parked) ≡ true
plain_adopted true = refl
plain_adopted false = refl

plain_end : (e : End) → ArePlain (end_words e)
plain_end end.Quantum = (refl, tt)
plain_end end.Halt = (refl, tt)
plain_end (end.Trap x) = (refl, (plain_number x, tt))
plain_end (end.Call o) = (refl, (plain_op o, tt))
plain_end (end.Hold o) = (refl, (plain_op o, tt))
plain_end end.Empty = (refl, tt)

plain_order : (o : Order) → ArePlain (order_words o)
plain_order (order.Start v) = (refl, (plain_version v, tt))
plain_order order.Stop = (refl, tt)
plain_order (order.Replace v) = (refl, (plain_version v, tt))
plain_order (order.Adopt b parked) = (refl, (plain_number b.0, (plain_adopted parked, tt)))
plain_order (order.Release b) = (refl, (plain_number b.0, tt))

plain_refusal : (r : Refusal) → ArePlain (refusal_words r)
plain_refusal (refusal.AlreadyOn c) = (refl, (refl, (plain_number c.0, tt)))
plain_refusal (refusal.Off c) = (refl, (refl, (plain_number c.0, tt)))
plain_refusal (refusal.SameVersion c v) = (refl, (refl, (plain_number c.0, (plain_version v, tt))))
plain_refusal (refusal.NotAtRest b c) = (refl, (refl, (plain_number b.0, (plain_number c.0, tt))))
plain_refusal (refusal.HomeTaken c b) = (refl, (refl, (plain_number c.0, (plain_number b.0, tt))))
plain_refusal (refusal.NotHome b) = (refl, (refl, (plain_number b.0, tt)))
plain_refusal (refusal.NotParked b) = (refl, (refl, (plain_number b.0, tt)))
plain_refusal (refusal.OnThatCore b c) = (refl, (refl, (plain_number b.0, (plain_number c.0, tt))))
plain_refusal (refusal.ShareFull c) = (refl, (refl, (plain_number c.0, tt)))

plain_raised : (r : Raised) → ArePlain (raised_words r)
plain_raised (raised.Pended n) = (plain_number n, (refl, tt))
plain_raised (raised.Coalesced n) = (plain_number n, (refl, tt))
plain_raised (raised.Stray n) = (plain_number n, (refl, tt))

pub plain_actor : (who : Actor) → ArePlain (actor_words who)
plain_actor (actor.Core c) = (refl, (plain_number c.0, tt))
plain_actor actor.Script = (refl, tt)

pub plain_what : (w : What) → ArePlain (what_words w)
plain_what (what.Slice b d fired ran e clock) =
    (refl, (plain_number b.0, (plain_number d.0, (refl, (plain_number fired, (refl, (plain_number ran, ArePlain-append (end_words e) _ (plain_end e) (refl, (plain_number clock, tt)))))))))
plain_what (what.SliceNone b fired clock) =
    (refl, (plain_number b.0, (refl, (refl, (plain_number fired, (refl, (refl, (refl, (refl, (plain_number clock, tt))))))))))
plain_what (what.Idle clock) = (refl, (refl, (plain_number clock, tt)))
plain_what (what.Wake b d) = (refl, (plain_number b.0, (plain_number d.0, tt)))
plain_what (what.Intake l n b s how) = (refl, (plain_number l.0, (plain_number n, (plain_number b.0, (plain_number s.0, (plain_latched how, tt))))))
plain_what (what.Start v clock) = (refl, (plain_version v, (refl, (plain_number clock, tt))))
plain_what (what.Stop n) = (refl, (plain_number n, tt))
plain_what (what.Replace v) = (refl, (plain_version v, tt))
plain_what (what.Adopt b parked time) = (refl, (plain_number b.0, (plain_adopted parked, (refl, (plain_number time, tt)))))
plain_what (what.Release b time) = (refl, (plain_number b.0, (refl, (plain_number time, tt))))
plain_what (what.Post q c o) = (plain_number q, (refl, (plain_number c.0, plain_order o)))
plain_what (what.Done q) = (plain_number q, (refl, tt))
plain_what (what.Refused q r) = (plain_number q, (refl, plain_refusal r))
plain_what (what.Raise q l r) = (plain_number q, (refl, (plain_number l.0, plain_raised r)))
plain_what (what.Route q l c) = (plain_number q, (refl, (plain_number l.0, (plain_number c.0, tt))))
plain_what (what.Met q b n) = (plain_number q, (refl, (plain_number b.0, (plain_number n, tt))))
plain_what (what.Unmet q b n) = (plain_number q, (refl, (plain_number b.0, (plain_number n, tt))))

-- no actor and kind together have more than 15 words
pub few_words : (w : What) → nat_le (length (what_words w)) 13 ≡ true
few_words (what.Slice b d fired ran end.Quantum clock) = refl
few_words (what.Post q c order.Stop) = refl
few_words (what.Refused q (refusal.NotHome b)) = refl
few_words (what.Raise q l (raised.Stray n)) = refl
few_words w = refl
