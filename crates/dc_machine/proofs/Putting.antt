-- The object outside a block, put back where it was lifted out.
use Rattle.std.proofs.Common.{◌≡◌, ℕ, ◌<◌, List, Bool, true, false, Option, Some, None, refl, sym, ◌∙◌, subst, arith, length, inl, inr}
use Rattle.std.specs.Prelude.{slice_get, slice_set, nat_lt}
use Rattle.std.proofs.lemmas.Bool.Decides.{nat_tests}
use Rattle.std.proofs.lemmas.Option.{none-some, slice_get_cases}
use Rattle.dc_base.specs.declared.calls.Need.{Need}
use Rattle.dc_base.specs.declared.calls.Need.TheVariants as needs
use Rattle.dc_base.specs.declared.numbers.ChanNo.{ChanNo}
use Rattle.dc_base.specs.declared.numbers.LineNo.{LineNo}
use Rattle.dc_base.specs.Changes.{apply}
use Rattle.dc_base.specs.Channels.{Ring}
use Rattle.dc_base.specs.Lines.{Wire}
use Rattle.dc_base.specs.Serving.{nothing_outside, console_outside, channel_outside, line_outside}
use Rattle.dc_base.specs.States.{State}
use Rattle.dc_base.specs.NeededLooks.{as_line, outside_change}
use Rattle.dc_calls.specs.declared.outsides.Outside.{Outside}
use Rattle.dc_calls.specs.declared.outsides.Outside.TheVariants as held
use Rattle.dc_calls.specs.Outsides.{outside_seen, Fits}
use Rattle.dc_kernel.specs.Turned.{look_in}
use Rattle.dc_objects.specs.declared.whole.Objects.{Objects}
use Rattle.dc_bodies.specs.OutsideKinds.{SameKind}
use Rattle.dc_machine.specs.Lifts.{AreOutside, IsLifted, LacksLine, LacksLineIf}
use Rattle.dc_bodies.specs.Slots.{lifted}

there_is : {A : Type 0} (xs : List A) (i : ℕ) → slice_get xs i ≡ None → nat_lt i (length xs) ≡ true → ⊥
there_is xs i e h = elim (slice_get_cases xs i).1 [
  | inl found ↦ none-some found.0 (sym e ∙ found.2)
  | inr past ↦ (let far = past.0 in grind (arith, nat_tests))
]

module _ {D : Type 0} (s : State) (o : Objects D) (b : ℕ) where
  no_line : (l : LineNo) (w : Option Wire) → slice_get s.lines l.0 ≡ w → SameKind (as_line w) nothing_outside → (t : Bool) → nat_lt l.0 (length s.lines) ≡ t → LacksLineIf t s o l.0 → AreOutside s o
  no_line l (Some w) e same t q h = absurd same
  no_line l None e same true q h = absurd (there_is s.lines l.0 e q)
  no_line l None e same false q h = h

  nothing_put : (n : Need) → Fits n held.Nothing → IsLifted s o b n → SameKind (look_in s b n) nothing_outside → AreOutside (apply s (outside_change b n nothing_outside)) o
  unfolding outside_change
  nothing_put needs.Nothing fits h same = h
  nothing_put needs.Console fits h same = absurd fits
  nothing_put (needs.Channel x) fits h same = absurd fits
  nothing_put (needs.Line l) fits h same = no_line l (slice_get s.lines l.0) refl same (nat_lt l.0 (length s.lines)) refl h

  -- nothing was lifted out
  pub put_nothing : (n : Need) (out : Outside) → out ≡ held.Nothing → Fits n out → IsLifted s o b n → SameKind (look_in s b n) (outside_seen out) → AreOutside (apply s (outside_change b n (outside_seen out))) o
  put_nothing n out e = subst (λ (out : Outside). Fits n out → IsLifted s o b n → SameKind (look_in s b n) (outside_seen out) → AreOutside (apply s (outside_change b n (outside_seen out))) o) (sym e) (nothing_put n)

  module _ (t : Objects D) where
    console_put : (n : Need) (ws : List ℕ) → Fits n (held.Console ws) → IsLifted s o b n → ((whole : List (List ℕ)) → o.consoles.items ≡ lifted whole b → b < length whole → t.consoles.items ≡ slice_set whole b ws) →
        t.channels.items ≡ o.channels.items → t.lines.items ≡ o.lines.items → AreOutside (apply s (outside_change b n (console_outside ws))) t
    unfolding outside_change
    console_put needs.Nothing ws fits h put e f = absurd fits
    console_put needs.Console ws fits h put e f = record { channels = e ∙ h.channels; lines = f ∙ h.lines; consoles = put s.consoles h.consoles h.within }
    console_put (needs.Channel x) ws fits h put e f = absurd fits
    console_put (needs.Line l) ws fits h put e f = absurd fits

    pub put_console : (n : Need) (out : Outside) (ws : List ℕ) → out ≡ held.Console ws → Fits n out → IsLifted s o b n → ((whole : List (List ℕ)) → o.consoles.items ≡ lifted whole b → b < length whole → t.consoles.items ≡ slice_set whole b ws) →
        t.channels.items ≡ o.channels.items → t.lines.items ≡ o.lines.items → AreOutside (apply s (outside_change b n (outside_seen out))) t
    put_console n out ws q fits h put e f =
        subst (λ (out : Outside). AreOutside (apply s (outside_change b n (outside_seen out))) t) (sym q) (console_put n ws (subst (Fits n) q fits) h put e f)

    channel_put : (x : ChanNo) (r : Ring) → IsLifted s o b (needs.Channel x) → ((whole : List Ring) → o.channels.items ≡ lifted whole x.0 → x.0 < length whole → t.channels.items ≡ slice_set whole x.0 r) →
        t.consoles.items ≡ o.consoles.items → t.lines.items ≡ o.lines.items → AreOutside (apply s (outside_change b (needs.Channel x) (channel_outside r))) t
    unfolding outside_change
    channel_put x r h put e f = record { channels = put s.channels h.channels h.within; lines = f ∙ h.lines; consoles = e ∙ h.consoles }

    pub put_channel : (n : Need) (out : Outside) (x : ChanNo) (r : Ring) → out ≡ held.Channel r → n ≡ needs.Channel x → IsLifted s o b n → ((whole : List Ring) → o.channels.items ≡ lifted whole x.0 → x.0 < length whole → t.channels.items ≡ slice_set whole x.0 r) →
        t.consoles.items ≡ o.consoles.items → t.lines.items ≡ o.lines.items → AreOutside (apply s (outside_change b n (outside_seen out))) t
    put_channel n out x r q p h put e f =
        subst (λ (out : Outside). AreOutside (apply s (outside_change b n (outside_seen out))) t) (sym q)
        (subst (λ (n : Need). AreOutside (apply s (outside_change b n (channel_outside r))) t) (sym p) (channel_put x r (subst (IsLifted s o b) p h) put e f))

    line_by : (l : LineNo) (w : Wire) → LacksLine s o l.0 → ((whole : List Wire) → o.lines.items ≡ lifted whole l.0 → l.0 < length whole → t.lines.items ≡ slice_set whole l.0 w) →
        t.consoles.items ≡ o.consoles.items → t.channels.items ≡ o.channels.items → AreOutside (apply s (outside_change b (needs.Line l) (line_outside w))) t
    unfolding outside_change
    line_by l w h put e f = record { channels = f ∙ h.channels; lines = put s.lines h.lines h.within; consoles = e ∙ h.consoles }

    lacks_line : (l : LineNo) (w : Wire) (a : Option Wire) → slice_get s.lines l.0 ≡ a → SameKind (as_line a) (line_outside w) → (u : Bool) → nat_lt l.0 (length s.lines) ≡ u → LacksLineIf u s o l.0 → LacksLine s o l.0
    lacks_line l w None q same u g h = absurd same
    lacks_line l w (Some v) q same true g h = h
    lacks_line l w (Some v) q same false g h = absurd (elim (slice_get_cases s.lines l.0).1 [
      | inl found ↦ (let near = found.1 in grind (arith, nat_tests))
      | inr past ↦ none-some v (sym past.1 ∙ q)
    ])

    pub put_line : (n : Need) (out : Outside) (l : LineNo) (w : Wire) → out ≡ held.Line w → n ≡ needs.Line l → IsLifted s o b n → SameKind (look_in s b n) (outside_seen out) → ((whole : List Wire) → o.lines.items ≡ lifted whole l.0 → l.0 < length whole → t.lines.items ≡ slice_set whole l.0 w) →
        t.consoles.items ≡ o.consoles.items → t.channels.items ≡ o.channels.items → AreOutside (apply s (outside_change b n (outside_seen out))) t
    put_line n out l w q p h same put e f =
        let kind = subst (λ (n : Need). SameKind (look_in s b n) (line_outside w)) p (subst (λ (out : Outside). SameKind (look_in s b n) (outside_seen out)) q same) in
        subst (λ (out : Outside). AreOutside (apply s (outside_change b n (outside_seen out))) t) (sym q)
        (subst (λ (n : Need). AreOutside (apply s (outside_change b n (line_outside w))) t) (sym p)
        (line_by l w (lacks_line l w (slice_get s.lines l.0) refl kind (nat_lt l.0 (length s.lines)) refl (subst (IsLifted s o b) p h)) put e f))

-- the object is lifted out of objects of which others change
module _ {D : Type 0} (s : State) (o u : Objects D) (e : u.channels ≡ o.channels) (f : u.lines ≡ o.lines) (g : u.consoles ≡ o.consoles) where
  outside_same : AreOutside s o → AreOutside s u
  outside_same h = record { channels = rw e h.channels; lines = rw f h.lines; consoles = rw g h.consoles }

  line_same : (l : ℕ) (t : Bool) → LacksLineIf t s o l → LacksLineIf t s u l
  line_same l true h = record { channels = rw e h.channels; lines = rw f h.lines; consoles = rw g h.consoles; within = h.within; room = rw f h.room }
  line_same l false h = outside_same h

  pub lifted_same : (b : ℕ) (n : Need) → IsLifted s o b n → IsLifted s u b n
  lifted_same b needs.Nothing h = outside_same h
  lifted_same b needs.Console h = record { channels = rw e h.channels; lines = rw f h.lines; consoles = rw g h.consoles; within = h.within; room = rw g h.room }
  lifted_same b (needs.Channel x) h = record { channels = rw e h.channels; lines = rw f h.lines; consoles = rw g h.consoles; within = h.within; room = rw e h.room }
  lifted_same b (needs.Line l) h = line_same l.0 (nat_lt l.0 (length s.lines)) h
