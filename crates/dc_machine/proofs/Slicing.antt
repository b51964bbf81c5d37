-- A slice, with the object that its call needs lifted out, is the slice of the core's turn.
use Rattle.dc_base.specs.declared.numbers.LineNo.{LineNo}
use Rattle.std.proofs.lemmas.Bool.Decides.{nat_tests}
use Rattle.std.proofs.Common.{◌≡◌, ℕ, ◌<◌, List, ◌∷◌, Option, Some, None, refl, sym, ap, ◌∙◌, subst, arith, length, get_or, Bool, true, false}
use Rattle.std.specs.Prelude.{slice_get, slice_set, ◌-◌, ◌^◌, nat_lt, if◌then◌else◌}
use Rattle.std.proofs.lemmas.Option.{same_Some, get_or_from_slice_get, slice_get_within, slice_get_past}
use Rattle.dc_base.specs.declared.calls.Need.{Need}
use Rattle.dc_base.specs.declared.calls.Need.TheVariants as needs
use Rattle.dc_base.specs.declared.entries.Entry.{Entry}
use Rattle.dc_base.specs.declared.numbers.BlockNo.{BlockNo}
use Rattle.dc_base.specs.declared.numbers.CoreNo.{CoreNo}
use Rattle.dc_base.specs.Changes.{core_becomes, block_becomes, apply}
use Rattle.dc_base.specs.Channels.{Ring}
use Rattle.dc_base.specs.Lines.{Wire}
use Rattle.dc_base.specs.Serving.{Outside, nothing_outside, console_outside, channel_outside, line_outside}
use Rattle.dc_base.specs.Sound.{IsSound}
use Rattle.dc_base.specs.States.{State, Core, Block, Mailbox, Script, rest, Settings}
use Rattle.dc_base.specs.NeededLooks.{as_console, as_channel, as_line, outside_change}
use Rattle.dc_base.specs.SliceTurns.{slice_turn}
use Rattle.dc_base.specs.Turns.{outcome}
use Rattle.dc_calls.specs.declared.outsides.Outside.{Outside as Held}
use Rattle.dc_calls.specs.declared.outsides.Outside.TheVariants as held
use Rattle.dc_calls.specs.Outsides.{outside_seen, HasRoom}
use Rattle.dc_kernel.specs.Turned.{look_in, look_here}
use Rattle.dc_objects.specs.declared.whole.Objects.{Objects}
use Rattle.dc_machine.specs.Answers.{Answers}
use Rattle.dc_bodies.specs.Sliced.{IsSlice}
use Rattle.dc_machine.specs.Lifts.{KeepsRest}
use Rattle.dc_bodies.specs.declared.stops.Stepped.TheVariants as stepped
use Rattle.dc_machine.proofs.InHands.{budget_most}

-- the whole state afterwards

abbrev whole : List Core → List Block → List Ring → List Wire → List Mailbox → List (List ℕ) → Script → State
whole cores blocks channels lines mailboxes consoles script = record { cores = cores; blocks = blocks; channels = channels; lines = lines; mailboxes = mailboxes; consoles = consoles; script = script }

same_whole : (c d : List Core) (b x : List Block) (r q : List Ring) (w l : List Wire) (m n : List Mailbox) (o p : List (List ℕ)) (t u : Script) → c ≡ d → b ≡ x → r ≡ q → w ≡ l → m ≡ n → o ≡ p → t ≡ u → whole c b r w m o t ≡ whole d x q l n p u
same_whole c d b x r q w l m n o p t u i j k e f g h = rw (i, j, k, e, f, g, h)

-- cores and blocks stand so, the objects outside as after the change, and the rest as before
pub record IsAfter (s t : State) (ks : List Core) (xs : List Block) (u : State) : Type 0 where
  pub cores : t.cores ≡ ks
  pub blocks : t.blocks ≡ xs
  pub channels : t.channels ≡ u.channels
  pub lines : t.lines ≡ u.lines
  pub consoles : t.consoles ≡ u.consoles
  pub mailboxes : t.mailboxes ≡ s.mailboxes
  pub script : t.script ≡ s.script

module _ (s t : State) (cores : List Core) (blocks : List Block) where
  whole_is : (u : State) → IsAfter s t cores blocks u → t ≡ whole cores blocks u.channels u.lines s.mailboxes u.consoles s.script
  whole_is u a = same_whole t.cores cores t.blocks blocks t.channels u.channels t.lines u.lines t.mailboxes s.mailboxes t.consoles u.consoles t.script s.script a.cores a.blocks a.channels a.lines a.mailboxes a.consoles a.script

  abbrev Goes : Need → Outside → Type 0
  Goes n out = (b : ℕ) → IsAfter s t cores blocks (apply s (outside_change b n out)) → t ≡ apply (record s { cores = cores; blocks = blocks }) (outside_change b n out)

  pub after_is : (n : Need) (out : Outside) → Goes n out
  unfolding outside_change
  after_is needs.Nothing nothing_outside b a = whole_is _ a
  after_is needs.Nothing (console_outside ws) b a = whole_is _ a
  after_is needs.Nothing (channel_outside r) b a = whole_is _ a
  after_is needs.Nothing (line_outside w) b a = whole_is _ a
  after_is needs.Console nothing_outside b a = whole_is _ a
  after_is needs.Console (console_outside ws) b a = whole_is _ a
  after_is needs.Console (channel_outside r) b a = whole_is _ a
  after_is needs.Console (line_outside w) b a = whole_is _ a
  after_is (needs.Channel x) nothing_outside b a = whole_is _ a
  after_is (needs.Channel x) (console_outside ws) b a = whole_is _ a
  after_is (needs.Channel x) (channel_outside r) b a = whole_is _ a
  after_is (needs.Channel x) (line_outside w) b a = whole_is _ a
  after_is (needs.Line l) nothing_outside b a = whole_is _ a
  after_is (needs.Line l) (console_outside ws) b a = whole_is _ a
  after_is (needs.Line l) (channel_outside r) b a = whole_is _ a
  after_is (needs.Line l) (line_outside w) b a = whole_is _ a

-- a channel of a sound state can count one message more
module _ (s : State) (p : IsSound s) (b : ℕ) where
  ring_room : (r : Ring) (n : Need) (o : Outside) → look_in s b n ≡ o → channel_outside r ≡ o → r.sent < 2 ^ 64 - 1
  ring_room r needs.Nothing o e f = absurd (let q : channel_outside r ≡ nothing_outside = f ∙ sym e in cc)
  ring_room r needs.Console o e f = by_console (slice_get s.consoles b) (f ∙ sym e)
    where
      by_console : (c : Option (List ℕ)) → channel_outside r ≡ as_console c → r.sent < 2 ^ 64 - 1
      by_console None q = absurd cc
      by_console (Some ws) q = absurd cc
  ring_room r (needs.Channel x) o e f = by_channel (slice_get s.channels x.0) refl (f ∙ sym e)
    where
      by_channel : (c : Option Ring) → slice_get s.channels x.0 ≡ c → channel_outside r ≡ as_channel c → r.sent < 2 ^ 64 - 1
      by_channel None g q = absurd cc
      by_channel (Some r') g q =
          let same : r ≡ r' = cc in
          let sent = p.counted.sent x.0 r' g in
          let most = budget_most s p in
          subst (λ (r : Ring). r.sent < 2 ^ 64 - 1) (sym same) (omega (arith, sent, most))
  ring_room r (needs.Line l) o e f = by_line (slice_get s.lines l.0) (f ∙ sym e)
    where
      by_line : (c : Option Wire) → channel_outside r ≡ as_line c → r.sent < 2 ^ 64 - 1
      by_line None q = absurd cc
      by_line (Some w) q = absurd cc

  pub has_room : (n : Need) (out : Held) → outside_seen out ≡ look_in s b n → HasRoom out
  has_room n held.Nothing e = tt
  has_room n (held.Channel r) e = ring_room r n (look_in s b n) refl e
  has_room n (held.Line w) e = tt
  has_room n (held.Console ws) e = tt

-- a line that is not looked at is not there
module _ (s : State) (p : IsSound s) (c : ℕ) (k : Core) (at : slice_get s.cores c ≡ Some k) (b : ℕ) where
  line_here : (l : LineNo) (t : Bool) → nat_lt l.0 k.settings.lines ≡ t → look_in s b (if t then needs.Line l else needs.Nothing) ≡ as_line (slice_get s.lines l.0)
  line_here l true q = refl
  line_here l false q =
      let long = p.settled.lines ∙ ap (λ (t : Settings). t.lines) (sym (p.settled.same c k at)) in
      sym (ap as_line (slice_get_past s.lines l.0 (grind (arith, nat_tests, q, long))))

  pub looked_here : (n : Need) → look_here k.settings s b n ≡ look_in s b n
  looked_here needs.Nothing = refl
  looked_here needs.Console = refl
  looked_here (needs.Channel x) = refl
  looked_here (needs.Line l) = line_here l (nat_lt l.0 k.settings.lines) refl

-- an item of a list that is the same
pub item_is : {A : Type 0} (xs ys : List A) (i : ℕ) (x v : A) → ys ≡ xs → slice_get xs i ≡ Some x → v ≡ get_or ys i v → v ≡ x
item_is {A} xs ys i x v q at e = e ∙ (ap (λ (zs : List A). get_or zs i v) q ∙ get_or_from_slice_get xs i x v at)

pub item_within : {A : Type 0} (xs ys : List A) (i : ℕ) (x : A) → ys ≡ xs → slice_get xs i ≡ Some x → i < length ys
item_within {A} xs ys i x q at = subst (λ (zs : List A). i < length zs) (sym q) (slice_get_within xs i x at)

-- a slice of objects in their places
pub sliced : (s new : State) (c : CoreNo) (k k' : Core) (b : BlockNo) (x x' : Block) (n : Need) (o out : Outside) (e : Entry) → slice_get s.blocks b.0 ≡ Some x → o ≡ look_here k.settings s b.0 n → IsSlice c.0 b.0 k k' x x' n o out e →
    IsAfter s new (slice_set s.cores c.0 k') (slice_set s.blocks b.0 x') (apply s (outside_change b.0 n out)) → Answers (stepped.Did e) s new (outcome s (slice_turn c.0 k b.0 (slice_get s.blocks b.0)))
sliced s new c k k' b x x' n o out e found looked slice a =
    let whole : new ≡ apply s (core_becomes c.0 k' ∷ block_becomes b.0 x' ∷ outside_change b.0 n out) = after_is s new (slice_set s.cores c.0 k') (slice_set s.blocks b.0 x') n out b.0 a in
    subst (Answers (stepped.Did e) s new) (sym (ap (λ (y : Option Block). outcome s (slice_turn c.0 k b.0 y)) found ∙ slice.turn s looked)) (refl, whole)

-- cores, blocks, mailboxes and the script of objects that keep them
module _ {D : Type 0} (o u : Objects D) (h : KeepsRest o u) where
  pub cores_kept : u.cores.items ≡ o.cores.items
  cores_kept = let e = h.cores in cc

  pub blocks_kept : u.blocks.items ≡ o.blocks.items
  blocks_kept = let e = h.blocks in cc

  pub core_is : (c : ℕ) (k v : Core) → slice_get o.cores.items c ≡ Some k → v ≡ get_or u.cores.items c v → v ≡ k
  core_is c k v at e = item_is o.cores.items u.cores.items c k v cores_kept at e

  pub block_is : (b : ℕ) (x v : Block) → slice_get o.blocks.items b ≡ Some x → v ≡ get_or u.blocks.items b v → v ≡ x
  block_is b x v at e = item_is o.blocks.items u.blocks.items b x v blocks_kept at e

  pub block_within : (b : ℕ) (x : Block) → slice_get o.blocks.items b ≡ Some x → b < length u.blocks.items
  block_within b x at = item_within o.blocks.items u.blocks.items b x blocks_kept at

  pub mailboxes_kept : u.mailboxes.items ≡ o.mailboxes.items
  mailboxes_kept = let e = h.mailboxes in cc

-- the facts of the core that a condition names
pub of_core : (P : Core → Type 0) (cs : List Core) (c : ℕ) (k m : Core) → slice_get cs c ≡ Some k → slice_get cs c ≡ Some m → P k → P m
of_core P cs c k m e f h = subst P (same_Some k m (sym e ∙ f)) h
