-- What becomes of the object that the call of a slice needed.
use Rattle.dc_base.specs.NeedsHere.{need_here}
use Rattle.std.proofs.Common.{◌≡◌, ℕ, List, [], ◌∷◌, ◌++◌, Bool, true, false, Option, Some, None, refl, sym, inl, inr, subst}
use Rattle.std.specs.Prelude.{slice_get, if◌then◌else◌, nat_lt, length, ⊤}
use Rattle.dc_base.specs.declared.calls.Need.{Need}
use Rattle.dc_base.specs.declared.calls.Need.TheVariants as needs
use Rattle.dc_base.specs.declared.calls.Op.{Op}
use Rattle.dc_base.specs.declared.messages.Message.{Message}
use Rattle.dc_base.specs.declared.kernels.Version.{Version}
use Rattle.dc_base.specs.Channels.{Ring, ring_after_send, ring_after_take}
use Rattle.dc_base.specs.ControlBlocks.{ControlBlock}
use Rattle.dc_base.specs.Kernel.{Call, faults, waits, makes, takes, prints, sends, receives, binds, gives, claims}
use Rattle.dc_base.specs.Lines.{Wire, rights_over}
use Rattle.dc_base.specs.Parts.{Parts}
use Rattle.dc_base.specs.Serving.{need, Outside, console_outside, channel_outside, line_outside, Served, faulted, served, serve, serve_send, serve_receive, serve_claim, nothing_outside}
use Rattle.dc_base.specs.Slices.{Halfway, stopped, stands, need_of, after_served, slice_end}
use Rattle.dc_base.specs.States.{State, Settings}
use Rattle.dc_base.specs.NeededLooks.{as_console, as_channel, as_line, outside_change}
use Rattle.dc_block_sound.proofs.OutsideAt.{outside_at, here_or_none}
use Rattle.dc_sound.proofs.Rules.{Rule, Obeys, Fine}

-- what the calls that need an object outside may do with it
pub record OutsideLaws (R : Rule) (s : State) (c b : ℕ) (call : Call) : Type 0 where
  pub prints_to : (w : ℕ) (p : Parts) (ws : List ℕ) → call ≡ prints w p → slice_get s.consoles b ≡ Some ws → nat_lt (length ws) 65536 ≡ true → R.console b (ws ++ w ∷ [])
  pub sends_to : (x : ℕ) (m : Message) (p : Parts) (r new : Ring) → call ≡ sends x m p → slice_get s.channels x ≡ Some r → ring_after_send r m ≡ Some new → R.channel x new
  pub takes_from : (x address : ℕ) (p : Parts) (r : Ring) (got : Message × Ring) → call ≡ receives x address p → slice_get s.channels x ≡ Some r → ring_after_take r ≡ Some got → R.channel x got.1
  pub binds_to : (l signal : ℕ) (p : Parts) (w : Wire) → call ≡ binds l signal p → slice_get s.lines l ≡ Some w → R.line l (record w { bound = Some (b, signal); route = Some c })
  pub gives_over : (l x rights : ℕ) (p : Parts) (w : Wire) → call ≡ gives l x rights p → slice_get s.lines l ≡ Some w → R.line l (record w { bound = None; offer = Some (x, rights) })
  pub claims_it : (l x slot rights : ℕ) (p : Parts) (w : Wire) → call ≡ claims l x slot p → slice_get s.lines l ≡ Some w → rights_over x w.offer ≡ Some rights → R.line l (record w { offer = None })

module _ (R : Rule) (s : State) (obeys : Obeys R s) (c b : ℕ) (call : Call) (laws : OutsideLaws R s c b call) (x : ControlBlock) (d ran : ℕ) (o : Op) where
  abbrev Left : Need → Outside → Served → Type 0
  Left n out a = Fine R (outside_change b (after_served x d ran o n out a).need (after_served x d ran o n out a).outside)

  printed : (w : ℕ) (p : Parts) (ws : List ℕ) → call ≡ prints w p → slice_get s.consoles b ≡ Some ws → (t : Bool) → nat_lt (length ws) 65536 ≡ t →
      Left needs.Console (console_outside ws) (if t then served None p (console_outside (ws ++ w ∷ [])) else faulted 11)
  unfolding outside_change
  printed w p ws h q true g = (laws.prints_to w p ws h q g, tt)
  printed w p ws h q false g = (obeys.consoles b ws q, tt)

  printed_at : (w : ℕ) (p : Parts) → call ≡ prints w p → (ws : Option (List ℕ)) → slice_get s.consoles b ≡ ws → Left needs.Console (as_console ws) (serve c b (prints w p) (as_console ws))
  unfolding outside_change serve
  printed_at w p h None q = tt
  printed_at w p h (Some ws) q = printed w p ws h q (nat_lt (length ws) 65536) refl

  sent : (y : ℕ) (m : Message) (p : Parts) (r : Ring) → call ≡ sends y m p → slice_get s.channels y ≡ Some r → (a : Option Ring) → ring_after_send r m ≡ a → Left (needs.Channel (record { 0 = y })) (channel_outside r) (serve_send y p a)
  unfolding outside_change
  sent y m p r h q None g = (obeys.channels y r q, tt)
  sent y m p r h q (Some new) g = (laws.sends_to y m p r new h q g, tt)

  sent_at : (y : ℕ) (m : Message) (p : Parts) → call ≡ sends y m p → (r : Option Ring) → slice_get s.channels y ≡ r → Left (needs.Channel (record { 0 = y })) (as_channel r) (serve c b (sends y m p) (as_channel r))
  unfolding outside_change serve
  sent_at y m p h None q = tt
  sent_at y m p h (Some r) q = sent y m p r h q (ring_after_send r m) refl

  taken : (y address : ℕ) (p : Parts) (r : Ring) → call ≡ receives y address p → slice_get s.channels y ≡ Some r → (a : Option (Message × Ring)) → ring_after_take r ≡ a → Left (needs.Channel (record { 0 = y })) (channel_outside r) (serve_receive y address p a)
  unfolding outside_change
  taken y address p r h q None g = (obeys.channels y r q, tt)
  taken y address p r h q (Some got) g = (laws.takes_from y address p r got h q g, tt)

  taken_at : (y address : ℕ) (p : Parts) → call ≡ receives y address p → (r : Option Ring) → slice_get s.channels y ≡ r → Left (needs.Channel (record { 0 = y })) (as_channel r) (serve c b (receives y address p) (as_channel r))
  unfolding outside_change serve
  taken_at y address p h None q = tt
  taken_at y address p h (Some r) q = taken y address p r h q (ring_after_take r) refl

  bound_at : (l signal : ℕ) (p : Parts) → call ≡ binds l signal p → (w : Option Wire) → slice_get s.lines l ≡ w → Left (needs.Line (record { 0 = l })) (as_line w) (serve c b (binds l signal p) (as_line w))
  unfolding outside_change serve
  bound_at l signal p h None q = tt
  bound_at l signal p h (Some w) q = (laws.binds_to l signal p w h q, tt)

  given_at : (l y rights : ℕ) (p : Parts) → call ≡ gives l y rights p → (w : Option Wire) → slice_get s.lines l ≡ w → Left (needs.Line (record { 0 = l })) (as_line w) (serve c b (gives l y rights p) (as_line w))
  unfolding outside_change serve
  given_at l y rights p h None q = tt
  given_at l y rights p h (Some w) q = (laws.gives_over l y rights p w h q, tt)

  claimed : (l y slot : ℕ) (p : Parts) (w : Wire) → call ≡ claims l y slot p → slice_get s.lines l ≡ Some w → (a : Option ℕ) → rights_over y w.offer ≡ a → Left (needs.Line (record { 0 = l })) (line_outside w) (serve_claim l slot p w a)
  unfolding outside_change
  claimed l y slot p w h q None g = (obeys.lines l w q, tt)
  claimed l y slot p w h q (Some rights) g = (laws.claims_it l y slot rights p w h q g, tt)

  claimed_at : (l y slot : ℕ) (p : Parts) → call ≡ claims l y slot p → (w : Option Wire) → slice_get s.lines l ≡ w → Left (needs.Line (record { 0 = l })) (as_line w) (serve c b (claims l y slot p) (as_line w))
  unfolding outside_change serve
  claimed_at l y slot p h None q = tt
  claimed_at l y slot p h (Some w) q = claimed l y slot p w h q (rights_over y w.offer) refl

  left_by : (k : Call) → call ≡ k → Left (need k) (outside_at s b (need k)) (serve c b k (outside_at s b (need k)))
  unfolding need outside_change serve
  left_by (faults y) h = tt
  left_by (waits w) h = tt
  left_by (makes w p) h = tt
  left_by (takes l p) h = tt
  left_by (prints w p) h = printed_at w p h (slice_get s.consoles b) refl
  left_by (sends y m p) h = sent_at y m p h (slice_get s.channels y) refl
  left_by (receives y address p) h = taken_at y address p h (slice_get s.channels y) refl
  left_by (binds l signal p) h = bound_at l signal p h (slice_get s.lines l) refl
  left_by (gives l y rights p) h = given_at l y rights p h (slice_get s.lines l) refl
  left_by (claims l y slot p) h = claimed_at l y slot p h (slice_get s.lines l) refl

-- the laws of the call at which a slice stands
abbrev pub HalfLaws : Rule → State → ℕ → ℕ → Halfway → Type 0
HalfLaws R s c b (stopped x ran e) = ⊤
HalfLaws R s c b (stands x ran o call) = OutsideLaws R s c b call

-- the object that a slice's call needed
pub fine_slice : (R : Rule) (s : State) → Obeys R s → (c b : ℕ) (v : Version) (d : ℕ) (h : Halfway) → HalfLaws R s c b h →
    Fine R (outside_change b (slice_end c b v d h (outside_at s b (need_of h))).need (slice_end c b v d h (outside_at s b (need_of h))).outside)
unfolding slice_end outside_change
fine_slice R s obeys c b v d (stopped x ran e) laws = tt
fine_slice R s obeys c b v d (stands x ran o call) laws = left_by R s obeys c b call laws x d ran o call refl

-- nothing changes where the call got nothing

module _ (R : Rule) (c b : ℕ) (x : ControlBlock) (d ran : ℕ) (o : Op) where
  abbrev LeftAfter : Need → Served → Type 0
  LeftAfter n a = Fine R (outside_change b (after_served x d ran o n nothing_outside a).need (after_served x d ran o n nothing_outside a).outside)

  none_left : (k : Call) → LeftAfter (need k) (serve c b k nothing_outside)
  unfolding need outside_change serve
  none_left (faults y) = tt
  none_left (waits w) = tt
  none_left (makes w p) = tt
  none_left (takes l p) = tt
  none_left (prints w p) = tt
  none_left (sends y m p) = tt
  none_left (receives y address p) = tt
  none_left (binds l signal p) = tt
  none_left (gives l y rights p) = tt
  none_left (claims l y slot p) = tt

pub fine_without : (R : Rule) (c b : ℕ) (v : Version) (d : ℕ) (h : Halfway) → Fine R (outside_change b (slice_end c b v d h nothing_outside).need (slice_end c b v d h nothing_outside).outside)
unfolding slice_end outside_change
fine_without R c b v d (stopped x ran e) = tt
fine_without R c b v d (stands x ran o call) = none_left R c b x d ran o call

-- the object that it needed, where that exists
pub fine_here : (R : Rule) (s : State) → Obeys R s → (t : Settings) (c b : ℕ) (v : Version) (d : ℕ) (h : Halfway) → HalfLaws R s c b h →
    let sl = slice_end c b v d h (outside_at s b (need_here t (need_of h))) in
    Fine R (outside_change b sl.need sl.outside)
fine_here R s obeys t c b v d h laws = elim (here_or_none t s b (need_of h)) [
  | inl same ↦ subst (λ out. Fine R (outside_change b (slice_end c b v d h out).need (slice_end c b v d h out).outside)) (sym same) (fine_slice R s obeys c b v d h laws)
  | inr none ↦ subst (λ out. Fine R (outside_change b (slice_end c b v d h out).need (slice_end c b v d h out).outside)) (sym none) (fine_without R c b v d h)
]

-- a rule that asks nothing of channels, lines and consoles
pub no_outside : (R : Rule) (s : State) (c b : ℕ) → ((b : ℕ) (ws : List ℕ) → R.console b ws) → ((x : ℕ) (r : Ring) → R.channel x r) → ((l : ℕ) (w : Wire) → R.line l w) → (h : Halfway) → HalfLaws R s c b h
no_outside R s c b f g k (stopped x ran e) = tt
no_outside R s c b f g k (stands x ran o call) = record {
  prints_to = λ w p ws q h i. f _ _;
  sends_to = λ x m p r new q h i. g _ _;
  takes_from = λ x a p r got q h i. g _ _;
  binds_to = λ l n p w q h. k _ _;
  gives_over = λ l x rights p w q h. k _ _;
  claims_it = λ l x slot rights p w q h i. k _ _;
}
