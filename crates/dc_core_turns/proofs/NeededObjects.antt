-- The object outside a block that its call needs, in a pass.
use Rattle.std.proofs.lemmas.Bool.Decides.{nat_tests}
use Rattle.std.proofs.Common.{◌≡◌, ℕ, ◌<◌, ◌≤◌, true, false, Bool, List, ◌∷◌, Option, Some, None, refl, sym, ap, ◌∙◌, subst, inl, inr, arith}
use Rattle.std.specs.Prelude.{slice_get, nat_lt, if◌then◌else◌}
use Rattle.std.specs.Option.{option_map}
use Rattle.dc_base.specs.declared.calls.Need.{Need}
use Rattle.dc_base.specs.declared.calls.Need.TheVariants as needs
use Rattle.dc_base.specs.declared.numbers.LineNo.{LineNo}
use Rattle.dc_base.specs.Changes.{Name, a_console, a_channel, a_line, at, core_becomes, block_becomes, channel, console, wire, apply}
use Rattle.dc_base.specs.CoreTouches.{needed}
use Rattle.dc_base.specs.Histories.{Listed}
use Rattle.dc_base.specs.NeededLooks.{as_console, as_channel, as_line, outside_change}
use Rattle.dc_base.specs.NeedsHere.{need_here}
use Rattle.dc_base.specs.Objects.{HasSizes}
use Rattle.dc_base.specs.Serving.{Outside, nothing_outside, console_outside, channel_outside, line_outside}
use Rattle.dc_base.specs.States.{State, Core, Block, Member, Settings}
use Rattle.dc_block_sound.proofs.Elements.{set_here}
use Rattle.dc_calls.specs.declared.outsides.Outside.{Outside as Held}
use Rattle.dc_calls.specs.declared.outsides.Outside.TheVariants as held
use Rattle.dc_calls.specs.Outsides.{Fits, outside_seen}
use Rattle.dc_kernel.specs.Turned.{look_in}
use Rattle.dc_bodies.specs.OutsideKinds.{SameKind}
use Rattle.dc_machine.specs.Lifts.{HasNeeded}
use Rattle.dc_stage.specs.History.{Log}
use Rattle.dc_touch.specs.Within.{Within}
use Rattle.dc_core_turns.specs.Beyond.{HasOutside}
use Rattle.dc_hands.specs.Holding.{Has, SeesOn}
use Rattle.dc_hands.specs.Machines.{Staged, Passing, state_after}
use Rattle.dc_hands.proofs.HeldHands.{IsBeyond}
use Rattle.dc_core_turns.proofs.IntakeMade.{line_at}
use Rattle.dc_core_turns.proofs.WakeMade.{channel_at}

pub console_at : (o : Option (List ℕ)) (ws : List ℕ) → option_map console o ≡ Some (console ws) → o ≡ Some ws
console_at None ws e = absurd cc
console_at (Some vs) ws e = let f : console vs ≡ console ws = cc in let same : vs ≡ ws = cc in ap Some same

-- settings with as many lines
pub need_alike : (t u : Settings) → t.lines ≡ u.lines → (n : Need) → need_here t n ≡ need_here u n
need_alike t u e needs.Nothing = refl
need_alike t u e needs.Console = refl
need_alike t u e (needs.Channel x) = refl
need_alike t u e (needs.Line l) = ap (λ m. if nat_lt l.0 m then needs.Line l else needs.Nothing) e

-- a line that there is
line_counted : (t : Settings) (l : LineNo) (f : Bool) → nat_lt l.0 t.lines ≡ f → (m : Name) → Listed m (needed 0 (if f then needs.Line l else needs.Nothing)) → Within t m
line_counted t l true e m (inl q) = subst (Within t) (sym q) (grind (arith, nat_tests))
line_counted t l true e m (inr q) = absurd q
line_counted t l false e m q = absurd q

-- what a call needs is there
pub needed_within : (t : Settings) (s : State) (b : ℕ) (n : Need) → HasSizes t s → HasNeeded s b n → (m : Name) → Listed m (needed b (need_here t n)) → Within t m
needed_within t s b needs.Nothing sizes h m l = absurd l
needed_within t s b needs.Console sizes h m (inl e) = subst (Within t) (sym e) (subst (λ c. b < c) sizes.consoles h)
needed_within t s b needs.Console sizes h m (inr l) = absurd l
needed_within t s b (needs.Channel x) sizes h m (inl e) = subst (Within t) (sym e) (subst (λ c. x.0 < c) sizes.channels h)
needed_within t s b (needs.Channel x) sizes h m (inr l) = absurd l
needed_within t s b (needs.Line l) sizes h m q = line_by (nat_lt l.0 t.lines) refl q
  where
    line_by : (f : Bool) → nat_lt l.0 t.lines ≡ f → Listed m (needed b (if f then needs.Line l else needs.Nothing)) → Within t m
    line_by true e q = line_counted t l true e m q
    line_by false e q = absurd q

-- and it is none of the core's objects
pub needed_beyond : (c : ℕ) (share : List Member) (b : ℕ) (n : Need) (m : Name) → Listed m (needed b n) → IsBeyond c share m
needed_beyond c share b needs.Nothing m l = absurd l
needed_beyond c share b needs.Console m (inl e) = subst (IsBeyond c share) (sym e) tt
needed_beyond c share b needs.Console m (inr l) = absurd l
needed_beyond c share b (needs.Channel x) m (inl e) = subst (IsBeyond c share) (sym e) tt
needed_beyond c share b (needs.Channel x) m (inr l) = absurd l
needed_beyond c share b (needs.Line l) m (inl e) = subst (IsBeyond c share) (sym e) tt
needed_beyond c share b (needs.Line l) m (inr q) = absurd q

here_true : (b : ℕ) (s : State) (l : LineNo) (f : Bool) → f ≡ true → look_in s b (if f then needs.Line l else needs.Nothing) ≡ as_line (slice_get s.lines l.0)
here_true b s l true e = refl
here_true b s l false e = absurd cc

here_false : (b : ℕ) (s : State) (l : LineNo) (f : Bool) → f ≡ false → look_in s b (if f then needs.Line l else needs.Nothing) ≡ nothing_outside
here_false b s l true e = absurd cc
here_false b s l false e = refl

counts : (m n : ℕ) → m < n → nat_lt m n ≡ true
counts m n h = grind (arith, nat_tests)

counts_not : (m n : ℕ) → n ≤ m → nat_lt m n ≡ false
counts_not m n h = grind (arith, nat_tests)

module _ {D : Type 0} (st : Staged D) (k : Passing D) (b : ℕ) where
  pub outside_fits : (n : Need) (o : Held) → HasOutside st k b n o → Fits n o
  outside_fits needs.Nothing held.Nothing h = tt
  outside_fits needs.Nothing (held.Channel r) h = absurd h
  outside_fits needs.Nothing (held.Line w) h = absurd h
  outside_fits needs.Nothing (held.Console ws) h = absurd h
  outside_fits needs.Console held.Nothing h = absurd h
  outside_fits needs.Console (held.Channel r) h = absurd h
  outside_fits needs.Console (held.Line w) h = absurd h
  outside_fits needs.Console (held.Console ws) h = tt
  outside_fits (needs.Channel x) held.Nothing h = absurd h
  outside_fits (needs.Channel x) (held.Channel r) h = tt
  outside_fits (needs.Channel x) (held.Line w) h = absurd h
  outside_fits (needs.Channel x) (held.Console ws) h = absurd h
  outside_fits (needs.Line l) held.Nothing h = tt
  outside_fits (needs.Line l) (held.Channel r) h = absurd h
  outside_fits (needs.Line l) (held.Line w) h = tt
  outside_fits (needs.Line l) (held.Console ws) h = absurd h

  -- the object stands so in each state to which the history goes on
  pub outside_stands : (n : Need) (o : Held) → HasOutside st k b n o → (log : Log _) → SeesOn st k log → outside_seen o ≡ look_in (state_after st log) b (need_here st.scene.settings n)
  outside_stands needs.Nothing held.Nothing h log on = refl
  outside_stands needs.Nothing (held.Channel r) h log on = absurd h
  outside_stands needs.Nothing (held.Line w) h log on = absurd h
  outside_stands needs.Nothing (held.Console ws) h log on = absurd h
  outside_stands needs.Console held.Nothing h log on = absurd h
  outside_stands needs.Console (held.Channel r) h log on = absurd h
  outside_stands needs.Console (held.Line w) h log on = absurd h
  outside_stands needs.Console (held.Console ws) h log on =
      sym (ap as_console (console_at (slice_get (state_after st log).consoles b) ws (on.kept (a_console b) h.within h.held ∙ h.stands)))
  outside_stands (needs.Channel x) held.Nothing h log on = absurd h
  outside_stands (needs.Channel x) (held.Channel r) h log on =
      sym (ap as_channel (channel_at (slice_get (state_after st log).channels x.0) r (on.kept (a_channel x.0) h.within h.held ∙ h.stands)))
  outside_stands (needs.Channel x) (held.Line w) h log on = absurd h
  outside_stands (needs.Channel x) (held.Console ws) h log on = absurd h
  outside_stands (needs.Line l) held.Nothing h log on = sym (here_false b (state_after st log) l (nat_lt l.0 st.scene.settings.lines) (counts_not l.0 st.scene.settings.lines h))
  outside_stands (needs.Line l) (held.Channel r) h log on = absurd h
  outside_stands (needs.Line l) (held.Line w) h log on =
      sym (here_true b (state_after st log) l (nat_lt l.0 st.scene.settings.lines) (counts l.0 st.scene.settings.lines h.within)
      ∙ ap as_line (line_at (slice_get (state_after st log).lines l.0) w (on.kept (a_line l.0) h.within h.held ∙ h.stands)))
  outside_stands (needs.Line l) (held.Console ws) h log on = absurd h

  module _ (l : Passing D) (c : ℕ) (k' : Core) (y : Block) where
    abbrev now : State
    now = state_after st k.seen

    abbrev after : Need → Outside → State
    after n out = apply now (core_becomes c k' ∷ block_becomes b y ∷ outside_change b n out)

    -- what is held stands afterwards as the changes make it
    abbrev Made : Need → Outside → Type 0
    Made n out = (m : Name) (o p : _) → Has st k m o → at (after n out) m ≡ Some p → Has st l m p

    -- the object as the slice leaves it
    pub outside_made : (n : Need) (o o' : Held) → HasOutside st k b n o → SameKind (outside_seen o) (outside_seen o') → Made n (outside_seen o') → HasOutside st l b n o'
    unfolding outside_change
    outside_made needs.Nothing held.Nothing held.Nothing h same made = tt
    outside_made (needs.Line x) held.Nothing held.Nothing h same made = h
    outside_made needs.Console held.Nothing o' h same made = absurd h
    outside_made (needs.Channel x) held.Nothing o' h same made = absurd h
    outside_made n held.Nothing (held.Channel r) h same made = absurd same
    outside_made n held.Nothing (held.Line w) h same made = absurd same
    outside_made n held.Nothing (held.Console ws) h same made = absurd same
    outside_made (needs.Channel x) (held.Channel r) (held.Channel q) h same made =
        made (a_channel x.0) (channel r) (channel q) h (ap (option_map channel) (set_here now.channels x.0 r q (channel_at (slice_get now.channels x.0) r h.stands)))
    outside_made needs.Nothing (held.Channel r) o' h same made = absurd h
    outside_made needs.Console (held.Channel r) o' h same made = absurd h
    outside_made (needs.Line x) (held.Channel r) o' h same made = absurd h
    outside_made n (held.Channel r) held.Nothing h same made = absurd same
    outside_made n (held.Channel r) (held.Line w) h same made = absurd same
    outside_made n (held.Channel r) (held.Console ws) h same made = absurd same
    outside_made (needs.Line x) (held.Line w) (held.Line v) h same made =
        made (a_line x.0) (wire w) (wire v) h (ap (option_map wire) (set_here now.lines x.0 w v (line_at (slice_get now.lines x.0) w h.stands)))
    outside_made needs.Nothing (held.Line w) o' h same made = absurd h
    outside_made needs.Console (held.Line w) o' h same made = absurd h
    outside_made (needs.Channel x) (held.Line w) o' h same made = absurd h
    outside_made n (held.Line w) held.Nothing h same made = absurd same
    outside_made n (held.Line w) (held.Channel r) h same made = absurd same
    outside_made n (held.Line w) (held.Console ws) h same made = absurd same
    outside_made needs.Console (held.Console ws) (held.Console vs) h same made =
        made (a_console b) (console ws) (console vs) h (ap (option_map console) (set_here now.consoles b ws vs (console_at (slice_get now.consoles b) ws h.stands)))
    outside_made needs.Nothing (held.Console ws) o' h same made = absurd h
    outside_made (needs.Channel x) (held.Console ws) o' h same made = absurd h
    outside_made (needs.Line x) (held.Console ws) o' h same made = absurd h
    outside_made n (held.Console ws) held.Nothing h same made = absurd same
    outside_made n (held.Console ws) (held.Channel r) h same made = absurd same
    outside_made n (held.Console ws) (held.Line w) h same made = absurd same

-- cores and blocks after the object outside changed
pub outside_cores : (s : State) (b : ℕ) (n : Need) (out : Outside) → (apply s (outside_change b n out)).cores ≡ s.cores
unfolding outside_change
outside_cores s b needs.Console (console_outside ws) = refl
outside_cores s b (needs.Channel x) (channel_outside r) = refl
outside_cores s b (needs.Line l) (line_outside w) = refl
outside_cores s b n out = refl

pub outside_blocks : (s : State) (b : ℕ) (n : Need) (out : Outside) → (apply s (outside_change b n out)).blocks ≡ s.blocks
unfolding outside_change
outside_blocks s b needs.Console (console_outside ws) = refl
outside_blocks s b (needs.Channel x) (channel_outside r) = refl
outside_blocks s b (needs.Line l) (line_outside w) = refl
outside_blocks s b n out = refl
