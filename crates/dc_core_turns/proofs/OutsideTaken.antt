-- The object outside a block that its call needs was taken.
use Rattle.std.proofs.Common.{◌≡◌, ℕ, ◌<◌, List, refl, sym, ap, subst, inl}
use Rattle.dc_base.specs.declared.calls.Need.{Need}
use Rattle.dc_base.specs.declared.calls.Need.TheVariants as needs
use Rattle.dc_base.specs.declared.numbers.ChanNo.{ChanNo}
use Rattle.dc_base.specs.Changes.{Name, a_channel, a_console, channel, console}
use Rattle.dc_base.specs.Channels.{Ring}
use Rattle.dc_base.specs.Histories.{Listed}
use Rattle.dc_calls.specs.declared.outsides.Outside.TheVariants as held
use Rattle.dc_touch.specs.Within.{Within}
use Rattle.dc_core_turns.specs.Beyond.{GetsOutside, needed_here}
use Rattle.dc_hands.specs.Holding.{Gets}
use Rattle.dc_hands.specs.Machines.{Staged, Passing}
use Rattle.dc_hands.proofs.Seeing.{has_taken}
use Rattle.dc_core_turns.proofs.TurnParts.{taken_quietly}

module _ {D : Type 0} (st : Staged D) (k l : Passing D) (b : ℕ) (n : Need) (within : (m : Name) → Listed m (needed_here st b n) → Within st.scene.settings m) where
  module _ (is : n ≡ needs.Console) where
    pub console_within : b < st.scene.settings.blocks
    console_within = within (a_console b) (subst (λ m. Listed (a_console b) (needed_here st b m)) (sym is) (inl refl))

    pub console_got : (ws : List ℕ) → Gets st k l (a_console b) (console ws) → GetsOutside st k l b n (held.Console ws)
    console_got ws g = subst (λ m. GetsOutside st k l b m (held.Console ws)) (sym is) (record {
      quiet = taken_quietly st k l (a_console b) (console ws) g;
      on = g.on;
      holds = ap (λ (p : Passing D). p.holds) g.same;
      has = has_taken st k l (a_console b) (console ws) g console_within;
    })

  module _ (x : ChanNo) (is : n ≡ needs.Channel x) where
    pub channel_within : x.0 < st.scene.settings.channels
    channel_within = within (a_channel x.0) (subst (λ m. Listed (a_channel x.0) (needed_here st b m)) (sym is) (inl refl))

    pub channel_got : (r : Ring) → Gets st k l (a_channel x.0) (channel r) → GetsOutside st k l b n (held.Channel r)
    channel_got r g = subst (λ m. GetsOutside st k l b m (held.Channel r)) (sym is) (record {
      quiet = taken_quietly st k l (a_channel x.0) (channel r) g;
      on = g.on;
      holds = ap (λ (p : Passing D). p.holds) g.same;
      has = has_taken st k l (a_channel x.0) (channel r) g channel_within;
    })
