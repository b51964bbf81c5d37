-- A block of which a slice has begun.
use Rattle.std.proofs.Common.{◌≡◌, ℕ, zero, suc, [], ◌∷◌, refl, ap}
use Rattle.std.specs.Prelude.{◌-◌, slice_set, List}
use Rattle.dc_base.specs.declared.calls.Need.{Need}
use Rattle.dc_base.specs.declared.calls.Need.TheVariants as needs
use Rattle.dc_base.specs.Changes.{apply}
use Rattle.dc_base.specs.NeededLooks.{outside_change}
use Rattle.dc_base.specs.Serving.{Outside, nothing_outside, console_outside, channel_outside, line_outside}
use Rattle.dc_base.specs.States.{State, Block}
use Rattle.dc_kernel.specs.Turned.{look_in}
use Rattle.dc_machine.specs.Lifts.{HasNeeded}

-- what is written twice is written last
pub set_twice : {A : Type 0} (xs : List A) (i : ℕ) (x y : A) → slice_set (slice_set xs i x) i y ≡ slice_set xs i y
set_twice [] i x y = refl
set_twice (z ∷ xs) zero x y = refl
set_twice (z ∷ xs) (suc i) x y = ap (λ ys. z ∷ ys) (set_twice xs i x y)

-- other blocks are no matter to what stands outside
module _ (s : State) (xs : List Block) (b : ℕ) where
  abbrev other : State
  other = record s { blocks = xs }

  pub needed_alike : (n : Need) → HasNeeded s b n → HasNeeded other b n
  needed_alike needs.Nothing h = h
  needed_alike needs.Console h = h
  needed_alike (needs.Channel x) h = h
  needed_alike (needs.Line l) h = h

  pub looked_alike : (n : Need) → look_in other b n ≡ look_in s b n
  looked_alike needs.Nothing = refl
  looked_alike needs.Console = refl
  looked_alike (needs.Channel x) = refl
  looked_alike (needs.Line l) = refl

  -- objects outside blocks that stand alike
  pub record AreAlike (t u : State) : Type 0 where
    pub channels : t.channels ≡ u.channels
    pub lines : t.lines ≡ u.lines
    pub consoles : t.consoles ≡ u.consoles

  abbrev Alike : Need → Outside → Type 0
  Alike n out = AreAlike (apply other (outside_change b n out)) (apply s (outside_change b n out))

  pub outside_alike : (n : Need) (out : Outside) → Alike n out
  unfolding outside_change
  outside_alike needs.Nothing nothing_outside = record { channels = refl; lines = refl; consoles = refl }
  outside_alike needs.Nothing (console_outside ws) = record { channels = refl; lines = refl; consoles = refl }
  outside_alike needs.Nothing (channel_outside r) = record { channels = refl; lines = refl; consoles = refl }
  outside_alike needs.Nothing (line_outside w) = record { channels = refl; lines = refl; consoles = refl }
  outside_alike needs.Console nothing_outside = record { channels = refl; lines = refl; consoles = refl }
  outside_alike needs.Console (console_outside ws) = record { channels = refl; lines = refl; consoles = refl }
  outside_alike needs.Console (channel_outside r) = record { channels = refl; lines = refl; consoles = refl }
  outside_alike needs.Console (line_outside w) = record { channels = refl; lines = refl; consoles = refl }
  outside_alike (needs.Channel x) nothing_outside = record { channels = refl; lines = refl; consoles = refl }
  outside_alike (needs.Channel x) (console_outside ws) = record { channels = refl; lines = refl; consoles = refl }
  outside_alike (needs.Channel x) (channel_outside r) = record { channels = refl; lines = refl; consoles = refl }
  outside_alike (needs.Channel x) (line_outside w) = record { channels = refl; lines = refl; consoles = refl }
  outside_alike (needs.Line l) nothing_outside = record { channels = refl; lines = refl; consoles = refl }
  outside_alike (needs.Line l) (console_outside ws) = record { channels = refl; lines = refl; consoles = refl }
  outside_alike (needs.Line l) (channel_outside r) = record { channels = refl; lines = refl; consoles = refl }
  outside_alike (needs.Line l) (line_outside w) = record { channels = refl; lines = refl; consoles = refl }
