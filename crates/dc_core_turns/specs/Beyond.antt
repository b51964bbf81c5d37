-- The object outside a block that its call needs, beyond the hand of a core.
use Rattle.std.specs.Prelude.{◌≡◌, ◌≤◌, ℕ, List, ◌∷◌, ◌++◌, [], map, ⊤}
use Rattle.dc_base.specs.declared.calls.Need.{Need}
use Rattle.dc_base.specs.declared.calls.Need.TheVariants as needs
use Rattle.dc_base.specs.Changes.{Name, a_channel, a_console, a_line, channel, console, wire}
use Rattle.dc_base.specs.CoreTouches.{needed}
use Rattle.dc_base.specs.NeedsHere.{need_here}
use Rattle.dc_calls.specs.declared.outsides.Outside.{Outside}
use Rattle.dc_calls.specs.declared.outsides.Outside.TheVariants as outside
use Rattle.dc_stage.specs.Numbers.{without}
use Rattle.dc_hands.specs.declared.takes.Busy.{Busy}
use Rattle.dc_hands.specs.Gathering.{GoesQuietly}
use Rattle.dc_hands.specs.Holding.{Has, Misses, SeesOn}
use Rattle.dc_hands.specs.Machines.{Staged, Passing, number_of}

-- the numbers without each of these
abbrev pub without_each : List ℕ → List ℕ → List ℕ
without_each [] xs = xs
without_each (i ∷ is) xs = without i (without_each is xs)

module _ {D : Type 0} (st : Staged D) where
  -- the object that a call of block b needs, if there is one
  abbrev pub needed_here : ℕ → Need → List Name
  needed_here b n = needed b (need_here st.scene.settings n)

  -- the pass holds that object, which stands so; nothing where none is needed, and for a line that there is not
  abbrev pub HasOutside : Passing D → ℕ → Need → Outside → Type 0
  HasOutside k b needs.Nothing outside.Nothing = ⊤
  HasOutside k b needs.Console (outside.Console ws) = Has st k (a_console b) (console ws)
  HasOutside k b (needs.Channel x) (outside.Channel r) = Has st k (a_channel x.0) (channel r)
  HasOutside k b (needs.Line l) outside.Nothing = st.scene.settings.lines ≤ l.0
  HasOutside k b (needs.Line l) (outside.Line w) = Has st k (a_line l.0) (wire w)
  HasOutside k b n out = ⊥

  -- that object was taken, if there is one
  pub record GetsOutside (k l : Passing D) (b : ℕ) (n : Need) (out : Outside) : Type 0 where
    pub quiet : GoesQuietly k l
    pub on : SeesOn st k l.seen
    pub holds : l.holds ≡ map (number_of st) (needed_here b n) ++ k.holds
    pub has : HasOutside l b n out

  -- another actor had that object
  pub record MissesOutside (k l : Passing D) (b : ℕ) (n : Need) (busy : Busy) : Type 0 where
    pub name : Name
    pub named : needed_here b n ≡ name ∷ []
    pub misses : Misses st k l name busy
