-- The object outside a block that a call of it needs, in a state.
use Rattle.std.proofs.Common.{◌≡◌, ◌⊎◌, inl, inr, ℕ, Bool, true, false, refl, ap}
use Rattle.std.specs.Prelude.{slice_get, nat_lt, if◌then◌else◌}
use Rattle.dc_base.specs.declared.calls.Need.{Need}
use Rattle.dc_base.specs.declared.calls.Need.TheVariants as needs
use Rattle.dc_base.specs.NeedsHere.{need_here}
use Rattle.dc_base.specs.Serving.{Outside, nothing_outside}
use Rattle.dc_base.specs.States.{State, Settings}
use Rattle.dc_base.specs.NeededLooks.{as_console, as_channel, as_line}

-- the object outside block b that a call needs
abbrev pub outside_at : State → ℕ → Need → Outside
outside_at s b needs.Nothing = nothing_outside
outside_at s b needs.Console = as_console (slice_get s.consoles b)
outside_at s b (needs.Channel x) = as_channel (slice_get s.channels x.0)
outside_at s b (needs.Line l) = as_line (slice_get s.lines l.0)

-- a line that does not exist is not needed
pub here_or_nothing : (t : Settings) (n : Need) → (need_here t n ≡ n) ⊎ (need_here t n ≡ needs.Nothing)
here_or_nothing t needs.Nothing = inl refl
here_or_nothing t needs.Console = inl refl
here_or_nothing t (needs.Channel x) = inl refl
here_or_nothing t (needs.Line l) = by_test (nat_lt l.0 t.lines)
  where
    by_test : (test : Bool) → ((if test then needs.Line l else needs.Nothing) ≡ needs.Line l) ⊎ ((if test then needs.Line l else needs.Nothing) ≡ needs.Nothing)
    by_test true = inl refl
    by_test false = inr refl

-- what the call gets is the object that it needs, or nothing
pub here_or_none : (t : Settings) (s : State) (b : ℕ) (n : Need) → (outside_at s b (need_here t n) ≡ outside_at s b n) ⊎ (outside_at s b (need_here t n) ≡ nothing_outside)
here_or_none t s b n = elim (here_or_nothing t n) [ inl same ↦ inl (ap (outside_at s b) same) | inr none ↦ inr (ap (outside_at s b) none) ]
