-- What a line of the script names is an object of the machine, and what lines become.
use Rattle.std.proofs.Common.{◌≡◌, ◌<◌, ◌≤◌, ℕ, [], ◌∷◌, Some, sym, ap, subst}
use Rattle.std.specs.Prelude.{slice_get, ◌^◌, ◌-◌}
use Rattle.std.specs.Option.{option_map}
use Rattle.dc_base.specs.declared.commands.ScriptLine.TheVariants as line
use Rattle.dc_base.specs.declared.numbers.BlockNo.{BlockNo}
use Rattle.dc_base.specs.declared.numbers.CoreNo.{CoreNo}
use Rattle.dc_base.specs.declared.numbers.LineNo.{LineNo}
use Rattle.dc_base.specs.Changes.{a_line, apply, at, line_becomes, script_becomes, wire}
use Rattle.dc_base.specs.Lines.{Wire}
use Rattle.dc_base.specs.States.{State, Script}
use Rattle.dc_block_sound.proofs.Elements.{set_here}
use Rattle.dc_bodies.specs.Scripted.{GoesOn, IsNextRaise}
use Rattle.dc_machine.proofs.Raisings.{raise_fits, raised_there}
use Rattle.dc_machine.proofs.Scripted.{awaited_there, limit_within, routed_there}
use Rattle.dc_hands.specs.Machines.{IsLawfulHere, IsOpened, Passing, Staged, state_after}
use Rattle.dc_hands.proofs.Sounding.{sized_after, sound_after}

module _ {D : Type 0} (st : Staged D) (opened : IsOpened st) (k : Passing D) (lawful : IsLawfulHere st k.seen) where
  -- a line may be raised once more
  pub raise_room : (l : ℕ) (w : Wire) → slice_get (state_after st k.seen).lines l ≡ Some w → w.counts.raised < 2 ^ 32 - 1
  raise_room l w there = raise_fits (state_after st k.seen) l w (sound_after st opened k.seen lawful) there

  module _ (t : Script) (is : (state_after st k.seen).script ≡ t) where
    pub route_within : (l : LineNo) (c : CoreNo) → GoesOn t (line.Route l c) → l.0 < st.scene.settings.lines
    route_within l c h =
        let s = state_after st k.seen in
        subst (λ n. l.0 < n) (sized_after st opened k.seen).lines
        (routed_there s s.script.place l c (sound_after st opened k.seen lawful)
        (subst (λ (u : Script). slice_get u.lines u.place ≡ Some (line.Route l c)) (sym is) h.line))

    pub raise_within : (q : ℕ) (l : LineNo) → IsNextRaise t q l → l.0 < st.scene.settings.lines
    raise_within q l h =
        let s = state_after st k.seen in
        subst (λ n. l.0 < n) (sized_after st opened k.seen).lines
        (raised_there s q l (sound_after st opened k.seen lawful) (subst (λ (u : Script). slice_get u.lines q ≡ Some (line.Raise l)) (sym is) h.line))

    module _ (b : BlockNo) (words limit : ℕ) (h : GoesOn t (line.Await b words limit)) where
      stands_at : slice_get (state_after st k.seen).script.lines (state_after st k.seen).script.place ≡ Some (line.Await b words limit)
      stands_at = subst (λ (u : Script). slice_get u.lines u.place ≡ Some (line.Await b words limit)) (sym is) h.line

      pub await_within : b.0 < st.scene.settings.blocks
      await_within =
          let s = state_after st k.seen in
          subst (λ n. b.0 < n) (sized_after st opened k.seen).consoles
          (awaited_there s s.script.place b words limit (sound_after st opened k.seen lawful) stands_at)

      pub await_limit : limit ≤ 1000000000
      await_limit =
          let s = state_after st k.seen in
          limit_within s s.script.place b words limit (sound_after st opened k.seen lawful) stands_at

-- what a line becomes
pub line_at : (s : State) (u : Script) (l : ℕ) (w w' : Wire) → slice_get s.lines l ≡ Some w
    → at (apply s (line_becomes l w' ∷ script_becomes u ∷ [])) (a_line l) ≡ Some (wire w')
line_at s u l w w' there = ap (option_map wire) (set_here s.lines l w w' there)
