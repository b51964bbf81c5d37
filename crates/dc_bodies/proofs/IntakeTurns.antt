-- What a core's intake comes to, by what stands.
use Rattle.std.proofs.Common.{◌≡◌, ℕ, [], ◌∷◌, Bool, true, false, Option, Some, None, refl, ap, ◌∙◌}
use Rattle.std.specs.Prelude.{slice_get, is_some, if◌then◌else◌}
use Rattle.std.specs.Option.{option_map}
use Rattle.dc_base.specs.declared.actions.Action.TheVariants as action
use Rattle.dc_base.specs.declared.entries.Entry.{Entry}
use Rattle.dc_base.specs.declared.entries.Reason.TheVariants as reason
use Rattle.dc_base.specs.declared.kernels.Version.{Version}
use Rattle.dc_base.specs.Changes.{block_becomes, line_becomes}
use Rattle.dc_base.specs.Cores.{core_turn, turn_of}
use Rattle.dc_base.specs.Intakes.{intake_line, intake_outcome, intake_pending, intake_turn}
use Rattle.dc_base.specs.Lines.{Wire}
use Rattle.dc_base.specs.Outcomes.{has, if_here, if_on}
use Rattle.dc_base.specs.States.{State, Core, Block}
use Rattle.dc_base.specs.Turns.{Turn, did, ends, look_block, look_line, not_enabled, outcome}
use Rattle.dc_base.specs.Words.{is_number}
use Rattle.dc_block_sound.proofs.Elements.{same_is}
use Rattle.dc_bodies.specs.declared.intakes.Pending.{Pending}
use Rattle.dc_bodies.specs.TakenIn.{IsIntake}

off_by : (s : State) (v : Option Version) (t : Turn) → is_some v ≡ false → outcome s (if_on v t) ≡ not_enabled reason.CoreOff
off_by s None t e = refl
off_by s (Some v) t e = absurd cc

on_by : (s : State) (v : Option Version) (t : Turn) → is_some v ≡ true → outcome s (if_on v t) ≡ outcome s t
on_by s None t e = absurd cc
on_by s (Some v) t e = refl

module _ (s : State) (c : ℕ) (k : Core) (l : ℕ) where
  pub core_off : is_some k.version ≡ false → outcome s (intake_turn c k l) ≡ not_enabled reason.CoreOff
  core_off e = off_by s k.version (look_line l (intake_line c k l)) e

  pub core_on : (w : Wire) → is_some k.version ≡ true → slice_get s.lines l ≡ Some w → outcome s (intake_turn c k l) ≡ outcome s (intake_line c k l (Some w))
  core_on w e f = on_by s k.version (look_line l (intake_line c k l)) e ∙ ap (λ o. outcome s (intake_line c k l o)) f

  pub pending_acts : (w : Wire) (n b i : ℕ) → w.bound ≡ Some (b, i) → w.pending ≡ Some n → w.route ≡ Some c → has k.share b ≡ true →
      outcome s (intake_line c k l (Some w)) ≡ intake_outcome c l w n b i (slice_get s.blocks b)
  pending_acts w n b i eb en er eh =
      ap (λ o. outcome s (intake_pending c k l w o w.pending)) eb
      ∙ ap (λ o. outcome s (intake_pending c k l w (Some (b, i)) o)) en
      ∙ ap (λ o. outcome s (if is_number c o then if_here k.share b goes else ends (not_enabled (reason.NotRouted (option_map (λ r. record { 0 = r }) w.route))))) er
      ∙ ap (λ (t : Bool). outcome s (if t then if_here k.share b goes else ends (not_enabled (reason.NotRouted (option_map (λ r. record { 0 = r }) w.route))))) (same_is c)
      ∙ ap (λ (t : Bool). outcome s (if t then goes else ends (not_enabled (reason.NotHere (record { 0 = b }))))) eh
    where
      goes : Turn
      goes = look_block b (λ o. ends (intake_outcome c l w n b i o))

-- a pending raise that is taken in
pub intake_is : (c l : ℕ) (p : Pending) (w w' : Wire) (x x' : Block) (e : Entry) → intake_outcome c l w p.number p.block.0 p.signal.0 (Some x) ≡ did (block_becomes p.block.0 x' ∷ line_becomes l w' ∷ []) e → IsIntake c l p w w' x x' e
unfolding turn_of
intake_is c l p w w' x x' e made s k h at polls =
    ap (λ o. outcome s (core_turn c (action.Intake (record { 0 = l })) o)) at.core
    ∙ core_on s c k l w at.is_on at.line
    ∙ pending_acts s c k l w p.number p.block.0 p.signal.0 h.bound h.number h.route h.here
    ∙ ap (λ o. intake_outcome c l w p.number p.block.0 p.signal.0 o) at.block
    ∙ made
