-- The script stays in its hand, or is waited for, while more is seen.
use Rattle.std.proofs.Common.{◌≡◌, [], refl, ap, ◌∙◌}
use Rattle.dc_hands.specs.declared.hands.ScriptHand.{ScriptHand}
use Rattle.dc_hands.specs.Hands.{HoldsScript}
use Rattle.dc_hands.specs.Holding.{GoesOn, SeesOn}
use Rattle.dc_hands.specs.Machines.{Staged, Passing, IsOpened}
use Rattle.dc_hands.proofs.Seeing.{goes_now}
use Rattle.dc_script_turns.proofs.ScriptSteps.{begun, kept_script}
use Rattle.dc_stage.specs.History.{own}
use Rattle.dc_stage.specs.Numbers.{has}
use Rattle.dc_stage.specs.Passes.{having_seen}

-- the pass goes on with no entry of its own, and holds nothing
pub record HasWaited {D : Type 0} (k l : Passing D) : Type 0 where
  pub on : GoesOn k l
  pub mine : own k.actor l.seen ≡ own k.actor k.seen
  pub free : l.holds ≡ []

module _ {D : Type 0} where
  pub waits_not : (k : Passing D) → k.holds ≡ [] → HasWaited k k
  waits_not k free = record { on = goes_now k; mine = refl; free = free }

-- the hand holds the script after more was seen
pub script_seen : {D : Type 0} (st : Staged D) → IsOpened st → (k l : Passing D) (h : ScriptHand) → l ≡ having_seen k l.seen → SeesOn st k l.seen
    → HoldsScript st k h → HoldsScript st l h
script_seen {D} st opened k l h same on held = record {
  actor = ap (λ (p : Passing D). p.actor) same ∙ held.actor;
  lawful = on.lawful held.lawful;
  script = kept_script st k l.seen on h.script (begun st opened k h held).stands;
  polls = held.polls;
  holds = λ i. ap (λ (p : Passing D). has i p.holds) same ∙ held.holds i;
}
