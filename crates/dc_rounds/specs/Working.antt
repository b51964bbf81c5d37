-- An actor at work: its objects in hand, and the log of its entries.
use Rattle.std.specs.Prelude.{◌≡◌, ◌<◌, ℕ, Some, true, length, slice_get, ⊤, [], ◌∷◌, ◌++◌}
use Rattle.dc_base.specs.declared.actions.Action.{Action}
use Rattle.dc_base.specs.declared.actions.Action.TheVariants as action
use Rattle.dc_base.specs.declared.dispatchers.DispState.{DispState}
use Rattle.dc_base.specs.Named.{waits_on_channel}
use Rattle.dc_base.specs.Outcomes.{share_blocks}
use Rattle.dc_base.specs.States.{Block}
use Rattle.dc_base.specs.Words.{Each}
use Rattle.dc_journal.specs.declared.merging.Logged.{Logged}
use Rattle.dc_logs.specs.Marks.{IsLogOf}
use Rattle.dc_logs.specs.Recorded.{Recorded}
use Rattle.dc_runs.specs.Tries.{IsInVain, IsTriedOut}
use Rattle.dc_rounds.specs.declared.acting.Went.{Went}
use Rattle.dc_rounds.specs.declared.acting.Went.TheVariants as went
use Rattle.dc_hands.specs.declared.hands.CoreHand.{CoreHand}
use Rattle.dc_hands.specs.Hands.{HoldsCore}
use Rattle.dc_hands.specs.Machines.{Staged, Passing, state_after}
use Rattle.dc_hands.specs.Rows.{in_row}

-- the action made no entry
abbrev pub IsNoDid : Went → Type 0
IsNoDid went.Did = ⊥
IsNoDid w = ⊤

-- nothing more was seen, and the hand is as it was
pub record IsStill {D : Type 0} (k l : Passing D) (h h' : CoreHand D) : Type 0 where
  pub seen : l.seen ≡ k.seen
  pub hand : h' ≡ h

-- an order or a step
abbrev pub IsPlain : Action → Type 0
IsPlain action.Order = ⊤
IsPlain action.Step = ⊤
IsPlain a = ⊥

module _ {D : Type 0} (st : Staged D) where
  -- the core holds its objects, and the log has its entries in what the pass has seen
  pub record WorksCore (k : Passing D) (l : Recorded) (h : CoreHand D) : Type 0 where
    pub hand : HoldsCore st k h
    pub log : IsLogOf k.actor k.seen l.entries

  -- What an action came to: its entry stands last in the log; or it makes no entry in the state after all that the pass has seen; or a take was refused; or
  -- the log has no room. The log is old before and new after.
  abbrev pub WentAt : (k l : Passing D) → (old new : Recorded) → ℕ → Action → Went → Type 0
  WentAt k l old new c a went.Did = (e : Logged) × (new.entries ≡ old.entries ++ e ∷ [])
  WentAt k l old new c a went.InVain = IsInVain (state_after st l.seen) c a
  WentAt k l old new c a went.Busy = (b : ℕ × ℕ) × (l.refused ≡ b ∷ k.refused)
  WentAt k l old new c a went.Full = length old.entries ≡ old.room

  -- after n entries the core can do nothing
  pub record IsQuietAt (n : ℕ) (k : Passing D) (c : ℕ) : Type 0 where
    pub length_is : length k.seen ≡ n
    pub tried : IsTriedOut (state_after st k.seen) c

  -- the action is in vain where nothing more was seen, and the hand is as it was
  pub record IsInVainAt (k l : Passing D) (h h' : CoreHand D) (a : Action) : Type 0 where
    pub still : IsStill k l h h'
    pub vain : IsInVain (state_after st l.seen) h'.number.0 a

  -- so are the intakes of the first i lines
  abbrev pub TriedLines : Passing D → ℕ → ℕ → Type 0
  TriedLines k c i = (l : ℕ) → l < i → IsInVain (state_after st k.seen) c (action.Intake (record { 0 = l }))

  -- the wake of dispatcher d of block b is in vain, if it waits on a channel
  abbrev pub IsTriedDisp : Passing D → CoreHand D → ℕ → ℕ → Type 0
  IsTriedDisp k h b d = (x : Block) (state : DispState) → in_row h.row b ≡ Some x → slice_get x.control.states d ≡ Some state →
      waits_on_channel state ≡ true → IsInVain (state_after st k.seen) h.number.0 (action.Wake (record { 0 = b }) (record { 0 = d }))

  -- so are those of the first i dispatchers
  abbrev pub TriedDisps : Passing D → CoreHand D → ℕ → ℕ → Type 0
  TriedDisps k h b i = (d : ℕ) → d < i → IsTriedDisp k h b d

  -- and those of the first i blocks of the share
  abbrev pub TriedShare : Passing D → CoreHand D → ℕ → Type 0
  TriedShare k h i = (j b : ℕ) → j < i → slice_get (share_blocks h.core.share) j ≡ Some b → (x : Block) → in_row h.row b ≡ Some x →
      Each x.control.states (λ d (state : DispState). waits_on_channel state ≡ true →
      IsInVain (state_after st k.seen) h.number.0 (action.Wake (record { 0 = b }) (record { 0 = d })))
