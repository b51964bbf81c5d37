-- What each change of a control block keeps, each entry keeps of every block.
use Rattle.std.proofs.Common.{ℕ, List}
use Rattle.dc_base.specs.declared.entries.Entry.{Entry}
use Rattle.dc_base.specs.Changes.{Change, apply}
use Rattle.dc_base.specs.ControlBlocks.{ControlBlock}
use Rattle.dc_base.specs.States.{State, time_on}
use Rattle.dc_sound.proofs.EntryKinds.{Kind}
use Rattle.dc_sound.proofs.ControlRules.{AllControls, ControlLaws, controls_kept}
use Rattle.dc_block_sound.proofs.ControlSteps.{Steps, kept_along, StepKeeps, StepKeepsUnder}
use Rattle.dc_block_sound.proofs.Walks.{fire_steps, again_steps, latch_steps, HalfClaims}
use Rattle.dc_sound.proofs.SliceWalks.{slice_steps}

module _ (s : State) (chs : List Change) (e : Entry) (Q P : ControlBlock → Type 0) (q : StepKeeps s Q) (p : StepKeepsUnder s Q P) (all : AllControls (λ b. Q) s) where
  along : (d : ℕ) (C : ℕ → Type 0) (x y : ControlBlock) → Steps s d C x y → Q x → P x → P y
  along d C x y st h k = kept_along s d C Q P (q d C) (p d C) x y st h k

  -- no line is claimed
  abbrev no_line : ℕ → Type 0
  no_line l = ⊥

  laws : ControlLaws (λ b. P) s chs e
  laws = record {
    slice = λ i h. along i.d (HalfClaims s i.h) i.x.control _ (slice_steps s chs e i) (all i.b i.x i.turn.block_at) h;
    slice_none = λ i h. along 0 no_line i.x.control _ (fire_steps s 0 no_line (time_on i.k.clock i.offset) i.x.control) (all i.b i.x i.turn.block_at) h;
    wake = λ i h. along i.d no_line i.x.control _ (again_steps s i.d no_line i.x.control) (all i.b i.x i.turn.block_at) h;
    intake = λ i h. along 0 no_line i.x.control _ (latch_steps s 0 no_line i.x.control i.to.1 i.l i.n i.w i.line_at i.pending_at) (all i.to.0 i.x i.block_at) h;
  }

  -- each entry keeps P of every block, where Q holds of every block
  pub kept_under : AllControls (λ b. P) s → Kind s chs e → AllControls (λ b. P) (apply s chs)
  kept_under h k = controls_kept (λ b. P) s chs e laws h k

-- each entry keeps P of every block
pub kept_alone : (s : State) (chs : List Change) (e : Entry) (P : ControlBlock → Type 0) → StepKeeps s P → AllControls (λ b. P) s → Kind s chs e → AllControls (λ b. P) (apply s chs)
kept_alone s chs e P p h k = kept_under s chs e (λ x. Unit) P (λ d C x y st u. tt) (λ d C x y st u. p d C x y st) (λ b x q. tt) h k
