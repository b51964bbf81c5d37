-- An intake touches what the table says.
use Rattle.std.proofs.Common.{◌≡◌, ℕ, List, [], ◌∷◌, Option, Some, None}
use Rattle.std.specs.Prelude.{slice_get}
use Rattle.std.proofs.lemmas.List.Sorted.{IsPermutation-cons, IsPermutation-append_comm}
use Rattle.dc_base.specs.declared.entries.Entry.{Entry}
use Rattle.dc_base.specs.Words.{is_number}
use Rattle.dc_base.specs.Lines.{Wire}
use Rattle.dc_base.specs.States.{State, Core, Block}
use Rattle.dc_base.specs.Changes.{a_core, a_block, a_line, Change}
use Rattle.dc_base.specs.Turns.{not_enabled, ends, look_block, look_line}
use Rattle.dc_base.specs.Outcomes.{if_here}
use Rattle.dc_base.specs.Intakes.{intake_outcome, intake_pending, intake_line, intake_turn}
use Rattle.dc_touch.proofs.Tabled.{IsTabled, refused, made_by_core, either, when_on, when_here}

module _ (s : State) (chs : List Change) (e : Entry) (c : ℕ) (k : Core) (here : slice_get s.cores c ≡ Some k) (l : ℕ) where
  taken_tabled : (w : Wire) (n b signal : ℕ) (o : Option Block) → IsTabled s chs e (a_core c ∷ a_line l ∷ a_block b ∷ []) (ends (intake_outcome c l w n b signal o))
  taken_tabled w n b signal None = refused s chs e _
  taken_tabled w n b signal (Some x) =
      made_by_core s chs e c k here (a_core c ∷ a_line l ∷ a_block b ∷ []) _ _ (IsPermutation-cons (a_core c) _ _ (IsPermutation-append_comm (a_line l ∷ []) (a_block b ∷ [])))

  pending_tabled : (w : Wire) (o : Option (ℕ × ℕ)) (p : Option ℕ) → IsTabled s chs e (a_core c ∷ a_line l ∷ []) (intake_pending c k l w o p)
  pending_tabled w None p = refused s chs e _
  pending_tabled w (Some to) None = refused s chs e _
  pending_tabled w (Some to) (Some n) =
      either s chs e (is_number c w.route) (a_core c ∷ a_line l ∷ []) (if_here k.share to.0 (look_block to.0 (λ o. ends (intake_outcome c l w n to.0 to.1 o)))) (ends (not_enabled _))
      (when_here s chs e k.share to.0 (a_core c ∷ a_line l ∷ []) (look_block to.0 (λ o. ends (intake_outcome c l w n to.0 to.1 o))) (taken_tabled w n to.0 to.1 (slice_get s.blocks to.0))) (refused s chs e _)

  line_tabled : (o : Option Wire) → IsTabled s chs e (a_core c ∷ a_line l ∷ []) (intake_line c k l o)
  line_tabled None = refused s chs e _
  line_tabled (Some w) = pending_tabled w w.bound w.pending

  pub intake_tabled : IsTabled s chs e (a_core c ∷ []) (intake_turn c k l)
  intake_tabled = when_on s chs e k.version (a_core c ∷ []) (look_line l (intake_line c k l)) (line_tabled (slice_get s.lines l))
