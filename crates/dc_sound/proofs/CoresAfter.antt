-- The cores after changes of other objects.
use Rattle.std.proofs.Common.{◌≡◌, ℕ, List, [], ◌∷◌, ◌++◌, refl, sym, subst}
use Rattle.dc_base.specs.declared.calls.Need.{Need}
use Rattle.dc_base.specs.declared.calls.Need.TheVariants as needs
use Rattle.dc_base.specs.declared.commands.Command.{Command}
use Rattle.dc_base.specs.Changes.{Change, apply, mailbox_becomes, script_becomes}
use Rattle.dc_base.specs.Serving.{Outside, console_outside, channel_outside, line_outside}
use Rattle.dc_base.specs.States.{State, Mailbox, Script}
use Rattle.dc_base.specs.NeededLooks.{outside_change}
use Rattle.dc_sound.proofs.EntryKinds.{Before, first_post, next_post}

pub outside_cores : (b : ℕ) (w : Need) (out : Outside) (u : State) → (apply u (outside_change b w out)).cores ≡ u.cores
unfolding outside_change
outside_cores b needs.Console (console_outside ws) u = refl
outside_cores b (needs.Channel x) (channel_outside r) u = refl
outside_cores b (needs.Line l) (line_outside v) u = refl
outside_cores b w out u = refl

module _ (s : State) where
  pub post_cores : (command : Command) (before : List Change) → Before s command before → (m : Mailbox) (c : ℕ) (u : Script) → (apply s (before ++ mailbox_becomes c m ∷ script_becomes u ∷ [])).cores ≡ s.cores
  post_cores command before (first_post z r q) m c u = subst (λ cs. (apply s (cs ++ mailbox_becomes c m ∷ script_becomes u ∷ [])).cores ≡ s.cores) (sym q) refl
  post_cores command before (next_post l o z g a q) m c u = subst (λ cs. (apply s (cs ++ mailbox_becomes c m ∷ script_becomes u ∷ [])).cores ≡ s.cores) (sym q) refl

  pub done_cores : (command : Command) (before : List Change) → Before s command before → (u : Script) → (apply s (before ++ script_becomes u ∷ [])).cores ≡ s.cores
  done_cores command before (first_post z r q) u = subst (λ cs. (apply s (cs ++ script_becomes u ∷ [])).cores ≡ s.cores) (sym q) refl
  done_cores command before (next_post l o z g a q) u = subst (λ cs. (apply s (cs ++ script_becomes u ∷ [])).cores ≡ s.cores) (sym q) refl
