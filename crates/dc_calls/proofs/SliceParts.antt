-- The parts of a slice, as the program makes them.
use Rattle.std.proofs.Common.{◌≡◌, ℕ, List, refl, ap, ◌∙◌}
use Rattle.dc_base.specs.declared.kernels.Version.{Version}
use Rattle.dc_base.specs.declared.kernels.Version.TheVariants.{Rr, Edf}
use Rattle.dc_base.specs.ControlBlocks.{ControlBlock}
use Rattle.dc_base.specs.Effects.{Context}
use Rattle.dc_base.specs.Parts.{with_context}
use Rattle.dc_base.specs.Slices.{ready_last, due_after}
use Rattle.dc_kcb.specs.Controls.{Store, Agenda, control_of}
use Rattle.dc_calls.specs.Contexts.{at_context}

-- a due grows alike before and after its dispatcher is last
pub due_last : (v : Version) (d : ℕ) (x : ControlBlock) → ready_last d (due_after v d x) ≡ due_after v d (ready_last d x)
due_last Rr d x = refl
due_last Edf d x = refl

-- the memory and the context that the plain part left
pub plain_done : (s : Store) (a e : Agenda) (x : ControlBlock) (memory : List ℕ) (d : ℕ) (k : Context) → control_of s a ≡ x → ((s : Store) → control_of s e ≡ at_context d k (control_of s a)) →
    control_of (record s { memory = memory }) e ≡ record x { parts = with_context x.parts d k memory }
plain_done s a e x memory d k is go = go (record s { memory = memory }) ∙ ap (λ (y : ControlBlock). record y { parts = with_context y.parts d k memory }) is
