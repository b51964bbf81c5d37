-- The context of a dispatcher of a block.
use Rattle.std.proofs.Common.{◌≡◌, ℕ, ◌≤◌, ◌<◌, length, ap, sym, ◌∙◌, subst}
use Rattle.std.specs.Prelude.{Some, slice_get}
use Rattle.std.specs.Option.{option_map}
use Rattle.std.proofs.lemmas.List.{length-map}
use Rattle.std.proofs.lemmas.Option.{same_Some, slice_get-map, slice_get_within}
use Rattle.dc_base.specs.ControlBlocks.{ControlBlock}
use Rattle.dc_base.specs.Effects.{Context, at_next_place}
use Rattle.dc_base.specs.Kernel.{with_next_place}
use Rattle.dc_base.specs.Words.{Each}
use Rattle.dc_isa.specs.declared.dispatchers.Dispatcher.{Dispatcher}
use Rattle.dc_exec.specs.Steps.{context_of}
use Rattle.dc_kcb.specs.Controls.{Store, Agenda, control_of}
use Rattle.dc_calls.specs.Contexts.{at_context}
use Rattle.dc_calls.specs.Serves.{IsRunning}

-- the running dispatcher is one of the block
pub running_within : (x : ControlBlock) (d : ℕ) → IsRunning d x → d < length x.parts.contexts
running_within x d running = subst (λ n. d < n) (sym running.rest.shape.contexts) (slice_get_within _ _ _ running.state)

-- each context of a block with a running dispatcher stands at a 16-bit place
pub running_places : (x : ControlBlock) (d : ℕ) → IsRunning d x → Each x.parts.contexts (λ d (c : Context). c.place ≤ 65535)
running_places x d running = running.rest.dispatchers.places

-- the dispatcher has its context in the block
pub context_at : (s : Store) (a : Agenda) (x : ControlBlock) (d : ℕ) (e : Dispatcher) → control_of s a ≡ x → slice_get a.disps d ≡ Some e → slice_get x.parts.contexts d ≡ Some (context_of e)
context_at s a x d e is at = ap (λ (y : ControlBlock). slice_get y.parts.contexts d) (sym is) ∙ (slice_get-map context_of a.disps d ∙ ap (option_map context_of) at)

-- it is the one that the call speaks of
pub context_is : (s : Store) (a : Agenda) (x : ControlBlock) (d : ℕ) (e : Dispatcher) (c : Context) → control_of s a ≡ x → slice_get a.disps d ≡ Some e → slice_get x.parts.contexts d ≡ Some c → context_of e ≡ c
context_is s a x d e c is at there = same_Some _ _ (sym (context_at s a x d e is at) ∙ there)

-- a dispatcher of the block is one of the agenda
pub disp_within : (s : Store) (a : Agenda) (x : ControlBlock) (d : ℕ) → control_of s a ≡ x → d < length x.parts.contexts → d < length a.disps
disp_within s a x d is within = subst (λ n. d < n) (ap (λ (y : ControlBlock). length y.parts.contexts) (sym is) ∙ length-map _ _) within

-- its place is a 16-bit number
pub place_within : (s : Store) (a : Agenda) (x : ControlBlock) (d : ℕ) (e : Dispatcher) → control_of s a ≡ x → slice_get a.disps d ≡ Some e → Each x.parts.contexts (λ d (c : Context). c.place ≤ 65535) → e.place ≤ 65535
place_within s a x d e is at places = places d (context_of e) (context_at s a x d e is at)

-- its place moves on by one
pub goes_on : (s : Store) (a a' : Agenda) (x : ControlBlock) (d : ℕ) (e : Dispatcher) (c : Context) → control_of s a ≡ x → slice_get a.disps d ≡ Some e → slice_get x.parts.contexts d ≡ Some c → control_of s a' ≡ at_context d (at_next_place (context_of e)) (control_of s a) → control_of s a' ≡ record x { parts = with_next_place d c x.parts }
goes_on s a a' x d e c is at there new = new ∙ (ap (λ k. at_context d (at_next_place k) (control_of s a)) (context_is s a x d e c is at there) ∙ ap (at_context d (at_next_place c)) is)
