-- What a kernel call on the table of a block comes to.
use Rattle.std.proofs.Common.{◌≡◌, ℕ, ◌<◌, ◌≤◌, List, Bool, Some, None, sym, ap, ◌∙◌, subst, arith, length, map, slice_get}
use Rattle.std.proofs.lemmas.List.{length-map}
use Rattle.std.proofs.lemmas.Option.{slice_get_within}
use Rattle.dc_base.specs.declared.messages.Message.{Message}
use Rattle.dc_base.specs.Capabilities.{cap_at}
use Rattle.dc_base.specs.Effects.{Context, reg}
use Rattle.dc_base.specs.Kernel.{Call, faults, makes, with_next_place, retype_call}
use Rattle.dc_base.specs.Parts.{Parts}
use Rattle.dc_base.specs.ControlBlocks.{ControlBlock}
use Rattle.dc_base.specs.Serving.{Outside}
use Rattle.dc_caps.specs.Caps.{Caps}
use Rattle.dc_exec.specs.Steps.{context_of}
use Rattle.dc_kcb.specs.Controls.{Agenda, control_of, state_of}
use Rattle.dc_calls.specs.declared.answers.Answer.TheVariants as answer
use Rattle.dc_calls.specs.Serves.{Serves, IsRunning}
use Rattle.dc_calls.proofs.CallServed.{serves_faults, serves_makes}

-- the registers of a context tell a part of raw memory
pub retype_at : (from slot : ℕ) (into : Bool) (t : Caps) (w v : Context) (comes : Parts → Call) → w ≡ v → ((p : Parts) → p.caps ≡ t.set → length p.code ≡ t.disps → retype_call from slot into (reg w 6) (reg w 7) p (cap_at p.caps from) ≡ comes p) → (p : Parts) → p.caps ≡ t.set → length p.code ≡ t.disps → retype_call from slot into (reg v 6) (reg v 7) p (cap_at p.caps from) ≡ comes p
retype_at from slot into t w v comes e f p same code = ap (λ (u : Context). retype_call from slot into (reg u 6) (reg u 7) p (cap_at p.caps from)) (sym e) ∙ f p same code

-- the block of these fields
abbrev pub block : List ℕ → List (List ℕ) → List (List Message) → Caps → Agenda → ControlBlock
block memory code ports t a = control_of (record { memory = memory; code = code; caps = t.set; ports = ports }) a

-- dispatcher d of it runs
pub record Runs (memory : List ℕ) (code : List (List ℕ)) (ports : List (List Message)) (t : Caps) (a : Agenda) (x : ControlBlock) (d : ℕ) : Type 0 where
  pub seen : block memory code ports t a ≡ x
  pub same : t.disps ≡ length a.disps
  pub run : IsRunning d x

module _ {memory : List ℕ} {code : List (List ℕ)} {ports : List (List Message)} {t : Caps} {a : Agenda} {x : ControlBlock} {d : ℕ} (h : Runs memory code ports t a x d) where
  pub disps_are : length x.states ≡ t.disps
  disps_are = ap (λ (y : ControlBlock). length y.states) (sym h.seen) ∙ length-map a.disps state_of ∙ sym h.same

  pub disp_within : d < t.disps
  disp_within = subst (λ n. d < n) disps_are (slice_get_within x.states d _ h.run.state)

  pub disp_below : d < 16
  disp_below = let few = subst (λ n. n ≤ 16) disps_are h.run.rest.shape.disps in let lt = disp_within in omega (arith, few, lt)

  pub caps_are : x.parts.caps ≡ t.set
  caps_are = ap (λ (y : ControlBlock). y.parts.caps) (sym h.seen)

  pub code_is : length x.parts.code ≡ t.disps
  code_is = h.run.rest.shape.code ∙ disps_are

  -- with other capabilities, the dispatcher may go on

  -- a call on the table faults, and leaves it

  pub refused : (t' : Caps) → t' ≡ t → (y z : ℕ) → y ≡ z → (call : Parts → Call) → ((p : Parts) → p.caps ≡ t.set → length p.code ≡ t.disps → call p ≡ faults z) → (v : Context) (c n : ℕ) (out : Outside) → Serves c n (call (with_next_place d v x.parts)) x (block memory code ports t' a) out out (answer.Fault y)
  refused t' e y z i call f v c n out = subst (λ after. Serves c n (call (with_next_place d v x.parts)) x after out out (answer.Fault y)) (sym (ap (λ t. block memory code ports t a) e ∙ h.seen)) (serves_faults c n (call (with_next_place d v x.parts)) x x out z y (f _ caps_are code_is) i)

  -- it is made, and the place moves on

  module _ (t' : Caps) (after : ControlBlock) (gone : (v : Context) → slice_get (map context_of a.disps) d ≡ Some v → after ≡ record (block memory code ports t' a) { parts = with_next_place d v (block memory code ports t' a).parts }) (v : Context) (e : slice_get x.parts.contexts d ≡ Some v) where
    pub moved_on : after ≡ record x { parts = record (with_next_place d v x.parts) { caps = t'.set } }
    moved_on = gone v (ap (λ (y : ControlBlock). slice_get y.parts.contexts d) h.seen ∙ e) ∙ ap (λ (y : ControlBlock). record y { parts = record (with_next_place d v y.parts) { caps = t'.set } }) h.seen

    pub done : (call : Parts → Call) → ((p : Parts) → p.caps ≡ t.set → length p.code ≡ t.disps → call p ≡ makes None (record p { caps = t'.set })) → (c n : ℕ) (out : Outside) → Serves c n (call (with_next_place d v x.parts)) x after out out (answer.Made None)
    done call f c n out = serves_makes c n (call (with_next_place d v x.parts)) x after out None (record (with_next_place d v x.parts) { caps = t'.set }) (f _ caps_are code_is) moved_on
