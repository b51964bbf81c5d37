-- What a kernel call on a line comes to.
use Rattle.std.proofs.Common.{◌≡◌, ℕ, List, Bool, true, false, Option, Some, None, refl, sym, ap, subst, ◌∙◌}
use Rattle.std.specs.Prelude.{Ok, Result, OnOk, if◌then◌else◌, is_none}
use Rattle.dc_base.specs.declared.capabilities.Cap.{Cap}
use Rattle.dc_base.specs.Capabilities.{Seat, is_used}
use Rattle.dc_base.specs.ControlBlocks.{ControlBlock}
use Rattle.dc_base.specs.Kernel.{Call, faults, binds, gives, claims, claim_call, with_claimed}
use Rattle.dc_base.specs.Lines.{Wire, rights_over}
use Rattle.dc_base.specs.Parts.{Parts}
use Rattle.dc_base.specs.Serving.{line_outside, faulted, served, serve, serve_claim}
use Rattle.dc_caps.specs.declared.faults.CapFault.{CapFault}
use Rattle.dc_caps.specs.declared.faults.CapFault.TheVariants.{UsedSlot}
use Rattle.dc_caps.specs.Outcomes.{answer_of, root_fault}
use Rattle.dc_calls.specs.declared.answers.Answer.TheVariants as answer
use Rattle.dc_calls.specs.declared.outsides.Outside.{Outside as Held}
use Rattle.dc_calls.specs.declared.outsides.Outside.TheVariants as outside
use Rattle.dc_calls.specs.Outsides.{outside_seen}
use Rattle.dc_calls.specs.Serves.{Serves}
use Rattle.dc_calls.proofs.CallServed.{serves_made, serves_fault}

module _ (c n : ℕ) (call : Call) (x : ControlBlock) where
  -- there is no such line

  abbrev IsNoLine : Held → Type 0
  IsNoLine o = (w : Wire) → o ≡ outside.Line w → ⊥

  pub bind_missed : (l s : ℕ) (p : Parts) (o : Held) → call ≡ binds l s p → IsNoLine o → Serves c n call x x (outside_seen o) (outside_seen o) (answer.Fault 12)
  unfolding serve
  bind_missed l s p o e f = serves_fault c n call x x _ _ 12 refl refl (ap (λ k. serve c n k (outside_seen o)) e ∙ by_held o f)
    where
      by_held : (o : Held) → IsNoLine o → serve c n (binds l s p) (outside_seen o) ≡ faulted 12
      by_held outside.Nothing f = refl
      by_held (outside.Channel r) f = refl
      by_held (outside.Line w) f = absurd (f w refl)
      by_held (outside.Console ws) f = refl

  pub give_missed : (l y r : ℕ) (p : Parts) (o : Held) → call ≡ gives l y r p → IsNoLine o → Serves c n call x x (outside_seen o) (outside_seen o) (answer.Fault 12)
  unfolding serve
  give_missed l y r p o e f = serves_fault c n call x x _ _ 12 refl refl (ap (λ k. serve c n k (outside_seen o)) e ∙ by_held o f)
    where
      by_held : (o : Held) → IsNoLine o → serve c n (gives l y r p) (outside_seen o) ≡ faulted 12
      by_held outside.Nothing f = refl
      by_held (outside.Channel r) f = refl
      by_held (outside.Line w) f = absurd (f w refl)
      by_held (outside.Console ws) f = refl

  pub claim_missed : (l y slot : ℕ) (p : Parts) (o : Held) → call ≡ claims l y slot p → IsNoLine o → Serves c n call x x (outside_seen o) (outside_seen o) (answer.Fault 12)
  unfolding serve
  claim_missed l y slot p o e f = serves_fault c n call x x _ _ 12 refl refl (ap (λ k. serve c n k (outside_seen o)) e ∙ by_held o f)
    where
      by_held : (o : Held) → IsNoLine o → serve c n (claims l y slot p) (outside_seen o) ≡ faulted 12
      by_held outside.Nothing f = refl
      by_held (outside.Channel r) f = refl
      by_held (outside.Line w) f = absurd (f w refl)
      by_held (outside.Console ws) f = refl

  -- the line is there

  module _ (o : Held) (w w' : Wire) (there : o ≡ outside.Line w) where
    abbrev seen_there : (k : Call) → call ≡ k → serve c n call (outside_seen o) ≡ serve c n k (line_outside w)
    seen_there k e = ap (λ k. serve c n k (outside_seen o)) e ∙ ap (λ (o : Held). serve c n k (outside_seen o)) there

    pub bind_serves : (l s : ℕ) (p : Parts) (after : ControlBlock) → call ≡ binds l s p → w' ≡ record w { bound = Some (n, s); route = Some c } → after ≡ record x { parts = p } → Serves c n call x after (outside_seen o) (line_outside w') (answer.Made None)
    unfolding serve
    bind_serves l s p after e f g = serves_made c n call x after _ _ None p g (seen_there (binds l s p) e ∙ ap (λ (w : Wire). served None p (line_outside w)) (sym f))

    pub give_serves : (l y r : ℕ) (p : Parts) (after : ControlBlock) → call ≡ gives l y r p → w' ≡ record w { bound = None; offer = Some (y, r) } → after ≡ record x { parts = p } → Serves c n call x after (outside_seen o) (line_outside w') (answer.Made None)
    unfolding serve
    give_serves l y r p after e f g = serves_made c n call x after _ _ None p g (seen_there (gives l y r p) e ∙ ap (λ (w : Wire). served None p (line_outside w)) (sym f))

    pub claim_serves : (l y slot r : ℕ) (p : Parts) (after : ControlBlock) → call ≡ claims l y slot p → rights_over y w.offer ≡ Some r → w' ≡ record w { offer = None } → after ≡ record x { parts = with_claimed l slot r p } → Serves c n call x after (outside_seen o) (line_outside w') (answer.Made None)
    unfolding serve
    claim_serves l y slot r p after e i f g = serves_made c n call x after _ _ None (with_claimed l slot r p) g (seen_there (claims l y slot p) e ∙ ap (serve_claim l slot p w) i ∙ ap (λ (w : Wire). served None (with_claimed l slot r p) (line_outside w)) (sym f))

    -- it is not offered over the channel
    pub claim_unoffered : (l y slot : ℕ) (p : Parts) → call ≡ claims l y slot p → rights_over y w.offer ≡ None → w' ≡ w → Serves c n call x x (outside_seen o) (line_outside w') (answer.Fault 12)
    unfolding serve
    claim_unoffered l y slot p e i f = serves_fault c n call x x (outside_seen o) (line_outside w') 12 refl (ap (λ (w : Wire). line_outside w) f ∙ ap outside_seen (sym there)) (seen_there (claims l y slot p) e ∙ ap (serve_claim l slot p w) i)

-- a line is claimed into a slot that is free

pub free_where : (line slot y : ℕ) (p q : Parts) (a : Option Cap) → claim_call line slot p a ≡ claims line y slot q → is_used p.caps slot ≡ false
free_where line slot y p q a = by_tests (is_none a) (is_used p.caps slot) _
  where
    by_tests : (s t : Bool) (call : Call) → (if s then faults 4 else if t then faults 5 else call) ≡ claims line y slot q → t ≡ false
    by_tests s false call e = refl
    by_tests true true call e = absurd cc
    by_tests false true call e = absurd cc

pub ok_where : (set : List Seat) (slot : ℕ) (r : Result (Unit {0}) CapFault) → r ≡ answer_of (root_fault set slot) → is_used set slot ≡ false → r ≡ Ok tt
ok_where set slot r e f = e ∙ ap (λ t. answer_of (if t then Some UsedSlot else None)) f

pub when_ok : (r : Result (Unit {0}) CapFault) (P : Type 0) → r ≡ Ok tt → OnOk r P → P
when_ok r P e h = subst (λ r. OnOk r P) e h
