-- What a kernel call came to, from what it is served with.
use Rattle.std.proofs.Common.{◌≡◌, ℕ, ap, sym, refl, ◌∙◌}
use Rattle.std.specs.Prelude.{Option, None}
use Rattle.dc_base.specs.declared.dispatchers.Wait.{Wait}
use Rattle.dc_base.specs.declared.interrupts.Latch.{Latch}
use Rattle.dc_base.specs.ControlBlocks.{ControlBlock}
use Rattle.dc_base.specs.Kernel.{Call, faults, waits, makes, takes}
use Rattle.dc_base.specs.Parts.{Parts}
use Rattle.dc_base.specs.Serving.{Outside, faulted, held_up, served, serve}
use Rattle.dc_calls.specs.declared.answers.Answer.TheVariants as answer
use Rattle.dc_calls.specs.Serves.{Serves}

module _ (c n : ℕ) (call : Call) (before after : ControlBlock) (out out' : Outside) where
  -- it is made and leaves these parts
  pub serves_made : (w : Option Wait) (p : Parts) → after ≡ record before { parts = p } → serve c n call out ≡ served w p out' → Serves c n call before after out out' (answer.Made w)
  serves_made w p is e = record {
    answer = ap (λ (x : ControlBlock). served w x.parts out') is ∙ sym e;
    rest = is ∙ ap (λ q. record before { parts = q }) (sym (ap (λ (x : ControlBlock). x.parts) is));
    kept = tt;
  }

  -- it waits, and nothing changes
  pub serves_held : (w : Wait) → after ≡ before → out' ≡ out → serve c n call out ≡ held_up w → Serves c n call before after out out' (answer.Hold w)
  serves_held w is same e = record { answer = sym e; rest = is ∙ ap (λ q. record before { parts = q }) (sym (ap (λ (x : ControlBlock). x.parts) is)); kept = (is, same) }

  -- it traps, and nothing changes
  pub serves_fault : (x : ℕ) → after ≡ before → out' ≡ out → serve c n call out ≡ faulted x → Serves c n call before after out out' (answer.Fault x)
  serves_fault x is same e = record { answer = sym e; rest = is ∙ ap (λ q. record before { parts = q }) (sym (ap (λ (x : ControlBlock). x.parts) is)); kept = (is, same) }

module _ (c n : ℕ) (call : Call) (before after : ControlBlock) (out : Outside) where
  -- the call comes to a fault
  pub serves_faults : (k r : ℕ) → call ≡ faults k → r ≡ k → Serves c n call before before out out (answer.Fault r)
  unfolding serve
  serves_faults k r e is = serves_fault c n call before before out out r refl refl (ap (λ (l : Call). serve c n l out) e ∙ ap faulted (sym is))

  -- it comes to a wait
  pub serves_waits : (w : Wait) → call ≡ waits w → after ≡ before → Serves c n call before after out out (answer.Hold w)
  unfolding serve
  serves_waits w e is = serves_held c n call before after out out w is refl (ap (λ (l : Call). serve c n l out) e)

  -- it is made
  pub serves_makes : (w : Option Wait) (p : Parts) → call ≡ makes w p → after ≡ record before { parts = p } → Serves c n call before after out out (answer.Made w)
  unfolding serve
  serves_makes w p e is = serves_made c n call before after out out w p is (ap (λ (l : Call). serve c n l out) e)

  -- it is made and took a latch
  pub serves_takes : (l : Latch) (p : Parts) → call ≡ takes l p → after ≡ record before { parts = p } → Serves c n call before after out out (answer.Made None)
  unfolding serve
  serves_takes l p e is = serves_made c n call before after out out None p is (ap (λ (l : Call). serve c n l out) e)

  -- it comes to a fault, and nothing changes
  pub serves_refused : (k : ℕ) → call ≡ faults k → after ≡ before → Serves c n call before after out out (answer.Fault k)
  unfolding serve
  serves_refused k e is = serves_fault c n call before after out out k is refl (ap (λ (l : Call). serve c n l out) e)
