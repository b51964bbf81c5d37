-- The state of a dispatcher, from all that is read of it.
use Rattle.std.proofs.Common.{◌≡◌, ℕ, zero, suc, ◌<◌, [], ◌∷◌, Option, Some, None, refl, sym, ap, ◌∙◌, subst, arith, length, List}
use Rattle.std.specs.Prelude.{slice_get}
use Rattle.std.specs.Option.{option_map}
use Rattle.std.proofs.lemmas.Option.{slice_get_within}
use Rattle.dc_base.specs.declared.dispatchers.DispState.{DispState}
use Rattle.dc_base.specs.ControlBlocks.{ControlBlock}
use Rattle.dc_base.specs.Effects.{Context}
use Rattle.dc_base.specs.KeptByBlocks.{HasShape}
use Rattle.dc_base.specs.Words.{bind}
use Rattle.dc_isa.specs.declared.dispatchers.Dispatcher.{Dispatcher}
use Rattle.dc_kcb.specs.Readings.{disp_at}

joined : Option Context → Option DispState → Option ℕ → Option ℕ → Option Dispatcher
joined c s u p = bind c (λ c. bind s (λ state. bind u (λ due. option_map (λ period. record { regs = c.regs; place = c.place; state = state; due = due; period = period }) p)))

state_in : (c : Option Context) (s : Option DispState) (u p : Option ℕ) (o : Dispatcher) → joined c s u p ≡ Some o → s ≡ Some o.state
unfolding joined
state_in None s u p o e = absurd cc
state_in (Some c) None u p o e = absurd cc
state_in (Some c) (Some st) None p o e = absurd cc
state_in (Some c) (Some st) (Some due) None o e = absurd cc
state_in (Some c) (Some st) (Some due) (Some period) o e = ap (λ q. option_map (λ (d : Dispatcher). d.state) q) e

pub state_told : (x : ControlBlock) (d : ℕ) (o : Dispatcher) → disp_at x d ≡ Some o → slice_get x.states d ≡ Some o.state
unfolding joined disp_at
state_told x d o e = state_in (slice_get x.parts.contexts d) (slice_get x.states d) (slice_get x.dues d) (slice_get x.periods d) o e

none_in : (c : Option Context) (s : Option DispState) (u p : Option ℕ) → joined c s u p ≡ None → (s ≡ None → ⊥) → (c ≡ None → ⊥) → (u ≡ None → ⊥) → (p ≡ None → ⊥) → ⊥
unfolding joined
none_in None s u p e a b f g = b refl
none_in (Some c) None u p e a b f g = a refl
none_in (Some c) (Some st) None p e a b f g = f refl
none_in (Some c) (Some st) (Some due) None e a b f g = g refl
none_in (Some c) (Some st) (Some due) (Some period) e a b f g = absurd cc

within_some : {A B : Type 0} (xs : List A) (ys : List B) (d : ℕ) (x : A) → length ys ≡ length xs → slice_get xs d ≡ Some x → slice_get ys d ≡ None → ⊥
within_some xs ys d x e a b = past_by ys d (subst (λ n. d < n) (sym e) (slice_get_within xs d x a)) b
  where
    past_by : {B : Type 0} (ys : List B) (d : ℕ) → d < length ys → slice_get ys d ≡ None → ⊥
    past_by [] d h b = absurd (omega (arith, h))
    past_by (y ∷ ys) zero h b = absurd cc
    past_by (y ∷ ys) (suc d) h b = past_by ys d (omega (arith, h)) b

pub none_told : (x : ControlBlock) (d : ℕ) → HasShape x → disp_at x d ≡ None → slice_get x.states d ≡ None
unfolding joined disp_at
none_told x d h e = by_state (slice_get x.states d) refl
  where
    by_state : (s : Option DispState) → slice_get x.states d ≡ s → s ≡ None
    by_state None q = refl
    by_state (Some st) q = absurd (none_in (slice_get x.parts.contexts d) (slice_get x.states d) (slice_get x.dues d) (slice_get x.periods d) e
        (λ n. absurd (let k = sym q ∙ n in cc))
        (within_some x.states x.parts.contexts d st h.contexts q)
        (within_some x.states x.dues d st h.dues q)
        (within_some x.states x.periods d st h.periods q))
