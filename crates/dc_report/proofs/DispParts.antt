-- A dispatcher of a block, read from its fields.
use Rattle.std.proofs.Common.{◌≡◌, ℕ, ◌≤◌, length, List, [], ◌∷◌, zero, suc, Some, None, refl, ap, ◌∙◌, arith}
use Rattle.std.specs.Prelude.{Option, slice_get, slice_index}
use Rattle.std.specs.Option.{option_map, option_map_or}
use Rattle.std.proofs.lemmas.Option.{get_or_from_slice_get, slice_get_within}
use Rattle.dc_base.specs.declared.dispatchers.DispState.{DispState}
use Rattle.dc_base.specs.Words.{bind}
use Rattle.dc_base.specs.Effects.{Context}
use Rattle.dc_base.specs.ControlBlocks.{ControlBlock}
use Rattle.dc_base.specs.KeptByBlocks.{HasShape}
use Rattle.dc_base.specs.Parts.{place_at}
use Rattle.dc_isa.specs.declared.dispatchers.Dispatcher.{Dispatcher}
use Rattle.dc_kcb.specs.Readings.{disp_at}

-- what a dispatcher is made of
pub record IsDisp (x : ControlBlock) (d : ℕ) (disp : Dispatcher) : Type 0 where
  pub state : slice_get x.states d ≡ Some disp.state
  pub place : place_at x.parts d ≡ disp.place
  pub due : slice_index x.dues d ≡ disp.due

abbrev joined : Option Context → Option DispState → Option ℕ → Option ℕ → Option Dispatcher
joined c state due period = bind c (λ c. bind state (λ state. bind due (λ due. option_map (λ period. record { regs = c.regs; place = c.place; state = state; due = due; period = period }) period)))

module _ (x : ControlBlock) (d : ℕ) where
  is_by : (disp : Dispatcher) (c : Option Context) (state : Option DispState) (due period : Option ℕ) → slice_get x.parts.contexts d ≡ c → slice_get x.states d ≡ state → slice_get x.dues d ≡ due → joined c state due period ≡ Some disp → IsDisp x d disp
  is_by disp None state due period ec es ed h = absurd cc
  is_by disp (Some c) None due period ec es ed h = absurd cc
  is_by disp (Some c) (Some state) None period ec es ed h = absurd cc
  is_by disp (Some c) (Some state) (Some due) None ec es ed h = absurd cc
  is_by disp (Some c) (Some state) (Some due) (Some period) ec es ed h =
      let same : record { regs = c.regs; place = c.place; state = state; due = due; period = period } ≡ disp = cc in
      record {
        state = es ∙ ap (λ (e : Dispatcher). Some e.state) same;
        place = ap (λ o. option_map_or (λ (c : Context). c.place) o 0) ec ∙ ap (λ (e : Dispatcher). e.place) same;
        due = get_or_from_slice_get x.dues d due 0 ed ∙ ap (λ (e : Dispatcher). e.due) same;
      }

  pub disp_parts : (disp : Dispatcher) → disp_at x d ≡ Some disp → IsDisp x d disp
  unfolding disp_at
  disp_parts disp h = is_by disp (slice_get x.parts.contexts d) (slice_get x.states d) (slice_get x.dues d) (slice_get x.periods d) refl refl refl h

  shorter : {A : Type 0} (xs : List A) (d : ℕ) → slice_get xs d ≡ None → length xs ≤ d
  shorter [] d h = omega arith
  shorter (y ∷ xs) zero h = absurd cc
  shorter (y ∷ xs) (suc d) h = let k = shorter xs d h in omega (arith, k)

  apart : {A B : Type 0} (xs : List A) (ys : List B) (y : B) → length xs ≡ length ys → slice_get xs d ≡ None → slice_get ys d ≡ Some y → ⊥
  apart xs ys y e h k = let l = shorter xs d h in let w = slice_get_within ys d y k in omega (arith, e, l, w)

  none_by : HasShape x → (c : Option Context) (state : Option DispState) (due period : Option ℕ) → slice_get x.parts.contexts d ≡ c → slice_get x.states d ≡ state → slice_get x.dues d ≡ due → slice_get x.periods d ≡ period → joined c state due period ≡ None → state ≡ None
  none_by shape c None due period ec es ed ep h = refl
  none_by shape None (Some state) due period ec es ed ep h = absurd (apart x.parts.contexts x.states state shape.contexts ec es)
  none_by shape (Some c) (Some state) None period ec es ed ep h = absurd (apart x.dues x.states state shape.dues ed es)
  none_by shape (Some c) (Some state) (Some due) None ec es ed ep h = absurd (apart x.periods x.states state shape.periods ep es)
  none_by shape (Some c) (Some state) (Some due) (Some period) ec es ed ep h = absurd cc

  pub no_disp : HasShape x → disp_at x d ≡ None → slice_get x.states d ≡ None
  unfolding disp_at
  no_disp shape h = none_by shape (slice_get x.parts.contexts d) (slice_get x.states d) (slice_get x.dues d) (slice_get x.periods d) refl refl refl refl h
