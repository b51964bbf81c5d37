-- What the capabilities of a call name.
use Rattle.std.proofs.Common.{◌≡◌, ℕ, suc, ◌<◌, Bool, true, false, cond, List, [], ◌∷◌, ap, sym, refl, ◌∙◌, subst}
use Rattle.std.specs.Prelude.{Option, Some, None, ◌==◌, find, Result, Ok, Err, IfOk}
use Rattle.std.specs.Option.{option_map}
use Rattle.std.proofs.lemmas.Bool.{and_parts, ltb-true}
use Rattle.std.proofs.lemmas.Option.{same_Some}
use Rattle.dc_base.specs.declared.capabilities.Cap.{Cap}
use Rattle.dc_base.specs.declared.capabilities.CapKind.{CapKind}
use Rattle.dc_base.specs.Capabilities.{Seat, cap_at}
use Rattle.dc_base.specs.ControlBlocks.{ControlBlock}
use Rattle.dc_base.specs.Instructions.{are_slots}
use Rattle.dc_base.specs.Words.{Each}
use Rattle.dc_block_sound.specs.SoundControls.{NamesOwn, NamesWithin}

-- what holds of all that is held holds of what a slot holds
held_at : (P : CapKind → Type 0) (s : ℕ) (caps : List Seat) → Each caps (λ i (h : Seat). P h.cap.kind) → (cap : Cap) → cap_at caps s ≡ Some cap → P cap.kind
held_at P s [] each cap e = cc
held_at P s (h ∷ hs) each cap e = by_test (held_at P s hs (λ i k at. each (suc i) k at) cap) (h.slot == s) e
  where
    by_test : (cap_at hs s ≡ Some cap → P cap.kind) → (b : Bool) → option_map (λ (h : Seat). h.cap) (cond b (Some h) (find (λ (k : Seat). k.slot == s) hs)) ≡ Some cap → P cap.kind
    by_test further true q = subst (λ (c : Cap). P c.kind) (same_Some _ _ q) (each 0 h refl)
    by_test further false q = further q

-- a capability in a slot names what the block has
pub names_at : (x y : ControlBlock) (s : ℕ) (o : Option Cap) (k : CapKind) → NamesWithin x → y ≡ x → o ≡ cap_at y.parts.caps s → option_map (λ (cap : Cap). cap.kind) o ≡ Some k → NamesOwn x k
names_at x y s None k names is held e = cc
names_at x y s (Some cap) k names is held e = subst (NamesOwn x) (same_Some _ _ e) (held_at (NamesOwn x) s x.parts.caps names.caps cap (sym (held ∙ ap (λ (z : ControlBlock). cap_at z.parts.caps s) is)))

pub map_ok : {A E : Type 0} {P Q : A → Type 0} (r : Result A E) → ((x : A) → P x → Q x) → IfOk r P → IfOk r Q
map_ok (Ok x) f h = f x h
map_ok (Err e) f h = tt

pub slots_within : (a b imm : ℕ) → are_slots a b imm ≡ true → (a < 16) × (b < 16) × (imm < 65536)
slots_within a b imm h =
    let first = and_parts _ _ h in
    let rest = and_parts _ _ first.1 in
    (ltb-true a 16 first.0, ltb-true b 16 rest.0, ltb-true imm 65536 rest.1)
