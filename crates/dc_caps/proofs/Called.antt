-- What the kernel calls on a table come to.
use Rattle.std.proofs.Common.{◌≡◌, ℕ, List, Bool, true, false, Option, Some, None, refl, sym, ap, ◌∙◌}
use Rattle.std.specs.Prelude.{not, if◌then◌else◌, is_none, is_some}
use Rattle.std.specs.Option.{option_map}
use Rattle.dc_base.specs.Capabilities.{Seat, seat_at, cap_at, is_used, after_delete, after_revoke}
use Rattle.dc_base.specs.Kernel.{Call, faults, makes, delete_call, revoke_call}
use Rattle.dc_base.specs.Parts.{Parts}
use Rattle.dc_caps.specs.Caps.{Caps}

none_where : (set : List Seat) (s : ℕ) (b : Bool) → is_used set s ≡ b → is_none (cap_at set s) ≡ not b
none_where set s b u = by_seat (seat_at set s) ∙ ap not u
  where
    by_seat : (o : Option Seat) → is_none (option_map (λ (h : Seat). h.cap) o) ≡ not (is_some o)
    by_seat None = refl
    by_seat (Some h) = refl

module _ (p : Parts) (now : Caps) (same : p.caps ≡ now.set) where
  abbrev left : List Seat → Call
  left set = makes None (record p { caps = set })

  -- delete and revoke

  emptied : (s : ℕ) (b : Bool) → is_used now.set s ≡ b → (f : List Seat → List Seat) → (if is_none (cap_at p.caps s) then faults 4 else left (f p.caps)) ≡ (if not b then faults 4 else left (f now.set))
  emptied s b u f = ap (λ t. if t then faults 4 else left (f p.caps)) (ap (λ c. is_none (cap_at c s)) same ∙ none_where now.set s b u) ∙ ap (λ c. if not b then faults 4 else left (f c)) same

  pub delete_made : (s : ℕ) (after : Caps) → is_used now.set s ≡ true → after ≡ record now { set = after_delete s now.set } → delete_call s p (cap_at p.caps s) ≡ left after.set
  delete_made s after u e = emptied s true u (after_delete s) ∙ ap (λ (t : Caps). left t.set) (sym e)

  pub delete_empty : (s : ℕ) → is_used now.set s ≡ false → delete_call s p (cap_at p.caps s) ≡ faults 4
  delete_empty s u = emptied s false u (after_delete s)

  pub revoke_made : (s : ℕ) (after : Caps) → is_used now.set s ≡ true → after ≡ record now { set = after_revoke s now.set } → revoke_call s p (cap_at p.caps s) ≡ left after.set
  revoke_made s after u e = emptied s true u (after_revoke s) ∙ ap (λ (t : Caps). left t.set) (sym e)
