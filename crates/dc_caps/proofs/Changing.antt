-- A table, as its fields change.
use Rattle.std.proofs.Common.{◌≡◌, ℕ, ◌*◌, ◌<◌, List, Bool, true, false, Option, Some, None, refl, sym, ap, ◌∙◌, subst, length}
use Rattle.std.specs.Prelude.{slice_set, not, if◌then◌else◌, ◌&&◌, Ok, Err, Result, OnOk}
use Rattle.dc_base.specs.declared.capabilities.Cap.{Cap}
use Rattle.dc_base.specs.Capabilities.{Seat, is_used, with_seat, after_delete, after_revoke}
use Rattle.dc_mdb.specs.Forests.{Node, has_slot, with_node, without_slot, without_descendants}
use Rattle.dc_mdb.specs.declared.forests.ForestFault.{ForestFault}
use Rattle.dc_mdb.specs.declared.forests.ForestFault.TheVariants.{Absent, Used}
use Rattle.dc_caps.specs.declared.faults.CapFault.TheVariants.{EmptySlot, UsedSlot}
use Rattle.dc_caps.specs.declared.table.Table.TheInside.{Inside}
use Rattle.dc_caps.specs.Caps.{Caps, IsCap}
use Rattle.dc_caps.specs.Outcomes.{answer_of, root_fault, child_fault}
use Rattle.dc_caps.specs.Tables.{caps_seen, IsWithin}
use Rattle.dc_caps.proofs.Seating.{used_seats, put_seats, deleted_seats, revoked_seats}
use Rattle.dc_caps.proofs.Tabled.{put_within, deleted_within, revoked_within}

module _ (t : Inside) (now : Caps) (seen : caps_seen t ≡ now) where
  pub used_now : (x : ℕ) → is_used now.set x ≡ has_slot t.forest x
  used_now x = ap (λ (u : Caps). is_used u.set x) (sym seen) ∙ used_seats t.caps t.forest x

  pub put_now : (nodes : List Node) (s : ℕ) (cap : Cap) (o : Option ℕ) → nodes ≡ with_node (s, o) t.forest → s < length t.caps → has_slot t.forest s ≡ false →
      caps_seen (record t { caps = slice_set t.caps s cap; forest = nodes }) ≡ record now { set = with_seat (record { slot = s; cap = cap; parent = o }) now.set }
  put_now nodes s cap o e l h =
      ap (λ ns. caps_seen (record t { caps = slice_set t.caps s cap; forest = ns })) e
      ∙ ap (λ (set : List Seat). record { set = set; disps = t.disps }) (put_seats t.caps s cap t.forest o l h)
      ∙ ap (λ (u : Caps). record u { set = with_seat (record { slot = s; cap = cap; parent = o }) u.set }) seen

  pub put_kept : IsWithin t → (nodes : List Node) (s : ℕ) (cap : Cap) (o : Option ℕ) → nodes ≡ with_node (s, o) t.forest → IsCap cap → s < 16 * now.disps → IsWithin (record t { caps = slice_set t.caps s cap; forest = nodes })
  put_kept w nodes s cap o e c l = subst (λ ns. IsWithin (record t { caps = slice_set t.caps s cap; forest = ns })) (sym e) (put_within t w s cap o c (subst (λ (u : Caps). s < 16 * u.disps) (sym seen) l))

  pub deleted_now : (nodes : List Node) (s : ℕ) → nodes ≡ without_slot s t.forest → caps_seen (record t { forest = nodes }) ≡ record now { set = after_delete s now.set }
  deleted_now nodes s e =
      ap (λ ns. caps_seen (record t { forest = ns })) e
      ∙ ap (λ (set : List Seat). record { set = set; disps = t.disps }) (deleted_seats t.caps t.forest s)
      ∙ ap (λ (u : Caps). record u { set = after_delete s u.set }) seen

  pub deleted_kept : IsWithin t → (nodes : List Node) (s : ℕ) → nodes ≡ without_slot s t.forest → IsWithin (record t { forest = nodes })
  deleted_kept w nodes s e = subst (λ ns. IsWithin (record t { forest = ns })) (sym e) (deleted_within t w s)

  pub revoked_now : (nodes : List Node) (s : ℕ) → nodes ≡ without_descendants s t.forest → caps_seen (record t { forest = nodes }) ≡ record now { set = after_revoke s now.set }
  revoked_now nodes s e =
      ap (λ ns. caps_seen (record t { forest = ns })) e
      ∙ ap (λ (set : List Seat). record { set = set; disps = t.disps }) (revoked_seats t.caps t.forest s)
      ∙ ap (λ (u : Caps). record u { set = after_revoke s u.set }) seen

  pub revoked_kept : IsWithin t → (nodes : List Node) (s : ℕ) → nodes ≡ without_descendants s t.forest → IsWithin (record t { forest = nodes })
  revoked_kept w nodes s e = subst (λ ns. IsWithin (record t { forest = ns })) (sym e) (revoked_within t w s)

  -- answers

  pub root_answer : (s : ℕ) (b : Bool) → has_slot t.forest s ≡ b → answer_of (root_fault now.set s) ≡ answer_of (if b then Some UsedSlot else None)
  root_answer s b e = ap (λ b. answer_of (if b then Some UsedSlot else None)) (used_now s ∙ e)

  pub child_answer : (parent s : ℕ) (a b : Bool) → has_slot t.forest parent ≡ a → has_slot t.forest s ≡ b → answer_of (child_fault now.set parent s) ≡ answer_of (if not a then Some EmptySlot else if b then Some UsedSlot else None)
  child_answer parent s a b d e =
      ap (λ a. answer_of (if not a then Some EmptySlot else if is_used now.set s then Some UsedSlot else None)) (used_now parent ∙ d)
      ∙ ap (λ b. answer_of (if not a then Some EmptySlot else if b then Some UsedSlot else None)) (used_now s ∙ e)

-- what a test that failed tells
pub put_where : (a b : Bool) → (a ≡ false → ⊥) → ((a && b) ≡ true → ⊥) → (a ≡ true) × (b ≡ false)
put_where false b f g = absurd (f refl)
put_where true true f g = absurd (g refl)
put_where true false f g = (refl, refl)

pub free_where : (b : Bool) → (b ≡ true → ⊥) → b ≡ false
free_where true f = absurd (f refl)
free_where false f = refl

pub there_where : (b : Bool) → (b ≡ false → ⊥) → b ≡ true
there_where true f = refl
there_where false f = absurd (f refl)

pub both_true : (a b : Bool) → (a && b) ≡ true → (a ≡ true) × (b ≡ true)
both_true true true f = (refl, refl)
both_true true false f = absurd cc
both_true false b f = absurd cc

pub never_ok : {X E : Type 0} (x : X) (e : E) → Ok x ≡ Err e → ⊥
never_ok x e h = cc

pub only_used : (e : ForestFault) → (e ≡ Absent → ⊥) → e ≡ Used
only_used Absent f = absurd (f refl)
only_used Used f = refl

pub only_absent : (e : ForestFault) → (e ≡ Used → ⊥) → e ≡ Absent
only_absent Absent f = refl
only_absent Used f = absurd (f refl)

pub any_ok : {X E : Type 0} (r : Result X E) (P : Type 0) → P → OnOk r P
any_ok (Ok x) P p = p
any_ok (Err e) P p = tt
