-- The capabilities of a control block stay in form.
use Rattle.std.proofs.Common.{◌≡◌, ℕ, ◌+◌, ◌*◌, ◌<◌, ◌≤◌, List, [], ◌∷◌, true, false, Option, Some, None, refl, sym, ap, subst, arith, length}
use Rattle.std.specs.Prelude.{slice_get, not, filter, IfSome, fold}
use Rattle.std.proofs.lemmas.Nat.{and_le_l}
use Rattle.dc_base.specs.declared.capabilities.Cap.{Cap}
use Rattle.dc_base.specs.declared.capabilities.CapKind.TheVariants as kind
use Rattle.dc_base.specs.ControlBlocks.{ControlBlock}
use Rattle.dc_base.specs.Words.{Each}
use Rattle.dc_base.specs.Capabilities.{Seat, is_used, with_seat, reaches, after_revoke, after_delete, slots_of_line, without_line}
use Rattle.dc_base.specs.Kernel.{with_mask, memory_cap}
use Rattle.dc_base.specs.KeptByBlocks.{HasShape, HasCaps}
use Rattle.dc_base.specs.Lines.{Wire}
use Rattle.dc_base.specs.States.{State}
use Rattle.dc_base.proofs.Ascending.{was_there, each_filter}
use Rattle.dc_block_sound.proofs.ControlSteps.{woken, stands_still, held_up, copied, retyped, deleted, revoked, given, claimed, StepKeepsUnder}
use Rattle.dc_block_sound.proofs.Forests.{IsForest, put_forest, revoked_forest, deleted_forest, given_forest, stands, adopted, adopted_slot, adopted_cap}
use Rattle.dc_block_sound.proofs.Forms.{same_shape}
use Rattle.dc_block_sound.proofs.Seats.{EachCap, cap_holds, cap_used, each_put, map_there}

-- what holds of each slot and what it holds, holds of those that are left

pub each_deleted : (P : ℕ → Cap → Type 0) (s : ℕ) (caps : List Seat) → EachCap P caps → EachCap P (after_delete s caps)
unfolding after_delete
each_deleted P s caps h i k e =
    let m = map_there (adopted s caps) (filter (stands s caps) caps) i k e in
    let w = was_there (stands s caps) caps m.0 i m.1 in
    let old = h w.1.0 m.0 w.1.1 in
    subst (λ (v : Seat). P v.slot v.cap) (sym m.2) (subst (λ n. P n (adopted s caps m.0).cap) (sym (adopted_slot s caps m.0)) (subst (λ c. P m.0.slot c) (sym (adopted_cap s caps m.0)) old))

pub each_revoked : (P : ℕ → Cap → Type 0) (s : ℕ) (caps : List Seat) → EachCap P caps → EachCap P (after_revoke s caps)
unfolding after_revoke
each_revoked P s caps h = each_filter (λ (k : Seat). P k.slot k.cap) (λ (k : Seat). not (reaches caps k s)) caps h

pub each_fold : (P : ℕ → Cap → Type 0) (slots : List ℕ) (caps : List Seat) → EachCap P caps → EachCap P (fold (λ caps s. after_delete s caps) caps slots)
each_fold P [] caps h = h
each_fold P (s ∷ ss) caps h = each_fold P ss (after_delete s caps) (each_deleted P s caps h)

pub each_given : (P : ℕ → Cap → Type 0) (l : ℕ) (caps : List Seat) → EachCap P caps → EachCap P (without_line l caps)
unfolding without_line
each_given P l caps h = each_fold P (slots_of_line l caps) caps h

-- the capabilities of a block, with what bounds its slots

abbrev Within : ℕ → ℕ → Cap → Type 0
Within n slot cap = slot < 16 * n

abbrev pub Limited : ℕ → Cap → Type 0
Limited slot cap = cap.rights ≤ 7

pub forest_of : (x : ControlBlock) → HasCaps x → IsForest x.parts.caps
forest_of x h = record { ascending = h.ascending; parents = h.parents; roots = h.roots }

module _ (x : ControlBlock) (shape : HasShape x) (h : HasCaps x) where
  -- one more seat in a free slot
  put_caps : (k : Seat) → is_used x.parts.caps k.slot ≡ false → k.slot < 16 * length x.parts.code → k.cap.rights ≤ 7 → IfSome k.parent (λ p. is_used x.parts.caps p ≡ true) → (y : ControlBlock) → y.parts.caps ≡ with_seat k x.parts.caps → y.states ≡ x.states → HasCaps y
  put_caps k free within rights parent y caps states =
      let f = put_forest x.parts.caps (forest_of x h) k free parent in
      let w : k.slot < 16 * length x.states = subst (λ n. k.slot < 16 * n) shape.code within in
      let g = subst IsForest (sym caps) f in
      record {
        ascending = g.ascending;
        slots = subst (λ n. EachCap (Within n) y.parts.caps) (sym (ap length states)) (subst (EachCap (Within (length x.states))) (sym caps) (each_put k (λ (v : Seat). v.slot < 16 * length x.states) x.parts.caps w h.slots));
        rights = subst (EachCap Limited) (sym caps) (each_put k (λ (v : Seat). v.cap.rights ≤ 7) x.parts.caps rights h.rights);
        parents = g.parents;
        roots = g.roots;
      }

-- fewer seats
fewer_caps : (x y : ControlBlock) → y.states ≡ x.states → IsForest y.parts.caps → EachCap (Within (length x.states)) y.parts.caps → EachCap Limited y.parts.caps → HasCaps y
fewer_caps x y states f slots rights = record { ascending = f.ascending; slots = subst (λ n. EachCap (Within n) y.parts.caps) (sym (ap length states)) slots; rights = rights; parents = f.parents; roots = f.roots }

-- as many dispatchers in other states
same_caps : (x y : ControlBlock) → HasCaps x → y.parts ≡ x.parts → length y.states ≡ length x.states → HasCaps y
same_caps x y h parts states =
    let f = subst (λ p. IsForest p.caps) (sym parts) (forest_of x h) in
    record {
      ascending = f.ascending;
      slots = subst (λ n. EachCap (Within n) y.parts.caps) (sym states) (subst (λ p. EachCap (Within (length x.states)) p.caps) (sym parts) h.slots);
      rights = subst (λ p. EachCap Limited p.caps) (sym parts) h.rights;
      parents = f.parents;
      roots = f.roots;
    }

-- offered rights are within their bound
abbrev pub OffersWithin : State → Type 0
OffersWithin s = Each s.lines (λ l w. IfSome w.offer (λ (o : ℕ × ℕ). o.1 ≤ 7))

offered_rights : (s : State) → OffersWithin s → (l y rights : ℕ) (w : Wire) → slice_get s.lines l ≡ Some w → w.offer ≡ Some (y, rights) → rights ≤ 7
offered_rights s offers l y rights w q g = subst (λ (o : Option (ℕ × ℕ)). IfSome o (λ (o : ℕ × ℕ). o.1 ≤ 7)) g (offers l w q)

-- each change keeps the capabilities in form, where the shape is, and offered rights are within their bound
pub keeps_caps : (s : State) → OffersWithin s → StepKeepsUnder s HasShape HasCaps
keeps_caps s offers d C x y (woken _ w) shape h = same_caps x y h refl (same_shape s d C x y (woken x w)).states
keeps_caps s offers d C x y (stands_still _ state f) shape h = same_caps x y h refl (same_shape s d C x y (stands_still x state f)).states
keeps_caps s offers d C x y (held_up _ w f) shape h = same_caps x y h refl (same_shape s d C x y (held_up x w f)).states
keeps_caps s offers d C x y (copied _ from slot mask cap e free within) shape h =
    let l = and_le_l cap.rights mask in
    let r : cap.rights ≤ 7 = cap_holds Limited x.parts.caps from cap h.rights e in
    put_caps x shape h (record { slot = slot; cap = with_mask mask cap; parent = Some from }) free within (omega (arith, l, r)) (cap_used x.parts.caps from cap e) y refl refl
keeps_caps s offers d C x y (retyped _ from slot into_frame f l offset size cap e k some fits free within) shape h =
    put_caps x shape h (record { slot = slot; cap = memory_cap into_frame (f + offset) size cap.rights; parent = Some from }) free within (cap_holds Limited x.parts.caps from cap h.rights e) (cap_used x.parts.caps from cap e) y refl refl
keeps_caps s offers d C x y (deleted _ slot) shape h =
    let f = forest_of x h in fewer_caps x y refl (deleted_forest slot x.parts.caps f) (each_deleted (Within (length x.states)) slot x.parts.caps h.slots) (each_deleted Limited slot x.parts.caps h.rights)
keeps_caps s offers d C x y (revoked _ slot) shape h =
    let f = forest_of x h in fewer_caps x y refl (revoked_forest slot x.parts.caps f) (each_revoked (Within (length x.states)) slot x.parts.caps h.slots) (each_revoked Limited slot x.parts.caps h.rights)
keeps_caps s offers d C x y (given _ l) shape h =
    let f = forest_of x h in fewer_caps x y refl (given_forest l x.parts.caps f) (each_given (Within (length x.states)) l x.parts.caps h.slots) (each_given Limited l x.parts.caps h.rights)
keeps_caps s offers d C x y (claimed _ l slot z rights w q g free within allowed) shape h =
    put_caps x shape h (record { slot = slot; cap = record { kind = kind.Line (record { 0 = l }); rights = rights }; parent = None }) free within (offered_rights s offers l z rights w q g) tt y refl refl
keeps_caps s offers d C x y st shape h = record { ascending = h.ascending; slots = h.slots; rights = h.rights; parents = h.parents; roots = h.roots }
