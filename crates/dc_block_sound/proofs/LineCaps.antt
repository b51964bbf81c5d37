-- The capabilities of a line in a block: what a change leaves of them.
use Rattle.std.proofs.Common.{◌≡◌, ℕ, zero, suc, List, [], ◌∷◌, Bool, true, false, Some, None, refl, sym, ap, ◌∙◌, subst, ◌+◌, arith}
use Rattle.std.specs.Prelude.{slice_get, ◌==◌, ◌||◌, not, filter, fold}
use Rattle.std.specs.List.{list_any}
use Rattle.std.proofs.lemmas.Bool.Decides.{nat_tests}
use Rattle.std.proofs.lemmas.Bool.{or_right}
use Rattle.dc_base.specs.declared.capabilities.Cap.{Cap}
use Rattle.dc_base.specs.declared.capabilities.CapKind.TheVariants as kind
use Rattle.dc_base.specs.ControlBlocks.{ControlBlock}
use Rattle.dc_base.specs.Capabilities.{Seat, after_delete, slots_of_line, without_line, is_of_line}
use Rattle.dc_base.specs.Kernel.{with_mask, memory_cap}
use Rattle.dc_base.specs.KeptOutside.{has_cap_of_line}
use Rattle.dc_base.specs.States.{State}
use Rattle.dc_base.proofs.Ascending.{was_there}
use Rattle.dc_block_sound.proofs.CapForms.{each_deleted, each_revoked, each_given, each_fold}
use Rattle.dc_block_sound.proofs.ControlSteps.{Step, copied, retyped, deleted, revoked, given, claimed, Steps, kept_by}
use Rattle.dc_block_sound.proofs.Elements.{is_same}
use Rattle.dc_block_sound.proofs.Forests.{stands, adopted, adopted_slot}
use Rattle.dc_block_sound.proofs.Seats.{in_filter, in_map, map_there, EachCap, cap_holds, each_put}

-- one of the list passes the test

any_by : {A : Type 0} (p : A → Bool) (x : A) (xs : List A) → (list_any p xs ≡ true → (i : ℕ) × (a : A) × (slice_get xs i ≡ Some a) × (p a ≡ true)) → (t : Bool) → p x ≡ t → (t || list_any p xs) ≡ true →
    (i : ℕ) × (a : A) × (slice_get (x ∷ xs) i ≡ Some a) × (p a ≡ true)
any_by p x xs more true q h = (0, x, refl, q)
any_by p x xs more false q h = let w = more h in (suc w.0, w.1, w.2, w.3)

pub any_there : {A : Type 0} (p : A → Bool) (xs : List A) → list_any p xs ≡ true → (i : ℕ) × (a : A) × (slice_get xs i ≡ Some a) × (p a ≡ true)
any_there p [] h = absurd cc
any_there p (x ∷ xs) h = any_by p x xs (λ k. any_there p xs k) (p x) refl h

pub there_any : {A : Type 0} (p : A → Bool) (xs : List A) (a : A) (i : ℕ) → slice_get xs i ≡ Some a → p a ≡ true → list_any p xs ≡ true
there_any p [] a i e h = absurd cc
there_any p (x ∷ xs) a zero e h = let same : x ≡ a = cc in ap (λ t. t || list_any p xs) (ap p same ∙ h)
there_any p (x ∷ xs) a (suc i) e h = or_right (p x) (list_any p xs) (there_any p xs a i e h)

-- each line of which the block has a capability is one of B
abbrev pub LinesIn : (ℕ → Type 0) → ℕ → Cap → Type 0
LinesIn B slot cap = (l : ℕ) → is_of_line l cap.kind ≡ true → B l

abbrev pub AreLines : (ℕ → Type 0) → ControlBlock → Type 0
AreLines B x = EachCap (LinesIn B) x.parts.caps

pub lines_of : (B : ℕ → Type 0) (x : ControlBlock) → AreLines B x → (l : ℕ) → has_cap_of_line l x ≡ true → B l
lines_of B x h l e = let w = any_there (λ (k : Seat). is_of_line l k.cap.kind) x.parts.caps e in h w.0 w.1 w.2 l w.3

pub are_lines : (B : ℕ → Type 0) (x : ControlBlock) → ((l : ℕ) → has_cap_of_line l x ≡ true → B l) → AreLines B x
are_lines B x h i k e l q = h l (there_any (λ (k : Seat). is_of_line l k.cap.kind) x.parts.caps k i e q)

memory_apart : (into_frame : Bool) (f n rights l : ℕ) → is_of_line l (memory_cap into_frame f n rights).kind ≡ true → ⊥
memory_apart true f n rights l h = cc
memory_apart false f n rights l h = cc

line_is : (B : ℕ → Type 0) (l m : ℕ) → B l → is_of_line m (kind.Line (record { 0 = l })) ≡ true → B m
line_is B l m b h = subst B (is_same l m h) b

-- what may be claimed is one of B too
keeps_lines_of : (s : State) (d : ℕ) (C B : ℕ → Type 0) → ((l : ℕ) → C l → B l) → (x y : ControlBlock) → Step s d C x y → AreLines B x → AreLines B y
keeps_lines_of s d C B more x y (copied _ from slot mask cap e free within) h =
    each_put (record { slot = slot; cap = with_mask mask cap; parent = Some from }) (λ (k : Seat). LinesIn B k.slot k.cap) x.parts.caps (λ l q. cap_holds (LinesIn B) x.parts.caps from cap h e l q) h
keeps_lines_of s d C B more x y (retyped _ from slot into_frame f l offset size cap e k some fits free within) h =
    each_put (record { slot = slot; cap = memory_cap into_frame (f + offset) size cap.rights; parent = Some from }) (λ (k : Seat). LinesIn B k.slot k.cap) x.parts.caps (λ m q. absurd (memory_apart into_frame (f + offset) size cap.rights m q)) h
keeps_lines_of s d C B more x y (deleted _ slot) h = each_deleted (LinesIn B) slot x.parts.caps h
keeps_lines_of s d C B more x y (revoked _ slot) h = each_revoked (LinesIn B) slot x.parts.caps h
keeps_lines_of s d C B more x y (given _ l) h = each_given (LinesIn B) l x.parts.caps h
keeps_lines_of s d C B more x y (claimed _ l slot z rights w q g free within allowed) h =
    each_put (record { slot = slot; cap = record { kind = kind.Line (record { 0 = l }); rights = rights }; parent = None }) (λ (k : Seat). LinesIn B k.slot k.cap) x.parts.caps (λ m e. line_is B l m (more l allowed) e) h
keeps_lines_of s d C B more x y st h = h

pub lines_along : (s : State) (d : ℕ) (C B : ℕ → Type 0) → ((l : ℕ) → C l → B l) → (x y : ControlBlock) → Steps s d C x y → AreLines B x → AreLines B y
lines_along s d C B more x y st h = kept_by s d C (AreLines B) (keeps_lines_of s d C B more) x y st h

-- nothing of a line is left after it is given

slot_gone : (s : ℕ) (caps : List Seat) → EachCap (λ slot cap. slot ≡ s → ⊥) (after_delete s caps)
unfolding after_delete
slot_gone s caps i k e same =
    let m = map_there (adopted s caps) (filter (stands s caps) caps) i k e in
    let w = was_there (stands s caps) caps m.0 i m.1 in
    let there : m.0.slot ≡ s = sym (adopted_slot s caps m.0) ∙ ap (λ (v : Seat). v.slot) (sym m.2) ∙ same in
    not_there m.0.slot s there w.0
  where
    not_there : (n s : ℕ) → n ≡ s → not (n == s) ≡ true → ⊥
    not_there n s q h = grind (arith, nat_tests)

slots_gone : (slots : List ℕ) (caps : List Seat) (j s : ℕ) → slice_get slots j ≡ Some s → EachCap (λ slot cap. slot ≡ s → ⊥) (fold (λ caps s. after_delete s caps) caps slots)
slots_gone [] caps j s q = absurd cc
slots_gone (p ∷ ps) caps zero s q = let same : p ≡ s = cc in each_fold (λ slot cap. slot ≡ s → ⊥) ps (after_delete p caps) (subst (λ n. EachCap (λ slot cap. slot ≡ s → ⊥) (after_delete n caps)) (sym same) (slot_gone s caps))
slots_gone (p ∷ ps) caps (suc j) s q = slots_gone ps (after_delete p caps) j s q

-- a slot that held this before
abbrev WasHeld : List Seat → ℕ → Cap → Type 0
WasHeld caps slot cap = (i : ℕ) × (h : Seat) × (slice_get caps i ≡ Some h) × (h.slot ≡ slot) × (h.cap ≡ cap)

pub line_gone : (l : ℕ) (caps : List Seat) → EachCap (λ slot cap. is_of_line l cap.kind ≡ true → ⊥) (without_line l caps)
unfolding without_line
line_gone l caps i k e q =
    let was = each_fold (WasHeld caps) (slots_of_line l caps) caps (λ i h g. (i, h, g, refl, refl)) i k e in
    let kept = in_filter (λ (h : Seat). is_of_line l h.cap.kind) caps was.1 (ap (λ (c : Cap). is_of_line l c.kind) was.4 ∙ q) was.0 was.2 in
    let there = in_map (λ (h : Seat). h.slot) (filter (λ (h : Seat). is_of_line l h.cap.kind) caps) was.1 kept in
    slots_gone (slots_of_line l caps) caps there.0 was.1.slot there.1 i k e (sym was.3)

pub none_of_line : (l : ℕ) (x : ControlBlock) → EachCap (λ slot cap. is_of_line l cap.kind ≡ true → ⊥) x.parts.caps → has_cap_of_line l x ≡ false
none_of_line l x h = by_test (has_cap_of_line l x) refl
  where
    by_test : (t : Bool) → has_cap_of_line l x ≡ t → t ≡ false
    by_test true e = let w = any_there (λ (k : Seat). is_of_line l k.cap.kind) x.parts.caps e in absurd (h w.0 w.1 w.2 w.3)
    by_test false e = refl
