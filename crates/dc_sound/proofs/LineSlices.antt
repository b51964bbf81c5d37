-- A slice keeps the capabilities of each line in one block, also where it gives the line or claims it; and with it each entry.
use Rattle.dc_sound.proofs.SliceFacts.{fine_without}
use Rattle.std.proofs.Common.{◌≡◌, ◌⊎◌, ℕ, ◌+◌, ◌≤◌, List, [], ◌∷◌, Bool, true, false, Option, Some, None, refl, sym, ap, ◌∙◌, subst, inl, inr}
use Rattle.std.specs.Prelude.{slice_get, IsSome}
use Rattle.dc_base.specs.declared.calls.Need.TheVariants as needs
use Rattle.dc_base.specs.declared.calls.Op.{Op}
use Rattle.dc_base.specs.declared.capabilities.Cap.{Cap}
use Rattle.dc_base.specs.declared.commands.Command.{Command}
use Rattle.dc_base.specs.declared.entries.Entry.{Entry}
use Rattle.dc_base.specs.declared.kernels.Version.{Version}
use Rattle.dc_base.specs.declared.kernels.Version.TheVariants as version
use Rattle.dc_base.specs.Capabilities.{is_of_line}
use Rattle.dc_base.specs.Changes.{Change, core_becomes, block_becomes, line_becomes, apply}
use Rattle.dc_base.specs.ControlBlocks.{ControlBlock}
use Rattle.dc_base.specs.Kernel.{Call, gives, claims}
use Rattle.dc_base.specs.KeptByBlocks.{HasShape, HasCaps, AllShapes, AllCaps}
use Rattle.dc_base.specs.KeptOutside.{KeepsLines, has_cap_of_line}
use Rattle.dc_base.specs.Lines.{Wire, rights_over}
use Rattle.dc_base.specs.Orders.{block_at_rest, block_under}
use Rattle.dc_base.specs.Parts.{Parts}
use Rattle.dc_base.specs.Serving.{need, Outside, line_outside, serve, serve_claim}
use Rattle.dc_base.specs.Slices.{Halfway, stopped, stands, after_served, slice_end, due_after, Sliced, need_of}
use Rattle.dc_base.specs.States.{State, Core, Block, with_control, time_on}
use Rattle.dc_base.specs.NeededLooks.{as_line, outside_change}
use Rattle.dc_base.specs.SliceTurns.{core_after_slice}
use Rattle.dc_block_sound.proofs.CapForms.{keeps_caps, Limited}
use Rattle.dc_block_sound.proofs.ControlSteps.{Steps, kept_along}
use Rattle.dc_block_sound.proofs.Elements.{same_is, same_some}
use Rattle.dc_sound.proofs.EntryKinds.{Kind, Before, first_post, next_post, slice_changes, sliced_of, is_slice, is_slice_none, is_idle, is_wake, is_intake, is_start, is_stop, is_replace, is_adopt, is_release, is_post, is_done, is_refused, is_route, is_awaited, is_raise}
use Rattle.dc_block_sound.proofs.OutsideAt.{outside_at, here_or_none}
use Rattle.dc_block_sound.proofs.Forms.{keeps_shape}
use Rattle.dc_block_sound.proofs.LineCaps.{LinesIn, lines_of, are_lines, lines_along, line_gone, none_of_line}
use Rattle.dc_sound.proofs.LinesKept.{Had, lines_rule, old_block, old_line, plain_kept, along, along_block, raised, taken_in, IsPlain, ended, changes_of, slice_plain, given_kept, claimed_kept}
use Rattle.dc_sound.proofs.Outsides.{no_claim}
use Rattle.dc_sound.proofs.Rules.{Fine, fine_append, fine_all}
use Rattle.dc_block_sound.proofs.Seats.{EachCap, cap_holds}
use Rattle.dc_block_sound.proofs.Walks.{HalfFits, HalfClaims, CallClaims, fire_steps, again_steps, latch_steps}
use Rattle.dc_sound.proofs.SliceWalks.{slice_steps, slice_half, slice_without}

-- calls that give no line and claim none

abbrev is_giving : Call → Bool
is_giving (gives l x rights p) = true
is_giving call = false

abbrev is_claiming : Call → Bool
is_claiming (claims l x slot p) = true
is_claiming call = false

gives_apart : (call : Call) (l x rights : ℕ) (p : Parts) → is_giving call ≡ false → call ≡ gives l x rights p → ⊥
gives_apart call l x rights p h e = let z : false ≡ true = sym h ∙ ap is_giving e in cc

claims_apart : (s : State) (call : Call) (l : ℕ) → is_claiming call ≡ false → CallClaims s call l → ⊥
claims_apart s (claims m x slot p) l h c = cc
claims_apart s call l h c = c

other_plain : (s : State) (p : KeepsLines s) (call : Call) → is_giving call ≡ false → is_claiming call ≡ false → IsPlain s p call
other_plain s p call g h = record { gives_none = λ l x rights q w e f. gives_apart call l x rights q g e; claims_none = λ l c. claims_apart s call l h c }

-- what the end of such a slice is

due_caps : (v : Version) (d : ℕ) (y : ControlBlock) → (due_after v d y).parts.caps ≡ y.parts.caps
due_caps version.Rr d y = refl
due_caps version.Edf d y = refl

module _ (c b d : ℕ) (v : Version) (y : ControlBlock) (ran : ℕ) (o : Op) (l z : ℕ) (q : Parts) (w : Wire) where
  abbrev GivenEnd : ℕ → Outside → Type 0
  GivenEnd rights out =
      ((slice_end c b v d (stands y ran o (gives l z rights q)) out).control.parts.caps ≡ q.caps)
      × (outside_change b (slice_end c b v d (stands y ran o (gives l z rights q)) out).need (slice_end c b v d (stands y ran o (gives l z rights q)) out).outside ≡ line_becomes l (record w { bound = None; offer = Some (z, rights) }) ∷ [])

  given_at : (rights : ℕ) → GivenEnd rights (line_outside w)
  unfolding slice_end serve need outside_change
  given_at rights = (due_caps v d _, refl)

  given_end : (rights : ℕ) (out : Outside) → out ≡ line_outside w → GivenEnd rights out
  given_end rights out e = subst (GivenEnd rights) (sym e) (given_at rights)

  abbrev ClaimedEnd : ℕ → Outside → Type 0
  ClaimedEnd slot out =
      outside_change b (slice_end c b v d (stands y ran o (claims l z slot q)) out).need (slice_end c b v d (stands y ran o (claims l z slot q)) out).outside ≡ line_becomes l (record w { offer = None }) ∷ []

  claimed_by : (slot rights : ℕ) (r : Option ℕ) → r ≡ Some rights →
      outside_change b (after_served y d ran o (needs.Line (record { 0 = l })) (line_outside w) (serve_claim l slot q w r)).need (after_served y d ran o (needs.Line (record { 0 = l })) (line_outside w) (serve_claim l slot q w r)).outside ≡ line_becomes l (record w { offer = None }) ∷ []
  unfolding outside_change
  claimed_by slot rights None e = absurd cc
  claimed_by slot rights (Some r) e = refl

  claimed_at : (slot rights : ℕ) → rights_over z w.offer ≡ Some rights → ClaimedEnd slot (line_outside w)
  unfolding slice_end serve need
  claimed_at slot rights e = claimed_by slot rights (rights_over z w.offer) e

  claimed_end : (slot rights : ℕ) (out : Outside) → out ≡ line_outside w → rights_over z w.offer ≡ Some rights → ClaimedEnd slot out
  claimed_end slot rights out e f = subst (ClaimedEnd slot) (sym e) (claimed_at slot rights f)

offered_over : (z rights : ℕ) (o : Option (ℕ × ℕ)) → rights_over z o ≡ Some rights → IsSome o
offered_over z rights None e = absurd cc
offered_over z rights (Some o) e = refl

module _ (s : State) (p : KeepsLines s) (shapes : AllShapes s) (caps : AllCaps s) (c b d : ℕ) (v : Version) (core : Core) (x : Block) (at : slice_get s.blocks b ≡ Some x) where
  abbrev Slice : Halfway → Type 0
  Slice h = KeepsLines (apply s (changes_of s p c b d v core x at h))

  abbrev Ends : Halfway → Type 0
  Ends h = Steps s d (HalfClaims s h) x.control (ended s p c b d v core x at h)

  -- the capabilities at the call are in form
  call_caps : (y : ControlBlock) → Steps s d no_claim x.control y → HasCaps y
  call_caps y st = kept_along s d no_claim HasShape HasCaps (keeps_shape s d no_claim) (keeps_caps s p.rights d no_claim) x.control y st (shapes b x at) (caps b x at)

  module _ (y : ControlBlock) (ran : ℕ) (o : Op) (l z : ℕ) (q : Parts) where
    outside_gives : (rights : ℕ) (w : Wire) → slice_get s.lines l ≡ Some w → outside_at s b (need (gives l z rights q)) ≡ line_outside w
    unfolding need
    outside_gives rights w e = ap as_line e

    outside_claims : (slot : ℕ) (w : Wire) → slice_get s.lines l ≡ Some w → outside_at s b (need (claims l z slot q)) ≡ line_outside w
    unfolding need
    outside_claims slot w e = ap as_line e

    give : (rights : ℕ) → HalfFits s d no_claim x.control (stands y ran o (gives l z rights q)) → Ends (stands y ran o (gives l z rights q)) → (w : Wire) → slice_get s.lines l ≡ Some w → Slice (stands y ran o (gives l z rights q))
    give rights f st w e =
        let h = stands y ran o (gives l z rights q) in
        let now = ended s p c b d v core x at h in
        let end = given_end c b d v y ran o l z q w rights (outside_at s b (need (gives l z rights q))) (outside_gives rights w e) in
        let up = f.1.1 in
        let of_line : is_of_line l up.cap.kind ≡ true = ap (is_of_line l) up.kind_is ∙ same_is l in
        let had : Had s l b = cap_holds (LinesIn (λ l. Had s l b)) y.parts.caps up.slot up.cap (along s p b d no_claim (λ l c. c) x at y f.0) up.cap_there l of_line in
        let gone : has_cap_of_line l now ≡ false = none_of_line l now (subst (λ cs. EachCap (λ slot (cap : Cap). is_of_line l cap.kind ≡ true → ⊥) cs) (sym (end.0 ∙ up.caps_are)) (line_gone l y.parts.caps)) in
        let within : rights ≤ 7 = subst (λ r. r ≤ 7) up.rights_are (cap_holds Limited y.parts.caps up.slot up.cap (call_caps y f.0).rights up.cap_there) in
        let all = given_kept s p c b d v core x at l (record w { bound = None; offer = Some (z, rights) }) now had (no_more gone) (along_block s p b d (HalfClaims s h) (λ l c. c) x at now st) within (p.pending l w e) in
        subst (λ (chs : List Change). KeepsLines (apply s (changes_begin now chs))) (sym end.1) all
      where
        no_more : {t : Bool} → t ≡ false → t ≡ true → ⊥
        no_more {t} g k = let z : false ≡ true = sym g ∙ k in cc

        changes_begin : ControlBlock → List Change → List Change
        changes_begin now chs = core_becomes c core ∷ block_becomes b (with_control now x) ∷ chs

    claim : (slot : ℕ) → Ends (stands y ran o (claims l z slot q)) → (w : Wire) → slice_get s.lines l ≡ Some w → (rights : ℕ) → rights_over z w.offer ≡ Some rights → Slice (stands y ran o (claims l z slot q))
    claim slot st w e rights r =
        let h = stands y ran o (claims l z slot q) in
        let now = ended s p c b d v core x at h in
        let end = claimed_end c b d v y ran o l z q w slot rights (outside_at s b (need (claims l z slot q))) (outside_claims slot w e) r in
        let has = lines_along s d (HalfClaims s h) (λ m. Had s m b ⊎ (m ≡ l)) (λ m k. inr k.0) x.control now st (are_lines (λ m. Had s m b ⊎ (m ≡ l)) x.control (λ m k. inl (old_block s p b x at m k))) in
        let all = claimed_kept s p c b d v core x at l w e (offered_over z rights w.offer r) now (lines_of (λ m. Had s m b ⊎ (m ≡ l)) now has) in
        subst (λ (chs : List Change). KeepsLines (apply s (changes_begin now chs))) (sym end) all
      where
        changes_begin : ControlBlock → List Change → List Change
        changes_begin now chs = core_becomes c core ∷ block_becomes b (with_control now x) ∷ chs

    gives_by : (rights : ℕ) → HalfFits s d no_claim x.control (stands y ran o (gives l z rights q)) → Ends (stands y ran o (gives l z rights q)) → (w : Option Wire) → slice_get s.lines l ≡ w → Slice (stands y ran o (gives l z rights q))
    gives_by rights f st (Some w) e = give rights f st w e
    gives_by rights f st None e = slice_plain s p c b d v core x at (stands y ran o (gives l z rights q)) (record { gives_none = λ m u r k w g i. no_line m u r k w g i; claims_none = λ m k. k }) st
      where
        no_line : (m u r : ℕ) (k : Parts) (w : Wire) → gives l z rights q ≡ gives m u r k → slice_get s.lines m ≡ Some w → ⊥
        no_line m u r k w g i = let same : l ≡ m = cc in let bad : None ≡ Some w = sym e ∙ ap (slice_get s.lines) same ∙ i in cc

    claims_by : (slot : ℕ) → Ends (stands y ran o (claims l z slot q)) → (w : Wire) → slice_get s.lines l ≡ Some w → (r : Option ℕ) → rights_over z w.offer ≡ r → Slice (stands y ran o (claims l z slot q))
    claims_by slot st w e (Some rights) r = claim slot st w e rights r
    claims_by slot st w e None r = slice_plain s p c b d v core x at (stands y ran o (claims l z slot q)) (record { gives_none = λ m u t k w g i. gives_apart (claims l z slot q) m u t k refl g; claims_none = λ m k. none_over m k }) st
      where
        none_over : (m : ℕ) → CallClaims s (claims l z slot q) m → ⊥
        none_over m k =
            let same = same_some (slice_get s.lines l) w k.1.0 e k.1.1 in
            let bad : None ≡ Some k.1.2.0 = sym r ∙ ap (λ (u : Wire). rights_over z u.offer) same ∙ k.1.2.1 in cc

    claims_at : (slot : ℕ) → Ends (stands y ran o (claims l z slot q)) → (w : Option Wire) → slice_get s.lines l ≡ w → Slice (stands y ran o (claims l z slot q))
    claims_at slot st (Some w) e = claims_by slot st w e (rights_over z w.offer) refl
    claims_at slot st None e = slice_plain s p c b d v core x at (stands y ran o (claims l z slot q)) (record { gives_none = λ m u t k w g i. gives_apart (claims l z slot q) m u t k refl g; claims_none = λ m k. no_line m k }) st
      where
        no_line : (m : ℕ) → CallClaims s (claims l z slot q) m → ⊥
        no_line m k = let bad : None ≡ Some k.1.0 = sym e ∙ k.1.1 in cc

  slice_lines : (h : Halfway) → HalfFits s d no_claim x.control h → Ends h → Slice h
  slice_lines (stopped y ran e) f st = slice_plain s p c b d v core x at (stopped y ran e) tt st
  slice_lines (stands y ran o (gives l z rights q)) f st = gives_by y ran o l z q rights f st (slice_get s.lines l) refl
  slice_lines (stands y ran o (claims l z slot q)) f st = claims_at y ran o l z q slot st (slice_get s.lines l) refl
  slice_lines (stands y ran o call) f st = slice_plain s p c b d v core x at (stands y ran o call) (other_plain s p call refl refl) st

-- each entry keeps this part; it uses that shapes and capabilities are in form
module _ (s : State) (chs : List Change) (e : Entry) (p : KeepsLines s) (shapes : AllShapes s) (caps : AllCaps s) where
  plain : (more : List Change) → chs ≡ more → Fine (lines_rule s p) more → KeepsLines (apply s chs)
  plain more same f = plain_kept s p chs (subst (Fine (lines_rule s p)) (sym same) f)

  fine_before : (command : Command) (before : List Change) → Before s command before → Fine (lines_rule s p) before
  fine_before command before (first_post z r q) = subst (Fine (lines_rule s p)) (sym q) tt
  fine_before command before (next_post last o z g m q) = subst (Fine (lines_rule s p)) (sym q) (tt, tt)

  pub lines_kept : Kind s chs e → KeepsLines (apply s chs)
  lines_kept (is_slice i) = elim (here_or_none i.k.settings s i.b (need_of i.h)) [
    | inl same ↦
        let st = subst (λ out. Steps s i.d (HalfClaims s i.h) i.x.control (slice_end i.c i.b i.v i.d i.h out).control) same (slice_steps s chs e i) in
        let core = core_after_slice i.k i.b (i.k.clock + (sliced_of s chs e i).advance) in
        let all = slice_lines s p shapes caps i.c i.b i.d i.v core i.x i.turn.block_at i.h (slice_half s chs e i no_claim) st in
        subst (λ (chs : List Change). KeepsLines (apply s chs)) (sym (slice_changes s chs e i))
        (subst (λ out. KeepsLines (apply s (changes_got core i.b i.x (slice_end i.c i.b i.v i.d i.h out)))) (sym same) all)
    | inr none ↦
        plain _ (slice_changes s chs e i) (
          tt,
          (
            along_block s p i.b i.d no_claim (λ l c. c) i.x i.turn.block_at _ (slice_without s chs e i no_claim none),
            subst (λ out. Fine (lines_rule s p) (outside_change i.b (slice_end i.c i.b i.v i.d i.h out).need (slice_end i.c i.b i.v i.d i.h out).outside)) (sym none) (fine_without (lines_rule s p) i.c i.b i.v i.d i.h),
          ),
        )
  ]
    where
      changes_got : Core → ℕ → Block → Sliced → List Change
      changes_got core b x sl = core_becomes i.c core ∷ block_becomes b (with_control sl.control x) ∷ outside_change b sl.need sl.outside
  lines_kept (is_slice_none i) = plain _ i.changes_are (tt, (along_block s p i.b 0 no_claim (λ l c. c) i.x i.turn.block_at _ (fire_steps s 0 no_claim (time_on i.k.clock i.offset) i.x.control), tt))
  lines_kept (is_idle i) = plain _ i.changes_are (tt, tt)
  lines_kept (is_wake i) = plain _ i.changes_are (tt, (along_block s p i.b i.d no_claim (λ l c. c) i.x i.turn.block_at _ (again_steps s i.d no_claim i.x.control), tt))
  lines_kept (is_intake i) =
      plain _ i.changes_are (along_block s p i.to.0 0 no_claim (λ l c. c) i.x i.block_at _ (latch_steps s 0 no_claim i.x.control i.to.1 i.l i.n i.w i.line_at i.pending_at), (taken_in s p i.l i.w _ (old_line s p i.l i.w i.line_at), tt))
  lines_kept (is_start i) = plain _ i.changes_are (tt, (tt, tt))
  lines_kept (is_stop i) = plain _ i.changes_are (tt, (tt, fine_all (lines_rule s p) (block_at_rest i.k.clock) s.blocks _ (λ b x q. old_block s p b x q)))
  lines_kept (is_replace i) = plain _ i.changes_are (tt, (tt, fine_all (lines_rule s p) (block_under i.v) s.blocks _ (λ b x q. old_block s p b x q)))
  lines_kept (is_adopt i) = plain _ i.changes_are (tt, (tt, (old_block s p i.b.0 i.x i.block_at, tt)))
  lines_kept (is_release i) = plain _ i.changes_are (tt, (tt, (old_block s p i.b.0 i.x i.block_at, tt)))
  lines_kept (is_post i) = plain _ i.changes_are (fine_append (lines_rule s p) i.before _ (fine_before i.command i.before i.before_at) (tt, (tt, tt)))
  lines_kept (is_done i) = plain _ i.changes_are (fine_append (lines_rule s p) i.before _ (fine_before i.command i.before i.before_at) (tt, tt))
  lines_kept (is_refused i) = plain _ i.changes_are (tt, tt)
  lines_kept (is_route i) = plain _ i.changes_are ((let old = old_line s p i.l.0 i.w i.line_at in record { offered = old.offered; rights = old.rights; pending = old.pending }), (tt, tt))
  lines_kept (is_awaited i) = plain _ i.changes_are (tt, tt)
  lines_kept (is_raise i) = plain _ i.changes_are (raised s p i.l.0 i.w (old_line s p i.l.0 i.w i.line_at), (tt, tt))
