-- A slice, a slice of no dispatcher and idling touch what the table says.
use Rattle.std.proofs.Common.{◌≡◌, ℕ, List, [], ◌∷◌, ◌++◌, Bool, true, false, Option, Some, None, refl, sym, ap, ◌∙◌, subst, map}
use Rattle.std.specs.Prelude.{slice_get, find, if◌then◌else◌, ◌==◌}
use Rattle.std.specs.List.Sorted.{IsPermutation}
use Rattle.std.proofs.lemmas.List.{append-nil}
use Rattle.std.proofs.lemmas.List.Sorted.{IsPermutation-refl}
use Rattle.dc_base.specs.declared.calls.Need.{Need}
use Rattle.dc_base.specs.declared.calls.Need.TheVariants as needs
use Rattle.dc_base.specs.declared.kernels.Version.{Version}
use Rattle.dc_base.specs.declared.entries.Entry.{Entry}
use Rattle.dc_base.specs.declared.entries.What.TheVariants as what
use Rattle.dc_base.specs.NeedsHere.{need_here}
use Rattle.dc_base.specs.Policies.{pick}
use Rattle.dc_base.specs.States.{State, Core, Block, Whereabouts, rest, on, time_at, time_on}
use Rattle.dc_base.specs.Firing.{fire_all}
use Rattle.dc_base.specs.Serving.{Outside, nothing_outside}
use Rattle.dc_base.specs.Slices.{Halfway, need_of, slice_end}
use Rattle.dc_base.specs.Changes.{Name, a_core, a_channel, a_line, a_console, Change}
use Rattle.dc_base.specs.Turns.{spent, Looked, Turn, ends, look_blocks, looked_at}
use Rattle.dc_base.specs.Outcomes.{share_blocks, if_on}
use Rattle.dc_base.specs.NeededLooks.{as_console, as_channel, as_line, look_outside}
use Rattle.dc_base.specs.SliceTurns.{slice_outcome, finish_slice, slice_picked, slice_from, slice_turn}
use Rattle.dc_base.specs.Steps.{is_runnable, step_on, step_turn}
use Rattle.dc_base.specs.IdleTurns.{next_due, idle_outcome}
use Rattle.dc_base.specs.CoreTouches.{with_share, needed, half_needs, half_slice, slice_needs}
use Rattle.dc_touch.proofs.Tabled.{IsTabled, refused, ran_out, made_by_core, seen, either, when_on}

-- the block that is found is in the state
found_by : (blocks : List Block) (p : Looked → Bool) (b : ℕ) (rest_of : List Looked) (l : Looked) → (find p rest_of ≡ Some l → slice_get blocks l.number ≡ l.found) →
    (test : Bool) → (if test then Some (looked_at blocks b) else find p rest_of) ≡ Some l → slice_get blocks l.number ≡ l.found
found_by blocks p b rest_of l more true e =
    let one : looked_at blocks b ≡ l = cc in
    subst (λ (m : Looked). slice_get blocks m.number ≡ m.found) one refl
found_by blocks p b rest_of l more false e = more e

found_there : (blocks : List Block) (p : Looked → Bool) (bs : List ℕ) (l : Looked) → find p (map (looked_at blocks) bs) ≡ Some l → slice_get blocks l.number ≡ l.found
found_there blocks p [] l e = absurd cc
found_there blocks p (b ∷ bs) l e = found_by blocks p b (map (looked_at blocks) bs) l (found_there blocks p bs l) (p (looked_at blocks b)) e

module _ (s : State) (chs : List Change) (e : Entry) where
  -- the object that the call needs is looked at
  outside_tabled : (b : ℕ) (n : Need) (ns : List Name) (next : Outside → Turn) → ((out : Outside) → IsTabled s chs e (ns ++ needed b n) (next out)) → IsTabled s chs e ns (look_outside b n next)
  unfolding look_outside
  outside_tabled b needs.Nothing ns next t = subst (λ ms. IsTabled s chs e ms (next nothing_outside)) (append-nil ns) (t nothing_outside)
  outside_tabled b needs.Console ns next t = seen s chs e ns (a_console b ∷ []) (next (as_console (slice_get s.consoles b))) (t (as_console (slice_get s.consoles b)))
  outside_tabled b (needs.Channel x) ns next t = seen s chs e ns (a_channel x.0 ∷ []) (next (as_channel (slice_get s.channels x.0))) (t (as_channel (slice_get s.channels x.0)))
  outside_tabled b (needs.Line l) ns next t = seen s chs e ns (a_line l.0 ∷ []) (next (as_line (slice_get s.lines l.0))) (t (as_line (slice_get s.lines l.0)))

  module _ (c : ℕ) (k : Core) (here : slice_get s.cores c ≡ Some k) where
    needs_tabled : (b d : ℕ) (x : Block) (time : ℕ) (h : Halfway) → slice_get s.blocks b ≡ Some x → time_at k.clock x.whereabouts ≡ time → half_slice k.settings.quantum time x.control d ≡ Some h →
        slice_needs k b d (slice_get s.blocks b) ≡ needed b (need_here k.settings (need_of h))
    needs_tabled b d x time h hb ht hh = ap (slice_needs k b d) hb ∙ ap (λ t. half_needs k.settings b (half_slice k.settings.quantum t x.control d)) ht ∙ ap (half_needs k.settings b) hh

    finish_tabled : (b : ℕ) (x : Block) (v : Version) (d count time : ℕ) → slice_get s.blocks b ≡ Some x → time_at k.clock x.whereabouts ≡ time → (o : Option Halfway) → half_slice k.settings.quantum time x.control d ≡ o →
        IsTabled s chs e (with_share c k) (finish_slice c k b x v d count o)
    finish_tabled b x v d count time hb ht None hh = refused s chs e _
    finish_tabled b x v d count time hb ht (Some h) hh =
        outside_tabled b (need_here k.settings (need_of h)) (with_share c k) (λ out. ends (slice_outcome c k b x d count (slice_end c b v d h out)))
        (λ out. made_by_core s chs e c k here (with_share c k ++ needed b (need_here k.settings (need_of h))) _ (what.Slice (record { 0 = b }) (record { 0 = d }) count _ _ _)
        (subst (λ ns. IsPermutation (with_share c k ++ needed b (need_here k.settings (need_of h))) (with_share c k ++ ns)) (sym (needs_tabled b d x time h hb ht hh)) (IsPermutation-refl _)))

    picked_tabled : (b : ℕ) (x : Block) (time : ℕ) (v : Version) → slice_get s.blocks b ≡ Some x → time_at k.clock x.whereabouts ≡ time → (o : Option ℕ) →
        IsTabled s chs e (with_share c k) (slice_picked c k b x time v (fire_all time x.control) o)
    picked_tabled b x time v hb ht None = made_by_core s chs e c k here (with_share c k) _ (what.SliceNone (record { 0 = b }) _ _) (IsPermutation-refl _)
    picked_tabled b x time v hb ht (Some d) = finish_tabled b x v d (fire_all time x.control).count time hb ht (half_slice k.settings.quantum time x.control d) refl

    from_tabled : (b : ℕ) (x : Block) → slice_get s.blocks b ≡ Some x → (w : Whereabouts) → x.whereabouts ≡ w → IsTabled s chs e (with_share c k) (slice_from c k b x w)
    from_tabled b x hb (rest kept) hw = refused s chs e _
    from_tabled b x hb (on core offset v) hw =
        picked_tabled b x (time_on k.clock offset) v hb (ap (time_at k.clock) hw) (pick v (fire_all (time_on k.clock offset) x.control).control.dues (fire_all (time_on k.clock offset) x.control).control.ready)

    slice_tabled : (b : ℕ) (o : Option Block) → slice_get s.blocks b ≡ o → IsTabled s chs e (with_share c k) (slice_turn c k b o)
    unfolding slice_turn
    slice_tabled b None hb = refused s chs e _
    slice_tabled b (Some x) hb = from_tabled b x hb x.whereabouts refl

    idle_tabled : (o : Option ℕ) → IsTabled s chs e (with_share c k) (ends (idle_outcome c k o))
    unfolding idle_outcome
    idle_tabled None = refused s chs e _
    idle_tabled (Some clock) = made_by_core s chs e c k here (with_share c k) _ (what.Idle clock) (IsPermutation-refl _)

    on_tabled : (share : List Looked) (o : Option Looked) → ((l : Looked) → o ≡ Some l → slice_get s.blocks l.number ≡ l.found) → IsTabled s chs e (with_share c k) (step_on c k share o)
    on_tabled share None h = idle_tabled (next_due share)
    on_tabled share (Some l) h = slice_tabled l.number l.found (h l refl)

    pub step_tabled : IsTabled s chs e (a_core c ∷ []) (step_turn c k)
    step_tabled =
        let share = map (looked_at s.blocks) (share_blocks k.share) in
        let turn = look_blocks (share_blocks k.share) (λ seen_share. step_on c k seen_share (find (is_runnable k.clock) seen_share)) in
        either s chs e (k.used == k.settings.slices) (a_core c ∷ []) (ends spent) (if_on k.version turn) (ran_out s chs e)
        (when_on s chs e k.version (a_core c ∷ []) turn (on_tabled share (find (is_runnable k.clock) share) (found_there s.blocks (is_runnable k.clock) (share_blocks k.share))))
