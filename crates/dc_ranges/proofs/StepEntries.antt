-- A step makes an entry that is in range: a slice, a slice without a dispatcher, or idle.
use Rattle.dc_base.specs.NeedsHere.{need_here}
use Rattle.std.proofs.Common.{◌≡◌, ℕ, ◌+◌, ◌*◌, ◌^◌, ◌<◌, ◌≤◌, Bool, true, false, List, [], ◌∷◌, Option, Some, None, refl, ap, sym, subst, ◌∙◌, arith, length, map}
use Rattle.std.specs.Prelude.{⊤, slice_get, slice_set, ◌==◌, ◌||◌, find, is_some, if◌then◌else◌, ℤ}
use Rattle.std.specs.List.{sum_by}
use Rattle.std.proofs.Math.Bool.{or-true}
use Rattle.std.proofs.lemmas.Bool.{and_from}
use Rattle.dc_base.specs.declared.calls.Need.{Need}
use Rattle.dc_base.specs.declared.calls.Need.TheVariants as needs
use Rattle.dc_base.specs.declared.kernels.Version.{Version}
use Rattle.dc_base.specs.declared.entries.What.TheVariants as what
use Rattle.dc_base.specs.Changes.{core_becomes, block_becomes}
use Rattle.dc_base.specs.ControlBlocks.{ControlBlock}
use Rattle.dc_base.specs.Firing.{fire_all}
use Rattle.dc_base.specs.Outcomes.{by_core, share_blocks, if_on, has, with_clock}
use Rattle.dc_base.specs.Policies.{pick}
use Rattle.dc_base.specs.Serving.{Outside}
use Rattle.dc_base.specs.Slices.{Halfway, halfway, need_of, slice_end, without_ready}
use Rattle.dc_base.specs.Sound.{IsSound}
use Rattle.dc_base.specs.States.{State, Core, Block, with_control, Member, Whereabouts, rest, on, time_on}
use Rattle.dc_base.specs.SliceTurns.{core_after_slice, slice_entry, slice_outcome, finish_slice, slice_picked, slice_from, slice_turn}
use Rattle.dc_base.specs.NeededLooks.{look_outside, outside_change}
use Rattle.dc_base.specs.IdleTurns.{next_due, idle_outcome}
use Rattle.dc_base.specs.Steps.{step_on, step_turn, is_runnable}
use Rattle.dc_base.specs.Turns.{spent, Looked, Turn, ends, look_blocks, looked_at}
use Rattle.dc_sound.proofs.Advances.{half_ran, end_advance}
use Rattle.dc_sound.proofs.Budgets.{used-set}
use Rattle.dc_block_sound.proofs.Elements.{same_is, set_here}
use Rattle.dc_sound.proofs.EntryKinds.{HasTurn, IsSlice, is_idle, after_timers}
use Rattle.dc_block_sound.proofs.OutsideAt.{outside_at}
use Rattle.dc_sound.proofs.TimesKept.{clocked_kept}
use Rattle.dc_sound.proofs.SliceWalks.{slice_half}
use Rattle.dc_ranges.proofs.Bounds.{core_small, block_small, budget_most, clock_small}
use Rattle.dc_ranges.proofs.Shown.{IsShown, Comes, small, timed, core_shown, by_if, by_version}
use Rattle.dc_ranges.proofs.Slices.{fired_count, code_fired, half_facts, end_shown, end_ran}

-- the block that is found was looked at
pub record WasLooked (blocks : List Block) (share : List Member) (l : Looked) : Type 0 where
  pub here : has share l.number ≡ true
  pub block_at : slice_get blocks l.number ≡ l.found

found_by : (blocks : List Block) (p : Looked → Bool) (m : Member) (ms : List Member) (l : Looked) → (find p (map (looked_at blocks) (share_blocks ms)) ≡ Some l → WasLooked blocks ms l) →
    (t : Bool) → (if t then Some (looked_at blocks m.block) else find p (map (looked_at blocks) (share_blocks ms))) ≡ Some l → WasLooked blocks (m ∷ ms) l
found_by blocks p m ms l more true e =
    let one : looked_at blocks m.block ≡ l = cc in
    subst (WasLooked blocks (m ∷ ms)) one (record { here = ap (λ t. t || has ms m.block) (same_is m.block); block_at = refl })
found_by blocks p m ms l more false e = record { here = ap (λ t. (m.block == l.number) || t) (more e).here ∙ or-true (m.block == l.number); block_at = (more e).block_at }

found : (blocks : List Block) (p : Looked → Bool) (share : List Member) (l : Looked) → find p (map (looked_at blocks) (share_blocks share)) ≡ Some l → WasLooked blocks share l
found blocks p [] l e = absurd (cc e)
found blocks p (m ∷ ms) l e = found_by blocks p m ms l (λ h. found blocks p ms l h) (p (looked_at blocks m.block)) e

-- the object that a call needs is looked at
outside_comes : (s : State) (b : ℕ) (n : Need) (next : Outside → Turn) → Comes s (next (outside_at s b n)) → Comes s (look_outside b n next)
unfolding look_outside
outside_comes s b needs.Nothing next h = h
outside_comes s b needs.Console next h = h
outside_comes s b (needs.Channel x) next h = h
outside_comes s b (needs.Line l) next h = h

module _ (s : State) (p : IsSound s) (c : ℕ) (k : Core) (core_at : slice_get s.cores c ≡ Some k) where
  module _ (b : ℕ) (x : Block) (turn : HasTurn s c k b x) where
    fired_small : (time : ℕ) → (fire_all time x.control).count < 2 ^ 32
    fired_small time = let most = fired_count time x.control in let room = (p.timers b x turn.block_at).room in omega (arith, most, room)

    module _ (home : ℕ) (offset : ℤ) (v : Version) (w : x.whereabouts ≡ on home offset v) where
      abbrev time : ℕ
      time = time_on k.clock offset

      abbrev y : ControlBlock
      y = after_timers k.clock offset x.control

      sliced_shown : (d : ℕ) → pick v y.dues y.ready ≡ Some d → (h : Halfway) → halfway k.settings.quantum time (without_ready d y) d ≡ Some h →
          let sl = slice_end c b v d h (outside_at s b (need_here k.settings (need_of h))) in IsShown (slice_entry c b d (fire_all time x.control).count sl (k.clock + sl.advance))
      sliced_shown d picked h at =
          let out = outside_at s b (need_here k.settings (need_of h)) in
          let sl = slice_end c b v d h out in
          let entry = slice_entry c b d (fire_all time x.control).count sl (k.clock + sl.advance) in
          let chs = core_becomes c (core_after_slice k b (k.clock + sl.advance)) ∷ block_becomes b (with_control sl.control x) ∷ outside_change b sl.need sl.outside in
          let i : IsSlice s chs entry = record { c = c; k = k; b = b; x = x; turn = turn; home = home; offset = offset; v = v; whereabouts_at = w; d = d; h = h; halfway_at = at; picked = picked; outcome_is = refl } in
          let facts = half_facts k.settings.quantum time (without_ready d y) d h at in
          let ended = end_shown s (λ m. ⊤) x.control c b v d h out facts.ends (slice_half s chs entry i (λ m. ⊤)) in
          let quantum : k.settings.quantum ≤ 64 = subst (λ t. t.quantum ≤ 64) (sym (p.settled.same c k core_at)) p.settled.limits.quantum.1 in
          let ran = half_ran k.settings.quantum time (without_ready d y) d h at in
          let same = end_ran c b v d h out in
          let far = end_advance c b v d h out in
          let shape = p.shapes b x turn.block_at in
          let code : length y.parts.code ≡ length x.control.parts.code = ap (λ (cs : List (List ℕ)). length cs) (code_fired time x.control) in
          let place = facts.place in
          let lists = shape.code in
          let disps = shape.disps in
          core_shown c (what.Slice (record { 0 = b }) (record { 0 = d }) (fire_all time x.control).count sl.ran sl.end (k.clock + sl.advance)) (core_small s p c k core_at) ended.worded
          (and_from _ _
          (and_from _ _ (small (b ∷ d ∷ (fire_all time x.control).count ∷ sl.ran ∷ []) (block_small s p b x turn.block_at, (omega (arith, place, code, lists, disps), (fired_small time, (omega (arith, quantum, ran, same), tt))))) ended.low)
          (timed (k.clock + sl.advance) (clock_small s p c k sl.advance core_at (omega (arith, quantum, ran, far)))))

      finish_comes : (d : ℕ) → pick v y.dues y.ready ≡ Some d → (o : Option Halfway) → halfway k.settings.quantum time (without_ready d y) d ≡ o → Comes s (finish_slice c k b x v d (fire_all time x.control).count o)
      finish_comes d picked None at = tt
      finish_comes d picked (Some h) at = outside_comes s b (need_here k.settings (need_of h)) (λ out. ends (slice_outcome c k b x d (fire_all time x.control).count (slice_end c b v d h out))) (sliced_shown d picked h at)

      none_shown : IsShown (by_core c (what.SliceNone (record { 0 = b }) (fire_all time x.control).count (k.clock + 1)))
      none_shown =
          core_shown c (what.SliceNone (record { 0 = b }) (fire_all time x.control).count (k.clock + 1)) (core_small s p c k core_at) refl
          (and_from _ _ (small (b ∷ (fire_all time x.control).count ∷ []) (block_small s p b x turn.block_at, (fired_small time, tt))) (timed (k.clock + 1) (clock_small s p c k 1 core_at (omega arith))))

      picked_comes : (o : Option ℕ) → pick v y.dues y.ready ≡ o → Comes s (slice_picked c k b x time v (fire_all time x.control) o)
      picked_comes None at = none_shown
      picked_comes (Some d) at = finish_comes d at (halfway k.settings.quantum time (without_ready d y) d) refl

    from_comes : (w : Whereabouts) → x.whereabouts ≡ w → Comes s (slice_from c k b x w)
    from_comes (rest kept) at = tt
    from_comes (on home offset v) at = picked_comes home offset v at (pick v (after_timers k.clock offset x.control).dues (after_timers k.clock offset x.control).ready) refl

  module _ (unspent : (k.used == k.settings.slices) ≡ false) (is_on : is_some k.version ≡ true) where
    slice_comes : (b : ℕ) → has k.share b ≡ true → (o : Option Block) → slice_get s.blocks b ≡ o → Comes s (slice_turn c k b o)
    unfolding slice_turn
    slice_comes b here None at = tt
    slice_comes b here (Some x) at = from_comes b x (record { core_at = core_at; unspent = unspent; is_on = is_on; here = here; block_at = at }) x.whereabouts refl

    -- the clock of an idle core stays within the bound of clocks
    idle_comes : find (is_runnable k.clock) (map (looked_at s.blocks) (share_blocks k.share)) ≡ None → (o : Option ℕ) → next_due (map (looked_at s.blocks) (share_blocks k.share)) ≡ o → Comes s (ends (idle_outcome c k o))
    unfolding idle_outcome
    idle_comes none None due = tt
    idle_comes none (Some clock) due =
        let new = with_clock clock k in
        let chs = core_becomes c new ∷ [] in
        let e = by_core c (what.Idle clock) in
        let clocked = clocked_kept s chs e p.clocked p.deadlines p.placed p.posts p.settled
        (is_idle (record { c = c; k = k; core_at = core_at; unspent = unspent; is_on = is_on; clock = clock; none_runs = none; due = due; changes_are = refl })) in
        let low : clock < 2 ^ 62 + sum_by (λ (x : Core). x.used) (slice_set s.cores c new) * 2 ^ 32 = clocked.clocks c new (set_here s.cores c k new core_at) in
        let used = used-set s.cores c k new 1 core_at refl in
        let most = budget_most s p in
        core_shown c (what.Idle clock) (core_small s p c k core_at) refl (timed clock (omega (arith, low, used, most)))

    on_comes : (o : Option Looked) → find (is_runnable k.clock) (map (looked_at s.blocks) (share_blocks k.share)) ≡ o → Comes s (step_on c k (map (looked_at s.blocks) (share_blocks k.share)) o)
    on_comes None at = idle_comes at (next_due (map (looked_at s.blocks) (share_blocks k.share))) refl
    on_comes (Some l) at = let was = found s.blocks (is_runnable k.clock) k.share l at in slice_comes l.number was.here l.found was.block_at

  pub step_comes : Comes s (step_turn c k)
  step_comes =
      let looks = look_blocks (share_blocks k.share) (λ share. step_on c k share (find (is_runnable k.clock) share)) in
      by_if s (k.used == k.settings.slices) (ends spent) (if_on k.version looks) (λ spends. tt) (λ unspent.
      by_version s k.version looks (λ is_on. on_comes unspent is_on (find (is_runnable k.clock) (map (looked_at s.blocks) (share_blocks k.share))) refl))
