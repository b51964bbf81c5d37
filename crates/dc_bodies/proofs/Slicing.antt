-- A slice, with the object that its call needs lifted out, is the slice of the core's turn.
use Rattle.std.proofs.Common.{◌≡◌, ℕ, ◌+◌, List, [], ◌∷◌, Option, Some, None, refl, sym, ap, ◌∙◌, subst}
use Rattle.std.specs.Option.{option_map}
use Rattle.std.proofs.lemmas.Option.{none-some, same_Some}
use Rattle.dc_base.specs.declared.actions.Actor.TheVariants as actor
use Rattle.dc_base.specs.declared.calls.Need.{Need}
use Rattle.dc_base.specs.declared.calls.Need.TheVariants as needs
use Rattle.dc_base.specs.declared.entries.Entry.{Entry}
use Rattle.dc_base.specs.declared.entries.What.{What}
use Rattle.dc_base.specs.declared.kernels.Version.{Version}
use Rattle.dc_base.specs.declared.numbers.BlockNo.{BlockNo}
use Rattle.dc_base.specs.declared.numbers.CoreNo.{CoreNo}
use Rattle.dc_base.specs.declared.numbers.DispNo.{DispNo}
use Rattle.dc_base.specs.Changes.{Change, core_becomes, block_becomes}
use Rattle.dc_base.specs.ControlBlocks.{ControlBlock}
use Rattle.dc_base.specs.Placed.{IsOn}
use Rattle.dc_base.specs.Serving.{Outside, nothing_outside}
use Rattle.dc_base.specs.Slices.{Halfway, halfway, need_of, slice_of, slice_end, without_ready}
use Rattle.dc_base.specs.States.{State, Core, Block, Whereabouts, rest, on, with_control}
use Rattle.dc_base.specs.NeededLooks.{outside_change}
use Rattle.dc_base.specs.SliceTurns.{core_after_slice, slice_turn}
use Rattle.dc_base.specs.Turns.{did, outcome}
use Rattle.dc_base.specs.Words.{bind}
use Rattle.dc_calls.specs.declared.sliced.Sliced.{Sliced}
use Rattle.dc_kernel.specs.Done.{Done, done, done_by, done_picked, done_empty, told}
use Rattle.dc_kernel.specs.Begins.{fired, picked, halfway_in, need_in, number_of}
use Rattle.dc_kernel.specs.Running.{Running, on_core, time_in}
use Rattle.dc_kernel.specs.Turned.{look_here, outcome_by, done_outcome}
use Rattle.dc_kernel.proofs.SliceTurns.{slice_done}
use Rattle.dc_objects.specs.Blocks.{running_of}
use Rattle.dc_bodies.specs.Sliced.{IsSlice}
use Rattle.dc_bodies.specs.OutsideKinds.{SameKind}
use Rattle.dc_bodies.specs.Nexts.{slice_what, what_by}
use Rattle.dc_bodies.proofs.OutsideKinds.{end_kind}

-- a block on a core, as its kernel has it

on_by : (c : ℕ) (x : Block) (w : Whereabouts) → IsOn c w → record x { whereabouts = w } ≡ on_core c (running_of (record x { whereabouts = w }))
on_by c x (rest kept) h = absurd h
on_by c x (on d offset v) h = ap (λ n. record x { whereabouts = on n offset v }) h

pub on_core_is : (c : ℕ) (x : Block) → IsOn c x.whereabouts → x ≡ on_core c (running_of x)
on_core_is c x h = on_by c x x.whereabouts h

-- what is looked at, but for the object that is needed, is no matter
module _ (look look' : Need → Outside) (q c n now : ℕ) (r : Running) where
  ended_same : (v : Version) (d : ℕ) (o : Option Halfway) → look (need_in o) ≡ look' (need_in o) → option_map (λ h. slice_end c n v d h (look (need_of h))) o ≡ option_map (λ h. slice_end c n v d h (look' (need_of h))) o
  ended_same v d None e = refl
  ended_same v d (Some h) e = ap (λ out. Some (slice_end c n v d h out)) e

  picked_same : (o : Option ℕ) → look (need_in (bind o (λ d. halfway q (time_in now r) (without_ready d (fired now r).control) d))) ≡ look' (need_in (bind o (λ d. halfway q (time_in now r) (without_ready d (fired now r).control) d))) →
      done_picked look q c n now r (fired now r) o ≡ done_picked look' q c n now r (fired now r) o
  unfolding slice_of
  picked_same None e = refl
  picked_same (Some d) e = ap (option_map (done_by d (fired now r).count)) (ended_same r.version d (halfway q (time_in now r) (without_ready d (fired now r).control) d) e)

  pub done_same : look (need_in (halfway_in q now r)) ≡ look' (need_in (halfway_in q now r)) → done look q c n now r ≡ done look' q c n now r
  unfolding done
  done_same e = picked_same (picked now r) e

-- what a slice leaves outside
module _ (look : Need → Outside) (none : look needs.Nothing ≡ nothing_outside) (q c n now : ℕ) (r : Running) where
  abbrev half : Option ℕ → Option Halfway
  half o = bind o (λ d. halfway q (time_in now r) (without_ready d (fired now r).control) d)

  ended_kind : (v : Version) (d count : ℕ) (o : Option Halfway) (t : Done) → Some t ≡ option_map (done_by d count) (option_map (λ h. slice_end c n v d h (look (need_of h))) o) → SameKind (look (need_in o)) t.outside × (t.disp ≡ Some d)
  ended_kind v d count None t e = absurd (none-some t (sym e))
  ended_kind v d count (Some h) t e =
      let same = same_Some t (done_by d count (slice_end c n v d h (look (need_of h)))) e in
      (subst (λ (t : Done). SameKind (look (need_of h)) t.outside) (sym same) (end_kind c n v d h (look (need_of h)) (λ f. ap look f ∙ none)), ap (λ (t : Done). t.disp) same)

  kind_picked : (o : Option ℕ) (t : Done) → Some t ≡ done_picked look q c n now r (fired now r) o → SameKind (look (need_in (half o))) t.outside
  unfolding slice_of
  kind_picked None t e =
      let same = same_Some t (done_empty (fired now r)) e in
      subst (λ (t : Done). SameKind (look needs.Nothing) t.outside) (sym same) (subst (λ (o : Outside). SameKind o nothing_outside) (sym none) tt)
  kind_picked (Some d) t e = (ended_kind r.version d (fired now r).count (half (Some d)) t e).0

  pub done_kind : (t : Done) → Some t ≡ done look q c n now r → SameKind (look (need_in (halfway_in q now r))) t.outside
  unfolding done
  done_kind t e = kind_picked (picked now r) t e

  free_picked : (o : Option ℕ) (t : Done) → Some t ≡ done_picked look q c n now r (fired now r) o → t.disp ≡ None → need_in (half o) ≡ needs.Nothing
  unfolding slice_of
  free_picked None t e h = refl
  free_picked (Some d) t e h = absurd (none-some d (sym h ∙ (ended_kind r.version d (fired now r).count (half (Some d)) t e).1))

  -- where no dispatcher ran, nothing was needed
  pub done_free : (t : Done) → Some t ≡ done look q c n now r → t.disp ≡ None → need_in (halfway_in q now r) ≡ needs.Nothing
  unfolding done
  done_free t e h = free_picked (picked now r) t e h

-- nothing changes where nothing is needed
no_change : (b : ℕ) (n : Need) (out : Outside) → n ≡ needs.Nothing → outside_change b n out ≡ []
unfolding outside_change
no_change b n out e = subst (λ (m : Need). outside_change b m out ≡ []) (sym e) refl

-- what a slice comes to, as a change of its objects

module _ (s : State) (c : CoreNo) (k : Core) (b : BlockNo) (x : Block) (n : Need) (control : ControlBlock) (sl : Sliced) (out : Outside) where
  abbrev changes : List Change
  changes = core_becomes c.0 (core_after_slice k b.0 (k.clock + sl.advance)) ∷ block_becomes b.0 (with_control control x) ∷ outside_change b.0 n out

  did_by : (o : Option DispNo) → (o ≡ None → n ≡ needs.Nothing) → outcome_by c.0 k b.0 x n (told control sl out) (number_of o) ≡ did changes (record { actor = actor.Core c; what = what_by b sl (k.clock + sl.advance) o })
  did_by None free = ap (λ more. did (core_becomes c.0 (core_after_slice k b.0 (k.clock + sl.advance)) ∷ block_becomes b.0 (with_control control x) ∷ more) (record { actor = actor.Core c; what = what_by b sl (k.clock + sl.advance) None })) (sym (no_change b.0 n out (free refl)))
  did_by (Some d) free = refl

  pub slice_did : IsOn c.0 x.whereabouts → n ≡ need_in (halfway_in k.settings.quantum k.clock (running_of x)) → Some (told control sl out) ≡ done (look_here k.settings s b.0) k.settings.quantum c.0 b.0 k.clock (running_of x) →
      outcome s (slice_turn c.0 k b.0 (Some x)) ≡ did changes (record { actor = actor.Core c; what = slice_what b sl (k.clock + sl.advance) })
  slice_did here need t =
      let r : Running = running_of x in
      let is : x ≡ on_core c.0 r = on_core_is c.0 x here in
      let free : sl.disp ≡ None → n ≡ needs.Nothing = λ h. need ∙ done_free (look_here k.settings s b.0) refl k.settings.quantum c.0 b.0 k.clock r (told control sl out) t (ap number_of h) in
      ap (λ (y : Block). outcome s (slice_turn c.0 k b.0 (Some y))) is ∙ (slice_done s c.0 k b.0 r ∙ (ap (λ o. done_outcome c.0 k b.0 (on_core c.0 r) (need_in (halfway_in k.settings.quantum k.clock r)) o) (sym t)
      ∙ (ap (λ (m : Need). outcome_by c.0 k b.0 (on_core c.0 r) m (told control sl out) (number_of sl.disp)) (sym need) ∙ ap (λ (y : Block). outcome_by c.0 k b.0 y n (told control sl out) (number_of sl.disp)) (sym is))))
      ∙ did_by sl.disp free

-- what a slice did with the object that was lifted out, it does with the one that is looked at
module _ (s : State) (c : ℕ) (k : Core) (b : ℕ) (n : Need) (o : Outside) (r : Running) (t : Done) (need : n ≡ need_in (halfway_in k.settings.quantum k.clock r)) (looked : o ≡ look_here k.settings s b n) (did : Some t ≡ done (λ (m : Need). o) k.settings.quantum c b k.clock r) where
  pub looked_done : Some t ≡ done (look_here k.settings s b) k.settings.quantum c b k.clock r
  looked_done = did ∙ done_same (λ (m : Need). o) (look_here k.settings s b) k.settings.quantum c b k.clock r (looked ∙ ap (look_here k.settings s b) need)

  pub kind_kept : SameKind (look_here k.settings s b n) t.outside
  kind_kept = subst (λ (m : Need). SameKind (look_here k.settings s b m) t.outside) (sym need) (done_kind (look_here k.settings s b) refl k.settings.quantum c b k.clock r t looked_done)

-- the same at a clock that is equal
pub did_at : (c : ℕ) (k : Core) (b : ℕ) (o : Outside) (x : Block) (clock : ℕ) (t : Done) → clock ≡ k.clock → Some t ≡ done (λ (m : Need). o) k.settings.quantum c b clock (running_of x) → Some t ≡ done (λ (m : Need). o) k.settings.quantum c b k.clock (running_of x)
did_at c k b o x clock t e d = subst (λ m. Some t ≡ done (λ (m : Need). o) k.settings.quantum c b m (running_of x)) e d

abbrev by_core_at : CoreNo → What → Entry
by_core_at c w = record { actor = actor.Core c; what = w }

pub entry_at : (c : CoreNo) (b : BlockNo) (sl : Sliced) (w : What) (after clock : ℕ) → w ≡ slice_what b sl after → after ≡ clock → by_core_at c w ≡ by_core_at c (slice_what b sl clock)
entry_at c b sl w after clock e f = ap (by_core_at c) (e ∙ ap (slice_what b sl) f)

-- a slice of objects in hand
pub held_slice : (c : CoreNo) (k k' : Core) (b : BlockNo) (x x' : Block) (n : Need) (o : Outside) (sl : Sliced) (out : Outside) (e : Entry) → IsOn c.0 x.whereabouts → n ≡ need_in (halfway_in k.settings.quantum k.clock (running_of x)) →
    Some (told x'.control sl out) ≡ done (λ (m : Need). o) k.settings.quantum c.0 b.0 k.clock (running_of x) → k' ≡ core_after_slice k b.0 (k.clock + sl.advance) → x' ≡ with_control x'.control x →
    e ≡ record { actor = actor.Core c; what = slice_what b sl (k.clock + sl.advance) } → IsSlice c.0 b.0 k k' x x' n o out e
held_slice c k k' b x x' n o sl out e here need t core block entry = record {
  turn = λ s looked.
      slice_did s c k b x n x'.control sl out here need (looked_done s c.0 k b.0 n o (running_of x) (told x'.control sl out) need looked t)
      ∙ ap (λ (m : Core). did (core_becomes c.0 m ∷ block_becomes b.0 (with_control x'.control x) ∷ outside_change b.0 n out) (record { actor = actor.Core c; what = slice_what b sl (k.clock + sl.advance) })) (sym core)
      ∙ ap (λ (y : Block). did (core_becomes c.0 k' ∷ block_becomes b.0 y ∷ outside_change b.0 n out) (record { actor = actor.Core c; what = slice_what b sl (k.clock + sl.advance) })) (sym block)
      ∙ ap (λ (w : Entry). did (core_becomes c.0 k' ∷ block_becomes b.0 x' ∷ outside_change b.0 n out) w) (sym entry);
  kind = λ s looked. kind_kept s c.0 k b.0 n o (running_of x) (told x'.control sl out) need looked t;
}
