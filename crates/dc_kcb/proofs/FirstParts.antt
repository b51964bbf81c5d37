-- The parts as the image gives them stand for the first control block, and are whole.
use Rattle.std.proofs.Common.{◌≡◌, ℕ, zero, suc, ◌+◌, ◌<◌, ◌≤◌, false, List, [], ◌∷◌, Some, length, map, replicate, refl, sym, ap, ◌∙◌, subst, arith}
use Rattle.std.specs.Prelude.{◌==◌, slice_get}
use Rattle.std.specs.List.{range_with_len}
use Rattle.std.proofs.lemmas.List.{length-map}
use Rattle.std.proofs.lemmas.Simd.{map-map}
use Rattle.std.proofs.lemmas.Bool.{ne_eqb, or_from}
use Rattle.dc_base.specs.declared.capabilities.CapKind.{CapKind}
use Rattle.dc_base.specs.declared.capabilities.CapKind.TheVariants as kind
use Rattle.dc_base.specs.declared.dispatchers.DispState.TheVariants as disp
use Rattle.dc_base.specs.declared.images.Image.{Image}
use Rattle.dc_base.specs.declared.images.BlockImage.{BlockImage}
use Rattle.dc_base.specs.declared.images.DispImage.{DispImage}
use Rattle.dc_base.specs.declared.interrupts.Timer.{Timer}
use Rattle.dc_base.specs.Words.{lists}
use Rattle.dc_base.specs.ControlBlocks.{ControlBlock, control_start}
use Rattle.dc_base.specs.Parts.{parts_of}
use Rattle.dc_base.specs.Timers.{in_order}
use Rattle.dc_base.specs.Valid.{NamesOf, IsValidDisp}
use Rattle.dc_caps.specs.Caps.{Caps, IsRange}
use Rattle.dc_exec.specs.Steps.{context_of}
use Rattle.dc_ready.specs.Entries.{dispatchers, entries_of, AreDues, AreOnceBelow, IsReadyList}
use Rattle.dc_block_sound.specs.SoundControls.{IsSoundControl}
use Rattle.dc_timers.specs.Numbers.{by_number, AreNumbered}
use Rattle.dc_kcb.specs.declared.parts.Parts.{Parts}
use Rattle.dc_kcb.specs.Controls.{control_of, state_of, due_of, period_of}
use Rattle.dc_kcb.specs.Starts.{disp_of, dues_from, AreSeatable, AreFirst}
use Rattle.dc_kcb.specs.Wholes.{store_in, agenda_in, resting_of, AreWhole}

-- capabilities of a valid dispatcher can be seated

range_of : (image : Image) (b : ℕ) (x : BlockImage) (k : CapKind) → NamesOf image b x k → IsRange k
range_of image b x (kind.Ram f l) h = h
range_of image b x (kind.Frame f l) h = h
range_of image b x (kind.Port p) h = tt
range_of image b x (kind.Signal s) h = tt
range_of image b x (kind.SendEnd y) h = tt
range_of image b x (kind.RecvEnd y) h = tt
range_of image b x (kind.Line l) h = tt

pub seatable : (image : Image) (b : ℕ) (x : BlockImage) (d : DispImage) → IsValidDisp image b x d → AreSeatable d.caps
seatable image b x d h = record {
  below = λ k c e. (h.caps k c e).slot;
  differ = h.slots;
  forms = λ k c e. record { rights = (h.caps k c e).rights; range = range_of image b x c.cap.kind (h.caps k c e).names };
}

-- the ready list

numbers_from : (n : ℕ) (is : List DispImage) → dispatchers (dues_from n is) ≡ range_with_len n (length is)
numbers_from n [] = refl
numbers_from n (i ∷ is) = ap (λ ns. n ∷ ns) (numbers_from (n + 1) is)

unlisted : (m n : ℕ) (is : List DispImage) → m < n → lists (dispatchers (dues_from n is)) m ≡ false
unlisted m n [] lt = refl
unlisted m n (i ∷ is) lt = or_from (n == m) (lists (dispatchers (dues_from (n + 1) is)) m) (ne_eqb n m (λ e. omega (arith, e))) (unlisted m (n + 1) is (omega arith))

once_from : (n : ℕ) (is : List DispImage) → n + length is ≤ 16 → AreOnceBelow 16 (dues_from n is)
once_from n [] le = tt
once_from n (i ∷ is) le = (omega arith, unlisted n (n + 1) is (omega arith), once_from (n + 1) is (omega arith))

due_at : (n : ℕ) (is : List DispImage) (i : ℕ) (e : ℕ × ℕ) → slice_get (dues_from n is) i ≡ Some e → (e.0 ≡ n + i) × (slice_get (map (λ (d : DispImage). d.due) is) i ≡ Some e.1)
due_at n [] i e h = absurd cc
due_at n (x ∷ xs) zero e h = let same : (n, x.due) ≡ e = cc in let z : n ≡ n + 0 = omega arith in (sym (ap (λ (e : ℕ × ℕ). e.0) same) ∙ z, ap (λ (e : ℕ × ℕ). Some e.1) same)
due_at n (x ∷ xs) (suc i) e h = let w = due_at (n + 1) xs i e h in let z : (n + 1) + i ≡ n + suc i = omega arith in (w.0 ∙ z, w.1)

dues_first : (is : List DispImage) → AreDues (map (λ (d : DispImage). d.due) is) (dues_from 0 is)
dues_first is i e h = let w = due_at 0 is i e h in let z : e.0 ≡ i = w.0 ∙ omega arith in ap (slice_get (map (λ (d : DispImage). d.due) is)) z ∙ w.1

module _ (x : BlockImage) (p : Parts) (f : AreFirst x p) where
  dues : map due_of p.disps.items ≡ map (λ (d : DispImage). d.due) x.disps
  dues = ap (map due_of) f.disps ∙ map-map due_of disp_of x.disps

  control_first : control_of (store_in p) (agenda_in p) ≡ control_start x
  unfolding control_start parts_of by_number
  control_first =
      let due = dues in
      let caps = ap (λ (t : Caps). t.set) f.table in
      let contexts : map context_of p.disps.items ≡ map (λ (d : DispImage). record { regs = replicate 8 0; place = 0 }) x.disps = ap (map context_of) f.disps ∙ map-map context_of disp_of x.disps in
      let states : map state_of p.disps.items ≡ map (λ (d : DispImage). disp.Ready) x.disps = ap (map state_of) f.disps ∙ map-map state_of disp_of x.disps in
      let periods : map period_of p.disps.items ≡ map (λ (d : DispImage). d.period) x.disps = ap (map period_of) f.disps ∙ map-map period_of disp_of x.disps in
      let ready : dispatchers (entries_of p.ready.items) ≡ range_with_len 0 (length x.disps) = ap dispatchers f.ready ∙ numbers_from 0 x.disps in
      let timers : by_number p.timers.items ≡ [] = ap by_number f.timers in
      cc

  pub resting_first : resting_of p ≡ record { control = control_start x; kept = 0 }
  resting_first = ap (λ (t : ℕ). record (resting_of p) { kept = t }) f.time ∙ ap (λ (c : ControlBlock). record { control = c; kept = 0 }) control_first

  numbered : AreNumbered p.next_timer p.timers.items
  numbered = subst (AreNumbered p.next_timer) (sym f.timers) tt

  ordered : p.timers.items ≡ in_order (by_number p.timers.items)
  unfolding in_order by_number
  ordered = subst (λ (ts : List Timer). ts ≡ in_order (by_number ts)) (sym f.timers) refl

  pub whole_first : length x.disps ≤ 16 → IsSoundControl (control_start x) → AreWhole p
  whole_first most sound = record {
    control = subst IsSoundControl (sym control_first) sound;
    slots = ap (λ (t : Caps). t.disps) f.table ∙ sym (ap length f.disps ∙ length-map x.disps disp_of);
    once = subst IsReadyList (sym f.ready) (once_from 0 x.disps (omega arith));
    dues = subst (λ (es : List (ℕ × ℕ)). AreDues (map due_of p.disps.items) es) (sym f.ready) (subst (λ (ds : List ℕ). AreDues ds (dues_from 0 x.disps)) (sym dues) (dues_first x.disps));
    numbered = numbered;
    order = ordered;
  }
