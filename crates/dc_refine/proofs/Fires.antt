-- The firings of a slice, in its block.
use Rattle.std.proofs.Common.{◌≡◌, ℕ, zero, suc, List, [], ◌∷◌, length, Bool, true, false, Option, Some, None, refl, sym, ap, ◌∙◌, add-one, map}
use Rattle.std.specs.Prelude.{replicate, if◌then◌else◌}
use Rattle.dc_base.specs.declared.dispatchers.DispState.{DispState}
use Rattle.dc_base.specs.declared.dispatchers.DispState.TheVariants as disp
use Rattle.dc_base.specs.declared.dispatchers.Wait.{Wait}
use Rattle.dc_base.specs.declared.dispatchers.Wait.TheVariants as wait
use Rattle.dc_base.specs.declared.interrupts.Latch.{Latch}
use Rattle.dc_base.specs.declared.interrupts.Source.TheVariants as source
use Rattle.dc_base.specs.declared.interrupts.Timer.{Timer}
use Rattle.dc_base.specs.Words.{bind}
use Rattle.dc_base.specs.Timers.{due_timer, without_timer}
use Rattle.dc_base.specs.Ports.{signals_after}
use Rattle.dc_base.specs.Blocks.{fire}
use Rattle.dc_base.specs.ControlBlocks.{ControlBlock}
use Rattle.dc_base.specs.Shown.{life_of}
use Rattle.dc_base.specs.BlockSteps.{fire_in, with_latch, after_fire}
use Rattle.dc_base.specs.Firing.{waits_so, state_after_wake, wake, latch_in, after_firing, Fired, fire_if, fire_from, fire_all}
use Rattle.dc_refine.proofs.Leads.{LeadsIn, leads_in_none, leads_in_both, leads_fire}
use Rattle.dc_refine.proofs.Stands.{plain}

-- to wake changes no life
life_by : (t : Bool) (w v : Wait) → waits_so w (disp.Waits v) ≡ t → life_of (if t then disp.Ready else disp.Waits v) ≡ life_of (disp.Waits v)
life_by true w v e = refl
life_by false w v e = refl

life_after_wake : (w : Wait) (s : DispState) → life_of (state_after_wake w s) ≡ life_of s
life_after_wake w disp.Ready = refl
life_after_wake w disp.Halted = refl
life_after_wake w (disp.Trapped x) = refl
life_after_wake w (disp.Waits v) = life_by (waits_so w (disp.Waits v)) w v refl

pub lives_after_wake : (w : Wait) (ss : List DispState) → map life_of (map (state_after_wake w) ss) ≡ map life_of ss
lives_after_wake w [] = refl
lives_after_wake w (s ∷ ss) = rw (life_after_wake w s, lives_after_wake w ss)

-- a latch comes to a signal: the same in both machines
pub plain-latch_in : (time : ℕ) (ws : List ℕ) (i : ℕ) (l : Latch) (x : ControlBlock) → plain time ws (latch_in i l x) ≡ with_latch i l (plain time ws x)
unfolding latch_in wake
plain-latch_in time ws i l x = ap (λ v. record { parts = record x.parts { signals = signals_after i l x.parts.signals }; lives = v; clock = time; output = ws }) (lives_after_wake (wait.Signal (record { 0 = i })) x.states)

pub plain-after_firing : (time : ℕ) (ws : List ℕ) (t : Timer) (x : ControlBlock) → plain time ws (after_firing t x) ≡ after_fire (plain time ws x) t
plain-after_firing time ws t x = plain-latch_in time ws t.signal.0 (record { source = source.Timer; value = t.value }) (record x { parts = record x.parts { timers = without_timer t x.parts.timers } })

fire_in-at : (time : ℕ) (ws : List ℕ) (x : ControlBlock) (t : Timer) → due_timer time x.parts.timers ≡ Some t → fire_in (plain time ws x) ≡ Some (plain time ws (after_firing t x))
unfolding fire_in
fire_in-at time ws x t h = ap (λ o. bind o (λ t. Some (after_fire (plain time ws x) t))) h ∙ ap Some (sym (plain-after_firing time ws t x))

module _ (time : ℕ) (ws : List ℕ) (b : ℕ) where
  fires_by : (x : ControlBlock) (further : ControlBlock → Fired) → ((y : ControlBlock) → LeadsIn b (plain time ws y) (replicate (further y).count (fire b)) (plain time ws (further y).control)) → (o : Option Timer) → due_timer time x.parts.timers ≡ o →
      LeadsIn b (plain time ws x) (replicate (fire_if further x o).count (fire b)) (plain time ws (fire_if further x o).control)
  fires_by x further more None e = leads_in_none b (plain time ws x)
  fires_by x further more (Some t) e =
      let f : Fired = further (after_firing t x) in
      let one = leads_fire b (plain time ws x) (plain time ws (after_firing t x)) (fire_in-at time ws x t e) in
      rw add-one (leads_in_both b (plain time ws x) (plain time ws (after_firing t x)) (plain time ws f.control) (fire b ∷ []) (replicate f.count (fire b)) one (more (after_firing t x)))

  fires_from : (n : ℕ) (x : ControlBlock) → LeadsIn b (plain time ws x) (replicate (fire_from time n x).count (fire b)) (plain time ws (fire_from time n x).control)
  fires_from zero x = leads_in_none b (plain time ws x)
  fires_from (suc n) x = fires_by x (fire_from time n) (λ y. fires_from n y) (due_timer time x.parts.timers) refl

  -- all firings lead on
  pub leads_fires : (x : ControlBlock) → LeadsIn b (plain time ws x) (replicate (fire_all time x).count (fire b)) (plain time ws (fire_all time x).control)
  unfolding fire_all
  leads_fires x = fires_from (length x.parts.timers) x
