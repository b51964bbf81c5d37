-- Waiting dispatchers that wake one after another.
use Rattle.std.proofs.Common.{◌≡◌, ℕ, zero, suc, ◌+◌, ◌<◌, ◌≤◌, List, [], ◌∷◌, ◌++◌, Bool, true, false, cond, Option, Some, refl, sym, ap, ◌∙◌, length, map, take, drop, get_or, arith}
use Rattle.std.specs.Prelude.{slice_get, slice_set, slice_index_or}
use Rattle.std.specs.List.{refill}
use Rattle.std.specs.Option.{option_map_or}
use Rattle.std.proofs.lemmas.List.{length-map, append_assoc, append-nil, drop_more, take_more, take_more_set, drop-set-lt, drop_all, take_all}
use Rattle.std.proofs.lemmas.Option.{slice_get_within, get_or_from_slice_get, slice_get-get_or}
use Rattle.dc_base.specs.declared.dispatchers.DispState.{DispState}
use Rattle.dc_base.specs.declared.dispatchers.DispState.TheVariants as disp
use Rattle.dc_base.specs.declared.dispatchers.Wait.{Wait}
use Rattle.dc_base.specs.declared.dispatchers.Wait.TheVariants as wait
use Rattle.dc_base.specs.declared.interrupts.Latch.{Latch}
use Rattle.dc_base.specs.Ports.{signal_after, signals_after}
use Rattle.dc_base.specs.Words.{change}
use Rattle.dc_base.specs.ControlBlocks.{ControlBlock}
use Rattle.dc_base.specs.Firing.{waits_so, waiters_from, state_after_wake, wake, latch_in}
use Rattle.dc_base.specs.Wakes.{ready_again}
use Rattle.dc_kcb.specs.Controls.{Store, Agenda, control_of, state_of}
use Rattle.dc_calls.proofs.AgendaWrites.{no_store, signal-latched}

-- whether dispatcher d waits so
abbrev pub waits_at : Wait → List DispState → ℕ → Bool
waits_at w ss d = option_map_or (waits_so w) (slice_get ss d) false

-- it does, in a state that is there
pub record Waiting (w : Wait) (ss : List DispState) (d : ℕ) (b : Bool) : Type 0 where
  pub state : DispState
  pub here : slice_get ss d ≡ Some state
  pub waits : waits_so w state ≡ b

pub waiting : (w : Wait) (ss : List DispState) (d : ℕ) (b : Bool) → d < length ss → waits_at w ss d ≡ b → Waiting w ss d b
waiting w ss d b lt e =
    let here : slice_get ss d ≡ Some (get_or ss d disp.Ready) = slice_get-get_or ss d disp.Ready lt in
    record { state = get_or ss d disp.Ready; here = here; waits = ap (λ o. option_map_or (waits_so w) o false) (sym here) ∙ e }

-- the dispatchers from i on wake
abbrev pub rest_woken : ℕ → Wait → ControlBlock → ControlBlock
rest_woken i w b = record b { states = take i b.states ++ map (state_after_wake w) (drop i b.states); ready = b.ready ++ waiters_from i w (drop i b.states) }

pub woken-none : (w : Wait) (b : ControlBlock) → rest_woken 0 w b ≡ wake w b
unfolding wake
woken-none w b = refl

pub woken-all : (i : ℕ) (w : Wait) (b : ControlBlock) → length b.states ≤ i → rest_woken i w b ≡ b
woken-all i w b le =
    let gone : drop i b.states ≡ [] = drop_all i b.states le in
    let states : take i b.states ++ map (state_after_wake w) (drop i b.states) ≡ b.states = ap (λ l. take i b.states ++ map (state_after_wake w) l) gone ∙ append-nil (take i b.states) ∙ take_all i b.states le in
    let ready : b.ready ++ waiters_from i w (drop i b.states) ≡ b.ready = ap (λ l. b.ready ++ waiters_from i w l) gone ∙ append-nil b.ready in
    λ j. record b { states = states j; ready = ready j }

module _ (i : ℕ) (w : Wait) (b : ControlBlock) (s : DispState) (here : slice_get b.states i ≡ Some s) where
  lt : i < length b.states
  lt = slice_get_within b.states i s here

  begins : drop i b.states ≡ s ∷ drop (i + 1) b.states
  begins = drop_more b.states i s lt ∙ ap (λ t. t ∷ drop (i + 1) b.states) (get_or_from_slice_get b.states i s s here)

  ends : take (i + 1) b.states ≡ take i b.states ++ s ∷ []
  ends = take_more b.states i s lt ∙ ap (λ t. take i b.states ++ t ∷ []) (get_or_from_slice_get b.states i s s here)

  -- one that does not wait so
  pub woken-skip : waits_so w s ≡ false → rest_woken (i + 1) w b ≡ rest_woken i w b
  woken-skip none_so =
      let rest = drop (i + 1) b.states in
      let same : s ≡ state_after_wake w s = ap (λ t. cond t disp.Ready s) (sym none_so) in
      let none : waiters_from (i + 1) w rest ≡ waiters_from i w (s ∷ rest) = ap (λ t. cond t (i ∷ waiters_from (i + 1) w rest) (waiters_from (i + 1) w rest)) (sym none_so) in
      let states : take (i + 1) b.states ++ map (state_after_wake w) rest ≡ take i b.states ++ map (state_after_wake w) (drop i b.states) =
      ap (λ l. l ++ map (state_after_wake w) rest) ends
      ∙ append_assoc (take i b.states) (s ∷ []) (map (state_after_wake w) rest)
      ∙ ap (λ t. take i b.states ++ t ∷ map (state_after_wake w) rest) same
      ∙ ap (λ l. take i b.states ++ map (state_after_wake w) l) (sym begins) in
      let ready : b.ready ++ waiters_from (i + 1) w rest ≡ b.ready ++ waiters_from i w (drop i b.states) =
      ap (λ l. b.ready ++ l) (none ∙ ap (waiters_from i w) (sym begins)) in
      λ j. record b { states = states j; ready = ready j }

  -- one that does
  pub woken-more : waits_so w s ≡ true → rest_woken (i + 1) w (ready_again i b) ≡ rest_woken i w b
  woken-more so =
      let rest = drop (i + 1) b.states in
      let now = slice_set b.states i disp.Ready in
      let same : disp.Ready ≡ state_after_wake w s = ap (λ t. cond t disp.Ready s) (sym so) in
      let one : i ∷ waiters_from (i + 1) w rest ≡ waiters_from i w (s ∷ rest) = ap (λ t. cond t (i ∷ waiters_from (i + 1) w rest) (waiters_from (i + 1) w rest)) (sym so) in
      let after : drop (i + 1) now ≡ rest = drop-set-lt (i + 1) b.states i disp.Ready (omega arith) in
      let states : take (i + 1) now ++ map (state_after_wake w) (drop (i + 1) now) ≡ take i b.states ++ map (state_after_wake w) (drop i b.states) =
      ap (λ l. l ++ map (state_after_wake w) (drop (i + 1) now)) (take_more_set b.states i disp.Ready lt)
      ∙ ap (λ l. (take i b.states ++ disp.Ready ∷ []) ++ map (state_after_wake w) l) after
      ∙ append_assoc (take i b.states) (disp.Ready ∷ []) (map (state_after_wake w) rest)
      ∙ ap (λ t. take i b.states ++ t ∷ map (state_after_wake w) rest) same
      ∙ ap (λ l. take i b.states ++ map (state_after_wake w) l) (sym begins) in
      let ready : (b.ready ++ i ∷ []) ++ waiters_from (i + 1) w (drop (i + 1) now) ≡ b.ready ++ waiters_from i w (drop i b.states) =
      ap (λ l. (b.ready ++ i ∷ []) ++ waiters_from (i + 1) w l) after
      ∙ append_assoc b.ready (i ∷ []) (waiters_from (i + 1) w rest)
      ∙ ap (λ l. b.ready ++ l) (one ∙ ap (waiters_from i w) (sym begins)) in
      λ j. record b { states = states j; ready = ready j }

length-change : {X : Type 0} (f : X → X) (i : ℕ) (xs : List X) → length (change f i xs) ≡ length xs
length-change f i [] = refl
length-change f zero (x ∷ xs) = refl
length-change f (suc i) (x ∷ xs) = ap suc (length-change f i xs)

signals-latched : (s : ℕ) (l : Latch) (b : ControlBlock) → length (latch_in s l b).parts.signals ≡ length b.parts.signals
unfolding latch_in wake signals_after
signals-latched s l b = length-change (signal_after l) s b.parts.signals

-- a latch comes to a signal as a function's contract sees it: the fields before it, the agenda that they are, and the signals as they were lent
module _ (inside now : Agenda) (same : inside ≡ now) (zs : List (Option Latch)) (lent : zs ≡ inside.signals) (s : ℕ) (l : Latch) (d x : Option Latch) (after : x ≡ signal_after l (slice_index_or zs s d)) (new : Agenda) where
  abbrev put_back : Store → ControlBlock
  put_back st = control_of st (record inside { signals = refill (length inside.signals) inside.signals (slice_set zs s x) })

  pub latch-put : (st : Store) → control_of st new ≡ wake (wait.Signal (record { 0 = s })) (put_back st) → control_of st new ≡ latch_in s l (control_of st now)
  unfolding latch_in
  latch-put st woken =
      woken
      ∙ ap (λ os. wake (wait.Signal (record { 0 = s })) (control_of st (record inside { signals = os }))) (signal-latched inside.signals zs lent s l d x after)
      ∙ ap (λ (a : Agenda). latch_in s l (control_of st a)) same

  pub latch-length : control_of no_store new ≡ wake (wait.Signal (record { 0 = s })) (put_back no_store) → length new.signals ≡ length now.signals
  latch-length woken = ap (λ (b : ControlBlock). length b.parts.signals) (latch-put no_store woken) ∙ signals-latched s l (control_of no_store now)

-- one step of the wakes, where x is what all of them come to
module _ (s : Store) (i : ℕ) (w : Wait) (old : Agenda) (x : ControlBlock) (so_far : rest_woken i w (control_of s old) ≡ x) (here : i < length old.disps) (b : Bool) (test : b ≡ waits_at w (map state_of old.disps) i) where
  found : Waiting w (map state_of old.disps) i b
  found = let many = length-map old.disps state_of in waiting w (map state_of old.disps) i b (omega arith) (sym test)

  pub woken-then : b ≡ true → (mid new : Agenda) → new ≡ mid → control_of s mid ≡ ready_again i (control_of s old) → rest_woken (i + 1) w (control_of s new) ≡ x
  woken-then so mid new is woken =
      ap (λ (a : Agenda). rest_woken (i + 1) w (control_of s a)) is
      ∙ ap (rest_woken (i + 1) w) woken
      ∙ woken-more i w (control_of s old) found.state found.here (found.waits ∙ so)
      ∙ so_far

  pub woken-else : b ≡ false → (new : Agenda) → new ≡ old → rest_woken (i + 1) w (control_of s new) ≡ x
  woken-else so new is =
      ap (λ (a : Agenda). rest_woken (i + 1) w (control_of s a)) is
      ∙ woken-skip i w (control_of s old) found.state found.here (found.waits ∙ so)
      ∙ so_far

pub woken-end : (s : Store) (i : ℕ) (w : Wait) (a : Agenda) (x : ControlBlock) → rest_woken i w (control_of s a) ≡ x → length a.disps ≤ i → control_of s a ≡ x
woken-end s i w a x all long = let many = length-map a.disps state_of in sym (woken-all i w (control_of s a) (omega arith)) ∙ all
