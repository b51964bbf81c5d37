-- What the control block of an agenda becomes where one dispatcher is written.
use Rattle.std.proofs.Common.{◌≡◌, ℕ, zero, suc, ◌+◌, ◌^◌, ◌<◌, List, [], ◌∷◌, ◌++◌, Option, Some, refl, sym, ap, ◌∙◌, length, map, take, arith}
use Rattle.std.specs.Prelude.{slice_get, slice_set, slice_index, slice_index_or}
use Rattle.std.specs.List.{refill}
use Rattle.std.proofs.lemmas.List.{map-set, length-set, length-map, append-nil, drop_all, take_all}
use Rattle.std.specs.Option.{option_map}
use Rattle.std.proofs.lemmas.Option.{slice_get-map, slice_get_within, slice_get-get_or}
use Rattle.dc_base.specs.declared.dispatchers.DispState.{DispState}
use Rattle.dc_base.specs.declared.dispatchers.DispState.TheVariants as disp
use Rattle.dc_base.specs.declared.interrupts.Latch.{Latch}
use Rattle.dc_base.specs.declared.kernels.Version.TheVariants.{Edf}
use Rattle.dc_base.specs.ControlBlocks.{ControlBlock}
use Rattle.dc_base.specs.Effects.{Context}
use Rattle.dc_base.specs.Ports.{signal_after, signals_after}
use Rattle.dc_base.specs.Slices.{with_state, due_after}
use Rattle.dc_base.specs.Words.{change, Each}
use Rattle.dc_isa.specs.declared.dispatchers.Dispatcher.{Dispatcher}
use Rattle.dc_exec.specs.Steps.{context_of}
use Rattle.dc_kcb.specs.Controls.{Store, Agenda, control_of, state_of, due_of, period_of}
use Rattle.dc_calls.specs.Contexts.{at_context}

-- a list of the same length takes the place of the whole
pub refilled : {X : Type 0} (xs ws : List X) → length ws ≡ length xs → refill (length xs) xs ws ≡ ws
refilled xs ws e = ap (λ l. take (length xs) (ws ++ l)) (drop_all (length ws) xs (omega (arith, e))) ∙ ap (take (length xs)) (append-nil ws) ∙ take_all (length xs) ws (omega (arith, e))

-- one element of it is written
pub put : {X : Type 0} (xs : List X) (i : ℕ) (x : X) → refill (length xs) xs (slice_set xs i x) ≡ slice_set xs i x
put xs i x = refilled xs (slice_set xs i x) (length-set xs i x)

-- so it stands where the list was lent
pub put-over : {X : Type 0} (xs zs : List X) → zs ≡ xs → (i : ℕ) (x : X) → refill (length xs) xs (slice_set zs i x) ≡ slice_set xs i x
put-over xs zs e i x = ap (λ l. refill (length xs) xs (slice_set l i x)) e ∙ put xs i x

-- what is the same for the new element stays
pub map-kept : {X Y : Type 0} (f : X → Y) (xs : List X) (i : ℕ) (x d : X) → f x ≡ f (slice_index_or xs i d) → map f (slice_set xs i x) ≡ map f xs
map-kept f [] i x d e = refl
map-kept f (y ∷ xs) zero x d e = ap (λ z. z ∷ map f xs) e
map-kept f (y ∷ xs) (suc i) x d e = ap (λ zs. f y ∷ zs) (map-kept f xs i x d e)

get-map : {X Y : Type 0} (f : X → Y) (xs : List X) (i : ℕ) (d : X) → f (slice_index_or xs i d) ≡ slice_index_or (map f xs) i (f d)
get-map f [] i d = refl
get-map f (x ∷ xs) zero d = refl
get-map f (x ∷ xs) (suc i) d = get-map f xs i d

change-set : {X : Type 0} (f : X → X) (i : ℕ) (xs : List X) (d : X) → slice_set xs i (f (slice_index_or xs i d)) ≡ change f i xs
change-set f i [] d = refl
change-set f zero (x ∷ xs) d = refl
change-set f (suc i) (x ∷ xs) d = ap (λ ys. x ∷ ys) (change-set f i xs d)

-- a signal is written that took a latch
pub signal-latched : (os zs : List (Option Latch)) → zs ≡ os → (s : ℕ) (l : Latch) (d x : Option Latch) → x ≡ signal_after l (slice_index_or zs s d) → refill (length os) os (slice_set zs s x) ≡ signals_after s l os
unfolding signals_after
signal-latched os zs e s l d x is =
    put-over os zs e s x
    ∙ ap (slice_set os s) (is ∙ ap (λ us. signal_after l (slice_index_or us s d)) e)
    ∙ change-set (signal_after l) s os d

-- no store and no dispatcher
abbrev pub no_store : Store
no_store = record { memory = []; code = []; caps = []; ports = [] }

abbrev pub blank : Dispatcher
blank = record { regs = []; place = 0; state = disp.Ready; due = 0; period = 0 }

abbrev pub with_disps : List Dispatcher → Agenda → Agenda
with_disps ds a = record a { disps = ds }

-- a dispatcher as it is written
abbrev pub in_state : DispState → Dispatcher → Dispatcher
in_state t x = record x { state = t }

abbrev pub in_context : Context → Dispatcher → Dispatcher
in_context c x = record x { regs = c.regs; place = c.place }

abbrev pub later_by : ℕ → Dispatcher → Dispatcher
later_by n x = record x { due = x.due + n }

-- the list with a dispatcher written over
abbrev pub written : (Dispatcher → Dispatcher) → ℕ → List Dispatcher → List Dispatcher
written f i ds = slice_set ds i (f (slice_index_or ds i blank))

-- a dispatcher is written so
pub put-written : (ds zs : List Dispatcher) → zs ≡ ds → (f : Dispatcher → Dispatcher) (i : ℕ) → refill (length ds) ds (written f i zs) ≡ written f i ds
put-written ds zs e f i = ap (λ l. refill (length ds) ds (written f i l)) e ∙ put ds i (f (slice_index_or ds i blank))

module _ (s : Store) (a : Agenda) (i : ℕ) where
  pub control-state : (t : DispState) → control_of s (with_disps (written (in_state t) i a.disps) a) ≡ with_state i t (control_of s a)
  control-state t =
      let x : Dispatcher = in_state t (slice_index_or a.disps i blank) in
      λ j. record (control_of s a) {
        parts = record (control_of s a).parts { contexts = map-kept context_of a.disps i x blank refl j };
        states = map-set state_of a.disps i x j;
        dues = map-kept due_of a.disps i x blank refl j;
        periods = map-kept period_of a.disps i x blank refl j;
      }

  pub control-context : (c : Context) → control_of s (with_disps (written (in_context c) i a.disps) a) ≡ at_context i c (control_of s a)
  control-context c =
      let x : Dispatcher = in_context c (slice_index_or a.disps i blank) in
      λ j. record (control_of s a) {
        parts = record (control_of s a).parts { contexts = map-set context_of a.disps i x j };
        states = map-kept state_of a.disps i x blank refl j;
        dues = map-kept due_of a.disps i x blank refl j;
        periods = map-kept period_of a.disps i x blank refl j;
      }

  dues_later : let x : Dispatcher = slice_index_or a.disps i blank in map due_of (slice_set a.disps i (later_by x.period x)) ≡ change (λ due. due + slice_index (map period_of a.disps) i) i (map due_of a.disps)
  dues_later =
      let x : Dispatcher = slice_index_or a.disps i blank in
      map-set due_of a.disps i (later_by x.period x)
      ∙ ap (λ n. slice_set (map due_of a.disps) i (n + x.period)) (get-map due_of a.disps i blank)
      ∙ ap (λ n. slice_set (map due_of a.disps) i (slice_index (map due_of a.disps) i + n)) (get-map period_of a.disps i blank)
      ∙ change-set (λ due. due + slice_index (map period_of a.disps) i) i (map due_of a.disps) 0

  pub control-due : control_of s (with_disps (written (later_by (slice_index_or a.disps i blank).period) i a.disps) a) ≡ due_after Edf i (control_of s a)
  control-due =
      let x : Dispatcher = later_by (slice_index_or a.disps i blank).period (slice_index_or a.disps i blank) in
      λ j. record (control_of s a) {
        parts = record (control_of s a).parts { contexts = map-kept context_of a.disps i x blank refl j };
        states = map-kept state_of a.disps i x blank refl j;
        dues = dues_later j;
        periods = map-kept period_of a.disps i x blank refl j;
      }

-- the same as a function's contract sees it: the fields before it, the agenda that they are, and the dispatchers as they were lent
module _ (inside now : Agenda) (same : inside ≡ now) (zs : List Dispatcher) (lent : zs ≡ inside.disps) (s : Store) (i : ℕ) where
  abbrev put_back : (Dispatcher → Dispatcher) → ControlBlock
  put_back f = control_of s (with_disps (refill (length inside.disps) inside.disps (written f i zs)) inside)

  back : (f : Dispatcher → Dispatcher) → put_back f ≡ control_of s (with_disps (written f i inside.disps) inside)
  back f = ap (λ ds. control_of s (with_disps ds inside)) (put-written inside.disps zs lent f i)

  pub state-put : (t : DispState) → put_back (in_state t) ≡ with_state i t (control_of s now)
  state-put t = back (in_state t) ∙ control-state s inside i t ∙ ap (λ a. with_state i t (control_of s a)) same

  pub context-put : (c : Context) → put_back (in_context c) ≡ at_context i c (control_of s now)
  context-put c = back (in_context c) ∙ control-context s inside i c ∙ ap (λ a. at_context i c (control_of s a)) same

  pub due-put : (ys : List Dispatcher) → ys ≡ inside.disps → put_back (later_by (slice_index_or ys i blank).period) ≡ due_after Edf i (control_of s now)
  due-put ys e =
      ap (λ (l : List Dispatcher). put_back (later_by (slice_index_or l i blank).period)) e
      ∙ back (later_by (slice_index_or inside.disps i blank).period)
      ∙ control-due s inside i
      ∙ ap (λ a. due_after Edf i (control_of s a)) same

-- what is known of a dispatcher that is there
module _ (ds : List Dispatcher) (d : ℕ) where
  pub there : (t : DispState) → slice_get (map state_of ds) d ≡ Some t → d < length ds
  there t e = let lt = slice_get_within (map state_of ds) d t e in omega (arith, lt, length-map ds state_of)

  pub due-there : (zs : List Dispatcher) → zs ≡ ds → d < length ds → slice_get (map due_of ds) d ≡ Some (slice_index_or zs d blank).due
  due-there zs e lt = slice_get-map due_of ds d ∙ ap (option_map due_of) (slice_get-get_or ds d blank lt) ∙ ap (λ l. Some (slice_index_or l d blank).due) (sym e)

  pub due-below : (zs : List Dispatcher) → zs ≡ ds → d < length ds → Each (map due_of ds) (λ i due. due < 2 ^ 63) → (slice_index_or zs d blank).due < 2 ^ 63
  due-below zs e lt below = below d _ (due-there zs e lt)

  pub state-there : (zs : List Dispatcher) → zs ≡ ds → d < length ds → slice_get (map state_of ds) d ≡ Some (slice_index_or zs d blank).state
  state-there zs e lt = slice_get-map state_of ds d ∙ ap (option_map state_of) (slice_get-get_or ds d blank lt) ∙ ap (λ l. Some (slice_index_or l d blank).state) (sym e)
