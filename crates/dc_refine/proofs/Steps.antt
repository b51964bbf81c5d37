-- Every slice of a sound state follows.
use Rattle.std.proofs.Common.{◌≡◌, ℕ, ◌+◌, ◌<◌, List, length, drop, true, Option, Some, None, refl, sym, ap, ◌∙◌, subst, arith}
use Rattle.std.specs.Prelude.{slice_get}
use Rattle.std.specs.Option.{option_map, option_map_or}
use Rattle.std.proofs.lemmas.Option.{slice_get-map, slice_get_within}
use Rattle.dc_base.specs.declared.commands.ScriptLine.{ScriptLine}
use Rattle.dc_base.specs.declared.kernels.Version.{Version}
use Rattle.dc_base.specs.declared.dispatchers.DispState.TheVariants as disp
use Rattle.dc_base.specs.Words.{bind}
use Rattle.dc_base.specs.Policies.{pick}
use Rattle.dc_base.specs.Blocks.{Blocks}
use Rattle.dc_base.specs.ControlBlocks.{ControlBlock}
use Rattle.dc_base.specs.States.{State, Core, Block, Settings, Whereabouts, rest, on, time_of, time_at}
use Rattle.dc_base.specs.NeedsHere.{need_here}
use Rattle.dc_base.specs.Slices.{Halfway, need_of, slice_end, halfway, without_ready, after_ahead}
use Rattle.dc_base.specs.StandsFor.{StandsFor, ring_of}
use Rattle.dc_base.specs.Sound.{IsSound}
use Rattle.dc_base.specs.Telling.{IsOf}
use Rattle.dc_base.specs.Runs.{Terms}
use Rattle.dc_base.specs.Effects.{Context}
use Rattle.dc_base.specs.Firing.{Fired, fire_all}
use Rattle.dc_base.specs.Ahead.{ahead}
use Rattle.dc_base.specs.Turns.{outcome}
use Rattle.dc_base.specs.SliceTurns.{slice_turn, slice_from, slice_picked, finish_slice, slice_outcome}
use Rattle.dc_base.specs.Outcomes.{has}
use Rattle.dc_base.specs.Bounded.{IsFromZero}
use Rattle.dc_base.specs.Placed.{IsOn}
use Rattle.dc_refine.proofs.Elements.{there_below}
use Rattle.dc_refine.proofs.Clocks.{InTime}
use Rattle.dc_refine.proofs.FireFacts.{fired_well, ready_from, pick_listed}
use Rattle.dc_refine.proofs.Good.{Good}
use Rattle.dc_refine.proofs.Outside.{outside_at, outside_here, outcome-look}
use Rattle.dc_refine.proofs.Slice.{SliceAt, slice_follows}
use Rattle.dc_refine.proofs.SliceNone.{slice_none_follows}

pub in_time_at : (s : State) (w : Whereabouts) → IsFromZero s.cores w → InTime s.cores w
in_time_at s (rest kept) h = tt
in_time_at s (on c z v) h = h

-- the time of a block by its core's clock
time_here : (s : State) (c : ℕ) (k : Core) (w : Whereabouts) → slice_get s.cores c ≡ Some k → IsOn c w → time_of s.cores w ≡ time_at k.clock w
time_here s c k (rest kept) h e = refl
time_here s c k (on d z v) h e = ap (λ o. time_at (option_map_or (λ (k : Core). k.clock) o 0) (on d z v)) (ap (slice_get s.cores) e ∙ h)

-- the parts of soundness that a slice needs
pub slice_at-sound : (s : State) (t : Blocks) (sound : IsSound s) (stands : StandsFor s t) (c b : ℕ) (k : Core) (x : Block) (v : Version) → slice_get s.cores c ≡ Some k → slice_get s.blocks b ≡ Some x → has k.share b ≡ true → k.version ≡ Some v →
    (ws : List ℕ) × SliceAt s t c b k x ws v
slice_at-sound s t sound stands c b k x v core_at block_at listed is_on =
    let within : b < length s.consoles = subst (λ n. b < n) (sound.settled.blocks ∙ sym sound.settled.consoles) (slice_get_within s.blocks b x block_at) in
    let console = there_below s.consoles b within in
    let found = sound.placed.only c k core_at b listed in
    let same : found.0 ≡ x = let e = found.1 in cc in (
      console.0,
      record {
        stands = stands;
        core_at = core_at;
        block_at = block_at;
        console_at = console.1;
        on_core = subst (λ (y : Block). IsOn c y.whereabouts) same found.2;
        is_on = is_on;
        one_home = (sound.shares c k core_at).home;
        ready = sound.ready b x block_at;
        in_time = λ i y at. in_time_at s y.whereabouts (sound.clocked.from_zero i y at);
        rings = λ z ch at.
            let ring_at : slice_get s.channels z ≡ Some (ring_of ch) = ap (λ l. slice_get l z) stands.channels ∙ slice_get-map ring_of t.channels z ∙ ap (option_map ring_of) at in
            let sent : length ch.messages ≡ ch.taken + length (drop ch.taken ch.messages) = (sound.rings z (ring_of ch) ring_at).sent in
            omega (arith, sent);
      },
    )

module _ (terms : Terms) (lines : List ScriptLine) (s : State) (t : Blocks) (of : IsOf terms lines s) (sound : IsSound s) (stands : StandsFor s t) (c : ℕ) (k : Core) (core_at : slice_get s.cores c ≡ Some k) (v1 : Version) (is_on : k.version ≡ Some v1) where
  quantum_is : terms.quantum ≡ k.settings.quantum
  quantum_is = ap (λ (m : Terms). m.quantum) of.same_terms ∙ ap (λ (t : Settings). t.quantum) (sym (sound.settled.same c k core_at))

  lines_are : length s.lines ≡ k.settings.lines
  lines_are = sound.settled.lines ∙ ap (λ (t : Settings). t.lines) (sym (sound.settled.same c k core_at))

  module _ (b : ℕ) (x : Block) (block_at : slice_get s.blocks b ≡ Some x) (listed : has k.share b ≡ true) where
    here : (ws : List ℕ) × SliceAt s t c b k x ws v1
    here = slice_at-sound s t sound stands c b k x v1 core_at block_at listed is_on

    abbrev time : ℕ
    time = time_of s.cores x.whereabouts

    abbrev f : Fired
    f = fire_all (time_of s.cores x.whereabouts) x.control

    abbrev x0 : ℕ → ControlBlock
    x0 d = without_ready d (fire_all (time_of s.cores x.whereabouts) x.control).control

    stands_good : (v : Version) (d : ℕ) → slice_get f.control.states d ≡ Some disp.Ready → (code : List ℕ) → slice_get (x0 d).parts.code d ≡ Some code → (ctx : Context) → slice_get (x0 d).parts.contexts d ≡ Some ctx →
        (h : Halfway) → after_ahead time (x0 d) d (ahead time code k.settings.quantum ctx (x0 d).parts.memory) (ahead time code k.settings.quantum ctx (x0 d).parts.memory).end ≡ h →
        Good terms lines s t (outcome s (finish_slice c k b x v d f.count (Some h)))
    stands_good v d ready code code_at ctx context_at h e =
        subst (Good terms lines s t) (sym (outcome-look s b (need_here k.settings (need_of h)) (λ out. slice_outcome c k b x d f.count (slice_end c b v d h out))))
        (subst (λ out. Good terms lines s t (slice_outcome c k b x d f.count (slice_end c b v d h out))) (sym (outside_here s b (need_of h) k.settings lines_are))
        (subst (λ h. Good terms lines s t (slice_outcome c k b x d f.count (slice_end c b v d h (outside_at s b (need_of h))))) e
        (slice_follows terms lines s t c b d k x here.0 v v1 here.1 ready code code_at ctx context_at quantum_is)))

    halfway_good : (v : Version) (d : ℕ) → slice_get f.control.states d ≡ Some disp.Ready → (oc : Option (List ℕ)) → slice_get (x0 d).parts.code d ≡ oc → (ox : Option Context) → slice_get (x0 d).parts.contexts d ≡ ox →
        Good terms lines s t (outcome s (finish_slice c k b x v d f.count (bind oc (λ code. bind ox (λ ctx. let a = ahead time code k.settings.quantum ctx (x0 d).parts.memory in Some (after_ahead time (x0 d) d a a.end))))))
    halfway_good v d ready None ec ox ex = tt
    halfway_good v d ready (Some code) ec None ex = tt
    halfway_good v d ready (Some code) ec (Some ctx) ex = stands_good v d ready code ec ctx ex _ refl

    picked_good : (v : Version) (o : Option ℕ) → pick v f.control.dues f.control.ready ≡ o → Good terms lines s t (outcome s (slice_picked c k b x time v f o))
    unfolding halfway
    picked_good v None e = slice_none_follows terms lines s t c b k x here.0 v1 here.1
    picked_good v (Some d) e =
        let well = fired_well time x.control (ready_from x.control here.1.ready) in
        halfway_good v d (well.all_ready d (pick_listed v f.control.dues f.control.ready d e)) (slice_get (x0 d).parts.code d) refl (slice_get (x0 d).parts.contexts d) refl

    placed_good : (w : Whereabouts) → x.whereabouts ≡ w → Good terms lines s t (outcome s (slice_from c k b x w))
    placed_good (rest kept) e = tt
    placed_good (on core z v) e =
        let now : time_of s.cores x.whereabouts ≡ time_at k.clock (on core z v) = time_here s c k x.whereabouts core_at here.1.on_core ∙ ap (time_at k.clock) e in
        subst (λ time. Good terms lines s t (outcome s (slice_picked c k b x time v (fire_all time x.control) (pick v (fire_all time x.control).control.dues (fire_all time x.control).control.ready)))) now
        (picked_good v (pick v f.control.dues f.control.ready) refl)

    -- a slice of the block follows
    pub slice_good : Good terms lines s t (outcome s (slice_turn c k b (Some x)))
    unfolding slice_turn
    slice_good = placed_good x.whereabouts refl
