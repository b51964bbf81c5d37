-- A slice as a turn of its core is what a whole slice does.
use Rattle.std.proofs.Common.{◌≡◌, ℕ, ◌+◌, ◌∷◌, Option, Some, None, refl, ap, ◌∙◌}
use Rattle.std.specs.Option.{option_map}
use Rattle.dc_base.specs.declared.calls.Need.{Need}
use Rattle.dc_base.specs.declared.calls.Need.TheVariants as needs
use Rattle.dc_base.specs.declared.calls.Op.{Op}
use Rattle.dc_base.specs.declared.kernels.Version.{Version}
use Rattle.dc_base.specs.Words.{bind}
use Rattle.dc_base.specs.Changes.{core_becomes, block_becomes}
use Rattle.dc_base.specs.ControlBlocks.{ControlBlock}
use Rattle.dc_base.specs.Firing.{Fired}
use Rattle.dc_base.specs.NeedsHere.{need_here}
use Rattle.dc_base.specs.Serving.{need, Outside, Served, faulted, held_up, served, serve}
use Rattle.dc_base.specs.Slices.{Halfway, stopped, stands, halfway, slice_of, slice_end, need_of, without_ready, with_due, after_served}
use Rattle.dc_base.specs.States.{State, Core, Block, with_control}
use Rattle.dc_base.specs.NeededLooks.{look_outside, outside_change}
use Rattle.dc_base.specs.SliceTurns.{core_after_slice, finish_slice, slice_entry, slice_outcome, slice_picked, slice_turn}
use Rattle.dc_base.specs.Turns.{Turn, did, outcome}
use Rattle.dc_kernel.specs.Running.{Running, on_core, time_in}
use Rattle.dc_kernel.specs.Begins.{fired, picked, halfway_in, need_in}
use Rattle.dc_kernel.specs.Done.{done, done_by, done_picked}
use Rattle.dc_kernel.specs.Turned.{look_in, look_here, outcome_by, done_outcome}

looks_in : (s : State) (b : ℕ) (n : Need) (next : Outside → Turn) → outcome s (look_outside b n next) ≡ outcome s (next (look_in s b n))
unfolding look_outside
looks_in s b needs.Nothing next = refl
looks_in s b needs.Console next = refl
looks_in s b (needs.Channel x) next = refl
looks_in s b (needs.Line l) next = refl

-- a slice's end tells the need of its call
served_needs : (v : Version) (x : ControlBlock) (d ran : ℕ) (o : Op) (n : Need) (out : Outside) (a : Served) → (with_due v d (after_served x d ran o n out a)).need ≡ n
served_needs v x d ran o n out (faulted t) = refl
served_needs v x d ran o n out (held_up w) = refl
served_needs v x d ran o n out (served w p new) = refl

end_needs : (c b : ℕ) (v : Version) (d : ℕ) (h : Halfway) (out : Outside) → (slice_end c b v d h out).need ≡ need_of h
unfolding slice_end
end_needs c b v d (stopped x ran e) out = refl
end_needs c b v d (stands x ran o call) out = served_needs v x d ran o (need call) out (serve c b call out)

ended : (c : ℕ) (k : Core) (b : ℕ) (x : Block) (v : Version) (d count : ℕ) (h : Halfway) (out : Outside) →
    slice_outcome c k b x d count (slice_end c b v d h out) ≡ outcome_by c k b x (need_of h) (done_by d count (slice_end c b v d h out)) (Some d)
ended c k b x v d count h out =
    let sl = slice_end c b v d h out in
    ap (λ n. did (core_becomes c (core_after_slice k b (k.clock + sl.advance)) ∷ block_becomes b (with_control sl.control x) ∷ outside_change b n sl.outside) (slice_entry c b d count sl (k.clock + sl.advance))) (end_needs c b v d h out)

finishes : (s : State) (c : ℕ) (k : Core) (b : ℕ) (x : Block) (v : Version) (d count : ℕ) (o : Option Halfway) →
    outcome s (finish_slice c k b x v d count o) ≡ done_outcome c k b x (need_in o) (option_map (done_by d count) (option_map (λ h. slice_end c b v d h (look_here k.settings s b (need_of h))) o))
finishes s c k b x v d count None = refl
finishes s c k b x v d count (Some h) = looks_in s b (need_here k.settings (need_of h)) _ ∙ ended c k b x v d count h (look_here k.settings s b (need_of h))

picks : (s : State) (c : ℕ) (k : Core) (b : ℕ) (x : Block) (r : Running) (f : Fired) (o : Option ℕ) →
    outcome s (slice_picked c k b x (time_in k.clock r) r.version f o)
    ≡ done_outcome c k b x (need_in (bind o (λ d. halfway k.settings.quantum (time_in k.clock r) (without_ready d f.control) d))) (done_picked (look_here k.settings s b) k.settings.quantum c b k.clock r f o)
unfolding slice_of
picks s c k b x r f None = refl
picks s c k b x r f (Some d) = finishes s c k b x r.version d f.count _

pub slice_done : (s : State) (c : ℕ) (k : Core) (b : ℕ) (r : Running) →
    outcome s (slice_turn c k b (Some (on_core c r))) ≡ done_outcome c k b (on_core c r) (need_in (halfway_in k.settings.quantum k.clock r)) (done (look_here k.settings s b) k.settings.quantum c b k.clock r)
unfolding slice_turn done
slice_done s c k b r = picks s c k b (on_core c r) r (fired k.clock r) (picked k.clock r)
