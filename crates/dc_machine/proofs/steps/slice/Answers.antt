-- A slice with the object that its call needs lifted out.
use Rattle.dc_kernel.specs.Turned.{look_in, look_here}
use Rattle.std.proofs.Common.{◌≡◌, ◌<◌, List, Some, true, refl, sym, ap, ◌∙◌, subst, arith}
use Rattle.std.specs.Prelude.{slice_get, slice_set, ◌^◌}
use Rattle.dc_block_sound.proofs.Elements.{set_here}
use Rattle.dc_base.specs.Changes.{apply}
use Rattle.dc_base.specs.NeededLooks.{outside_change}
use Rattle.dc_base.specs.Outcomes.{has}
use Rattle.dc_base.specs.States.{State, Core, Block}
use Rattle.dc_kernel.specs.Begins.{IsQuantum}
use Rattle.dc_calls.specs.Outsides.{outside_seen}
use Rattle.dc_objects.specs.States.{state_of}
use Rattle.dc_bodies.specs.OutsideKinds.{SameKind}
use Rattle.dc_bodies.specs.Sliced.{IsSlice, HasBegun}
use Rattle.dc_machine.specs.Lifts.{HasNeeded}
use Rattle.dc_machine.proofs.Begun.{needed_alike, looked_alike, outside_alike, set_twice}
use Rattle.dc_machine.proofs.InHands.{in_hand, quantum_is, clock_low}
use Rattle.dc_machine.proofs.Needs.{has_needed}
use Rattle.dc_machine.proofs.Putting.{lifted_same}
use Rattle.dc_machine.proofs.Slicing.{core_is, block_is, block_within, item_within, cores_kept, blocks_kept, mailboxes_kept, sliced, has_room, of_core, looked_here}
use Rattle.dc_machine.proofs.steps.slice.Goals as goal

pub take_outside-outside-requires-after_bounds : goal.take_outside-outside-requires-after_bounds
take_outside-outside-requires-after_bounds g c κs within =
    let s : State = state_of c.args.objects.now in
    let k : Core = c.requires.core.0 in
    let at : slice_get s.cores c.args.c.0 ≡ Some k = c.requires.core.1 in
    let listed = c.requires.core.2 in
    let b = c.args.b.0 in
    let x = in_hand s c.requires.sound c.args.c.0 k at b listed in
    let o1 = c.begin-begun.new.objects in
    let h = c.begin-begun.ensures.begun k x.0 at x.1 in
    let n = c.begin-begun.result.need in
    let blocks = slice_set s.blocks b h.now in
    subst (λ (t : State). HasNeeded t b n) (sym h.state) (needed_alike s blocks b n (subst (HasNeeded s b) (sym h.has.begun.need) (has_needed s c.requires.sound b x.0 x.1 k.settings.quantum k.clock)))

pub index_mut-core-requires : goal.index_mut-core-requires
index_mut-core-requires g c =
    let s : State = state_of c.args.objects.now in
    let k : Core = c.requires.core.0 in
    let at : slice_get s.cores c.args.c.0 ≡ Some k = c.requires.core.1 in
    let x = in_hand s c.requires.sound c.args.c.0 k at c.args.b.0 c.requires.core.2 in
    let o1 = c.begin-begun.new.objects in
    let h = c.begin-begun.ensures.begun k x.0 at x.1 in
    let at1 : slice_get (state_of o1).cores c.args.c.0 ≡ Some k = ap (λ (t : State). slice_get t.cores c.args.c.0) h.state ∙ at in
    let u = c.take_outside-outside.new.objects in
    let w = item_within o1.cores.items u.cores.items c.args.c.0 k (cores_kept o1 u c.take_outside-outside.ensures.rest) at1 in
    omega (arith, w)

pub index_mut-block-requires : goal.index_mut-block-requires
index_mut-block-requires g c =
    let s : State = state_of c.args.objects.now in
    let k : Core = c.requires.core.0 in
    let at : slice_get s.cores c.args.c.0 ≡ Some k = c.requires.core.1 in
    let listed = c.requires.core.2 in
    let b = c.args.b.0 in
    let x = in_hand s c.requires.sound c.args.c.0 k at b listed in
    let o1 = c.begin-begun.new.objects in
    let h = c.begin-begun.ensures.begun k x.0 at x.1 in
    let n = c.begin-begun.result.need in
    let blocks = slice_set s.blocks b h.now in
    let at1 : slice_get (state_of o1).cores c.args.c.0 ≡ Some k = ap (λ (t : State). slice_get t.cores c.args.c.0) h.state ∙ at in
    let found1 : slice_get (state_of o1).blocks b ≡ Some h.now = ap (λ (t : State). slice_get t.blocks b) h.state ∙ set_here s.blocks b x.0 h.now x.1 in
    let rest = c.take_outside-outside.ensures.rest in
    let u = c.take_outside-outside.new.objects in
    let w = block_within o1 u rest b h.now found1 in
    omega (arith, w)

pub slice_held-entry-requires-clause-share : goal.slice_held-entry-requires-clause-share
slice_held-entry-requires-clause-share g c κs within =
    let s : State = state_of c.args.objects.now in
    let k : Core = c.requires.core.0 in
    let at : slice_get s.cores c.args.c.0 ≡ Some k = c.requires.core.1 in
    let listed = c.requires.core.2 in
    let b = c.args.b.0 in
    let x = in_hand s c.requires.sound c.args.c.0 k at b listed in
    let o1 = c.begin-begun.new.objects in
    let h = c.begin-begun.ensures.begun k x.0 at x.1 in
    let n = c.begin-begun.result.need in
    let blocks = slice_set s.blocks b h.now in
    let at1 : slice_get (state_of o1).cores c.args.c.0 ≡ Some k = ap (λ (t : State). slice_get t.cores c.args.c.0) h.state ∙ at in
    let found1 : slice_get (state_of o1).blocks b ≡ Some h.now = ap (λ (t : State). slice_get t.blocks b) h.state ∙ set_here s.blocks b x.0 h.now x.1 in
    let rest = c.take_outside-outside.ensures.rest in
    let u = c.take_outside-outside.new.objects in
    let same = core_is o1 u rest c.args.c.0 k c.index_mut-core.result.now at1 c.index_mut-core.ensures.value in
    subst (λ (k : Core). has k.share b ≡ true) (sym same) listed

pub slice_held-entry-requires-clause-budget : goal.slice_held-entry-requires-clause-budget
slice_held-entry-requires-clause-budget g c κs within =
    let s : State = state_of c.args.objects.now in
    let k : Core = c.requires.core.0 in
    let at : slice_get s.cores c.args.c.0 ≡ Some k = c.requires.core.1 in
    let listed = c.requires.core.2 in
    let b = c.args.b.0 in
    let x = in_hand s c.requires.sound c.args.c.0 k at b listed in
    let o1 = c.begin-begun.new.objects in
    let h = c.begin-begun.ensures.begun k x.0 at x.1 in
    let n = c.begin-begun.result.need in
    let blocks = slice_set s.blocks b h.now in
    let at1 : slice_get (state_of o1).cores c.args.c.0 ≡ Some k = ap (λ (t : State). slice_get t.cores c.args.c.0) h.state ∙ at in
    let found1 : slice_get (state_of o1).blocks b ≡ Some h.now = ap (λ (t : State). slice_get t.blocks b) h.state ∙ set_here s.blocks b x.0 h.now x.1 in
    let rest = c.take_outside-outside.ensures.rest in
    let u = c.take_outside-outside.new.objects in
    let same = core_is o1 u rest c.args.c.0 k c.index_mut-core.result.now at1 c.index_mut-core.ensures.value in
    subst (λ (k : Core). k.used < k.settings.slices) (sym same) c.requires.core.3

pub slice_held-entry-requires-clause-quantum : goal.slice_held-entry-requires-clause-quantum
slice_held-entry-requires-clause-quantum g c κs within =
    let s : State = state_of c.args.objects.now in
    let k : Core = c.requires.core.0 in
    let at : slice_get s.cores c.args.c.0 ≡ Some k = c.requires.core.1 in
    let listed = c.requires.core.2 in
    let b = c.args.b.0 in
    let x = in_hand s c.requires.sound c.args.c.0 k at b listed in
    let o1 = c.begin-begun.new.objects in
    let h = c.begin-begun.ensures.begun k x.0 at x.1 in
    let n = c.begin-begun.result.need in
    let blocks = slice_set s.blocks b h.now in
    let at1 : slice_get (state_of o1).cores c.args.c.0 ≡ Some k = ap (λ (t : State). slice_get t.cores c.args.c.0) h.state ∙ at in
    let found1 : slice_get (state_of o1).blocks b ≡ Some h.now = ap (λ (t : State). slice_get t.blocks b) h.state ∙ set_here s.blocks b x.0 h.now x.1 in
    let rest = c.take_outside-outside.ensures.rest in
    let u = c.take_outside-outside.new.objects in
    let same = core_is o1 u rest c.args.c.0 k c.index_mut-core.result.now at1 c.index_mut-core.ensures.value in
    subst (λ (k : Core). IsQuantum k.settings.quantum) (sym same) (quantum_is s c.requires.sound c.args.c.0 k at)

pub slice_held-entry-requires-clause-clock : goal.slice_held-entry-requires-clause-clock
slice_held-entry-requires-clause-clock g c κs within =
    let s : State = state_of c.args.objects.now in
    let k : Core = c.requires.core.0 in
    let at : slice_get s.cores c.args.c.0 ≡ Some k = c.requires.core.1 in
    let listed = c.requires.core.2 in
    let b = c.args.b.0 in
    let x = in_hand s c.requires.sound c.args.c.0 k at b listed in
    let o1 = c.begin-begun.new.objects in
    let h = c.begin-begun.ensures.begun k x.0 at x.1 in
    let n = c.begin-begun.result.need in
    let blocks = slice_set s.blocks b h.now in
    let at1 : slice_get (state_of o1).cores c.args.c.0 ≡ Some k = ap (λ (t : State). slice_get t.cores c.args.c.0) h.state ∙ at in
    let found1 : slice_get (state_of o1).blocks b ≡ Some h.now = ap (λ (t : State). slice_get t.blocks b) h.state ∙ set_here s.blocks b x.0 h.now x.1 in
    let rest = c.take_outside-outside.ensures.rest in
    let u = c.take_outside-outside.new.objects in
    let same = core_is o1 u rest c.args.c.0 k c.index_mut-core.result.now at1 c.index_mut-core.ensures.value in
    subst (λ (k : Core). k.clock < 2 ^ 63) (sym same) (clock_low s c.requires.sound c.args.c.0 k at)

pub slice_held-entry-requires-clause-begun : goal.slice_held-entry-requires-clause-begun
slice_held-entry-requires-clause-begun g c κs within =
    let s : State = state_of c.args.objects.now in
    let k : Core = c.requires.core.0 in
    let at : slice_get s.cores c.args.c.0 ≡ Some k = c.requires.core.1 in
    let listed = c.requires.core.2 in
    let b = c.args.b.0 in
    let x = in_hand s c.requires.sound c.args.c.0 k at b listed in
    let o1 = c.begin-begun.new.objects in
    let h = c.begin-begun.ensures.begun k x.0 at x.1 in
    let n = c.begin-begun.result.need in
    let blocks = slice_set s.blocks b h.now in
    let at1 : slice_get (state_of o1).cores c.args.c.0 ≡ Some k = ap (λ (t : State). slice_get t.cores c.args.c.0) h.state ∙ at in
    let found1 : slice_get (state_of o1).blocks b ≡ Some h.now = ap (λ (t : State). slice_get t.blocks b) h.state ∙ set_here s.blocks b x.0 h.now x.1 in
    let rest = c.take_outside-outside.ensures.rest in
    let u = c.take_outside-outside.new.objects in
    let same = core_is o1 u rest c.args.c.0 k c.index_mut-core.result.now at1 c.index_mut-core.ensures.value in
    let is = block_is o1 u rest b h.now c.index_mut-block.result.now found1 c.index_mut-block.ensures.value in (
      x.0,
      subst (λ (y : Block). HasBegun c.args.c.0 c.index_mut-core.result.now x.0 y c.begin-begun.result) (sym is) (subst (λ (k : Core). HasBegun c.args.c.0 k x.0 h.now c.begin-begun.result) (sym same) h.has),
    )

pub slice_held-entry-requires-clause-room : goal.slice_held-entry-requires-clause-room
slice_held-entry-requires-clause-room g c κs within =
    let s : State = state_of c.args.objects.now in
    let k : Core = c.requires.core.0 in
    let at : slice_get s.cores c.args.c.0 ≡ Some k = c.requires.core.1 in
    let listed = c.requires.core.2 in
    let b = c.args.b.0 in
    let x = in_hand s c.requires.sound c.args.c.0 k at b listed in
    let o1 = c.begin-begun.new.objects in
    let h = c.begin-begun.ensures.begun k x.0 at x.1 in
    let n = c.begin-begun.result.need in
    let blocks = slice_set s.blocks b h.now in
    let looked : outside_seen c.take_outside-outside.result ≡ look_in s b n = c.take_outside-outside.ensures.object ∙ (ap (λ (t : State). look_in t b n) h.state ∙ looked_alike s blocks b n) in
    has_room s c.requires.sound b n c.take_outside-outside.result looked

pub put_outside-requires-clause-lifted : goal.put_outside-requires-clause-lifted
put_outside-requires-clause-lifted g c κs within =
    let s : State = state_of c.args.objects.now in
    let k : Core = c.requires.core.0 in
    let at : slice_get s.cores c.args.c.0 ≡ Some k = c.requires.core.1 in
    let listed = c.requires.core.2 in
    let b = c.args.b.0 in
    let x = in_hand s c.requires.sound c.args.c.0 k at b listed in
    let o1 = c.begin-begun.new.objects in
    let h = c.begin-begun.ensures.begun k x.0 at x.1 in
    let n = c.begin-begun.result.need in
    let blocks = slice_set s.blocks b h.now in
    let at1 : slice_get (state_of o1).cores c.args.c.0 ≡ Some k = ap (λ (t : State). slice_get t.cores c.args.c.0) h.state ∙ at in
    let found1 : slice_get (state_of o1).blocks b ≡ Some h.now = ap (λ (t : State). slice_get t.blocks b) h.state ∙ set_here s.blocks b x.0 h.now x.1 in
    let rest = c.take_outside-outside.ensures.rest in
    let u = c.take_outside-outside.new.objects in
    let same = core_is o1 u rest c.args.c.0 k c.index_mut-core.result.now at1 c.index_mut-core.ensures.value in
    let is = block_is o1 u rest b h.now c.index_mut-block.result.now found1 c.index_mut-block.ensures.value in
    let looked : outside_seen c.take_outside-outside.result ≡ look_in s b n = c.take_outside-outside.ensures.object ∙ (ap (λ (t : State). look_in t b n) h.state ∙ looked_alike s blocks b n) in
    let out = outside_seen c.slice_held-entry.new.outside in
    let o = outside_seen c.take_outside-outside.result in
    let slice : IsSlice c.args.c.0 b k c.slice_held-entry.new.core x.0 c.slice_held-entry.new.block n o out c.slice_held-entry.result = subst (λ (m : Core). IsSlice c.args.c.0 b m c.slice_held-entry.new.core x.0 c.slice_held-entry.new.block n o out c.slice_held-entry.result) same
    (c.slice_held-entry.ensures.slice x.0 (subst (λ (y : Block). HasBegun c.args.c.0 c.index_mut-core.result.now x.0 y c.begin-begun.result) (sym is) (subst (λ (k : Core). HasBegun c.args.c.0 k x.0 h.now c.begin-begun.result) (sym same) h.has))) in
    let here : look_here k.settings s b n ≡ look_in s b n = looked_here s c.requires.sound c.args.c.0 k at b n in
    let kind : SameKind (look_in (state_of o1) b n) out = subst (λ o. SameKind o out) (here ∙ sym (ap (λ (t : State). look_in t b n) h.state ∙ looked_alike s blocks b n)) (slice.kind s (looked ∙ sym here)) in
    (state_of o1, lifted_same (state_of o1) u _ refl refl refl b n c.take_outside-outside.ensures.lifted, kind)

pub returns-clause-step : goal.returns-clause-step
returns-clause-step g c k at =
    let s : State = state_of c.args.objects.now in
    let listed = of_core (λ (k : Core). has k.share c.args.b.0 ≡ true) s.cores c.args.c.0 c.requires.core.0 k c.requires.core.1 at c.requires.core.2 in
    let b = c.args.b.0 in
    let x = in_hand s c.requires.sound c.args.c.0 k at b listed in
    let o1 = c.begin-begun.new.objects in
    let h = c.begin-begun.ensures.begun k x.0 at x.1 in
    let n = c.begin-begun.result.need in
    let blocks = slice_set s.blocks b h.now in
    let at1 : slice_get (state_of o1).cores c.args.c.0 ≡ Some k = ap (λ (t : State). slice_get t.cores c.args.c.0) h.state ∙ at in
    let found1 : slice_get (state_of o1).blocks b ≡ Some h.now = ap (λ (t : State). slice_get t.blocks b) h.state ∙ set_here s.blocks b x.0 h.now x.1 in
    let rest = c.take_outside-outside.ensures.rest in
    let u = c.take_outside-outside.new.objects in
    let same = core_is o1 u rest c.args.c.0 k c.index_mut-core.result.now at1 c.index_mut-core.ensures.value in
    let is = block_is o1 u rest b h.now c.index_mut-block.result.now found1 c.index_mut-block.ensures.value in
    let looked : outside_seen c.take_outside-outside.result ≡ look_in s b n = c.take_outside-outside.ensures.object ∙ (ap (λ (t : State). look_in t b n) h.state ∙ looked_alike s blocks b n) in
    let out = outside_seen c.slice_held-entry.new.outside in
    let o = outside_seen c.take_outside-outside.result in
    let slice : IsSlice c.args.c.0 b k c.slice_held-entry.new.core x.0 c.slice_held-entry.new.block n o out c.slice_held-entry.result = subst (λ (m : Core). IsSlice c.args.c.0 b m c.slice_held-entry.new.core x.0 c.slice_held-entry.new.block n o out c.slice_held-entry.result) same
    (c.slice_held-entry.ensures.slice x.0 (subst (λ (y : Block). HasBegun c.args.c.0 c.index_mut-core.result.now x.0 y c.begin-begun.result) (sym is) (subst (λ (k : Core). HasBegun c.args.c.0 k x.0 h.now c.begin-begun.result) (sym same) h.has))) in
    let here : look_here k.settings s b n ≡ look_in s b n = looked_here s c.requires.sound c.args.c.0 k at b n in
    let kind : SameKind (look_in (state_of o1) b n) out = subst (λ o. SameKind o out) (here ∙ sym (ap (λ (t : State). look_in t b n) h.state ∙ looked_alike s blocks b n)) (slice.kind s (looked ∙ sym here)) in
    let outs = c.put_outside.ensures.outside (state_of o1) (lifted_same (state_of o1) u _ refl refl refl b n c.take_outside-outside.ensures.lifted) kind in
    let alike = outside_alike s blocks b n out in
    let done = c.put_outside.new.objects in
    let kept = c.put_outside.ensures.rest in
    sliced s _ c.args.c k c.slice_held-entry.new.core c.args.b x.0 c.slice_held-entry.new.block n o out c.slice_held-entry.result x.1 (looked ∙ sym here) slice
    (record {
      cores = cores_kept _ done kept ∙ (ap (λ (ks : List Core). slice_set ks c.args.c.0 c.slice_held-entry.new.core) (cores_kept o1 u rest) ∙ ap (λ (t : State). slice_set t.cores c.args.c.0 c.slice_held-entry.new.core) h.state);
      blocks = blocks_kept _ done kept ∙ (ap (λ (xs : List Block). slice_set xs b c.slice_held-entry.new.block) (blocks_kept o1 u rest)
          ∙ (ap (λ (t : State). slice_set t.blocks b c.slice_held-entry.new.block) h.state ∙ set_twice s.blocks b h.now c.slice_held-entry.new.block));
      channels = outs.channels ∙ (ap (λ (t : State). (apply t (outside_change b n out)).channels) h.state ∙ alike.channels);
      lines = outs.lines ∙ (ap (λ (t : State). (apply t (outside_change b n out)).lines) h.state ∙ alike.lines);
      consoles = outs.consoles ∙ (ap (λ (t : State). (apply t (outside_change b n out)).consoles) h.state ∙ alike.consoles);
      mailboxes = mailboxes_kept _ done kept ∙ (mailboxes_kept o1 u rest ∙ ap (λ (t : State). t.mailboxes) h.state);
      script = kept.script ∙ (rest.script ∙ ap (λ (t : State). t.script) h.state);
    })
