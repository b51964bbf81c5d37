-- A slice begins of a block in its place.
use Rattle.std.proofs.Common.{◌≡◌, ◌∙◌, Some, true, refl, sym, ap, subst, slice_get}
use Rattle.std.proofs.lemmas.Option.{same_Some}
use Rattle.dc_base.specs.Outcomes.{has}
use Rattle.dc_base.specs.States.{State, Core, Block, Settings, with_control}
use Rattle.dc_kernel.specs.Begins.{IsBegun, IsQuantum}
use Rattle.dc_objects.specs.Blocks.{IsTimed, running_of}
use Rattle.dc_objects.specs.States.{state_of}
use Rattle.dc_bodies.specs.InHand.{IsInHand}
use Rattle.dc_machine.proofs.InHands.{in_hand, quantum_is}
use Rattle.dc_machine.proofs.Slicing.{item_is, of_core}
use Rattle.dc_machine.proofs.steps.begin.Goals as goal

pub begin-requires-clause-timed : goal.begin-requires-clause-timed
begin-requires-clause-timed g c κs within =
    let s : State = state_of c.args.objects.now in
    let k : Core = c.requires.core.0 in
    let at : slice_get s.cores c.args.c.0 ≡ Some k = c.requires.core.1 in
    let x = in_hand s c.requires.sound c.args.c.0 k at c.args.b.0 c.requires.core.2 in
    let same : c.index-core.result.now ≡ k = item_is s.cores s.cores c.args.c.0 k c.index-core.result.now refl at c.index-core.ensures in
    let is : c.index_mut.result.now ≡ x.0 = item_is s.blocks s.blocks c.args.b.0 x.0 c.index_mut.result.now refl x.1 c.index_mut.ensures.value in
    let clock : c.clock-clock.result ≡ k.clock = c.clock-clock.ensures ∙ ap (λ (k : Core). k.clock) same in
    subst (λ n. IsTimed n c.index_mut.result.now) (sym clock) (subst (IsTimed k.clock) (sym is) x.2.timed)

pub begin-requires-clause-quantum : goal.begin-requires-clause-quantum
begin-requires-clause-quantum g c κs within =
    let s : State = state_of c.args.objects.now in
    let k : Core = c.requires.core.0 in
    let at : slice_get s.cores c.args.c.0 ≡ Some k = c.requires.core.1 in
    let same : c.index-core.result.now ≡ k = item_is s.cores s.cores c.args.c.0 k c.index-core.result.now refl at c.index-core.ensures in
    let quantum = c.quantum-quantum.ensures ∙ (ap (λ (t : Settings). t.quantum) c.settings.ensures ∙ ap (λ (k : Core). k.settings.quantum) same) in
    subst IsQuantum (sym quantum) (quantum_is s c.requires.sound c.args.c.0 k at)

pub returns : goal.returns
returns g c = record {
  begun = λ k y at found.
      let s : State = state_of c.args.objects.now in
      let b = c.args.b.0 in
      let k0 : Core = c.requires.core.0 in
      let at0 : slice_get s.cores c.args.c.0 ≡ Some k0 = c.requires.core.1 in
      let same : c.index-core.result.now ≡ k = item_is s.cores s.cores c.args.c.0 k c.index-core.result.now refl at c.index-core.ensures in
      let is : c.index_mut.result.now ≡ y = item_is s.blocks s.blocks b y c.index_mut.result.now refl found c.index_mut.ensures.value in
      let clock : c.clock-clock.result ≡ k.clock = c.clock-clock.ensures ∙ ap (λ (k : Core). k.clock) same in
      let quantum : c.quantum-quantum.result ≡ k.settings.quantum = c.quantum-quantum.ensures ∙ (ap (λ (t : Settings). t.quantum) c.settings.ensures ∙ ap (λ (k : Core). k.settings.quantum) same) in
      let listed = of_core (λ (k : Core). has k.share b ≡ true) s.cores c.args.c.0 k0 k at0 at c.requires.core.2 in
      let x = in_hand s c.requires.sound c.args.c.0 k at b listed in
      let now : Block = c.begin.new.self in
      let one : x.0 ≡ y = same_Some x.0 y (sym x.1 ∙ found) in
      let begun = subst (λ q. IsBegun q c.clock-clock.result (running_of c.index_mut.result.now) (running_of now) c.begin.result) quantum c.begin.ensures.begun in
      let timed = subst (λ n. IsBegun k.settings.quantum n (running_of c.index_mut.result.now) (running_of now) c.begin.result) clock begun in
      record {
        now = now;
        has = record {
          hand = subst (IsInHand c.args.c.0 k.clock) one x.2;
          begun = subst (λ (z : Block). IsBegun k.settings.quantum k.clock (running_of z) (running_of now) c.begin.result) is timed;
          block = c.begin.ensures.whereabouts ∙ ap (with_control now.control) is;
        };
        state = refl;
      };
}
