-- A slice of the first block that can run, or idle, or nothing.
use Rattle.std.proofs.Common.{ℕ, Option, Some, sym, ap, ◌∙◌}
use Rattle.std.specs.Option.{option_map}
use Rattle.dc_base.specs.States.{Block, Core}
use Rattle.dc_base.specs.Turns.{Looked}
use Rattle.dc_bodies.specs.InHand.{looked_in}
use Rattle.dc_bodies.specs.Nexts.{first_runnable}
use Rattle.dc_bodies.proofs.Firsts.{first_is, no_number_found, no_number_at}
use Rattle.dc_bodies.proofs.nexts.next_of.Goals as goal

pub returns-in-Some : goal.returns-in-Some
returns-in-Some g c =
    let k : Core = c.args.core.now in
    let seen : ℕ → Option Block = g.B.Blocks.seen c.args.blocks.now in
    let f = first_is c.requires.hand.0 k seen c.requires.hand.1 c.first_runnable.result c.in-Some.b c.in-Some.is c.first_runnable.ensures in
    let h = c.requires.hand.1 c.in-Some.b.0 f.0 in
    (h.0, f.1 ∙ ap (λ (o : Option Block). Some (record { number = c.in-Some.b.0; found = o })) h.1)

pub returns-in-Some-next_due : goal.returns-in-Some-next_due
returns-in-Some-next_due g c =
    let k : Core = c.args.core.now in
    let seen : ℕ → Option Block = g.B.Blocks.seen c.args.blocks.now in
    (no_number_found (first_runnable k (looked_in seen k.share)) (sym (no_number_at c.first_runnable.result (option_map (λ (l : Looked). l.number) (first_runnable k (looked_in seen k.share))) c.in_default.is c.first_runnable.ensures)), sym c.next_due.ensures ∙ c.in-Some-next_due.is)

pub returns-in-None : goal.returns-in-None
returns-in-None g c =
    let k : Core = c.args.core.now in
    let seen : ℕ → Option Block = g.B.Blocks.seen c.args.blocks.now in
    (no_number_found (first_runnable k (looked_in seen k.share)) (sym (no_number_at c.first_runnable.result (option_map (λ (l : Looked). l.number) (first_runnable k (looked_in seen k.share))) c.in_default.is c.first_runnable.ensures)), sym c.next_due.ensures ∙ c.in-None.is)
