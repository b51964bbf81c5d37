use Rattle.std.proofs.Common.{sym, ◌∙◌}
use Rattle.dc_base.specs.Histories.{after}
use Rattle.dc_base.specs.Objects.{objects}
use Rattle.dc_runs.proofs.Held.{held_list}
use Rattle.dc_runs.proofs.closing.closed_objects_are_the_state.Goals as goal

pub returns : goal.returns
returns g c = λ m sized log held count states.
    let last = after m.start log in
    let sizes = c.history_is_of_the_machine.ensures.sizes m sized log in
    let counted = c.objects_are_numbered.ensures.count in
    held_list held (objects last) (count ∙ (counted m.settings m.start sized ∙ sym (counted m.settings last sizes)))
    (λ i x there. states i x there ∙ (c.history_is_of_the_machine.ensures.object m sized log i ∙ c.objects_are_numbered.ensures.each m.settings last sizes i))
