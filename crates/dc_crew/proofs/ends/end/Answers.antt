use Rattle.std.proofs.Common.{◌≡◌, ◌≢◌, ◌∷◌, ◌++◌, [], reverse, sym, ap, ◌∙◌, subst, arith}
use Rattle.dc_logs.specs.Rests.{AllOf}
use Rattle.dc_stage.specs.Passes.{passes_of}
use Rattle.dc_scene.specs.Machines.{machine}
use Rattle.dc_crew.specs.declared.seats.Seat.{Seat}
use Rattle.dc_crew.specs.Ended.{HasPart}
use Rattle.dc_crew.proofs.Homes.{removed}
use Rattle.dc_crew.proofs.Ending.{crew_parts, logs_length, all_parts, no_others, logs_of}
use Rattle.dc_crew.proofs.ends.end.Goals as goal

pub push_reserved-requires-2 : goal.push_reserved-requires-2
push_reserved-requires-2 c =
    let logs = c.join_all-logs.result.items in
    let n = logs_length c.join_all-logs.new.first c.remove-pass.result c.push_reserved.new.self.items logs c.join_all-logs.ensures.joined in
    let a = c.requires.room.1 in
    let b = c.remove-pass.ensures.len in
    let d = c.push_reserved.ensures.len in
    let e = c.join_all-logs.ensures.room in
    omega (arith, n, a, b, d, e)

pub journal_of-requires : goal.journal_of-requires
journal_of-requires c =
    let st = c.args.stage in
    let l = c.join_all-logs.new.first in
    let s = c.remove-pass.result in
    let rest = c.remove-pass.new.self.items in
    let r = c.remove-pass.ensures in
    let is = removed c.args.seats.items s rest (let n = r.len in omega (arith, n)) r.value r.by_index.2 in
    let parts = crew_parts st c.args.seats.items c.args.script s rest is c.requires.crew in (
      l.seen,
      passes_of l,
      logs_of l s c.push_reserved.new.self.items c.join_all-logs.result.items c.join_all-logs.ensures.joined
          (machine st.scene.settings st.scene.start) c.close-objects.ensures.history st c.into_entries.result c.reverse.new.self.items parts.seat
          c.into_entries.ensures (c.reverse.ensures.items ∙ ap reverse c.push_reserved-2.ensures.items),
    )

pub returns : goal.returns
returns c =
    let st = c.args.stage in
    let l = c.join_all-logs.new.first in
    let s = c.remove-pass.result in
    let rest = c.remove-pass.new.self.items in
    let others = c.push_reserved.new.self.items in
    let r = c.remove-pass.ensures in
    let is = removed c.args.seats.items s rest (let n = r.len in omega (arith, n)) r.value r.by_index.2 in
    let parts = crew_parts st c.args.seats.items c.args.script s rest is c.requires.crew in
    let joined = c.join_all-logs.ensures.joined in
    let logs = c.join_all-logs.result.items in
    let p = machine st.scene.settings st.scene.start in
    let all = c.close-objects.ensures.history in
    let same : s ∷ others ≡ c.args.seats.items ++ c.args.script ∷ [] =
    ap (λ xs. s ∷ xs) c.push_reserved.ensures.items ∙ sym (ap (λ xs. xs ++ c.args.script ∷ []) is) in
    let are = logs_of l s others logs joined p all st c.into_entries.result c.reverse.new.self.items parts.seat c.into_entries.ensures
    (c.reverse.ensures.items ∙ ap reverse c.push_reserved-2.ensures.items) in
    record {
      history = l.seen;
      lawful = (c.history_is_of_the_machine.ensures.lawful st.scene c.requires.opened.sizes l.seen).0 all.lawful;
      entries = c.in_ok-journal.ensures l.seen (passes_of l) are;
      objects_are = c.closed_objects_are_the_state.ensures st.scene c.requires.opened.sizes l.seen c.close-objects.result.objects.items
          (c.close-objects.ensures.count ∙ c.requires.opened.objects) c.close-objects.ensures.states;
      parts = subst (λ xs. AllOf (HasPart l.seen) xs) same (all_parts l s others logs joined);
      others = λ a n. no_others l s others logs joined p all a (subst (λ xs. AllOf (λ (z : Seat). z.pass.actor ≢ a) xs) (sym same) n);
    }
