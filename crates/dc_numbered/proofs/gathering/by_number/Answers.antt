use Rattle.std.proofs.Common.{rules, ◌∷◌, ◌++◌, [], map, length, ap, ◌∙◌, arith}
use Rattle.dc_base.specs.Changes.{core, block, channel, wire, mailbox, console}
use Rattle.dc_objects.specs.States.{state_of}
use Rattle.dc_scene.specs.declared.objects.Object.TheVariants as held
use Rattle.dc_scene.specs.Objects.{object_seen}
use Rattle.dc_numbered.proofs.Ends.{map_reverse}
use Rattle.dc_numbered.proofs.Rows.{all_put}
use Rattle.dc_numbered.proofs.Totals.{objects_by_kind}
use Rattle.dc_numbered.proofs.gathering.by_number.Goals as goal

pub push_reserved-requires : goal.push_reserved-requires
push_reserved-requires g c = omega (arith, ap length c.requires.empty, objects_by_kind (state_of c.args.objects))

pub put-requires-clause-room : goal.put-requires-clause-room
put-requires-clause-room g c = omega (arith, ap length c.requires.empty, objects_by_kind (state_of c.args.objects))

pub put-requires-2-clause-room : goal.put-requires-2-clause-room
put-requires-2-clause-room g c = omega (arith, ap length c.requires.empty, objects_by_kind (state_of c.args.objects))

pub put-requires-3-clause-room : goal.put-requires-3-clause-room
put-requires-3-clause-room g c = omega (arith, ap length c.requires.empty, objects_by_kind (state_of c.args.objects))

pub put-requires-4-clause-room : goal.put-requires-4-clause-room
put-requires-4-clause-room g c = omega (arith, ap length c.requires.empty, objects_by_kind (state_of c.args.objects))

pub put-requires-5-clause-room : goal.put-requires-5-clause-room
put-requires-5-clause-room g c = omega (arith, ap length c.requires.empty, objects_by_kind (state_of c.args.objects))

pub put-requires-6-clause-room : goal.put-requires-6-clause-room
put-requires-6-clause-room g c = omega (arith, ap length c.requires.empty, objects_by_kind (state_of c.args.objects))

pub returns-clause-list : goal.returns-clause-list
returns-clause-list g c =
    ap (map object_seen) c.reverse.ensures.items
    ∙ (map_reverse object_seen c.put-6.new.list.items
    ∙ all_put (state_of c.args.objects)
    (map object_seen c.push_reserved.new.self.items)
    (map object_seen c.put.new.list.items)
    (map object_seen c.put-2.new.list.items)
    (map object_seen c.put-3.new.list.items)
    (map object_seen c.put-4.new.list.items)
    (map object_seen c.put-5.new.list.items)
    (map object_seen c.put-6.new.list.items)
    (ap (map object_seen) (c.push_reserved.ensures.items ∙ ap (λ os. os ++ held.Script c.args.objects.script ∷ []) c.requires.empty))
    (c.put.ensures.list object_seen console (λ x o p. search rules))
    (c.put-2.ensures.list object_seen mailbox (λ x o p. search rules))
    (c.put-3.ensures.list object_seen wire (λ x o p. search rules))
    (c.put-4.ensures.list object_seen channel (λ x o p. search rules))
    (c.put-5.ensures.list object_seen block (λ x o p. search rules))
    (c.put-6.ensures.list object_seen core (λ x o p. search rules)))
