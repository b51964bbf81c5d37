-- The objects of a scene, as the definitions have them.
use Rattle.dc_base.specs.Changes.{core, block, channel, wire, mailbox, console, script}
use Rattle.dc_base.specs.Changes.{Object as Seen}
use Rattle.dc_scene.specs.declared.objects.Object.{Object}
use Rattle.dc_scene.specs.declared.objects.Object.TheVariants as object

-- the object of the machine with cores
abbrev pub object_seen : {D : Type 0} → Object D → Seen
object_seen (object.Core k) = core k
object_seen (object.Block x) = block x
object_seen (object.Channel r) = channel r
object_seen (object.Line w) = wire w
object_seen (object.Mailbox m) = mailbox m
object_seen (object.Console ws) = console ws
object_seen (object.Script t) = script t
