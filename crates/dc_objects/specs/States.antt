-- The objects of a machine, as the definitions have its state.
use Rattle.dc_base.specs.States.{State}
use Rattle.dc_objects.specs.declared.whole.Objects.{Objects}

-- the state of the machine
abbrev pub state_of : {D : Type 0} → Objects D → State
state_of o =
    record {
      cores = o.cores.items;
      blocks = o.blocks.items;
      channels = o.channels.items;
      lines = o.lines.items;
      mailboxes = o.mailboxes.items;
      consoles = o.consoles.items;
      script = o.script;
    }
