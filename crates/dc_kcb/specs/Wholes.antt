-- What a kernel control block is made of, and what it keeps.
use Rattle.std.specs.Prelude.{◌≡◌, ℕ, map, length}
use Rattle.dc_base.specs.Timers.{in_order}
use Rattle.dc_base.specs.ControlBlocks.{ControlBlock}
use Rattle.dc_block_sound.specs.SoundControls.{IsSoundControl}
use Rattle.dc_ready.specs.Entries.{entries_of, AreDues, IsReadyList}
use Rattle.dc_timers.specs.Numbers.{by_number, AreNumbered}
use Rattle.dc_kcb.specs.declared.parts.Parts.{Parts}
use Rattle.dc_kcb.specs.Controls.{Store, Agenda, control_of, due_of}

-- a block at rest, with its kept time
pub record Resting : Type 0 where
  pub control : ControlBlock
  pub kept : ℕ

abbrev pub store_in : Parts → Store
store_in p = record { memory = p.memory.items; code = map (λ v. v.items) p.code.items; caps = p.table.set; ports = p.ports.items }

abbrev pub agenda_in : Parts → Agenda
agenda_in p =
    record { disps = p.disps.items; signals = p.signals.items; ready = entries_of p.ready.items; timers = by_number p.timers.items; next_timer = p.next_timer }

abbrev pub resting_of : Parts → Resting
resting_of p = record { control = control_of (store_in p) (agenda_in p); kept = p.time }

-- the control block is sound, each dispatcher has its slots, the ready list has the dues of its dispatchers, and the timers stand by (deadline, number)
pub record AreWhole (p : Parts) : Type 0 where
  pub control : IsSoundControl (resting_of p).control
  pub slots : p.table.disps ≡ length p.disps.items
  pub once : IsReadyList (entries_of p.ready.items)
  pub dues : AreDues (map due_of p.disps.items) (entries_of p.ready.items)
  pub numbered : AreNumbered p.next_timer p.timers.items
  pub order : p.timers.items ≡ in_order (by_number p.timers.items)
