-- The machine whose kernels are of either version, and its stage.
use Rattle.dc_base.specs.declared.entries.Entry.{Entry}
use Rattle.dc_base.specs.Histories.{IsLawfulHistory}
use Rattle.dc_kernel.specs.declared.both.Both.{Both}
use Rattle.dc_kernel.specs.declared.kernels.Kernel.{Kernel}
use Rattle.dc_ready.specs.declared.due_heaps.DueHeap.{DueHeap}
use Rattle.dc_ready.specs.declared.fifos.Fifo.{Fifo}
use Rattle.dc_scene.specs.declared.machines.Machine.{Machine}
use Rattle.dc_stage.specs.History.{Log}
use Rattle.dc_stage.specs.Passes.{Known, Setting}
use Rattle.dc_timers.specs.declared.timer_lists.TimerList.{TimerList}
use Rattle.dc_timers.specs.declared.timer_wheels.TimerWheel.{TimerWheel}

-- a kernel of either version
abbrev pub Either : Type 0
Either = Both (Kernel Fifo TimerList) (Kernel DueHeap TimerWheel)

-- what contracts see of a stage of the machine, and of a pass of it
abbrev pub Staged : Type 0
Staged = Setting (Machine Either)

abbrev pub Passing : Type 0
Passing = Known (Machine Either) Entry

-- the history is lawful from the machine's start
abbrev pub IsLawfulHere : Staged → Log Entry → Type 0
IsLawfulHere st history = IsLawfulHistory st.scene.settings st.scene.start history
