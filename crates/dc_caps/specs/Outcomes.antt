-- What a call on a table is among the kernel calls.
use Rattle.std.specs.Prelude.{◌≡◌, ℕ, List, not, if◌then◌else◌, Option, Some, None, Result, Ok, Err, length}
use Rattle.dc_base.specs.Capabilities.{Seat, is_used}
use Rattle.dc_base.specs.Kernel.{Call, faults, makes}
use Rattle.dc_base.specs.Parts.{Parts}
use Rattle.dc_caps.specs.declared.faults.CapFault.{CapFault}
use Rattle.dc_caps.specs.declared.faults.CapFault.TheVariants.{EmptySlot, UsedSlot, WrongKind, NoRight, OutOfRange, HasChildren}
use Rattle.dc_caps.specs.Caps.{Caps}

-- the trap number of a fault
abbrev pub trap_of : CapFault → ℕ
trap_of EmptySlot = 4
trap_of UsedSlot = 5
trap_of WrongKind = 6
trap_of NoRight = 7
trap_of OutOfRange = 8
trap_of HasChildren = 9

abbrev pub outcome : {T : Type 0} → Result T CapFault → Parts → Call
outcome (Ok x) p = makes None p
outcome (Err e) p = faults (trap_of e)

-- on each block with the capabilities from before, the kernel call comes to this answer, and where it is made it leaves those after it
abbrev pub IsCall : {T : Type 0} → Caps → Caps → Result T CapFault → (Parts → Call) → Type 0
IsCall before after answer call = (p : Parts) → p.caps ≡ before.set → length p.code ≡ before.disps → call p ≡ outcome answer (record p { caps = after.set })

-- done, or refused
abbrev pub answer_of : Option CapFault → Result (Unit {0}) CapFault
answer_of None = Ok tt
answer_of (Some e) = Err e

-- why a slot can't become a root
abbrev pub root_fault : List Seat → ℕ → Option CapFault
root_fault set s = if is_used set s then Some UsedSlot else None

-- why a slot can't become a child
abbrev pub child_fault : List Seat → ℕ → ℕ → Option CapFault
child_fault set parent s = if not (is_used set parent) then Some EmptySlot else if is_used set s then Some UsedSlot else None
