-- The lines of reports, written as their texts read.
use Rattle.std.specs.Prelude.{ℕ, List, [], ◌∷◌, map, Option}
use Rattle.std.specs.Option.{option_map}
use Rattle.dc_base.specs.declared.numbers.BlockNo.{BlockNo}
use Rattle.dc_base.specs.declared.numbers.CoreNo.{CoreNo}
use Rattle.dc_base.specs.declared.numbers.DispNo.{DispNo}
use Rattle.dc_base.specs.declared.numbers.SignalNo.{SignalNo}
use Rattle.dc_base.specs.declared.numbers.SlotNo.{SlotNo}
use Rattle.dc_base.specs.declared.capabilities.CapKind.{CapKind}
use Rattle.dc_base.specs.declared.dispatchers.DispState.{DispState}
use Rattle.dc_base.specs.declared.dispatchers.DispState.TheVariants as state
use Rattle.dc_base.specs.declared.dispatchers.Wait.TheVariants as wait
use Rattle.dc_base.specs.declared.interrupts.Source.{Source}
use Rattle.dc_base.specs.declared.interrupts.Source.TheVariants as source
use Rattle.dc_base.specs.declared.kernels.Version.{Version}
use Rattle.dc_base.specs.declared.reports.ReportLine.{ReportLine}
use Rattle.dc_base.specs.declared.reports.ReportLine.TheVariants as said

abbrev block_no : ℕ → BlockNo
block_no b = record { 0 = b }

abbrev core_no : ℕ → CoreNo
core_no c = record { 0 = c }

abbrev disp_no : ℕ → DispNo
disp_no d = record { 0 = d }

abbrev slot_no : ℕ → SlotNo
slot_no s = record { 0 = s }

-- a core that is on: version, clock, home block, share and slices used
abbrev pub core_on : ℕ → Version → ℕ → Option ℕ → List ℕ → ℕ → ReportLine
core_on c v clock home share used = said.CoreOn (core_no c) v clock (option_map block_no home) (record { items = map block_no share }) used

abbrev pub core_off : ℕ → ℕ → ℕ → ReportLine
core_off c clock used = said.CoreOff (core_no c) clock used

-- a block: its core, its time and its armed timers
abbrev pub block : ℕ → Option ℕ → ℕ → ℕ → ReportLine
block b core time armed = said.Block (block_no b) (option_map core_no core) time armed

abbrev pub disp : ℕ → ℕ → DispState → ℕ → ℕ → ReportLine
disp b d is place due = said.Disp (block_no b) (disp_no d) is place due

abbrev pub waits_send : ℕ → DispState
waits_send p = state.Waits (wait.Send (record { 0 = p }))

abbrev pub waits_recv : ℕ → DispState
waits_recv p = state.Waits (wait.Recv (record { 0 = p }))

abbrev pub waits_signal : ℕ → DispState
waits_signal s = state.Waits (wait.Signal (record { 0 = s }))

abbrev pub waits_csend : ℕ → DispState
waits_csend x = state.Waits (wait.Csend (record { 0 = x }))

abbrev pub waits_crecv : ℕ → DispState
waits_crecv x = state.Waits (wait.Crecv (record { 0 = x }))

abbrev pub ready : ℕ → List ℕ → ReportLine
ready b disps = said.Ready (block_no b) (record { items = map disp_no disps })

-- a capability: its slot, its kind, its rights and its parent's slot
abbrev pub cap : ℕ → ℕ → CapKind → ℕ → Option ℕ → ReportLine
cap b slot kind rights parent = said.Cap (block_no b) (slot_no slot) (record { kind = kind; rights = rights }) (option_map slot_no parent)

-- an armed timer: its deadline, its number, its signal and its value
abbrev pub timer : ℕ → ℕ → ℕ → ℕ → ℕ → ReportLine
timer b deadline number s value = said.Timer (block_no b) (record { deadline = deadline; number = number; signal = record { 0 = s }; value = value })

abbrev pub port : ℕ → ℕ → ℕ → ℕ → ℕ → ℕ → ReportLine
port b p w0 w1 w2 w3 = said.PortMessage (block_no b) (record { 0 = p }) (record { 0 = w0 ∷ w1 ∷ w2 ∷ w3 ∷ [] })

abbrev pub from_timer : Source
from_timer = source.Timer

abbrev pub from_line : ℕ → Source
from_line l = source.Line (record { 0 = l })

abbrev pub signal : ℕ → ℕ → Source → ℕ → ReportLine
signal b s by value = said.Signal (block_no b) (record { 0 = s }) (record { source = by; value = value })

-- a channel: how many messages were sent and taken
abbrev pub channel : ℕ → ℕ → ℕ → ReportLine
channel x sent taken = said.Channel (record { 0 = x }) sent taken

abbrev pub message : ℕ → ℕ → ℕ → ℕ → ℕ → ReportLine
message x w0 w1 w2 w3 = said.ChannelMessage (record { 0 = x }) (record { 0 = w0 ∷ w1 ∷ w2 ∷ w3 ∷ [] })

abbrev bound_no : ℕ × ℕ → BlockNo × SignalNo
bound_no to = (record { 0 = to.0 }, record { 0 = to.1 })

-- an interrupt line: its block and signal, its route, its raises, and what became of them: stray, pending, merged, latched, joined and delivered
abbrev pub wire : ℕ → Option (ℕ × ℕ) → Option ℕ → ℕ → ℕ → ℕ → ℕ → ℕ → ℕ → ℕ → ReportLine
wire l bound route raised stray pending merged latched joined delivered =
    said.Line (record { 0 = l }) (option_map bound_no bound) (option_map core_no route) raised stray pending merged latched joined delivered

abbrev pub offer : ℕ → ℕ → ℕ → ReportLine
offer l x rights = said.Offer (record { 0 = l }) (record { 0 = x }) rights

abbrev pub out : ℕ → ℕ → ReportLine
out b word = said.Out (block_no b) word
