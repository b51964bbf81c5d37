-- The two slots that a message goes between.
use Rattle.std.specs.Prelude.{ℕ, Bool, Result, Ok, Err}
use Rattle.dc_base.specs.declared.capabilities.CapKind.{CapKind}
use Rattle.dc_base.specs.declared.capabilities.CapKind.TheVariants as kind
use Rattle.dc_base.specs.declared.numbers.SignalNo.{SignalNo}
use Rattle.dc_base.specs.Capabilities.{is_port, is_send_end, is_recv_end, read_right, write_right}
use Rattle.dc_base.specs.Kernel.{Call, faults}
use Rattle.dc_caps.specs.declared.faults.CapFault.{CapFault}
use Rattle.dc_caps.specs.Outcomes.{trap_of}
use Rattle.dc_calls.specs.declared.calls.ends.Way.{Way}
use Rattle.dc_calls.specs.declared.calls.ends.Way.TheVariants as way
use Rattle.dc_calls.specs.declared.calls.ends.Between.{Between}

-- the end that a call needs
abbrev pub is_end : Way → CapKind → Bool
is_end way.Send k = is_port k
is_end way.Recv k = is_port k
is_end way.Csend k = is_send_end k
is_end way.Crecv k = is_recv_end k

-- such an end of this port or channel
abbrev pub end_kind : Way → ℕ → CapKind
end_kind way.Send n = kind.Port (record { 0 = n })
end_kind way.Recv n = kind.Port (record { 0 = n })
end_kind way.Csend n = kind.SendEnd (record { 0 = n })
end_kind way.Crecv n = kind.RecvEnd (record { 0 = n })

-- a send writes to its end, and a receive reads from it
abbrev pub end_right : Way → ℕ
end_right way.Send = write_right
end_right way.Recv = read_right
end_right way.Csend = write_right
end_right way.Crecv = read_right

-- a send reads its frame, and a receive writes to it
abbrev pub frame_right : Way → ℕ
frame_right way.Send = read_right
frame_right way.Recv = write_right
frame_right way.Csend = read_right
frame_right way.Crecv = write_right

-- the call, where both slots allow it
abbrev pub allowed : Result Between CapFault → Call → Call
allowed (Ok r) call = call
allowed (Err e) call = faults (trap_of e)

-- the call on the signal, where the slot allows it
abbrev pub on_signal : Result SignalNo CapFault → (ℕ → Call) → Call
on_signal (Ok s) call = call s.0
on_signal (Err e) call = faults (trap_of e)
