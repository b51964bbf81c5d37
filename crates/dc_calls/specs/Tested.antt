-- What the tests of a call's capabilities come to: a fault, or what the call names.
use Rattle.std.specs.Prelude.{ℕ, Result, Ok, Err}
use Rattle.dc_base.specs.declared.numbers.ChanNo.{ChanNo}
use Rattle.dc_base.specs.declared.numbers.LineNo.{LineNo}
use Rattle.dc_base.specs.declared.numbers.SignalNo.{SignalNo}
use Rattle.dc_base.specs.declared.messages.Message.{Message}
use Rattle.dc_base.specs.Capabilities.{without_line}
use Rattle.dc_base.specs.Kernel.{Call, faults, sends, receives, binds, gives, claims}
use Rattle.dc_base.specs.Parts.{Parts}
use Rattle.dc_caps.specs.declared.faults.CapFault.{CapFault}
use Rattle.dc_caps.specs.Outcomes.{trap_of}
use Rattle.dc_calls.specs.declared.calls.tested.Gift.{Gift}

-- the call, where its tests name this
abbrev pub tested : {T : Type 0} → (T → Call) → Result T CapFault → Call
tested call (Ok x) = call x
tested call (Err e) = faults (trap_of e)

abbrev pub bind_tested : Parts → Result (LineNo × SignalNo) CapFault → Call
bind_tested p r = tested (λ (x : LineNo × SignalNo). binds x.0.0 x.1.0 p) r

-- every capability of the line goes
abbrev pub give_tested : Parts → Result Gift CapFault → Call
give_tested p r = tested (λ (x : Gift). gives x.line.0 x.channel.0 x.rights (record p { caps = without_line x.line.0 p.caps })) r

abbrev pub claim_tested : ℕ → ℕ → Parts → Result ChanNo CapFault → Call
claim_tested line slot p r = tested (λ (x : ChanNo). claims line x.0 slot p) r

abbrev pub csend_tested : Message → Parts → Result ChanNo CapFault → Call
csend_tested m p r = tested (λ (x : ChanNo). sends x.0 m p) r

abbrev pub crecv_tested : ℕ → Parts → Result ChanNo CapFault → Call
crecv_tested address p r = tested (λ (x : ChanNo). receives x.0 address p) r
