-- The parts of images, written short.
use Rattle.std.specs.Prelude.{ℕ, Option, Some, None}
use Rattle.dc_base.specs.declared.numbers.CoreNo.{CoreNo}
use Rattle.dc_base.specs.declared.kernels.Version.{Version}
use Rattle.dc_base.specs.declared.capabilities.CapKind.{CapKind}
use Rattle.dc_base.specs.declared.capabilities.CapKind.TheVariants as kind
use Rattle.dc_base.specs.declared.images.CoreImage.{CoreImage}
use Rattle.dc_base.specs.declared.images.CapImage.{CapImage}
use Rattle.dc_base.specs.declared.images.ChanImage.{ChanImage}

-- a core that is on, with the base of its clock
abbrev pub core : ℕ → Version → CoreImage
core base v = record { base = base; version = Some v }

abbrev pub core_off : ℕ → CoreImage
core_off base = record { base = base; version = None }

abbrev pub home : ℕ → Option CoreNo
home c = Some (record { 0 = c })

-- a capability with its slot and its rights
abbrev pub cap : ℕ → CapKind → ℕ → CapImage
cap slot k rights = record { slot = slot; cap = record { kind = k; rights = rights } }

abbrev pub ram : ℕ → ℕ → CapKind
ram first length = kind.Ram first length

abbrev pub frame : ℕ → ℕ → CapKind
frame first length = kind.Frame first length

abbrev pub port : ℕ → CapKind
port p = kind.Port (record { 0 = p })

abbrev pub signal : ℕ → CapKind
signal s = kind.Signal (record { 0 = s })

abbrev pub sendend : ℕ → CapKind
sendend x = kind.SendEnd (record { 0 = x })

abbrev pub recvend : ℕ → CapKind
recvend x = kind.RecvEnd (record { 0 = x })

abbrev pub line : ℕ → CapKind
line l = kind.Line (record { 0 = l })

-- a channel by its blocks and its capacity
abbrev pub channel : ℕ → ℕ → ℕ → ChanImage
channel sender receiver capacity = record { from = record { 0 = sender }; to = record { 0 = receiver }; capacity = capacity }
