-- Orders, refusals and raises in entries, written as their texts read.
use Rattle.std.specs.Prelude.{ℕ, Bool}
use Rattle.dc_base.specs.declared.kernels.Version.{Version}
use Rattle.dc_base.specs.declared.interrupts.Raised.{Raised}
use Rattle.dc_base.specs.declared.interrupts.Raised.TheVariants as how
use Rattle.dc_base.specs.declared.commands.Order.{Order}
use Rattle.dc_base.specs.declared.commands.Order.TheVariants as said
use Rattle.dc_base.specs.declared.commands.Refusal.{Refusal}
use Rattle.dc_base.specs.declared.commands.Refusal.TheVariants as why

abbrev pub start : Version → Order
start v = said.Start v

abbrev pub stop : Order
stop = said.Stop

abbrev pub replace : Version → Order
replace v = said.Replace v

abbrev pub adopt : ℕ → Bool → Order
adopt b parked = said.Adopt (record { 0 = b }) parked

abbrev pub release : ℕ → Order
release b = said.Release (record { 0 = b })

abbrev pub already_on : ℕ → Refusal
already_on c = why.AlreadyOn (record { 0 = c })

abbrev pub off : ℕ → Refusal
off c = why.Off (record { 0 = c })

abbrev pub same_version : ℕ → Version → Refusal
same_version c v = why.SameVersion (record { 0 = c }) v

abbrev pub not_at_rest : ℕ → ℕ → Refusal
not_at_rest b c = why.NotAtRest (record { 0 = b }) (record { 0 = c })

abbrev pub home_taken : ℕ → ℕ → Refusal
home_taken c b = why.HomeTaken (record { 0 = c }) (record { 0 = b })

abbrev pub not_home : ℕ → Refusal
not_home b = why.NotHome (record { 0 = b })

abbrev pub not_parked : ℕ → Refusal
not_parked b = why.NotParked (record { 0 = b })

abbrev pub on_that_core : ℕ → ℕ → Refusal
on_that_core b c = why.OnThatCore (record { 0 = b }) (record { 0 = c })

abbrev pub share_full : ℕ → Refusal
share_full c = why.ShareFull (record { 0 = c })

abbrev pub pending : ℕ → Raised
pending n = how.Pended n

abbrev pub coalesced : ℕ → Raised
coalesced n = how.Coalesced n

abbrev pub stray : ℕ → Raised
stray n = how.Stray n
