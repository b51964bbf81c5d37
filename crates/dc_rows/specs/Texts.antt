-- Schedules, entries and whole texts, written as they read.
use Prim.Native.String.{String}
use Rattle.std.specs.Prelude.{ℕ, Bool, List, codes, flat_map}
use Rattle.dc_base.specs.declared.actions.Actor.{Actor}
use Rattle.dc_base.specs.declared.actions.Actor.TheVariants as actor
use Rattle.dc_base.specs.declared.actions.Action.{Action}
use Rattle.dc_base.specs.declared.actions.Action.TheVariants as action
use Rattle.dc_base.specs.declared.kernels.Version.{Version}
use Rattle.dc_base.specs.declared.calls.End.{End}
use Rattle.dc_base.specs.declared.interrupts.Latched.{Latched}
use Rattle.dc_base.specs.declared.interrupts.Raised.{Raised}
use Rattle.dc_base.specs.declared.commands.Order.{Order}
use Rattle.dc_base.specs.declared.commands.Refusal.{Refusal}
use Rattle.dc_base.specs.declared.entries.Entry.{Entry}
use Rattle.dc_base.specs.declared.entries.What.TheVariants as what
use Rattle.dc_base.specs.Outcomes.{by_core, by_script}
use Rattle.dc_base.specs.TextWords.{ended}

-- a text by its lines
abbrev pub lines : List String → List ℕ
lines ws = flat_map (λ (w : String). ended (codes w)) ws

abbrev pub step : ℕ → Actor × Action
step c = (actor.Core (record { 0 = c }), action.Step)

abbrev pub order : ℕ → Actor × Action
order c = (actor.Core (record { 0 = c }), action.Order)

abbrev pub intake : ℕ → ℕ → Actor × Action
intake c l = (actor.Core (record { 0 = c }), action.Intake (record { 0 = l }))

abbrev pub wake : ℕ → ℕ → ℕ → Actor × Action
wake c b d = (actor.Core (record { 0 = c }), action.Wake (record { 0 = b }) (record { 0 = d }))

abbrev pub script : Actor × Action
script = (actor.Script, action.Script)

abbrev pub raise : Actor × Action
raise = (actor.Script, action.Raise)

abbrev pub slice : ℕ → ℕ → ℕ → ℕ → ℕ → End → ℕ → Entry
slice c b d fired ran e clock = by_core c (what.Slice (record { 0 = b }) (record { 0 = d }) fired ran e clock)

abbrev pub slice_none : ℕ → ℕ → ℕ → ℕ → Entry
slice_none c b fired clock = by_core c (what.SliceNone (record { 0 = b }) fired clock)

abbrev pub idle : ℕ → ℕ → Entry
idle c clock = by_core c (what.Idle clock)

abbrev pub woken : ℕ → ℕ → ℕ → Entry
woken c b d = by_core c (what.Wake (record { 0 = b }) (record { 0 = d }))

abbrev pub taken_in : ℕ → ℕ → ℕ → ℕ → ℕ → Latched → Entry
taken_in c l n b s how = by_core c (what.Intake (record { 0 = l }) n (record { 0 = b }) (record { 0 = s }) how)

abbrev pub start : ℕ → Version → ℕ → Entry
start c v clock = by_core c (what.Start v clock)

abbrev pub stop : ℕ → ℕ → Entry
stop c n = by_core c (what.Stop n)

abbrev pub replace : ℕ → Version → Entry
replace c v = by_core c (what.Replace v)

abbrev pub adopt : ℕ → ℕ → Bool → ℕ → Entry
adopt c b parked time = by_core c (what.Adopt (record { 0 = b }) parked time)

abbrev pub release : ℕ → ℕ → ℕ → Entry
release c b time = by_core c (what.Release (record { 0 = b }) time)

abbrev pub post : ℕ → ℕ → Order → Entry
post q c o = by_script (what.Post q (record { 0 = c }) o)

abbrev pub done : ℕ → Entry
done q = by_script (what.Done q)

abbrev pub refused : ℕ → Refusal → Entry
refused q r = by_script (what.Refused q r)

abbrev pub raised : ℕ → ℕ → Raised → Entry
raised q l r = by_script (what.Raise q (record { 0 = l }) r)

abbrev pub routed : ℕ → ℕ → ℕ → Entry
routed q l c = by_script (what.Route q (record { 0 = l }) (record { 0 = c }))

abbrev pub met : ℕ → ℕ → ℕ → Entry
met q b seen = by_script (what.Met q (record { 0 = b }) seen)

abbrev pub unmet : ℕ → ℕ → ℕ → Entry
unmet q b seen = by_script (what.Unmet q (record { 0 = b }) seen)
