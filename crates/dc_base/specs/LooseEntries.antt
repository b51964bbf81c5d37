-- The one entry that a line may spell, by its words, read loosely.
use Rattle.std.specs.Prelude.{ℕ, ◌^◌, List, if◌then◌else◌, drop, Option, Some, None, option_map}
use Rattle.dc_base.specs.declared.actions.Actor.TheVariants as actor
use Rattle.dc_base.specs.declared.calls.End.{End}
use Rattle.dc_base.specs.declared.calls.End.TheVariants as end
use Rattle.dc_base.specs.declared.interrupts.Latched.TheVariants as latched
use Rattle.dc_base.specs.declared.interrupts.Raised.{Raised}
use Rattle.dc_base.specs.declared.interrupts.Raised.TheVariants as raised
use Rattle.dc_base.specs.declared.commands.Order.{Order}
use Rattle.dc_base.specs.declared.commands.Order.TheVariants as order
use Rattle.dc_base.specs.declared.commands.Refusal.{Refusal}
use Rattle.dc_base.specs.declared.commands.Refusal.TheVariants as refusal
use Rattle.dc_base.specs.declared.entries.What.{What}
use Rattle.dc_base.specs.declared.entries.What.TheVariants as what
use Rattle.dc_base.specs.declared.entries.Entry.{Entry}
use Rattle.dc_base.specs.TextWords.{is_word}
use Rattle.dc_base.specs.LooseWords.{loose_number, word_at, number_at, last_number, op_of, version_of}

abbrev pub end_of : List ℕ → List ℕ → Option End
end_of word next =
    if is_word "quantum" word then Some end.Quantum
    else if is_word "halt" word then Some end.Halt
    else if is_word "trap" word then Some (end.Trap (loose_number (2 ^ 8) next))
    else if is_word "call" word then option_map end.Call (op_of next)
    else if is_word "hold" word then option_map end.Hold (op_of next)
    else None

-- what a core did, by the words behind the core's number
unfoldable pub core_what : List (List ℕ) → Option What
core_what ws =
    let verb = word_at ws 0 in
    if is_word "slice" verb then
    (if is_word "-" (word_at ws 2)
    then Some (what.SliceNone (record { 0 = number_at ws 1 }) (number_at ws 4) (last_number ws))
    else option_map (λ e. what.Slice (record { 0 = number_at ws 1 }) (record { 0 = number_at ws 2 }) (number_at ws 4) (number_at ws 6) e (last_number ws))
    (end_of (word_at ws 7) (word_at ws 8)))
    else if is_word "idle" verb then Some (what.Idle (last_number ws))
    else if is_word "wake" verb then Some (what.Wake (record { 0 = number_at ws 1 }) (record { 0 = number_at ws 2 }))
    else if is_word "intake" verb then
    Some (what.Intake (record { 0 = number_at ws 1 }) (number_at ws 2) (record { 0 = number_at ws 3 }) (record { 0 = number_at ws 4 })
    (if is_word "latched" (word_at ws 5) then latched.Latched else latched.Coalesced))
    else if is_word "start" verb then option_map (λ v. what.Start v (last_number ws)) (version_of (word_at ws 1))
    else if is_word "stop" verb then Some (what.Stop (number_at ws 1))
    else if is_word "replace" verb then option_map what.Replace (version_of (word_at ws 1))
    else if is_word "adopt" verb then Some (what.Adopt (record { 0 = number_at ws 1 }) (is_word "parked" (word_at ws 2)) (last_number ws))
    else if is_word "release" verb then Some (what.Release (record { 0 = number_at ws 1 }) (last_number ws))
    else None

-- the order, by the words from its name on
abbrev pub order_of : List (List ℕ) → Option Order
order_of ws =
    let verb = word_at ws 0 in
    if is_word "start" verb then option_map order.Start (version_of (word_at ws 1))
    else if is_word "stop" verb then Some order.Stop
    else if is_word "replace" verb then option_map order.Replace (version_of (word_at ws 1))
    else if is_word "adopt" verb then Some (order.Adopt (record { 0 = number_at ws 1 }) (is_word "parked" (word_at ws 2)))
    else if is_word "release" verb then Some (order.Release (record { 0 = number_at ws 1 }))
    else None

-- the refusal, by the words from its name on
abbrev pub refusal_of : List (List ℕ) → Option Refusal
refusal_of ws =
    let name = word_at ws 0 in
    if is_word "AlreadyOn" name then Some (refusal.AlreadyOn (record { 0 = number_at ws 1 }))
    else if is_word "Off" name then Some (refusal.Off (record { 0 = number_at ws 1 }))
    else if is_word "SameVersion" name then option_map (refusal.SameVersion (record { 0 = number_at ws 1 })) (version_of (word_at ws 2))
    else if is_word "NotAtRest" name then Some (refusal.NotAtRest (record { 0 = number_at ws 1 }) (record { 0 = number_at ws 2 }))
    else if is_word "HomeTaken" name then Some (refusal.HomeTaken (record { 0 = number_at ws 1 }) (record { 0 = number_at ws 2 }))
    else if is_word "NotHome" name then Some (refusal.NotHome (record { 0 = number_at ws 1 }))
    else if is_word "NotParked" name then Some (refusal.NotParked (record { 0 = number_at ws 1 }))
    else if is_word "OnThatCore" name then Some (refusal.OnThatCore (record { 0 = number_at ws 1 }) (record { 0 = number_at ws 2 }))
    else if is_word "ShareFull" name then Some (refusal.ShareFull (record { 0 = number_at ws 1 }))
    else None

abbrev pub raised_of : ℕ → List ℕ → Raised
raised_of n word =
    if is_word "pending" word then raised.Pended n
    else if is_word "coalesced" word then raised.Coalesced n
    else raised.Stray n

-- what the script did, by the words from the number of its line on
unfoldable pub script_what : List (List ℕ) → Option What
script_what ws =
    let place = number_at ws 0 in
    let verb = word_at ws 1 in
    if is_word "post" verb then option_map (what.Post place (record { 0 = number_at ws 2 })) (order_of (drop 3 ws))
    else if is_word "done" verb then Some (what.Done place)
    else if is_word "refused" verb then option_map (what.Refused place) (refusal_of (drop 3 ws))
    else if is_word "raise" verb then Some (what.Raise place (record { 0 = number_at ws 2 }) (raised_of (number_at ws 3) (word_at ws 4)))
    else if is_word "route" verb then Some (what.Route place (record { 0 = number_at ws 2 }) (record { 0 = number_at ws 3 }))
    else if is_word "met" verb then Some (what.Met place (record { 0 = number_at ws 2 }) (number_at ws 3))
    else if is_word "unmet" verb then Some (what.Unmet place (record { 0 = number_at ws 2 }) (number_at ws 3))
    else None

-- the one entry that a line with these words may spell
unfoldable pub candidate : List (List ℕ) → Option Entry
candidate ws =
    if is_word "core" (word_at ws 1) then option_map (λ w. record { actor = actor.Core (record { 0 = number_at ws 2 }); what = w }) (core_what (drop 3 ws))
    else if is_word "script" (word_at ws 1) then option_map (λ w. record { actor = actor.Script; what = w }) (script_what (drop 2 ws))
    else None
