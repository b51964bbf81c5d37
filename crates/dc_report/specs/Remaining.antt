-- The lines of a report from a place on.
use Rattle.std.specs.Prelude.{ℕ, ◌+◌, ◌-◌, is_some, nat_le, List, ◌∷◌, ◌++◌, Option, Some, None, map, filter, length, drop, slice_get}
use Rattle.std.specs.Option.{option_map}
use Rattle.dc_base.specs.declared.reports.ReportLine.{ReportLine}
use Rattle.dc_base.specs.declared.reports.ReportLine.TheVariants as line
use Rattle.dc_base.specs.Words.{numbered, elements, count_of}
use Rattle.dc_base.specs.Capabilities.{Seat}
use Rattle.dc_base.specs.Timers.{in_order}
use Rattle.dc_base.specs.Channels.{Ring}
use Rattle.dc_base.specs.Lines.{Wire}
use Rattle.dc_base.specs.States.{State, Core, Block, core_in, time_of}
use Rattle.dc_base.specs.Report.{block_no, core_lines, disp_lines, cap_line, port_lines, signal_lines, block_lines, channel_lines, offer_lines, latches_of}
use Rattle.dc_base.specs.Report.{line_lines, out_lines}
use Rattle.dc_report.specs.declared.places.Part.{Part}
use Rattle.dc_report.specs.declared.places.Part.TheVariants as part
use Rattle.dc_report.specs.declared.places.Place.{Place}
use Rattle.dc_report.specs.declared.places.Place.TheVariants as place
use Rattle.dc_report.specs.declared.cursor.Report.{Report}

-- what f gives for the elements from number n on
abbrev pub from : {A B : Type 0} → (ℕ → A → List B) → ℕ → List A → List B
from f n xs = numbered f n (drop n xs)

-- what f gives for list p from its place i on, and for the lists after it
abbrev pub from_within : {A B : Type 0} → (ℕ → List A → List B) → ℕ → ℕ → List (List A) → List B
from_within f p i xss = f p (drop i (elements (slice_get xss p))) ++ from f (p + 1) xss

abbrev pub signals_from : ℕ → ℕ → Block → List ReportLine
signals_from b i x = from (signal_lines b) i x.control.parts.signals

abbrev pub messages_from : ℕ → ℕ → ℕ → Block → List ReportLine
messages_from b p i x = from_within (port_lines b) p i x.control.parts.ports ++ signals_from b 0 x

abbrev pub timers_from : ℕ → ℕ → Block → List ReportLine
timers_from b i x = map (line.Timer (block_no b)) (drop i (in_order x.control.parts.timers)) ++ messages_from b 0 0 x

-- the used slots from a number on
abbrev pub seats_from : ℕ → List Seat → List Seat
seats_from n caps = filter (λ (h : Seat). nat_le n h.slot) caps

abbrev pub caps_from : ℕ → ℕ → Block → List ReportLine
caps_from b n x = map (cap_line b) (seats_from n x.control.parts.caps) ++ timers_from b 0 x

-- the line of the ready list
abbrev pub ready_line : ℕ → Block → ReportLine
ready_line b x = line.Ready (block_no b) (record { items = map (λ d. record { 0 = d }) x.control.ready })

abbrev pub disps_from : ℕ → ℕ → Block → List ReportLine
disps_from b d x = from (disp_lines b x) d x.control.states ++ ready_line b x ∷ caps_from b 0 x

-- the lines of block b from a part on
unfoldable pub part_lines : ℕ → Block → Part → List ReportLine
part_lines b x (part.Disp d) = disps_from b d x
part_lines b x part.Ready = ready_line b x ∷ caps_from b 0 x
part_lines b x (part.Cap n) = caps_from b n x
part_lines b x (part.Timer i) = timers_from b i x
part_lines b x (part.PortMessage p i) = messages_from b p i x
part_lines b x (part.Signal i) = signals_from b i x

-- the first line of a block
abbrev pub head_line : List Core → ℕ → Block → ReportLine
head_line cores b x =
    line.Block (block_no b) (option_map (λ c. record { 0 = c }) (core_in x.whereabouts)) (time_of cores x.whereabouts) (length x.control.parts.timers)

abbrev pub outs_from : ℕ → ℕ → State → List ReportLine
outs_from b i s = from_within out_lines b i s.consoles

abbrev pub lines_from : ℕ → State → List ReportLine
lines_from l s = from (line_lines s.blocks) l s.lines ++ outs_from 0 0 s

-- the first line of an interrupt line
abbrev pub wire_line : List Block → ℕ → Wire → ReportLine
wire_line blocks l w =
    line.Line (record { 0 = l }) (option_map (λ (to : ℕ × ℕ). (block_no to.0, record { 0 = to.1 })) w.bound) (option_map (λ c. record { 0 = c }) w.route)
    w.counts.raised w.counts.stray (count_of (is_some w.pending)) w.counts.merged (latches_of l blocks) w.counts.joined (w.counts.given - latches_of l blocks)

-- the offer of line l, if it is there, and what comes after the line
abbrev pub offer_from : ℕ → State → Option Wire → List ReportLine
offer_from l s None = outs_from 0 0 s
offer_from l s (Some w) = offer_lines l w.offer ++ lines_from (l + 1) s

abbrev pub channels_from : ℕ → State → List ReportLine
channels_from x s = from channel_lines x s.channels ++ lines_from 0 s

-- the messages of channel x from place i on, if it is there, and what comes after the channel
abbrev pub untaken_from : ℕ → ℕ → State → Option Ring → List ReportLine
untaken_from x i s None = lines_from 0 s
untaken_from x i s (Some r) = map (line.ChannelMessage (record { 0 = x })) (drop i r.untaken) ++ channels_from (x + 1) s

abbrev pub blocks_from : ℕ → State → List ReportLine
blocks_from b s = from (block_lines s.cores) b s.blocks ++ channels_from 0 s

-- block b from a part on, if it is there, and what comes after the block
abbrev pub parts_from : ℕ → Part → State → Option Block → List ReportLine
parts_from b p s None = channels_from 0 s
parts_from b p s (Some x) = part_lines b x p ++ blocks_from (b + 1) s

-- the lines of the report of a state from a place on
unfoldable pub rest_from : State → Place → List ReportLine
rest_from s (place.Core c) = from core_lines c s.cores ++ blocks_from 0 s
rest_from s (place.Block b) = blocks_from b s
rest_from s (place.Within b p) = parts_from b p s (slice_get s.blocks b)
rest_from s (place.Channel x) = channels_from x s
rest_from s (place.ChannelMessage x i) = untaken_from x i s (slice_get s.channels x)
rest_from s (place.Line l) = lines_from l s
rest_from s (place.Offer l) = offer_from l s (slice_get s.lines l)
rest_from s (place.Out b i) = outs_from b i s

-- the lines that are still to come, where the report of this state has come so far
abbrev pub rest : Report → State → List ReportLine
rest r s = rest_from s r.place
