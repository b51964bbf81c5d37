-- The lines of a report from one place on, and from the next.
use Rattle.std.proofs.Common.{◌≡◌, ℕ, ◌+◌, ◌≤◌, List, [], ◌∷◌, ◌++◌, Some, None, sym, ap, ◌∙◌, length, map, append_assoc, arith}
use Rattle.std.specs.Prelude.{slice_get}
use Rattle.dc_base.specs.declared.messages.Message.{Message}
use Rattle.dc_base.specs.declared.reports.ReportLine.{ReportLine}
use Rattle.dc_base.specs.declared.reports.ReportLine.TheVariants as line
use Rattle.dc_base.specs.Words.{elements}
use Rattle.dc_base.specs.Capabilities.{Seat}
use Rattle.dc_base.specs.Channels.{Ring}
use Rattle.dc_base.specs.Lines.{Wire}
use Rattle.dc_base.specs.Report.{block_no, core_line, core_lines, disp_lines, cap_line, port_lines, signal_lines, block_lines, channel_lines, offer_lines, line_lines, report_lines}
use Rattle.dc_base.specs.States.{State, Core, Block}
use Rattle.dc_base.specs.Timers.{in_order}
use Rattle.dc_base.specs.Words.{numbered}
use Rattle.dc_report.specs.Remaining.{from, from_within, part_lines, head_line, wire_line, rest_from, blocks_from, channels_from, untaken_from, lines_from, offer_from, outs_from, parts_from, seats_from, ready_line}
use Rattle.dc_report.specs.declared.places.Part.{Part}
use Rattle.dc_report.specs.declared.places.Part.TheVariants.{Disp}
use Rattle.dc_report.specs.declared.places.Place.TheVariants.{Core as CorePlace, Block as BlockPlace, Within, Channel, ChannelMessage, Line, Offer, Out}
use Rattle.dc_report.proofs.Drops.{drop_there, drop_over, from_there, from_over, from_started, within_there, within_passed, within_over}
use Rattle.dc_report.proofs.Slots.{all_from}

abbrev out_line : ℕ → ℕ → ReportLine
out_line b w = line.Out (block_no b) w

abbrev message_line : ℕ → ℕ → Message → ReportLine
message_line b p m = line.PortMessage (block_no b) (record { 0 = p }) m

-- the lines of a block are its first line and those of its parts
module _ (b : ℕ) (x : Block) where
  -- the lines of the parts, where the capabilities and the messages are these
  abbrev parts : List Seat → List ReportLine → List ReportLine
  parts caps messages = numbered (disp_lines b x) 0 x.control.states ++ ready_line b x ∷ (map (cap_line b) caps ++ (map (line.Timer (block_no b)) (in_order x.control.parts.timers) ++ (messages ++ numbered (signal_lines b) 0 x.control.parts.signals)))

  first_lines : (cores : List Core) → block_lines cores b x ≡ head_line cores b x ∷ part_lines b x (Disp 0)
  unfolding part_lines
  first_lines cores =
      let caps : seats_from 0 x.control.parts.caps ≡ x.control.parts.caps = all_from 0 x.control.parts.caps (λ i h e. (omega arith)) in
      let ports = from_started (message_line b) x.control.parts.ports 0 in
      let flat : block_lines cores b x ≡ head_line cores b x ∷ parts x.control.parts.caps (numbered (port_lines b) 0 x.control.parts.ports) = simp append_assoc in
      flat ∙ ap (λ l. head_line cores b x ∷ l) (sym (ap (λ c. parts c (from_within (port_lines b) 0 0 x.control.parts.ports)) caps ∙ ap (parts x.control.parts.caps) (sym ports)))

module _ (s : State) where
  pub core_told : (c : ℕ) (k : Core) → slice_get s.cores c ≡ Some k → rest_from s (CorePlace c) ≡ core_line c k k.version ∷ rest_from s (CorePlace (c + 1))
  unfolding rest_from
  core_told c k h = ap (λ l. l ++ blocks_from 0 s) (from_there core_lines s.cores c k h)

  pub cores_over : (c : ℕ) → slice_get s.cores c ≡ None → rest_from s (CorePlace c) ≡ rest_from s (BlockPlace 0)
  unfolding rest_from
  cores_over c h = ap (λ l. l ++ blocks_from 0 s) (from_over core_lines s.cores c h)

  pub block_told : (b : ℕ) (x : Block) → slice_get s.blocks b ≡ Some x → rest_from s (BlockPlace b) ≡ head_line s.cores b x ∷ rest_from s (Within b (Disp 0))
  unfolding rest_from
  block_told b x h =
      ap (λ l. l ++ channels_from 0 s) (from_there (block_lines s.cores) s.blocks b x h ∙ ap (λ l. l ++ from (block_lines s.cores) (b + 1) s.blocks) (first_lines b x s.cores))
      ∙ (ap (λ l. head_line s.cores b x ∷ l) (append_assoc (part_lines b x (Disp 0)) (from (block_lines s.cores) (b + 1) s.blocks) (channels_from 0 s))
      ∙ ap (λ o. head_line s.cores b x ∷ parts_from b (Disp 0) s o) (sym h))

  pub blocks_over : (b : ℕ) → slice_get s.blocks b ≡ None → rest_from s (BlockPlace b) ≡ rest_from s (Channel 0)
  unfolding rest_from
  blocks_over b h = ap (λ l. l ++ channels_from 0 s) (from_over (block_lines s.cores) s.blocks b h)

  pub part_told : (b : ℕ) (x : Block) (p q : Part) (l : ReportLine) → slice_get s.blocks b ≡ Some x → part_lines b x p ≡ l ∷ part_lines b x q → rest_from s (Within b p) ≡ l ∷ rest_from s (Within b q)
  unfolding rest_from
  part_told b x p q l h e = ap (parts_from b p s) h ∙ (ap (λ ls. ls ++ blocks_from (b + 1) s) e ∙ ap (λ o. l ∷ parts_from b q s o) (sym h))

  pub parts_over : (b : ℕ) (x : Block) (p : Part) → slice_get s.blocks b ≡ Some x → part_lines b x p ≡ [] → rest_from s (Within b p) ≡ rest_from s (BlockPlace (b + 1))
  unfolding rest_from
  parts_over b x p h e = ap (parts_from b p s) h ∙ ap (λ ls. ls ++ blocks_from (b + 1) s) e

  pub no_block : (b : ℕ) (p : Part) → slice_get s.blocks b ≡ None → rest_from s (Within b p) ≡ rest_from s (Channel 0)
  unfolding rest_from
  no_block b p h = ap (parts_from b p s) h

  pub channel_told : (x : ℕ) (r : Ring) → slice_get s.channels x ≡ Some r → rest_from s (Channel x) ≡ line.Channel (record { 0 = x }) r.sent r.taken ∷ rest_from s (ChannelMessage x 0)
  unfolding rest_from
  channel_told x r h =
      ap (λ l. l ++ lines_from 0 s) (from_there channel_lines s.channels x r h)
      ∙ (ap (λ l. line.Channel (record { 0 = x }) r.sent r.taken ∷ l) (append_assoc (map (line.ChannelMessage (record { 0 = x })) r.untaken) (from channel_lines (x + 1) s.channels) (lines_from 0 s))
      ∙ ap (λ o. line.Channel (record { 0 = x }) r.sent r.taken ∷ untaken_from x 0 s o) (sym h))

  pub channels_over : (x : ℕ) → slice_get s.channels x ≡ None → rest_from s (Channel x) ≡ rest_from s (Line 0)
  unfolding rest_from
  channels_over x h = ap (λ l. l ++ lines_from 0 s) (from_over channel_lines s.channels x h)

  pub untaken_told : (x i : ℕ) (r : Ring) (m : Message) → slice_get s.channels x ≡ Some r → slice_get r.untaken i ≡ Some m → rest_from s (ChannelMessage x i) ≡ line.ChannelMessage (record { 0 = x }) m ∷ rest_from s (ChannelMessage x (i + 1))
  unfolding rest_from
  untaken_told x i r m h e =
      ap (untaken_from x i s) h
      ∙ (ap (λ l. map (line.ChannelMessage (record { 0 = x })) l ++ channels_from (x + 1) s) (drop_there r.untaken i m e)
      ∙ ap (λ o. line.ChannelMessage (record { 0 = x }) m ∷ untaken_from x (i + 1) s o) (sym h))

  pub untaken_over : (x i : ℕ) (r : Ring) → slice_get s.channels x ≡ Some r → slice_get r.untaken i ≡ None → rest_from s (ChannelMessage x i) ≡ rest_from s (Channel (x + 1))
  unfolding rest_from
  untaken_over x i r h e = ap (untaken_from x i s) h ∙ ap (λ l. map (line.ChannelMessage (record { 0 = x })) l ++ channels_from (x + 1) s) (drop_over r.untaken i e)

  pub no_channel : (x i : ℕ) → slice_get s.channels x ≡ None → rest_from s (ChannelMessage x i) ≡ rest_from s (Line 0)
  unfolding rest_from
  no_channel x i h = ap (untaken_from x i s) h

  pub line_told : (l : ℕ) (w : Wire) → slice_get s.lines l ≡ Some w → rest_from s (Line l) ≡ wire_line s.blocks l w ∷ rest_from s (Offer l)
  unfolding rest_from
  line_told l w h =
      ap (λ ls. ls ++ outs_from 0 0 s) (from_there (line_lines s.blocks) s.lines l w h)
      ∙ (ap (λ ls. wire_line s.blocks l w ∷ ls) (append_assoc (offer_lines l w.offer) (from (line_lines s.blocks) (l + 1) s.lines) (outs_from 0 0 s))
      ∙ ap (λ o. wire_line s.blocks l w ∷ offer_from l s o) (sym h))

  pub lines_over : (l : ℕ) → slice_get s.lines l ≡ None → rest_from s (Line l) ≡ rest_from s (Out 0 0)
  unfolding rest_from
  lines_over l h = ap (λ ls. ls ++ outs_from 0 0 s) (from_over (line_lines s.blocks) s.lines l h)

  pub offer_told : (l : ℕ) (w : Wire) (o : ℕ × ℕ) → slice_get s.lines l ≡ Some w → w.offer ≡ Some o → rest_from s (Offer l) ≡ line.Offer (record { 0 = l }) (record { 0 = o.0 }) o.1 ∷ rest_from s (Line (l + 1))
  unfolding rest_from
  offer_told l w o h e = ap (offer_from l s) h ∙ ap (λ o. offer_lines l o ++ lines_from (l + 1) s) e

  pub no_offer : (l : ℕ) (w : Wire) → slice_get s.lines l ≡ Some w → w.offer ≡ None → rest_from s (Offer l) ≡ rest_from s (Line (l + 1))
  unfolding rest_from
  no_offer l w h e = ap (offer_from l s) h ∙ ap (λ o. offer_lines l o ++ lines_from (l + 1) s) e

  pub no_line : (l : ℕ) → slice_get s.lines l ≡ None → rest_from s (Offer l) ≡ rest_from s (Out 0 0)
  unfolding rest_from
  no_line l h = ap (offer_from l s) h

  pub out_told : (b i w : ℕ) → slice_get (elements (slice_get s.consoles b)) i ≡ Some w → rest_from s (Out b i) ≡ line.Out (block_no b) w ∷ rest_from s (Out b (i + 1))
  unfolding rest_from
  out_told b i w h = within_there out_line s.consoles b i w h

  pub out_passed : (b i : ℕ) → slice_get (elements (slice_get s.consoles b)) i ≡ None → rest_from s (Out b i) ≡ rest_from s (Out (b + 1) 0)
  unfolding rest_from
  out_passed b i h = within_passed out_line s.consoles b i h

  pub outs_over : (b i : ℕ) → length s.consoles ≤ b → rest_from s (Out b i) ≡ []
  unfolding rest_from
  outs_over b i h = within_over out_line s.consoles b i h

  -- from the start on it is the whole report
  pub whole : rest_from s (CorePlace 0) ≡ report_lines s
  unfolding rest_from report_lines
  whole = ap (λ ls. numbered core_lines 0 s.cores ++ (numbered (block_lines s.cores) 0 s.blocks ++ (numbered channel_lines 0 s.channels ++ (numbered (line_lines s.blocks) 0 s.lines ++ ls)))) (sym (from_started out_line s.consoles 0)) ∙ sym (simp append_assoc)
