-- The report of a sound state shows the state of blocks that it stands for.
use Rattle.std.proofs.Common.{◌≡◌, ℕ, ◌-◌, List, [], ◌∷◌, ◌++◌, Option, Some, None, refl, sym, ap, ◌∙◌, map, drop, length, arith}
use Rattle.std.specs.Prelude.{slice_get, filter_map, count_by, is_some}
use Rattle.std.specs.Option.{option_map}
use Rattle.std.proofs.lemmas.List.Elements.{filter_map-append}
use Rattle.std.proofs.lemmas.List.{length-map}
use Rattle.std.proofs.lemmas.Option.{slice_get_within}
use Rattle.dc_base.specs.declared.numbers.BlockNo.{BlockNo}
use Rattle.dc_base.specs.declared.numbers.SlotNo.{SlotNo}
use Rattle.dc_base.specs.declared.numbers.SignalNo.{SignalNo}
use Rattle.dc_base.specs.declared.messages.Message.{Message}
use Rattle.dc_base.specs.declared.kernels.Version.{Version}
use Rattle.dc_base.specs.declared.interrupts.Latch.{Latch}
use Rattle.dc_base.specs.declared.reports.ReportLine.{ReportLine}
use Rattle.dc_base.specs.declared.reports.ReportLine.TheVariants as line
use Rattle.dc_base.specs.Words.{numbered, count_of}
use Rattle.dc_base.specs.Capabilities.{Seat}
use Rattle.dc_base.specs.Timers.{in_order}
use Rattle.dc_base.specs.Channels.{Channel}
use Rattle.dc_base.specs.Lines.{Line, Wire, Counts, is_pending}
use Rattle.dc_base.specs.Blocks.{Blocks, Life}
use Rattle.dc_base.specs.Blocks as blocks
use Rattle.dc_base.specs.States.{State, Core, Block, core_in, time_of}
use Rattle.dc_base.specs.Shown.{ShownLine, block_line, disp_line, timer_line, port_line, signal_line, channel_line, message_line, line_line, offer_line, out_line, life_of, shown_by, shown_disp, shown_signal, shown_block, shown_channel, fates_of, is_stray, is_merged, is_latched, is_joined, is_delivered, shown_offer, shown_line, shown_outputs, shown, all_shown_by}
use Rattle.dc_base.specs.Shown as shows
use Rattle.dc_base.specs.Report.{block_no, core_line, core_lines, disp_lines, port_lines, signal_lines, block_lines, channel_lines, latches_of, offer_lines, line_lines, out_lines, report_lines}
use Rattle.dc_base.specs.Report as reports
use Rattle.dc_base.specs.StandsFor.{StandsFor, ring_of, counts_of}
use Rattle.dc_base.specs.Sound.{IsSound}
use Rattle.dc_refine.proofs.Elements.{same_at, there_below}
use Rattle.dc_refine.proofs.Stands.{plain, block_seen}
use Rattle.dc_refine.proofs.Fates.{kinds_counted}
use Rattle.dc_refine.proofs.LatchCounts.{latches-latched}
use Rattle.dc_refine.proofs.Numbered.{filter_map-numbered, numbered-alike, numbered-same, numbered-map, numbered-none, filter_map-map}

-- lines of a report show these lines
record Shows (xs : List ReportLine) (us : List ShownLine) : Type 0 where
  by : filter_map shown_by xs ≡ us

both_shown : {xs ys : List ReportLine} {us vs : List ShownLine} → Shows xs us → Shows ys vs → Shows (xs ++ ys) (us ++ vs)
both_shown {xs} {ys} {us} {vs} e f = record { by = filter_map-append shown_by xs ys ∙ ap (λ l. l ++ filter_map shown_by ys) e.by ∙ ap (λ l. us ++ l) f.by }

-- cores show nothing
core_shown : (c : ℕ) (k : Core) (o : Option Version) → filter_map shown_by (core_line c k o ∷ []) ≡ []
unfolding shown_by
core_shown c k None = refl
core_shown c k (Some v) = refl

-- a block's lines
parent_shown : (o : Option ℕ) → option_map (λ (p : SlotNo). p.0) (option_map (λ p. record { 0 = p }) o) ≡ o
parent_shown None = refl
parent_shown (Some p) = refl

cap_shown : (b : ℕ) (h : Seat) → shown_by (reports.cap_line b h) ≡ Some (shows.cap_line b h.slot h.cap h.parent)
unfolding shown_by
cap_shown b h = ap (λ o. Some (shows.cap_line b h.slot h.cap o)) (parent_shown h.parent)

signal_shown : (b i : ℕ) (o : Option Latch) → filter_map shown_by (signal_lines b i o) ≡ shown_signal b i o
unfolding shown_by
signal_shown b i None = refl
signal_shown b i (Some l) = refl

port_shown : (b p : ℕ) (ms : List Message) → filter_map shown_by (port_lines b p ms) ≡ map (port_line b p) ms
unfolding shown_by
port_shown b p ms = filter_map-map shown_by (λ m. line.PortMessage (block_no b) (record { 0 = p }) m) (port_line b p) (λ m. refl) ms

out_shown : (b : ℕ) (ws : List ℕ) → filter_map shown_by (out_lines b ws) ≡ map (out_line b) ws
unfolding shown_by
out_shown b ws = filter_map-map shown_by (line.Out (block_no b)) (out_line b) (λ w. refl) ws

module _ (b : ℕ) (x : Block) (time : ℕ) (ws : List ℕ) where
  abbrev y : blocks.Block
  y = plain time ws x.control

  disps_shown : filter_map shown_by (numbered (disp_lines b x) 0 x.control.states) ≡ numbered (shown_disp b y) 0 y.lives
  unfolding shown_by
  disps_shown = filter_map-numbered shown_by (disp_lines b x) 0 x.control.states ∙ sym (numbered-map (shown_disp b y) life_of 0 x.control.states)

  caps_shown : filter_map shown_by (map (reports.cap_line b) x.control.parts.caps) ≡ map (λ (h : Seat). shows.cap_line b h.slot h.cap h.parent) x.control.parts.caps
  caps_shown = filter_map-map shown_by (reports.cap_line b) (λ (h : Seat). shows.cap_line b h.slot h.cap h.parent) (cap_shown b) x.control.parts.caps

  timers_shown : filter_map shown_by (map (line.Timer (block_no b)) (in_order x.control.parts.timers)) ≡ map (timer_line b) (in_order x.control.parts.timers)
  unfolding shown_by
  timers_shown = filter_map-map shown_by (line.Timer (block_no b)) (timer_line b) (λ t. refl) (in_order x.control.parts.timers)

  ports_shown : filter_map shown_by (numbered (port_lines b) 0 x.control.parts.ports) ≡ numbered (λ p ms. map (port_line b p) ms) 0 x.control.parts.ports
  ports_shown = filter_map-numbered shown_by (port_lines b) 0 x.control.parts.ports ∙ numbered-same (λ p ms. filter_map shown_by (port_lines b p ms)) (λ p ms. map (port_line b p) ms) (port_shown b) 0 x.control.parts.ports

  signals_shown : filter_map shown_by (numbered (signal_lines b) 0 x.control.parts.signals) ≡ numbered (shown_signal b) 0 x.control.parts.signals
  signals_shown = filter_map-numbered shown_by (signal_lines b) 0 x.control.parts.signals ∙ numbered-same (λ i o. filter_map shown_by (signal_lines b i o)) (shown_signal b) (signal_shown b) 0 x.control.parts.signals

  ready_shown : (list : List ReportLine) → filter_map shown_by (line.Ready (block_no b) (record { items = map (λ d. record { 0 = d }) x.control.ready }) ∷ list) ≡ filter_map shown_by list
  unfolding shown_by
  ready_shown list = refl

  block_first : (cores : List Core) (list : List ReportLine) → time ≡ time_of cores x.whereabouts →
      filter_map shown_by (line.Block (block_no b) (option_map (λ c. record { 0 = c }) (core_in x.whereabouts)) (time_of cores x.whereabouts) (length x.control.parts.timers) ∷ list) ≡ block_line b time (length x.control.parts.timers) ∷ filter_map shown_by list
  unfolding shown_by
  block_first cores list e = ap (λ n. block_line b n (length x.control.parts.timers) ∷ filter_map shown_by list) (sym e)

  -- the lines of a block
  pub block_shown : (cores : List Core) → time ≡ time_of cores x.whereabouts → filter_map shown_by (block_lines cores b x) ≡ shown_block b (plain time ws x.control)
  block_shown cores e =
      let first : Shows (line.Block (block_no b) (option_map (λ c. record { 0 = c }) (core_in x.whereabouts)) (time_of cores x.whereabouts) (length x.control.parts.timers) ∷ numbered (disp_lines b x) 0 x.control.states) (block_line b time (length x.control.parts.timers) ∷ numbered (shown_disp b y) 0 y.lives) =
      record { by = block_first cores (numbered (disp_lines b x) 0 x.control.states) e ∙ ap (λ l. block_line b time (length x.control.parts.timers) ∷ l) disps_shown } in
      let caps : Shows (line.Ready (block_no b) (record { items = map (λ d. record { 0 = d }) x.control.ready }) ∷ map (reports.cap_line b) x.control.parts.caps) (map (λ (h : Seat). shows.cap_line b h.slot h.cap h.parent) x.control.parts.caps) =
      record { by = ready_shown (map (reports.cap_line b) x.control.parts.caps) ∙ caps_shown } in
      let timers : Shows (map (line.Timer (block_no b)) (in_order x.control.parts.timers)) (map (timer_line b) (in_order x.control.parts.timers)) = record { by = timers_shown } in
      let ports : Shows (numbered (port_lines b) 0 x.control.parts.ports) (numbered (λ p ms. map (port_line b p) ms) 0 x.control.parts.ports) = record { by = ports_shown } in
      let signals : Shows (numbered (signal_lines b) 0 x.control.parts.signals) (numbered (shown_signal b) 0 x.control.parts.signals) = record { by = signals_shown } in
      (both_shown (both_shown (both_shown (both_shown first caps) timers) ports) signals).by

-- a channel's lines
channel_shown : (x : ℕ) (c : Channel) → filter_map shown_by (channel_lines x (ring_of c)) ≡ shown_channel x c
unfolding shown_by
channel_shown x c = ap (λ l. channel_line x (length c.messages) c.taken ∷ l) (filter_map-map shown_by (line.ChannelMessage (record { 0 = x })) (message_line x) (λ m. refl) (drop c.taken c.messages))

-- a line's lines
bound_shown : (o : Option (ℕ × ℕ)) → option_map (λ (to : BlockNo × SignalNo). (to.0.0, to.1.0)) (option_map (λ (to : ℕ × ℕ). (block_no to.0, record { 0 = to.1 })) o) ≡ o
bound_shown None = refl
bound_shown (Some to) = refl

offer_shown : (l : ℕ) (o : Option (ℕ × ℕ)) → filter_map shown_by (offer_lines l o) ≡ shown_offer l o
unfolding shown_by
offer_shown l None = refl
offer_shown l (Some o) = refl

module _ (s : State) (t : Blocks) (sound : IsSound s) (stands : StandsFor s t) where
  module _ (l : ℕ) (w : Wire) (x : Line) (wire_at : slice_get s.lines l ≡ Some w) (line_at : slice_get t.lines l ≡ Some x) where
    counts : w.counts ≡ counts_of x.fates
    counts = same_at (λ (w : Wire). w.counts) (λ (x : Line). counts_of x.fates) s.lines t.lines l w x stands.lines.counts wire_at line_at

    bound : w.bound ≡ x.bound
    bound = same_at (λ (w : Wire). w.bound) (λ (x : Line). x.bound) s.lines t.lines l w x stands.lines.bindings wire_at line_at

    offer : w.offer ≡ x.offer
    offer = same_at (λ (w : Wire). w.offer) (λ (x : Line). x.offer) s.lines t.lines l w x stands.lines.offers wire_at line_at

    now_latched : latches_of l s.blocks ≡ count_by is_latched x.fates
    now_latched = latches-latched s t stands.blocks.parts stands.latches l x line_at

    now_pending : count_of (is_some w.pending) ≡ count_by is_pending x.fates
    now_pending =
        let c = sound.counts l w wire_at in
        let k = kinds_counted x.fates in
        let r : w.counts.raised ≡ length x.fates = ap (λ (c : Counts). c.raised) counts in
        let a = ap (λ (c : Counts). c.stray) counts in let b = ap (λ (c : Counts). c.merged) counts in let d = ap (λ (c : Counts). c.given) counts in let e = ap (λ (c : Counts). c.joined) counts in
        omega (arith, c, k, r, a, b, d, e)

    now_delivered : w.counts.given - latches_of l s.blocks ≡ count_by is_delivered x.fates
    now_delivered = let d = ap (λ (c : Counts). c.given) counts in let e = now_latched in omega (arith, d, e)

    fates_shown : record { raised = w.counts.raised; stray = w.counts.stray; pending = count_of (is_some w.pending); merged = w.counts.merged; latched = latches_of l s.blocks; joined = w.counts.joined; delivered = w.counts.given - latches_of l s.blocks } ≡ fates_of x.fates
    unfolding fates_of
    fates_shown =
        ap (λ (c : Counts). record { raised = c.raised; stray = c.stray; pending = count_of (is_some w.pending); merged = c.merged; latched = latches_of l s.blocks; joined = c.joined; delivered = w.counts.given - latches_of l s.blocks }) counts
        ∙ ap (λ n. record { raised = length x.fates; stray = count_by is_stray x.fates; pending = n; merged = count_by is_merged x.fates; latched = latches_of l s.blocks; joined = count_by is_joined x.fates; delivered = w.counts.given - latches_of l s.blocks }) now_pending
        ∙ ap (λ n. record { raised = length x.fates; stray = count_by is_stray x.fates; pending = count_by is_pending x.fates; merged = count_by is_merged x.fates; latched = latches_of l s.blocks; joined = count_by is_joined x.fates; delivered = n }) now_delivered
        ∙ ap (λ n. record { raised = length x.fates; stray = count_by is_stray x.fates; pending = count_by is_pending x.fates; merged = count_by is_merged x.fates; latched = n; joined = count_by is_joined x.fates; delivered = count_by is_delivered x.fates }) now_latched

    line_shown : filter_map shown_by (line_lines s.blocks l w) ≡ shown_line l x
    unfolding shown_by
    line_shown =
        ap (λ o. line_line l o (record { raised = w.counts.raised; stray = w.counts.stray; pending = count_of (is_some w.pending); merged = w.counts.merged; latched = latches_of l s.blocks; joined = w.counts.joined; delivered = w.counts.given - latches_of l s.blocks }) ∷ filter_map shown_by (offer_lines l w.offer)) (bound_shown w.bound ∙ bound)
        ∙ ap (λ f. line_line l x.bound f ∷ filter_map shown_by (offer_lines l w.offer)) fates_shown
        ∙ ap (λ v. line_line l x.bound (fates_of x.fates) ∷ v) (offer_shown l w.offer ∙ ap (shown_offer l) offer)

  -- the lines of cores, blocks, channels, lines and consoles
  blocks_alike : length s.blocks ≡ length t.blocks
  blocks_alike = sym (length-map s.blocks (λ (x : Block). x.control.parts)) ∙ ap length (sym stands.blocks.parts) ∙ length-map t.blocks (λ (x : blocks.Block). x.parts)

  consoles_alike : length s.consoles ≡ length s.blocks
  consoles_alike = sound.settled.consoles ∙ sym sound.settled.blocks

  block_there : (b : ℕ) (x : Block) (y : blocks.Block) → slice_get s.blocks b ≡ Some x → slice_get t.blocks b ≡ Some y → filter_map shown_by (block_lines s.cores b x) ≡ shown_block b y
  block_there b x y at seen =
      let console = there_below s.consoles b (let h = slice_get_within s.blocks b x at in omega (arith, h, consoles_alike)) in
      let is : Some (plain (time_of s.cores x.whereabouts) console.0 x.control) ≡ Some y = sym (block_seen s t stands b x console.0 at console.1) ∙ seen in
      block_shown b x (time_of s.cores x.whereabouts) console.0 s.cores refl ∙ (let e : plain (time_of s.cores x.whereabouts) console.0 x.control ≡ y = cc in ap (shown_block b) e)

  blocks_shown : filter_map shown_by (numbered (block_lines s.cores) 0 s.blocks) ≡ numbered shown_block 0 t.blocks
  blocks_shown =
      filter_map-numbered shown_by (block_lines s.cores) 0 s.blocks
      ∙ numbered-alike (λ b x. filter_map shown_by (block_lines s.cores b x)) shown_block 0 s.blocks t.blocks blocks_alike
      (λ i b x y e p q. let f : i ≡ b = omega (arith, e) in block_there b x y (ap (slice_get s.blocks) (sym f) ∙ p) (ap (slice_get t.blocks) (sym f) ∙ q))

  cores_shown : filter_map shown_by (numbered core_lines 0 s.cores) ≡ []
  cores_shown = filter_map-numbered shown_by core_lines 0 s.cores ∙ numbered-none (λ c k. filter_map shown_by (core_lines c k)) (λ c k. core_shown c k k.version) 0 s.cores

  channels_shown : filter_map shown_by (numbered channel_lines 0 s.channels) ≡ numbered shown_channel 0 t.channels
  channels_shown =
      ap (λ l. filter_map shown_by (numbered channel_lines 0 l)) stands.channels
      ∙ filter_map-numbered shown_by channel_lines 0 (map ring_of t.channels)
      ∙ numbered-map (λ x r. filter_map shown_by (channel_lines x r)) ring_of 0 t.channels
      ∙ numbered-same (λ x c. filter_map shown_by (channel_lines x (ring_of c))) shown_channel channel_shown 0 t.channels

  lines_alike : length s.lines ≡ length t.lines
  lines_alike = sym (length-map s.lines (λ (w : Wire). w.bound)) ∙ ap length stands.lines.bindings ∙ length-map t.lines (λ (x : Line). x.bound)

  lines_shown : filter_map shown_by (numbered (line_lines s.blocks) 0 s.lines) ≡ numbered shown_line 0 t.lines
  lines_shown =
      filter_map-numbered shown_by (line_lines s.blocks) 0 s.lines
      ∙ numbered-alike (λ l w. filter_map shown_by (line_lines s.blocks l w)) shown_line 0 s.lines t.lines lines_alike
      (λ i l w x e p q. let f : i ≡ l = omega (arith, e) in line_shown l w x (ap (slice_get s.lines) (sym f) ∙ p) (ap (slice_get t.lines) (sym f) ∙ q))

  outputs_shown : filter_map shown_by (numbered out_lines 0 s.consoles) ≡ numbered shown_outputs 0 t.blocks
  outputs_shown =
      filter_map-numbered shown_by out_lines 0 s.consoles
      ∙ numbered-same (λ b ws. filter_map shown_by (out_lines b ws)) (λ b ws. map (out_line b) ws) out_shown 0 s.consoles
      ∙ ap (numbered (λ b ws. map (out_line b) ws) 0) (sym stands.blocks.outputs)
      ∙ numbered-map (λ b ws. map (out_line b) ws) (λ (x : blocks.Block). x.output) 0 t.blocks

  -- the report shows the state of blocks
  pub report_shows : all_shown_by (report_lines s) ≡ shown t
  unfolding all_shown_by report_lines shown
  report_shows =
      let cores : Shows (numbered core_lines 0 s.cores) [] = record { by = cores_shown } in
      let blocks : Shows (numbered (block_lines s.cores) 0 s.blocks) (numbered shown_block 0 t.blocks) = record { by = blocks_shown } in
      let channels : Shows (numbered channel_lines 0 s.channels) (numbered shown_channel 0 t.channels) = record { by = channels_shown } in
      let lines : Shows (numbered (line_lines s.blocks) 0 s.lines) (numbered shown_line 0 t.lines) = record { by = lines_shown } in
      let outputs : Shows (numbered out_lines 0 s.consoles) (numbered shown_outputs 0 t.blocks) = record { by = outputs_shown } in
      (both_shown (both_shown (both_shown (both_shown cores blocks) channels) lines) outputs).by
