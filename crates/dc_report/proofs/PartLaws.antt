-- The lines of a block from one part on, and from the next.
use Rattle.std.proofs.Common.{◌≡◌, ℕ, zero, suc, ◌+◌, ◌<◌, ◌≤◌, List, [], ◌∷◌, ◌++◌, Option, Some, None, refl, sym, ap, ◌∙◌, length, map, arith}
use Rattle.std.specs.Prelude.{slice_get, slice_index}
use Rattle.std.specs.Option.{option_map}
use Rattle.std.proofs.lemmas.Option.{slice_get_past}
use Rattle.dc_base.specs.declared.interrupts.Latch.{Latch}
use Rattle.dc_base.specs.declared.interrupts.Timer.{Timer}
use Rattle.dc_base.specs.declared.messages.Message.{Message}
use Rattle.dc_base.specs.declared.reports.ReportLine.{ReportLine}
use Rattle.dc_base.specs.declared.reports.ReportLine.TheVariants as line
use Rattle.dc_base.specs.Words.{Each, elements}
use Rattle.dc_base.specs.Capabilities.{Seat, seat_at}
use Rattle.dc_base.specs.KeptByBlocks.{HasShape, HasCaps}
use Rattle.dc_base.specs.Ports.{latch_at, latch_of}
use Rattle.dc_base.specs.Report.{block_no, disp_lines, cap_line, signal_lines}
use Rattle.dc_base.specs.States.{Block}
use Rattle.dc_base.specs.Timers.{in_order}
use Rattle.dc_isa.specs.declared.dispatchers.Dispatcher.{Dispatcher}
use Rattle.dc_kcb.specs.Readings.{disp_at}
use Rattle.dc_report.specs.Remaining.{from, part_lines, signals_from, messages_from, timers_from, caps_from, ready_line}
use Rattle.dc_report.specs.declared.places.Part.TheVariants.{Disp, Ready, Cap, Timer as TimerPart, PortMessage, Signal}
use Rattle.dc_report.proofs.DispParts.{disp_parts, no_disp}
use Rattle.dc_report.proofs.Drops.{drop_there, drop_over, from_there, from_over, from_passed, within_there, within_passed, within_over}
use Rattle.dc_report.proofs.Slots.{slot_there, slot_passed, none_from}

module _ (b : ℕ) (x : Block) where
  pub disp_told : (d : ℕ) (disp : Dispatcher) → disp_at x.control d ≡ Some disp → part_lines b x (Disp d) ≡ line.Disp (block_no b) (record { 0 = d }) disp.state disp.place disp.due ∷ part_lines b x (Disp (d + 1))
  unfolding part_lines
  disp_told d disp h =
      let is = disp_parts x.control d disp h in
      ap (λ l. l ++ ready_line b x ∷ caps_from b 0 x) (from_there (disp_lines b x) x.control.states d disp.state is.state)
      ∙ (ap (λ p. line.Disp (block_no b) (record { 0 = d }) disp.state p (slice_index x.control.dues d) ∷ part_lines b x (Disp (d + 1))) is.place
      ∙ ap (λ n. line.Disp (block_no b) (record { 0 = d }) disp.state disp.place n ∷ part_lines b x (Disp (d + 1))) is.due)

  pub disps_over : (d : ℕ) → HasShape x.control → disp_at x.control d ≡ None → part_lines b x (Disp d) ≡ part_lines b x Ready
  unfolding part_lines
  disps_over d shape h = ap (λ l. l ++ ready_line b x ∷ caps_from b 0 x) (from_over (disp_lines b x) x.control.states d (no_disp x.control d shape h))

  pub ready_told : part_lines b x Ready ≡ ready_line b x ∷ part_lines b x (Cap 0)
  unfolding part_lines
  ready_told = refl

  abbrev capped : List Seat → List ReportLine
  capped caps = map (cap_line b) caps ++ timers_from b 0 x

  cap_told : (n : ℕ) (h : Seat) → HasCaps x.control → seat_at x.control.parts.caps n ≡ Some h → part_lines b x (Cap n) ≡ cap_line b h ∷ part_lines b x (Cap (n + 1))
  unfolding part_lines
  cap_told n h caps e = ap capped (slot_there n x.control.parts.caps h caps.ascending e)

  cap_passed : (n : ℕ) → seat_at x.control.parts.caps n ≡ None → part_lines b x (Cap n) ≡ part_lines b x (Cap (n + 1))
  unfolding part_lines
  cap_passed n e = ap capped (slot_passed n x.control.parts.caps e)

  told_by : (n : ℕ) (l : ReportLine) → HasCaps x.control → (o : Option Seat) → seat_at x.control.parts.caps n ≡ o → Some l ≡ option_map (cap_line b) o → part_lines b x (Cap n) ≡ l ∷ part_lines b x (Cap (n + 1))
  told_by n l caps None e h = absurd cc
  told_by n l caps (Some seat) e h = let same : cap_line b seat ≡ l = cc in cap_told n seat caps e ∙ ap (λ k. k ∷ part_lines b x (Cap (n + 1))) same

  pub slot_told : (n : ℕ) (l : ReportLine) → HasCaps x.control → Some l ≡ option_map (cap_line b) (seat_at x.control.parts.caps n) → part_lines b x (Cap n) ≡ l ∷ part_lines b x (Cap (n + 1))
  slot_told n l caps h = told_by n l caps (seat_at x.control.parts.caps n) refl h

  empty_by : (n : ℕ) (o : Option Seat) → seat_at x.control.parts.caps n ≡ o → None ≡ option_map (cap_line b) o → part_lines b x (Cap n) ≡ part_lines b x (Cap (n + 1))
  empty_by n None e h = cap_passed n e
  empty_by n (Some seat) e h = absurd cc

  pub slot_empty : (n : ℕ) → None ≡ option_map (cap_line b) (seat_at x.control.parts.caps n) → part_lines b x (Cap n) ≡ part_lines b x (Cap (n + 1))
  slot_empty n h = empty_by n (seat_at x.control.parts.caps n) refl h

  pub caps_over : (n : ℕ) → HasShape x.control → HasCaps x.control → 256 ≤ n → part_lines b x (Cap n) ≡ part_lines b x (TimerPart 0)
  unfolding part_lines
  caps_over n shape caps over =
      let below : Each x.control.parts.caps (λ i (h : Seat). h.slot < n) = λ i h e. (let s = caps.slots i h e in let d = shape.disps in omega (arith, s, d, over)) in
      ap capped (none_from n x.control.parts.caps below)

  abbrev timed : List Timer → List ReportLine
  timed ts = map (line.Timer (block_no b)) ts ++ messages_from b 0 0 x

  pub timer_told : (i : ℕ) (t : Timer) → slice_get (in_order x.control.parts.timers) i ≡ Some t → part_lines b x (TimerPart i) ≡ line.Timer (block_no b) t ∷ part_lines b x (TimerPart (i + 1))
  unfolding part_lines
  timer_told i t e = ap timed (drop_there (in_order x.control.parts.timers) i t e)

  pub timers_over : (i : ℕ) → slice_get (in_order x.control.parts.timers) i ≡ None → part_lines b x (TimerPart i) ≡ part_lines b x (PortMessage 0 0)
  unfolding part_lines
  timers_over i e = ap timed (drop_over (in_order x.control.parts.timers) i e)

  abbrev message_line : ℕ → Message → ReportLine
  message_line p m = line.PortMessage (block_no b) (record { 0 = p }) m

  pub message_told : (p i : ℕ) (m : Message) → slice_get (elements (slice_get x.control.parts.ports p)) i ≡ Some m → part_lines b x (PortMessage p i) ≡ message_line p m ∷ part_lines b x (PortMessage p (i + 1))
  unfolding part_lines
  message_told p i m e = ap (λ l. l ++ signals_from b 0 x) (within_there message_line x.control.parts.ports p i m e)

  pub message_passed : (p i : ℕ) → slice_get (elements (slice_get x.control.parts.ports p)) i ≡ None → part_lines b x (PortMessage p i) ≡ part_lines b x (PortMessage (p + 1) 0)
  unfolding part_lines
  message_passed p i e = ap (λ l. l ++ signals_from b 0 x) (within_passed message_line x.control.parts.ports p i e)

  pub messages_over : (p i : ℕ) → HasShape x.control → 16 ≤ p → part_lines b x (PortMessage p i) ≡ part_lines b x (Signal 0)
  unfolding part_lines
  messages_over p i shape over = ap (λ l. l ++ signals_from b 0 x) (within_over message_line x.control.parts.ports p i (let n = shape.ports in omega (arith, n, over)))

  pub signal_told : (i : ℕ) (l : Latch) → latch_at x.control.parts.signals i ≡ Some l → part_lines b x (Signal i) ≡ line.Signal (block_no b) (record { 0 = i }) l ∷ part_lines b x (Signal (i + 1))
  unfolding part_lines
  signal_told i l e = from_there (signal_lines b) x.control.parts.signals i (Some l) (there_by (slice_get x.control.parts.signals i) e)
    where
      there_by : (o : Option (Option Latch)) → latch_of o ≡ Some l → o ≡ Some (Some l)
      there_by None h = absurd cc
      there_by (Some o) h = ap Some h

  passed_by : (i : ℕ) (o : Option (Option Latch)) → slice_get x.control.parts.signals i ≡ o → latch_of o ≡ None → from (signal_lines b) i x.control.parts.signals ≡ from (signal_lines b) (i + 1) x.control.parts.signals
  passed_by i None e h =
      let xs = x.control.parts.signals in
      from_over (signal_lines b) xs i e ∙ sym (from_over (signal_lines b) xs (i + 1) (slice_get_past xs (i + 1) (later xs i e)))
    where
      later : (xs : List (Option Latch)) (p : ℕ) → slice_get xs p ≡ None → length xs ≤ p + 1
      later [] p e = omega arith
      later (x ∷ xs) zero e = absurd cc
      later (x ∷ xs) (suc p) e = let h = later xs p e in omega (arith, h)
  passed_by i (Some None) e h = from_passed (signal_lines b) x.control.parts.signals i None e refl
  passed_by i (Some (Some l)) e h = absurd cc

  pub signal_passed : (i : ℕ) → latch_at x.control.parts.signals i ≡ None → part_lines b x (Signal i) ≡ part_lines b x (Signal (i + 1))
  unfolding part_lines
  signal_passed i h = passed_by i (slice_get x.control.parts.signals i) refl h

  pub signals_over : (i : ℕ) → HasShape x.control → 16 ≤ i → part_lines b x (Signal i) ≡ []
  unfolding part_lines
  signals_over i shape over = from_over (signal_lines b) x.control.parts.signals i (slice_get_past x.control.parts.signals i (let n = shape.signals in omega (arith, n, over)))
