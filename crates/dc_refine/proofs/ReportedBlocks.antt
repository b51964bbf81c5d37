-- The report tells of each block once, with the core that it is on.
use Rattle.std.proofs.Common.{◌≡◌, ℕ, zero, suc, ◌+◌, ◌<◌, ◌≤◌, List, [], ◌∷◌, ◌++◌, true, false, Option, Some, None, refl, sym, ap, ◌∙◌, map, length, arith}
use Rattle.std.specs.Prelude.{filter_map, ◌==◌, if◌then◌else◌}
use Rattle.std.specs.List.{range_with_len}
use Rattle.std.specs.Option.{option_map}
use Rattle.std.proofs.lemmas.List.Elements.{filter_map-append}
use Rattle.std.proofs.lemmas.Bool.Decides.{nat_tests}
use Rattle.dc_base.specs.declared.numbers.CoreNo.{CoreNo}
use Rattle.dc_base.specs.declared.kernels.Version.{Version}
use Rattle.dc_base.specs.declared.interrupts.Latch.{Latch}
use Rattle.dc_base.specs.declared.reports.ReportLine.{ReportLine}
use Rattle.dc_base.specs.declared.reports.ReportLine.TheVariants as line
use Rattle.dc_base.specs.Words.{numbered}
use Rattle.dc_base.specs.Timers.{in_order}
use Rattle.dc_base.specs.Channels.{Ring}
use Rattle.dc_base.specs.Lines.{Wire}
use Rattle.dc_base.specs.States.{State, Core, Block, Whereabouts, rest, on, core_in}
use Rattle.dc_base.specs.Report.{block_no, core_line, core_lines, disp_lines, cap_line, port_lines, signal_lines, block_lines, channel_lines, offer_lines, line_lines, out_lines, report_lines}
use Rattle.dc_base.specs.Headline.{Holding, holding_in, blocks_reported, holder_of}
use Rattle.dc_base.specs.Telling.{with_holder, holders_from}
use Rattle.dc_refine.proofs.CoreStarts.{map_map}
use Rattle.dc_refine.proofs.Numbered.{filter_map-numbered, numbered-same, numbered-none}

-- lines that tell of no block
record TellsNone (xs : List ReportLine) : Type 0 where
  by : filter_map holding_in xs ≡ []

none_both : {xs ys : List ReportLine} → TellsNone xs → TellsNone ys → TellsNone (xs ++ ys)
none_both {xs} {ys} e f = record { by = filter_map-append holding_in xs ys ∙ ap (λ l. l ++ filter_map holding_in ys) e.by ∙ f.by }

none_map : {A : Type 0} (f : A → ReportLine) → ((x : A) → holding_in (f x) ≡ None) → (xs : List A) → filter_map holding_in (map f xs) ≡ []
none_map f h [] = refl
none_map f h (x ∷ xs) = rw (h x) (none_map f h xs)

none_numbered : {A : Type 0} (f : ℕ → A → List ReportLine) → ((b : ℕ) (x : A) → filter_map holding_in (f b x) ≡ []) → (n : ℕ) (xs : List A) → filter_map holding_in (numbered f n xs) ≡ []
none_numbered f h n xs = filter_map-numbered holding_in f n xs ∙ numbered-none (λ b x. filter_map holding_in (f b x)) h n xs

core_none : (c : ℕ) (k : Core) (o : Option Version) → filter_map holding_in (core_line c k o ∷ []) ≡ []
core_none c k None = refl
core_none c k (Some v) = refl

signal_none : (b i : ℕ) (o : Option Latch) → filter_map holding_in (signal_lines b i o) ≡ []
signal_none b i None = refl
signal_none b i (Some l) = refl

offer_none : (l : ℕ) (o : Option (ℕ × ℕ)) → filter_map holding_in (offer_lines l o) ≡ []
offer_none l None = refl
offer_none l (Some o) = refl

core_told : (o : Option ℕ) → option_map (λ (c : CoreNo). c.0) (option_map (λ c. record { 0 = c }) o) ≡ o
core_told None = refl
core_told (Some c) = refl

abbrev holding : ℕ → Block → Holding
holding b x = (b, core_in x.whereabouts)

-- the lines of a block tell of it, and of nothing else
block_told : (cores : List Core) (b : ℕ) (x : Block) → filter_map holding_in (block_lines cores b x) ≡ holding b x ∷ []
block_told cores b x =
    let disps : TellsNone (numbered (disp_lines b x) 0 x.control.states) = record { by = none_numbered (disp_lines b x) (λ d state. refl) 0 x.control.states } in
    let caps : TellsNone (line.Ready (block_no b) (record { items = map (λ d. record { 0 = d }) x.control.ready }) ∷ map (cap_line b) x.control.parts.caps) = record { by = none_map (cap_line b) (λ h. refl) x.control.parts.caps } in
    let timers : TellsNone (map (line.Timer (block_no b)) (in_order x.control.parts.timers)) = record { by = none_map (line.Timer (block_no b)) (λ t. refl) (in_order x.control.parts.timers) } in
    let ports : TellsNone (numbered (port_lines b) 0 x.control.parts.ports) = record { by = none_numbered (port_lines b) (λ p ms. none_map (λ m. line.PortMessage (block_no b) (record { 0 = p }) m) (λ m. refl) ms) 0 x.control.parts.ports } in
    let signals : TellsNone (numbered (signal_lines b) 0 x.control.parts.signals) = record { by = none_numbered (signal_lines b) (signal_none b) 0 x.control.parts.signals } in
    let all = none_both (none_both (none_both (none_both disps caps) timers) ports) signals in
    ap (λ l. (b, option_map (λ (c : CoreNo). c.0) (option_map (λ c. record { 0 = c }) (core_in x.whereabouts))) ∷ l) all.by
    ∙ ap (λ o. (b, o) ∷ []) (core_told (core_in x.whereabouts))

channel_none : (x : ℕ) (r : Ring) → filter_map holding_in (channel_lines x r) ≡ []
channel_none x r = none_map (line.ChannelMessage (record { 0 = x })) (λ m. refl) r.untaken

line_none : (blocks : List Block) (l : ℕ) (w : Wire) → filter_map holding_in (line_lines blocks l w) ≡ []
line_none blocks l w = offer_none l w.offer

out_none : (b : ℕ) (ws : List ℕ) → filter_map holding_in (out_lines b ws) ≡ []
out_none b ws = none_map (line.Out (block_no b)) (λ w. refl) ws

none_behind : (xs ys : List ReportLine) (hs : List Holding) → filter_map holding_in xs ≡ hs → filter_map holding_in ys ≡ [] → filter_map holding_in (xs ++ ys) ≡ hs
none_behind xs ys hs e f = filter_map-append holding_in xs ys ∙ ap (λ l. l ++ filter_map holding_in ys) e ∙ ap (λ l. hs ++ l) f ∙ append_nil hs
  where
    append_nil : (hs : List Holding) → hs ++ [] ≡ hs
    append_nil [] = refl
    append_nil (h ∷ hs) = ap (λ l. h ∷ l) (append_nil hs)

none_before : (xs ys : List ReportLine) (hs : List Holding) → filter_map holding_in xs ≡ [] → filter_map holding_in ys ≡ hs → filter_map holding_in (xs ++ ys) ≡ hs
none_before xs ys hs e f = filter_map-append holding_in xs ys ∙ ap (λ l. l ++ filter_map holding_in ys) e ∙ f

module _ (s : State) where
  told_blocks : filter_map holding_in (numbered (block_lines s.cores) 0 s.blocks) ≡ numbered (λ b x. holding b x ∷ []) 0 s.blocks
  told_blocks = filter_map-numbered holding_in (block_lines s.cores) 0 s.blocks ∙ numbered-same (λ b x. filter_map holding_in (block_lines s.cores b x)) (λ b x. holding b x ∷ []) (block_told s.cores) 0 s.blocks

  pub reported : blocks_reported (report_lines s) ≡ numbered (λ b x. (b, core_in x.whereabouts) ∷ []) 0 s.blocks
  unfolding blocks_reported report_lines
  reported =
      let hs : List Holding = numbered (λ b x. holding b x ∷ []) 0 s.blocks in
      let cores : List ReportLine = numbered core_lines 0 s.cores in
      let blocks : List ReportLine = numbered (block_lines s.cores) 0 s.blocks in
      let channels : List ReportLine = numbered channel_lines 0 s.channels in
      let lines : List ReportLine = numbered (line_lines s.blocks) 0 s.lines in
      let outputs : List ReportLine = numbered out_lines 0 s.consoles in
      none_behind (cores ++ blocks ++ channels ++ lines) outputs hs
      (none_behind (cores ++ blocks ++ channels) lines hs
      (none_behind (cores ++ blocks) channels hs
      (none_before cores blocks hs (none_numbered core_lines (λ c k. core_none c k k.version) 0 s.cores) told_blocks)
      (none_numbered channel_lines channel_none 0 s.channels))
      (none_numbered (line_lines s.blocks) (line_none s.blocks) 0 s.lines))
      (none_numbered out_lines out_none 0 s.consoles)

-- the told holders say the same
map_range : {A : Type 0} (f g : ℕ → A) (n m : ℕ) → ((b : ℕ) → n ≤ b → f b ≡ g b) → map f (range_with_len n m) ≡ map g (range_with_len n m)
map_range f g n zero h = refl
map_range f g n (suc m) h = ap (λ v. v ∷ map f (range_with_len (n + 1) m)) (h n (omega arith)) ∙ ap (λ l. g n ∷ l) (map_range f g (n + 1) m (λ b k. h b (omega (arith, k))))

other_first : (n b : ℕ) (w : Whereabouts) (ps : List (ℕ × ℕ)) → n < b → holder_of (with_holder n w ps) b ≡ holder_of ps b
other_first n b (rest kept) ps h = refl
other_first n b (on d z v) ps h = let e : (n == b) ≡ false = grind (arith, nat_tests) in ap (λ t. if t then Some d else holder_of ps b) e

none_later_by : (n b : ℕ) (w : Whereabouts) (ps : List (ℕ × ℕ)) → b < n → holder_of ps b ≡ None → holder_of (with_holder n w ps) b ≡ None
none_later_by n b (rest kept) ps h e = e
none_later_by n b (on d z v) ps h e = (let f : (n == b) ≡ false = grind (arith, nat_tests) in ap (λ t. if t then Some d else holder_of ps b) f) ∙ e

none_later : (n b : ℕ) (xs : List Block) → b < n → holder_of (holders_from n xs) b ≡ None
none_later n b [] h = refl
none_later n b (x ∷ xs) h = none_later_by n b x.whereabouts (holders_from (n + 1) xs) h (none_later (n + 1) b xs (omega (arith, h)))

first_holder : (n : ℕ) (w : Whereabouts) (xs : List Block) → holder_of (with_holder n w (holders_from (n + 1) xs)) n ≡ core_in w
first_holder n (rest kept) xs = none_later (n + 1) n xs (omega arith)
first_holder n (on d z v) xs = let e : (n == n) ≡ true = grind (arith, nat_tests) in ap (λ t. if t then Some d else holder_of (holders_from (n + 1) xs) n) e

holders-numbered : (n : ℕ) (xs : List Block) → numbered {B = Holding} (λ b x. (b, core_in x.whereabouts) ∷ []) n xs ≡ map (λ b. (b, holder_of (holders_from n xs) b)) (range_with_len n (length xs))
holders-numbered n [] = refl
holders-numbered n (x ∷ xs) =
    let hs : List (ℕ × ℕ) = holders_from (n + 1) xs in
    ap (λ o. (n, o) ∷ numbered {B = Holding} (λ b x. (b, core_in x.whereabouts) ∷ []) (n + 1) xs) (sym (first_holder n x.whereabouts xs))
    ∙ ap (λ l. (n, holder_of (with_holder n x.whereabouts hs) n) ∷ l)
    (holders-numbered (n + 1) xs ∙ map_range (λ b. (b, holder_of hs b)) (λ b. (b, holder_of (with_holder n x.whereabouts hs) b)) (n + 1) (length xs) (λ b h. ap (λ o. (b, o)) (sym (other_first n b x.whereabouts hs (omega (arith, h))))))

-- the blocks of the report, with their holders
pub blocks-reported : (s : State) → blocks_reported (report_lines s) ≡ map (λ b. (b, holder_of (holders_from 0 s.blocks) b)) (range_with_len 0 (length s.blocks))
blocks-reported s = reported s ∙ holders-numbered 0 s.blocks

-- the same without the numbers
numbers-dropped : (n : ℕ) (xs : List Block) → map (λ (h : Holding). h.1) (numbered {B = Holding} (λ b x. (b, core_in x.whereabouts) ∷ []) n xs) ≡ map (λ (x : Block). core_in x.whereabouts) xs
numbers-dropped n [] = refl
numbers-dropped n (x ∷ xs) = ap (λ l. core_in x.whereabouts ∷ l) (numbers-dropped (n + 1) xs)

pub holders-listed : (xs : List Block) → map (holder_of (holders_from 0 xs)) (range_with_len 0 (length xs)) ≡ map (λ (x : Block). core_in x.whereabouts) xs
holders-listed xs =
    let hs : List (ℕ × ℕ) = holders_from 0 xs in
    sym (map_map (λ b. (b, holder_of hs b)) (λ (h : Holding). h.1) (holder_of hs) (λ b. refl) (range_with_len 0 (length xs)))
    ∙ ap (map (λ (h : Holding). h.1)) (sym (holders-numbered 0 xs))
    ∙ numbers-dropped 0 xs
