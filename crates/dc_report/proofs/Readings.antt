-- What is read of an object, as the report has it.
use Rattle.std.proofs.Common.{◌≡◌, ℕ, List, [], ◌∷◌, Some, None, refl, sym, ap, ◌∙◌, map, length}
use Rattle.std.specs.Prelude.{Option}
use Rattle.std.specs.Option.{option_map}
use Rattle.dc_base.specs.declared.capabilities.Cap.{Cap}
use Rattle.dc_base.specs.declared.interrupts.Timer.{Timer}
use Rattle.dc_base.specs.declared.kernels.Version.{Version}
use Rattle.dc_base.specs.declared.numbers.BlockNo.{BlockNo}
use Rattle.dc_base.specs.declared.numbers.CoreNo.{CoreNo}
use Rattle.dc_base.specs.declared.numbers.DispNo.{DispNo}
use Rattle.dc_base.specs.declared.numbers.SlotNo.{SlotNo}
use Rattle.dc_base.specs.declared.reports.ReportLine.TheVariants as line
use Rattle.dc_base.specs.Capabilities.{Seat, seat_at, cap_at, parent_in, parent_at}
use Rattle.dc_base.specs.Channels.{Ring}
use Rattle.dc_base.specs.Report.{block_no, home_of, core_line, cap_line}
use Rattle.dc_base.specs.States.{Core, Block, Member, core_in, time_of}
use Rattle.dc_base.specs.Timers.{is_sooner, in_order}
use Rattle.dc_timers.proofs.Sorting.{in_order-by, length-sort}
use Rattle.dc_report.specs.Remaining.{head_line}
use Rattle.arrayvec.specs.ArrayVec.{ArrayVec}
use Rattle.dc_ready.specs.Entries.{dispatchers, entries_of}
use Rattle.dc_report.proofs.Slots.{found}

-- an option of a wrapped number is the wrapped option
pub wrapped : {A B : Type 0} (f : A → B) (g : B → A) → ((a : A) → a ≡ g (f a)) → (o : Option A) (q : Option B) → option_map f o ≡ q → o ≡ option_map g q
wrapped f g same None q h = ap (option_map g) h
wrapped f g same (Some a) q h = ap Some (same a) ∙ ap (option_map g) h

module _ (b n : ℕ) (cap : Cap) (parent : Option SlotNo) where
  seat_is : (h : Seat) → h.cap ≡ cap → h.slot ≡ n → option_map (λ (p : SlotNo). p.0) parent ≡ h.parent → line.Cap (block_no b) (record { 0 = n }) cap parent ≡ cap_line b h
  seat_is h c s p =
      ap (λ q. line.Cap (block_no b) (record { 0 = n }) cap q) (wrapped (λ (p : SlotNo). p.0) (λ p. record { 0 = p }) (λ a. refl) parent h.parent p)
      ∙ (ap (λ m. line.Cap (block_no b) (record { 0 = m }) cap (option_map (λ p. record { 0 = p }) h.parent)) (sym s)
      ∙ ap (λ k. line.Cap (block_no b) (record { 0 = h.slot }) k (option_map (λ p. record { 0 = p }) h.parent)) (sym c))

  slot_by : (caps : List Seat) (o : Option Seat) → seat_at caps n ≡ o → Some cap ≡ option_map (λ (h : Seat). h.cap) o → option_map (λ (p : SlotNo). p.0) parent ≡ parent_in o → Some (line.Cap (block_no b) (record { 0 = n }) cap parent) ≡ option_map (cap_line b) o
  slot_by caps None e c p = absurd cc
  slot_by caps (Some h) e c p = let same : h.cap ≡ cap = cc in ap Some (seat_is h same (found n caps h e).2 p)

  pub slot_line : (caps : List Seat) → Some cap ≡ cap_at caps n → option_map (λ (p : SlotNo). p.0) parent ≡ parent_at caps n → Some (line.Cap (block_no b) (record { 0 = n }) cap parent) ≡ option_map (cap_line b) (seat_at caps n)
  slot_line caps c p = slot_by caps (seat_at caps n) refl c p

-- the ready dispatchers without their dues
pub first_parts : (es : List (DispNo × ℕ)) → map (λ (e : DispNo × ℕ). e.0) es ≡ map (λ d. record { 0 = d }) (dispatchers (entries_of es))
first_parts [] = refl
first_parts (e ∷ es) = ap (λ ds. e.0 ∷ ds) (first_parts es)

-- the first line of a block
pub head_is : (cores : List Core) (b : ℕ) (x : Block) (core : Option CoreNo) (time armed : ℕ) → option_map (λ (c : CoreNo). c.0) core ≡ core_in x.whereabouts → time ≡ time_of cores x.whereabouts → armed ≡ length x.control.parts.timers → line.Block (block_no b) core time armed ≡ head_line cores b x
head_is cores b x core time armed e f h =
    ap (λ c. line.Block (block_no b) c time armed) (wrapped (λ (c : CoreNo). c.0) (λ c. record { 0 = c }) (λ a. refl) core (core_in x.whereabouts) e)
    ∙ (ap (λ t. line.Block (block_no b) (option_map (λ c. record { 0 = c }) (core_in x.whereabouts)) t armed) f
    ∙ ap (λ n. line.Block (block_no b) (option_map (λ c. record { 0 = c }) (core_in x.whereabouts)) (time_of cores x.whereabouts) n) h)

pub armed_is : (ts : List Timer) → length (in_order ts) ≡ length ts
armed_is ts = ap length (in_order-by ts) ∙ length-sort is_sooner ts

-- the line of a core that is on
pub on_is : (c : ℕ) (k : Core) (v : Version) (clock used : ℕ) (home : Option BlockNo) (share : ArrayVec BlockNo) → k.version ≡ Some v → clock ≡ k.clock → home ≡ home_of k.share → share.items ≡ map (λ (m : Member). block_no m.block) k.share → used ≡ k.used → line.CoreOn (record { 0 = c }) v clock home share used ≡ core_line c k k.version
on_is c k v clock used home share e f h i u =
    ap (λ n. line.CoreOn (record { 0 = c }) v n home share used) f
    ∙ (ap (λ o. line.CoreOn (record { 0 = c }) v k.clock o share used) h
    ∙ (ap (λ bs. line.CoreOn (record { 0 = c }) v k.clock (home_of k.share) (record { items = bs }) used) i
    ∙ (ap (λ n. line.CoreOn (record { 0 = c }) v k.clock (home_of k.share) (record { items = map (λ (m : Member). block_no m.block) k.share }) n) u
    ∙ ap (core_line c k) (sym e))))

-- the first line of a channel
pub channel_is : (x : ℕ) (r : Ring) (sent taken : ℕ) → sent ≡ r.sent → taken ≡ r.taken → line.Channel (record { 0 = x }) sent taken ≡ line.Channel (record { 0 = x }) r.sent r.taken
channel_is x r sent taken e f = ap (λ n. line.Channel (record { 0 = x }) n taken) e ∙ ap (λ n. line.Channel (record { 0 = x }) r.sent n) f
