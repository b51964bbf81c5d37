-- The parts of a wire of the machine with cores, and what a line keeps.
use Rattle.std.specs.Prelude.{◌≡◌, ℕ, ◌+◌, ◌<◌, ◌≤◌, is_some, Option, IfSome}
use Rattle.std.specs.Option.{option_map}
use Rattle.dc_base.specs.declared.numbers.BlockNo.{BlockNo}
use Rattle.dc_base.specs.declared.numbers.ChanNo.{ChanNo}
use Rattle.dc_base.specs.declared.numbers.CoreNo.{CoreNo}
use Rattle.dc_base.specs.declared.numbers.SignalNo.{SignalNo}
use Rattle.dc_base.specs.Words.{count_of}
use Rattle.dc_base.specs.Lines.{Wire, Counts as Tally}
use Rattle.dc_lines.specs.declared.counts.Counts.{Counts}

-- the numbers of a block and a signal, of a core, and of a channel beside the rights
abbrev pub binding_of : Option (BlockNo × SignalNo) → Option (ℕ × ℕ)
binding_of o = option_map (λ (to : BlockNo × SignalNo). (to.0.0, to.1.0)) o

abbrev pub route_of : Option CoreNo → Option ℕ
route_of o = option_map (λ (c : CoreNo). c.0) o

abbrev pub offer_of : Option (ChanNo × ℕ) → Option (ℕ × ℕ)
offer_of o = option_map (λ (x : ChanNo × ℕ). (x.0.0, x.1)) o

abbrev pub tally_of : Counts → Tally
tally_of c = record { raised = c.raised; stray = c.stray; merged = c.merged; given = c.given; joined = c.joined }

-- every raise is stray, merged, given, joined or pending
abbrev pub AddUp : Tally → Option ℕ → Type 0
AddUp c pending = c.raised ≡ c.stray + c.merged + c.given + c.joined + count_of (is_some pending)

-- the counts add up, the pending raise is one of those that were made, and the offered rights are at most 7
pub record IsKept (w : Wire) : Type 0 where
  pub sum : AddUp w.counts w.pending
  pub first : IfSome w.pending (λ n. 0 < n)
  pub last : IfSome w.pending (λ n. n ≤ w.counts.raised)
  pub rights : IfSome w.offer (λ (o : ℕ × ℕ). o.1 ≤ 7)
