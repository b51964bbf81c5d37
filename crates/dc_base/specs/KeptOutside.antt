-- What channels, consoles and lines keep.
use Rattle.std.specs.Prelude.{◌≡◌, ℕ, ◌≤◌, ◌+◌, List, Bool, true, false, Some, IsSome, IfSome, slice_get, length, is_some}
use Rattle.std.specs.List.{list_any}
use Rattle.dc_base.specs.Words.{Each, count_of}
use Rattle.dc_base.specs.Limits.{console_room}
use Rattle.dc_base.specs.Capabilities.{Seat, is_of_line}
use Rattle.dc_base.specs.Channels.{Ring}
use Rattle.dc_base.specs.ControlBlocks.{ControlBlock}
use Rattle.dc_base.specs.States.{State, Block}
use Rattle.dc_base.specs.KeptByBlocks.{AreWords, IsMessage}

-- the sent number is the taken number plus the length of the untaken list, which is at most the capacity
pub record KeepsRing (r : Ring) : Type 0 where
  pub sent : r.sent ≡ r.taken + length r.untaken
  pub room : length r.untaken ≤ r.capacity
  pub messages : Each r.untaken (λ i m. IsMessage m)

abbrev pub KeepsRings : State → Type 0
KeepsRings s = Each s.channels (λ x r. KeepsRing r)

pub record KeepsConsole (ws : List ℕ) : Type 0 where
  pub room : length ws ≤ console_room
  pub words : AreWords ws

abbrev pub KeepsConsoles : State → Type 0
KeepsConsoles s = Each s.consoles (λ b ws. KeepsConsole ws)

-- the counts of a line add up
abbrev pub KeepsCounts : State → Type 0
KeepsCounts s = Each s.lines (λ l w. w.counts.raised ≡ w.counts.stray + w.counts.merged + w.counts.given + w.counts.joined + count_of (is_some w.pending))

-- a block has a capability of the line
abbrev pub has_cap_of_line : ℕ → ControlBlock → Bool
has_cap_of_line l x = list_any (λ (h : Seat). is_of_line l h.cap.kind) x.parts.caps

-- all capabilities of a line stand in one block at most, and in none while the line is offered; the offered rights are at most 7; the number of a pending
-- raise is at most that of the raises
pub record KeepsLines (s : State) : Type 0 where
  pub one : (l b c : ℕ) (x y : Block) → slice_get s.blocks b ≡ Some x → slice_get s.blocks c ≡ Some y → has_cap_of_line l x.control ≡ true →
      has_cap_of_line l y.control ≡ true → b ≡ c
  pub none : Each s.lines (λ l w. IsSome w.offer → Each s.blocks (λ b x. has_cap_of_line l x.control ≡ false))
  pub rights : Each s.lines (λ l w. IfSome w.offer (λ (o : ℕ × ℕ). o.1 ≤ 7))
  pub pending : Each s.lines (λ l w. IfSome w.pending (λ n. n ≤ w.counts.raised))
