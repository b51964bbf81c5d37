-- What the columns of a slice's entry must show of the machine of blocks.
use Rattle.std.specs.Prelude.{ℕ, ◌+◌, max, nat_lt, nat_le, Bool, true, false, ◌==◌, ◌&&◌, ◌||◌, not, Option, Some, None, slice_get, replicate}
use Rattle.std.specs.Option.{option_map, option_map_or}
use Rattle.dc_base.specs.declared.calls.Op.{Op}
use Rattle.dc_base.specs.declared.calls.End.{End}
use Rattle.dc_base.specs.declared.calls.End.TheVariants as end
use Rattle.dc_base.specs.Words.{bind}
use Rattle.dc_base.specs.Traps.{past_memory}
use Rattle.dc_base.specs.Effects.{Move, is_call, same_op}
use Rattle.dc_base.specs.Timers.{is_due}
use Rattle.dc_base.specs.Blocks.{Blocks, Block, Life, halted, instr, fire, move_of}
use Rattle.dc_base.specs.BlockCalls.{reply_of, Reply, stuck}
use Rattle.dc_base.specs.BlockSteps.{run_on}

-- the columns of a slice in which a dispatcher ran
pub record SliceColumns : Type 0 where
  pub block : ℕ
  pub dispatcher : ℕ
  pub fired : ℕ
  pub ran : ℕ
  pub end : End
  pub clock : ℕ

-- the blocks after the slice's timers fired
abbrev pub after_fires : Blocks → ℕ → ℕ → Option Blocks
after_fires s b fired = run_on s (replicate fired (fire b))

-- the blocks after its plain instructions
abbrev pub after_instrs : Option Blocks → ℕ → ℕ → ℕ → Option Blocks
after_instrs o b d ran = bind o (λ s. run_on s (replicate ran (instr b d)))

-- no timer of the block is due
abbrev pub none_due : Blocks → ℕ → Bool
none_due s b = option_map_or (λ (x : Block). not (is_due x.clock x.parts.timers)) (slice_get s.blocks b) false

abbrev pub is_halted : Option Life → Bool
is_halted (Some halted) = true
is_halted o = false

-- the dispatcher is halted
abbrev pub halted_at : Blocks → ℕ → ℕ → Bool
halted_at s b d = is_halted (bind (slice_get s.blocks b) (λ (x : Block). slice_get x.lives d))

-- what stands at the place of a live dispatcher
abbrev pub move_there : Blocks → ℕ → ℕ → Option Move
move_there s b d = bind (slice_get s.blocks b) (λ x. option_map (λ m. m.1) (move_of x d))

abbrev pub no_call : Option Move → Bool
no_call None = false
no_call (Some m) = not (is_call m)

abbrev pub is_held : Reply → Bool
is_held stuck = true
is_held a = false

-- the kernel call that stands there is this one, and cannot go on
abbrev pub holds_by : Op → Option (Op × Reply) → Bool
holds_by o None = false
holds_by o (Some a) = same_op a.0 o && is_held a.1

-- what a slice's end says of the blocks after its instructions: the traps up to past_memory are those of plain instructions, which come within the quantum
abbrev pub end_agrees : ℕ → SliceColumns → Blocks → End → Bool
end_agrees quantum slice s end.Quantum = slice.ran == quantum && no_call (move_there s slice.block slice.dispatcher)
end_agrees quantum slice s end.Halt = nat_lt 0 slice.ran && halted_at s slice.block slice.dispatcher
end_agrees quantum slice s (end.Trap x) = nat_lt past_memory x || nat_lt slice.ran quantum
end_agrees quantum slice s (end.Call o) = true
end_agrees quantum slice s (end.Hold o) = holds_by o (reply_of s slice.block slice.dispatcher)
end_agrees quantum slice s end.Empty = false

-- how far a slice takes the clock
abbrev pub advance_of : ℕ → End → ℕ
advance_of ran (end.Call o) = ran + 1
advance_of ran e = max ran 1

-- the columns agree with the blocks after the timers that fired, and with those after the instructions that ran then
abbrev pub agrees_after : ℕ → ℕ → SliceColumns → Option Blocks → Option Blocks → Bool
agrees_after quantum before slice (Some fired) (Some ended) =
    nat_le slice.ran quantum &&
    (none_due fired slice.block && (end_agrees quantum slice ended slice.end && slice.clock == before + advance_of slice.ran slice.end))
agrees_after quantum before slice fired ended = false

-- a slice's columns agree: its instructions are within the quantum, no due timer is left, and the end and the clock are right
abbrev pub slice_agrees : ℕ → ℕ → SliceColumns → Blocks → Bool
slice_agrees quantum before slice s =
    agrees_after quantum before slice (after_fires s slice.block slice.fired)
    (after_instrs (after_fires s slice.block slice.fired) slice.block slice.dispatcher slice.ran)

-- where no dispatcher was ready, a slice leaves no due timer, and takes the clock on by 1
abbrev pub none_slice_agrees : ℕ → ℕ → ℕ → Option Blocks → Bool
none_slice_agrees before b clock None = false
none_slice_agrees before b clock (Some fired) = none_due fired b && clock == before + 1
