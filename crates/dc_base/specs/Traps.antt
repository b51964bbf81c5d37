-- The traps, each by its cause.
use Rattle.std.specs.Prelude.{ℕ}

-- the word at the place does not decode
abbrev pub no_instruction : ℕ
no_instruction = 1

-- the place is not below the code's length
abbrev pub past_code : ℕ
past_code = 2

-- the address is not below the memory's length
abbrev pub past_memory : ℕ
past_memory = 3

abbrev pub empty_slot : ℕ
empty_slot = 4

abbrev pub used_slot : ℕ
used_slot = 5

-- a capability of another kind
abbrev pub wrong_kind : ℕ
wrong_kind = 6

-- a capability without the right
abbrev pub no_right : ℕ
no_right = 7

-- a range, or the number of a dispatcher
abbrev pub out_of_range : ℕ
out_of_range = 8

-- a child's range meets the new one
abbrev pub has_children : ℕ
has_children = 9

-- as many timers are armed as a block may have
abbrev pub timers_full : ℕ
timers_full = 10

-- the console has as many words as it may have
abbrev pub console_full : ℕ
console_full = 11

-- the line is not offered over that channel
abbrev pub not_offered : ℕ
not_offered = 12

-- the last of them
abbrev pub last_trap : ℕ
last_trap = not_offered
