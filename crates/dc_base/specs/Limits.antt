-- The limits of a machine, of its texts and of its numbers.
use Rattle.std.specs.Prelude.{ℕ, ◌^◌}

abbrev pub most_cores : ℕ
most_cores = 8

abbrev pub most_blocks : ℕ
most_blocks = 16

abbrev pub most_channels : ℕ
most_channels = 64

-- interrupt lines
abbrev pub most_lines : ℕ
most_lines = 16

-- plain instructions in a slice
abbrev pub most_quantum : ℕ
most_quantum = 64

-- slices, idle steps and wakes of one core
abbrev pub most_slices : ℕ
most_slices = 131072

-- and of all cores together
abbrev pub most_slices_in_all : ℕ
most_slices_in_all = 241664

-- blocks that are parked on one core
abbrev pub most_parked : ℕ
most_parked = 8

-- dispatchers of a block
abbrev pub most_disps : ℕ
most_disps = 16

abbrev pub most_ports : ℕ
most_ports = 16

abbrev pub most_signals : ℕ
most_signals = 16

-- words of a block's memory
abbrev pub memory_words : ℕ
memory_words = 4096

-- places of a dispatcher's code
abbrev pub code_room : ℕ
code_room = 1024

-- registers of a dispatcher
abbrev pub register_count : ℕ
register_count = 8

-- capability slots of a dispatcher
abbrev pub disp_slots : ℕ
disp_slots = 16

-- capability slots of a block
abbrev pub block_slots : ℕ
block_slots = 256

-- the period of a dispatcher
abbrev pub longest_period : ℕ
longest_period = 65535

-- armed timers of a block
abbrev pub timer_room : ℕ
timer_room = 64

-- messages in a port
abbrev pub port_room : ℕ
port_room = 8

-- messages in a channel
abbrev pub most_capacity : ℕ
most_capacity = 64

-- words on a console
abbrev pub console_room : ℕ
console_room = 65536

-- bytes of an input file
abbrev pub longest_file : ℕ
longest_file = 33554432

-- lines of a script that count
abbrev pub longest_script : ℕ
longest_script = 4096

-- lines of a schedule that count
abbrev pub longest_schedule : ℕ
longest_schedule = 262144

-- polls of an await
abbrev pub most_polls : ℕ
most_polls = 1000000000

-- a word is below
abbrev pub word_limit : ℕ
word_limit = 2 ^ 32

-- the first time of a clock is below
abbrev pub clock_start_limit : ℕ
clock_start_limit = 2 ^ 62

-- the number of a block's first timer is at most
abbrev pub timer_start_limit : ℕ
timer_start_limit = 2 ^ 31
