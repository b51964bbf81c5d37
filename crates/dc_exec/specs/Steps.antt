-- One plain instruction of a dispatcher.
use Rattle.std.specs.Prelude.{◌≡◌, ℕ, ◌+◌, ◌<◌, ◌≤◌, List, slice_set, slice_index}
use Rattle.dc_base.specs.Effects.{Context, Move, goes, halts, traps}
use Rattle.dc_isa.specs.declared.dispatchers.Dispatcher.{Dispatcher}
use Rattle.dc_exec.specs.declared.steps.Went.{Went}
use Rattle.dc_exec.specs.declared.steps.Went.TheVariants as went

-- what a dispatcher has of its own
abbrev pub context_of : Dispatcher → Context
context_of d = record { regs = d.regs; place = d.place }

-- the dispatcher with these registers at this place
abbrev pub with_context : Dispatcher → Context → Dispatcher
with_context d c = record d { regs = c.regs; place = c.place }

-- the dispatcher and the memory after an instruction that goes on
pub record Goes (d d' : Dispatcher) (words' : List ℕ) (m : Move) : Type 0 where
  pub move : m ≡ goes (context_of d') words'
  pub same : d' ≡ with_context d (context_of d')

-- the answer, the dispatcher and the memory are those of the move
abbrev pub Makes : Went → Dispatcher → Dispatcher → List ℕ → List ℕ → Move → Type 0
Makes went.Next d d' words words' m = Goes d d' words' m
Makes went.Halted d d' words words' m = (m ≡ halts) × (d' ≡ d) × (words' ≡ words)
Makes (went.Trap x) d d' words words' m = (m ≡ traps x) × (d' ≡ d) × (words' ≡ words)

-- a word is loaded from an address into a register
abbrev pub Loads : Went → Dispatcher → Dispatcher → List ℕ → ℕ → ℕ → Type 0
Loads went.Next d d' words a address = (address < 4096) × (d' ≡ record d { regs = slice_set d.regs a (slice_index words address); place = d.place + 1 })
Loads went.Halted d d' words a address = ⊥
Loads (went.Trap x) d d' words a address = (4096 ≤ address) × (x ≡ 3) × (d' ≡ d)

-- a word is stored at an address
abbrev pub Stores : Went → Dispatcher → Dispatcher → List ℕ → List ℕ → ℕ → ℕ → Type 0
Stores went.Next d d' words words' word address = (address < 4096) × (d' ≡ record d { place = d.place + 1 }) × (words' ≡ slice_set words address word)
Stores went.Halted d d' words words' word address = ⊥
Stores (went.Trap x) d d' words words' word address = (4096 ≤ address) × (x ≡ 3) × (d' ≡ d) × (words' ≡ words)
