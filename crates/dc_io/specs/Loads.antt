-- The count of faults after a load.
use Rattle.std.specs.Prelude.{ℕ, Result, Ok, Err}
use Rattle.dc_io.specs.declared.shelves.Load.{Load}
use Rattle.dc_io.specs.declared.shelves.Load.TheVariants.{Failed, TooLong, Memory}
use Rattle.dc_io.specs.Counts.{counted}

-- one more, where the load failed
abbrev pub faults_after : {T : Type 0} → ℕ → Result T Load → ℕ
faults_after n (Ok x) = n
faults_after n (Err Failed) = counted n
faults_after n (Err TooLong) = n
faults_after n (Err Memory) = n
