-- What is still to be read of a text.
use Rattle.std.specs.Prelude.{ℕ, ◌+◌, List, [], ◌++◌, Option, Some, None, Result, Ok, Err, length}
use Rattle.std.specs.Borrow.{Bor}
use Rattle.dc_base.specs.TextWords.{lines_of}

-- the lines of the rest of a text; there is no line where there is no rest
abbrev pub lines_left : Option (Bor (List ℕ)) → List (List ℕ)
lines_left None = []
lines_left (Some rest) = lines_of rest.now

-- how many lines the rest of a text may still have
abbrev pub most_left : Option (Bor (List ℕ)) → ℕ
most_left None = 0
most_left (Some rest) = length rest.now + 1

-- what was read, and what the rest gives behind it
abbrev pub joined : {A F : Type 0} → List A → Result (List A) F → Result (List A) F
joined found (Ok more) = Ok (found ++ more)
joined found (Err fault) = Err fault
