-- The logs of actors.
use Rattle.std.specs.Prelude.{ℕ, zero, suc, List, [], ◌∷◌, Option, None, slice_get, vec_len}
use Rattle.std.specs.List.{sum_by}
use Rattle.std.specs.Global.{Vec}
use Rattle.dc_journal.specs.declared.merging.Logged.{Logged}

-- what stands at a place of a log: the first number is that of the log
abbrev pub logged_at : List (Vec Logged) → ℕ → ℕ → Option Logged
logged_at [] i k = None
logged_at (log ∷ logs) zero k = slice_get log.items k
logged_at (log ∷ logs) (suc i) k = logged_at logs i k

-- how many entries all logs have
abbrev pub logged_count : List (Vec Logged) → ℕ
logged_count logs = sum_by (λ (log : Vec Logged). vec_len log) logs
