-- What became of a status as a sink wrote out what it holds back.
use Rattle.std.specs.Prelude.{◌≡◌, ◌≢◌, ◌≤◌, ℕ, List, [], Bool, Option, IsTrue}
use Rattle.dc_io.specs.Counts.{Rose}
use Rattle.dc_io.specs.Told.{Adds, KeepsBeginning}

-- for want of memory nothing was done; else the text is written out, or the sink holds bytes back, and an end of the text is lost
pub data WrittenOut (holds_back : Bool) (faults faults_after : ℕ) (told told_after : Option (List ℕ)) (status : ℕ) : ℕ → Type 0 where
  untouched : status ≡ 7 → faults_after ≡ faults → told_after ≡ told → WrittenOut holds_back faults faults_after told told_after status 7
  all_out : status ≢ 7 → faults ≤ faults_after → Adds told told_after [] → WrittenOut holds_back faults faults_after told told_after status status
  end_lost : IsTrue holds_back → Rose faults faults_after → KeepsBeginning told told_after →
      WrittenOut holds_back faults faults_after told told_after status 6
