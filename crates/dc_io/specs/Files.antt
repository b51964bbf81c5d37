-- Files in memory, by name.
use Rattle.std.specs.Prelude.{ℕ, ◌==◌, List, [], find, bytes_eq, if◌then◌else◌, Bool, Option, Some, None, is_none}
use Rattle.std.specs.List.{list_any}
use Rattle.dc_io.specs.declared.memory_shelves.MemFile.{MemFile}
use Rattle.dc_io.specs.Counts.{counted}

-- whether the file has this name
abbrev pub is_named : List ℕ → MemFile → Bool
is_named name file = bytes_eq file.name name

-- the bytes of the file; none where there is none
abbrev pub bytes_of : Option MemFile → List ℕ
bytes_of None = []
bytes_of (Some file) = file.bytes

-- the bytes of the first file of this name; none where no file has it
abbrev pub bytes_named : List MemFile → List ℕ → List ℕ
bytes_named files name = bytes_of (find (is_named name) files)

-- files, the numbers of the loads that fail, and how many loads were made and failed
pub record FailingFiles : Type 0 where
  pub files : List MemFile
  pub failing : List ℕ
  pub calls : ℕ
  pub faults : ℕ

-- the file that the next load of this name reads: none where that load is listed
abbrev pub readable : FailingFiles → List ℕ → Option MemFile
readable s name = if list_any (λ n. n == counted s.calls) s.failing then None else find (is_named name) s.files

abbrev pub after_load : FailingFiles → List ℕ → FailingFiles
after_load s name = record s { calls = counted s.calls; faults = if is_none (readable s name) then counted s.faults else s.faults }
