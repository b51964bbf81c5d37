-- The dispatchers that tables of an image are.
use Rattle.std.specs.Prelude.{ℕ, List, [], Result, Ok, Err, codes}
use Rattle.toml.specs.Data.{string, array}
use Rattle.dc_base.specs.declared.images.DispImage.{DispImage}
use Rattle.dc_base.specs.declared.images.CapImage.{CapImage}
use Rattle.dc_base.specs.declared.faults.AsmFault.{AsmFault}
use Rattle.dc_base.specs.declared.faults.AsmFault.TheVariants as asm
use Rattle.dc_base.specs.Results.{◌>>=◌}
use Rattle.dc_base.specs.ProgramText.{program_of}
use Rattle.dc_base.specs.FaultText.{ImageRefusal, wrong_kind, out_of_range, bad_code}
use Rattle.dc_image.specs.ImageKeys.{Table, Rule, required, optional, number_within, any_number, each_within, table_by}
use Rattle.dc_image.specs.CapsOf.{Around, cap_in}

-- the words that a text of code gives, of which there is at least one; a text never gives want of memory
abbrev pub words_in : List ℕ → Result (List ℕ) AsmFault → Result (List ℕ) ImageRefusal
words_in key (Ok []) = Err (out_of_range key)
words_in key (Ok words) = Ok words
words_in key (Err (asm.Bad line fault)) = Err (bad_code key line fault)
words_in key (Err asm.Memory) = Err (out_of_range key)

abbrev pub code_in : Rule (List ℕ)
code_in key (string text) = words_in key (program_of text)
code_in key (array ds) = each_within 1 1024 (λ before. any_number) key (array ds)
code_in key _ = Err (wrong_kind key)

unfoldable pub caps_in : Around → Table → Result (List CapImage) ImageRefusal
caps_in a t = optional t (codes "cap") [] (each_within 0 16 (λ before. table_by (cap_in a before)))

unfoldable pub disp_in : Around → Table → Result DispImage ImageRefusal
disp_in a t = do
  code ← required t (codes "code") code_in
  period ← optional t (codes "period") 1 (number_within 1 65535)
  due ← optional t (codes "due") 0 any_number
  caps ← caps_in a t
  Ok (record { code = code; period = period; due = due; caps = caps })

unfoldable pub disps_in : Around → Table → Result (List DispImage) ImageRefusal
disps_in a t = required t (codes "disp") (each_within 1 16 (λ before. table_by (disp_in a)))
