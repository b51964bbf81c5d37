-- One statement in each pass of the assembler.
use Rattle.std.proofs.Common.{◌≡◌, ℕ, ◌+◌, ◌<◌, ◌≤◌, ◌||◌, not, List, [], ◌∷◌, ◌++◌, length, Result, Ok, Err, refl, ap, sym, ◌∙◌, if◌then◌else◌}
use Rattle.std.specs.Prelude.{bytes_eq}
use Rattle.std.specs.List.{list_any}
use Rattle.std.proofs.lemmas.Bool.{lt-ltb, le-ltb}
use Rattle.std.proofs.lemmas.List.{length-append}
use mathlib.Core.List.{append_assoc}
use Rattle.dc_base.specs.declared.faults.AsmKind.{AsmKind}
use Rattle.dc_base.specs.declared.faults.AsmKind.TheVariants as fault
use Rattle.dc_base.specs.declared.faults.AsmFault.{AsmFault}
use Rattle.dc_base.specs.declared.faults.AsmFault.TheVariants.{Bad}
use Rattle.dc_base.specs.Results.{◌>>=◌, fault_as}
use Rattle.dc_base.specs.ProgramText.{Label, Statement, nothing, label, instruction, is_label_name, words_from, word_of, defines, fits}
use Rattle.dc_text.specs.Rest.{joined}
use Rattle.dc_isa.specs.Assembly.{AddsWord}

-- the same names stand above
pub words_from-above : (labels : List Label) (line place : ℕ) (above beyond : List (List ℕ)) → ((q : List ℕ) → list_any (bytes_eq q) above ≡ list_any (bytes_eq q) beyond) → (more : List Statement) →
    words_from labels line place above more ≡ words_from labels line place beyond more
words_from-above labels line place above beyond same [] = refl
words_from-above labels line place above beyond same (nothing ∷ more) = words_from-above labels (line + 1) place above beyond same more
words_from-above labels line place above beyond same (label name ∷ more) =
    ap (λ t. fault_as (Bad line) (if not (is_label_name name) then Err fault.BadOperand else if t then Err fault.TwiceLabel else Ok tt) >>= (λ _. words_from labels (line + 1) place (name ∷ above) more)) (same name)
    ∙ ap (λ r. fault_as (Bad line) (defines beyond name) >>= (λ _. r)) (words_from-above labels (line + 1) place (name ∷ above) (name ∷ beyond) (λ q. ap (λ t. bytes_eq q name || t) (same q)) more)
words_from-above labels line place above beyond same (instruction name operands ∷ more) =
    ap (λ r. fault_as (Bad line) (word_of labels name operands >>= fits place) >>= (λ word. r >>= (λ words. Ok (word ∷ words)))) (words_from-above labels (line + 1) (place + 1) above beyond same more)

-- a label that is defined here first
pub adds_label : (labels : List Label) (line : ℕ) (code : List ℕ) (name : List ℕ) (above beyond : List (List ℕ)) → defines above name ≡ Ok tt → ((q : List ℕ) → (bytes_eq q name || list_any (bytes_eq q) above) ≡ list_any (bytes_eq q) beyond) →
    AddsWord (Ok tt) labels line code code above beyond (label name)
adds_label labels line code name above beyond fine same = λ more.
    ap (λ d. joined code (fault_as (Bad line) d >>= (λ _. words_from labels (line + 1) (length code) (name ∷ above) more))) fine
    ∙ ap (joined code) (words_from-above labels (line + 1) (length code) (name ∷ above) beyond same more)
