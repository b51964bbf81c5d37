-- What the dispatchers have that are read.
use Rattle.std.proofs.Common.{◌≡◌, ℕ, ◌-◌, ◌^◌, ◌<◌, ◌≤◌, List, [], ◌∷◌, length, Result, Ok, Err, refl, subst, arith}
use Rattle.std.specs.Prelude.{codes}
use Rattle.toml.specs.Data.{string, integer, float, boolean, datetime, array, table}
use Rattle.dc_base.specs.declared.faults.AsmFault.{AsmFault}
use Rattle.dc_base.specs.declared.faults.AsmFault.TheVariants as asm
use Rattle.dc_base.specs.declared.images.DispImage.{DispImage}
use Rattle.dc_base.specs.declared.images.CapImage.{CapImage}
use Rattle.dc_base.specs.ProgramText.{program_of}
use Rattle.dc_base.specs.KeptByBlocks.{AreWords}
use Rattle.dc_image.specs.ImageKeys.{Table, required, optional, number_within, any_number, each_within, table_by}
use Rattle.dc_image.specs.CapsOf.{Around, cap_in}
use Rattle.dc_image.specs.DispsOf.{words_in, code_in, caps_in, disp_in, disps_in}
use Rattle.dc_image.proofs.Chains.{chained}
use Rattle.dc_image.proofs.BuiltLaws.{IsBuilt}
use Rattle.dc_image.proofs.RuleLaws.{Within, Has, IsList, required_has, optional_has, within_has, each_has, table_has}
use Rattle.dc_image.proofs.CapLaws.{CapLaw, cap_has}
use Rattle.dc_image.proofs.ProgramBounds.{program_has}

pub any_has : Has any_number (λ n. n < 2 ^ 32)
any_has key d n e = let within : Within 0 (2 ^ 32 - 1) n = within_has 0 (2 ^ 32 - 1) key d n e in omega (arith, within.1)

pub record CodeLaw (code : List ℕ) : Type 0 where
  pub count : Within 1 1024 (length code)
  pub words : AreWords code

text_has : (key : List ℕ) (read : Result (List ℕ) AsmFault) (words : List ℕ) → ((ws : List ℕ) → read ≡ Ok ws → (length ws ≤ 1024) × AreWords ws) → words_in key read ≡ Ok words → CodeLaw words
text_has key (Ok []) words law e = cc
text_has key (Ok (w ∷ ws)) words law e =
    let all = law (w ∷ ws) refl in
    let same : w ∷ ws ≡ words = cc in
    subst CodeLaw same (record { count = (omega arith, all.0); words = all.1 })
text_has key (Err (asm.Bad line fault)) words law e = cc
text_has key (Err asm.Memory) words law e = cc

list_code : (words : List ℕ) → IsList 1 1024 (λ before n. n < 2 ^ 32) words → CodeLaw words
list_code words l = record { count = l.count; words = l.built }

code_has : Has code_in CodeLaw
code_has key (string text) words e = text_has key (program_of text) words (λ ws given. program_has text ws given) e
code_has key (array ds) words e = list_code words (each_has 1 1024 (λ before n. n < 2 ^ 32) (λ before. any_number) (λ before. any_has) key (array ds) words e)
code_has key (integer z) words e = cc
code_has key (float f) words e = cc
code_has key (boolean b) words e = cc
code_has key (datetime t) words e = cc
code_has key (table ms) words e = cc

pub record DispLaw (a : Around) (d : DispImage) : Type 0 where
  pub code : CodeLaw d.code
  pub period : Within 1 65535 d.period
  pub due : d.due < 2 ^ 32
  pub few : length d.caps ≤ 16
  pub caps : IsBuilt (CapLaw a) d.caps

pub none_built : {A : Type 0} (P : List A → A → Type 0) → IsBuilt P []
none_built P i x e = cc

caps_have : (a : Around) (t : Table) (caps : List CapImage) → caps_in a t ≡ Ok caps → IsList 0 16 (CapLaw a) caps
unfolding caps_in
caps_have a t caps e =
    optional_has (IsList 0 16 (CapLaw a)) (each_within 0 16 (λ before. table_by (cap_in a before)))
    (each_has 0 16 (CapLaw a) (λ before. table_by (cap_in a before)) (λ before. table_has (CapLaw a before) (cap_in a before) (cap_has a before)))
    t (codes "cap") [] (record { count = (omega arith, omega arith); built = none_built (CapLaw a) }) caps e

disp_has : (a : Around) (t : Table) (d : DispImage) → disp_in a t ≡ Ok d → DispLaw a d
unfolding disp_in
disp_has a t d e =
    let code = chained (required t (codes "code") code_in) _ d e in
    let period = chained (optional t (codes "period") 1 (number_within 1 65535)) _ d code.after in
    let due = chained (optional t (codes "due") 0 any_number) _ d period.after in
    let caps = chained (caps_in a t) _ d due.after in
    let words : CodeLaw code.first = required_has CodeLaw code_in code_has t (codes "code") code.first code.was in
    let often : Within 1 65535 period.first =
    optional_has (Within 1 65535) (number_within 1 65535) (within_has 1 65535) t (codes "period") 1 (omega arith, omega arith) period.first period.was in
    let low : due.first < 2 ^ 32 = optional_has (λ n. n < 2 ^ 32) any_number any_has t (codes "due") 0 (omega arith) due.first due.was in
    let list : IsList 0 16 (CapLaw a) caps.first = caps_have a t caps.first caps.was in
    let made : DispImage = record { code = code.first; period = period.first; due = due.first; caps = caps.first } in
    let same : made ≡ d = cc in
    let law : DispLaw a made = record { code = words; period = often; due = low; few = list.count.1; caps = list.built } in
    subst (DispLaw a) same law

pub disps_have : (a : Around) (t : Table) (disps : List DispImage) → disps_in a t ≡ Ok disps → IsList 1 16 (λ before d. DispLaw a d) disps
unfolding disps_in
disps_have a t disps e =
    required_has (IsList 1 16 (λ before d. DispLaw a d)) (each_within 1 16 (λ before. table_by (disp_in a)))
    (each_has 1 16 (λ before d. DispLaw a d) (λ before. table_by (disp_in a)) (λ before. table_has (DispLaw a) (disp_in a) (disp_has a))) t (codes "disp") disps e
