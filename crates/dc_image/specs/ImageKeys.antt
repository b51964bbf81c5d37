-- The values at the keys of tables, each by its rule, or the first fault.
use Rattle.std.specs.Prelude.{ℕ, suc, ◌-◌, ◌^◌, ◌==◌, ◌&&◌, nat_le, nat_lt, Bool, List, [], ◌∷◌, ◌++◌, length, if◌then◌else◌, Option, Some, None, Result, Ok}
use Rattle.std.specs.Prelude.{Err, decimal, codes, pos, negsuc, String}
use Rattle.std.specs.BTreeMap.{BTreeMap}
use Rattle.std.specs.declared.alloc.Global.{Global}
use Rattle.toml.specs.declared.value.Value.{Value}
use Rattle.toml.specs.Data.{Data, string, integer, array, table, Items, no_items, item, Members, get_member}
use Rattle.toml.specs.View.{table_view}
use Rattle.dc_base.specs.declared.kernels.Version.{Version}
use Rattle.dc_base.specs.declared.kernels.Version.TheVariants.{Rr, Edf}
use Rattle.dc_base.specs.declared.kernels.Clocks.{Clocks}
use Rattle.dc_base.specs.declared.kernels.Clocks.TheVariants.{Kept, Running}
use Rattle.dc_base.specs.Results.{◌>>=◌, or_fault}
use Rattle.dc_base.specs.TextWords.{is_word}
use Rattle.dc_base.specs.FaultText.{ImageRefusal, missing, wrong_kind, out_of_range}
use Rattle.dc_image.specs.declared.keys.Place.{Place}
use Rattle.dc_image.specs.KeyText.{under, path_of}

-- a table, and the path under which its keys stand
pub record Table : Type 0 where
  pub path : List ℕ
  pub members : Members

-- the table at a place of the image
abbrev pub table_at : Place → BTreeMap (String Global) Value → Table
table_at place t = record { path = path_of place; members = table_view t }

-- a rule for the value at a key
abbrev pub Rule : Type 0 → Type 0
Rule A = List ℕ → Data → Result A ImageRefusal

-- what stands at a name, which must be there
abbrev pub found_at : Table → List ℕ → Result Data ImageRefusal
found_at t name = or_fault (missing (under t.path name)) (get_member name t.members)

-- the value at a key that must be there
abbrev pub required : {A : Type 0} → Table → List ℕ → Rule A → Result A ImageRefusal
required t name rule = found_at t name >>= rule (under t.path name)

-- the rule's value, or the one that stands for none
abbrev pub if_there : {A : Type 0} → A → Rule A → List ℕ → Option Data → Result A ImageRefusal
if_there absent rule key None = Ok absent
if_there absent rule key (Some d) = rule key d

abbrev pub optional : {A : Type 0} → Table → List ℕ → A → Rule A → Result A ImageRefusal
optional t name absent rule = if_there absent rule (under t.path name) (get_member name t.members)

-- the rule's value, or none
abbrev pub maybe : {A : Type 0} → Table → List ℕ → Rule A → Result (Option A) ImageRefusal
maybe t name rule = optional t name None (λ key d. rule key d >>= (λ x. Ok (Some x)))

-- a whole number that is not below 0
abbrev pub natural : Rule ℕ
natural key (integer (pos n)) = Ok n
natural key (integer (negsuc n)) = Err (out_of_range key)
natural key _ = Err (wrong_kind key)

-- a whole number that passes the test
abbrev pub number_where : (ℕ → Bool) → Rule ℕ
number_where test key d = natural key d >>= (λ n. if test n then Ok n else Err (out_of_range key))

abbrev pub number_within : ℕ → ℕ → Rule ℕ
number_within low high = number_where (λ n. nat_le low n && nat_le n high)

abbrev pub word_in : Rule (List ℕ)
word_in key (string word) = Ok word
word_in key _ = Err (wrong_kind key)

-- one of so many things, by number
abbrev pub number_below : ℕ → Rule ℕ
number_below limit = number_where (λ n. nat_lt n limit)

-- a string that stands for a value
abbrev pub word_where : {A : Type 0} → (List ℕ → Option A) → Rule A
word_where meaning key d = word_in key d >>= (λ word. or_fault (out_of_range key) (meaning word))

abbrev pub item_count : Items → ℕ
item_count no_items = 0
item_count (item d ds) = suc (item_count ds)

-- an array of so many items
abbrev pub array_within : ℕ → ℕ → Rule Items
array_within low high key (array ds) =
    let n = item_count ds in
    if nat_le low n && nat_le n high then Ok ds else Err (out_of_range key)
array_within low high key _ = Err (wrong_kind key)

-- the items behind those that are read, each read under its number; a rule sees the ones before
abbrev pub items_read : {A : Type 0} → (List A → Rule A) → List A → List ℕ → Items → Result (List A) ImageRefusal
items_read rule before key no_items = Ok before
items_read rule before key (item d ds) =
    rule before (under key (decimal (length before))) d >>= (λ x. items_read rule (before ++ x ∷ []) key ds)

-- an array of so many items, each by its rule
abbrev pub each_within : {A : Type 0} → ℕ → ℕ → (List A → Rule A) → Rule (List A)
each_within low high rule key d = array_within low high key d >>= items_read rule [] key

-- a table, whose keys stand under its own
abbrev pub table_in : Rule Table
table_in key (table ms) = Ok (record { path = key; members = ms })
table_in key _ = Err (wrong_kind key)

-- a table, read by what its keys give
abbrev pub table_by : {A : Type 0} → (Table → Result A ImageRefusal) → Rule A
table_by read key d = table_in key d >>= read

abbrev pub version_of : List ℕ → Option Version
version_of word = if is_word "rr" word then Some Rr else if is_word "edf" word then Some Edf else None

abbrev pub clocks_of : List ℕ → Option Clocks
clocks_of word = if is_word "kept" word then Some Kept else if is_word "running" word then Some Running else None

-- the clocks are kept in the first format
abbrev pub clocks_in : ℕ → Table → Result Clocks ImageRefusal
clocks_in format t = let read = optional t (codes "clocks") Kept (word_where clocks_of) in if format == 2 then read else Ok Kept

-- any word of 32 bits
abbrev pub any_number : Rule ℕ
any_number = number_within 0 (2 ^ 32 - 1)
