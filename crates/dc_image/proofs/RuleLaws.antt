-- What the values have that are read at the keys of tables.
use Rattle.std.proofs.Common.{◌≤◌, ◌≡◌, ℕ, ◌<◌, Bool, true, List, [], length, Result, Ok, Option, Some, None, IfSome, sym, ap, ◌∙◌, subst, arith}
use Rattle.std.specs.Prelude.{nat_le, nat_lt, ◌&&◌}
use Rattle.std.proofs.lemmas.Bool.{and_parts}
use Rattle.std.proofs.lemmas.Bool.Decides.{nat_tests}
use Rattle.toml.specs.Data.{Data, Items, array, table, string, integer, float, boolean, datetime, get_member}
use Rattle.dc_base.specs.Results.{◌>>=◌}
use Rattle.dc_base.specs.FaultText.{ImageRefusal, out_of_range}
use Rattle.dc_image.specs.KeyText.{under}
use Rattle.dc_image.specs.ImageKeys.{Table, Rule, found_at, required, if_there, optional, maybe, natural, number_where, number_within, number_below, array_within, item_count, each_within, table_in, table_by}
use Rattle.dc_image.proofs.Chains.{chained, passed}
use Rattle.dc_image.proofs.BuiltLaws.{IsBuilt, Read, items_built, is_built}

-- the number is one of these
abbrev pub Within : ℕ → ℕ → ℕ → Type 0
Within low high n = (low ≤ n) × (n ≤ high)

-- each value that the rule gives has it
abbrev pub Has : {A : Type 0} → Rule A → (A → Type 0) → Type 0
Has {A} rule P = (key : List ℕ) (d : Data) (x : A) → rule key d ≡ Ok x → P x

pub required_has : {A : Type 0} (P : A → Type 0) (rule : Rule A) (law : Has rule P) (t : Table) (name : List ℕ) (x : A) → required t name rule ≡ Ok x → P x
required_has P rule law t name x e = let s = chained (found_at t name) _ x e in law _ s.first x s.after

there_has : {A : Type 0} (P : A → Type 0) (rule : Rule A) (law : Has rule P) (absent : A) (none : P absent) (key : List ℕ) (o : Option Data) (x : A) → if_there absent rule key o ≡ Ok x → P x
there_has P rule law absent none key None x e = let same : absent ≡ x = cc in subst P same none
there_has P rule law absent none key (Some d) x e = law key d x e

pub optional_has : {A : Type 0} (P : A → Type 0) (rule : Rule A) (law : Has rule P) (t : Table) (name : List ℕ) (absent : A) (none : P absent) (x : A) → optional t name absent rule ≡ Ok x → P x
optional_has P rule law t name absent none x e = there_has P rule law absent none (under t.path name) (get_member name t.members) x e

some_has : {A : Type 0} (P : A → Type 0) (x : A) (o : Option A) → P x → ◌≡◌ {A = Result (Option A) ImageRefusal} (Ok (Some x)) (Ok o) → IfSome o P
some_has P x o h e = let same : Some x ≡ o = cc in subst (λ p. IfSome p P) same h

pub maybe_has : {A : Type 0} (P : A → Type 0) (rule : Rule A) (law : Has rule P) (t : Table) (name : List ℕ) (o : Option A) → maybe t name rule ≡ Ok o → IfSome o P
maybe_has P rule law t name o e =
    optional_has (λ p. IfSome p P) (λ key d. rule key d >>= (λ x. Ok (Some x)))
    (λ key d p given. let s = chained (rule key d) _ p given in some_has P s.first p (law key d s.first s.was) s.after) t name None tt o e

-- the number passes the test
pub where_has : (test : ℕ → Bool) → Has (number_where test) (λ n. test n ≡ true)
where_has test key d n e =
    let s = chained (natural key d) _ n e in
    let p = passed (test s.first) s.first n (out_of_range key) s.after in
    subst (λ m. test m ≡ true) p.same p.passed

range_of : (low high n : ℕ) → (nat_le low n && nat_le n high) ≡ true → Within low high n
range_of low high n both =
    let parts = and_parts (nat_le low n) (nat_le n high) both in
    let a : nat_le low n ≡ true = parts.0 in
    let b : nat_le n high ≡ true = parts.1 in
    (grind (arith, nat_tests), grind (arith, nat_tests))

pub within_has : (low high : ℕ) → Has (number_within low high) (Within low high)
within_has low high key d n e = range_of low high n (where_has (λ m. nat_le low m && nat_le m high) key d n e)

pub below_has : (limit : ℕ) → Has (number_below limit) (λ n. n < limit)
below_has limit key d n e = let test : nat_lt n limit ≡ true = where_has (λ m. nat_lt m limit) key d n e in grind (arith, nat_tests)

-- the elements are as many as there may be
pub array_has : (low high : ℕ) → Has (array_within low high) (λ ds. Within low high (item_count ds))
array_has low high key (array ds) x e =
    let p = passed (nat_le low (item_count ds) && nat_le (item_count ds) high) ds x (out_of_range key) e in
    subst (λ es. Within low high (item_count es)) p.same (range_of low high (item_count ds) p.passed)
array_has low high key (string s) x e = cc
array_has low high key (integer z) x e = cc
array_has low high key (float f) x e = cc
array_has low high key (boolean b) x e = cc
array_has low high key (datetime t) x e = cc
array_has low high key (table ms) x e = cc

-- the list has so many elements, and each has the fact with those before it
pub record IsList {A : Type 0} (low high : ℕ) (P : List A → A → Type 0) (xs : List A) : Type 0 where
  pub count : Within low high (length xs)
  pub built : IsBuilt P xs

-- the same of elements that were counted before they were read
pub counted : {A : Type 0} (low high : ℕ) (P : List A → A → Type 0) (ds : Items) (xs : List A) → Within low high (item_count ds) → Read P [] (item_count ds) xs → IsList low high P xs
counted low high P ds xs within r = record {
  count = subst (Within low high) (sym (ap length r.all_is ∙ r.count_is)) within;
  built = is_built P (item_count ds) xs r;
}

pub each_has : {A : Type 0} (low high : ℕ) (P : List A → A → Type 0) (rule : List A → Rule A) (law : (before : List A) → Has (rule before) (P before)) → Has (each_within low high rule) (IsList low high P)
each_has low high P rule law key d xs e =
    let s = chained (array_within low high key d) _ xs e in
    counted low high P s.first xs (array_has low high key d s.first s.was) (items_built rule P law [] key s.first xs s.after)

-- what every table gives that is read, the value of a table has
pub table_has : {A : Type 0} (P : A → Type 0) (read : Table → Result A ImageRefusal) (law : (t : Table) (x : A) → read t ≡ Ok x → P x) → Has (table_by read) P
table_has P read law key d x e = let s = chained (table_in key d) _ x e in law s.first x s.after
