-- The generator's numbers, and lists that grow by a line.
use Rattle.std.proofs.Common.{◌≡◌, ℕ, zero, suc, ◌+◌, ◌-◌, ◌*◌, ◌<◌, ◌%◌, ◌^◌, ◌∙◌, List, [], ◌∷◌, ◌++◌, flat_map, map, refl, ap, sym, arith, append_assoc, map-id, mul_comm}
use Rattle.std.specs.List.{range_with_len}
use Rattle.std.proofs.Math.Nat.{mod-add-mod}
use Rattle.std.proofs.lemmas.List.FromFn.{map-range_with_len_more}
use Rattle.std.proofs.lemmas.Grind.{flat_map-append}
use Rattle.dc_base.specs.declared.commands.Command.TheVariants as command
use Rattle.dc_base.specs.declared.commands.ScriptLine.{ScriptLine}
use Rattle.dc_base.specs.declared.commands.ScriptLine.TheVariants as script
use Rattle.dc_base.specs.declared.actions.Actor.{Actor}
use Rattle.dc_base.specs.declared.actions.Action.{Action}
use Rattle.dc_base.specs.Generated.{next_number, generated_line, generated_lines, generated_script}
use Rattle.dc_gen.specs.Scripts.{attaching, replacing}

pub next_number_wraps : (x y : ℕ) → y ≡ (x * 1664525) % 2 ^ 32 → next_number x ≡ (y + 1013904223) % 2 ^ 32
next_number_wraps x y e = rw e (sym (mod-add-mod (x * 1664525) (2 ^ 32) 1013904223 ∙ ap (λ p. (p + 1013904223) % 2 ^ 32) (mul_comm x 1664525)))

one_more : (n k : ℕ) (x : ℕ) → n ≡ k + 1 → generated_lines n x ≡ generated_line (next_number x) ∷ generated_lines k (next_number x)
one_more zero k x e = absurd (omega arith)
one_more (suc n) k x e = let same : n ≡ k = omega arith in rw same refl

-- one line more
pub lines_more : (xs : List (Actor × Action)) (n i x : ℕ) → i < n → (xs ++ generated_line (next_number x) ∷ []) ++ generated_lines (n - (i + 1)) (next_number x) ≡ xs ++ generated_lines (n - i) x
lines_more xs n i x lt = rw append_assoc (ap (λ t. xs ++ t) (sym (one_more (n - i) (n - (i + 1)) x (omega arith))))

replacing_more : (n : ℕ) → map replacing (range_with_len 0 (n + 1)) ≡ map replacing (range_with_len 0 n) ++ replacing n ∷ []
replacing_more n = map-range_with_len_more replacing 0 n n (omega arith)

numbers_more : (a n : ℕ) → range_with_len a (n + 1) ≡ range_with_len a n ++ (a + n) ∷ []
numbers_more a n = simp map-id at (map-range_with_len_more (λ (x : ℕ). x) a n (a + n) refl)

attaching_at : (n : ℕ) → attaching (8 + n) ≡ script.Boot (command.Park (record { 0 = n }) (record { 0 = (n + 1) % 8 })) ∷ script.Boot (command.Attach (record { 0 = n + 8 }) (record { 0 = n })) ∷ []
attaching_at n =
    let a : 8 + n - 8 ≡ n = omega arith in
    let b : 8 + n - 7 ≡ n + 1 = omega arith in
    let d : 8 + n ≡ n + 8 = omega arith in
    rw (a, b, d) refl

attaching_more : (n : ℕ) → flat_map attaching (range_with_len 8 (n + 1)) ≡ flat_map attaching (range_with_len 8 n) ++ script.Boot (command.Park (record { 0 = n }) (record { 0 = (n + 1) % 8 })) ∷ script.Boot (command.Attach (record { 0 = n + 8 }) (record { 0 = n })) ∷ []
attaching_more n = ap (flat_map attaching) (numbers_more 8 n) ∙ flat_map-append attaching (range_with_len 8 n) ((8 + n) ∷ []) ∙ ap (λ t. flat_map attaching (range_with_len 8 n) ++ t) (attaching_at n)

-- two lines more behind a script
pub two_more : (xs : List ScriptLine) (n : ℕ) → ((xs ++ flat_map attaching (range_with_len 8 n)) ++ script.Boot (command.Park (record { 0 = n }) (record { 0 = (n + 1) % 8 })) ∷ []) ++ script.Boot (command.Attach (record { 0 = n + 8 }) (record { 0 = n })) ∷ [] ≡ xs ++ flat_map attaching (range_with_len 8 (n + 1))
two_more xs n = simp append_assoc (ap (λ t. xs ++ t) (sym (attaching_more n)))

-- one line more behind a script
pub line_more : (xs : List ScriptLine) (n : ℕ) → (xs ++ map replacing (range_with_len 0 n)) ++ replacing n ∷ [] ≡ xs ++ map replacing (range_with_len 0 (n + 1))
line_more xs n = simp append_assoc (ap (λ t. xs ++ t) (sym (replacing_more n)))

pub whole_script : flat_map attaching (range_with_len 8 8) ++ map replacing (range_with_len 0 8) ≡ generated_script
unfolding generated_script
whole_script = refl
