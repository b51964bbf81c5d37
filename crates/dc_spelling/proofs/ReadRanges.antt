-- What is read is in range.
use Rattle.std.proofs.Common.{◌≡◌, ℕ, ◌^◌, Bool, true, false, ◌&&◌, List, [], ◌∷◌, drop, Option, Some, None, option_map, refl, ap, subst, ◌∙◌, map, nat_lt}
use Rattle.std.specs.Prelude.{if◌then◌else◌}
use Rattle.std.specs.List.{list_all}
use Rattle.std.specs.Char.{is_ascii_digit}
use Rattle.std.specs.Str.Parse.{digits_value}
use Rattle.std.proofs.lemmas.Bool.{and_from}
use Rattle.dc_base.specs.declared.calls.Op.{Op}
use Rattle.dc_base.specs.declared.calls.End.{End}
use Rattle.dc_base.specs.declared.calls.End.TheVariants as end
use Rattle.dc_base.specs.declared.kernels.Version.{Version}
use Rattle.dc_base.specs.declared.interrupts.Raised.TheVariants as raised
use Rattle.dc_base.specs.declared.commands.Order.{Order}
use Rattle.dc_base.specs.declared.commands.Order.TheVariants as order
use Rattle.dc_base.specs.declared.commands.Refusal.{Refusal}
use Rattle.dc_base.specs.declared.commands.Refusal.TheVariants as refusal
use Rattle.dc_base.specs.declared.entries.What.TheVariants as what
use Rattle.dc_base.specs.TextWords.{is_word}
use Rattle.dc_base.specs.EntryRanges.{is_time, is_end_in_range, is_what_in_range, is_in_range, are_in_range, order_numbers, refusal_numbers, raised_number}
use Rattle.dc_base.specs.LooseWords.{loose_number, word_at, number_at, last_word, last_number, op_of, version_of}
use Rattle.dc_base.specs.LooseEntries.{end_of, core_what, order_of, refusal_of, raised_of, script_what, candidate}

-- a number that is read is below its limit
loose_by : (limit n : ℕ) (t u : Bool) → nat_lt n limit ≡ u → nat_lt 0 limit ≡ true → nat_lt (if t && u then n else 0) limit ≡ true
loose_by limit n false u low some = some
loose_by limit n true false low some = some
loose_by limit n true true low some = low

loose_low : (limit : ℕ) (word : List ℕ) → nat_lt 0 limit ≡ true → nat_lt (loose_number limit word) limit ≡ true
loose_low limit word some = loose_by limit (digits_value 10 word) (list_all is_ascii_digit word) (nat_lt (digits_value 10 word) limit) refl some

number_low : (ws : List (List ℕ)) (i : ℕ) → nat_lt (number_at ws i) (2 ^ 32) ≡ true
number_low ws i = loose_low (2 ^ 32) (word_at ws i) refl

-- the numbers at these places
numbers_low : (ws : List (List ℕ)) (places : List ℕ) → are_in_range (map (number_at ws) places) ≡ true
numbers_low ws [] = refl
numbers_low ws (i ∷ places) = and_from _ _ (number_low ws i) (numbers_low ws places)

time_low : (ws : List (List ℕ)) → is_time (last_number ws) ≡ true
time_low ws = loose_low (2 ^ 64) (last_word ws) refl

-- what is there passes the test
pub record IfThere {A : Type 0} (test : A → Bool) (o : Option A) : Type 0 where
  pub each : (x : A) → o ≡ Some x → test x ≡ true

there : {A : Type 0} (test : A → Bool) {x : A} → test x ≡ true → IfThere test (Some x)
there test {x} h = record { each = λ y e. let same : x ≡ y = cc in subst (λ z. test z ≡ true) same h }

none_there : {A : Type 0} (test : A → Bool) → IfThere test None
none_there test = record { each = λ y e. absurd (cc e) }

either : {A : Type 0} (test : A → Bool) (t : Bool) {o u : Option A} → IfThere test o → IfThere test u → IfThere test (if t then o else u)
either test true h g = h
either test false h g = g

mapped : {A B : Type 0} (from : A → Bool) (test : B → Bool) (f : A → B) (o : Option A) → IfThere from o → ((x : A) → from x ≡ true → test (f x) ≡ true) → IfThere test (option_map f o)
mapped from test f None h g = none_there test
mapped from test f (Some x) h g = there test (g x (h.each x refl))

-- any version
any_version : (o : Option Version) → IfThere (λ v. true) o
any_version o = record { each = λ v e. refl }

with_version : {B : Type 0} (test : B → Bool) (f : Version → B) (o : Option Version) → ((v : Version) → test (f v) ≡ true) → IfThere test (option_map f o)
with_version test f o h = mapped (λ v. true) test f o (any_version o) (λ v e. h v)

with_op : (f : Op → End) (o : Option Op) → ((x : Op) → is_end_in_range (f x) ≡ true) → IfThere is_end_in_range (option_map f o)
with_op f o h = mapped (λ x. true) is_end_in_range f o (record { each = λ x e. refl }) (λ x e. h x)

end_low : (word next : List ℕ) → IfThere is_end_in_range (end_of word next)
end_low word next =
    let low = is_end_in_range in
    either low (is_word "quantum" word) (there low refl)
    (either low (is_word "halt" word) (there low refl)
    (either low (is_word "trap" word) (there low (loose_low (2 ^ 8) next refl))
    (either low (is_word "call" word) (with_op end.Call (op_of next) (λ o. refl))
    (either low (is_word "hold" word) (with_op end.Hold (op_of next) (λ o. refl)) (none_there low)))))

-- what a core did
core_low : (ws : List (List ℕ)) → IfThere is_what_in_range (core_what ws)
unfolding core_what
core_low ws =
    let low = is_what_in_range in
    let verb = word_at ws 0 in
    either low (is_word "slice" verb)
    (either low (is_word "-" (word_at ws 2)) (there low (and_from _ _ (numbers_low ws (1 ∷ 4 ∷ [])) (time_low ws)))
    (mapped is_end_in_range low _ (end_of (word_at ws 7) (word_at ws 8)) (end_low (word_at ws 7) (word_at ws 8)) (λ e h. and_from _ _ (and_from _ _ (numbers_low ws (1 ∷ 2 ∷ 4 ∷ 6 ∷ [])) h) (time_low ws))))
    (either low (is_word "idle" verb) (there low (time_low ws))
    (either low (is_word "wake" verb) (there low (numbers_low ws (1 ∷ 2 ∷ [])))
    (either low (is_word "intake" verb) (there low (numbers_low ws (1 ∷ 2 ∷ 3 ∷ 4 ∷ [])))
    (either low (is_word "start" verb) (with_version low _ (version_of (word_at ws 1)) (λ v. time_low ws))
    (either low (is_word "stop" verb) (there low (numbers_low ws (1 ∷ [])))
    (either low (is_word "replace" verb) (with_version low what.Replace (version_of (word_at ws 1)) (λ v. refl))
    (either low (is_word "adopt" verb) (there low (and_from _ _ (numbers_low ws (1 ∷ [])) (time_low ws)))
    (either low (is_word "release" verb) (there low (and_from _ _ (numbers_low ws (1 ∷ [])) (time_low ws))) (none_there low)))))))))

abbrev is_order_low : Order → Bool
is_order_low o = are_in_range (order_numbers o)

order_low : (ws : List (List ℕ)) → IfThere is_order_low (order_of ws)
order_low ws =
    let low = is_order_low in
    let verb = word_at ws 0 in
    either low (is_word "start" verb) (with_version low order.Start (version_of (word_at ws 1)) (λ v. refl))
    (either low (is_word "stop" verb) (there low refl)
    (either low (is_word "replace" verb) (with_version low order.Replace (version_of (word_at ws 1)) (λ v. refl))
    (either low (is_word "adopt" verb) (there low (numbers_low ws (1 ∷ [])))
    (either low (is_word "release" verb) (there low (numbers_low ws (1 ∷ []))) (none_there low)))))

abbrev is_refusal_low : Refusal → Bool
is_refusal_low r = are_in_range (refusal_numbers r)

refusal_low : (ws : List (List ℕ)) → IfThere is_refusal_low (refusal_of ws)
refusal_low ws =
    let low = is_refusal_low in
    let name = word_at ws 0 in
    let one = numbers_low ws (1 ∷ []) in
    let two = numbers_low ws (1 ∷ 2 ∷ []) in
    either low (is_word "AlreadyOn" name) (there low one)
    (either low (is_word "Off" name) (there low one)
    (either low (is_word "SameVersion" name) (with_version low (refusal.SameVersion (record { 0 = number_at ws 1 })) (version_of (word_at ws 2)) (λ v. one))
    (either low (is_word "NotAtRest" name) (there low two)
    (either low (is_word "HomeTaken" name) (there low two)
    (either low (is_word "NotHome" name) (there low one)
    (either low (is_word "NotParked" name) (there low one)
    (either low (is_word "OnThatCore" name) (there low two)
    (either low (is_word "ShareFull" name) (there low one) (none_there low)))))))))

raised_is : (n : ℕ) (t u : Bool) → raised_number (if t then raised.Pended n else if u then raised.Coalesced n else raised.Stray n) ≡ n
raised_is n true u = refl
raised_is n false true = refl
raised_is n false false = refl

raise_low : (ws : List (List ℕ)) → are_in_range (number_at ws 0 ∷ number_at ws 2 ∷ raised_number (raised_of (number_at ws 3) (word_at ws 4)) ∷ []) ≡ true
raise_low ws =
    let same = raised_is (number_at ws 3) (is_word "pending" (word_at ws 4)) (is_word "coalesced" (word_at ws 4)) in
    ap (λ n. are_in_range (number_at ws 0 ∷ number_at ws 2 ∷ n ∷ [])) same ∙ numbers_low ws (0 ∷ 2 ∷ 3 ∷ [])

-- what the script did
script_low : (ws : List (List ℕ)) → IfThere is_what_in_range (script_what ws)
unfolding script_what
script_low ws =
    let low = is_what_in_range in
    let verb = word_at ws 1 in
    either low (is_word "post" verb) (mapped is_order_low low _ (order_of (drop 3 ws)) (order_low (drop 3 ws)) (λ o h. and_from _ _ (number_low ws 0) (and_from _ _ (number_low ws 2) h)))
    (either low (is_word "done" verb) (there low (numbers_low ws (0 ∷ [])))
    (either low (is_word "refused" verb) (mapped is_refusal_low low _ (refusal_of (drop 3 ws)) (refusal_low (drop 3 ws)) (λ r h. and_from _ _ (number_low ws 0) h))
    (either low (is_word "raise" verb) (there low (raise_low ws))
    (either low (is_word "route" verb) (there low (numbers_low ws (0 ∷ 2 ∷ 3 ∷ [])))
    (either low (is_word "met" verb) (there low (numbers_low ws (0 ∷ 2 ∷ 3 ∷ [])))
    (either low (is_word "unmet" verb) (there low (numbers_low ws (0 ∷ 2 ∷ 3 ∷ []))) (none_there low)))))))

-- the entry that a line may spell
pub candidate_low : (ws : List (List ℕ)) → IfThere is_in_range (candidate ws)
unfolding candidate is_in_range
candidate_low ws =
    let low = is_in_range in
    either low (is_word "core" (word_at ws 1)) (mapped is_what_in_range low _ (core_what (drop 3 ws)) (core_low (drop 3 ws)) (λ w h. and_from _ _ (numbers_low ws (2 ∷ [])) h))
    (either low (is_word "script" (word_at ws 1)) (mapped is_what_in_range low _ (script_what (drop 2 ws)) (script_low (drop 2 ws)) (λ w h. h)) (none_there low))
