-- What a channel keeps of its messages, after a send and after a take.
use Rattle.std.proofs.Common.{◌≡◌, ℕ, zero, suc, ◌+◌, ◌-◌, ◌<◌, ◌≤◌, List, [], ◌∷◌, ◌++◌, length, drop, Bool, true, false, Some, None, refl, sym, ap, ◌∙◌, arith, length-append, length-drop}
use Rattle.std.specs.Prelude.{slice_get, nat_lt, if◌then◌else◌}
use Rattle.std.specs.Option.{option_map}
use Rattle.std.proofs.lemmas.List.{drop-append-le}
use Rattle.std.proofs.lemmas.Bool.Decides.{nat_tests}
use Rattle.dc_base.specs.declared.messages.Message.{Message}
use Rattle.dc_base.specs.Words.{bind}
use Rattle.dc_base.specs.Channels.{Channel, Ring, after_send, after_take, ring_after_send, ring_after_take, ring_without_first}
use Rattle.dc_base.specs.StandsFor.{ring_of}

same_test : (a b c d : ℕ) (t u : Bool) → nat_lt a b ≡ t → nat_lt c d ≡ u → d ≡ (c - a) + b → a ≤ c → t ≡ u
same_test a b c d true true e f g h = refl
same_test a b c d false false e f g h = refl
same_test a b c d true false e f g h = absurd (let p : a < b = grind (arith, nat_tests, e) in let q : d ≤ c = grind (arith, nat_tests, f) in omega (arith, g, h))
same_test a b c d false true e f g h = absurd (let p : b ≤ a = grind (arith, nat_tests, e) in let q : c < d = grind (arith, nat_tests, f) in omega (arith, g, h))

sent_by : (t : Bool) (x : Channel) (m : Message) → x.taken ≤ length x.messages →
    (if t then Some (record (ring_of x) { untaken = drop x.taken x.messages ++ m ∷ []; sent = length x.messages + 1 }) else None) ≡ option_map ring_of (if t then Some (record x { messages = x.messages ++ m ∷ [] }) else None)
sent_by true x m h =
    ap (λ l. Some (record { capacity = x.capacity; untaken = l; sent = length x.messages + 1; taken = x.taken })) (sym (drop-append-le x.taken x.messages (m ∷ []) h))
    ∙ ap (λ n. Some (record { capacity = x.capacity; untaken = drop x.taken (x.messages ++ m ∷ []); sent = n; taken = x.taken })) (sym (length-append x.messages (m ∷ [])))
sent_by false x m h = refl

pub ring_after_send-of : (x : Channel) (m : Message) → x.taken ≤ length x.messages → ring_after_send (ring_of x) m ≡ option_map ring_of (after_send x m)
unfolding ring_after_send after_send
ring_after_send-of x m h =
    let same : nat_lt (length (drop x.taken x.messages)) x.capacity ≡ nat_lt (length x.messages) (x.taken + x.capacity) =
    same_test (length (drop x.taken x.messages)) x.capacity (length x.messages) (x.taken + x.capacity) _ _ refl refl (omega (arith, length-drop x.taken x.messages)) (omega (arith, length-drop x.taken x.messages)) in
    ap (λ t. if t then Some (record (ring_of x) { untaken = drop x.taken x.messages ++ m ∷ []; sent = length x.messages + 1 }) else None) same
    ∙ sent_by (nat_lt (length x.messages) (x.taken + x.capacity)) x m h

-- the first of what is left, and what is left then
front_of_drop : {A : Type 0} → (xs : List A) (n : ℕ) → (ys : List A) → drop n xs ≡ ys → ys ≡ [] → slice_get xs n ≡ None
front_of_drop [] n ys e f = refl
front_of_drop (x ∷ xs) zero ys e f = cc
front_of_drop (x ∷ xs) (suc n) ys e f = front_of_drop xs n ys e f

rest_of_drop : {A : Type 0} → (xs : List A) (n : ℕ) (y : A) (ys : List A) → drop n xs ≡ y ∷ ys → (slice_get xs n ≡ Some y) × (drop (suc n) xs ≡ ys)
rest_of_drop [] zero y ys e = cc
rest_of_drop [] (suc n) y ys e = cc
rest_of_drop (x ∷ xs) zero y ys e = (cc, cc)
rest_of_drop (x ∷ xs) (suc n) y ys e = rest_of_drop xs n y ys e

add_one : {n : ℕ} → n + 1 ≡ suc n
add_one = omega arith

abbrev pub taken_of : Message × Channel → Message × Ring
taken_of g = (g.0, ring_of g.1)

taken_by : (x : Channel) (ys : List Message) → drop x.taken x.messages ≡ ys → ring_without_first (ring_of x) ys ≡ option_map taken_of (bind (slice_get x.messages x.taken) (λ m. Some (m, record x { taken = x.taken + 1 })))
taken_by x [] e = ap (λ o. option_map taken_of (bind o (λ m. Some (m, record x { taken = x.taken + 1 })))) (sym (front_of_drop x.messages x.taken [] e refl))
taken_by x (m ∷ ms) e =
    let r = rest_of_drop x.messages x.taken m ms e in
    ap (λ l. Some (m, record { capacity = x.capacity; untaken = l; sent = length x.messages; taken = x.taken + 1 })) (sym r.1 ∙ ap (λ n. drop n x.messages) (sym add_one))
    ∙ ap (λ o. option_map taken_of (bind o (λ m. Some (m, record x { taken = x.taken + 1 })))) (sym r.0)

pub ring_after_take-of : (x : Channel) → ring_after_take (ring_of x) ≡ option_map taken_of (after_take x)
unfolding ring_after_take after_take
ring_after_take-of x = taken_by x (drop x.taken x.messages) refl
