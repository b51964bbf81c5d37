-- The boot state after an order, by the state of its core.
use Rattle.std.proofs.Common.{◌≡◌, ℕ, zero, suc, ◌+◌, ◌<◌, ◌≤◌, List, [], ◌∷◌, ◌++◌, Bool, true, false, Option, Some, None, refl, sym, ap, ◌∙◌, length, take, drop, get_or, map, arith}
use Rattle.std.specs.Prelude.{slice_get, slice_set}
use Rattle.std.specs.List.{refill}
use Rattle.std.specs.Option.{is_some}
use Rattle.std.proofs.lemmas.List.{length-set, length-map}
use Rattle.dc_base.specs.declared.numbers.BlockNo.{BlockNo}
use Rattle.dc_base.specs.declared.kernels.Version.{Version}
use Rattle.dc_base.specs.declared.commands.Order.{Order}
use Rattle.dc_base.specs.declared.commands.Order.TheVariants as order
use Rattle.dc_base.specs.Words.{bind}
use Rattle.dc_base.specs.Boot.{Booted, Registry, booted_at, after_order, after_order_at, with_block, without_block, none_on}

there : {X : Type 0} (xs : List X) (i : ℕ) (d : X) → i < length xs → slice_get xs i ≡ Some (get_or xs i d)
there [] i d h = absurd (omega (arith, h))
there (x ∷ xs) zero d h = refl
there (x ∷ xs) (suc i) d h = there xs i d (omega (arith, h))

past : {X : Type 0} (xs : List X) (i : ℕ) → length xs ≤ i → slice_get xs i ≡ None
past [] i h = refl
past (x ∷ xs) zero h = absurd (omega (arith, h))
past (x ∷ xs) (suc i) h = past xs i (omega (arith, h))

set_past : {X : Type 0} (xs : List X) (i : ℕ) (x : X) → length xs ≤ i → slice_set xs i x ≡ xs
set_past [] i y h = refl
set_past (x ∷ xs) zero y h = absurd (omega (arith, h))
set_past (x ∷ xs) (suc i) y h = ap (λ ys. x ∷ ys) (set_past xs i y (omega (arith, h)))

pub booted_is : (r : Registry) (c : ℕ) (o d : Option Booted) → c < length r.cores → get_or r.cores c d ≡ o → booted_at r c ≡ o
booted_is r c o d h e = ap (λ p. bind p (λ x. x)) (there r.cores c d h) ∙ e

pub booted_none : (r : Registry) (c : ℕ) → length r.cores ≤ c → booted_at r c ≡ None
booted_none r c h = ap (λ p. bind p (λ x. x)) (past r.cores c h)

at_state : (r : Registry) (c : ℕ) (o : Order) (s : Option Booted) → booted_at r c ≡ s → after_order r c o ≡ after_order_at r c s o
unfolding after_order
at_state r c o s e = ap (λ p. after_order_at r c p o) e

abbrev pub new_core : Version → Booted
new_core v = record { version = v; home = None; parked = [] }

pub started : (r : Registry) (c : ℕ) (v : Version) (d : Option Booted) → c < length r.cores → get_or r.cores c d ≡ None → after_order r c (order.Start v) ≡ record r { cores = slice_set r.cores c (Some (new_core v)) }
started r c v d h e = at_state r c (order.Start v) None (booted_is r c None d h e)

pub still_on : (r : Registry) (c : ℕ) (v : Version) (k : Booted) (d : Option Booted) → c < length r.cores → get_or r.cores c d ≡ Some k → after_order r c (order.Start v) ≡ r
still_on r c v k d h e = at_state r c (order.Start v) (Some k) (booted_is r c (Some k) d h e)

pub stopped : (r : Registry) (c : ℕ) (k : Booted) (d : Option Booted) → c < length r.cores → get_or r.cores c d ≡ Some k → after_order r c order.Stop ≡ record { cores = slice_set r.cores c None; places = map (none_on c) r.places }
stopped r c k d h e = at_state r c order.Stop (Some k) (booted_is r c (Some k) d h e)

pub replaced : (r : Registry) (c : ℕ) (v : Version) (k : Booted) (d : Option Booted) → c < length r.cores → get_or r.cores c d ≡ Some k → after_order r c (order.Replace v) ≡ record r { cores = slice_set r.cores c (Some (record k { version = v })) }
replaced r c v k d h e = at_state r c (order.Replace v) (Some k) (booted_is r c (Some k) d h e)

pub adopted : (r : Registry) (c : ℕ) (b : BlockNo) (parked : Bool) (k : Booted) (d : Option Booted) → c < length r.cores → get_or r.cores c d ≡ Some k →
    after_order r c (order.Adopt b parked) ≡ record { cores = slice_set r.cores c (Some (with_block b.0 parked k)); places = slice_set r.places b.0 (Some c) }
adopted r c b parked k d h e = at_state r c (order.Adopt b parked) (Some k) (booted_is r c (Some k) d h e)

pub released : (r : Registry) (c : ℕ) (b : BlockNo) (k : Booted) (d : Option Booted) → c < length r.cores → get_or r.cores c d ≡ Some k →
    after_order r c (order.Release b) ≡ record { cores = slice_set r.cores c (Some (without_block b.0 k)); places = slice_set r.places b.0 None }
released r c b k d h e = at_state r c (order.Release b) (Some k) (booted_is r c (Some k) d h e)

pub none_of : {X : Type 0} (o : Option X) → is_some o ≡ false → o ≡ None
none_of None h = refl
none_of (Some x) h = absurd (let bad : true ≡ false = h in cc)

pub some_of : {X : Type 0} (o : Option X) → is_some o ≡ true → (x : X) × (o ≡ Some x)
some_of None h = absurd (let bad : false ≡ true = h in cc)
some_of (Some x) h = (x, refl)

pub kept_on : (r : Registry) (c : ℕ) (v : Version) (d : Option Booted) → c < length r.cores → is_some (get_or r.cores c d) ≡ true → after_order r c (order.Start v) ≡ r
kept_on r c v d h e = let k = some_of (get_or r.cores c d) e in still_on r c v k.0 d h k.1

-- an order other than a start to a core that is off changes nothing
abbrev pub IsNoStart : Order → Type 0
IsNoStart (order.Start v) = ⊥
IsNoStart o = Unit {0}

off_by : (r : Registry) (c : ℕ) (o : Order) → IsNoStart o → after_order_at r c None o ≡ r
off_by r c (order.Start v) h = absurd h
off_by r c o h = refl

pub kept_off : (r : Registry) (c : ℕ) (o : Order) (d : Option Booted) → IsNoStart o → c < length r.cores → get_or r.cores c d ≡ None → after_order r c o ≡ r
kept_off r c o d n h e = at_state r c o None (booted_is r c None d h e) ∙ off_by r c o n

-- an order to a core that does not exist changes nothing
past_by : (r : Registry) (c : ℕ) (o : Order) → length r.cores ≤ c → after_order_at r c None o ≡ r
past_by r c (order.Start v) h = ap (λ cores. record r { cores = cores }) (set_past r.cores c (Some (new_core v)) h)
past_by r c o h = refl

pub past_end : (r : Registry) (c : ℕ) (o : Order) → length r.cores ≤ c → after_order r c o ≡ r
past_end r c o h = at_state r c o None (booted_none r c h) ∙ past_by r c o h

-- one more place
pub one_more : {X : Type 0} (f : X → X) (xs : List X) (i : ℕ) (d : X) → i < length xs →
    slice_set (map f (take i xs) ++ drop i xs) i (f (get_or (map f (take i xs) ++ drop i xs) i d)) ≡ map f (take (i + 1) xs) ++ drop (i + 1) xs
one_more f [] i d h = absurd (omega (arith, h))
one_more f (x ∷ xs) zero d h = refl
one_more f (x ∷ xs) (suc i) d h = let e : suc i + 1 ≡ suc (i + 1) = omega arith in rw e (ap (λ ys. f x ∷ ys) (one_more f xs i d (omega (arith, h))))

-- a list written back after a change of its own length
full : {X : Type 0} (ys xs : List X) → length ys ≡ length xs → take (length xs) (ys ++ drop (length ys) xs) ≡ ys
full [] [] h = refl
full [] (x ∷ xs) h = absurd (omega (arith, h))
full (y ∷ ys) [] h = absurd (omega (arith, h))
full (y ∷ ys) (x ∷ xs) h = ap (λ zs. y ∷ zs) (full ys xs (omega (arith, h)))

put_back : {X : Type 0} (xs ws : List X) (i : ℕ) (x : X) → ws ≡ xs → refill (length xs) xs (slice_set ws i x) ≡ slice_set xs i x
put_back xs ws i x e = ap (λ zs. refill (length xs) xs (slice_set zs i x)) e ∙ full (slice_set xs i x) xs (length-set xs i x)

same_set : {X : Type 0} (xs : List X) (i : ℕ) (d : X) → i < length xs → slice_set xs i (get_or xs i d) ≡ xs
same_set [] i d h = refl
same_set (x ∷ xs) zero d h = refl
same_set (x ∷ xs) (suc i) d h = ap (λ ys. x ∷ ys) (same_set xs i d (omega (arith, h)))

abbrev boot : List (Option Booted) → List (Option ℕ) → Registry
boot cs ps = record { cores = cs; places = ps }

-- the boot state after a core was changed
module _ (cs ws : List (Option Booted)) (ps : List (Option ℕ)) (r : Registry) (i : ℕ) (d : Option Booted) (seen : ◌≡◌ {A = Registry} (record { cores = cs; places = ps }) r) (same : ws ≡ cs) (within : i < length cs) where
  written : (o : Option Booted) → ◌≡◌ {A = Registry} (record { cores = refill (length cs) cs (slice_set ws i o); places = ps }) (boot (slice_set cs i o) ps)
  written o = ap (λ l. boot l ps) (put_back cs ws i o same)

  here : (o : Option Booted) → get_or ws i d ≡ o → get_or cs i d ≡ o
  here o e = ap (λ l. get_or l i d) (sym same) ∙ e

  pub replace_done : (v : Version) (k j : Booted) → get_or ws i d ≡ Some k → j ≡ record k { version = v } →
      ◌≡◌ {A = Registry} (record { cores = refill (length cs) cs (slice_set ws i (Some j)); places = ps }) (after_order r i (order.Replace v))
  replace_done v k j e f = written (Some j) ∙ ap (λ k'. boot (slice_set cs i (Some k')) ps) f ∙ sym (replaced (boot cs ps) i v k d within (here (Some k) e)) ∙ ap (λ q. after_order q i (order.Replace v)) seen

  pub start_done : (v : Version) (j : Booted) → get_or ws i d ≡ None → j ≡ new_core v →
      ◌≡◌ {A = Registry} (record { cores = refill (length cs) cs (slice_set ws i (Some j)); places = ps }) (after_order r i (order.Start v))
  start_done v j e f = written (Some j) ∙ ap (λ k'. boot (slice_set cs i (Some k')) ps) f ∙ sym (started (boot cs ps) i v d within (here None e)) ∙ ap (λ q. after_order q i (order.Start v)) seen

  pub left_off : (o : Order) → IsNoStart o → get_or ws i d ≡ None → ◌≡◌ {A = Registry} (record { cores = refill (length cs) cs (slice_set ws i (get_or ws i d)); places = ps }) (after_order r i o)
  left_off o n e = written (get_or ws i d) ∙ ap (λ l. boot (slice_set cs i (get_or l i d)) ps) same ∙ ap (λ l. boot l ps) (same_set cs i d within) ∙ sym (kept_off (boot cs ps) i o d n within (here None e)) ∙ ap (λ q. after_order q i o) seen

  pub adopt_done : (b : BlockNo) (parked : Bool) (k j : Booted) (new : Registry) → get_or ws i d ≡ Some k → j ≡ with_block b.0 parked k →
      new ≡ record { cores = refill (length cs) cs (slice_set ws i (Some j)); places = slice_set ps b.0 (Some i) } → new ≡ after_order r i (order.Adopt b parked)
  adopt_done b parked k j new e f g = g ∙ ap (λ l. boot l (slice_set ps b.0 (Some i))) (put_back cs ws i (Some j) same) ∙ ap (λ k'. boot (slice_set cs i (Some k')) (slice_set ps b.0 (Some i))) f ∙ sym (adopted (boot cs ps) i b parked k d within (here (Some k) e)) ∙ ap (λ q. after_order q i (order.Adopt b parked)) seen

  pub release_done : (b : BlockNo) (k j : Booted) (new : Registry) → get_or ws i d ≡ Some k → j ≡ without_block b.0 k →
      new ≡ record { cores = refill (length cs) cs (slice_set ws i (Some j)); places = slice_set ps b.0 None } → new ≡ after_order r i (order.Release b)
  release_done b k j new e f g = g ∙ ap (λ l. boot l (slice_set ps b.0 None)) (put_back cs ws i (Some j) same) ∙ ap (λ k'. boot (slice_set cs i (Some k')) (slice_set ps b.0 None)) f ∙ sym (released (boot cs ps) i b k d within (here (Some k) e)) ∙ ap (λ q. after_order q i (order.Release b)) seen

  pub stop_done : (ms : List (Option ℕ)) (o : Option Booted) → is_some o ≡ true → get_or ws i d ≡ o → ms ≡ map (none_on i) ps →
      ◌≡◌ {A = Registry} (record { cores = refill (length cs) cs (slice_set ws i None); places = refill (length ps) ps ms }) (after_order r i order.Stop)
  stop_done ms o h e f =
      let k = some_of o h in
      let long : length ms ≡ length ps = ap length f ∙ length-map ps (none_on i) in
      ap (λ l. boot l (refill (length ps) ps ms)) (put_back cs ws i None same)
      ∙ ap (λ l. boot (slice_set cs i None) l) (full ms ps long ∙ f)
      ∙ sym (stopped (boot cs ps) i k.0 d within (here (Some k.0) (e ∙ k.1)))
      ∙ ap (λ q. after_order q i order.Stop) seen
