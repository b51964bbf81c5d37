-- The rule holds at the start.
use Rattle.std.proofs.Common.{◌≡◌, ℕ, zero, suc, ◌+◌, ◌<◌, true, List, [], ◌∷◌, length, sym, refl, ap, ◌∙◌, subst, inl, arith, map, true≢false}
use Rattle.std.specs.Prelude.{slice_index, Option, Some}
use mathlib.Core.Option.{some, some-injective, some-ne-none}
use lib.ListN.{get_elem?}
use Rattle.atomic_table.specs.Table.{opening}
use Rattle.dc_stage.specs.Numbers.{has_pair}
use Rattle.dc_stage.specs.History.{Meaning}
use Rattle.dc_stage.specs.Views.{newcomer}
use Rattle.dc_stage.specs.Rule.{ViewIsKept, IsKept}
use Rattle.dc_stage.specs.declared.view.View.{View}

at_map : {A B : Type 0} (f : A → B) (xs : List A) (i : ℕ) (x : A) → get_elem? xs i ≡ some x → get_elem? (map f xs) i ≡ some (f x)
at_map f [] i x e = absurd (some-ne-none x (sym e))
at_map f (y ∷ ys) zero x e = ap (λ z. some (f z)) (some-injective y x e)
at_map f (y ∷ ys) (suc i) x e = at_map f ys i x e

pub length_map : {A B : Type 0} (f : A → B) (xs : List A) → length (map f xs) ≡ length xs
length_map f [] = refl
length_map f (x ∷ xs) = ap suc (length_map f xs)

only : {A : Type 0} (a b : A) (j : ℕ) → get_elem? (a ∷ []) j ≡ some b → (j ≡ 0) × (a ≡ b)
only a b zero e = (refl, some-injective a b e)
only a b (suc j) e = absurd (some-ne-none b (sym e))

module _ {Wh St En Ob Sc : Type 0} (p : Meaning Wh St En) (state : Ob → St) (sc : Sc) where
  -- the objects stand in their slots, each in its start state
  abbrev pub AtStart : List (Option Ob) → Type 0
  AtStart xs = (i : ℕ) → i < length xs → (x : Ob) × (get_elem? xs i ≡ some (Some x)) × (state x ≡ p.at p.start i)

  pub opens : (words : List ℕ) (xs : List (Option Ob)) → length words ≡ length xs + 1 → ((k : ℕ) → slice_index words k ≡ 0) → AtStart xs → IsKept p state sc (opening words xs (newcomer sc))
  opens words xs wide zeros start = record {
    log = [];
    lawful = tt;
    wide = wide ∙ ap (λ z. z + 1) (sym (length_map some xs));
    long = zeros 0;
    few = λ a. omega arith;
    actors = λ a le. refl;
    each_view = λ j v e l. subst (ViewIsKept p sc [] words) (only (newcomer sc) v j e).1
        record { scene = refl; told = ([], refl); sees = ([], refl); mine = refl; small = omega arith; turn = λ i h. absurd (true≢false (sym h)); same = λ i h. refl; ever = λ i h. absurd (true≢false (sym h)) };
    apart = λ j k v w e f lv lw who. (only (newcomer sc) v j e).0 ∙ sym (only (newcomer sc) w k f).0;
    each_turn = λ i lt. let s = start i (subst (λ (z : ℕ). i < z) (length_map some xs) lt) in inl (zeros (i + 1), (s.0, at_map some xs i (Some s.0) s.1, s.2));
    crew = record {
      head = newcomer sc;
      at = refl;
      alive = refl;
      is_first = refl;
      few = omega arith;
      unmade = λ a le. refl;
      below = λ j v e l. subst (λ (z : View Sc En). z.actor < 1) (only (newcomer sc) v j e).1 (omega arith);
      one = λ j v e f. (only (newcomer sc) v j e).0;
      alone = λ j v e f. ap (λ (z : View Sc En). z.joined) (sym (only (newcomer sc) v j e).1);
      ended = λ k x e. absurd (some-ne-none x (sym e));
      apart = tt;
      count = refl;
    };
    each_refusal = λ j v e l i a h. absurd (true≢false (sym (subst (λ (z : View Sc En). has_pair i a z.refused ≡ true) (sym (only (newcomer sc) v j e).1) h)));
    past_refusals = λ j v e l k x f. absurd (some-ne-none x (sym (ap (λ (z : View Sc En). get_elem? z.joined k) (only (newcomer sc) v j e).1 ∙ f)));
  }
