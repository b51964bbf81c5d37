-- Which objects a pass holds, by name.
use Rattle.std.proofs.Common.{◌≡◌, ℕ, Bool, true, false, true≢false, List, [], ◌∷◌, ◌++◌, ◌||◌, ◌==◌, refl, sym, ap, ◌∙◌, inl, inr, map, ⊎_elim}
use Rattle.std.proofs.Common.{ne_eqb}
use Rattle.std.proofs.lemmas.List.{map-append}
use Rattle.std.proofs.lemmas.Option.{same_Some}
use mathlib.Core.Logic.{dite}
use native.Mathlib.Decide.{ℕ_discrete}
use Rattle.dc_base.specs.declared.entries.Entry.{Entry}
use Rattle.dc_base.specs.Changes.{Name, Object}
use Rattle.dc_base.specs.Histories.{Listed}
use Rattle.dc_base.specs.Objects.{name_at}
use Rattle.dc_touch.specs.Within.{Within}
use Rattle.dc_touch.proofs.Numbers.{name_at-number}
use Rattle.dc_stage.specs.Numbers.{has, without}
use Rattle.dc_stage.specs.Passes.{having_put}
use Rattle.dc_stage.proofs.Numbers.{has_cons, has_tail, has_head, has_snoc, without_other, without_same, not_true}
use Rattle.dc_hands.specs.declared.takes.Busy.{Busy}
use Rattle.dc_hands.specs.Machines.{Staged, Passing, number_of}
use Rattle.dc_hands.specs.Holding.{Gets, Misses, Commits}
use Rattle.dc_hands.specs.Hands.{HoldsJust}

same_truth : (b c : Bool) → (b ≡ true → c ≡ true) → (c ≡ true → b ≡ true) → b ≡ c
same_truth true true f g = refl
same_truth false false f g = refl
same_truth true false f g = sym (f refl)
same_truth false true f g = g refl

module _ {D : Type 0} (st : Staged D) where
  -- two objects of the machine do not have the same number
  pub same_name : (m n : Name) → Within st.scene.settings m → Within st.scene.settings n → number_of st m ≡ number_of st n → m ≡ n
  same_name m n v w e = same_Some m n (sym (name_at-number st.scene.settings m v) ∙ (ap (name_at st.scene.settings) e ∙ name_at-number st.scene.settings n w))

  -- each of these is an object of the machine
  abbrev pub AreWithin : List Name → Type 0
  AreWithin ns = (n : Name) → Listed n ns → Within st.scene.settings n

  abbrev numbers_of : List Name → List ℕ
  numbers_of ns = map (number_of st) ns

  pub listed_has : (n : Name) (ns : List Name) → Listed n ns → has (number_of st n) (numbers_of ns) ≡ true
  listed_has n [] h = absurd h
  listed_has n (m ∷ ns) (inl e) = has_head (number_of st n) (number_of st m) (numbers_of ns) (ap (number_of st) e)
  listed_has n (m ∷ ns) (inr h) = has_tail (number_of st n) (number_of st m) (numbers_of ns) (listed_has n ns h)

  pub has_listed : (n : Name) (ns : List Name) → Within st.scene.settings n → AreWithin ns → has (number_of st n) (numbers_of ns) ≡ true → Listed n ns
  has_listed n [] w a h = absurd (true≢false (sym h))
  has_listed n (m ∷ ns) w a h = ⊎_elim
      (λ e. inl (same_name n m w (a m (inl refl)) e))
      (λ k. inr (has_listed n ns w (λ x l. a x (inr l)) k))
      (has_cons (number_of st n) (number_of st m) (numbers_of ns) h)

  -- an object that is not listed has no number of these
  pub unlisted : (n : Name) (ns : List Name) → Within st.scene.settings n → AreWithin ns → (Listed n ns → ⊥) → has (number_of st n) (numbers_of ns) ≡ false
  unlisted n ns w a out = not_true (has (number_of st n) (numbers_of ns)) (λ h. out (has_listed n ns w a h))

  has_only : (ms ns : List Name) → ((n : Name) → Listed n ms → Listed n ns) → (i : ℕ) → has i (numbers_of ms) ≡ true → has i (numbers_of ns) ≡ true
  has_only [] ns only i h = absurd (true≢false (sym h))
  has_only (m ∷ ms) ns only i h = ⊎_elim
      (λ e. ap (λ j. has j (numbers_of ns)) e ∙ listed_has m ns (only m (inl refl)))
      (λ k. has_only ms ns (λ n l. only n (inr l)) i k)
      (has_cons i (number_of st m) (numbers_of ms) h)

  -- the same objects in another order
  pub just_alike : (k : Passing D) (ms ns : List Name) → ((n : Name) → Listed n ms → Listed n ns) → ((n : Name) → Listed n ns → Listed n ms)
      → HoldsJust st k ms → HoldsJust st k ns
  just_alike k ms ns f g h i = h i ∙ same_truth (has i (numbers_of ms)) (has i (numbers_of ns)) (has_only ms ns f i) (has_only ns ms g i)

  -- one object goes last
  pub just_last : (k : Passing D) (n : Name) (ns : List Name) → HoldsJust st k (n ∷ ns) → HoldsJust st k (ns ++ n ∷ [])
  just_last k n ns h i = h i ∙ sym (ap (has i) (map-append (number_of st) ns (n ∷ [])) ∙ has_snoc i (number_of st n) (numbers_of ns))

  -- the last object goes first
  pub just_first : (k : Passing D) (n : Name) (ns : List Name) → HoldsJust st k (ns ++ n ∷ []) → HoldsJust st k (n ∷ ns)
  just_first k n ns h i = h i ∙ (ap (has i) (map-append (number_of st) ns (n ∷ [])) ∙ has_snoc i (number_of st n) (numbers_of ns))

  pub just_held : (k : Passing D) (n : Name) (ns : List Name) → HoldsJust st k ns → Listed n ns → has (number_of st n) k.holds ≡ true
  just_held k n ns h l = h (number_of st n) ∙ listed_has n ns l

  -- an object that is not listed is not held
  pub not_held : (k : Passing D) (n : Name) (ns : List Name) → HoldsJust st k ns → Within st.scene.settings n → AreWithin ns → (Listed n ns → ⊥)
      → has (number_of st n) k.holds ≡ false
  not_held k n ns h w a out = h (number_of st n) ∙ unlisted n ns w a out

  pub just_taken : (k l : Passing D) (n : Name) (o : Object) (ns : List Name) → HoldsJust st k ns → Gets st k l n o → HoldsJust st l (n ∷ ns)
  just_taken k l n o ns h g i = ap (λ (p : Passing D). has i p.holds) g.same ∙ ap (λ b. (i == number_of st n) || b) (h i)

  pub just_missed : (k l : Passing D) (n : Name) (b : Busy) (ns : List Name) → HoldsJust st k ns → Misses st k l n b → HoldsJust st l ns
  just_missed k l n b ns h g i = ap (λ (p : Passing D). has i p.holds) g.same ∙ h i

  pub just_made : (k l : Passing D) (e : Entry) (t : ℕ) (ns : List Name) → HoldsJust st k ns → Commits st k l e t → HoldsJust st l ns
  just_made k l e t ns h c i = ap (λ (p : Passing D). has i p.holds) c.same ∙ h i

  -- the object that is first goes back
  pub just_put : (k l : Passing D) (n : Name) (ns : List Name) → HoldsJust st k (n ∷ ns) → has (number_of st n) (numbers_of ns) ≡ false
      → l ≡ having_put k (number_of st n) → HoldsJust st l ns
  just_put k l n ns h out e i = ap (λ (p : Passing D). has i p.holds) e ∙ dite (ℕ_discrete i (number_of st n))
      (λ q. ap (λ j. has j (without (number_of st n) k.holds)) q
      ∙ (without_same (number_of st n) k.holds ∙ (sym out ∙ ap (λ j. has j (numbers_of ns)) (sym q))))
      (λ q. without_other i (number_of st n) k.holds q ∙ (h i ∙ ap (λ b. b || has i (numbers_of ns)) (ne_eqb i (number_of st n) q)))

  -- an object that was taken and is put back leaves the others
  pub just_back : (k l : Passing D) (n : Name) (ns : List Name) → HoldsJust st k (n ∷ ns) → Within st.scene.settings n → AreWithin ns → (Listed n ns → ⊥)
      → l ≡ having_put k (number_of st n) → HoldsJust st l ns
  just_back k l n ns h w a out e = just_put k l n ns h (unlisted n ns w a out) e

  -- other objects have other numbers
  pub other_number : (m n : Name) → Within st.scene.settings m → Within st.scene.settings n → (m ≡ n → ⊥) → number_of st m ≡ number_of st n → ⊥
  other_number m n v w ne e = ne (same_name m n v w e)
