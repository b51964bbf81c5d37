-- The blocks in their places after those of a share changed.
use Rattle.std.proofs.Common.{◌≡◌, ℕ, zero, suc, List, [], ◌∷◌, Bool, true, false, Option, Some, None, refl, sym, ap, ◌∙◌, subst}
use Rattle.std.specs.Prelude.{slice_get, slice_set, is_some, ◌==◌, ◌||◌}
use Rattle.std.specs.Option.{option_map, option_map_or}
use Rattle.dc_base.specs.declared.actions.Action.TheVariants as action
use Rattle.dc_base.specs.declared.actions.Actor.TheVariants as actor
use Rattle.dc_base.specs.declared.entries.Entry.{Entry}
use Rattle.dc_base.specs.declared.numbers.CoreNo.{CoreNo}
use Rattle.dc_base.specs.Changes.{apply, block_becomes, core_becomes, mailbox_becomes}
use Rattle.dc_base.specs.Cores.{core_step}
use Rattle.dc_base.specs.Outcomes.{has}
use Rattle.dc_base.specs.States.{State, Core, Block, Mailbox, Member}
use Rattle.dc_block_sound.proofs.Elements.{is_same, not_same, set_other}
use Rattle.dc_bodies.specs.declared.stops.Stepped.TheVariants as stepped
use Rattle.dc_bodies.specs.Handing.{AreChanged}
use Rattle.dc_bodies.specs.Ordered.{become_all, DoesOrder}
use Rattle.dc_machine.specs.Answers.{Answers}
use Rattle.dc_machine.proofs.Bodies.{did_answers}

-- lists by their elements

no_some : {A : Type 0} (o : Option A) → is_some o ≡ false → o ≡ None
no_some None e = refl
no_some (Some x) e = absurd cc

some_set : {A : Type 0} (xs : List A) (i : ℕ) (y : A) (b : ℕ) → is_some (slice_get (slice_set xs i y) b) ≡ is_some (slice_get xs b)
some_set [] i y b = refl
some_set (x ∷ xs) zero y zero = refl
some_set (x ∷ xs) zero y (suc b) = refl
some_set (x ∷ xs) (suc i) y zero = refl
some_set (x ∷ xs) (suc i) y (suc b) = some_set xs i y b

set_some : {A : Type 0} (xs : List A) (i : ℕ) (y : A) → is_some (slice_get xs i) ≡ true → slice_get (slice_set xs i y) i ≡ Some y
set_some [] i y e = absurd cc
set_some (x ∷ xs) zero y e = refl
set_some (x ∷ xs) (suc i) y e = set_some xs i y e

same_list : {A : Type 0} (xs ys : List A) → ((b : ℕ) → slice_get xs b ≡ slice_get ys b) → xs ≡ ys
same_list [] [] h = refl
same_list [] (y ∷ ys) h = absurd (let z : None ≡ Some y = h 0 in cc)
same_list (x ∷ xs) [] h = absurd (let z : Some x ≡ None = h 0 in cc)
same_list (x ∷ xs) (y ∷ ys) h = let first : x ≡ y = (let z : Some x ≡ Some y = h 0 in cc) in ap (λ a. a ∷ xs) first ∙ ap (λ more. y ∷ more) (same_list xs ys (λ b. h (suc b)))

-- the blocks of a share put where they belong

abbrev set_one : List Block → ℕ → Option Block → List Block
set_one xs b o = option_map_or (λ x. slice_set xs b x) o xs

abbrev set_all : (ℕ → Option Block) → List Member → List Block → List Block
set_all seen [] xs = xs
set_all seen (m ∷ ms) xs = set_all seen ms (set_one xs m.block (seen m.block))

module _ (seen : ℕ → Option Block) where
  one_applied : (b : ℕ) (ms : List Member) → ((s : State) → apply s (become_all seen ms) ≡ record s { blocks = set_all seen ms s.blocks }) → (s : State) (o : Option Block) →
      apply s (option_map_or (λ x. block_becomes b x ∷ become_all seen ms) o (become_all seen ms)) ≡ record s { blocks = set_all seen ms (set_one s.blocks b o) }
  one_applied b ms more s None = more s
  one_applied b ms more s (Some x) = more (record s { blocks = slice_set s.blocks b x })

  all_applied : (share : List Member) (s : State) → apply s (become_all seen share) ≡ record s { blocks = set_all seen share s.blocks }
  all_applied [] s = refl
  all_applied (m ∷ ms) s = one_applied m.block ms (all_applied ms) s (seen m.block)

module _ (new : List Block) where
  abbrev Alike : List Block → Type 0
  Alike xs = (b : ℕ) → is_some (slice_get xs b) ≡ is_some (slice_get new b)

  abbrev Others : List Member → List Block → Type 0
  Others share xs = (b : ℕ) → has share b ≡ false → slice_get xs b ≡ slice_get new b

  module _ (m : Member) (ms : List Member) (xs : List Block) (alike : Alike xs) (h : Others (m ∷ ms) xs) where
    put_by : (x : Block) → slice_get new m.block ≡ Some x → (b : ℕ) → has ms b ≡ false → (t : Bool) → (m.block == b) ≡ t → slice_get (slice_set xs m.block x) b ≡ slice_get new b
    put_by x e b k true q = subst (λ n. slice_get (slice_set xs m.block x) n ≡ slice_get new n) (is_same m.block b q) (set_some xs m.block x (alike m.block ∙ ap is_some e) ∙ sym e)
    put_by x e b k false q = set_other xs m.block b x (not_same m.block b q) ∙ h b (ap (λ t. t || has ms b) q ∙ k)

    past_by : slice_get new m.block ≡ None → (b : ℕ) → has ms b ≡ false → (t : Bool) → (m.block == b) ≡ t → slice_get xs b ≡ slice_get new b
    past_by e b k true q = let n : slice_get new b ≡ None = subst (λ n. slice_get new n ≡ None) (is_same m.block b q) e in no_some (slice_get xs b) (alike b ∙ ap is_some n) ∙ sym n
    past_by e b k false q = h b (ap (λ t. t || has ms b) q ∙ k)

    one_set : ((ys : List Block) → Alike ys → Others ms ys → set_all (slice_get new) ms ys ≡ new) → (o : Option Block) → slice_get new m.block ≡ o → set_all (slice_get new) ms (set_one xs m.block o) ≡ new
    one_set more None e = more xs alike (λ b k. past_by e b k (m.block == b) refl)
    one_set more (Some x) e = more (slice_set xs m.block x) (λ b. some_set xs m.block x b ∙ alike b) (λ b k. put_by x e b k (m.block == b) refl)

  all_set : (share : List Member) (xs : List Block) → Alike xs → Others share xs → set_all (slice_get new) share xs ≡ new
  all_set [] xs alike h = same_list xs new (λ b. h b refl)
  all_set (m ∷ ms) xs alike h = one_set m ms xs alike h (all_set ms) (slice_get new m.block) refl

module _ (f : Block → Block) (share : List Member) (old new : List Block) (c : AreChanged f share (slice_get old) (slice_get new)) where
  mapped : (o : Option Block) → is_some (option_map f o) ≡ is_some o
  mapped None = refl
  mapped (Some x) = refl

  alike_by : (b : ℕ) (t : Bool) → has share b ≡ t → is_some (slice_get old b) ≡ is_some (slice_get new b)
  alike_by b true h = sym (ap is_some (c.here b h) ∙ mapped (slice_get old b))
  alike_by b false h = sym (ap is_some (c.others b h))

  all_new : set_all (slice_get new) share old ≡ new
  all_new = all_set new share old (λ b. alike_by b (has share b) refl) (λ b h. sym (c.others b h))

-- what an order answers that changes the blocks of a share
pub share_answers : (s : State) (c : CoreNo) (k : Core) (m : Mailbox) (f : Block → Block) (share : List Member) (new : List Block) (e : Entry) → AreChanged f share (slice_get s.blocks) (slice_get new) →
    DoesOrder s c.0 (core_becomes c.0 k ∷ mailbox_becomes c.0 m ∷ become_all (slice_get new) share) e →
    Answers (stepped.Did e) s (record s { cores = slice_set s.cores c.0 k; mailboxes = slice_set s.mailboxes c.0 m; blocks = new }) (core_step s 0 (actor.Core c) action.Order)
share_answers s c k m f share new e changed does =
    let t : State = record s { cores = slice_set s.cores c.0 k; mailboxes = slice_set s.mailboxes c.0 m } in
    let after : apply t (become_all (slice_get new) share) ≡ record t { blocks = new } = all_applied (slice_get new) share t ∙ ap (λ bs. record t { blocks = bs }) (all_new f share s.blocks new changed) in
    subst (λ u. Answers (stepped.Did e) s u (core_step s 0 (actor.Core c) action.Order)) after
    (did_answers s (actor.Core c) action.Order (core_becomes c.0 k ∷ mailbox_becomes c.0 m ∷ become_all (slice_get new) share) e does 0)
