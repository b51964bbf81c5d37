-- The blocks of a share become as they are seen.
use Rattle.std.proofs.Common.{◌≡◌, ℕ, true, true≢false, List, [], ◌∷◌, ◌==◌, ◌||◌, Option, Some, None, refl, sym, ap, ◌∙◌, subst}
use Rattle.std.specs.Prelude.{slice_get, slice_set}
use Rattle.std.specs.Option.{option_map_or}
use Rattle.std.proofs.lemmas.Option.{none-some}
use mathlib.Core.Logic.{dite}
use native.Mathlib.Decide.{ℕ_discrete}
use Rattle.dc_base.specs.Changes.{Change, apply, block_becomes}
use Rattle.dc_base.specs.Outcomes.{has as in_share}
use Rattle.dc_base.specs.States.{State, Block, Member}
use Rattle.dc_block_sound.proofs.Elements.{other_is, set_here, set_other}
use Rattle.dc_bodies.specs.Ordered.{become_all}

module _ (seen : ℕ → Option Block) where
  -- one block and then the others
  abbrev Step : ℕ → List Member → Option Block → List Change
  Step n ms o = option_map_or (λ x. block_becomes n x ∷ become_all seen ms) o (become_all seen ms)

  cores_by : (n : ℕ) (ms : List Member) → ((u : State) → (apply u (become_all seen ms)).cores ≡ u.cores) → (u : State) (o : Option Block) → (apply u (Step n ms o)).cores ≡ u.cores
  cores_by n ms more u None = more u
  cores_by n ms more u (Some x) = more (record u { blocks = slice_set u.blocks n x })

  -- no core changes
  pub cores_stay : (share : List Member) (u : State) → (apply u (become_all seen share)).cores ≡ u.cores
  cores_stay [] u = refl
  cores_stay (m ∷ ms) u = cores_by m.block ms (cores_stay ms) u (seen m.block)

  mailboxes_by : (n : ℕ) (ms : List Member) → ((u : State) → (apply u (become_all seen ms)).mailboxes ≡ u.mailboxes) → (u : State) (o : Option Block)
      → (apply u (Step n ms o)).mailboxes ≡ u.mailboxes
  mailboxes_by n ms more u None = more u
  mailboxes_by n ms more u (Some x) = more (record u { blocks = slice_set u.blocks n x })

  -- and no mailbox
  pub mailboxes_stay : (share : List Member) (u : State) → (apply u (become_all seen share)).mailboxes ≡ u.mailboxes
  mailboxes_stay [] u = refl
  mailboxes_stay (m ∷ ms) u = mailboxes_by m.block ms (mailboxes_stay ms) u (seen m.block)

  module _ (b : ℕ) (x : Block) (is : seen b ≡ Some x) where
    abbrev There : State → Type 0
    There u = slice_get u.blocks b ≡ Some x

    set_there : (u : State) (n : ℕ) (y z : Block) → seen n ≡ Some y → slice_get u.blocks b ≡ Some z → (n ≡ b → ⊥) → slice_get (slice_set u.blocks n y) b ≡ Some z
    set_there u n y z e at ne = set_other u.blocks n b y ne ∙ at

    set_it : (u : State) (n : ℕ) (y z : Block) → seen n ≡ Some y → slice_get u.blocks b ≡ Some z → n ≡ b → slice_get (slice_set u.blocks n y) b ≡ Some x
    set_it u n y z e at q =
        subst (λ i. slice_get (slice_set u.blocks i y) b ≡ Some x) (sym q)
        (set_here u.blocks b z y at ∙ (sym e ∙ (ap seen q ∙ is)))

    stays_by : (n : ℕ) (ms : List Member) → ((u : State) → There u → There (apply u (become_all seen ms))) → (u : State) → There u → (o : Option Block) → seen n ≡ o → There (apply u (Step n ms o))
    stays_by n ms more u at None e = more u at
    stays_by n ms more u at (Some y) e = more (record u { blocks = slice_set u.blocks n y })
        (dite (ℕ_discrete n b) (λ q. set_it u n y x e at q) (λ q. set_there u n y x e at q))

    stays : (share : List Member) (u : State) → There u → There (apply u (become_all seen share))
    stays [] u at = at
    stays (m ∷ ms) u at = stays_by m.block ms (stays ms) u at (seen m.block) refl

    become_by : (n : ℕ) (ms : List Member) (z : Block) → ((u : State) (z : Block) → slice_get u.blocks b ≡ Some z → in_share ms b ≡ true → There (apply u (become_all seen ms)))
        → (u : State) → slice_get u.blocks b ≡ Some z → (n == b) || in_share ms b ≡ true → (o : Option Block) → seen n ≡ o → There (apply u (Step n ms o))
    become_by n ms z more u at i None e =
        more u z at (ap (λ t. t || in_share ms b) (sym (other_is n b (λ q. none-some x (sym e ∙ (ap seen q ∙ is))))) ∙ i)
    become_by n ms z more u at i (Some y) e = dite (ℕ_discrete n b)
        (λ q. stays ms (record u { blocks = slice_set u.blocks n y }) (set_it u n y z e at q))
        (λ q. more (record u { blocks = slice_set u.blocks n y }) z (set_there u n y z e at q) (ap (λ t. t || in_share ms b) (sym (other_is n b q)) ∙ i))

    -- a block of the share becomes as it is seen
    pub becomes_seen : (share : List Member) (u : State) (z : Block) → slice_get u.blocks b ≡ Some z → in_share share b ≡ true → There (apply u (become_all seen share))
    becomes_seen [] u z at i = absurd (true≢false (sym i))
    becomes_seen (m ∷ ms) u z at i = become_by m.block ms z (becomes_seen ms) u at i (seen m.block) refl
