-- Runs of the machine of blocks, put together from parts.
use Rattle.std.proofs.Common.{◌≡◌, subst, ℕ, List, [], ◌∷◌, ◌++◌, Option, Some, refl, ap, ◌∙◌}
use Rattle.std.specs.Prelude.{slice_get, slice_set}
use Rattle.std.proofs.lemmas.List.{set-set}
use Rattle.dc_base.specs.Words.{bind}
use Rattle.dc_base.specs.Blocks.{Blocks, Block, live, Event, instr, fire, move_of, instr_in, in_block}
use Rattle.dc_base.specs.Effects.{Context, act}
use Rattle.dc_base.specs.BlockSteps.{fire_in, blocks_step, run_on}
use Rattle.dc_base.proofs.RunLaws.{run_on-append}
use Rattle.dc_refine.proofs.Elements.{slice_get-set_same, slice_set-same}

-- these events lead from one state to another
pub record Leads (s : Blocks) (es : List Event) (t : Blocks) : Type 0 where
  pub by : run_on s es ≡ Some t

pub leads_none : (s : Blocks) → Leads s [] s
leads_none s = record { by = refl }

pub leads_one : (s t : Blocks) (e : Event) → blocks_step s e ≡ Some t → Leads s (e ∷ []) t
leads_one s t e h = record { by = ap (λ o. bind o (λ next. run_on next [])) h }

pub leads_both : (s t u : Blocks) (es fs : List Event) → Leads s es t → Leads t fs u → Leads s (es ++ fs) u
leads_both s t u es fs l m = record { by = run_on-append s es fs ∙ ap (λ o. bind o (λ v. run_on v fs)) l.by ∙ m.by }

-- one state of block b, in the place of another
abbrev pub with_block : Blocks → ℕ → Block → Blocks
with_block s b x = record s { blocks = slice_set s.blocks b x }

-- these events lead block b from one state to another
pub record LeadsIn (b : ℕ) (x : Block) (es : List Event) (y : Block) : Type 0 where
  pub within : (s : Blocks) → slice_get s.blocks b ≡ Some x → Leads s es (with_block s b y)

pub in_block-at : (s : Blocks) (b : ℕ) (f : Block → Option Block) (x y : Block) → slice_get s.blocks b ≡ Some x → f x ≡ Some y → in_block s b f ≡ Some (with_block s b y)
in_block-at s b f x y h e = ap (λ o. bind o (λ block. bind (f block) (λ new. Some (with_block s b new)))) h ∙ ap (λ o. bind o (λ new. Some (with_block s b new))) e

pub leads_in_one : (b : ℕ) (x y : Block) (e : Event) (f : Block → Option Block) → ((s : Blocks) → blocks_step s e ≡ in_block s b f) → f x ≡ Some y → LeadsIn b x (e ∷ []) y
leads_in_one b x y e f step h = record { within = λ s at. leads_one s (with_block s b y) e (step s ∙ in_block-at s b f x y at h) }

pub leads_in_none : (b : ℕ) (x : Block) → LeadsIn b x [] x
leads_in_none b x = record { within = λ s at. record { by = ap (λ l. Some (record s { blocks = l })) (ap (λ l. l) (same s at)) } }
  where
    same : (s : Blocks) → slice_get s.blocks b ≡ Some x → s.blocks ≡ slice_set s.blocks b x
    same s at = let e = slice_set-same s.blocks b x at in cc

pub leads_in_both : (b : ℕ) (x y z : Block) (es fs : List Event) → LeadsIn b x es y → LeadsIn b y fs z → LeadsIn b x (es ++ fs) z
leads_in_both b x y z es fs l m = record {
  within = λ s at.
      let first = l.within s at in
      let second = m.within (with_block s b y) (slice_get-set_same s.blocks b x y at) in
      let same : with_block (with_block s b y) b z ≡ with_block s b z = ap (λ l. record s { blocks = l }) (set-set s.blocks b y z) in
      subst (λ t. Leads s (es ++ fs) t) same (leads_both s (with_block s b y) (with_block (with_block s b y) b z) es fs first second);
}

step_instr : (s : Blocks) (b d : ℕ) → blocks_step s (instr b d) ≡ in_block s b (instr_in d)
unfolding blocks_step
step_instr s b d = refl

step_fire : (s : Blocks) (b : ℕ) → blocks_step s (fire b) ≡ in_block s b fire_in
unfolding blocks_step
step_fire s b = refl

pub leads_instr : (b d : ℕ) (x y : Block) → instr_in d x ≡ Some y → LeadsIn b x (instr b d ∷ []) y
leads_instr b d x y h = leads_in_one b x y (instr b d) (instr_in d) (λ s. step_instr s b d) h

pub leads_fire : (b : ℕ) (x y : Block) → fire_in x ≡ Some y → LeadsIn b x (fire b ∷ []) y
leads_fire b x y h = leads_in_one b x y (fire b) fire_in (λ s. step_fire s b) h

-- dispatcher d of the block is live, with this code and this context
pub record IsAt (x : Block) (d : ℕ) (code : List ℕ) (c : Context) : Type 0 where
  pub life : slice_get x.lives d ≡ Some live
  pub code_at : slice_get x.parts.code d ≡ Some code
  pub context_at : slice_get x.parts.contexts d ≡ Some c

pub move_of-at : (x : Block) (d : ℕ) (code : List ℕ) (c : Context) → IsAt x d code c → move_of x d ≡ Some (c, act x.clock code c x.parts.memory)
unfolding move_of
move_of-at x d code c at = rw (at.life, at.code_at, at.context_at)
