-- The event at a slice's end, in the state that its plain part left.
use Rattle.std.proofs.Common.{◌≡◌, ℕ, List, [], ◌∷◌, true, Some, None, refl, ap, ◌∙◌, rules}
use Rattle.std.specs.Prelude.{slice_get, ◌==◌, if◌then◌else◌}
use Rattle.dc_base.specs.declared.instructions.Instr.{Instr}
use Rattle.dc_base.specs.declared.calls.Op.{Op}
use Rattle.dc_base.specs.Words.{bind}
use Rattle.dc_base.specs.Kernel.{call_of}
use Rattle.dc_base.specs.Blocks.{Blocks, Block, trapped, trap, call, move_of, in_block, with_life}
use Rattle.dc_base.specs.Effects.{Context, traps, calls, act, op_number, same_op}
use Rattle.dc_base.specs.BlockCalls.{refused, stuck, completed, reply, reply_at, reply_of, if_completed, call_in, refused_by, trapped_by, either_trap, trap_at, trap_in}
use Rattle.dc_base.specs.BlockSteps.{blocks_step}
use Rattle.dc_base.specs.SliceColumns.{holds_by, move_there}
use Rattle.dc_refine.proofs.Leads.{Leads, leads_one, with_block, in_block-at, IsAt, move_of-at}

same_number : (n : ℕ) → n == n ≡ true
same_number n = search rules

trap_step : (s : Blocks) (b d x : ℕ) → blocks_step s (trap b d x) ≡ trap_in s b d x
unfolding blocks_step
trap_step s b d x = refl

call_step : (s : Blocks) (b d : ℕ) (o : Op) → blocks_step s (call b d o) ≡ call_in s b d o
unfolding blocks_step
call_step s b d o = refl

module _ (t : Blocks) (b d : ℕ) (y : Block) (code : List ℕ) (c : Context) (there : slice_get t.blocks b ≡ Some y) (at : IsAt y d code c) where
  trapped_there : bind (slice_get t.blocks b) (λ x. bind (move_of x d) (λ m. trapped_by m.1)) ≡ trapped_by (act y.clock code c y.parts.memory)
  trapped_there = ap (λ o. bind o (λ x. bind (move_of x d) (λ m. trapped_by m.1))) there ∙ ap (λ o. bind o (λ m. trapped_by m.1)) (move_of-at y d code c at)

  pub move_there-is : move_there t b d ≡ Some (act y.clock code c y.parts.memory)
  move_there-is = rw (there, move_of-at y d code c at)

  -- the kernel call there, and what it comes to
  pub reply_of-there : (o : Op) (i : Instr) → act y.clock code c y.parts.memory ≡ calls o i → reply_of t b d ≡ Some (o, reply t b y (call_of y.clock d c i y.parts))
  unfolding reply_of
  reply_of-there o i m =
      ap (λ v. bind v (λ x. bind (move_of x d) (λ m. reply_at t b x d m.0 m.1))) there
      ∙ ap (λ v. bind v (λ m. reply_at t b y d m.0 m.1)) (move_of-at y d code c at)
      ∙ ap (reply_at t b y d c) m

  trapped_then : (x : ℕ) → trap_at t b d ≡ Some x → Leads t (trap b d x ∷ []) (with_block t b (with_life y d (trapped x)))
  unfolding trap_in
  trapped_then x h =
      leads_one t (with_block t b (with_life y d (trapped x))) (trap b d x)
      (trap_step t b d x
      ∙ ap (λ o. bind o (λ z. if x == z then in_block t b (λ block. Some (with_life block d (trapped x))) else None)) h
      ∙ ap (λ v. if v then in_block t b (λ block. Some (with_life block d (trapped x))) else None) (same_number x)
      ∙ in_block-at t b (λ block. Some (with_life block d (trapped x))) y (with_life y d (trapped x)) there refl)

  -- the instruction there traps
  pub leads_trap : (x : ℕ) → act y.clock code c y.parts.memory ≡ traps x → Leads t (trap b d x ∷ []) (with_block t b (with_life y d (trapped x)))
  unfolding trap_at
  leads_trap x m = trapped_then x (ap (λ o. either_trap o (bind (reply_of t b d) (λ a. refused_by a.1))) (trapped_there ∙ ap trapped_by m))

  module _ (o : Op) (i : Instr) (stands : act y.clock code c y.parts.memory ≡ calls o i) where
    -- the call there is refused
    pub leads_refused : (x : ℕ) → reply t b y (call_of y.clock d c i y.parts) ≡ refused x → Leads t (trap b d x ∷ []) (with_block t b (with_life y d (trapped x)))
    unfolding trap_at
    leads_refused x h =
        trapped_then x
        (ap (λ v. either_trap v (bind (reply_of t b d) (λ a. refused_by a.1))) (trapped_there ∙ ap trapped_by stands)
        ∙ ap (λ v. bind v (λ a. refused_by a.1)) (reply_of-there o i stands) ∙ ap refused_by h)

    -- the call there is made
    pub leads_made : (u : Blocks) → reply t b y (call_of y.clock d c i y.parts) ≡ completed u → Leads t (call b d o ∷ []) u
    unfolding call_in
    leads_made u h =
        leads_one t u (call b d o)
        (call_step t b d o
        ∙ ap (λ v. bind v (λ a. if same_op a.0 o then if_completed a.1 else None)) (reply_of-there o i stands)
        ∙ ap (λ v. if v then if_completed (reply t b y (call_of y.clock d c i y.parts)) else None) (same_number (op_number o))
        ∙ ap if_completed h)

    -- the call there holds
    pub holds_there : reply t b y (call_of y.clock d c i y.parts) ≡ stuck → holds_by o (reply_of t b d) ≡ true
    holds_there h = rw (reply_of-there o i stands, h, same_number (op_number o))
