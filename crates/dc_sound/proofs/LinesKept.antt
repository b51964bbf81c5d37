-- All capabilities of a line stand in one block at most, and in none while it is offered: each entry keeps this.
use Rattle.std.proofs.Common.{◌≡◌, ◌⊎◌, ℕ, ◌+◌, ◌≤◌, List, [], ◌∷◌, Bool, true, false, Option, Some, None, refl, sym, ap, ◌∙◌, subst, inl, inr, arith}
use Rattle.std.specs.Prelude.{slice_get, IsSome, IfSome, ⊤}
use Rattle.dc_base.specs.declared.interrupts.Latched.{Latched}
use Rattle.dc_base.specs.declared.interrupts.Latched.TheVariants as how
use Rattle.dc_base.specs.declared.kernels.Version.{Version}
use Rattle.dc_base.specs.Words.{Each}
use Rattle.dc_base.specs.Changes.{Change, core_becomes, block_becomes, line_becomes, apply}
use Rattle.dc_base.specs.ControlBlocks.{ControlBlock}
use Rattle.dc_base.specs.Kernel.{Call, gives}
use Rattle.dc_base.specs.KeptOutside.{KeepsLines, has_cap_of_line}
use Rattle.dc_base.specs.Lines.{Wire, wire_after, wire_after_raise, wire_after_intake}
use Rattle.dc_base.specs.Parts.{Parts}
use Rattle.dc_base.specs.Slices.{Halfway, stopped, stands, need_of, slice_end}
use Rattle.dc_base.specs.States.{State, Core, Block, with_control}
use Rattle.dc_base.specs.NeededLooks.{outside_change}
use Rattle.dc_block_sound.proofs.ControlSteps.{Steps}
use Rattle.dc_block_sound.proofs.Elements.{SetCase, set_now, set_before, set_case}
use Rattle.dc_block_sound.proofs.OutsideAt.{outside_at}
use Rattle.dc_block_sound.proofs.LineCaps.{AreLines, lines_of, are_lines, lines_along}
use Rattle.dc_sound.proofs.Rules.{Rule, no_rule, Obeys, Fine, kept}
use Rattle.dc_sound.proofs.SliceFacts.{HalfLaws, fine_slice}
use Rattle.dc_block_sound.proofs.Walks.{HalfClaims, CallClaims}

-- block b had a capability of the line
abbrev pub Had : State → ℕ → ℕ → Type 0
Had s l b = (x : Block) × (slice_get s.blocks b ≡ Some x) × (has_cap_of_line l x.control ≡ true)

abbrev pub WasOffered : State → ℕ → Type 0
WasOffered s l = (w : Wire) × (slice_get s.lines l ≡ Some w) × IsSome w.offer

-- a line as it is now, where O says which lines may be offered
pub record WireNow (O : ℕ → Type 0) (l : ℕ) (w : Wire) : Type 0 where
  pub offered : IsSome w.offer → O l
  pub rights : IfSome w.offer (λ (o : ℕ × ℕ). o.1 ≤ 7)
  pub pending : IfSome w.pending (λ n. n ≤ w.counts.raised)

none_true : false ≡ true → ⊥
none_true e = cc

-- M says which block may have capabilities of which line
module _ (t : State) (M : ℕ → ℕ → Type 0) (O : ℕ → Type 0) (blocks : (b : ℕ) (x : Block) → slice_get t.blocks b ≡ Some x → (l : ℕ) → has_cap_of_line l x.control ≡ true → M l b) (lines : Each t.lines (WireNow O)) where
  none_has : (l b : ℕ) (x : Block) → slice_get t.blocks b ≡ Some x → (M l b → ⊥) → (u : Bool) → has_cap_of_line l x.control ≡ u → u ≡ false
  none_has l b x q f true e = absurd (f (blocks b x q l e))
  none_has l b x q f false e = refl

  concluded : ((l b c : ℕ) → M l b → M l c → b ≡ c) → ((l b : ℕ) → O l → M l b → ⊥) → KeepsLines t
  concluded one none = record {
    one = λ l b c x y e f g h. one l b c (blocks b x e l g) (blocks c y f l h);
    none = λ l w e o b x q. none_has l b x q (λ m. none l b ((lines l w e).offered o) m) (has_cap_of_line l x.control) refl;
    rights = λ l w e. (lines l w e).rights;
    pending = λ l w e. (lines l w e).pending;
  }

module _ (s : State) (p : KeepsLines s) where
  pub had_one : (l b c : ℕ) → Had s l b → Had s l c → b ≡ c
  had_one l b c h k = p.one l b c h.0 k.0 h.1 k.1 h.2 k.2

  pub had_none : (l b : ℕ) → WasOffered s l → Had s l b → ⊥
  had_none l b o h = let z : false ≡ true = sym (p.none l o.0 o.1 o.2 b h.0 h.1) ∙ h.2 in cc

  -- an entry that gives no line and claims none

  abbrev pub lines_rule : Rule
  lines_rule = record no_rule { block = λ b x. (l : ℕ) → has_cap_of_line l x.control ≡ true → Had s l b; line = WireNow (WasOffered s) }

  pub old_block : (b : ℕ) (x : Block) → slice_get s.blocks b ≡ Some x → (l : ℕ) → has_cap_of_line l x.control ≡ true → Had s l b
  old_block b x q l h = (x, q, h)

  pub old_line : (l : ℕ) (w : Wire) → slice_get s.lines l ≡ Some w → WireNow (WasOffered s) l w
  old_line l w q = record { offered = λ o. (w, q, o); rights = p.rights l w q; pending = p.pending l w q }

  pub obeyed : Obeys lines_rule s
  obeyed = record { cores = λ c k e. tt; blocks = old_block; channels = λ x r e. tt; lines = old_line; mailboxes = λ c m e. tt; consoles = λ b ws e. tt; script = tt }

  pub plain_kept : (chs : List Change) → Fine lines_rule chs → KeepsLines (apply s chs)
  plain_kept chs f = let o = kept lines_rule chs s f obeyed in concluded (apply s chs) (Had s) (WasOffered s) o.blocks o.lines had_one had_none

  -- changes of a control block that claim nothing
  pub along : (b d : ℕ) (C : ℕ → Type 0) → ((l : ℕ) → C l → ⊥) → (x : Block) → slice_get s.blocks b ≡ Some x → (y : ControlBlock) → Steps s d C x.control y → AreLines (λ l. Had s l b) y
  along b d C free x q y st = lines_along s d C (λ l. Had s l b) (λ l c. absurd (free l c)) x.control y st (are_lines (λ l. Had s l b) x.control (old_block b x q))

  pub along_block : (b d : ℕ) (C : ℕ → Type 0) → ((l : ℕ) → C l → ⊥) → (x : Block) → slice_get s.blocks b ≡ Some x → (y : ControlBlock) → Steps s d C x.control y → (l : ℕ) → has_cap_of_line l y ≡ true → Had s l b
  along_block b d C free x q y st = lines_of (λ l. Had s l b) y (along b d C free x q y st)

  raised_by : (l : ℕ) (w : Wire) (to : Option (ℕ × ℕ)) (n : Option ℕ) → w.pending ≡ n → WireNow (WasOffered s) l w → WireNow (WasOffered s) l (wire_after w to n)
  raised_by l w None n q h = record { offered = h.offered; rights = h.rights; pending = more w.pending h.pending }
    where
      more : (o : Option ℕ) → IfSome o (λ n. n ≤ w.counts.raised) → IfSome o (λ n. n ≤ w.counts.raised + 1)
      more None h = tt
      more (Some m) h = omega (arith, h)
  raised_by l w (Some to) None q h = record { offered = h.offered; rights = h.rights; pending = omega arith }
  raised_by l w (Some to) (Some n) q h = record { offered = h.offered; rights = h.rights; pending = more w.pending h.pending }
    where
      more : (o : Option ℕ) → IfSome o (λ n. n ≤ w.counts.raised) → IfSome o (λ n. n ≤ w.counts.raised + 1)
      more None h = tt
      more (Some m) h = omega (arith, h)

  pub raised : (l : ℕ) (w : Wire) → WireNow (WasOffered s) l w → WireNow (WasOffered s) l (wire_after_raise w)
  unfolding wire_after_raise
  raised l w h = raised_by l w w.bound w.pending refl h

  pub taken_in : (l : ℕ) (w : Wire) (h : Latched) → WireNow (WasOffered s) l w → WireNow (WasOffered s) l (wire_after_intake h w)
  unfolding wire_after_intake
  taken_in l w how.Latched h = record { offered = h.offered; rights = h.rights; pending = tt }
  taken_in l w how.Coalesced h = record { offered = h.offered; rights = h.rights; pending = tt }

  -- a slice whose call gives no line and claims none

  pub record IsPlain (call : Call) : Type 0 where
    pub gives_none : (l x rights : ℕ) (q : Parts) (w : Wire) → call ≡ gives l x rights q → slice_get s.lines l ≡ Some w → ⊥
    pub claims_none : (l : ℕ) → CallClaims s call l → ⊥

  abbrev pub IsPlainHalf : Halfway → Type 0
  IsPlainHalf (stopped y ran e) = ⊤
  IsPlainHalf (stands y ran o call) = IsPlain call

  no_claims : (h : Halfway) → IsPlainHalf h → (l : ℕ) → HalfClaims s h l → ⊥
  no_claims (stopped y ran e) f l c = c
  no_claims (stands y ran o call) f l c = f.claims_none l c

  plain_half : (c b : ℕ) (h : Halfway) → IsPlainHalf h → HalfLaws lines_rule s c b h
  plain_half c b (stopped y ran e) f = tt
  plain_half c b (stands y ran o call) f = record {
    prints_to = λ w p ws q h i. tt;
    sends_to = λ x m p r new q h i. tt;
    takes_from = λ x a p r got q h i. tt;
    binds_to = λ l n q w g h. (let old = old_line l w h in record { offered = old.offered; rights = old.rights; pending = old.pending });
    gives_over = λ l x rights q w g h. absurd (f.gives_none l x rights q w g h);
    claims_it = λ l x slot rights q w g h i. absurd (f.claims_none l (subst (λ k. CallClaims s k l) (sym g) (refl, (w, h, (rights, i)))));
  }

  -- a slice of block b

  module _ (c b d : ℕ) (v : Version) (core : Core) (x : Block) (at : slice_get s.blocks b ≡ Some x) where
    abbrev pub ended : Halfway → ControlBlock
    ended h = (slice_end c b v d h (outside_at s b (need_of h))).control

    abbrev pub changes_of : Halfway → List Change
    changes_of h = core_becomes c core ∷ block_becomes b (with_control (ended h) x) ∷ outside_change b (slice_end c b v d h (outside_at s b (need_of h))).need (slice_end c b v d h (outside_at s b (need_of h))).outside

    pub slice_plain : (h : Halfway) → IsPlainHalf h → Steps s d (HalfClaims s h) x.control (ended h) → KeepsLines (apply s (changes_of h))
    slice_plain h f st = plain_kept (changes_of h) (tt, (along_block b d (HalfClaims s h) (no_claims h f) x at (ended h) st, fine_slice lines_rule s obeyed c b v d h (plain_half c b h f)))

    -- a line that is changed beside the block
    abbrev pub changes_with : ControlBlock → ℕ → Wire → List Change
    changes_with y l w = core_becomes c core ∷ block_becomes b (with_control y x) ∷ line_becomes l w ∷ []

    -- line l is given: the block has none of it any more
    pub given_kept : (l : ℕ) (w : Wire) (y : ControlBlock) → Had s l b → (has_cap_of_line l y ≡ true → ⊥) → ((m : ℕ) → has_cap_of_line m y ≡ true → Had s m b) → IfSome w.offer (λ (o : ℕ × ℕ). o.1 ≤ 7) → IfSome w.pending (λ n. n ≤ w.counts.raised) →
        KeepsLines (apply s (changes_with y l w))
    given_kept l w y had gone others rights pending = concluded (apply s (changes_with y l w)) M O blocks lines one none
      where
        M : ℕ → ℕ → Type 0
        M m e = Had s m e × (m ≡ l → ⊥)

        O : ℕ → Type 0
        O m = WasOffered s m ⊎ (m ≡ l)

        block_now : (e : ℕ) (z : Block) → SetCase s.blocks b (with_control y x) e z → (m : ℕ) → has_cap_of_line m z.control ≡ true → M m e
        block_now e z (set_now same q) m h =
            let k : has_cap_of_line m y ≡ true = ap (λ (u : Block). has_cap_of_line m u.control) (sym q) ∙ h in
            (subst (Had s m) same (others m k), λ g. gone (subst (λ n. has_cap_of_line n y ≡ true) g k))
        block_now e z (set_before other q) m h = ((z, q, h), λ g. other (had_one l b e had (subst (λ n. Had s n e) g (z, q, h))))

        blocks : (e : ℕ) (z : Block) → slice_get (apply s (changes_with y l w)).blocks e ≡ Some z → (m : ℕ) → has_cap_of_line m z.control ≡ true → M m e
        blocks e z q = block_now e z (set_case s.blocks b (with_control y x) e z q)

        line_now : (m : ℕ) (u : Wire) → SetCase s.lines l w m u → WireNow O m u
        line_now m u (set_now same q) = subst (WireNow O m) (sym q) (record { offered = λ o. inr (sym same); rights = rights; pending = pending })
        line_now m u (set_before other q) = let old = old_line m u q in record { offered = λ o. inl (old.offered o); rights = old.rights; pending = old.pending }

        lines : Each (apply s (changes_with y l w)).lines (WireNow O)
        lines m u q = line_now m u (set_case s.lines l w m u q)

        one : (m e f : ℕ) → M m e → M m f → e ≡ f
        one m e f g h = had_one m e f g.0 h.0

        none : (m e : ℕ) → O m → M m e → ⊥
        none m e (inl o) h = had_none m e o h.0
        none m e (inr same) h = h.1 same

    -- line l, which was offered, is claimed
    pub claimed_kept : (l : ℕ) (old : Wire) → slice_get s.lines l ≡ Some old → IsSome old.offer → (y : ControlBlock) → ((m : ℕ) → has_cap_of_line m y ≡ true → Had s m b ⊎ (m ≡ l)) → KeepsLines (apply s (changes_with y l (record old { offer = None })))
    claimed_kept l old at_line is_offered y has = concluded (apply s (changes_with y l new)) M O blocks lines one none
      where
        new : Wire
        new = record old { offer = None }

        M : ℕ → ℕ → Type 0
        M m e = (Had s m e × (m ≡ l → ⊥)) ⊎ ((m ≡ l) × (e ≡ b))

        O : ℕ → Type 0
        O m = WasOffered s m × (m ≡ l → ⊥)

        -- no block had it
        apart : (m e : ℕ) → Had s m e → m ≡ l → ⊥
        apart m e h g = had_none m e (subst (WasOffered s) (sym g) (old, at_line, is_offered)) h

        by_has : (m e : ℕ) → b ≡ e → Had s m b ⊎ (m ≡ l) → M m e
        by_has m e same (inl h) = let k = subst (Had s m) same h in inl (k, apart m e k)
        by_has m e same (inr g) = inr (g, sym same)

        block_now : (e : ℕ) (z : Block) → SetCase s.blocks b (with_control y x) e z → (m : ℕ) → has_cap_of_line m z.control ≡ true → M m e
        block_now e z (set_now same q) m h = by_has m e same (has m (ap (λ (u : Block). has_cap_of_line m u.control) (sym q) ∙ h))
        block_now e z (set_before other q) m h = inl ((z, q, h), apart m e (z, q, h))

        blocks : (e : ℕ) (z : Block) → slice_get (apply s (changes_with y l new)).blocks e ≡ Some z → (m : ℕ) → has_cap_of_line m z.control ≡ true → M m e
        blocks e z q = block_now e z (set_case s.blocks b (with_control y x) e z q)

        line_now : (m : ℕ) (u : Wire) → SetCase s.lines l new m u → WireNow O m u
        line_now m u (set_now same q) = subst (WireNow O m) (sym q) (record { offered = λ o. absurd (none_true o); rights = tt; pending = p.pending l old at_line })
        line_now m u (set_before other q) = let was = old_line m u q in record { offered = λ o. (was.offered o, λ g. other (sym g)); rights = was.rights; pending = was.pending }

        lines : Each (apply s (changes_with y l new)).lines (WireNow O)
        lines m u q = line_now m u (set_case s.lines l new m u q)

        one : (m e f : ℕ) → M m e → M m f → e ≡ f
        one m e f (inl g) (inl h) = had_one m e f g.0 h.0
        one m e f (inl g) (inr h) = absurd (g.1 h.0)
        one m e f (inr g) (inl h) = absurd (h.1 g.0)
        one m e f (inr g) (inr h) = g.1 ∙ sym h.1

        none : (m e : ℕ) → O m → M m e → ⊥
        none m e o (inl h) = had_none m e o.0 h.0
        none m e o (inr h) = o.1 h.0
