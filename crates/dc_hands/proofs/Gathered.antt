-- A pass that gathers objects goes on, and what becomes of a take that is refused.
use Rattle.std.proofs.Common.{◌≡◌, ◌⊎◌, ℕ, ◌+◌, List, [], ◌∷◌, length, refl, sym, ap, ◌∙◌, subst, inl, inr}
use Rattle.dc_base.specs.Changes.{Name, Object, a_core, a_block}
use Rattle.dc_stage.specs.Passes.{IsAlone, having_put}
use Rattle.dc_stage.specs.History.{own}
use Rattle.dc_hands.specs.declared.takes.Busy.{Busy}
use Rattle.dc_hands.specs.Machines.{Staged, Passing, state_after, number_of}
use Rattle.dc_hands.specs.Holding.{GoesOn, Gets, Misses}
use Rattle.dc_hands.specs.Gathering.{GoesQuietly, MissesOne, FailsToGather, IsInShare}
use Rattle.dc_hands.specs.Rows.{Rowed, no_row}
use Rattle.dc_hands.proofs.Seeing.{goes_now, goes_through, goes_taken, goes_missed}

module _ {D : Type 0} where
  pub quiet_now : (k : Passing D) → GoesQuietly k k
  quiet_now k = record { on = goes_now k; mine = refl; refused = refl }

  pub quiet_through : (k l m : Passing D) → GoesQuietly k l → GoesQuietly l m → GoesQuietly k m
  quiet_through k l m g h = record {
    on = goes_through k l m g.on h.on;
    mine = subst (λ a. own a m.seen ≡ own a l.seen) g.on.actor h.mine ∙ g.mine;
    refused = h.refused ∙ g.refused;
  }

  -- the pass is as before but for what it holds
  abbrev pub holding_only : Passing D → List ℕ → Passing D
  holding_only k held = record k { holds = held }

  pub put_only : (k l : Passing D) (i : ℕ) → l ≡ having_put k i → l ≡ holding_only k l.holds
  put_only k l i e = e ∙ ap (holding_only k) (sym (ap (λ (p : Passing D). p.holds) e))

  pub only_through : (k l m : Passing D) → l ≡ holding_only k l.holds → m ≡ holding_only l m.holds → m ≡ holding_only k m.holds
  only_through k l m e f = f ∙ ap (λ (p : Passing D). holding_only p m.holds) e

  -- it holds nothing
  pub only_none : (k m : Passing D) → m ≡ holding_only k m.holds → m.holds ≡ [] → m ≡ holding_only k []
  only_none k m e none = e ∙ ap (holding_only k) none

  -- the first pass of a stage stays alone
  alone_on : (k l : Passing D) → GoesOn k l → IsAlone k → IsAlone l
  alone_on k l g a = (g.first ∙ a.0, g.made ∙ (a.1 ∙ ap (λ j. length j + 1) (sym g.joined)))

module _ {D : Type 0} (st : Staged D) where
  pub quiet_taken : (k l : Passing D) (n : Name) (o : Object) → Gets st k l n o → GoesQuietly k l
  quiet_taken k l n o g = record { on = goes_taken st k l n o g; mine = g.on.mine; refused = ap (λ (p : Passing D). p.refused) g.same }

  missed_by : (k l : Passing D) (n : Name) (c : ℕ) (b : Busy) → Misses st k l n b
      → (b.object ≡ number_of st (a_core c)) ⊎ ((m : ℕ) × (b.object ≡ number_of st (a_block m)) × IsInShare (state_after st l.seen) c m) → MissesOne st k l c b
  missed_by k l n c b m object = record {
    on = goes_missed st k l n b m;
    mine = ap (λ (p : Passing D). own k.actor p.seen) m.same;
    refused = ap (λ (p : Passing D). p.refused) m.same;
    other = m.other;
    object = object;
    alone = m.alone;
  }

  -- another actor had the core
  pub missed_core : (k l : Passing D) (c : ℕ) (b : Busy) → Misses st k l (a_core c) b → MissesOne st k l c b
  missed_core k l c b m = missed_by k l (a_core c) c b m (inl m.number)

  -- another actor had a block of the share
  pub missed_block : (k l : Passing D) (c n : ℕ) (b : Busy) → Misses st k l (a_block n) b → IsInShare (state_after st k.seen) c n → MissesOne st k l c b
  missed_block k l c n b m shared = missed_by k l (a_block n) c b m
      (inr (n, m.number, subst (λ (p : Passing D). IsInShare (state_after st p.seen) c n) (sym m.same) shared))

  -- the pass had gone on before
  pub missed_later : (k l m : Passing D) (c : ℕ) (b : Busy) → GoesQuietly k l → MissesOne st l m c b → MissesOne st k m c b
  missed_later k l m c b g h = record {
    on = goes_through k l m g.on h.on;
    mine = subst (λ a. own a m.seen ≡ own a l.seen) g.on.actor h.mine ∙ g.mine;
    refused = h.refused ∙ ap (λ rs. (b.object, b.by) ∷ rs) g.refused;
    other = λ e. h.other (e ∙ sym g.on.actor);
    object = h.object;
    alone = λ a. h.alone (alone_on k l g.on a);
  }

  missed_only : (k l : Passing D) (c : ℕ) (b : Busy) → MissesOne st k l c b → MissesOne st k (holding_only l []) c b
  missed_only k l c b h = record {
    on = record { table = h.on.table; scene = h.on.scene; actor = h.on.actor; first = h.on.first; made = h.on.made; joined = h.on.joined; sees = h.on.sees };
    mine = h.mine;
    refused = h.refused;
    other = h.other;
    object = h.object;
    alone = h.alone;
  }

  -- all that was taken went back
  pub fails_gathering : (k l m : Passing D) (c : ℕ) (r : Rowed) (b : Busy) → MissesOne st k l c b → m ≡ holding_only l [] → r ≡ no_row
      → FailsToGather st k m c r b
  fails_gathering k l m c r b h e empty = record {
    missed = subst (λ (p : Passing D). MissesOne st k p c b) (sym e) (missed_only k l c b h);
    holds = ap (λ (p : Passing D). p.holds) e;
    row = empty;
  }

  -- nothing was taken
  pub fails_at_once : (k l : Passing D) (c : ℕ) (r : Rowed) (b : Busy) → Misses st k l (a_core c) b → k.holds ≡ [] → r ≡ no_row → FailsToGather st k l c r b
  fails_at_once k l c r b m free empty = record {
    missed = missed_core k l c b m;
    holds = ap (λ (p : Passing D). p.holds) m.same ∙ free;
    row = empty;
  }
