-- What never changes does not change.
use Rattle.std.proofs.Common.{◌≡◌, ◌≤◌, List, refl, sym, ap, ◌∙◌, subst, length}
use Rattle.dc_base.specs.declared.entries.Entry.{Entry}
use Rattle.dc_base.specs.Bounded.{IsSettled, AreLimited, LineWithin}
use Rattle.dc_base.specs.Changes.{Change, apply}
use Rattle.dc_base.specs.States.{State, Script}
use Rattle.dc_base.specs.Words.{Each}
use Rattle.dc_sound.proofs.EntryKinds.{Kind}
use Rattle.dc_sound.proofs.Rules.{Rule, no_rule, Obeys, kept}
use Rattle.dc_sound.proofs.SliceFacts.{no_outside}
use Rattle.dc_sound.proofs.Lengths.{same_lengths}
use Rattle.dc_sound.proofs.Leaves.{Leaves, fine_kind}

pub record SameScript (s : State) (t : Script) : Type 0 where
  pub settings : t.settings ≡ s.script.settings
  pub lines : t.lines ≡ s.script.lines

abbrev pub settles : State → Rule
settles s = record no_rule { core = λ c k. k.settings ≡ s.script.settings; script = SameScript s }

module _ (s : State) (chs : List Change) (e : Entry) (p : IsSettled s) where
  unchanged : SameScript s s.script
  unchanged = record { settings = refl; lines = refl }

  obeyed : Obeys (settles s) s
  obeyed = record { cores = p.same; blocks = λ b x e. tt; channels = λ x r e. tt; lines = λ l w e. tt; mailboxes = λ c m e. tt; consoles = λ b ws e. tt; script = unchanged }

  leaves : Leaves (settles s) s chs e
  leaves = record {
    slice = λ i. (p.same i.c i.k i.turn.core_at, tt, no_outside (settles s) s i.c i.b (λ b ws. tt) (λ x r. tt) (λ l w. tt) i.h);
    slice_none = λ i. (p.same i.c i.k i.turn.core_at, tt);
    idle = λ i. p.same i.c i.k i.core_at;
    wake = λ i. (p.same i.c i.k i.turn.core_at, tt);
    intake = λ i. (tt, tt);
    start = λ i. (p.same i.c i.k i.order_at.core_at, tt);
    stop = λ i. (p.same i.c i.k i.order_at.core_at, tt, λ b x q. tt);
    replace = λ i. (p.same i.c i.k i.order_at.core_at, tt, λ b x q. tt);
    adopt = λ i. (p.same i.c i.k i.order_at.core_at, tt, tt);
    release = λ i. (p.same i.c i.k i.order_at.core_at, tt, tt);
    emptied = λ c. tt;
    post = λ i. (tt, record { settings = refl; lines = refl });
    done = λ i. record { settings = refl; lines = refl };
    refused = λ i. record { settings = refl; lines = refl };
    route = λ i. (tt, record { settings = refl; lines = refl });
    awaited = λ i. record { settings = refl; lines = refl };
    raise = λ i. (tt, record { settings = refl; lines = refl });
  }

  -- each entry keeps this part; it uses no other
  pub settled_kept : Kind s chs e → IsSettled (apply s chs)
  settled_kept k =
      let o = kept (settles s) chs s (fine_kind (settles s) s chs e leaves obeyed k) obeyed in
      let n = same_lengths chs s in
      let q = sym o.script.settings in
      record {
        same = λ c k g. o.cores c k g ∙ q;
        limits = subst AreLimited q p.limits;
        cores = n.cores ∙ p.cores ∙ ap (λ t. t.cores) q;
        blocks = n.blocks ∙ p.blocks ∙ ap (λ t. t.blocks) q;
        channels = n.channels ∙ p.channels ∙ ap (λ t. t.channels) q;
        lines = n.lines ∙ p.lines ∙ ap (λ t. t.lines) q;
        mailboxes = n.mailboxes ∙ p.mailboxes ∙ ap (λ t. t.cores) q;
        consoles = n.consoles ∙ p.consoles ∙ ap (λ t. t.blocks) q;
        script = subst (λ l. length l ≤ 4096) (sym o.script.lines) p.script;
        within = subst (λ t. Each (apply s chs).script.lines (λ n l. LineWithin t l)) q (subst (λ ls. Each ls (λ n l. LineWithin s.script.settings l)) (sym o.script.lines) p.within);
      }
