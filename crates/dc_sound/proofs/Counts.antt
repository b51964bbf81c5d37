-- The counts of a line add up: each entry keeps this, and uses no other part.
use Rattle.std.proofs.Common.{◌≡◌, ℕ, ◌+◌, List, Option, Some, None, refl, ap, arith}
use Rattle.std.specs.Prelude.{is_some}
use Rattle.dc_base.specs.declared.entries.Entry.{Entry}
use Rattle.dc_base.specs.declared.interrupts.Latched.{Latched}
use Rattle.dc_base.specs.declared.interrupts.Latched.TheVariants as how
use Rattle.dc_base.specs.Changes.{Change, apply}
use Rattle.dc_base.specs.KeptOutside.{KeepsCounts}
use Rattle.dc_base.specs.Lines.{Wire, wire_after, wire_after_raise, wire_after_intake}
use Rattle.dc_base.specs.Slices.{Halfway, stopped, stands}
use Rattle.dc_base.specs.States.{State}
use Rattle.dc_base.specs.Words.{count_of}
use Rattle.dc_sound.proofs.EntryKinds.{Kind}
use Rattle.dc_sound.proofs.Rules.{Rule, no_rule, Obeys, kept}
use Rattle.dc_sound.proofs.SliceFacts.{HalfLaws}
use Rattle.dc_sound.proofs.Leaves.{Leaves, fine_kind}

abbrev pub Adds : Wire → Type 0
Adds w = w.counts.raised ≡ w.counts.stray + w.counts.merged + w.counts.given + w.counts.joined + count_of (is_some w.pending)

abbrev pub counts : Rule
counts = record no_rule { line = λ l w. Adds w }

raised_by : (w : Wire) (to : Option (ℕ × ℕ)) (n : Option ℕ) → w.pending ≡ n → Adds w → Adds (wire_after w to n)
raised_by w None n q h = omega (arith, h)
raised_by w (Some to) None q h = let z = ap (λ o. count_of (is_some o)) q in omega (arith, h, z)
raised_by w (Some to) (Some n) q h = omega (arith, h)

raised : (w : Wire) → Adds w → Adds (wire_after_raise w)
unfolding wire_after_raise
raised w h = raised_by w w.bound w.pending refl h

taken_in : (w : Wire) (n : ℕ) (l : Latched) → w.pending ≡ Some n → Adds w → Adds (wire_after_intake l w)
unfolding wire_after_intake
taken_in w n how.Latched q h = let z = ap (λ o. count_of (is_some o)) q in omega (arith, h, z)
taken_in w n how.Coalesced q h = let z = ap (λ o. count_of (is_some o)) q in omega (arith, h, z)

module _ (s : State) (chs : List Change) (e : Entry) (p : KeepsCounts s) where
  obeyed : Obeys counts s
  obeyed = record { cores = λ c k e. tt; blocks = λ b x e. tt; channels = λ x r e. tt; lines = p; mailboxes = λ c m e. tt; consoles = λ b ws e. tt; script = tt }

  in_slice : (c b : ℕ) (h : Halfway) → HalfLaws counts s c b h
  in_slice c b (stopped x ran e) = tt
  in_slice c b (stands x ran o call) = record {
    prints_to = λ w p ws q h i. tt;
    sends_to = λ x m p r new q h i. tt;
    takes_from = λ x a p r got q h i. tt;
    binds_to = λ l n q w g h. p l w h;
    gives_over = λ l x rights q w g h. p l w h;
    claims_it = λ l x slot rights q w g h i. p l w h;
  }

  leaves : Leaves counts s chs e
  leaves = record {
    slice = λ i. (tt, tt, in_slice i.c i.b i.h);
    slice_none = λ i. (tt, tt);
    idle = λ i. tt;
    wake = λ i. (tt, tt);
    intake = λ i. (tt, taken_in i.w i.n _ i.pending_at (p i.l i.w i.line_at));
    start = λ i. (tt, tt);
    stop = λ i. (tt, tt, λ b x q. tt);
    replace = λ i. (tt, tt, λ b x q. tt);
    adopt = λ i. (tt, tt, tt);
    release = λ i. (tt, tt, tt);
    emptied = λ c. tt;
    post = λ i. (tt, tt);
    done = λ i. tt;
    refused = λ i. tt;
    route = λ i. (p i.l.0 i.w i.line_at, tt);
    awaited = λ i. tt;
    raise = λ i. (raised i.w (p i.l.0 i.w i.line_at), tt);
  }

  pub counts_kept : Kind s chs e → KeepsCounts (apply s chs)
  counts_kept k = (kept counts chs s (fine_kind counts s chs e leaves obeyed k) obeyed).lines
