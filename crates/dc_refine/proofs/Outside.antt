-- The object outside its block that a call needs, in a state.
use Rattle.std.proofs.lemmas.Option.{slice_get_past}
use Rattle.std.proofs.Common.{◌≡◌, ℕ, List, Bool, true, false, Option, Some, None, refl, sym, ap, arith, length}
use Rattle.std.specs.Prelude.{slice_get, nat_lt, if◌then◌else◌}
use Rattle.std.proofs.lemmas.Bool.Decides.{nat_tests}
use Rattle.dc_base.specs.declared.calls.Need.{Need}
use Rattle.dc_base.specs.declared.calls.Need.TheVariants as needs
use Rattle.dc_base.specs.Channels.{Ring}
use Rattle.dc_base.specs.Lines.{Wire}
use Rattle.dc_base.specs.NeedsHere.{need_here}
use Rattle.dc_base.specs.States.{State, Settings, Core, Block}
use Rattle.dc_base.specs.Serving.{Outside, nothing_outside, console_outside, channel_outside, line_outside}
use Rattle.dc_base.specs.Changes.{apply}
use Rattle.dc_base.specs.Turns.{Outcome, outcome, ends}
use Rattle.dc_base.specs.NeededLooks.{as_console, as_channel, as_line, look_outside, outside_change}
use Rattle.dc_refine.proofs.Elements.{slice_set-same}

-- the object that block b needs
unfoldable pub outside_at : State → ℕ → Need → Outside
outside_at s b needs.Nothing = nothing_outside
outside_at s b needs.Console = as_console (slice_get s.consoles b)
outside_at s b (needs.Channel x) = as_channel (slice_get s.channels x.0)
outside_at s b (needs.Line l) = as_line (slice_get s.lines l.0)

-- a line that is not looked at is not there
pub outside_here : (s : State) (b : ℕ) (n : Need) (t : Settings) → length s.lines ≡ t.lines → outside_at s b (need_here t n) ≡ outside_at s b n
unfolding outside_at
outside_here s b needs.Nothing t e = refl
outside_here s b needs.Console t e = refl
outside_here s b (needs.Channel x) t e = refl
outside_here s b (needs.Line l) t e = by_test (nat_lt l.0 t.lines) refl
  where
    by_test : (test : Bool) → nat_lt l.0 t.lines ≡ test → outside_at s b (if test then needs.Line l else needs.Nothing) ≡ as_line (slice_get s.lines l.0)
    by_test true q = refl
    by_test false q = sym (ap as_line (slice_get_past s.lines l.0 (grind (arith, nat_tests, q, e))))

-- the state with that object as it is afterwards
unfoldable pub with_outside : ℕ → Need → Outside → State → State
with_outside b n out s = apply s (outside_change b n out)

-- what a turn comes to that looks at it
pub outcome-look : (s : State) (b : ℕ) (n : Need) (f : Outside → Outcome) → outcome s (look_outside b n (λ out. ends (f out))) ≡ f (outside_at s b n)
unfolding look_outside outside_at
outcome-look s b needs.Nothing f = refl
outcome-look s b needs.Console f = refl
outcome-look s b (needs.Channel x) f = refl
outcome-look s b (needs.Line l) f = refl

-- it does not depend on cores and blocks
pub outside_same : (s : State) (b : ℕ) (xs : List Block) (n : Need) → outside_at (record s { blocks = xs }) b n ≡ outside_at s b n
unfolding outside_at
outside_same s b xs needs.Nothing = refl
outside_same s b xs needs.Console = refl
outside_same s b xs (needs.Channel z) = refl
outside_same s b xs (needs.Line l) = refl

-- an object that is as it was
pub with_outside_same : (s : State) (b : ℕ) (xs : List Block) (n : Need) → with_outside b n (outside_at s b n) (record s { blocks = xs }) ≡ record s { blocks = xs }
unfolding outside_at with_outside outside_change
with_outside_same s b xs needs.Nothing = refl
with_outside_same s b xs needs.Console = by_console (slice_get s.consoles b) refl
  where
    by_console : (o : Option (List ℕ)) → slice_get s.consoles b ≡ o → apply (record s { blocks = xs }) (outside_change b needs.Console (as_console o)) ≡ record s { blocks = xs }
    by_console None e = refl
    by_console (Some ws) e = ap (λ l. record s { blocks = xs; consoles = l }) (slice_set-same s.consoles b ws e)
with_outside_same s b xs (needs.Channel z) = by_channel (slice_get s.channels z.0) refl
  where
    by_channel : (o : Option Ring) → slice_get s.channels z.0 ≡ o → apply (record s { blocks = xs }) (outside_change b (needs.Channel z) (as_channel o)) ≡ record s { blocks = xs }
    by_channel None e = refl
    by_channel (Some r) e = ap (λ l. record s { blocks = xs; channels = l }) (slice_set-same s.channels z.0 r e)
with_outside_same s b xs (needs.Line l) = by_line (slice_get s.lines l.0) refl
  where
    by_line : (o : Option Wire) → slice_get s.lines l.0 ≡ o → apply (record s { blocks = xs }) (outside_change b (needs.Line l) (as_line o)) ≡ record s { blocks = xs }
    by_line None e = refl
    by_line (Some w) e = ap (λ v. record s { blocks = xs; lines = v }) (slice_set-same s.lines l.0 w e)

-- it leaves cores, blocks, script and mailboxes alone
pub record Apart (s m : State) (b : ℕ) (n : Need) (out : Outside) : Type 0 where
  pub cores : m.cores ≡ s.cores
  pub blocks : m.blocks ≡ s.blocks
  pub script : m.script ≡ s.script
  pub mailboxes : m.mailboxes ≡ s.mailboxes
  pub with_cores : (cs : List Core) → with_outside b n out (record s { cores = cs }) ≡ record m { cores = cs }

pub apart : (s : State) (b : ℕ) (n : Need) (out : Outside) → Apart s (with_outside b n out s) b n out
unfolding with_outside outside_change
apart s b needs.Console (console_outside ws) = record { cores = refl; blocks = refl; script = refl; mailboxes = refl; with_cores = λ cs. refl }
apart s b (needs.Channel x) (channel_outside r) = record { cores = refl; blocks = refl; script = refl; mailboxes = refl; with_cores = λ cs. refl }
apart s b (needs.Line l) (line_outside w) = record { cores = refl; blocks = refl; script = refl; mailboxes = refl; with_cores = λ cs. refl }
apart s b n out = record { cores = refl; blocks = refl; script = refl; mailboxes = refl; with_cores = λ cs. refl }
