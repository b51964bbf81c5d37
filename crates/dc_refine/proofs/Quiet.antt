-- Entries of the script without an event, and when a command may make its first entry.
use Rattle.std.proofs.Common.{◌≡◌, ℕ, zero, suc, ◌+◌, ◌≤◌, List, [], ◌∷◌, Bool, true, false, Option, Some, None, refl, sym, ap, ◌∙◌, subst, arith, rules}
use Rattle.std.specs.Prelude.{slice_get, nat_lt, ◌==◌, ◌&&◌, not, if◌then◌else◌, IsSome}
use Rattle.std.proofs.lemmas.Bool.Decides.{nat_tests}
use Rattle.std.proofs.lemmas.Bool.{false≢true}
use Rattle.dc_base.specs.declared.numbers.LineNo.{LineNo}
use Rattle.dc_base.specs.declared.commands.ScriptLine.{ScriptLine}
use Rattle.dc_base.specs.declared.commands.ScriptLine.TheVariants as line
use Rattle.dc_base.specs.declared.entries.What.{What}
use Rattle.dc_base.specs.Words.{bind}
use Rattle.dc_base.specs.Lines.{Wire}
use Rattle.dc_base.specs.Blocks.{Blocks}
use Rattle.dc_base.specs.BlockSteps.{run_on}
use Rattle.dc_base.specs.Script.{next_raise, raise_from}
use Rattle.dc_base.specs.States.{is_begun, State, Script, Mailbox}
use Rattle.dc_base.specs.Outcomes.{by_script}
use Rattle.dc_base.specs.Commands.{raise_above}
use Rattle.dc_base.specs.StandsFor.{StandsFor}
use Rattle.dc_base.specs.StrikeOut.{clock_told, times_after, events_of}
use Rattle.dc_base.specs.Columns.{columns_agree}
use Rattle.dc_base.specs.Answers.{answered_after, boot_after, from_on, may_begin, is_above}
use Rattle.dc_base.specs.Runs.{Terms}
use Rattle.dc_base.specs.Progress.{boot_of, command_at, boot_command}
use Rattle.dc_base.specs.ScriptForm.{IsInForm}
use Rattle.dc_base.specs.Telling.{told_of, answered_of}
use Rattle.dc_refine.proofs.Turn.{held_once_from}
use Rattle.dc_refine.proofs.Beside.{SameButRoutes, stands_beside}
use Rattle.dc_refine.proofs.Heads.{events_open, held_open, told_open}
use Rattle.dc_refine.proofs.Follow.{SameScript, Gives}
use Rattle.dc_refine.proofs.Follow as follow

pub same_number : (n : ℕ) → (n == n) ≡ true
same_number n = search rules

-- an entry of the script without an event
module _ (terms : Terms) (lines : List ScriptLine) (s : State) (t : Blocks) (stands : StandsFor s t) where
  pub quiet : (w : What) (script : Script) (mailboxes : List Mailbox) (wires : List Wire) → SameButRoutes s.lines wires → events_of (told_of s t) (by_script w).actor w ≡ [] → columns_agree terms.quantum (told_of s t) t (by_script w) ≡ true →
      answered_after lines (boot_of s) (clock_told (told_of s t)) (answered_of s) (by_script w) ≡ Some (answered_of (record s { script = script; mailboxes = mailboxes; lines = wires })) →
      SameScript s (record s { script = script }) → Gives terms lines s t (by_script w) (record s { script = script; mailboxes = mailboxes; lines = wires })
  unfolding held_open from_on told_open boot_after events_open boot_of
  quiet w script mailboxes wires same none columns answer same_script = follow.follows_seen terms lines s t (by_script w) (record s { script = script; mailboxes = mailboxes; lines = wires }) t (record {
    stands = stands_beside s t script mailboxes wires same stands;
    events = record { by = ap (run_on t) none };
    columns = columns;
    held = held_once_from 0 s.blocks;
    from = refl;
    told = ap (λ es. record { clocks = (told_of s t).clocks; times = times_after (told_of s t).times es; holders = (told_of s t).holders }) none;
    boot = refl;
    answer = answer;
    same_script = record { settings = same_script.settings; lines = same_script.lines };
  })

-- a raise stands where it is found
raise_there : (k n : ℕ) (ls : List ScriptLine) (r : ℕ) → raise_from k n ls ≡ Some r → (i : ℕ) × (r ≡ n + i) × (l : LineNo) × (slice_get ls i ≡ Some (line.Raise l))
raise_there k n [] r h = cc
raise_there zero n (line.Raise l ∷ ls) r h = (0, (let e : n ≡ r = cc in omega (arith, e)), l, refl)
raise_there (suc k) n (line.Raise l ∷ ls) r h = let q = raise_there k (n + 1) ls r h in (suc q.0, omega (arith, q.1), q.2, q.3)
raise_there zero n (l ∷ ls) r h = let q = raise_there zero (n + 1) ls r h in (suc q.0, omega (arith, q.1), q.2, q.3)
raise_there (suc k) n (l ∷ ls) r h = let q = raise_there (suc k) (n + 1) ls r h in (suc q.0, omega (arith, q.1), q.2, q.3)

abbrev IsRaise : ScriptLine → Type 0
IsRaise (line.Raise l) = Unit {0}
IsRaise l = ⊥

less_by : (a b : ℕ) → a ≤ b → (a ≡ b → ⊥) → (v : Bool) → nat_lt a b ≡ v → v ≡ true
less_by a b h apart true e = refl
less_by a b h apart false e = absurd (apart (let f : b ≤ a = grind (arith, nat_tests, e) in omega arith))

-- no raise above the place: all of them come after it, since a command stands there
above_test : (t : Script) (l : ScriptLine) → slice_get t.lines t.place ≡ Some l → (IsRaise l → ⊥) → (r : ℕ) → next_raise t.lines t.raises ≡ Some r → (v : Bool) → nat_lt r t.place ≡ v → (if v then Some r else None) ≡ None → nat_lt t.place r ≡ true
above_test t l at not_raise r e true f g = cc
above_test t l at not_raise r e false f g =
    let q = raise_there t.raises 0 t.lines r e in
    let below : t.place ≤ r = grind (arith, nat_tests, f) in
    less_by t.place r below
    (λ same.
    let place_is : t.place ≡ q.0 = omega (arith, same, q.1) in
    let there : Some l ≡ Some (line.Raise q.2) = sym at ∙ ap (slice_get t.lines) place_is ∙ q.3 in
    let is : l ≡ line.Raise q.2 = cc in not_raise (subst IsRaise (sym is) tt))
    (nat_lt t.place r) refl

above_by : (t : Script) (l : ScriptLine) → slice_get t.lines t.place ≡ Some l → (IsRaise l → ⊥) → (o : Option ℕ) → next_raise t.lines t.raises ≡ o → raise_above t.place o ≡ None → is_above t.place o ≡ true
above_by t l at not_raise None e h = refl
above_by t l at not_raise (Some r) e h = above_test t l at not_raise r e (nat_lt r t.place) refl h

-- a command that has no post may begin
pub may_begin-at : (s : State) (l : ScriptLine) → slice_get s.script.lines s.script.place ≡ Some l → (IsRaise l → ⊥) → s.script.posts ≡ 0 → raise_above s.script.place (next_raise s.script.lines s.script.raises) ≡ None →
    may_begin s.script.lines (answered_of s) s.script.place ≡ true
may_begin-at s l at not_raise idle none =
    ap (λ v. v && (not (is_begun s.script.posts) && is_above s.script.place (next_raise s.script.lines s.script.raises))) (same_number s.script.place)
    ∙ ap (λ n. not (is_begun n) && is_above s.script.place (next_raise s.script.lines s.script.raises)) idle
    ∙ above_by s.script l at not_raise (next_raise s.script.lines s.script.raises) refl none

-- no posts where no boot command stands
no_posts_by : (s : State) (l : ScriptLine) → IsInForm s → slice_get s.script.lines s.script.place ≡ Some l → boot_command l ≡ None → (n : ℕ) → s.script.posts ≡ n → n ≡ 0
no_posts_by s l form at no_boot zero e = refl
no_posts_by s l form at no_boot (suc n) e =
    let begun : IsSome (command_at s.script) = form.posts.command (omega (arith, e)) in
    let none_there : command_at s.script ≡ None = ap (λ o. bind o boot_command) at ∙ no_boot in
    absurd (false≢true (subst IsSome none_there begun))

pub no_posts : (s : State) (l : ScriptLine) → IsInForm s → slice_get s.script.lines s.script.place ≡ Some l → boot_command l ≡ None → s.script.posts ≡ 0
no_posts s l form at no_boot = no_posts_by s l form at no_boot s.script.posts refl
