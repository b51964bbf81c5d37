-- The entry of a raise follows.
use Rattle.std.proofs.Common.{◌≡◌, ℕ, zero, suc, ◌+◌, ◌≤◌, List, [], ◌∷◌, Bool, true, false, Option, Some, None, refl, sym, ap, ◌∙◌, arith}
use Rattle.std.specs.Prelude.{slice_get, slice_set, ◌&&◌, if◌then◌else◌, nat_lt, nat_le}
use Rattle.std.proofs.lemmas.Bool.Decides.{nat_tests}
use Rattle.dc_base.specs.Runs.{Terms}
use Rattle.dc_base.specs.declared.numbers.LineNo.{LineNo}
use Rattle.dc_base.specs.declared.commands.ScriptLine.{ScriptLine}
use Rattle.dc_base.specs.declared.commands.ScriptLine.TheVariants as line
use Rattle.dc_base.specs.declared.entries.Entry.{Entry}
use Rattle.dc_base.specs.declared.entries.What.TheVariants as what
use Rattle.dc_base.specs.Words.{is_number}
use Rattle.dc_base.specs.Lines.{Line, Wire, wire_after_raise, how_raised}
use Rattle.dc_base.specs.Blocks.{Blocks}
use Rattle.dc_base.specs.Script.{command_from, next_command, next_raise, is_command}
use Rattle.dc_base.specs.States.{is_begun, State, Script}
use Rattle.dc_base.specs.Raises.{first_unbegun, raise_on, raise_line, raise_turn}
use Rattle.dc_base.specs.Turns.{not_enabled, ends, outcome}
use Rattle.dc_base.specs.Sound.{IsSound}
use Rattle.dc_base.specs.declared.entries.Reason.TheVariants as reason
use Rattle.dc_base.specs.StandsFor.{StandsFor}
use Rattle.dc_base.specs.Answers.{boot_after, from_on, only_if, raise_answer, is_raise_of}
use Rattle.dc_base.specs.Outcomes.{by_script}
use Rattle.dc_base.specs.Progress.{boot_of}
use Rattle.dc_base.specs.Telling.{IsOf, answered_of}
use Rattle.dc_refine.proofs.Good.{Good}
use Rattle.dc_refine.proofs.Turn.{held_once_from}
use Rattle.dc_refine.proofs.Beside.{stands_beside, same_wires}
use Rattle.dc_refine.proofs.Quiet.{same_number}
use Rattle.dc_refine.proofs.Elements.{there_too}
use Rattle.dc_refine.proofs.Heads.{events_open, columns_open, held_open, told_open, answer_open}
use Rattle.dc_refine.proofs.RaisedLines.{leads_raise, raise_stands, raise_column}
use Rattle.dc_refine.proofs.Follow as follow

-- the next command is not before the first line
not_before_by : (q n : ℕ) (x : ScriptLine) (rest : ℕ) → n ≤ rest → (t u : Bool) → n ≤ (if t then (if u then n else rest) else rest)
not_before_by q n x rest h true true = omega arith
not_before_by q n x rest h true false = h
not_before_by q n x rest h false u = h

not_before : (q n : ℕ) (ls : List ScriptLine) → n ≤ command_from q n ls
not_before q n [] = omega arith
not_before q n (x ∷ xs) = let h = not_before q (n + 1) xs in not_before_by q n x (command_from q (n + 1) xs) (omega (arith, h)) (nat_le q n) (is_command x)

-- no raise stands at the next command
no_raise_by : (q n i : ℕ) (x : ScriptLine) (rest : ℕ) → (rest ≡ n + i → ⊥) → ((n ≡ n + i) → is_command x ≡ true → ⊥) → (t u : Bool) → is_command x ≡ u → (if t then (if u then n else rest) else rest) ≡ n + i → ⊥
no_raise_by q n i x rest more here true true e h = here h e
no_raise_by q n i x rest more here true false e h = more h
no_raise_by q n i x rest more here false u e h = more h

no_raise : (q n : ℕ) (ls : List ScriptLine) (i : ℕ) (l : LineNo) → slice_get ls i ≡ Some (line.Raise l) → command_from q n ls ≡ n + i → ⊥
no_raise q n [] i l at h = cc
no_raise q n (x ∷ xs) zero l at h =
    let b = not_before q (n + 1) xs in
    let is : x ≡ line.Raise l = cc in
    no_raise_by q n zero x (command_from q (n + 1) xs) (λ e. omega (arith, b, e)) (λ e f. let g : false ≡ true = sym (ap is_command is) ∙ f in cc) (nat_le q n) (is_command x) refl h
no_raise q n (x ∷ xs) (suc i) l at h =
    no_raise_by q n (suc i) x (command_from q (n + 1) xs) (λ e. no_raise q (n + 1) xs i l at (let f : command_from q (n + 1) xs ≡ n + 1 + i = omega (arith, e) in f)) (λ e f. omega (arith, e)) (nat_le q n) (is_command x) refl h

apart_by : (t : Script) (q : ℕ) (l : LineNo) → slice_get t.lines q ≡ Some (line.Raise l) → t.place ≡ next_command t.lines t.place → (b : Bool) → q ≡ (if b then next_command t.lines (t.place + 1) else t.place) → ⊥
apart_by t q l at command false e = no_raise t.place 0 t.lines q l at (sym command ∙ sym e ∙ (let z : q ≡ 0 + q = omega arith in z))
apart_by t q l at command true e = no_raise (t.place + 1) 0 t.lines q l at (sym e ∙ (let z : q ≡ 0 + q = omega arith in z))

less_by : (a b : ℕ) → a ≤ b → (a ≡ b → ⊥) → (v : Bool) → nat_lt a b ≡ v → v ≡ true
less_by a b h apart true e = refl
less_by a b h apart false e = absurd (apart (let f : b ≤ a = grind (arith, nat_tests, e) in omega arith))

module _ (terms : Terms) (lines : List ScriptLine) (s : State) (t : Blocks) (of : IsOf terms lines s) (stands : StandsFor s t) (at_command : s.script.place ≡ next_command s.script.lines s.script.place)
    (q : ℕ) (l : LineNo) (w : Wire) (old : Line) (next_is : next_raise s.script.lines s.script.raises ≡ Some q) (raise_at : slice_get s.script.lines q ≡ Some (line.Raise l))
    (in_time : nat_lt (first_unbegun s.script) q ≡ false) (wire_at : slice_get s.lines l.0 ≡ Some w) (line_at : slice_get t.lines l.0 ≡ Some old) where
  abbrev after : State
  after = record s { lines = slice_set s.lines l.0 (wire_after_raise w); script = record s.script { raises = s.script.raises + 1 } }

  abbrev entry : Entry
  entry = by_script (what.Raise q l (how_raised (w.counts.raised + 1) w.bound w.pending))

  before : nat_lt q (first_unbegun s.script) ≡ true
  before =
      let first : q ≤ first_unbegun s.script = grind (arith, nat_tests, in_time) in
      less_by q (first_unbegun s.script) first (apart_by s.script q l raise_at at_command (is_begun s.script.posts)) (nat_lt q (first_unbegun s.script)) refl

  answer_is : raise_answer lines (answered_of s) q l.0 ≡ Some (answered_of after)
  answer_is =
      ap (λ ls. raise_answer ls (answered_of s) q l.0) of.same_lines
      ∙ ap (λ o. only_if (is_number q o && (nat_lt q (first_unbegun s.script) && is_raise_of l.0 (slice_get s.script.lines q))) (answered_of after)) next_is
      ∙ ap (λ v. only_if (v && (nat_lt q (first_unbegun s.script) && is_raise_of l.0 (slice_get s.script.lines q))) (answered_of after)) (same_number q)
      ∙ ap (λ v. only_if (v && is_raise_of l.0 (slice_get s.script.lines q)) (answered_of after)) before
      ∙ ap (λ o. only_if (is_raise_of l.0 o) (answered_of after)) raise_at
      ∙ ap (λ v. only_if v (answered_of after)) (same_number l.0)

  -- the raise follows
  raise_follows : Good terms lines s t (raise_on s.script q l (Some w))
  unfolding held_open from_on told_open boot_after events_open boot_of columns_open answer_open
  raise_follows = follow.follows_seen terms lines s t entry after _ (record {
    stands = stands_beside (record s { lines = slice_set s.lines l.0 (wire_after_raise w) }) _ (record s.script { raises = s.script.raises + 1 }) s.mailboxes (slice_set s.lines l.0 (wire_after_raise w)) (same_wires _) (raise_stands s t stands l.0 w old wire_at line_at);
    events = leads_raise s t stands l.0 w old wire_at line_at;
    columns = raise_column s t stands l.0 w old wire_at line_at;
    held = held_once_from 0 s.blocks;
    from = refl;
    told = refl;
    boot = refl;
    answer = answer_is;
    same_script = record { settings = refl; lines = refl };
  })

module _ (terms : Terms) (lines : List ScriptLine) (s : State) (t : Blocks) (of : IsOf terms lines s) (sound : IsSound s) (stands : StandsFor s t) (q : ℕ) (next_is : next_raise s.script.lines s.script.raises ≡ Some q)
    (in_time : nat_lt (first_unbegun s.script) q ≡ false) where
  by_wire : (l : LineNo) → slice_get s.script.lines q ≡ Some (line.Raise l) → (o : Option Wire) → slice_get s.lines l.0 ≡ o → Good terms lines s t (raise_on s.script q l o)
  by_wire l at None e = tt
  by_wire l at (Some w) e =
      let old = there_too (λ (w : Wire). w.bound) (λ (x : Line). x.bound) s.lines t.lines l.0 w stands.lines.bindings e in
      raise_follows terms lines s t of stands sound.in_form.at_command q l w old.0 next_is at in_time e old.1

  by_line : (o : Option ScriptLine) → slice_get s.script.lines q ≡ o → Good terms lines s t (outcome s (raise_line s.script q o))
  by_line None e = tt
  by_line (Some (line.Raise l)) e = by_wire l e (slice_get s.lines l.0) refl
  by_line (Some (line.Boot c)) e = tt
  by_line (Some (line.Route l c)) e = tt
  by_line (Some (line.Await b words limit)) e = tt

module _ (terms : Terms) (lines : List ScriptLine) (s : State) (t : Blocks) (of : IsOf terms lines s) (sound : IsSound s) (stands : StandsFor s t) where
  by_time : (q : ℕ) → next_raise s.script.lines s.script.raises ≡ Some q → (f : Bool) → nat_lt (first_unbegun s.script) q ≡ f →
      Good terms lines s t (outcome s (if f then ends (not_enabled reason.CommandFirst) else raise_line s.script q (slice_get s.script.lines q)))
  by_time q e true f = tt
  by_time q e false f = by_line terms lines s t of sound stands q e f (slice_get s.script.lines q) refl

  by_next : (o : Option ℕ) → next_raise s.script.lines s.script.raises ≡ o → Good terms lines s t (outcome s (raise_turn s.script o))
  by_next None e = tt
  by_next (Some q) e = by_time q e (nat_lt (first_unbegun s.script) q) refl

  -- whatever a raise does follows
  pub raise_good : Good terms lines s t (outcome s (raise_turn s.script (next_raise s.script.lines s.script.raises)))
  raise_good = by_next (next_raise s.script.lines s.script.raises) refl
