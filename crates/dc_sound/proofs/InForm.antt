-- The script's progress is in form: each entry keeps this.
use Rattle.std.proofs.Common.{◌≡◌, ℕ, zero, suc, ◌+◌, ◌≤◌, ◌<◌, List, [], Bool, true, false, Some, None, refl, sym, ap, ◌∙◌, subst, arith, add-one, length}
use Rattle.std.specs.Prelude.{slice_get, is_some, nat_lt, nat_le, if◌then◌else◌}
use Rattle.std.specs.Option.{option_map_or}
use Rattle.std.proofs.lemmas.Bool.Decides.{nat_tests}
use Rattle.std.proofs.lemmas.Option.{slice_get_within}
use Rattle.dc_base.specs.declared.commands.Command.{Command}
use Rattle.dc_base.specs.declared.commands.ScriptLine.{ScriptLine}
use Rattle.dc_base.specs.declared.commands.ScriptLine.TheVariants as line
use Rattle.dc_base.specs.declared.entries.Entry.{Entry}
use Rattle.dc_base.specs.Boot as boot
use Rattle.dc_base.specs.Changes.{Change, apply}
use Rattle.dc_base.specs.Commands.{at_next_command, raise_above}
use Rattle.dc_base.specs.Progress.{boot_command, orders_now}
use Rattle.dc_base.specs.Raises.{first_unbegun}
use Rattle.dc_base.specs.Script.{is_command, next_command, next_raise}
use Rattle.dc_base.specs.ScriptForm.{raise_lines, IsAtCommand, RaisesWithin, PostsWithin, RaisesBefore, CommandsBefore, IsInForm}
use Rattle.dc_base.specs.States.{State, Script, is_begun}
use Rattle.dc_base.specs.Words.{bind}
use Rattle.dc_sound.proofs.EntryKinds.{StandsAt, Kind}
use Rattle.dc_sound.proofs.Rules.{Rule, no_rule, Obeys, kept}
use Rattle.dc_sound.proofs.SliceFacts.{no_outside}
use Rattle.dc_sound.proofs.Leaves.{Leaves, fine_kind}
use Rattle.dc_sound.proofs.ScriptLists.{next_found, next_is_next, raise_found, raise_order}

-- the part over the script alone
pub record HasForm (t : Script) : Type 0 where
  pub at_command : IsAtCommand t
  pub raises : RaisesWithin t
  pub posts : PostsWithin t
  pub raises_before : RaisesBefore t
  pub commands_before : CommandsBefore t

pub form_of : (s : State) → IsInForm s → HasForm s.script
form_of s h = record { at_command = h.at_command; raises = h.raises; posts = h.posts; raises_before = h.raises_before; commands_before = h.commands_before }

pub in_form : (s : State) → HasForm s.script → IsInForm s
in_form s h = record { at_command = h.at_command; raises = h.raises; posts = h.posts; raises_before = h.raises_before; commands_before = h.commands_before }

not_both : (t : Bool) → t ≡ true → t ≡ false → ⊥
not_both t a b = cc

module _ (t : Script) (h : HasForm t) where
  abbrev below : ℕ
  below = next_command t.lines (t.place + 1)

  -- a raise that comes next stands below a command at the script's place
  place_first : (l : ScriptLine) → StandsAt t l → is_command l ≡ true → (r : ℕ) → next_raise t.lines t.raises ≡ Some r → t.place < r
  place_first l s c r e =
      let f = raise_found t.raises 0 t.lines r e in
      apart r t.place (above r (ap (raise_above t.place) (sym e) ∙ s.raises)) (λ same.
      let at : slice_get t.lines t.place ≡ Some f.l = ap (slice_get t.lines) (same_place r f.j f.place same) ∙ f.raise_at in
      let one : l ≡ f.l = let g = s.line_at in cc in
      not_both (is_command l) c (ap is_command one ∙ f.is_raise))
    where
      same_place : (r j : ℕ) → r ≡ 0 + j → r ≡ t.place → t.place ≡ j
      same_place r j p q = omega (arith, p, q)

      apart : (r p : ℕ) → p ≤ r → (r ≡ p → ⊥) → p < r
      apart zero zero k n = absurd (n refl)
      apart (suc r) zero k n = omega arith
      apart zero (suc p) k n = absurd (omega arith)
      apart (suc r) (suc p) k n = let m = apart r p (omega arith) (λ e. n (ap suc e)) in omega (arith, m)

      above : (r : ℕ) → raise_above t.place (Some r) ≡ None → t.place ≤ r
      above r g = by_test (nat_lt r t.place) refl g
        where
          by_test : (u : Bool) → nat_lt r t.place ≡ u → (if u then Some r else None) ≡ None → t.place ≤ r
          by_test true p g = absurd cc
          by_test false p g = grind (arith, nat_tests)

  -- the place moves on, or the first post is made
  moved_raises : (l : ScriptLine) → StandsAt t l → is_command l ≡ true → (u : Script) → u.lines ≡ t.lines → u.raises ≡ t.raises → first_unbegun u ≡ below → RaisesBefore u
  moved_raises l s c u lines raises fu q r k at cmd before next =
      let at_old : slice_get t.lines q ≡ Some k = ap (λ ls. slice_get ls q) (sym lines) ∙ at in
      let next_old : next_raise t.lines t.raises ≡ Some r = ap (λ ls. next_raise ls t.raises) (sym lines) ∙ ap (next_raise u.lines) (sym raises) ∙ next in
      let far = place_first l s c r next_old in
      let low : q < below = subst (λ n. q < n) fu before in
      by_place q r far low (λ g. (next_found t.lines (t.place + 1)).first q k at_old cmd (omega (arith, g)))
    where
      by_place : (q r : ℕ) → t.place < r → q < below → (t.place + 1 ≤ q → below ≤ 0 + q) → q < r
      by_place q r far low first = by_test (nat_le (t.place + 1) q) refl
        where
          by_test : (b : Bool) → nat_le (t.place + 1) q ≡ b → q < r
          by_test true g = let k : t.place + 1 ≤ q = grind (arith, nat_tests) in let m = first k in absurd (omega (arith, low, m))
          by_test false g = let k : q < t.place + 1 = grind (arith, nat_tests) in omega (arith, k, far)

  place_in : (l : ScriptLine) → StandsAt t l → t.place < length t.lines
  place_in l s = slice_get_within t.lines t.place l s.line_at

  unbegun_below : (l : ScriptLine) → StandsAt t l → first_unbegun t ≤ below
  unbegun_below l s = by_test (is_begun t.posts) (let p = place_in l s in let f = (next_found t.lines (t.place + 1)).later (omega (arith, p)) in f)
    where
      by_test : (b : Bool) → t.place + 1 ≤ below → (if b then below else t.place) ≤ below
      by_test true k = omega arith
      by_test false k = omega (arith, k)

  moved_commands : (l : ScriptLine) → StandsAt t l → (u : Script) → u.lines ≡ t.lines → u.raises ≡ t.raises → first_unbegun u ≡ below → CommandsBefore u
  moved_commands l s u lines raises fu k r low next =
      let a = h.commands_before k r (subst (λ n. k < n) raises low) (ap (λ ls. next_raise ls k) (sym lines) ∙ next) in
      let b = unbegun_below l s in
      let c = fu in
      omega (arith, a, b, c)

  -- the script at its next command
  moved_on : (l : ScriptLine) → StandsAt t l → is_command l ≡ true → (u : Script) → u.lines ≡ t.lines → u.raises ≡ t.raises → u.posts ≡ 0 → u.place ≡ below → HasForm u
  moved_on l s c u lines raises posts place =
      let fu : first_unbegun u ≡ below = ap (λ n. if is_begun n then next_command u.lines (u.place + 1) else u.place) posts ∙ place in
      record {
        at_command = place ∙ next_is_next t.lines (t.place + 1) ∙ ap (λ ls. next_command ls below) (sym lines) ∙ ap (next_command u.lines) (sym place);
        raises = subst (λ ls. u.raises ≤ raise_lines ls) (sym lines) (subst (λ n. n ≤ raise_lines t.lines) (sym raises) h.raises);
        posts = record { command = λ k. absurd (omega (arith, k, posts)); posted = omega (arith, posts) };
        raises_before = moved_raises l s c u lines raises fu;
        commands_before = moved_commands l s u lines raises fu;
      }

  -- a post is made
  one_posted : (command : Command) → StandsAt t (line.Boot command) → t.posts < length (boot.orders t.registry command) → HasForm (record t { posts = t.posts + 1 })
  one_posted command s k =
      let u : Script = record t { posts = t.posts + 1 } in
      let fu : first_unbegun u ≡ below = ap (λ n. if is_begun n then below else t.place) (add-one t.posts) in
      let orders : orders_now t ≡ boot.orders t.registry command = ap (λ o. option_map_or (boot.orders t.registry) (bind o boot_command) []) s.line_at in
      record {
        at_command = h.at_command;
        raises = h.raises;
        posts = record { command = λ m. ap (λ o. is_some (bind o boot_command)) s.line_at; posted = let e = ap length orders in omega (arith, e, k) };
        raises_before = moved_raises (line.Boot command) s refl u refl refl fu;
        commands_before = moved_commands (line.Boot command) s u refl refl fu;
      }

  -- the first command that has not begun is a command, or the script's end
  unbegun_is : (j : ℕ) (l : ScriptLine) → slice_get t.lines j ≡ Some l → is_command l ≡ false → j ≡ first_unbegun t → ⊥
  unbegun_is j l at raise same = by_begun (is_begun t.posts) same
    where
      by_begun : (b : Bool) → j ≡ (if b then below else t.place) → ⊥
      by_begun true same = not_both (is_command l) ((next_found t.lines (t.place + 1)).is j l at (omega (arith, same))) raise
      by_begun false same = not_both (is_command l) ((next_found t.lines t.place).is j l at (let e = h.at_command in omega (arith, same, e))) raise

  -- a raise is made
  one_raised : (q : ℕ) → next_raise t.lines t.raises ≡ Some q → nat_lt (first_unbegun t) q ≡ false → HasForm (record t { raises = t.raises + 1 })
  one_raised q next begun =
      let f = raise_found t.raises 0 t.lines q next in
      let p = f.place in
      let low : q < first_unbegun t = apart q (first_unbegun t) (grind (arith, nat_tests, begun)) (λ e. unbegun_is f.j f.l f.raise_at f.is_raise (omega (arith, p, e))) in
      record {
        at_command = h.at_command;
        raises = let a = f.within in omega (arith, a);
        posts = record { command = h.posts.command; posted = h.posts.posted };
        raises_before = λ k r l at c before later.
            let a = h.raises_before k q l at c before next in
            let b = raise_order t.raises 0 t.lines q r next (ap (next_raise t.lines) (sym (add-one t.raises)) ∙ later) in
            omega (arith, a, b);
        commands_before = λ k r m at. by_last k r m at low (nat_lt k t.raises) refl;
      }
    where
      apart : (p r : ℕ) → p ≤ r → (p ≡ r → ⊥) → p < r
      apart zero zero k n = absurd (n refl)
      apart zero (suc r) k n = omega arith
      apart (suc p) zero k n = absurd (omega arith)
      apart (suc p) (suc r) k n = let m = apart p r (omega arith) (λ e. n (ap suc e)) in omega (arith, m)

      by_last : (k r : ℕ) → k < t.raises + 1 → next_raise t.lines k ≡ Some r → q < first_unbegun t → (b : Bool) → nat_lt k t.raises ≡ b → r < first_unbegun t
      by_last k r m at low true g = h.commands_before k r (grind (arith, nat_tests)) at
      by_last k r m at low false g =
          let same : k ≡ t.raises = grind (arith, nat_tests, m) in
          let one : q ≡ r = let e : next_raise t.lines t.raises ≡ Some r = ap (next_raise t.lines) (sym same) ∙ at in cc in
          omega (arith, low, one)

abbrev pub forms : Rule
forms = record no_rule { script = HasForm }

module _ (s : State) (chs : List Change) (e : Entry) (p : IsInForm s) where
  obeyed : Obeys forms s
  obeyed = record { cores = λ c k e. tt; blocks = λ b x e. tt; channels = λ x r e. tt; lines = λ l w e. tt; mailboxes = λ c m e. tt; consoles = λ b ws e. tt; script = form_of s p }

  leaves : Leaves forms s chs e
  leaves = record {
    slice = λ i. (tt, tt, no_outside forms s i.c i.b (λ b ws. tt) (λ x r. tt) (λ l w. tt) i.h);
    slice_none = λ i. (tt, tt);
    idle = λ i. tt;
    wake = λ i. (tt, tt);
    intake = λ i. (tt, tt);
    start = λ i. (tt, tt);
    stop = λ i. (tt, tt, λ b x q. tt);
    replace = λ i. (tt, tt, λ b x q. tt);
    adopt = λ i. (tt, tt, tt);
    release = λ i. (tt, tt, tt);
    emptied = λ c. tt;
    post = λ i. (tt, one_posted s.script (form_of s p) i.command i.stands (slice_get_within (boot.orders s.script.registry i.command) s.script.posts i.o i.order_at));
    done = λ i. moved_on s.script (form_of s p) (line.Boot i.command) i.stands refl _ refl refl refl refl;
    refused = λ i. moved_on s.script (form_of s p) (line.Boot i.command) i.stands refl (at_next_command s.script) refl refl refl refl;
    route = λ i. (tt, moved_on s.script (form_of s p) (line.Route i.l i.c) i.stands refl (at_next_command s.script) refl refl refl refl);
    awaited = λ i. moved_on s.script (form_of s p) (line.Await i.b i.words i.limit) i.stands refl (at_next_command s.script) refl refl refl refl;
    raise = λ i. (tt, one_raised s.script (form_of s p) i.q i.next_at i.begun);
  }

  -- each entry keeps this part, and uses no other
  pub form_kept : Kind s chs e → IsInForm (apply s chs)
  form_kept k = in_form (apply s chs) (kept forms chs s (fine_kind forms s chs e leaves obeyed k) obeyed).script
