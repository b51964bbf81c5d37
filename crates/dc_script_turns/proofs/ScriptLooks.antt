-- The objects at which the script's action looks.
use Rattle.std.proofs.Common.{◌≡◌, ℕ, zero, suc, ◌<◌, ◌-◌, List, [], ◌∷◌, Bool, true, false, Option, Some, None, refl, ap, ◌∙◌, arith, length}
use Rattle.std.specs.Prelude.{slice_get, ◌==◌, if◌then◌else◌}
use Rattle.std.proofs.lemmas.Bool.{lt-leb}
use Rattle.std.proofs.lemmas.Option.{slice_get_within}
use Rattle.dc_base.specs.declared.actions.Action.TheVariants as action
use Rattle.dc_base.specs.declared.actions.Actor.TheVariants as actor
use Rattle.dc_base.specs.declared.commands.Command.{Command}
use Rattle.dc_base.specs.declared.commands.Order.{Order}
use Rattle.dc_base.specs.declared.commands.Refusal.{Refusal}
use Rattle.dc_base.specs.declared.commands.ScriptLine.{ScriptLine}
use Rattle.dc_base.specs.declared.commands.ScriptLine.TheVariants as line
use Rattle.dc_base.specs.declared.entries.Reason.TheVariants as reason
use Rattle.dc_base.specs.declared.numbers.BlockNo.{BlockNo}
use Rattle.dc_base.specs.declared.numbers.CoreNo.{CoreNo}
use Rattle.dc_base.specs.declared.numbers.LineNo.{LineNo}
use Rattle.dc_base.specs.Boot.{orders, refusal}
use Rattle.dc_base.specs.Changes.{Name, a_console, a_line, a_mailbox, the_script, mailbox_becomes}
use Rattle.dc_base.specs.Commands.{after_raises, begin, boot_turn, command_turn, go_on_from, post_or_done, raise_above, with_ack}
use Rattle.dc_base.specs.Cores.{turn_of}
use Rattle.dc_base.specs.Raises.{first_unbegun, raise_line, raise_turn}
use Rattle.dc_base.specs.Script.{next_raise}
use Rattle.dc_base.specs.States.{State, Script, ack, empty}
use Rattle.dc_base.specs.Turns.{Turn, ends, looks, not_enabled}
use Rattle.dc_block_sound.proofs.Elements.{is_same}
use Rattle.dc_bodies.specs.declared.posts.Posting.TheVariants as posting
use Rattle.dc_bodies.specs.Postings.{ComesTo}
use Rattle.dc_bodies.specs.Scripted.{GoesOn, IsNextRaise}

not_over : (t : Script) (o : Bool) → (t.place == length t.lines) ≡ o → t.place < length t.lines → o ≡ false
not_over t true e h = absurd (let same = is_same t.place (length t.lines) e in omega (arith, h, same))
not_over t false e h = refl

module _ (s : State) (t : Script) (is : s.script ≡ t) (polls : Script → ℕ) where
  abbrev command_looks : List Name
  command_looks = looks s (turn_of polls actor.Script action.Script)

  abbrev over_then : Bool → Turn → Turn
  over_then over more = if over then ends (not_enabled reason.ScriptEnded) else more

  abbrev commanded : Turn
  commanded = command_turn t (polls t) (slice_get t.lines t.place)

  looks_first : command_looks ≡ the_script ∷ looks s (over_then (t.place == length t.lines) (after_raises (raise_above t.place (next_raise t.lines t.raises)) commanded))
  unfolding turn_of
  looks_first = ap (λ (u : Script). the_script ∷ looks s (if u.place == length u.lines then ends (not_enabled reason.ScriptEnded) else
      after_raises (raise_above u.place (next_raise u.lines u.raises)) (command_turn u (polls u) (slice_get u.lines u.place)))) is

  line_looks : (l : ScriptLine) → GoesOn t l → command_looks ≡ the_script ∷ looks s (command_turn t (polls t) (Some l))
  line_looks l h =
      looks_first
      ∙ ap (λ o. the_script ∷ looks s (over_then o (after_raises (raise_above t.place (next_raise t.lines t.raises)) commanded)))
      (not_over t (t.place == length t.lines) refl (slice_get_within t.lines t.place l h.line))
      ∙ ap (λ o. the_script ∷ looks s (after_raises o commanded)) h.raises
      ∙ ap (λ o. the_script ∷ looks s (command_turn t (polls t) o)) h.line

  -- a route looks at its line
  pub route_looks : (l : LineNo) (c : CoreNo) → GoesOn t (line.Route l c) → command_looks ≡ the_script ∷ a_line l.0 ∷ []
  route_looks l c h = line_looks (line.Route l c) h

  -- an await looks at its console
  pub await_looks : (b : BlockNo) (words limit : ℕ) → GoesOn t (line.Await b words limit) → command_looks ≡ the_script ∷ a_console b.0 ∷ []
  await_looks b words limit h = line_looks (line.Await b words limit) h

  module _ (c : Command) (h : GoesOn t (line.Boot c)) where
    begin_looks : t.posts ≡ 0 → command_looks ≡ the_script ∷ looks s (begin t c (refusal t.registry c))
    begin_looks z = line_looks (line.Boot c) h ∙ ap (λ n. the_script ∷ looks s (boot_turn t c n)) z

    later_by : (n : ℕ) → 0 < n → looks s (boot_turn t c n) ≡ looks s (go_on_from t c (slice_get (orders t.registry c) (n - 1)))
    later_by zero k = absurd (omega (arith, k))
    later_by (suc n) k = ap (λ m. looks s (go_on_from t c (slice_get (orders t.registry c) m))) (omega arith)

    later_looks : (last : ℕ) (o : Order) → 0 < t.posts → slice_get (orders t.registry c) (t.posts - 1) ≡ Some (last, o)
        → command_looks ≡ the_script ∷ a_mailbox last ∷ looks s (with_ack t c last (slice_get s.mailboxes last))
    later_looks last o k e =
        line_looks (line.Boot c) h
        ∙ ap (λ ns. the_script ∷ ns) (later_by t.posts k)
        ∙ ap (λ q. the_script ∷ looks s (go_on_from t c q)) e

  -- a refusal looks at the script alone
  pub refused_looks : (r : Refusal) → ComesTo t (posting.Refused r) → command_looks ≡ the_script ∷ []
  refused_looks r h =
      begin_looks h.0 h.1.goes h.1.next.0
      ∙ ap (λ q. the_script ∷ looks s (begin t h.0 q)) h.1.next.1

  -- the first post looks at the mailbox of its core
  pub first_looks : (core : CoreNo) (o : Order) → ComesTo t (posting.First core o) → command_looks ≡ the_script ∷ a_mailbox core.0 ∷ []
  first_looks core o h =
      begin_looks h.0 h.1.goes h.1.next.0
      ∙ ap (λ q. the_script ∷ looks s (begin t h.0 q)) h.1.next.1
      ∙ ap (λ q. the_script ∷ looks s (post_or_done t h.0 [] q)) h.1.next.2

  -- after a post the command looks at the mailbox of that post first
  pub last_looks : (last : CoreNo) (next : Option (CoreNo × Order)) (h : ComesTo t (posting.After last next))
      → command_looks ≡ the_script ∷ a_mailbox last.0 ∷ looks s (with_ack t h.0 last.0 (slice_get s.mailboxes last.0))
  last_looks last next h = later_looks h.0 h.1.goes last.0 h.1.next.3.0 h.1.next.0 h.1.next.3.1

  module _ (last : CoreNo) (acked : slice_get s.mailboxes last.0 ≡ Some ack) where
    acked_looks : (next : Option (CoreNo × Order)) (h : ComesTo t (posting.After last next))
        → command_looks ≡ the_script ∷ a_mailbox last.0 ∷ looks s (post_or_done t h.0 (mailbox_becomes last.0 empty ∷ []) (slice_get (orders t.registry h.0) t.posts))
    acked_looks next h = last_looks last next h ∙ ap (λ q. the_script ∷ a_mailbox last.0 ∷ looks s (with_ack t h.0 last.0 q)) acked

    -- and where it was carried out, at the mailbox of the next post
    pub next_looks : (core : CoreNo) (o : Order) → ComesTo t (posting.After last (Some (core, o))) → command_looks ≡ the_script ∷ a_mailbox last.0 ∷ a_mailbox core.0 ∷ []
    next_looks core o h =
        acked_looks (Some (core, o)) h
        ∙ ap (λ q. the_script ∷ a_mailbox last.0 ∷ looks s (post_or_done t h.0 (mailbox_becomes last.0 empty ∷ []) q)) h.1.next.4

    pub done_looks : ComesTo t (posting.After last None) → command_looks ≡ the_script ∷ a_mailbox last.0 ∷ []
    done_looks h =
        acked_looks None h
        ∙ ap (λ q. the_script ∷ a_mailbox last.0 ∷ looks s (post_or_done t h.0 (mailbox_becomes last.0 empty ∷ []) q)) h.1.next.4

  -- a raise looks at its line
  pub raise_looks : (q : ℕ) (l : LineNo) → IsNextRaise t q l → looks s (turn_of polls actor.Script action.Raise) ≡ the_script ∷ a_line l.0 ∷ []
  unfolding turn_of
  raise_looks q l h =
      ap (λ (u : Script). the_script ∷ looks s (raise_turn u (next_raise u.lines u.raises))) is
      ∙ ap (λ o. the_script ∷ looks s (raise_turn t o)) h.next
      ∙ ap (λ (b : Bool). the_script ∷ looks s (if b then ends (not_enabled reason.CommandFirst) else raise_line t q (slice_get t.lines q)))
      (lt-leb (suc (first_unbegun t)) q (let k = h.free in omega (arith, k)))
      ∙ ap (λ o. the_script ∷ looks s (raise_line t q o)) h.line
