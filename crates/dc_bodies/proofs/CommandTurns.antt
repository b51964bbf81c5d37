-- What the script's command comes to, by what stands.
use Rattle.std.proofs.Common.{◌≡◌, ℕ, zero, suc, ◌<◌, ◌≤◌, ◌+◌, ◌-◌, [], ◌∷◌, List, Bool, true, false, Option, Some, None, refl, sym, ap, ◌∙◌, arith, length}
use Rattle.std.specs.Prelude.{slice_get, ◌==◌, if◌then◌else◌, nat_lt}
use Rattle.std.specs.Option.{option_map}
use Rattle.std.proofs.lemmas.Bool.{lt-leb, le-leb}
use Rattle.std.proofs.lemmas.Option.{slice_get_within}
use Rattle.dc_base.specs.declared.actions.Action.TheVariants as action
use Rattle.dc_base.specs.declared.actions.Actor.TheVariants as actor
use Rattle.dc_base.specs.declared.commands.Command.{Command}
use Rattle.dc_base.specs.declared.commands.Order.{Order}
use Rattle.dc_base.specs.declared.commands.Refusal.{Refusal}
use Rattle.dc_base.specs.declared.commands.ScriptLine.{ScriptLine}
use Rattle.dc_base.specs.declared.commands.ScriptLine.TheVariants as line
use Rattle.dc_base.specs.declared.entries.Entry.{Entry}
use Rattle.dc_base.specs.declared.entries.Reason.TheVariants as reason
use Rattle.dc_base.specs.declared.entries.What.TheVariants as what
use Rattle.dc_base.specs.declared.numbers.BlockNo.{BlockNo}
use Rattle.dc_base.specs.declared.numbers.CoreNo.{CoreNo}
use Rattle.dc_base.specs.declared.numbers.LineNo.{LineNo}
use Rattle.dc_base.specs.Boot.{after_orders, orders, refusal}
use Rattle.dc_base.specs.Changes.{Change, line_becomes, mailbox_becomes, script_becomes}
use Rattle.dc_base.specs.Commands.{after_raises, at_next_command, await_outcome, begin, boot_turn, command_turn, go_on_from, post_or_done, poll, raise_above, route_line, with_ack}
use Rattle.dc_base.specs.Cores.{turn_of}
use Rattle.dc_base.specs.Lines.{Wire}
use Rattle.dc_base.specs.Outcomes.{by_script}
use Rattle.dc_base.specs.Script.{next_raise}
use Rattle.dc_base.specs.States.{State, Script, Mailbox, empty, ack}
use Rattle.dc_base.specs.States.{order as ordered}
use Rattle.dc_base.specs.Turns.{Outcome, Turn, did, ends, not_enabled, outcome}
use Rattle.dc_block_sound.proofs.Elements.{is_same}
use Rattle.dc_boot.specs.declared.plan.Plan.{Plan}
use Rattle.dc_boot.specs.Registries.{further, plan_orders, posted}
use Rattle.dc_objects.specs.Mailboxes.{is_ack}
use Rattle.dc_bodies.specs.declared.posts.Posting.TheVariants as posting
use Rattle.dc_bodies.specs.Awaits.{IsAwaited, IsPoll}
use Rattle.dc_bodies.specs.Postings.{ComesTo, IsDone, IsNextPost, IsPost, IsPosting, IsSamePost}
use Rattle.dc_bodies.specs.Scripted.{GoesOn, IsNoCommand, IsRouted, IsScripted, RefusesCommand}

-- a turn of the script, by its place

module _ (s : State) (t : Script) (at : s.script ≡ t) (polls : Script → ℕ) where
  abbrev turn : Bool → Turn → Turn
  turn over more = if over then ends (not_enabled reason.ScriptEnded) else more

  abbrev commanded : Turn
  commanded = command_turn t (polls t) (slice_get t.lines t.place)

  abbrev above : Option ℕ
  above = raise_above t.place (next_raise t.lines t.raises)

  acts : outcome s (turn_of polls actor.Script action.Script) ≡ outcome s (turn (t.place == length t.lines) (after_raises above commanded))
  unfolding turn_of
  acts = ap (λ (u : Script). outcome s (if u.place == length u.lines then ends (not_enabled reason.ScriptEnded) else after_raises (raise_above u.place (next_raise u.lines u.raises)) (command_turn u (polls u) (slice_get u.lines u.place)))) at

  pub ended : (t.place == length t.lines) ≡ true → outcome s (turn_of polls actor.Script action.Script) ≡ not_enabled reason.ScriptEnded
  ended e = acts ∙ ap (λ o. outcome s (turn o (after_raises above commanded))) e

  pub raises_first : (q : ℕ) → (t.place == length t.lines) ≡ false → above ≡ Some q → outcome s (turn_of polls actor.Script action.Script) ≡ not_enabled (reason.RaisesFirst q)
  raises_first q e f = acts ∙ ap (λ o. outcome s (turn o (after_raises above commanded))) e ∙ ap (λ o. outcome s (after_raises o commanded)) f

  not_over : (o : Bool) → (t.place == length t.lines) ≡ o → t.place < length t.lines → o ≡ false
  not_over true e h = absurd (let same = is_same t.place (length t.lines) e in omega (arith, h, same))
  not_over false e h = refl

  pub goes_on : (t.place == length t.lines) ≡ false → above ≡ None → outcome s (turn_of polls actor.Script action.Script) ≡ outcome s commanded
  goes_on e f = acts ∙ ap (λ o. outcome s (turn o (after_raises above commanded))) e ∙ ap (λ o. outcome s (after_raises o commanded)) f

  pub no_line : (t.place == length t.lines) ≡ false → above ≡ None → slice_get t.lines t.place ≡ None → outcome s (turn_of polls actor.Script action.Script) ≡ not_enabled reason.ScriptEnded
  no_line e f g = goes_on e f ∙ ap (λ o. outcome s (command_turn t (polls t) o)) g

  pub does_line : (l : ScriptLine) → GoesOn t l → outcome s (turn_of polls actor.Script action.Script) ≡ outcome s (command_turn t (polls t) (Some l))
  does_line l h = goes_on (not_over (t.place == length t.lines) refl (slice_get_within t.lines t.place l h.line)) h.raises ∙ ap (λ o. outcome s (command_turn t (polls t) o)) h.line

-- the reasons for which no command goes on

pub is_over : (t : Script) → (t.place == length t.lines) ≡ true → IsNoCommand t reason.ScriptEnded
is_over t e s at polls = ended s t at polls e

pub raise_stands : (t : Script) (q : ℕ) → (t.place == length t.lines) ≡ false → raise_above t.place (next_raise t.lines t.raises) ≡ Some q → IsNoCommand t (reason.RaisesFirst q)
raise_stands t q e f s at polls = raises_first s t at polls q e f

pub past_lines : (t : Script) → (t.place == length t.lines) ≡ false → raise_above t.place (next_raise t.lines t.raises) ≡ None → slice_get t.lines t.place ≡ None → IsNoCommand t reason.ScriptEnded
past_lines t e f g s at polls = no_line s t at polls e f g

-- a route

pub route_is : (t t' : Script) (w w' : Wire) (l : LineNo) (c : CoreNo) (e : Entry) → GoesOn t (line.Route l c) → w' ≡ record w { route = Some c.0 } → t' ≡ at_next_command t → e ≡ by_script (what.Route t.place l c) → IsRouted l.0 t t' w w' e
route_is t t' w w' l c e h a b d s at there polls =
    does_line s t at polls (line.Route l c) h
    ∙ ap (λ o. route_line t l c o) there
    ∙ sym (ap (λ x. did (line_becomes l.0 x ∷ script_becomes t' ∷ []) e) a
    ∙ ap (λ x. did (line_becomes l.0 (record w { route = Some c.0 }) ∷ script_becomes x ∷ []) e) b
    ∙ ap (did (line_becomes l.0 (record w { route = Some c.0 }) ∷ script_becomes (at_next_command t) ∷ [])) d)

-- awaits

module _ (s : State) (t : Script) (at : s.script ≡ t) (polls : Script → ℕ) (made : ℕ) (m : polls t ≡ made) (b : BlockNo) (words limit : ℕ) (h : GoesOn t (line.Await b words limit)) (ws : List ℕ) (there : slice_get s.consoles b.0 ≡ Some ws) where
  polled : outcome s (turn_of polls actor.Script action.Script) ≡ poll t made b words limit (length ws)
  polled = does_line s t at polls (line.Await b words limit) h ∙ ap (λ o. await_outcome t (polls t) b words limit o) there ∙ ap (λ n. poll t n b words limit (length ws)) m

script_did : (t' t'' : Script) (e e' : Entry) → t' ≡ t'' → e ≡ e' → did (script_becomes t'' ∷ []) e' ≡ did (script_becomes t' ∷ []) e
script_did t' t'' e e' a b = sym (ap (λ x. did (script_becomes x ∷ []) e) a ∙ ap (did (script_becomes t'' ∷ [])) b)

module _ (t t' : Script) (ws : List ℕ) (made : ℕ) (b : BlockNo) (words limit : ℕ) (h : GoesOn t (line.Await b words limit)) where
  abbrev after_few : Bool → Bool → Outcome
  after_few enough more =
      if enough then did (script_becomes (at_next_command t) ∷ []) (by_script (what.Met t.place b (length ws)))
      else if more then not_enabled (reason.Few (length ws) (made + 1))
      else did (script_becomes (at_next_command t) ∷ []) (by_script (what.Unmet t.place b (length ws)))

  pub met_is : (e : Entry) → words ≤ length ws → t' ≡ at_next_command t → e ≡ by_script (what.Met t.place b (length ws)) → IsAwaited b.0 t t' ws made e
  met_is e enough a d s at there polls m =
      polled s t at polls made m b words limit h ws there
      ∙ ap (λ o. after_few o (nat_lt (made + 1) limit)) (le-leb words (length ws) enough)
      ∙ script_did t' (at_next_command t) e (by_script (what.Met t.place b (length ws))) a d

  pub unmet_is : (e : Entry) → length ws < words → limit ≤ made + 1 → t' ≡ at_next_command t → e ≡ by_script (what.Unmet t.place b (length ws)) → IsAwaited b.0 t t' ws made e
  unmet_is e few often a d s at there polls m =
      polled s t at polls made m b words limit h ws there
      ∙ ap (λ o. after_few o (nat_lt (made + 1) limit)) (lt-leb words (length ws) few)
      ∙ ap (λ o. after_few false o) (lt-leb (suc (made + 1)) limit (omega (arith, often)))
      ∙ script_did t' (at_next_command t) e (by_script (what.Unmet t.place b (length ws))) a d

  pub poll_is : length ws < words → made + 1 < limit → IsPoll b.0 t ws made (reason.Few (length ws) (made + 1))
  poll_is few seldom s at there polls m =
      polled s t at polls made m b words limit h ws there
      ∙ ap (λ o. after_few o (nat_lt (made + 1) limit)) (lt-leb words (length ws) few)
      ∙ ap (λ o. after_few false o) (le-leb (suc (made + 1)) limit (omega (arith, seldom)))

-- boot commands

module _ (s : State) (t : Script) (at : s.script ≡ t) (polls : Script → ℕ) (c : Command) (h : GoesOn t (line.Boot c)) where
  boots : outcome s (turn_of polls actor.Script action.Script) ≡ outcome s (boot_turn t c t.posts)
  boots = does_line s t at polls (line.Boot c) h

  begins : t.posts ≡ 0 → outcome s (turn_of polls actor.Script action.Script) ≡ outcome s (begin t c (refusal t.registry c))
  begins z = boots ∙ ap (λ n. outcome s (boot_turn t c n)) z

  later_by : (n : ℕ) → 0 < n → outcome s (boot_turn t c n) ≡ outcome s (go_on_from t c (slice_get (orders t.registry c) (n - 1)))
  later_by zero k = absurd (omega (arith, k))
  later_by (suc n) k = ap (λ m. outcome s (go_on_from t c (slice_get (orders t.registry c) m))) (omega arith)

  goes_later : 0 < t.posts → outcome s (turn_of polls actor.Script action.Script) ≡ outcome s (go_on_from t c (slice_get (orders t.registry c) (t.posts - 1)))
  goes_later k = boots ∙ later_by t.posts k

  looks_last : (last : ℕ) (o : Order) → 0 < t.posts → slice_get (orders t.registry c) (t.posts - 1) ≡ Some (last, o) →
      outcome s (turn_of polls actor.Script action.Script) ≡ outcome s (with_ack t c last (slice_get s.mailboxes last))
  looks_last last o k e = goes_later k ∙ ap (λ q. outcome s (go_on_from t c q)) e

  acked : (last : ℕ) (o : Order) (m : Mailbox) → 0 < t.posts → slice_get (orders t.registry c) (t.posts - 1) ≡ Some (last, o) → slice_get s.mailboxes last ≡ Some m → m ≡ ack →
      outcome s (turn_of polls actor.Script action.Script) ≡ outcome s (post_or_done t c (mailbox_becomes last empty ∷ []) (slice_get (orders t.registry c) t.posts))
  acked last o m k e there is = looks_last last o k e ∙ ap (λ q. outcome s (with_ack t c last q)) (there ∙ ap Some is)

pub no_last : (t : Script) (c : Command) → GoesOn t (line.Boot c) → 0 < t.posts → slice_get (orders t.registry c) (t.posts - 1) ≡ None → IsNoCommand t reason.ScriptEnded
no_last t c h k e s at polls = goes_later s t at polls c h k ∙ ap (λ q. outcome s (go_on_from t c q)) e

-- the last post waits

module _ (s : State) (t : Script) (c : Command) where
  waits_by : (last : CoreNo) (m : Mailbox) → is_ack m ≡ false → outcome s (with_ack t c last.0 (Some m)) ≡ not_enabled (reason.NoAck last)
  waits_by last empty e = refl
  waits_by last (ordered o) e = refl
  waits_by last ack e = absurd cc

pub no_ack : (last : CoreNo) (m : Mailbox) → is_ack m ≡ false → (s : State) (next : Option (CoreNo × Order)) → ComesTo s.script (posting.After last next) → slice_get s.mailboxes last.0 ≡ Some m → RefusesCommand s (reason.NoAck last)
no_ack last m e s next h there polls =
    let c = h.0 in
    let n = h.1.next in
    looks_last s s.script refl polls c h.1.goes last.0 n.3.0 n.0 n.3.1
    ∙ ap (λ q. outcome s (with_ack s.script c last.0 q)) there
    ∙ waits_by s s.script c last m e

pub is_acked : (m : Mailbox) → is_ack m ≡ true → m ≡ ack
is_acked empty e = absurd cc
is_acked (ordered o) e = absurd cc
is_acked ack e = refl

-- the script and the entry after a post
pub record Puts (t t' : Script) (m' : Mailbox) (c : CoreNo) (o : Order) (e : Entry) : Type 0 where
  pub entry : e ≡ by_script (what.Post t.place c o)
  pub script : t' ≡ record t { posts = t.posts + 1 }
  pub mailbox : m' ≡ ordered o

module _ (t t' : Script) (m' : Mailbox) (c : CoreNo) (o : Order) (e : Entry) (p : Puts t t' m' c o e) where
  put_last : did (mailbox_becomes c.0 (ordered o) ∷ script_becomes (record t { posts = t.posts + 1 }) ∷ []) (by_script (what.Post t.place c o)) ≡ did (mailbox_becomes c.0 m' ∷ script_becomes t' ∷ []) e
  put_last = sym (
      ap (λ x. did (mailbox_becomes c.0 x ∷ script_becomes t' ∷ []) e) p.mailbox
      ∙ ap (λ x. did (mailbox_becomes c.0 (ordered o) ∷ script_becomes x ∷ []) e) p.script
      ∙ ap (did (mailbox_becomes c.0 (ordered o) ∷ script_becomes (record t { posts = t.posts + 1 }) ∷ [])) p.entry
      )

  put_after : (before : Change) → did (before ∷ mailbox_becomes c.0 (ordered o) ∷ script_becomes (record t { posts = t.posts + 1 }) ∷ []) (by_script (what.Post t.place c o)) ≡ did (before ∷ mailbox_becomes c.0 m' ∷ script_becomes t' ∷ []) e
  put_after before = sym (
      ap (λ x. did (before ∷ mailbox_becomes c.0 x ∷ script_becomes t' ∷ []) e) p.mailbox
      ∙ ap (λ x. did (before ∷ mailbox_becomes c.0 (ordered o) ∷ script_becomes x ∷ []) e) p.script
      ∙ ap (did (before ∷ mailbox_becomes c.0 (ordered o) ∷ script_becomes (record t { posts = t.posts + 1 }) ∷ [])) p.entry
      )

  pub post_is : ComesTo t (posting.First c o) → IsPost c.0 t t' m' e
  post_is h s at polls =
      let n = h.1.next in
      begins s t at polls h.0 h.1.goes n.0
      ∙ ap (λ r. outcome s (begin t h.0 r)) n.1
      ∙ ap (λ q. outcome s (post_or_done t h.0 [] q)) n.2
      ∙ put_last

  module _ (last : CoreNo) (h : ComesTo t (posting.After last (Some (c, o)))) (n : Mailbox) (is : n ≡ ack) where
    next_post : (s : State) → s.script ≡ t → slice_get s.mailboxes last.0 ≡ Some n → (polls : Script → ℕ) → outcome s (turn_of polls actor.Script action.Script) ≡ did (mailbox_becomes last.0 empty ∷ mailbox_becomes c.0 m' ∷ script_becomes t' ∷ []) e
    next_post s at there polls =
        let x = h.1.next in
        acked s t at polls h.0 h.1.goes last.0 x.3.0 n x.0 x.3.1 there is
        ∙ ap (λ q. outcome s (post_or_done t h.0 (mailbox_becomes last.0 empty ∷ []) q)) x.4
        ∙ put_after (mailbox_becomes last.0 empty)

    pub next_post_is : (n' : Mailbox) → n' ≡ empty → IsNextPost last.0 c.0 t t' n n' m' e
    next_post_is n' f s at there polls = next_post s at there polls ∙ ap (λ x. did (mailbox_becomes last.0 x ∷ mailbox_becomes c.0 m' ∷ script_becomes t' ∷ []) e) (sym f)

  pub same_post_is : ComesTo t (posting.After c (Some (c, o))) → (n : Mailbox) → n ≡ ack → IsSamePost c.0 t t' n m' e
  same_post_is h n is s at there polls = next_post c h n is s at there polls

pub refused_is : (t t' : Script) (r : Refusal) (e : Entry) → ComesTo t (posting.Refused r) → t' ≡ at_next_command t → e ≡ by_script (what.Refused t.place r) → IsScripted t t' e
refused_is t t' r e h a b s at polls =
    let n = h.1.next in
    begins s t at polls h.0 h.1.goes n.0
    ∙ ap (λ q. outcome s (begin t h.0 q)) n.1
    ∙ script_did t' (at_next_command t) e (by_script (what.Refused t.place r)) a b

pub done_is : (t t' : Script) (c : Command) (last : CoreNo) (n n' : Mailbox) (e : Entry) → IsPosting t c (posting.After last None) → n ≡ ack → n' ≡ empty →
    t' ≡ at_next_command (record t { registry = after_orders t.registry (orders t.registry c) }) → e ≡ by_script (what.Done t.place) → IsDone last.0 t t' n n' e
done_is t t' c last n n' e h is a b d s at there polls =
    let x = h.next in
    let u : Script = at_next_command (record t { registry = after_orders t.registry (orders t.registry c) }) in
    acked s t at polls c h.goes last.0 x.3.0 n x.0 x.3.1 there is
    ∙ ap (λ q. outcome s (post_or_done t c (mailbox_becomes last.0 empty ∷ []) q)) x.4
    ∙ sym (ap (λ y. did (mailbox_becomes last.0 y ∷ script_becomes t' ∷ []) e) a
    ∙ ap (λ y. did (mailbox_becomes last.0 empty ∷ script_becomes y ∷ []) e) b
    ∙ ap (did (mailbox_becomes last.0 empty ∷ script_becomes u ∷ [])) d)

-- a plan has at most two orders
few_further : (o : Option (CoreNo × Order)) (n : ℕ) (q : ℕ × Order) → slice_get (further o) n ≡ Some q → n < 1
few_further o n q e = by_length o (slice_get_within (further o) n q e)
  where
    by_length : (o : Option (CoreNo × Order)) → n < length (further o) → n < 1
    by_length None h = absurd (omega (arith, h))
    by_length (Some p) h = h

pub few_orders : (p : Plan) (n : ℕ) (q : ℕ × Order) → slice_get (plan_orders p) n ≡ Some q → n < 2
few_orders p zero q e = omega arith
few_orders p (suc n) q e = let h = few_further p.second n q e in omega (arith, h)

-- what a boot command comes to next

pub not_begun : (t : Script) (c : Command) (r : Refusal) → (0 < t.posts → refusal t.registry c ≡ None) → refusal t.registry c ≡ Some r → t.posts ≡ 0
not_begun t c r accepted e = by_posts t.posts refl
  where
    by_posts : (n : ℕ) → t.posts ≡ n → n ≡ 0
    by_posts zero q = refl
    by_posts (suc n) q = absurd (let a = accepted (omega (arith, q)) in cc)

module _ (t : Script) (c : Command) (h : GoesOn t (line.Boot c)) (p : Plan) (plan : plan_orders p ≡ orders t.registry c) (free : refusal t.registry c ≡ None) (n : ℕ) (is : n ≡ t.posts) where
  pub first_is : n ≡ 0 → IsPosting t c (posting.First p.first.0 p.first.1)
  first_is z = record { goes = h; next = (sym is ∙ z, free, ap (λ os. slice_get os 0) (sym plan)) }

  at_place : (m : ℕ) (o : Option (CoreNo × Order)) → option_map posted o ≡ slice_get (plan_orders p) m → slice_get (orders t.registry c) m ≡ option_map posted o
  at_place m o e = ap (λ os. slice_get os m) (sym plan) ∙ sym e

  pub after_is : (n ≡ 0 → ⊥) → (last : CoreNo) (o : Order) (next : Option (CoreNo × Order)) → option_map posted (Some (last, o)) ≡ slice_get (plan_orders p) (n - 1) → option_map posted next ≡ slice_get (plan_orders p) n →
      IsPosting t c (posting.After last next)
  after_is z last o next e f =
      let some : 0 < n = by_zero n z in
      let few = few_orders p (n - 1) (last.0, o) (sym e) in
      record {
        goes = h;
        next = (
          omega (arith, some, is),
          omega (arith, few, is),
          free,
          (o, ap (λ m. slice_get (orders t.registry c) (m - 1)) (sym is) ∙ at_place (n - 1) (Some (last, o)) e),
          ap (slice_get (orders t.registry c)) (sym is) ∙ at_place n next f,
        );
      }
    where
      by_zero : (m : ℕ) → (m ≡ 0 → ⊥) → 0 < m
      by_zero zero q = absurd (q refl)
      by_zero (suc m) q = omega arith

pub no_last_at : (t : Script) (c : Command) → GoesOn t (line.Boot c) → (p : Plan) → plan_orders p ≡ orders t.registry c → (n : ℕ) → n ≡ t.posts → 0 < n → slice_get (plan_orders p) (n - 1) ≡ None → IsNoCommand t reason.ScriptEnded
no_last_at t c h p plan n is k e =
    no_last t c h (omega (arith, k, is)) (ap (λ m. slice_get (orders t.registry c) (m - 1)) (sym is) ∙ ap (λ os. slice_get os (n - 1)) (sym plan) ∙ e)

-- a raise is no command
pub no_raise : (t : Script) (l : LineNo) → GoesOn t (line.Raise l) → IsNoCommand t reason.ScriptEnded
no_raise t l h s at polls = does_line s t at polls (line.Raise l) h

-- a mailbox that does not exist is no Ack
pub no_mailbox : (s : State) (last : CoreNo) (next : Option (CoreNo × Order)) → ComesTo s.script (posting.After last next) → slice_get s.mailboxes last.0 ≡ None → RefusesCommand s (reason.NoAck last)
no_mailbox s last next h there polls =
    let c = h.0 in
    let n = h.1.next in
    looks_last s s.script refl polls c h.1.goes last.0 n.3.0 n.0 n.3.1 ∙ ap (λ q. outcome s (with_ack s.script c last.0 q)) there
