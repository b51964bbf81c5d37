-- How an entry of a run is in order with the script: each kind of entry, with what it finds and what it leaves.
use Rattle.std.proofs.Common.{◌≡◌, ℕ, ◌+◌, ◌<◌, List, [], ◌∷◌, Bool, true, false, Option, Some, None, refl, sym, ap, ◌∙◌, subst, arith}
use Rattle.std.specs.Prelude.{◌==◌, ◌&&◌, not, nat_lt, nat_le, if◌then◌else◌, is_none, slice_get}
use Rattle.std.proofs.lemmas.Bool.Decides.{nat_tests}
use Rattle.dc_base.specs.declared.actions.Actor.{Actor}
use Rattle.dc_base.specs.declared.actions.Actor.TheVariants as actor
use Rattle.dc_base.specs.declared.numbers.BlockNo.{BlockNo}
use Rattle.dc_base.specs.declared.numbers.CoreNo.{CoreNo}
use Rattle.dc_base.specs.declared.numbers.LineNo.{LineNo}
use Rattle.dc_base.specs.declared.interrupts.Raised.{Raised}
use Rattle.dc_base.specs.declared.commands.Order.{Order}
use Rattle.dc_base.specs.declared.commands.Refusal.{Refusal}
use Rattle.dc_base.specs.declared.commands.ScriptLine.{ScriptLine}
use Rattle.dc_base.specs.declared.commands.ScriptLine.TheVariants as line
use Rattle.dc_base.specs.declared.entries.Entry.{Entry}
use Rattle.dc_base.specs.declared.entries.What.{What}
use Rattle.dc_base.specs.declared.entries.What.TheVariants as what
use Rattle.dc_base.specs.Words.{is_number}
use Rattle.dc_base.specs.Same.{is_same_order}
use Rattle.dc_base.specs.Outcomes.{by_core, by_script}
use Rattle.dc_base.specs.Script.{next_raise}
use Rattle.dc_base.specs.Boot.{Registry, refusal, orders}
use Rattle.dc_base.specs.Answers.{Answered, order_in, is_made_by_core, shows_clock, order_answer, core_answer, is_this_order, is_this_refusal, finished, only_if, is_above, may_begin, after_post, first_post, none_left, done_answer, refused_answer, route_answer, await_answer, first_unanswered, is_raise_of, raise_answer, script_answer, answered_by, answered_after}
use Rattle.dc_base.proofs.SameLaws.{is_same_order-equal, is_same_refusal-equal}
use Rattle.dc_journal_laws.specs.Entries.{command_line, is_post, post_in, raise_in}
use Rattle.dc_journal_laws.specs.Booting.{IsAnsweredBy}
use Rattle.dc_journal_laws.specs.Answering.{goes_on, Awaits}
use Rattle.dc_journal_laws.proofs.Tests.{both, numbers}

-- an entry that is no entry of the script
pub record Plain (w : What) : Type 0 where
  pub made : is_made_by_core w ≡ true
  pub no_line : command_line w ≡ None
  pub no_post : post_in w ≡ []
  pub no_raise : raise_in w ≡ []

-- the one entry of the command in line q
pub record Single (lines : List ScriptLine) (w : What) (q : ℕ) : Type 0 where
  pub of_line : command_line w ≡ Some q
  pub not_post : is_post w ≡ false
  pub not_on : goes_on w ≡ false
  pub not_made : is_made_by_core w ≡ false
  pub no_post : post_in w ≡ []
  pub no_raise : raise_in w ≡ []
  pub there : ScriptLine
  pub in_script : slice_get lines q ≡ Some there

-- the command in line q may make its first entry
pub record Begins (lines : List ScriptLine) (a : Answered) (q : ℕ) : Type 0 where
  pub place : q ≡ a.place
  pub fresh : a.begun ≡ false
  pub above : is_above q (next_raise lines a.raises) ≡ true

abbrev pub after_post_of : Answered → ℕ × Order → List (ℕ × Order) → Answered
after_post_of a o more = record a { begun = true; left = more; posted = Some o }

pub data Case (lines : List ScriptLine) (r : Registry) (a : Answered) : Entry → Answered → Type 0 where
  works : (c : ℕ) (w : What) → Plain w → order_in w ≡ None → Case lines r a (by_core c w) a
  carries : (c : ℕ) (w : What) (o : Order) → Plain w → order_in w ≡ Some o → a.posted ≡ Some (c, o) → Case lines r a (by_core c w) (record a { posted = None })
  begins : (q : ℕ) (c : CoreNo) (o : Order) (more : List (ℕ × Order)) (answer : IsAnsweredBy lines q r None) → Begins lines a q → orders r answer.command ≡ (c.0, o) ∷ more →
      Case lines r a (by_script (what.Post q c o)) (after_post_of a (c.0, o) more)
  posts : (q : ℕ) (c : CoreNo) (o : Order) (more : List (ℕ × Order)) → a.begun ≡ true → q ≡ a.place → a.posted ≡ None → a.left ≡ (c.0, o) ∷ more →
      Case lines r a (by_script (what.Post q c o)) (after_post_of a (c.0, o) more)
  does : (q : ℕ) → q ≡ a.place → a.begun ≡ true → a.left ≡ [] → a.posted ≡ None → Case lines r a (by_script (what.Done q)) (finished lines a)
  answers_once : (q : ℕ) (w : What) → Single lines w q → Begins lines a q → Case lines r a (by_script w) (finished lines a)
  raises : (q : ℕ) (l : LineNo) (x : Raised) → next_raise lines a.raises ≡ Some q → q < first_unanswered lines a → slice_get lines q ≡ Some (line.Raise l) →
      Case lines r a (by_script (what.Raise q l x)) (record a { raises = a.raises + 1 })

-- an entry of a core is no entry of the script
plain : (w : What) → is_made_by_core w ≡ true → Plain w
plain (what.Post q c o) h = absurd cc
plain (what.Done q) h = absurd cc
plain (what.Refused q x) h = absurd cc
plain (what.Raise q l x) h = absurd cc
plain (what.Route q l c) h = absurd cc
plain (what.Met q b n) h = absurd cc
plain (what.Unmet q b n) h = absurd cc
plain w h = record { made = h; no_line = refl; no_post = refl; no_raise = refl }

only_if_some : {A : Type 0} (test : Bool) (x y : A) → only_if test x ≡ Some y → (test ≡ true) × (x ≡ y)
only_if_some false x y h = absurd cc
only_if_some true x y h = let same : x ≡ y = cc in (refl, same)

pub if_some : {A : Type 0} (test : Bool) (o : Option A) (y : A) → (if test then o else None) ≡ Some y → (test ≡ true) × (o ≡ Some y)
if_some false o y h = absurd cc
if_some true o y h = (refl, h)

none_is : {A : Type 0} (o : Option A) → is_none o ≡ true → o ≡ None
none_is None h = refl
none_is (Some x) h = absurd (let bad : false ≡ true = h in cc)

-- this order
this_order : (c : ℕ) (o : Order) (p : ℕ × Order) → is_this_order c o (Some p) ≡ true → p ≡ (c, o)
this_order c o p h =
    let t = both (p.0 == c) (is_same_order p.1 o) h in
    ap (λ k. (k, p.1)) (numbers p.0 c t.0) ∙ ap (λ q. (c, q)) (is_same_order-equal p.1 o t.1)

this_posted : (c : ℕ) (o : Order) (posted : Option (ℕ × Order)) → is_this_order c o posted ≡ true → posted ≡ Some (c, o)
this_posted c o None h = absurd (let bad : false ≡ true = h in cc)
this_posted c o (Some p) h = ap Some (this_order c o p h)

begins_by : (lines : List ScriptLine) (a : Answered) (q : ℕ) → may_begin lines a q ≡ true → Begins lines a q
begins_by lines a q h =
    let outer = both (q == a.place) (not a.begun && is_above q (next_raise lines a.raises)) h in
    let inner = both (not a.begun) (is_above q (next_raise lines a.raises)) outer.1 in
    record { place = numbers q a.place outer.0; fresh = not_true a.begun inner.0; above = inner.1 }
  where
    not_true : (p : Bool) → not p ≡ true → p ≡ false
    not_true true e = absurd (let bad : false ≡ true = e in cc)
    not_true false e = refl

module _ (lines : List ScriptLine) (r : Registry) (clock : ℕ → ℕ) (a : Answered) where
  core_case : (c : ℕ) (w : What) (n : Answered) (o : Option Order) → order_in w ≡ o → is_made_by_core w ≡ true → order_answer a c o ≡ Some n → Case lines r a (by_core c w) n
  core_case c w n None e made h = let same : a ≡ n = cc in subst (Case lines r a (by_core c w)) same (works c w (plain w made) e)
  core_case c w n (Some o) e made h =
      let t = only_if_some (is_this_order c o a.posted) (record a { posted = None }) n h in
      subst (Case lines r a (by_core c w)) t.1 (carries c w o (plain w made) e (this_posted c o a.posted t.0))

  -- the posted order is the first of these
  record PostsFirst (c : ℕ) (o : Order) (os : List (ℕ × Order)) (n : Answered) : Type 0 where
    more : List (ℕ × Order)
    first : os ≡ (c, o) ∷ more
    leaves : after_post_of a (c, o) more ≡ n

  posts_by : (c : ℕ) (o : Order) (os : List (ℕ × Order)) (n : Answered) → after_post a c o os ≡ Some n → PostsFirst c o os n
  posts_by c o [] n h = absurd cc
  posts_by c o (p ∷ ps) n h =
      let t = only_if_some (is_this_order c o (Some p)) (record a { begun = true; left = ps; posted = Some p }) n h in
      let same = this_order c o p t.0 in
      record { more = ps; first = ap (λ q. q ∷ ps) same; leaves = ap (λ q. after_post_of a q ps) (sym same) ∙ t.1 }

  first_case : (q : ℕ) (c : CoreNo) (o : Order) (n : Answered) (l : Option ScriptLine) → slice_get lines q ≡ l → Begins lines a q → first_post lines r a c.0 o l ≡ Some n → Case lines r a (by_script (what.Post q c o)) n
  first_case q c o n (Some (line.Boot command)) e begin h =
      let t = if_some (is_none (refusal r command)) (after_post a c.0 o (orders r command)) n h in
      let f = posts_by c.0 o (orders r command) n t.1 in
      subst (Case lines r a (by_script (what.Post q c o))) f.leaves
      (begins q c o f.more (record { command = command; in_script = e; answered = none_is (refusal r command) t.0 }) begin f.first)
  first_case q c o n l e begin h = absurd cc

  post_case : (q : ℕ) (c : CoreNo) (o : Order) (n : Answered) (begun : Bool) → a.begun ≡ begun →
      (if begun then (if q == a.place && is_none a.posted then after_post a c.0 o a.left else None)
      else if may_begin lines a q then first_post lines r a c.0 o (slice_get lines q) else None) ≡ Some n → Case lines r a (by_script (what.Post q c o)) n
  post_case q c o n true e h =
      let t = if_some (q == a.place && is_none a.posted) (after_post a c.0 o a.left) n h in
      let b = both (q == a.place) (is_none a.posted) t.0 in
      let f = posts_by c.0 o a.left n t.1 in
      subst (Case lines r a (by_script (what.Post q c o))) f.leaves (posts q c o f.more e (numbers q a.place b.0) (none_is a.posted b.1) f.first)
  post_case q c o n false e h =
      let t = if_some (may_begin lines a q) (first_post lines r a c.0 o (slice_get lines q)) n h in
      first_case q c o n (slice_get lines q) refl (begins_by lines a q t.0) t.1

  none_left_is : (os : List (ℕ × Order)) → none_left os ≡ true → os ≡ []
  none_left_is [] h = refl
  none_left_is (o ∷ os) h = absurd (let bad : false ≡ true = h in cc)

  done_case : (q : ℕ) (n : Answered) → done_answer lines a q ≡ Some n → Case lines r a (by_script (what.Done q)) n
  done_case q n h =
      let t = only_if_some (q == a.place && (a.begun && (none_left a.left && is_none a.posted))) (finished lines a) n h in
      let p = both (q == a.place) (a.begun && (none_left a.left && is_none a.posted)) t.0 in
      let b = both a.begun (none_left a.left && is_none a.posted) p.1 in
      let l = both (none_left a.left) (is_none a.posted) b.1 in
      subst (Case lines r a (by_script (what.Done q))) t.1 (does q (numbers q a.place p.0) b.0 (none_left_is a.left l.0) (none_is a.posted l.1))

  -- a refused command, with its refusal
  pub record IsRefused (q : ℕ) (x : Refusal) (n : Answered) : Type 0 where
    pub answer : IsAnsweredBy lines q r (Some x)
    pub leaves : finished lines a ≡ n

  this_refusal : (x : Refusal) (o : Option Refusal) → is_this_refusal x o ≡ true → o ≡ Some x
  this_refusal x None h = absurd (let bad : false ≡ true = h in cc)
  this_refusal x (Some y) h = ap Some (is_same_refusal-equal y x h)

  pub refused_by : (q : ℕ) (x : Refusal) (n : Answered) (l : Option ScriptLine) → slice_get lines q ≡ l → refused_answer lines r a x l ≡ Some n → IsRefused q x n
  refused_by q x n (Some (line.Boot command)) e h =
      let t = only_if_some (is_this_refusal x (refusal r command)) (finished lines a) n h in
      record { answer = record { command = command; in_script = e; answered = this_refusal x (refusal r command) t.0 }; leaves = t.1 }
  refused_by q x n l e h = absurd cc

  -- a route entry, as its line says
  pub record IsRouted (q : ℕ) (m : LineNo) (d : CoreNo) (n : Answered) : Type 0 where
    pub in_script : slice_get lines q ≡ Some (line.Route m d)
    pub leaves : finished lines a ≡ n

  pub routed_by : (q : ℕ) (m : LineNo) (d : CoreNo) (n : Answered) (l : Option ScriptLine) → slice_get lines q ≡ l → route_answer lines a m.0 d.0 l ≡ Some n → IsRouted q m d n
  routed_by q m d n (Some (line.Route k c)) e h =
      let t = only_if_some (k.0 == m.0 && c.0 == d.0) (finished lines a) n h in
      let b = both (k.0 == m.0) (c.0 == d.0) t.0 in
      record {
        in_script = e ∙ ap (λ i. Some (line.Route (record { 0 = i }) c)) (numbers k.0 m.0 b.0) ∙ ap (λ i. Some (line.Route m (record { 0 = i }))) (numbers c.0 d.0 b.1);
        leaves = t.1;
      }
  routed_by q m d n l e h = absurd cc

  -- an await entry, as its line says
  pub record IsAwaited (q : ℕ) (b : BlockNo) (seen : ℕ) (is_met : Bool) (n : Answered) : Type 0 where
    pub words : ℕ
    pub awaits : Awaits lines q b words
    pub enough : (if is_met then nat_le words seen else nat_lt seen words) ≡ true
    pub leaves : finished lines a ≡ n

  pub awaited_by : (q : ℕ) (b : BlockNo) (seen : ℕ) (is_met : Bool) (n : Answered) (l : Option ScriptLine) → slice_get lines q ≡ l → await_answer lines a b.0 seen is_met l ≡ Some n → IsAwaited q b seen is_met n
  awaited_by q b seen is_met n (Some (line.Await k words limit)) e h =
      let t = only_if_some (k.0 == b.0 && (if is_met then nat_le words seen else nat_lt seen words)) (finished lines a) n h in
      let p = both (k.0 == b.0) (if is_met then nat_le words seen else nat_lt seen words) t.0 in
      record { words = words; awaits = record { limit = limit; in_script = e ∙ ap (λ i. Some (line.Await (record { 0 = i }) words limit)) (numbers k.0 b.0 p.0) }; enough = p.1; leaves = t.1 }
  awaited_by q b seen is_met n l e h = absurd cc

  raise_of : (l : LineNo) (o : Option ScriptLine) → is_raise_of l.0 o ≡ true → o ≡ Some (line.Raise l)
  raise_of l (Some (line.Raise m)) h = ap (λ i. Some (line.Raise (record { 0 = i }))) (numbers m.0 l.0 h)
  raise_of l o h = absurd cc

  this_number : (q : ℕ) (o : Option ℕ) → is_number q o ≡ true → o ≡ Some q
  this_number q None h = absurd (let bad : false ≡ true = h in cc)
  this_number q (Some m) h = ap Some (numbers m q h)

  raise_case : (q : ℕ) (l : LineNo) (x : Raised) (n : Answered) → raise_answer lines a q l.0 ≡ Some n → Case lines r a (by_script (what.Raise q l x)) n
  raise_case q l x n h =
      let number = is_number q (next_raise lines a.raises) in
      let below = nat_lt q (first_unanswered lines a) in
      let of_line = is_raise_of l.0 (slice_get lines q) in
      let t = only_if_some (number && (below && of_line)) (record a { raises = a.raises + 1 }) n h in
      let p = both number (below && of_line) t.0 in
      let b = both below of_line p.1 in
      subst (Case lines r a (by_script (what.Raise q l x))) t.1 (raises q l x (this_number q (next_raise lines a.raises) p.0) (less q (first_unanswered lines a) b.0) (raise_of l (slice_get lines q) b.1))
    where
      less : (i j : ℕ) → nat_lt i j ≡ true → i < j
      less i j e = grind (arith, nat_tests)

  once_case : (q : ℕ) (w : What) (n : Answered) → Single lines w q → Begins lines a q → finished lines a ≡ n → Case lines r a (by_script w) n
  once_case q w n single begin same = subst (Case lines r a (by_script w)) same (answers_once q w single begin)

  script_case : (w : What) (n : Answered) → script_answer lines r a w ≡ Some n → Case lines r a (by_script w) n
  unfolding script_answer
  script_case (what.Post q c o) n h = post_case q c o n a.begun refl h
  script_case (what.Done q) n h = done_case q n h
  script_case (what.Refused q x) n h =
      let t = if_some (may_begin lines a q) (refused_answer lines r a x (slice_get lines q)) n h in
      let f = refused_by q x n (slice_get lines q) refl t.1 in
      once_case q (what.Refused q x) n
      (record { of_line = refl; not_post = refl; not_on = refl; not_made = refl; no_post = refl; no_raise = refl; there = line.Boot f.answer.command; in_script = f.answer.in_script })
      (begins_by lines a q t.0) f.leaves
  script_case (what.Raise q l x) n h = raise_case q l x n h
  script_case (what.Route q l c) n h =
      let t = if_some (may_begin lines a q) (route_answer lines a l.0 c.0 (slice_get lines q)) n h in
      let f = routed_by q l c n (slice_get lines q) refl t.1 in
      once_case q (what.Route q l c) n (record { of_line = refl; not_post = refl; not_on = refl; not_made = refl; no_post = refl; no_raise = refl; there = line.Route l c; in_script = f.in_script })
      (begins_by lines a q t.0) f.leaves
  script_case (what.Met q b seen) n h =
      let t = if_some (may_begin lines a q) (await_answer lines a b.0 seen true (slice_get lines q)) n h in
      let f = awaited_by q b seen true n (slice_get lines q) refl t.1 in
      once_case q (what.Met q b seen) n
      (record { of_line = refl; not_post = refl; not_on = refl; not_made = refl; no_post = refl; no_raise = refl; there = line.Await b f.words f.awaits.limit; in_script = f.awaits.in_script })
      (begins_by lines a q t.0) f.leaves
  script_case (what.Unmet q b seen) n h =
      let t = if_some (may_begin lines a q) (await_answer lines a b.0 seen false (slice_get lines q)) n h in
      let f = awaited_by q b seen false n (slice_get lines q) refl t.1 in
      once_case q (what.Unmet q b seen) n
      (record { of_line = refl; not_post = refl; not_on = refl; not_made = refl; no_post = refl; no_raise = refl; there = line.Await b f.words f.awaits.limit; in_script = f.awaits.in_script })
      (begins_by lines a q t.0) f.leaves
  script_case w n h = absurd cc

  actor_case : (who : Actor) (w : What) (n : Answered) → answered_by lines r clock a who w ≡ Some n → Case lines r a (record { actor = who; what = w }) n
  unfolding core_answer
  actor_case (actor.Core c) w n h =
      let t = if_some (is_made_by_core w && shows_clock (clock c.0) w) (order_answer a c.0 (order_in w)) n h in
      let made = both (is_made_by_core w) (shows_clock (clock c.0) w) t.0 in
      core_case c.0 w n (order_in w) refl made.0 t.1
  actor_case actor.Script w n h = script_case w n h

  -- an entry that is in order is one of these
  pub case_of : (e : Entry) (n : Answered) → answered_after lines r clock a e ≡ Some n → Case lines r a e n
  unfolding answered_after
  case_of e n h = actor_case e.actor e.what n h
