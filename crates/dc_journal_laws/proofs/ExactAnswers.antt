-- A journal of which the sentences hold goes on: its entries are in order with the script.
use Rattle.std.proofs.Common.{◌≡◌, ℕ, ◌<◌, ◌≤◌, List, [], ◌∷◌, ◌++◌, Bool, true, false, Option, Some, None, refl, sym, ap, ◌∙◌, subst, arith}
use Rattle.std.specs.Prelude.{◌==◌, ◌&&◌, nat_lt, nat_le, if◌then◌else◌, is_some, is_none, slice_get}
use Rattle.std.specs.Option.{option_map_or}
use Rattle.std.proofs.lemmas.Bool.Decides.{nat_tests}
use Rattle.std.proofs.lemmas.List.{append_cancel_left}
use Rattle.dc_base.specs.declared.images.Image.{Image}
use Rattle.dc_base.specs.declared.numbers.BlockNo.{BlockNo}
use Rattle.dc_base.specs.declared.numbers.CoreNo.{CoreNo}
use Rattle.dc_base.specs.declared.numbers.LineNo.{LineNo}
use Rattle.dc_base.specs.declared.commands.Command.{Command}
use Rattle.dc_base.specs.declared.commands.Command.TheVariants.{Start, Stop, Replace, Attach, Move, Park, Unpark}
use Rattle.dc_base.specs.declared.commands.Order.{Order}
use Rattle.dc_base.specs.declared.commands.Order.TheVariants as order
use Rattle.dc_base.specs.declared.commands.Refusal.{Refusal}
use Rattle.dc_base.specs.declared.commands.ScriptLine.{ScriptLine}
use Rattle.dc_base.specs.declared.commands.ScriptLine.TheVariants as line
use Rattle.dc_base.specs.declared.entries.Entry.{Entry}
use Rattle.dc_base.specs.declared.entries.What.{What}
use Rattle.dc_base.specs.declared.entries.What.TheVariants as what
use Rattle.dc_base.specs.Same.{is_same_order}
use Rattle.dc_base.specs.Outcomes.{by_core, by_script}
use Rattle.dc_base.specs.StrikeOut.{clock_told}
use Rattle.dc_base.specs.Script.{is_command}
use Rattle.dc_base.specs.Boot.{Registry, core_of, refusal, orders}
use Rattle.dc_base.specs.Answers.{Answered, order_in, is_made_by_core, shows_clock, order_answer, core_answer, is_this_order, is_this_refusal, finished, only_if, may_begin, after_post, first_post, post_answer, none_left, done_answer, refused_answer, route_answer, await_answer}
use Rattle.dc_base.specs.Runs.{Seen, run, boot_state}
use Rattle.dc_base.proofs.SameLaws.{is_same_order-refl, is_same_refusal-refl}
use Rattle.dc_journal_laws.specs.Entries.{command_line, before_command, posted_by}
use Rattle.dc_journal_laws.specs.Booting.{AreOrders}
use Rattle.dc_journal_laws.specs.Answering.{goes_on}
use Rattle.dc_journal_laws.specs.Whole.{SentencesHold}
use Rattle.dc_journal_laws.proofs.Prefixes.{boot_is, clock_is}
use Rattle.dc_journal_laws.proofs.Lists.{EachOf, before_command-none}
use Rattle.dc_journal_laws.proofs.Progress.{IsBelow, none_of, none_posted}
use Rattle.dc_journal_laws.proofs.Tests.{same_number, and_true}
use Rattle.dc_journal_laws.proofs.ExactPlaces.{so_far, none_waits, some_waits, at_place, is_fresh, may}

pub some_if : {A : Type 0} (test : Bool) (x : A) → test ≡ true → is_some (only_if test x) ≡ true
some_if test x h = ap (λ t. is_some (only_if t x)) h

where_true : {A : Type 0} (test : Bool) (o : Option A) → test ≡ true → is_some o ≡ true → is_some (if test then o else None) ≡ true
where_true test o h some = ap (λ t. is_some (if t then o else None)) h ∙ some

this_order_is : (c : ℕ) (o : Order) → is_this_order c o (Some (c, o)) ≡ true
this_order_is c o = and_true (c == c) (is_same_order o o) (same_number c c refl) (is_same_order-refl o)

posts_some : (a : Answered) (c : ℕ) (o : Order) (os more : List (ℕ × Order)) → os ≡ (c, o) ∷ more → is_some (after_post a c o os) ≡ true
posts_some a c o os more h = ap (λ xs. is_some (after_post a c o xs)) h ∙ some_if (is_this_order c o (Some (c, o))) (record a { begun = true; left = more; posted = Some (c, o) }) (this_order_is c o)

-- a command has an order
released_first : (o : Option ℕ) (b : BlockNo) (x : ℕ × Order) → [] ≡ option_map_or (λ c. (c, order.Release b) ∷ []) o [] ++ x ∷ [] → ⊥
released_first None b x h = cc
released_first (Some c) b x h = cc

orders_some : (r : Registry) (command : Command) → [] ≡ orders r command → ⊥
unfolding orders
orders_some r (Start c v) h = cc
orders_some r (Stop c) h = cc
orders_some r (Replace c v) h = cc
orders_some r (Attach b c) h = cc
orders_some r (Move b c) h = released_first (core_of r b.0) b (c.0, order.Adopt b false) h
orders_some r (Park b c) h = released_first (core_of r b.0) b (c.0, order.Adopt b true) h
orders_some r (Unpark b c) h = released_first (core_of r b.0) b (c.0, order.Adopt b false) h

module _ (lines : List ScriptLine) where
  -- what is left of a command's orders is one list
  same_rest : (q : ℕ) (r : Registry) (these xs ys : List (ℕ × Order)) → AreOrders lines q r these xs → AreOrders lines q r these ys → xs ≡ ys
  same_rest q r these xs ys f g =
      let one = f.answer.in_script in
      let two = g.answer.in_script in
      let same : f.answer.command ≡ g.answer.command = cc in
      append_cancel_left these xs ys (f.whole ∙ ap (λ k. orders r k) same ∙ sym g.whole)

module _ (image : Image) (lines : List ScriptLine) (journal : List Entry) (said : SentencesHold image lines journal) (before after : List Entry) (s : Seen) (r : run image lines before ≡ Some s) where
  shows : (c : ℕ) (w : What) → journal ≡ before ++ by_core c w ∷ after → shows_clock (clock_told s.told c) w ≡ true
  shows c (what.Start v k) same = same_number k (clock_told s.told c) (said.started_time before after c v k same ∙ sym (clock_is image lines before s r c))
  shows c w same = refl

  order_some : (c : ℕ) (w : What) → journal ≡ before ++ by_core c w ∷ after → (o : Option Order) → order_in w ≡ o → is_some (order_answer s.answered c o) ≡ true
  order_some c w same None at = refl
  order_some c w same (Some o) at =
      let waits = some_waits image lines journal said before after s r c o (said.carried_out before after c w o same at) in
      some_if (is_this_order c o s.answered.posted) (record s.answered { posted = None }) (ap (λ p. is_this_order c o p) waits ∙ this_order_is c o)

  pub core_some : (c : ℕ) (w : What) → journal ≡ before ++ by_core c w ∷ after → is_some (core_answer s.answered (clock_told s.told c) c w) ≡ true
  unfolding core_answer
  core_some c w same =
      where_true (is_made_by_core w && shows_clock (clock_told s.told c) w) (order_answer s.answered c (order_in w))
      (and_true (is_made_by_core w) (shows_clock (clock_told s.told c) w) (said.makers before after (by_core c w) same) (shows c w same)) (order_some c w same (order_in w) refl)

  -- the orders of a command that has made no entry
  fresh_orders : (q : ℕ) (more : List (ℕ × Order)) → q ≡ s.answered.place → s.answered.begun ≡ false → AreOrders lines q (boot_state image (before_command q before)) (posted_by q before) more → AreOrders lines q s.boot [] more
  fresh_orders q more here fresh h =
      let below = (so_far image lines journal said before after s r).below in
      let none = none_of image lines before q s.answered.left (subst (λ k. EachOf (IsBelow k false) before) (sym here) (subst (λ b. EachOf (IsBelow s.answered.place b) before) fresh below)) in
      let bare = subst (λ these. AreOrders lines q (boot_state image (before_command q before)) these more) (none_posted image lines q before none) h in
      let all = subst (λ es. AreOrders lines q (boot_state image es) [] more) (before_command-none q before none) bare in
      subst (λ boot. AreOrders lines q boot [] more) (sym (boot_is image lines before s r)) all

  -- the orders left of a command that has made one
  left_is : (q : ℕ) (more : List (ℕ × Order)) → q ≡ s.answered.place → s.answered.begun ≡ true → AreOrders lines q (boot_state image (before_command q before)) (posted_by q before) more → s.answered.left ≡ more
  left_is q more here begun h =
      let place = s.answered.place in
      same_rest lines place (boot_state image (before_command place before)) (posted_by place before) s.answered.left more ((so_far image lines journal said before after s r).going begun).orders
      (subst (λ k. AreOrders lines k (boot_state image (before_command k before)) (posted_by k before) more) here h)

  is_none_of : (o : Option (ℕ × Order)) → o ≡ None → is_none o ≡ true
  is_none_of o h = ap is_none h

  pub post_some : (q : ℕ) (c : CoreNo) (o : Order) → journal ≡ before ++ by_script (what.Post q c o) ∷ after → is_some (post_answer lines s.boot s.answered q c.0 o) ≡ true
  post_some q c o same = by s.answered.begun refl
    where
      here : q ≡ s.answered.place
      here = at_place image lines journal said before after s r (by_script (what.Post q c o)) q (line.Boot (said.posted before after q c o same).1.answer.command) same refl (said.posted before after q c o same).1.answer.in_script refl

      by : (b : Bool) → s.answered.begun ≡ b →
          is_some (if b then (if q == s.answered.place && is_none s.answered.posted then after_post s.answered c.0 o s.answered.left else None) else if may_begin lines s.answered q then first_post lines s.boot s.answered c.0 o (slice_get lines q) else None) ≡ true
      by true begun =
          let t = said.posted before after q c o same in
          where_true (q == s.answered.place && is_none s.answered.posted) (after_post s.answered c.0 o s.answered.left)
          (and_true (q == s.answered.place) (is_none s.answered.posted) (same_number q s.answered.place here) (is_none_of s.answered.posted (none_waits image lines journal said before after s r (by_script (what.Post q c o)) q same refl)))
          (posts_some s.answered c.0 o s.answered.left t.0 (left_is q ((c.0, o) ∷ t.0) here begun t.1))
      by false fresh =
          let t = said.posted before after q c o same in
          let os = fresh_orders q ((c.0, o) ∷ t.0) here fresh t.1 in
          where_true (may_begin lines s.answered q) (first_post lines s.boot s.answered c.0 o (slice_get lines q))
          (may image lines journal said before after s r (by_script (what.Post q c o)) q (line.Boot t.1.answer.command) same refl t.1.answer.in_script refl fresh)
          (ap (λ l. is_some (first_post lines s.boot s.answered c.0 o l)) os.answer.in_script
          ∙ where_true (is_none (refusal s.boot os.answer.command)) (after_post s.answered c.0 o (orders s.boot os.answer.command)) (ap is_none os.answer.answered)
          (posts_some s.answered c.0 o (orders s.boot os.answer.command) t.0 (sym os.whole)))

  pub done_some : (q : ℕ) → journal ≡ before ++ by_script (what.Done q) ∷ after → is_some (done_answer lines s.answered q) ≡ true
  done_some q same = by s.answered.begun refl
    where
      here : q ≡ s.answered.place
      here = at_place image lines journal said before after s r (by_script (what.Done q)) q (line.Boot (said.done before after q same).answer.command) same refl (said.done before after q same).answer.in_script refl

      by : (b : Bool) → s.answered.begun ≡ b → is_some (done_answer lines s.answered q) ≡ true
      by true begun =
          some_if (q == s.answered.place && (s.answered.begun && (none_left s.answered.left && is_none s.answered.posted))) (finished lines s.answered)
          (and_true (q == s.answered.place) (s.answered.begun && (none_left s.answered.left && is_none s.answered.posted)) (same_number q s.answered.place here)
          (and_true s.answered.begun (none_left s.answered.left && is_none s.answered.posted) begun
          (and_true (none_left s.answered.left) (is_none s.answered.posted) (ap none_left (left_is q [] here begun (said.done before after q same)))
          (is_none_of s.answered.posted (none_waits image lines journal said before after s r (by_script (what.Done q)) q same refl)))))
      by false fresh = let os = fresh_orders q [] here fresh (said.done before after q same) in absurd (orders_some s.boot os.answer.command os.whole)

  -- a command with one entry
  once_may : (w : What) (q : ℕ) (l : ScriptLine) → journal ≡ before ++ by_script w ∷ after → command_line w ≡ Some q → goes_on w ≡ false → slice_get lines q ≡ Some l → is_command l ≡ true → may_begin lines s.answered q ≡ true
  once_may w q l same at alone there is_one =
      let here = at_place image lines journal said before after s r (by_script w) q l same at there is_one in
      may image lines journal said before after s r (by_script w) q l same at there is_one (is_fresh image lines journal said before after s r (by_script w) q same at here alone)

  pub refused_some : (q : ℕ) (x : Refusal) → journal ≡ before ++ by_script (what.Refused q x) ∷ after → is_some (if may_begin lines s.answered q then refused_answer lines s.boot s.answered x (slice_get lines q) else None) ≡ true
  refused_some q x same =
      let told = said.refused before after q x same in
      let is : refusal s.boot told.command ≡ Some x = ap (λ boot. refusal boot told.command) (boot_is image lines before s r) ∙ told.answered in
      where_true (may_begin lines s.answered q) (refused_answer lines s.boot s.answered x (slice_get lines q)) (once_may (what.Refused q x) q (line.Boot told.command) same refl refl told.in_script refl)
      (ap (λ l. is_some (refused_answer lines s.boot s.answered x l)) told.in_script
      ∙ some_if (is_this_refusal x (refusal s.boot told.command)) (finished lines s.answered) (ap (λ o. is_this_refusal x o) is ∙ is_same_refusal-refl x))

  pub route_some : (q : ℕ) (l : LineNo) (c : CoreNo) → journal ≡ before ++ by_script (what.Route q l c) ∷ after → is_some (if may_begin lines s.answered q then route_answer lines s.answered l.0 c.0 (slice_get lines q) else None) ≡ true
  route_some q l c same =
      let there = said.routed before after q l c same in
      where_true (may_begin lines s.answered q) (route_answer lines s.answered l.0 c.0 (slice_get lines q)) (once_may (what.Route q l c) q (line.Route l c) same refl refl there refl)
      (ap (λ o. is_some (route_answer lines s.answered l.0 c.0 o)) there
      ∙ some_if (l.0 == l.0 && c.0 == c.0) (finished lines s.answered) (and_true (l.0 == l.0) (c.0 == c.0) (same_number l.0 l.0 refl) (same_number c.0 c.0 refl)))

  pub met_some : (q : ℕ) (b : BlockNo) (seen : ℕ) → journal ≡ before ++ by_script (what.Met q b seen) ∷ after → is_some (if may_begin lines s.answered q then await_answer lines s.answered b.0 seen true (slice_get lines q) else None) ≡ true
  met_some q b seen same =
      let told = said.met before after q b seen same in
      let enough : nat_le told.0 seen ≡ true = at_least told.0 told.2 in
      where_true (may_begin lines s.answered q) (await_answer lines s.answered b.0 seen true (slice_get lines q)) (once_may (what.Met q b seen) q (line.Await b told.0 told.1.limit) same refl refl told.1.in_script refl)
      (ap (λ o. is_some (await_answer lines s.answered b.0 seen true o)) told.1.in_script
      ∙ some_if (b.0 == b.0 && nat_le told.0 seen) (finished lines s.answered) (and_true (b.0 == b.0) (nat_le told.0 seen) (same_number b.0 b.0 refl) enough))
    where
      at_least : (n : ℕ) → n ≤ seen → nat_le n seen ≡ true
      at_least n h = grind (arith, nat_tests)

  pub unmet_some : (q : ℕ) (b : BlockNo) (seen : ℕ) → journal ≡ before ++ by_script (what.Unmet q b seen) ∷ after → is_some (if may_begin lines s.answered q then await_answer lines s.answered b.0 seen false (slice_get lines q) else None) ≡ true
  unmet_some q b seen same =
      let told = said.unmet before after q b seen same in
      let few : nat_lt seen told.0 ≡ true = fewer told.0 told.2 in
      where_true (may_begin lines s.answered q) (await_answer lines s.answered b.0 seen false (slice_get lines q)) (once_may (what.Unmet q b seen) q (line.Await b told.0 told.1.limit) same refl refl told.1.in_script refl)
      (ap (λ o. is_some (await_answer lines s.answered b.0 seen false o)) told.1.in_script
      ∙ some_if (b.0 == b.0 && nat_lt seen told.0) (finished lines s.answered) (and_true (b.0 == b.0) (nat_lt seen told.0) (same_number b.0 b.0 refl) few))
    where
      fewer : (n : ℕ) → seen < n → nat_lt seen n ≡ true
      fewer n h = grind (arith, nat_tests)
