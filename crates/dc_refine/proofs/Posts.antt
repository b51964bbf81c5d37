-- The entries of posts, and of a command that is done, follow.
use Rattle.std.proofs.Common.{◌≡◌, ℕ, zero, suc, ◌+◌, ◌<◌, List, [], ◌∷◌, true, false, Option, Some, None, refl, sym, ap, ◌∙◌, length, drop, arith, add-one}
use Rattle.std.specs.Prelude.{slice_get, slice_set, ◌==◌, ◌&&◌, if◌then◌else◌, is_none}
use Rattle.std.specs.Option.{option_map_or}
use Rattle.std.proofs.lemmas.List.{length-set}
use Rattle.dc_base.specs.declared.commands.Command.{Command}
use Rattle.dc_base.specs.declared.commands.Order.{Order}
use Rattle.dc_base.specs.declared.commands.Refusal.{Refusal}
use Rattle.dc_base.specs.declared.commands.ScriptLine.{ScriptLine}
use Rattle.dc_base.specs.declared.commands.ScriptLine.TheVariants as line
use Rattle.dc_base.specs.declared.entries.What.TheVariants as what
use Rattle.dc_base.specs.Words.{bind}
use Rattle.dc_base.specs.Blocks.{Blocks}
use Rattle.dc_base.specs.Boot.{refusal, orders, after_orders}
use Rattle.dc_base.specs.Script.{next_raise}
use Rattle.dc_base.specs.States.{is_begun, State, Script, Mailbox, empty, order, ack}
use Rattle.dc_base.specs.Changes.{mailbox_becomes}
use Rattle.dc_base.specs.Turns.{outcome}
use Rattle.dc_base.specs.Commands.{at_next_command, raise_above, post, post_or_done, begin, with_ack, go_on_from, boot_turn}
use Rattle.dc_base.specs.StandsFor.{StandsFor}
use Rattle.dc_base.specs.Same.{is_same_order}
use Rattle.dc_base.proofs.SameLaws.{is_same_order-refl}
use Rattle.dc_base.specs.Answers.{may_begin, only_if, is_this_order, after_post, first_post, post_answer, none_left, done_answer, finished}
use Rattle.dc_base.specs.Runs.{Terms}
use Rattle.dc_base.specs.Sound.{IsSound}
use Rattle.dc_base.specs.Bounded.{LineWithin}
use Rattle.dc_base.specs.Progress.{boot_of, boot_command, command_at, orders_now, last_of, last_post, has_order, is_waiting}
use Rattle.dc_base.specs.Telling.{IsOf, answered_of, left_of, posted_of}
use Rattle.dc_refine.proofs.Elements.{slice_get-set_same, there_below}
use Rattle.dc_refine.proofs.Beside.{same_wires}
use Rattle.dc_refine.proofs.Good.{Good}
use Rattle.dc_refine.proofs.Heads.{events_open, columns_open, answer_open}
use Rattle.dc_refine.proofs.OrderCores.{some_order, first_core, later_core}
use Rattle.dc_refine.proofs.Quiet.{same_number, quiet, may_begin-at}
use Rattle.dc_refine.proofs.Refusals.{refused_good}

drop_there : {A : Type 0} (xs : List A) (n : ℕ) (x : A) → slice_get xs n ≡ Some x → drop n xs ≡ x ∷ drop (suc n) xs
drop_there [] n x h = cc
drop_there (y ∷ ys) zero x h = let e : y ≡ x = cc in ap (λ v. v ∷ ys) e
drop_there (y ∷ ys) (suc n) x h = drop_there ys n x h

drop_past : {A : Type 0} (xs : List A) (n : ℕ) → slice_get xs n ≡ None → drop n xs ≡ []
drop_past [] zero h = refl
drop_past [] (suc n) h = refl
drop_past (y ∷ ys) zero h = cc
drop_past (y ∷ ys) (suc n) h = drop_past ys n h

module _ (terms : Terms) (lines : List ScriptLine) (s : State) (t : Blocks) (of : IsOf terms lines s) (sound : IsSound s) (stands : StandsFor s t)
    (command : Command) (at : slice_get s.script.lines s.script.place ≡ Some (line.Boot command)) where
  abbrev all_orders : List (ℕ × Order)
  all_orders = orders s.script.registry command

  -- its orders are those of the command in progress
  command_is : command_at s.script ≡ Some command
  command_is = ap (λ o. bind o boot_command) at

  orders_are : orders_now s.script ≡ orders s.script.registry command
  orders_are = ap (λ o. option_map_or (orders s.script.registry) o []) command_is

  -- the script after a post to these mailboxes
  abbrev posted : List Mailbox → ℕ × Order → State
  posted mailboxes o = record s { mailboxes = slice_set mailboxes o.0 (order o.1); script = record s.script { posts = s.script.posts + 1 } }

  module _ (mailboxes : List Mailbox) (o : ℕ × Order) (order_at : slice_get all_orders s.script.posts ≡ Some o) (within : o.0 < length mailboxes) where
    last_is : last_post (posted mailboxes o).script ≡ Some o
    last_is = ap (λ n. last_of n (orders_now s.script)) (add-one s.script.posts) ∙ ap (λ os. slice_get os s.script.posts) orders_are ∙ order_at

    waiting : is_waiting (posted mailboxes o) ≡ true
    waiting =
        let there = there_below mailboxes o.0 within in
        ap (λ p. option_map_or (λ (q : ℕ × Order). has_order (slice_get (slice_set mailboxes o.0 (order o.1)) q.0)) p false) last_is
        ∙ ap has_order (slice_get-set_same mailboxes o.0 there.0 (order o.1) there.1)

    begun_now : is_begun (s.script.posts + 1) ≡ true
    begun_now = ap is_begun (add-one s.script.posts)

    left_now : left_of (posted mailboxes o).script ≡ drop (suc s.script.posts) all_orders
    left_now =
        ap (λ f. if f then drop (s.script.posts + 1) (orders_now s.script) else []) begun_now
        ∙ ap (λ n. drop n (orders_now s.script)) (add-one s.script.posts) ∙ ap (drop (suc s.script.posts)) orders_are

    -- after the post the orders behind it are left
    posted_answered : record (answered_of s) { begun = true; left = drop (suc s.script.posts) all_orders; posted = Some o } ≡ answered_of (posted mailboxes o)
    posted_answered =
        ap (λ f. record (answered_of s) { begun = f; left = drop (suc s.script.posts) all_orders; posted = Some o }) (sym begun_now)
        ∙ ap (λ l. record (answered_of s) { begun = is_begun (s.script.posts + 1); left = l; posted = Some o }) (sym left_now)
        ∙ ap (λ p. record (answered_of s) { begun = is_begun (s.script.posts + 1); left = left_of (posted mailboxes o).script; posted = p })
        (sym last_is ∙ ap (λ f. if f then last_post (posted mailboxes o).script else None) (sym waiting))

    this_order : is_this_order o.0 o.1 (Some o) ≡ true
    this_order = ap (λ f. f && is_same_order o.1 o.1) (same_number o.0) ∙ is_same_order-refl o.1

    post_answered : after_post (answered_of s) o.0 o.1 (o ∷ drop (suc s.script.posts) all_orders) ≡ Some (answered_of (posted mailboxes o))
    post_answered = ap (λ f. only_if f (record (answered_of s) { begun = true; left = drop (suc s.script.posts) all_orders; posted = Some o })) this_order ∙ ap Some posted_answered

  -- the command's line is within its bounds
  command_within : LineWithin s.script.settings (line.Boot command)
  command_within = sound.settled.within s.script.place (line.Boot command) at

  -- the first post
  module _ (none_above : raise_above s.script.place (next_raise s.script.lines s.script.raises) ≡ None) (idle : s.script.posts ≡ 0) (accepted : refusal s.script.registry command ≡ None) where
    registry_is : s.script.registry ≡ boot_of s
    registry_is = sound.registered.idle idle

    module _ (o : ℕ × Order) (first : slice_get all_orders 0 ≡ Some o) where
      order_at : slice_get all_orders s.script.posts ≡ Some o
      order_at = ap (slice_get all_orders) idle ∙ first

      within : o.0 < length s.mailboxes
      within =
          let h = first_core s s.script.settings command o sound.placed command_within sound.settled.cores (ap (λ r. slice_get (orders r command) 0) (sym registry_is) ∙ first) in
          let e = sound.settled.mailboxes in omega (arith, h, e)

      first_answers : post_answer lines (boot_of s) (answered_of s) s.script.place o.0 o.1 ≡ Some (answered_of (posted s.mailboxes o))
      first_answers =
          ap (λ ls. post_answer ls (boot_of s) (answered_of s) s.script.place o.0 o.1) of.same_lines
          ∙ ap (λ n. if is_begun n then (if s.script.place == s.script.place && is_none (answered_of s).posted then after_post (answered_of s) o.0 o.1 (answered_of s).left else None)
          else if may_begin s.script.lines (answered_of s) s.script.place then first_post s.script.lines (boot_of s) (answered_of s) o.0 o.1 (slice_get s.script.lines s.script.place) else None) idle
          ∙ ap (λ f. if f then first_post s.script.lines (boot_of s) (answered_of s) o.0 o.1 (slice_get s.script.lines s.script.place) else None) (may_begin-at s (line.Boot command) at (λ h. h) idle none_above)
          ∙ ap (first_post s.script.lines (boot_of s) (answered_of s) o.0 o.1) at
          ∙ ap (λ r. if is_none (refusal r command) then after_post (answered_of s) o.0 o.1 (orders r command) else None) (sym registry_is)
          ∙ ap (λ q. if is_none q then after_post (answered_of s) o.0 o.1 all_orders else None) accepted
          ∙ ap (after_post (answered_of s) o.0 o.1) (drop_there all_orders 0 o first ∙ ap (λ n. o ∷ drop (suc n) all_orders) (sym idle))
          ∙ post_answered s.mailboxes o order_at within

      first_good : Good terms lines s t (outcome s (post s.script [] o))
      unfolding answer_open events_open columns_open
      first_good = quiet terms lines s t stands (what.Post s.script.place (record { 0 = o.0 }) o.1) (record s.script { posts = s.script.posts + 1 }) (slice_set s.mailboxes o.0 (order o.1)) s.lines (same_wires s.lines) refl refl first_answers (record { settings = refl; lines = refl })

    first_by : (p : Option (ℕ × Order)) → slice_get all_orders 0 ≡ p → Good terms lines s t (outcome s (post_or_done s.script command [] p))
    first_by None e = absurd (some_order s.script.registry command e)
    first_by (Some o) e = first_good o e

  -- a later post, after the mailbox of the last one was emptied
  module _ (last : ℕ) (begun : s.script.posts ≡ suc last) (p : ℕ × Order) (last_at : slice_get all_orders last ≡ Some p) (acked : slice_get s.mailboxes p.0 ≡ Some ack) where
    last_was : last_post s.script ≡ Some p
    last_was = ap (λ n. last_of n (orders_now s.script)) begun ∙ ap (λ os. slice_get os last) orders_are ∙ last_at

    none_posted : posted_of s ≡ None
    none_posted =
        ap (λ q. if option_map_or (λ (o : ℕ × Order). has_order (slice_get s.mailboxes o.0)) q false then last_post s.script else None) last_was
        ∙ ap (λ m. if has_order m then last_post s.script else None) acked

    is_begun_now : is_begun s.script.posts ≡ true
    is_begun_now = ap is_begun begun

    left_is : (answered_of s).left ≡ drop s.script.posts all_orders
    left_is = ap (λ f. if f then drop s.script.posts (orders_now s.script) else []) is_begun_now ∙ ap (drop s.script.posts) orders_are

    abbrev emptied : List Mailbox
    emptied = slice_set s.mailboxes p.0 empty

    module _ (o : ℕ × Order) (order_at : slice_get all_orders s.script.posts ≡ Some o) where
      still_within : o.0 < length (slice_set s.mailboxes p.0 empty)
      still_within =
          let h = later_core s.script.registry s.script.settings command last o command_within (ap (slice_get all_orders) (sym begun) ∙ order_at) in
          let e = sound.settled.mailboxes in let f = length-set s.mailboxes p.0 empty in omega (arith, h, e, f)

      later_answers : post_answer lines (boot_of s) (answered_of s) s.script.place o.0 o.1 ≡ Some (answered_of (posted emptied o))
      later_answers =
          ap (λ f. if f then (if s.script.place == s.script.place && is_none (answered_of s).posted then after_post (answered_of s) o.0 o.1 (answered_of s).left else None)
          else if may_begin lines (answered_of s) s.script.place then first_post lines (boot_of s) (answered_of s) o.0 o.1 (slice_get lines s.script.place) else None) is_begun_now
          ∙ ap (λ f. if f && is_none (answered_of s).posted then after_post (answered_of s) o.0 o.1 (answered_of s).left else None) (same_number s.script.place)
          ∙ ap (λ q. if is_none q then after_post (answered_of s) o.0 o.1 (answered_of s).left else None) none_posted
          ∙ ap (after_post (answered_of s) o.0 o.1) (left_is ∙ drop_there all_orders s.script.posts o order_at)
          ∙ post_answered emptied o order_at still_within

      later_good : Good terms lines s t (outcome s (post s.script (mailbox_becomes p.0 empty ∷ []) o))
      unfolding answer_open events_open columns_open
      later_good = quiet terms lines s t stands (what.Post s.script.place (record { 0 = o.0 }) o.1) (record s.script { posts = s.script.posts + 1 }) (slice_set emptied o.0 (order o.1)) s.lines (same_wires s.lines) refl refl later_answers (record { settings = refl; lines = refl })

    -- the command is done
    abbrev done_script : Script
    done_script = at_next_command (record s.script { registry = after_orders s.script.registry (orders s.script.registry command) })

    done_answers : slice_get all_orders s.script.posts ≡ None → done_answer lines (answered_of s) s.script.place ≡ Some (answered_of (record s { mailboxes = emptied; script = done_script }))
    done_answers past =
        ap (λ f. only_if (f && ((answered_of s).begun && (none_left (answered_of s).left && is_none (answered_of s).posted))) (finished lines (answered_of s))) (same_number s.script.place)
        ∙ ap (λ f. only_if (f && (none_left (answered_of s).left && is_none (answered_of s).posted)) (finished lines (answered_of s))) is_begun_now
        ∙ ap (λ l. only_if (none_left l && is_none (answered_of s).posted) (finished lines (answered_of s))) (left_is ∙ drop_past all_orders s.script.posts past)
        ∙ ap (λ q. only_if (is_none q) (finished lines (answered_of s))) none_posted
        ∙ ap (λ ls. Some (finished ls (answered_of s))) of.same_lines

    done_good : slice_get all_orders s.script.posts ≡ None → Good terms lines s t (outcome s (post_or_done s.script command (mailbox_becomes p.0 empty ∷ []) None))
    unfolding answer_open events_open columns_open
    done_good past = quiet terms lines s t stands (what.Done s.script.place) done_script emptied s.lines (same_wires s.lines) refl refl (done_answers past) (record { settings = refl; lines = refl })

    later_by : (q : Option (ℕ × Order)) → slice_get all_orders s.script.posts ≡ q → Good terms lines s t (outcome s (post_or_done s.script command (mailbox_becomes p.0 empty ∷ []) q))
    later_by None e = done_good e
    later_by (Some o) e = later_good o e

  begin_good : raise_above s.script.place (next_raise s.script.lines s.script.raises) ≡ None → s.script.posts ≡ 0 → (r : Option Refusal) → refusal s.script.registry command ≡ r → Good terms lines s t (outcome s (begin s.script command r))
  begin_good none_above idle None e = first_by none_above idle e (slice_get all_orders 0) refl
  begin_good none_above idle (Some r) e = refused_good terms lines s t of sound stands none_above command at idle r e

  with_ack_good : (last : ℕ) → s.script.posts ≡ suc last → (p : ℕ × Order) → slice_get all_orders last ≡ Some p → (m : Option Mailbox) → slice_get s.mailboxes p.0 ≡ m → Good terms lines s t (outcome s (with_ack s.script command p.0 m))
  with_ack_good last begun p e None f = tt
  with_ack_good last begun p e (Some empty) f = tt
  with_ack_good last begun p e (Some (order o)) f = tt
  with_ack_good last begun p e (Some ack) f = later_by last begun p e f (slice_get all_orders s.script.posts) refl

  go_on_good : (last : ℕ) → s.script.posts ≡ suc last → (p : Option (ℕ × Order)) → slice_get all_orders last ≡ p → Good terms lines s t (outcome s (go_on_from s.script command p))
  go_on_good last begun None e = tt
  go_on_good last begun (Some p) e = with_ack_good last begun p e (slice_get s.mailboxes p.0) refl

  by_posts : raise_above s.script.place (next_raise s.script.lines s.script.raises) ≡ None → (n : ℕ) → s.script.posts ≡ n → Good terms lines s t (outcome s (boot_turn s.script command n))
  by_posts none_above zero e = begin_good none_above e (refusal s.script.registry command) refl
  by_posts none_above (suc last) e = go_on_good last e (slice_get all_orders last) refl

  -- whatever a boot command does follows
  pub boot_good : raise_above s.script.place (next_raise s.script.lines s.script.raises) ≡ None → Good terms lines s t (outcome s (boot_turn s.script command s.script.posts))
  boot_good none_above = by_posts none_above s.script.posts refl
