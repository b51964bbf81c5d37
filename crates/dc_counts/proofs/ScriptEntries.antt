-- What an entry of the script does to the counts.
use Rattle.std.proofs.Common.{◌≡◌, ℕ, zero, suc, ◌+◌, ◌≤◌, Bool, true, false, List, [], ◌∷◌, ◌++◌, Option, Some, None, refl, arith, length}
use Rattle.std.specs.Prelude.{⊤, slice_get, slice_set, nat_lt, nat_le, ◌==◌, if◌then◌else◌}
use Rattle.std.specs.Option.{option_map_or}
use Rattle.std.proofs.lemmas.Option.{slice_get_within}
use Rattle.dc_base.specs.declared.numbers.BlockNo.{BlockNo}
use Rattle.dc_base.specs.declared.numbers.CoreNo.{CoreNo}
use Rattle.dc_base.specs.declared.numbers.LineNo.{LineNo}
use Rattle.dc_base.specs.declared.commands.Command.{Command}
use Rattle.dc_base.specs.declared.commands.Command.TheVariants as commands
use Rattle.dc_base.specs.declared.commands.Order.{Order}
use Rattle.dc_base.specs.declared.commands.Order.TheVariants as orders
use Rattle.dc_base.specs.declared.commands.Refusal.{Refusal}
use Rattle.dc_base.specs.declared.commands.ScriptLine.{ScriptLine}
use Rattle.dc_base.specs.declared.commands.ScriptLine.TheVariants as script
use Rattle.dc_base.specs.declared.entries.Reason.TheVariants as reason
use Rattle.dc_base.specs.declared.entries.What.TheVariants as what
use Rattle.dc_base.specs.Boot.{Registry, core_of, refusal, to_its_core}
use Rattle.dc_base.specs.Boot as boot
use Rattle.dc_base.specs.Changes.{Change, mailbox_becomes, script_becomes, apply}
use Rattle.dc_base.specs.Commands.{at_next_command, post_or_done, begin, with_ack, go_on_from, boot_turn, route_line, await_outcome, command_turn, raise_above, after_raises, script_turn}
use Rattle.dc_base.specs.Lines.{Wire, wire_after_raise}
use Rattle.dc_base.specs.Outcomes.{by_script}
use Rattle.dc_base.specs.Progress.{command_at}
use Rattle.dc_base.specs.Raises.{first_unbegun, raise_on, raise_line, raise_turn}
use Rattle.dc_base.specs.Script.{is_command, next_command, next_raise}
use Rattle.dc_base.specs.ScriptForm.{IsInForm}
use Rattle.dc_base.specs.States.{State, Mailbox, empty, order, ack, Script}
use Rattle.dc_base.specs.Turns.{Outcome, did, not_enabled, Turn, ends, outcome}
use Rattle.dc_sound.proofs.ScriptLists.{next_found}
use Rattle.dc_counts.proofs.Counted.{set_count, set_most, set_none, take_more, take_one}
use Rattle.dc_counts.proofs.Tallies.{is_order, orders_in, has_pending, pending_in, commands_above, ScriptMade}

-- a command has at most two orders

to_core_short : (r : Registry) (o : Option ℕ) (b : BlockNo) (last : ℕ × Order) → length (option_map_or (λ c. (c, orders.Release b) ∷ []) o [] ++ last ∷ []) ≤ 2
to_core_short r None b last = omega arith
to_core_short r (Some c) b last = omega arith

orders_short : (r : Registry) (m : Command) → length (boot.orders r m) ≤ 2
unfolding boot.orders
orders_short r (commands.Start c v) = omega arith
orders_short r (commands.Stop c) = omega arith
orders_short r (commands.Replace c v) = omega arith
orders_short r (commands.Attach b c) = omega arith
orders_short r (commands.Move b c) = to_core_short r (core_of r b.0) b (c.0, orders.Adopt b false)
orders_short r (commands.Park b c) = to_core_short r (core_of r b.0) b (c.0, orders.Adopt b true)
orders_short r (commands.Unpark b c) = to_core_short r (core_of r b.0) b (c.0, orders.Adopt b false)

now_short : (r : Registry) (o : Option Command) → length (option_map_or (boot.orders r) o []) ≤ 2
now_short r None = omega arith
now_short r (Some m) = orders_short r m

-- a script in form made at most two posts
pub posts_few : (s : State) → IsInForm s → s.script.posts ≤ 2
posts_few s p = let most = p.posts.posted in let few = now_short s.script.registry (command_at s.script) in omega (arith, most, few)

-- the next place has one more command above it
moved_on : (t : Script) (l : ScriptLine) → slice_get t.lines t.place ≡ Some l → is_command l ≡ true → commands_above t + 1 ≤ commands_above (at_next_command t)
moved_on t l at command =
    let within = slice_get_within t.lines t.place l at in
    let far = (next_found t.lines (t.place + 1)).later (omega (arith, within)) in
    let one = take_one is_command t.lines t.place l at command in
    let more = take_more is_command t.lines (t.place + 1) (next_command t.lines (t.place + 1)) far in
    omega (arith, one, more)

module _ (s : State) (p : IsInForm s) where
  abbrev pub Makes : Outcome → Type 0
  Makes (did chs e) = ScriptMade s (apply s chs)
  Makes o = ⊤

  abbrev pub Comes : Turn → Type 0
  Comes t = Makes (outcome s t)

  abbrev here : Script
  here = s.script

  by_if : (b : Bool) (t u : Turn) → Comes t → Comes u → Comes (if b then t else u)
  by_if true t u f g = f
  by_if false t u f g = g

  by_outcome : (b : Bool) (o u : Outcome) → Makes o → Makes u → Makes (if b then o else u)
  by_outcome true o u f g = f
  by_outcome false o u f g = g

  -- the command at the place is finished; no mailbox gets an order, and no raise becomes pending
  finished : (u : State) (l : ScriptLine) → slice_get here.lines here.place ≡ Some l → is_command l ≡ true → u.cores ≡ s.cores → u.script.lines ≡ here.lines → u.script.settings ≡ here.settings →
      commands_above u.script ≡ commands_above (at_next_command here) → u.script.posts ≡ 0 → u.script.raises ≡ here.raises → orders_in u ≤ orders_in s → pending_in u ≤ pending_in s → ScriptMade s u
  finished u l at command cores lines settings above posts raises fewer same =
      let few = posts_few s p in
      let on = moved_on here l at command in
      record { cores = cores; lines = lines; settings = settings; asks = omega (arith, few, on, above, posts, raises, fewer, same); one = omega (arith, few, on, above, posts, raises) }

  module _ (m : Command) (line : slice_get here.lines here.place ≡ Some (script.Boot m)) where
    -- what is done before a post empties a mailbox at most
    data Before : List Change → Type 0 where
      none_before : Before []
      one_before : (c : ℕ) → Before (mailbox_becomes c empty ∷ [])

    posted : (before : List Change) → Before before → (o : ℕ × Order) → ScriptMade s (apply s (before ++ mailbox_becomes o.0 (order o.1) ∷ script_becomes (record here { posts = here.posts + 1 }) ∷ []))
    posted before none_before o = let most = set_most is_order s.mailboxes o.0 (order o.1) in record { cores = refl; lines = refl; settings = refl; asks = omega (arith, most); one = omega arith }
    posted before (one_before c) o =
        let less = set_none is_order s.mailboxes c empty refl in
        let most = set_most is_order (slice_set s.mailboxes c empty) o.0 (order o.1) in
        record { cores = refl; lines = refl; settings = refl; asks = omega (arith, less, most); one = omega arith }

    done_comes : (before : List Change) → Before before → (o : Option (ℕ × Order)) → Comes (post_or_done here m before o)
    done_comes before none_before None = finished _ (script.Boot m) line refl refl refl refl refl refl refl (omega arith) (omega arith)
    done_comes before (one_before c) None = finished _ (script.Boot m) line refl refl refl refl refl refl refl (set_none is_order s.mailboxes c empty refl) (omega arith)
    done_comes before first (Some o) = posted before first o

    begin_comes : (o : Option Refusal) → Comes (begin here m o)
    begin_comes None = done_comes [] none_before (slice_get (boot.orders here.registry m) 0)
    begin_comes (Some r) = finished _ (script.Boot m) line refl refl refl refl refl refl refl (omega arith) (omega arith)

    ack_comes : (c : ℕ) (o : Option Mailbox) → Comes (with_ack here m c o)
    ack_comes c (Some ack) = done_comes (mailbox_becomes c empty ∷ []) (one_before c) (slice_get (boot.orders here.registry m) here.posts)
    ack_comes c o = tt

    go_on_comes : (o : Option (ℕ × Order)) → Comes (go_on_from here m o)
    go_on_comes None = tt
    go_on_comes (Some o) = ack_comes o.0 (slice_get s.mailboxes o.0)

    boot_comes : (n : ℕ) → Comes (boot_turn here m n)
    boot_comes zero = begin_comes (refusal here.registry m)
    boot_comes (suc last) = go_on_comes (slice_get (boot.orders here.registry m) last)

  route_comes : (l : LineNo) (c : CoreNo) → slice_get here.lines here.place ≡ Some (script.Route l c) → (o : Option Wire) → slice_get s.lines l.0 ≡ o → Makes (route_line here l c o)
  route_comes l c line None at = tt
  route_comes l c line (Some w) at =
      let count = set_count has_pending s.lines l.0 w (record w { route = Some c.0 }) at in
      finished _ (script.Route l c) line refl refl refl refl refl refl refl (omega arith) (omega (arith, count))

  await_comes : (polls : ℕ) (b : BlockNo) (words limit : ℕ) → slice_get here.lines here.place ≡ Some (script.Await b words limit) → (o : Option (List ℕ)) → Makes (await_outcome here polls b words limit o)
  await_comes polls b words limit line None = tt
  await_comes polls b words limit line (Some ws) =
      let ended = finished (record s { script = at_next_command here }) (script.Await b words limit) line refl refl refl refl refl refl refl (omega arith) (omega arith) in
      let met = did (script_becomes (at_next_command here) ∷ []) (by_script (what.Met here.place b (length ws))) in
      let unmet = did (script_becomes (at_next_command here) ∷ []) (by_script (what.Unmet here.place b (length ws))) in
      let few = not_enabled (reason.Few (length ws) (polls + 1)) in
      by_outcome (nat_le words (length ws)) met (if nat_lt (polls + 1) limit then few else unmet) ended (by_outcome (nat_lt (polls + 1) limit) few unmet tt ended)

  command_comes : (polls : ℕ) (o : Option ScriptLine) → slice_get here.lines here.place ≡ o → Comes (command_turn here polls o)
  command_comes polls None line = tt
  command_comes polls (Some (script.Boot m)) line = boot_comes m line here.posts
  command_comes polls (Some (script.Route l c)) line = route_comes l c line (slice_get s.lines l.0) refl
  command_comes polls (Some (script.Await b words limit)) line = await_comes polls b words limit line (slice_get s.consoles b.0)
  command_comes polls (Some (script.Raise l)) line = tt

  raises_comes : (polls : ℕ) (o : Option ℕ) → Comes (after_raises o (command_turn here polls (slice_get here.lines here.place)))
  raises_comes polls None = command_comes polls (slice_get here.lines here.place) refl
  raises_comes polls (Some q) = tt

  pub script_comes : (polls : ℕ) → Comes (script_turn here polls)
  script_comes polls =
      by_if (here.place == length here.lines) (ends (not_enabled reason.ScriptEnded)) (after_raises (raise_above here.place (next_raise here.lines here.raises)) (command_turn here polls (slice_get here.lines here.place))) tt
      (raises_comes polls (raise_above here.place (next_raise here.lines here.raises)))

  -- a raise

  raise_on_comes : (q : ℕ) (l : LineNo) (o : Option Wire) → Makes (raise_on here q l o)
  raise_on_comes q l None = tt
  raise_on_comes q l (Some w) =
      let most = set_most has_pending s.lines l.0 (wire_after_raise w) in
      record { cores = refl; lines = refl; settings = refl; asks = omega (arith, most); one = omega arith }

  raise_line_comes : (q : ℕ) (o : Option ScriptLine) → Comes (raise_line here q o)
  raise_line_comes q (Some (script.Raise l)) = raise_on_comes q l (slice_get s.lines l.0)
  raise_line_comes q o = tt

  pub raise_comes : (o : Option ℕ) → Comes (raise_turn here o)
  raise_comes None = tt
  raise_comes (Some q) =
      by_if (nat_lt (first_unbegun here) q) (ends (not_enabled reason.CommandFirst)) (raise_line here q (slice_get here.lines q)) tt (raise_line_comes q (slice_get here.lines q))
