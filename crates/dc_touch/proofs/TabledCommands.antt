-- A post, an end or a refusal of a boot command, a route and an await touch what the table says.
use Rattle.std.proofs.Common.{◌≡◌, ℕ, zero, suc, List, [], ◌∷◌, ◌++◌, Option, Some, None, refl, sym, ap, ◌∙◌, subst}
use Rattle.std.specs.Prelude.{◌+◌, slice_get, nat_lt, nat_le, if◌then◌else◌, ◌==◌, length}
use Rattle.std.specs.List.Sorted.{IsPermutation}
use Rattle.std.proofs.lemmas.List.Sorted.{IsPermutation-refl, IsPermutation-cons, IsPermutation-to_front}
use Rattle.dc_base.specs.declared.numbers.CoreNo.{CoreNo}
use Rattle.dc_base.specs.declared.numbers.BlockNo.{BlockNo}
use Rattle.dc_base.specs.declared.numbers.LineNo.{LineNo}
use Rattle.dc_base.specs.declared.commands.Command.{Command}
use Rattle.dc_base.specs.declared.commands.Order.{Order}
use Rattle.dc_base.specs.declared.commands.Refusal.{Refusal}
use Rattle.dc_base.specs.declared.commands.ScriptLine.{ScriptLine}
use Rattle.dc_base.specs.declared.commands.ScriptLine.TheVariants as script
use Rattle.dc_base.specs.declared.entries.Entry.{Entry}
use Rattle.dc_base.specs.declared.entries.What.TheVariants as what
use Rattle.dc_base.specs.Lines.{Wire}
use Rattle.dc_base.specs.Boot.{refusal}
use Rattle.dc_base.specs.Boot as boot
use Rattle.dc_base.specs.Script.{next_raise}
use Rattle.dc_base.specs.States.{State, Mailbox, empty, ack}
use Rattle.dc_base.specs.Changes.{Name, a_line, a_mailbox, a_console, the_script, Change, mailbox_becomes}
use Rattle.dc_base.specs.Turns.{did, not_enabled, Turn, ends}
use Rattle.dc_base.specs.Commands.{post_or_done, begin, with_ack, go_on_from, boot_turn, route_line, poll, await_outcome, command_turn, raise_above, after_raises, script_turn}
use Rattle.dc_base.specs.ScriptTouches.{orders_of, box_of, emptied}
use Rattle.dc_touch.proofs.Tabled.{IsTabled, refused, made_by_script, seen, either, either_end}

module _ (s : State) (chs : List Change) (e : Entry) where
  module _ (command : Command) (line : slice_get s.script.lines s.script.place ≡ Some (script.Boot command)) where
    -- the mailbox that is emptied, where the command made so many posts
    none_emptied : s.script.posts ≡ zero → emptied s.script s.script.posts ≡ []
    none_emptied h = ap (emptied s.script) h

    one_emptied : (n : ℕ) (o : Option (ℕ × Order)) → s.script.posts ≡ suc n → slice_get (boot.orders s.script.registry command) n ≡ o → emptied s.script s.script.posts ≡ box_of o
    one_emptied n o h at = ap (emptied s.script) h ∙ ap (λ l. box_of (slice_get (orders_of s.script l) n)) line ∙ ap box_of at

    -- the mailbox of the post is looked at last, and comes before the emptied one in the table
    post_first : (box : List Name) (m : Name) → emptied s.script s.script.posts ≡ box → IsPermutation ((the_script ∷ box) ++ m ∷ []) (the_script ∷ m ∷ emptied s.script s.script.posts)
    post_first box m h = subst (λ ns. IsPermutation ((the_script ∷ box) ++ m ∷ []) (the_script ∷ m ∷ ns)) (sym h) (IsPermutation-cons the_script _ _ (IsPermutation-to_front box m))

    post_or_done_tabled : (before : List Change) (box : List Name) → emptied s.script s.script.posts ≡ box → (o : Option (ℕ × Order)) → IsTabled s chs e (the_script ∷ box) (post_or_done s.script command before o)
    post_or_done_tabled before box h None =
        made_by_script s chs e (the_script ∷ box) _ (what.Done s.script.place) (subst (λ ns. IsPermutation (the_script ∷ box) (the_script ∷ ns)) (sym h) (IsPermutation-refl _))
    post_or_done_tabled before box h (Some o) =
        seen s chs e (the_script ∷ box) (a_mailbox o.0 ∷ []) (ends (did _ _))
        (made_by_script s chs e ((the_script ∷ box) ++ a_mailbox o.0 ∷ []) _ (what.Post s.script.place (record { 0 = o.0 }) o.1) (post_first box (a_mailbox o.0) h))

    begin_tabled : s.script.posts ≡ zero → (o : Option Refusal) → IsTabled s chs e (the_script ∷ []) (begin s.script command o)
    begin_tabled h None = post_or_done_tabled [] [] (none_emptied h) (slice_get (boot.orders s.script.registry command) 0)
    begin_tabled h (Some r) = made_by_script s chs e (the_script ∷ []) _ (what.Refused s.script.place r) (IsPermutation-refl _)

    ack_tabled : (c : ℕ) → emptied s.script s.script.posts ≡ a_mailbox c ∷ [] → (o : Option Mailbox) → IsTabled s chs e (the_script ∷ a_mailbox c ∷ []) (with_ack s.script command c o)
    ack_tabled c h (Some ack) = post_or_done_tabled (mailbox_becomes c empty ∷ []) (a_mailbox c ∷ []) h (slice_get (boot.orders s.script.registry command) s.script.posts)
    ack_tabled c h m = refused s chs e _

    go_on_tabled : (n : ℕ) → s.script.posts ≡ suc n → (o : Option (ℕ × Order)) → slice_get (boot.orders s.script.registry command) n ≡ o → IsTabled s chs e (the_script ∷ []) (go_on_from s.script command o)
    go_on_tabled n h None at = refused s chs e _
    go_on_tabled n h (Some o) at = ack_tabled o.0 (one_emptied n (Some o) h at) (slice_get s.mailboxes o.0)

    boot_tabled : (posts : ℕ) → s.script.posts ≡ posts → IsTabled s chs e (the_script ∷ []) (boot_turn s.script command posts)
    boot_tabled zero h = begin_tabled h (refusal s.script.registry command)
    boot_tabled (suc n) h = go_on_tabled n h (slice_get (boot.orders s.script.registry command) n) refl

  route_tabled : (l : LineNo) (c : CoreNo) (o : Option Wire) → IsTabled s chs e (the_script ∷ a_line l.0 ∷ []) (ends (route_line s.script l c o))
  route_tabled l c None = refused s chs e _
  route_tabled l c (Some w) = made_by_script s chs e (the_script ∷ a_line l.0 ∷ []) _ (what.Route s.script.place l c) (IsPermutation-refl _)

  poll_tabled : (polls : ℕ) (b : BlockNo) (words limit seen_words : ℕ) → IsTabled s chs e (the_script ∷ a_console b.0 ∷ []) (ends (poll s.script polls b words limit seen_words))
  poll_tabled polls b words limit n =
      either_end s chs e (nat_le words n) (the_script ∷ a_console b.0 ∷ []) (did _ _) (if nat_lt (polls + 1) limit then not_enabled _ else did _ _) (made_by_script s chs e (the_script ∷ a_console b.0 ∷ []) _ (what.Met s.script.place b n) (IsPermutation-refl _))
      (either_end s chs e (nat_lt (polls + 1) limit) (the_script ∷ a_console b.0 ∷ []) (not_enabled _) (did _ _) (refused s chs e _) (made_by_script s chs e (the_script ∷ a_console b.0 ∷ []) _ (what.Unmet s.script.place b n) (IsPermutation-refl _)))

  await_tabled : (polls : ℕ) (b : BlockNo) (words limit : ℕ) (o : Option (List ℕ)) → IsTabled s chs e (the_script ∷ a_console b.0 ∷ []) (ends (await_outcome s.script polls b words limit o))
  await_tabled polls b words limit None = refused s chs e _
  await_tabled polls b words limit (Some ws) = poll_tabled polls b words limit (length ws)

  command_tabled : (polls : ℕ) (o : Option ScriptLine) → slice_get s.script.lines s.script.place ≡ o → IsTabled s chs e (the_script ∷ []) (command_turn s.script polls o)
  command_tabled polls None at = refused s chs e _
  command_tabled polls (Some (script.Boot command)) at = boot_tabled command at s.script.posts refl
  command_tabled polls (Some (script.Route l c)) at = route_tabled l c (slice_get s.lines l.0)
  command_tabled polls (Some (script.Await b words limit)) at = await_tabled polls b words limit (slice_get s.consoles b.0)
  command_tabled polls (Some (script.Raise l)) at = refused s chs e _

  after_raises_tabled : (o : Option ℕ) (turn : Turn) → IsTabled s chs e (the_script ∷ []) turn → IsTabled s chs e (the_script ∷ []) (after_raises o turn)
  after_raises_tabled None turn t = t
  after_raises_tabled (Some q) turn t = refused s chs e _

  pub script_tabled : (polls : ℕ) → IsTabled s chs e (the_script ∷ []) (script_turn s.script polls)
  script_tabled polls =
      let turn = command_turn s.script polls (slice_get s.script.lines s.script.place) in
      let above = raise_above s.script.place (next_raise s.script.lines s.script.raises) in
      either s chs e (s.script.place == length s.script.lines) (the_script ∷ []) (ends (not_enabled _)) (after_raises above turn) (refused s chs e _)
      (after_raises_tabled above turn (command_tabled polls (slice_get s.script.lines s.script.place) refl))
