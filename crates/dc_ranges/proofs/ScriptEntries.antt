-- The script makes an entry that is in range.
use Rattle.std.proofs.Common.{◌≡◌, ℕ, zero, suc, ◌+◌, ◌^◌, ◌<◌, List, [], ◌∷◌, Option, Some, None, refl, ap, sym, subst, arith, length, get_or}
use Rattle.std.specs.Prelude.{slice_get, nat_lt, nat_le, ◌==◌, if◌then◌else◌}
use Rattle.std.proofs.lemmas.Option.{slice_get-get_or}
use Rattle.dc_base.specs.declared.numbers.BlockNo.{BlockNo}
use Rattle.dc_base.specs.declared.numbers.CoreNo.{CoreNo}
use Rattle.dc_base.specs.declared.numbers.LineNo.{LineNo}
use Rattle.dc_base.specs.declared.commands.Command.{Command}
use Rattle.dc_base.specs.declared.commands.Order.{Order}
use Rattle.dc_base.specs.declared.commands.Order.TheVariants as orders
use Rattle.dc_base.specs.declared.commands.Refusal.{Refusal}
use Rattle.dc_base.specs.declared.commands.ScriptLine.{ScriptLine}
use Rattle.dc_base.specs.declared.commands.ScriptLine.TheVariants as script
use Rattle.dc_base.specs.declared.entries.What.TheVariants as what
use Rattle.dc_base.specs.declared.entries.Reason.TheVariants as reason
use Rattle.dc_base.specs.EntryRanges.{order_numbers, refusal_numbers, raised_number}
use Rattle.dc_base.specs.Boot.{refusal}
use Rattle.dc_base.specs.Boot as boot
use Rattle.dc_base.specs.Changes.{Change, mailbox_becomes, script_becomes}
use Rattle.dc_base.specs.Commands.{at_next_command, post_or_done, begin, with_ack, go_on_from, boot_turn, route_line, await_outcome, command_turn, raise_above, after_raises, script_turn}
use Rattle.dc_base.specs.Lines.{Wire, how_raised}
use Rattle.dc_base.specs.Outcomes.{by_script}
use Rattle.dc_base.specs.Progress.{Fits, IsAtRest}
use Rattle.dc_base.specs.Raises.{first_unbegun, raise_on, raise_line, raise_turn}
use Rattle.dc_base.specs.Script.{next_raise}
use Rattle.dc_base.specs.Sound.{IsSound}
use Rattle.dc_base.specs.States.{State, Core, Block, Mailbox, empty, ack, Script}
use Rattle.dc_base.specs.Turns.{did, not_enabled, ends}
use Rattle.dc_sound.proofs.EntryKinds.{Before, first_post, next_post, StandsAt}
use Rattle.dc_sound.proofs.Registered.{posted_fits}
use Rattle.dc_ranges.proofs.Bounds.{core_small, block_small, line_small, place_small, raised_small, core_within, block_within}
use Rattle.dc_ranges.proofs.Shown.{IsShown, Shows, Comes, AreSmall, small, script_shown, by_if, by_outcome}
use Rattle.dc_ranges.proofs.Refusals.{RefusalSmall, boot_names, refusal_small}

-- there is a core of each number below their count
core_there : (cores : List Core) (c : ℕ) → c < length cores → (k : Core) × (slice_get cores c ≡ Some k)
core_there [] c within = absurd (omega (arith, within))
core_there (k ∷ ks) c within = (get_or (k ∷ ks) c k, slice_get-get_or (k ∷ ks) c k within)

module _ (s : State) (p : IsSound s) where
  abbrev here : Script
  here = s.script

  -- an order that fits names a block that exists

  rest_small : (b : BlockNo) (o : Option Block) → slice_get s.blocks b.0 ≡ o → IsAtRest o → b.0 < 2 ^ 32
  rest_small b None at still = absurd still
  rest_small b (Some x) at still = block_small s p b.0 x at

  order_small : (c : ℕ) (k : Core) → slice_get s.cores c ≡ Some k → (o : Order) → Fits s k o → AreSmall (order_numbers o)
  order_small c k at (orders.Adopt b parked) fits = (rest_small b (slice_get s.blocks b.0) refl fits.1, tt)
  order_small c k at (orders.Release b) fits = let listed = p.placed.only c k at b.0 fits.1 in (block_small s p b.0 listed.0 listed.1, tt)
  order_small c k at (orders.Start v) fits = tt
  order_small c k at o fits = tt

  module _ (m : Command) (stands : StandsAt here (script.Boot m)) where
    place : here.place < 2 ^ 32
    place = place_small s p here.place (script.Boot m) stands.line_at

    posted_shown : (before : List Change) → Before s m before → (o : ℕ × Order) → slice_get (boot.orders here.registry m) here.posts ≡ Some o → IsShown (by_script (what.Post here.place (record { 0 = o.0 }) o.1))
    posted_shown before first o at =
        let fits = posted_fits s p.in_form p.registered p.placed p.settled m before stands first o at in
        let there = core_there s.cores o.0 fits.core_is in
        script_shown (what.Post here.place (record { 0 = o.0 }) o.1) refl
        (small (here.place ∷ o.0 ∷ order_numbers o.1) (place, (core_small s p o.0 there.0 there.1, order_small o.0 there.0 there.1 o.1 (fits.fits there.0 there.1))))

    done_comes : (before : List Change) → Before s m before → (o : Option (ℕ × Order)) → slice_get (boot.orders here.registry m) here.posts ≡ o → Comes s (post_or_done here m before o)
    done_comes before first None at = script_shown (what.Done here.place) refl (small (here.place ∷ []) (place, tt))
    done_comes before first (Some o) at = posted_shown before first o at

    refused_shown : (r : Refusal) → here.posts ≡ 0 → refusal here.registry m ≡ Some r → IsShown (by_script (what.Refused here.place r))
    refused_shown r none at =
        let names = subst (λ q. RefusalSmall (refusal q m)) (sym (p.registered.idle none)) (refusal_small _ (boot_names s p) s p m (p.settled.within here.place (script.Boot m) stands.line_at)) in
        script_shown (what.Refused here.place r) refl (small (here.place ∷ refusal_numbers r) (place, subst RefusalSmall at names))

    begin_comes : here.posts ≡ 0 → (o : Option Refusal) → refusal here.registry m ≡ o → Comes s (begin here m o)
    begin_comes none None at = done_comes [] (first_post none at refl) (slice_get (boot.orders here.registry m) 0) (ap (slice_get (boot.orders here.registry m)) none)
    begin_comes none (Some r) at = refused_shown r none at

    ack_comes : (last : ℕ) (o : ℕ × Order) → here.posts ≡ suc last → slice_get (boot.orders here.registry m) last ≡ Some o → (q : Option Mailbox) → slice_get s.mailboxes o.0 ≡ q → Comes s (with_ack here m o.0 q)
    ack_comes last o posts at (Some ack) acked = done_comes (mailbox_becomes o.0 empty ∷ []) (next_post last o posts at acked refl) (slice_get (boot.orders here.registry m) here.posts) refl
    ack_comes last o posts at q acked = tt

    go_on_comes : (last : ℕ) → here.posts ≡ suc last → (o : Option (ℕ × Order)) → slice_get (boot.orders here.registry m) last ≡ o → Comes s (go_on_from here m o)
    go_on_comes last posts None at = tt
    go_on_comes last posts (Some o) at = ack_comes last o posts at (slice_get s.mailboxes o.0) refl

    boot_comes : (n : ℕ) → here.posts ≡ n → Comes s (boot_turn here m n)
    boot_comes zero posts = begin_comes posts (refusal here.registry m) refl
    boot_comes (suc last) posts = go_on_comes last posts (slice_get (boot.orders here.registry m) last) refl

  route_comes : (l : LineNo) (c : CoreNo) → slice_get here.lines here.place ≡ Some (script.Route l c) → (o : Option Wire) → slice_get s.lines l.0 ≡ o → Shows (route_line here l c o)
  route_comes l c line None at = tt
  route_comes l c line (Some w) at =
      script_shown (what.Route here.place l c) refl
      (small (here.place ∷ l.0 ∷ c.0 ∷ []) (place_small s p here.place (script.Route l c) line, (line_small s p l.0 w at, (core_within s p c.0 (p.settled.within here.place (script.Route l c) line).1, tt))))

  await_comes : (polls : ℕ) (b : BlockNo) (words limit : ℕ) → slice_get here.lines here.place ≡ Some (script.Await b words limit) → (o : Option (List ℕ)) → slice_get s.consoles b.0 ≡ o → Shows (await_outcome here polls b words limit o)
  await_comes polls b words limit line None at = tt
  await_comes polls b words limit line (Some ws) at =
      let seen = length ws in
      let room = (p.consoles b.0 ws at).room in
      let low = small (here.place ∷ b.0 ∷ seen ∷ [])
      (place_small s p here.place (script.Await b words limit) line, (block_within s p b.0 (p.settled.within here.place (script.Await b words limit) line).0, (omega (arith, room), tt))) in
      let met = did (script_becomes (at_next_command here) ∷ []) (by_script (what.Met here.place b seen)) in
      let unmet = did (script_becomes (at_next_command here) ∷ []) (by_script (what.Unmet here.place b seen)) in
      let few = not_enabled (reason.Few seen (polls + 1)) in
      by_outcome (nat_le words seen) met (if nat_lt (polls + 1) limit then few else unmet) (script_shown (what.Met here.place b seen) refl low)
      (by_outcome (nat_lt (polls + 1) limit) few unmet tt (script_shown (what.Unmet here.place b seen) refl low))

  command_comes : (polls : ℕ) → raise_above here.place (next_raise here.lines here.raises) ≡ None → (o : Option ScriptLine) → slice_get here.lines here.place ≡ o → Comes s (command_turn here polls o)
  command_comes polls raises None line = tt
  command_comes polls raises (Some (script.Boot m)) line = boot_comes m (record { line_at = line; raises = raises }) here.posts refl
  command_comes polls raises (Some (script.Route l c)) line = route_comes l c line (slice_get s.lines l.0) refl
  command_comes polls raises (Some (script.Await b words limit)) line = await_comes polls b words limit line (slice_get s.consoles b.0) refl
  command_comes polls raises (Some (script.Raise l)) line = tt

  raises_comes : (polls : ℕ) (o : Option ℕ) → raise_above here.place (next_raise here.lines here.raises) ≡ o → Comes s (after_raises o (command_turn here polls (slice_get here.lines here.place)))
  raises_comes polls None raises = command_comes polls raises (slice_get here.lines here.place) refl
  raises_comes polls (Some q) raises = tt

  pub script_comes : (polls : ℕ) → Comes s (script_turn here polls)
  script_comes polls =
      by_if s (here.place == length here.lines) (ends (not_enabled reason.ScriptEnded)) (after_raises (raise_above here.place (next_raise here.lines here.raises)) (command_turn here polls (slice_get here.lines here.place)))
      (λ ended. tt) (λ goes. raises_comes polls (raise_above here.place (next_raise here.lines here.raises)) refl)

  -- a raise

  number_of_raise : (n : ℕ) (bound : Option (ℕ × ℕ)) (pending : Option ℕ) → raised_number (how_raised n bound pending) ≡ n
  number_of_raise n None pending = refl
  number_of_raise n (Some to) None = refl
  number_of_raise n (Some to) (Some m) = refl

  raise_on_comes : (q : ℕ) (l : LineNo) → slice_get here.lines q ≡ Some (script.Raise l) → (o : Option Wire) → slice_get s.lines l.0 ≡ o → Shows (raise_on here q l o)
  raise_on_comes q l line None at = tt
  raise_on_comes q l line (Some w) at =
      let how = how_raised (w.counts.raised + 1) w.bound w.pending in
      let low = subst (λ n. n < 2 ^ 32) (sym (number_of_raise (w.counts.raised + 1) w.bound w.pending)) (raised_small s p l.0 w at) in
      script_shown (what.Raise q l how) refl (small (q ∷ l.0 ∷ raised_number how ∷ []) (place_small s p q (script.Raise l) line, (line_small s p l.0 w at, (low, tt))))

  raise_line_comes : (q : ℕ) (o : Option ScriptLine) → slice_get here.lines q ≡ o → Comes s (raise_line here q o)
  raise_line_comes q (Some (script.Raise l)) line = raise_on_comes q l line (slice_get s.lines l.0) refl
  raise_line_comes q o line = tt

  pub raise_comes : (o : Option ℕ) → Comes s (raise_turn here o)
  raise_comes None = tt
  raise_comes (Some q) =
      by_if s (nat_lt (first_unbegun here) q) (ends (not_enabled reason.CommandFirst)) (raise_line here q (slice_get here.lines q)) (λ early. tt) (λ begun. raise_line_comes q (slice_get here.lines q) refl)
