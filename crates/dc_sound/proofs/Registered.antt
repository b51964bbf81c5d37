-- The registry follows the boot state of the cores and blocks: each entry keeps this.
use Rattle.std.proofs.Common.{◌≡◌, ℕ, zero, suc, ◌+◌, ◌-◌, ◌<◌, List, [], ◌∷◌, ◌++◌, Bool, true, false, Option, Some, None, refl, sym, ap, ◌∙◌, subst, inl, inr, arith, add-one, map, length, take}
use Rattle.std.specs.Prelude.{slice_get, slice_set, ◌==◌, if◌then◌else◌, is_some}
use Rattle.std.specs.Option.{option_map_or}
use Rattle.dc_base.specs.declared.calls.Need.{Need}
use Rattle.dc_base.specs.declared.calls.Need.TheVariants as needs
use Rattle.dc_base.specs.declared.commands.Command.{Command}
use Rattle.dc_base.specs.declared.commands.Order.{Order}
use Rattle.dc_base.specs.declared.commands.ScriptLine.{ScriptLine}
use Rattle.dc_base.specs.declared.commands.ScriptLine.TheVariants as line
use Rattle.dc_base.specs.declared.entries.Entry.{Entry}
use Rattle.dc_base.specs.Boot.{Registry, refusal, after_order, after_orders}
use Rattle.dc_base.specs.Boot as boot
use Rattle.dc_base.specs.Bounded.{IsSettled}
use Rattle.dc_base.specs.Changes.{Change, block_becomes, mailbox_becomes, script_becomes, apply}
use Rattle.dc_base.specs.Commands.{at_next_command}
use Rattle.dc_base.specs.Orders.{change_all, block_at_rest, block_under}
use Rattle.dc_base.specs.Outcomes.{share_blocks}
use Rattle.dc_base.specs.Placed.{IsPlaced, AreShares}
use Rattle.dc_base.specs.Progress.{boot_command, command_at, orders_now, last_of, last_post, posted_to, Holds, MailboxesFollow, PostsFit, has_order, carried_out, boot_of, IsRegisteredBy, IsRegistered}
use Rattle.dc_base.specs.ScriptForm.{IsInForm}
use Rattle.dc_base.specs.Serving.{Outside, console_outside, channel_outside, line_outside}
use Rattle.dc_base.specs.States.{State, Core, Block, Member, Mailbox, order, ack, Script}
use Rattle.dc_base.specs.NeededLooks.{outside_change}
use Rattle.dc_base.specs.Turns.{looked_at}
use Rattle.dc_base.specs.Words.{bind}
use Rattle.dc_sound.proofs.EntryKinds.{HasOrder, StandsAt, IsPost, IsDone, sliced_of, slice_changes, Before, first_post, next_post, Kind, is_slice, is_slice_none, is_idle, is_wake, is_intake, is_start, is_stop, is_replace, is_adopt, is_release, is_post, is_done, is_refused, is_route, is_awaited, is_raise}
use Rattle.dc_sound.proofs.BootOrders.{start_boot, stop_boot, replace_boot, adopt_boot, release_boot}
use Rattle.dc_sound.proofs.BootStays as stays
use Rattle.dc_block_sound.proofs.Elements.{is_same, set_here}
use Rattle.dc_sound.proofs.Lengths.{same_lengths}
use Rattle.dc_sound.proofs.PostedOrders.{PostFits, first_fits, next_fits}

-- the script and the mailboxes after changes of other objects

pub record SameScript (u t : State) : Type 0 where
  pub mailboxes : t.mailboxes ≡ u.mailboxes
  pub script : t.script ≡ u.script

pub outside_same : (b : ℕ) (w : Need) (out : Outside) (u : State) → SameScript u (apply u (outside_change b w out))
unfolding outside_change
outside_same b needs.Console (console_outside ws) u = record { mailboxes = refl; script = refl }
outside_same b (needs.Channel x) (channel_outside r) u = record { mailboxes = refl; script = refl }
outside_same b (needs.Line l) (line_outside v) u = record { mailboxes = refl; script = refl }
outside_same b w out u = record { mailboxes = refl; script = refl }

module _ (f : Block → Block) (blocks : List Block) where
  all_by : (m : Member) (ms : List Member) (u : State) → ((v : State) → SameScript v (apply v (change_all f (map (looked_at blocks) (share_blocks ms))))) → (o : Option Block) →
      SameScript u (apply u (option_map_or (λ x. block_becomes m.block (f x) ∷ change_all f (map (looked_at blocks) (share_blocks ms))) o (change_all f (map (looked_at blocks) (share_blocks ms)))))
  all_by m ms u more None = more u
  all_by m ms u more (Some x) = let r = more (record u { blocks = slice_set u.blocks m.block (f x) }) in record { mailboxes = r.mailboxes; script = r.script }

  pub all_same : (share : List Member) (u : State) → SameScript u (apply u (change_all f (map (looked_at blocks) (share_blocks share))))
  all_same [] u = record { mailboxes = refl; script = refl }
  all_same (m ∷ ms) u = all_by m ms u (λ v. all_same ms v) (slice_get blocks m.block)

-- lists of orders

after_take : (r : Registry) (os : List (ℕ × Order)) (n : ℕ) (o : ℕ × Order) → slice_get os n ≡ Some o → after_orders r (take (suc n) os) ≡ after_order (after_orders r (take n os)) o.0 o.1
after_take r [] n o h = absurd cc
after_take r (p ∷ os) zero o h = let same : p ≡ o = cc in ap (λ (q : ℕ × Order). after_order r q.0 q.1) same
after_take r (p ∷ os) (suc n) o h = after_take (after_order r p.0 p.1) os n o h

take_none : (os : List (ℕ × Order)) (n : ℕ) → slice_get os n ≡ None → take n os ≡ os
take_none [] zero h = refl
take_none [] (suc n) h = refl
take_none (p ∷ os) zero h = absurd cc
take_none (p ∷ os) (suc n) h = ap (λ l. p ∷ l) (take_none os n h)

-- a mailbox with an order has the last post
pub holds_order : (x : Order) (o : Option Order) → Holds (order x) o → o ≡ Some x
holds_order x None h = absurd cc
holds_order x (Some y) (inl e) = cc
holds_order x (Some y) (inr e) = absurd cc

pub posted_is : (c : ℕ) (x : Order) (o : Option (ℕ × Order)) → posted_to c o ≡ Some x → o ≡ Some (c, x)
posted_is c x None h = absurd cc
posted_is c x (Some p) h = by_test (p.0 == c) refl h
  where
    by_test : (t : Bool) → (p.0 == c) ≡ t → (if t then Some p.1 else None) ≡ Some x → Some p ≡ Some (c, x)
    by_test true q h = let one : p.0 ≡ c = is_same p.0 c q in let two : p.1 ≡ x = cc in ap (λ n. Some (n, p.1)) one ∙ ap (λ y. Some (c, y)) two
    by_test false q h = absurd cc

pub record LastIs (t : Script) (o : ℕ × Order) : Type 0 where
  pub n : ℕ
  pub posts_are : t.posts ≡ suc n
  pub order_at : slice_get (orders_now t) n ≡ Some o

pub last_is : (t : Script) (o : ℕ × Order) (n : ℕ) → t.posts ≡ n → last_of n (orders_now t) ≡ Some o → LastIs t o
last_is t o zero e h = absurd cc
last_is t o (suc n) e h = record { n = n; posts_are = e; order_at = h }

-- how many orders were carried out, where the last post was so
carried_by : (t : Script) (ms : List Mailbox) (o : ℕ × Order) (m : Option Mailbox) → last_post t ≡ Some o → slice_get ms o.0 ≡ m → carried_out t ms ≡ (if has_order m then t.posts - 1 else t.posts)
carried_by t ms o m h q = ap (λ (b : Bool). if b then t.posts - 1 else t.posts) (ap (λ p. option_map_or (λ (o : ℕ × Order). has_order (slice_get ms o.0)) p false) h ∙ ap has_order q)

idle_script : (u : Script) (ms : List Mailbox) (b : Registry) → u.posts ≡ 0 → u.registry ≡ b → IsRegisteredBy u ms b
idle_script u ms b z h = record { idle = λ q. h; accepted = λ c k q. absurd (omega (arith, k, z)); carried = λ k. absurd (omega (arith, k, z)) }

conclude : (t : State) (u : Script) (ms : List Mailbox) (b : Registry) → t.script ≡ u → t.mailboxes ≡ ms → boot_of t ≡ b → IsRegisteredBy u ms b → IsRegistered t
conclude t u ms b h k q p = subst (λ v. IsRegisteredBy v t.mailboxes (boot_of t)) (sym h) (subst (λ l. IsRegisteredBy u l (boot_of t)) (sym k) (subst (IsRegisteredBy u ms) (sym q) p))

-- the script and the mailboxes after a post, and after the end of a command

module _ (s : State) where
  pub post_script : (command : Command) (before : List Change) → Before s command before → (m : Mailbox) (c : ℕ) (u : Script) → (apply s (before ++ mailbox_becomes c m ∷ script_becomes u ∷ [])).script ≡ u
  post_script command before (first_post z r q) m c u = ap (λ cs. (apply s (cs ++ mailbox_becomes c m ∷ script_becomes u ∷ [])).script) q
  post_script command before (next_post l o z g a q) m c u = ap (λ cs. (apply s (cs ++ mailbox_becomes c m ∷ script_becomes u ∷ [])).script) q

  pub post_mailboxes : (command : Command) (before : List Change) → Before s command before → (m : Mailbox) (c : ℕ) (u : Script) → (apply s (before ++ mailbox_becomes c m ∷ script_becomes u ∷ [])).mailboxes ≡ slice_set (apply s before).mailboxes c m
  post_mailboxes command before (first_post z r q) m c u = subst (λ cs. (apply s (cs ++ mailbox_becomes c m ∷ script_becomes u ∷ [])).mailboxes ≡ slice_set (apply s cs).mailboxes c m) (sym q) refl
  post_mailboxes command before (next_post l o z g a q) m c u = subst (λ cs. (apply s (cs ++ mailbox_becomes c m ∷ script_becomes u ∷ [])).mailboxes ≡ slice_set (apply s cs).mailboxes c m) (sym q) refl

  pub done_script : (command : Command) (before : List Change) → Before s command before → (u : Script) → (apply s (before ++ script_becomes u ∷ [])).script ≡ u
  done_script command before (first_post z r q) u = ap (λ cs. (apply s (cs ++ script_becomes u ∷ [])).script) q
  done_script command before (next_post l o z g a q) u = ap (λ cs. (apply s (cs ++ script_becomes u ∷ [])).script) q

module _ (s : State) (form : IsInForm s) (p : IsRegistered s) where
  abbrev here : Script
  here = s.script

  -- the command at the script's place
  command_is : (command : Command) → StandsAt here (line.Boot command) → command_at here ≡ Some command
  command_is command h = ap (λ o. bind o boot_command) h.line_at

  pub orders_are : (command : Command) → StandsAt here (line.Boot command) → orders_now here ≡ boot.orders here.registry command
  orders_are command h = ap (λ o. option_map_or (boot.orders here.registry) (bind o boot_command) []) h.line_at

  some_posts : (n : ℕ) → here.posts ≡ suc n → 0 < here.posts
  some_posts n z = omega (arith, z)

  -- before a post or the end of a command: its orders so far were carried out, and it is not refused
  pub before_boot : (command : Command) (before : List Change) → StandsAt here (line.Boot command) → Before s command before → boot_of s ≡ after_orders here.registry (take here.posts (boot.orders here.registry command))
  before_boot command before h (first_post z r q) = sym (p.idle z) ∙ ap (λ n. after_orders here.registry (take n (boot.orders here.registry command))) (sym z)
  before_boot command before h (next_post n o z g m q) =
      let last : last_post here ≡ Some o = ap (λ k. last_of k (orders_now here)) z ∙ ap (λ os. slice_get os n) (orders_are command h) ∙ g in
      p.carried (some_posts n z)
      ∙ ap (λ k. after_orders here.registry (take k (orders_now here))) (carried_by here s.mailboxes o (Some ack) last m)
      ∙ ap (λ os. after_orders here.registry (take here.posts os)) (orders_are command h)

  pub before_accepted : (command : Command) (before : List Change) → StandsAt here (line.Boot command) → Before s command before → refusal here.registry command ≡ None
  before_accepted command before h (first_post z r q) = r
  before_accepted command before h (next_post n o z g m q) = p.accepted command (some_posts n z) (command_is command h)

  -- a line that is no boot command: no command is in progress
  pub not_begun : (l : ScriptLine) → StandsAt here l → boot_command l ≡ None → here.posts ≡ 0
  not_begun l h b = by_posts here.posts refl
    where
      by_posts : (n : ℕ) → here.posts ≡ n → here.posts ≡ 0
      by_posts zero z = z
      by_posts (suc n) z = let none : false ≡ true = sym (ap (λ o. is_some (bind o boot_command)) h.line_at ∙ ap is_some b) ∙ form.posts.command (omega (arith, z)) in absurd cc

  -- the order that is posted fits
  pub posted_fits : IsPlaced s → IsSettled s → (command : Command) (before : List Change) → StandsAt here (line.Boot command) → Before s command before → (o : ℕ × Order) → slice_get (boot.orders here.registry command) here.posts ≡ Some o → PostFits s o
  posted_fits placed settled command before h (first_post z r q) o e =
      let same : here.registry ≡ boot_of s = p.idle z in
      first_fits s placed settled command o (settled.within here.place (line.Boot command) h.line_at) (ap (λ b. refusal b command) (sym same) ∙ r)
      (ap (λ b. slice_get (boot.orders b command) 0) (sym same) ∙ ap (slice_get (boot.orders here.registry command)) (sym z) ∙ e)
  posted_fits placed settled command before h (next_post n l z g m q) o e =
      next_fits s placed settled here.registry command o n (settled.within here.place (line.Boot command) h.line_at) (p.accepted command (some_posts n z) (command_is command h))
      (ap (slice_get (boot.orders here.registry command)) (sym z) ∙ e)
      (before_boot command before h (next_post n l z g m q) ∙ ap (λ k. after_orders here.registry (take k (boot.orders here.registry command))) z)

module _ (s : State) (chs : List Change) (e : Entry) (placed : IsPlaced s) (shares : AreShares s) (follow : MailboxesFollow s) (fit : PostsFit s) (form : IsInForm s) (settled : IsSettled s) (p : IsRegistered s) where
  abbrev t : State
  t = apply s chs

  framed : {more : List Change} → chs ≡ more → SameScript s (apply s more) → boot_of t ≡ boot_of s → IsRegistered t
  framed q h b = conclude t s.script s.mailboxes (boot_of s) (ap (λ cs. (apply s cs).script) q ∙ h.script) (ap (λ cs. (apply s cs).mailboxes) q ∙ h.mailboxes) b p

  -- an order is carried out
  carried_one : (c : ℕ) (k : Core) (o : Order) → HasOrder s c k o → t.script ≡ s.script → t.mailboxes ≡ slice_set s.mailboxes c ack → boot_of t ≡ after_order (boot_of s) c o → IsRegistered t
  carried_one c k o at script mailboxes b =
      let last : last_post s.script ≡ Some (c, o) = posted_is c o (last_post s.script) (holds_order o (posted_to c (last_post s.script)) (follow c (order o) at.mailbox_at)) in
      let l = last_is s.script (c, o) s.script.posts refl last in
      conclude t s.script (slice_set s.mailboxes c ack) (after_order (boot_of s) c o) script mailboxes b (record {
        idle = λ z. absurd (let q = l.posts_are in omega (arith, z, q));
        accepted = p.accepted;
        carried = λ k.
            ap (λ b. after_order b c o)
            (p.carried k ∙ ap (λ n. after_orders s.script.registry (take n (orders_now s.script))) (carried_by s.script s.mailboxes (c, o) (Some (order o)) last at.mailbox_at ∙ let q = l.posts_are in omega (arith, q)))
            ∙ sym (after_take s.script.registry (orders_now s.script) l.n (c, o) l.order_at)
            ∙ ap (λ n. after_orders s.script.registry (take n (orders_now s.script)))
            (sym (carried_by s.script (slice_set s.mailboxes c ack) (c, o) (Some ack) last (set_here s.mailboxes c (order o) ack at.mailbox_at) ∙ l.posts_are));
      })

  -- a post

  there_is : {A : Type 0} (xs : List A) (i : ℕ) → i < length xs → (x : A) × (slice_get xs i ≡ Some x)
  there_is [] i h = absurd (omega arith)
  there_is (x ∷ xs) zero h = (x, refl)
  there_is (x ∷ xs) (suc i) h = there_is xs i (omega arith)

  posted : IsPost s chs e → IsRegistered t
  posted i =
      let u : Script = record s.script { posts = s.script.posts + 1 } in
      let ms = slice_set (apply s i.before).mailboxes i.o.0 (order i.o.1) in
      let fits = posted_fits s form p placed settled i.command i.before i.stands i.before_at i.o i.order_at in
      let cores = settled.cores in
      let mailboxes = settled.mailboxes in
      let same = (same_lengths i.before s).mailboxes in
      let low = fits.core_is in
      let was = there_is (apply s i.before).mailboxes i.o.0 (omega (arith, cores, mailboxes, same, low)) in
      let last : last_post u ≡ Some i.o = ap (λ n. last_of n (orders_now s.script)) (add-one s.script.posts) ∙ ap (λ os. slice_get os s.script.posts) (orders_are s form p i.command i.stands) ∙ i.order_at in
      let at : slice_get ms i.o.0 ≡ Some (order i.o.1) = set_here (apply s i.before).mailboxes i.o.0 was.0 (order i.o.1) was.1 in
      conclude t u ms (boot_of s)
      (ap (λ cs. (apply s cs).script) i.changes_are ∙ post_script s i.command i.before i.before_at (order i.o.1) i.o.0 u)
      (ap (λ cs. (apply s cs).mailboxes) i.changes_are ∙ post_mailboxes s i.command i.before i.before_at (order i.o.1) i.o.0 u)
      (stays.by_post s chs e i)
      (record {
        idle = λ z. absurd (omega (arith, z));
        accepted = λ c k q.
            let one : i.command ≡ c = let own = command_is s form p i.command i.stands in some_same (sym own ∙ q) in
            ap (refusal s.script.registry) (sym one) ∙ before_accepted s form p i.command i.before i.stands i.before_at;
        carried = λ k.
            before_boot s form p i.command i.before i.stands i.before_at
            ∙ ap (λ os. after_orders s.script.registry (take s.script.posts os)) (sym (orders_are s form p i.command i.stands))
            ∙ ap (λ n. after_orders s.script.registry (take n (orders_now s.script))) (sym (carried_by u ms i.o (Some (order i.o.1)) last at ∙ omega arith));
      })
    where
      some_same : {A : Type 0} {x y : A} → Some x ≡ Some y → x ≡ y
      some_same q = cc

  done : IsDone s chs e → IsRegistered t
  done i =
      let u : Script = at_next_command (record s.script { registry = after_orders s.script.registry (boot.orders s.script.registry i.command) }) in
      conclude t u t.mailboxes (boot_of s) (ap (λ cs. (apply s cs).script) i.changes_are ∙ done_script s i.command i.before i.before_at u) refl (stays.by_done s chs e i)
      (idle_script u t.mailboxes (boot_of s) refl
      (ap (after_orders s.script.registry) (sym (take_none (boot.orders s.script.registry i.command) s.script.posts i.no_order)) ∙ sym (before_boot s form p i.command i.before i.stands i.before_at)))

  -- the script moves on with no command in progress
  moved_on : {more : List Change} → chs ≡ more → (apply s more).script ≡ at_next_command s.script → s.script.posts ≡ 0 → boot_of t ≡ boot_of s → IsRegistered t
  moved_on q h z b =
      conclude t (at_next_command s.script) t.mailboxes (boot_of s) (ap (λ cs. (apply s cs).script) q ∙ h) refl b (idle_script (at_next_command s.script) t.mailboxes (boot_of s) refl (p.idle z))

  -- each entry keeps this part; it uses where the blocks are, the shares, the mailboxes, the posts, the form and the settings
  pub registered_kept : Kind s chs e → IsRegistered t
  registered_kept (is_slice i) = framed (slice_changes s chs e i) (let o = outside_same i.b (sliced_of s chs e i).need (sliced_of s chs e i).outside _ in record { mailboxes = o.mailboxes; script = o.script }) (stays.by_slice s chs e shares i)
  registered_kept (is_slice_none i) = framed i.changes_are (record { mailboxes = refl; script = refl }) (stays.by_slice_none s chs e shares i)
  registered_kept (is_idle i) = framed i.changes_are (record { mailboxes = refl; script = refl }) (stays.by_idle s chs e i)
  registered_kept (is_wake i) = framed i.changes_are (record { mailboxes = refl; script = refl }) (stays.by_wake s chs e i)
  registered_kept (is_intake i) = framed i.changes_are (record { mailboxes = refl; script = refl }) (stays.by_intake s chs e i)
  registered_kept (is_start i) = carried_one i.c i.k _ i.order_at (ap (λ cs. (apply s cs).script) i.changes_are) (ap (λ cs. (apply s cs).mailboxes) i.changes_are) (start_boot s chs e placed shares fit i)
  registered_kept (is_stop i) =
      carried_one i.c i.k _ i.order_at
      (ap (λ cs. (apply s cs).script) i.changes_are ∙ (all_same (block_at_rest i.k.clock) s.blocks i.k.share _).script)
      (ap (λ cs. (apply s cs).mailboxes) i.changes_are ∙ (all_same (block_at_rest i.k.clock) s.blocks i.k.share _).mailboxes) (stop_boot s chs e placed shares fit i)
  registered_kept (is_replace i) =
      carried_one i.c i.k _ i.order_at
      (ap (λ cs. (apply s cs).script) i.changes_are ∙ (all_same (block_under i.v) s.blocks i.k.share _).script)
      (ap (λ cs. (apply s cs).mailboxes) i.changes_are ∙ (all_same (block_under i.v) s.blocks i.k.share _).mailboxes) (replace_boot s chs e placed shares fit i)
  registered_kept (is_adopt i) = carried_one i.c i.k _ i.order_at (ap (λ cs. (apply s cs).script) i.changes_are) (ap (λ cs. (apply s cs).mailboxes) i.changes_are) (adopt_boot s chs e placed shares fit i)
  registered_kept (is_release i) = carried_one i.c i.k _ i.order_at (ap (λ cs. (apply s cs).script) i.changes_are) (ap (λ cs. (apply s cs).mailboxes) i.changes_are) (release_boot s chs e placed shares fit i)
  registered_kept (is_post i) = posted i
  registered_kept (is_done i) = done i
  registered_kept (is_refused i) = moved_on i.changes_are refl i.posts_at (stays.by_refused s chs e i)
  registered_kept (is_route i) = moved_on i.changes_are refl (not_begun s form p (line.Route i.l i.c) i.stands refl) (stays.by_route s chs e i)
  registered_kept (is_awaited i) = moved_on i.changes_are refl (not_begun s form p (line.Await i.b i.words i.limit) i.stands refl) (stays.by_awaited s chs e i)
  registered_kept (is_raise i) =
      conclude t (record s.script { raises = s.script.raises + 1 }) s.mailboxes (boot_of s) (ap (λ cs. (apply s cs).script) i.changes_are) (ap (λ cs. (apply s cs).mailboxes) i.changes_are) (stays.by_raise s chs e i)
      (record { idle = p.idle; accepted = p.accepted; carried = p.carried })
