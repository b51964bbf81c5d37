-- A posted order fits: each entry keeps this.
use Rattle.std.proofs.Common.{◌≡◌, ℕ, ◌+◌, List, [], ◌∷◌, ◌++◌, Bool, true, false, Option, Some, None, refl, sym, ap, ◌∙◌, subst, arith}
use Rattle.std.specs.Prelude.{slice_get, slice_set, not, is_some}
use Rattle.dc_base.specs.declared.commands.Command.{Command}
use Rattle.dc_base.specs.declared.commands.Order.{Order}
use Rattle.dc_base.specs.declared.commands.Order.TheVariants as orders
use Rattle.dc_base.specs.declared.commands.ScriptLine.TheVariants as line
use Rattle.dc_base.specs.declared.entries.Entry.{Entry}
use Rattle.dc_base.specs.Bounded.{IsSettled}
use Rattle.dc_base.specs.Changes.{Change, mailbox_becomes, script_becomes, apply}
use Rattle.dc_base.specs.Orders.{block_at_rest, block_under}
use Rattle.dc_base.specs.Outcomes.{has}
use Rattle.dc_base.specs.Placed.{IsPlaced, homes_in, parked_in}
use Rattle.dc_base.specs.Progress.{last_of, last_post, orders_now, posted_to, MailboxesFollow, PostsFit, Fits, IsRest, IsAtRest, HasRoom, IsRegistered}
use Rattle.dc_base.specs.ScriptForm.{IsInForm}
use Rattle.dc_base.specs.States.{State, Core, Block, Member, Mailbox, empty, order, ack, Script}
use Rattle.dc_base.specs.SliceTurns.{core_after_slice}
use Rattle.dc_sound.proofs.EntryKinds.{HasOrder, StandsAt, IsPost, sliced_of, slice_changes, Before, first_post, next_post, Kind, is_slice, is_slice_none, is_idle, is_wake, is_intake, is_start, is_stop, is_replace, is_adopt, is_release, is_post, is_done, is_refused, is_route, is_awaited, is_raise}
use Rattle.dc_sound.proofs.CoresAfter.{post_cores}
use Rattle.dc_block_sound.proofs.Elements.{SetCase, set_now, set_before, set_case, same_some}
use Rattle.dc_sound.proofs.Placed.{WasBlock}
use Rattle.dc_sound.proofs.Registered.{outside_same, all_same, holds_order, posted_is, last_is, orders_are, not_begun, posted_fits, post_mailboxes}
use Rattle.dc_sound.proofs.Rules.{Rule, no_rule, Obeys, Fine, kept, fine_outside, block_stays}
use Rattle.dc_sound.proofs.Shares.{has-last, count-last}

-- as the core was, as far as posts read it
record WasRoom (s : State) (c : ℕ) (new : Core) : Type 0 where
  pub was : Core
  pub was_at : slice_get s.cores c ≡ Some was
  pub version : new.version ≡ was.version
  pub share : (b : ℕ) → has new.share b ≡ has was.share b
  pub homes : homes_in new.share ≡ homes_in was.share
  pub parked : parked_in new.share ≡ parked_in was.share

abbrev rooms : State → Rule
rooms s = record no_rule { core = WasRoom s; block = WasBlock s }

module _ (s : State) where
  rooms_obeyed : Obeys (rooms s) s
  rooms_obeyed = record {
    cores = λ c k e. record { was = k; was_at = e; version = refl; share = λ b. refl; homes = refl; parked = refl };
    blocks = λ b x e. record { was = x; was_at = e; whereabouts = refl };
    channels = λ x r e. tt;
    lines = λ l w e. tt;
    mailboxes = λ c m e. tt;
    consoles = λ b ws e. tt;
    script = tt;
  }

  same_room : (c : ℕ) (k new : Core) → slice_get s.cores c ≡ Some k → new.version ≡ k.version → new.share ≡ k.share → WasRoom s c new
  same_room c k new h v q = record { was = k; was_at = h; version = v; share = λ b. ap (λ share. has share b) q; homes = ap homes_in q; parked = ap parked_in q }

  turned_room : (c b clock : ℕ) (k : Core) → slice_get s.cores c ≡ Some k → WasRoom s c (core_after_slice k b clock)
  turned_room c b clock k h = record {
    was = k;
    was_at = h;
    version = refl;
    share = λ j. has-last b k.share j;
    homes = count-last (λ (m : Member). not m.parked) b k.share;
    parked = count-last (λ (m : Member). m.parked) b k.share;
  }

  same_block : (b : ℕ) (x z : Block) → slice_get s.blocks b ≡ Some x → z.whereabouts ≡ x.whereabouts → WasBlock s b z
  same_block b x z h q = record { was = x; was_at = h; whereabouts = q }

  -- an order that fitted fits where these stay
  module _ (chs : List Change) (fine : Fine (rooms s) chs) where
    obeyed : Obeys (rooms s) (apply s chs)
    obeyed = kept (rooms s) chs s fine rooms_obeyed

    rests_by : (b : ℕ) (o : Option Block) → slice_get s.blocks b ≡ o → IsAtRest o → IsAtRest (slice_get (apply s chs).blocks b)
    rests_by b None q h = absurd h
    rests_by b (Some x) q h =
        let stay = block_stays chs s b x q in
        let new = obeyed.blocks b stay.0 stay.1 in
        let same : new.was ≡ x = same_some (slice_get s.blocks b) new.was x new.was_at q in
        subst IsAtRest (sym stay.1) (subst IsRest (sym (new.whereabouts ∙ ap (λ (y : Block). y.whereabouts) same)) h)

    room_by : (parked : Bool) (c : ℕ) (k : Core) (w : WasRoom s c k) → HasRoom parked w.was → HasRoom parked k
    room_by false c k w h = w.homes ∙ h
    room_by true c k w h = let e = w.parked in omega (arith, e, h)

    fits_still : (o : Order) (c : ℕ) (k : Core) (w : WasRoom s c k) → Fits s w.was o → Fits (apply s chs) k o
    fits_still (orders.Start v) c k w h = w.version ∙ h
    fits_still orders.Stop c k w h = ap is_some w.version ∙ h
    fits_still (orders.Replace v) c k w h = ap is_some w.version ∙ h
    fits_still (orders.Adopt b parked) c k w h = (ap is_some w.version ∙ h.0, rests_by b.0 (slice_get s.blocks b.0) refl h.1, room_by parked c k w h.2)
    fits_still (orders.Release b) c k w h = (ap is_some w.version ∙ h.0, w.share b.0 ∙ h.1)

    posts_frame : (apply s chs).mailboxes ≡ s.mailboxes → PostsFit s → PostsFit (apply s chs)
    posts_frame same fit c o k m q = let w = obeyed.cores c k q in fits_still o c k w (fit c o w.was (ap (λ l. slice_get l c) (sym same) ∙ m) w.was_at)

-- an order fits where the blocks are the same
fits_same : (s t : State) → t.blocks ≡ s.blocks → (o : Order) (k : Core) → Fits s k o → Fits t k o
fits_same s t e (orders.Start v) k h = h
fits_same s t e orders.Stop k h = h
fits_same s t e (orders.Replace v) k h = h
fits_same s t e (orders.Adopt b parked) k h = (h.0, subst (λ bs. IsAtRest (slice_get bs b.0)) (sym e) h.1, h.2)
fits_same s t e (orders.Release b) k h = h

module _ (s : State) (chs : List Change) (e : Entry) (placed : IsPlaced s) (follow : MailboxesFollow s) (form : IsInForm s) (registered : IsRegistered s) (settled : IsSettled s) (p : PostsFit s) where
  abbrev t : State
  t = apply s chs

  framed : {more : List Change} → chs ≡ more → Fine (rooms s) more → (apply s more).mailboxes ≡ s.mailboxes → PostsFit t
  framed {more} q f h = subst (λ cs. PostsFit (apply s cs)) (sym q) (posts_frame s more f h p)

  -- an order in a mailbox was the last post
  order_last : (c : ℕ) (o : Order) → slice_get s.mailboxes c ≡ Some (order o) → last_post s.script ≡ Some (c, o)
  order_last c o h = posted_is c o (last_post s.script) (holds_order o (posted_to c (last_post s.script)) (follow c (order o) h))

  abbrev NoOrder : List Mailbox → Type 0
  NoOrder ms = (c : ℕ) (o : Order) → slice_get ms c ≡ Some (order o) → ⊥

  none_posted : s.script.posts ≡ 0 → NoOrder s.mailboxes
  none_posted z c o h = let l = last_is s.script (c, o) s.script.posts refl (order_last c o h) in let n = l.posts_are in omega (arith, z, n)

  no_order : NoOrder t.mailboxes → PostsFit t
  no_order n c o k m q = absurd (n c o m)

  -- the order of this core was carried out, and it was the only one
  none_carried : (c : ℕ) (k : Core) (o : Order) → HasOrder s c k o → NoOrder (slice_set s.mailboxes c ack)
  none_carried c k o at d x h = by_set (set_case s.mailboxes c ack d (order x) h)
    where
      by_set : SetCase s.mailboxes c ack d (order x) → ⊥
      by_set (set_now same q) = absurd cc
      by_set (set_before n q) = let a = order_last c o at.mailbox_at in let b = order_last d x q in n (let one : Some (c, o) ≡ Some (d, x) = sym a ∙ b in first_of one)
        where
          first_of : {m : ℕ × Order} {n : ℕ × Order} → Some m ≡ Some n → m.0 ≡ n.0
          first_of e = cc

  carried : (c : ℕ) (k : Core) (o : Order) → HasOrder s c k o → t.mailboxes ≡ slice_set s.mailboxes c ack → PostsFit t
  carried c k o at q = no_order (λ d x h. none_carried c k o at d x (ap (λ l. slice_get l d) (sym q) ∙ h))

  -- no order stands in a mailbox before a post, nor where a command is done
  none_before : (command : Command) → StandsAt s.script (line.Boot command) → (before : List Change) → Before s command before → NoOrder (apply s before).mailboxes
  none_before command stands before (first_post z r q) = subst (λ cs. NoOrder (apply s cs).mailboxes) (sym q) (none_posted z)
  none_before command stands before (next_post n l z g m q) = subst (λ cs. NoOrder (apply s cs).mailboxes) (sym q) (λ c o h. by_set c o (set_case s.mailboxes l.0 empty c (order o) h))
    where
      by_set : (c : ℕ) (o : Order) → SetCase s.mailboxes l.0 empty c (order o) → ⊥
      by_set c o (set_now same h) = absurd cc
      by_set c o (set_before other h) =
          let a = order_last c o h in
          let b : last_post s.script ≡ Some l = ap (λ k. last_of k (orders_now s.script)) z ∙ ap (λ os. slice_get os n) (orders_are s form registered command stands) ∙ g in
          other (first_of (sym b ∙ a))
        where
          first_of : {m : ℕ × Order} {n : ℕ × Order} → Some m ≡ Some n → m.0 ≡ n.0
          first_of e = cc

  post_blocks : (command : Command) (before : List Change) → Before s command before → (m : Mailbox) (c : ℕ) (u : Script) → (apply s (before ++ mailbox_becomes c m ∷ script_becomes u ∷ [])).blocks ≡ s.blocks
  post_blocks command before (first_post z r q) m c u = ap (λ cs. (apply s (cs ++ mailbox_becomes c m ∷ script_becomes u ∷ [])).blocks) q
  post_blocks command before (next_post l o z g a q) m c u = ap (λ cs. (apply s (cs ++ mailbox_becomes c m ∷ script_becomes u ∷ [])).blocks) q

  done_mailboxes : (command : Command) (before : List Change) → Before s command before → (u : Script) → (apply s (before ++ script_becomes u ∷ [])).mailboxes ≡ (apply s before).mailboxes
  done_mailboxes command before (first_post z r q) u = subst (λ cs. (apply s (cs ++ script_becomes u ∷ [])).mailboxes ≡ (apply s cs).mailboxes) (sym q) refl
  done_mailboxes command before (next_post l o z g a q) u = subst (λ cs. (apply s (cs ++ script_becomes u ∷ [])).mailboxes ≡ (apply s cs).mailboxes) (sym q) refl

  order_same : {x y : Order} → order x ≡ order y → x ≡ y
  order_same q = cc

  posted : IsPost s chs e → PostsFit t
  posted i c o k m q =
      let fits = posted_fits s form registered placed settled i.command i.before i.stands i.before_at i.o i.order_at in
      let u : Script = record s.script { posts = s.script.posts + 1 } in
      let cores : t.cores ≡ s.cores = ap (λ cs. (apply s cs).cores) i.changes_are ∙ post_cores s i.command i.before i.before_at (order i.o.1) i.o.0 u in
      let blocks : t.blocks ≡ s.blocks = ap (λ cs. (apply s cs).blocks) i.changes_are ∙ post_blocks i.command i.before i.before_at (order i.o.1) i.o.0 u in
      let mailboxes : t.mailboxes ≡ slice_set (apply s i.before).mailboxes i.o.0 (order i.o.1) =
      ap (λ cs. (apply s cs).mailboxes) i.changes_are ∙ post_mailboxes s i.command i.before i.before_at (order i.o.1) i.o.0 u in
      by_set (ap (λ l. slice_get l c) (sym cores) ∙ q) blocks fits.fits (set_case (apply s i.before).mailboxes i.o.0 (order i.o.1) c (order o) (ap (λ l. slice_get l c) (sym mailboxes) ∙ m))
    where
      by_set : slice_get s.cores c ≡ Some k → t.blocks ≡ s.blocks → ((k : Core) → slice_get s.cores i.o.0 ≡ Some k → Fits s k i.o.1) → SetCase (apply s i.before).mailboxes i.o.0 (order i.o.1) c (order o) → Fits t k o
      by_set at blocks fits (set_now same h) =
          fits_same s t blocks o k (subst (λ x. Fits s k x) (sym (order_same h)) (fits k (ap (slice_get s.cores) same ∙ at)))
      by_set at blocks fits (set_before n h) = absurd (none_before i.command i.stands i.before i.before_at c o h)

  -- each entry keeps this part; a post uses where the blocks are, the registry and the settings
  pub posts_kept : Kind s chs e → PostsFit t
  posts_kept (is_slice i) =
      framed (slice_changes s chs e i)
      (turned_room s i.c i.b _ i.k i.turn.core_at, (same_block s i.b i.x _ i.turn.block_at refl, fine_outside (rooms s) i.b (sliced_of s chs e i).need (sliced_of s chs e i).outside (λ ws. tt) (λ x r. tt) (λ l w. tt)))
      (outside_same i.b (sliced_of s chs e i).need (sliced_of s chs e i).outside _).mailboxes
  posts_kept (is_slice_none i) = framed i.changes_are (turned_room s i.c i.b _ i.k i.turn.core_at, (same_block s i.b i.x _ i.turn.block_at refl, tt)) refl
  posts_kept (is_idle i) = framed i.changes_are (same_room s i.c i.k _ i.core_at refl refl, tt) refl
  posts_kept (is_wake i) = framed i.changes_are (same_room s i.c i.k _ i.turn.core_at refl refl, (same_block s i.b i.x _ i.turn.block_at refl, tt)) refl
  posts_kept (is_intake i) = framed i.changes_are (same_block s i.to.0 i.x _ i.block_at refl, (tt, tt)) refl
  posts_kept (is_start i) = carried i.c i.k _ i.order_at (ap (λ cs. (apply s cs).mailboxes) i.changes_are)
  posts_kept (is_stop i) = carried i.c i.k _ i.order_at (ap (λ cs. (apply s cs).mailboxes) i.changes_are ∙ (all_same (block_at_rest i.k.clock) s.blocks i.k.share _).mailboxes)
  posts_kept (is_replace i) = carried i.c i.k _ i.order_at (ap (λ cs. (apply s cs).mailboxes) i.changes_are ∙ (all_same (block_under i.v) s.blocks i.k.share _).mailboxes)
  posts_kept (is_adopt i) = carried i.c i.k _ i.order_at (ap (λ cs. (apply s cs).mailboxes) i.changes_are)
  posts_kept (is_release i) = carried i.c i.k _ i.order_at (ap (λ cs. (apply s cs).mailboxes) i.changes_are)
  posts_kept (is_post i) = posted i
  posts_kept (is_done i) =
      no_order (λ c o h. none_before i.command i.stands i.before i.before_at c o (ap (λ l. slice_get l c) (sym (ap (λ cs. (apply s cs).mailboxes) i.changes_are ∙ done_mailboxes i.command i.before i.before_at _)) ∙ h))
  posts_kept (is_refused i) = no_order (λ c o h. none_posted i.posts_at c o (ap (λ l. slice_get l c) (sym (ap (λ cs. (apply s cs).mailboxes) i.changes_are)) ∙ h))
  posts_kept (is_route i) = no_order (λ c o h. none_posted (not_begun s form registered (line.Route i.l i.c) i.stands refl) c o (ap (λ l. slice_get l c) (sym (ap (λ cs. (apply s cs).mailboxes) i.changes_are)) ∙ h))
  posts_kept (is_awaited i) =
      no_order (λ c o h. none_posted (not_begun s form registered (line.Await i.b i.words i.limit) i.stands refl) c o (ap (λ l. slice_get l c) (sym (ap (λ cs. (apply s cs).mailboxes) i.changes_are)) ∙ h))
  posts_kept (is_raise i) = framed i.changes_are (tt, (tt, tt)) refl
