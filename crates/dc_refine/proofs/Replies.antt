-- A kernel call comes to the same in both machines.
use Rattle.std.proofs.Common.{◌≡◌, ℕ, zero, suc, ◌+◌, ◌≤◌, List, [], ◌∷◌, ◌++◌, length, Bool, true, false, Option, Some, None, refl, sym, ap, ◌∙◌, subst, map, arith}
use Rattle.std.specs.Prelude.{slice_get, slice_set, nat_lt, if◌then◌else◌}
use Rattle.std.specs.Option.{option_map}
use Rattle.std.proofs.lemmas.List.{map-set}
use Rattle.std.proofs.lemmas.Option.{slice_get-map}
use Rattle.dc_base.specs.declared.interrupts.Latch.{Latch}
use Rattle.dc_base.specs.declared.interrupts.Source.{Source}
use Rattle.dc_base.specs.declared.interrupts.Source.TheVariants as source
use Rattle.dc_base.specs.declared.messages.Message.{Message}
use Rattle.dc_base.specs.Words.{bind, change}
use Rattle.dc_base.specs.Channels.{Channel, Ring, after_send, after_take}
use Rattle.dc_base.specs.Lines.{Line, Wire, latched, delivered, with_fate, pending_in, rights_over, line_latch}
use Rattle.dc_base.specs.Parts.{Parts, with_message}
use Rattle.dc_base.specs.Ports.{latch_at}
use Rattle.dc_base.specs.Kernel.{Call, faults, waits, makes, takes, prints, sends, receives, binds, gives, claims, with_claimed}
use Rattle.dc_base.specs.Blocks.{Blocks}
use Rattle.dc_base.specs.Blocks as blocks
use Rattle.dc_base.specs.States.{State, Block, with_control, time_of}
use Rattle.dc_base.specs.Shown.{life_of}
use Rattle.dc_base.specs.StandsFor.{StandsFor, ring_of, counts_of, LatchesAgree, fate_at, signal_of}
use Rattle.dc_base.specs.Serving.{need, nothing_outside, console_outside, Served, faulted, held_up, served, serve_send, serve_receive, serve_claim, serve}
use Rattle.dc_base.specs.NeededLooks.{as_channel, as_line, as_console, outside_change}
use Rattle.dc_base.specs.BlockCalls as calls
use Rattle.dc_base.specs.declared.calls.Need.{Need}
use Rattle.dc_base.specs.declared.calls.Need.TheVariants as needs
use Rattle.dc_base.specs.ControlBlocks.{ControlBlock}
use Rattle.dc_refine.proofs.Outside.{outside_at, with_outside}
use Rattle.dc_refine.proofs.Elements.{slice_set-same, same_at, change-is_set}
use Rattle.dc_refine.proofs.Beside.{lines_set}
use Rattle.dc_refine.proofs.Leads.{with_block}
use Rattle.dc_refine.proofs.Stands.{plain, stands_set, block_seen, SameLatchesIn, same_signals}
use Rattle.dc_refine.proofs.Calls.{Keeps}
use Rattle.dc_refine.proofs.TakeLine.{GoesOn, still_there, taken_stands}
use Rattle.dc_refine.proofs.Rings.{ring_after_send-of, ring_after_take-of, taken_of}

fate_set : (ls : List Line) (l : ℕ) (old new : Line) → slice_get ls l ≡ Some old → new.fates ≡ old.fates → (m n : ℕ) →
    bind (slice_get (slice_set ls l new) m) (λ (x : Line). slice_get x.fates n) ≡ bind (slice_get ls m) (λ (x : Line). slice_get x.fates n)
fate_set [] l old new h e m n = refl
fate_set (x ∷ ls) zero old new h e zero n = let f : x ≡ old = cc in ap (λ fs. slice_get fs n) (e ∙ ap (λ (v : Line). v.fates) (sym f))
fate_set (x ∷ ls) zero old new h e (suc m) n = refl
fate_set (x ∷ ls) (suc l) old new h e zero n = refl
fate_set (x ∷ ls) (suc l) old new h e (suc m) n = fate_set ls l old new h e m n

latches_kept : (t : Blocks) (l : ℕ) (old new : Line) → slice_get t.lines l ≡ Some old → new.fates ≡ old.fates → LatchesAgree t → LatchesAgree (record t { lines = slice_set t.lines l new })
latches_kept t l old new h e a = λ m n.
    let same = fate_set t.lines l old new h e m n in
    (λ g. (a m n).0 (sym same ∙ g), λ g. same ∙ (a m n).1 g)

-- a line of both machines is another afterwards, with the same fates
pub line_set : (s : State) (t : Blocks) (l : ℕ) (old new : Line) (w : Wire) → StandsFor s t → slice_get t.lines l ≡ Some old → new.fates ≡ old.fates →
    w.bound ≡ new.bound → w.offer ≡ new.offer → w.pending ≡ pending_in new.fates → w.counts ≡ counts_of new.fates →
    StandsFor (record s { lines = slice_set s.lines l w }) (record t { lines = slice_set t.lines l new })
line_set s t l old new w stands h e bound offer pending counts = record {
  blocks = record { parts = stands.blocks.parts; times = stands.blocks.times; outputs = stands.blocks.outputs; lives = stands.blocks.lives };
  channels = stands.channels;
  lines = lines_set s t l new w stands.lines bound offer pending counts;
  latches = record { agree = latches_kept t l old new h e stands.latches.agree; differ = stands.latches.differ; numbered = stands.latches.numbered };
}

-- other channels of both machines
pub with_channels : (s : State) (t : Blocks) (rs : List Ring) (cs : List Channel) → StandsFor s t → rs ≡ map ring_of cs → StandsFor (record s { channels = rs }) (record t { channels = cs })
with_channels s t rs cs stands e = record {
  blocks = record { parts = stands.blocks.parts; times = stands.blocks.times; outputs = stands.blocks.outputs; lives = stands.blocks.lives };
  channels = e;
  lines = record { bindings = stands.lines.bindings; offers = stands.lines.offers; pending = stands.lines.pending; counts = stands.lines.counts };
  latches = record { agree = stands.latches.agree; differ = stands.latches.differ; numbered = stands.latches.numbered };
}

-- a latch of a timer is taken: the latches of lines stay
timer_gone : (signals : List (Option Latch)) (i : ℕ) (l : Latch) → latch_at signals i ≡ Some l → l.source ≡ source.Timer → (m n j : ℕ) → latch_at signals j ≡ Some (line_latch m n) → latch_at (slice_set signals i None) j ≡ Some (line_latch m n)
timer_gone [] i l h e m n j g = cc
timer_gone (o ∷ signals) zero l h e m n zero g = let f : l ≡ line_latch m n = cc in let k : source.Timer ≡ source.Line (record { 0 = m }) = sym e ∙ ap (λ (v : Latch). v.source) f in cc
timer_gone (o ∷ signals) zero l h e m n (suc j) g = g
timer_gone (o ∷ signals) (suc i) l h e m n zero g = g
timer_gone (o ∷ signals) (suc i) l h e m n (suc j) g = timer_gone signals i l h e m n j g

timer_taken : (p q : Parts) (i : ℕ) (l : Latch) → latch_at p.signals i ≡ Some l → l.source ≡ source.Timer → q.signals ≡ slice_set p.signals i None → SameLatchesIn p q
timer_taken p q i l h e f = record {
  there = λ m n j. (λ g. ap (λ v. latch_at v j) f ∙ timer_gone p.signals i l h e m n j g, λ g. still_there p.signals i (line_latch m n) j (ap (λ v. latch_at v j) (sym f) ∙ g));
}

module _ (s : State) (t : Blocks) (stands : StandsFor s t) (b c : ℕ) (x : Block) (ws : List ℕ)
    (block_at : slice_get s.blocks b ≡ Some x) (console_at : slice_get s.consoles b ≡ Some ws) where
  abbrev pub y : blocks.Block
  y = plain (time_of s.cores x.whereabouts) ws x.control

  -- both answers say the same, and what is made stands for what is made
  abbrev pub Matches : Need → Served → calls.Reply → Type 0
  Matches nd (faulted n) v = v ≡ calls.refused n
  Matches nd (held_up w) v = v ≡ calls.stuck
  Matches nd (served w p out) v = (u : Blocks) × (v ≡ calls.completed u) × ((new : ControlBlock) → GoesOn x.control p new → StandsFor (with_outside b nd out (record s { blocks = slice_set s.blocks b (with_control new x) })) u)

  -- the block and its console change
  console_made : (p : Parts) (words : List ℕ) → SameLatchesIn x.control.parts p → (new : ControlBlock) → GoesOn x.control p new →
      StandsFor (record s { blocks = slice_set s.blocks b (with_control new x); consoles = slice_set s.consoles b words }) (with_block t b (record y { parts = p; output = words }))
  console_made p words same new on =
      let same_plain : plain (time_of s.cores x.whereabouts) words new ≡ record { parts = p; lives = map life_of x.control.states; clock = time_of s.cores x.whereabouts; output = words } =
      ap (λ q. record { parts = q; lives = map life_of new.states; clock = time_of s.cores x.whereabouts; output = words }) on.parts
      ∙ ap (λ v. record { parts = p; lives = v; clock = time_of s.cores x.whereabouts; output = words }) on.lives in
      subst (λ z. StandsFor (record s { blocks = slice_set s.blocks b (with_control new x); consoles = slice_set s.consoles b words }) (with_block t b z)) same_plain
      (stands_set s t stands b x ws block_at console_at (with_control new x) words (subst (λ q. SameLatchesIn x.control.parts q) (sym on.parts) same))

  -- the block alone changes
  block_made : (p : Parts) → SameLatchesIn x.control.parts p → (new : ControlBlock) → GoesOn x.control p new → StandsFor (record s { blocks = slice_set s.blocks b (with_control new x) }) (with_block t b (record y { parts = p }))
  block_made p same new on =
      subst (λ cs. StandsFor (record s { blocks = slice_set s.blocks b (with_control new x); consoles = cs }) (with_block t b (record y { parts = p }))) (slice_set-same s.consoles b ws console_at) (console_made p ws same new on)

  print_matches : (w : ℕ) (p : Parts) → SameLatchesIn x.control.parts p → (m : Bool) →
      Matches needs.Console (if m then served None p (console_outside (ws ++ w ∷ [])) else faulted 11)
      (if m then calls.completed (record t { blocks = slice_set t.blocks b (record y { parts = p; output = ws ++ w ∷ [] }) }) else calls.refused 11)
  unfolding with_outside outside_change
  print_matches w p same true = (with_block t b (record y { parts = p; output = ws ++ w ∷ [] }), refl, console_made p (ws ++ w ∷ []) same)
  print_matches w p same false = refl

  channel_made : (p : Parts) (z : ℕ) (new : Channel) → SameLatchesIn x.control.parts p → (block : ControlBlock) → GoesOn x.control p block →
      StandsFor (record s { blocks = slice_set s.blocks b (with_control block x); channels = slice_set s.channels z (ring_of new) }) (record (with_block t b (record y { parts = p })) { channels = slice_set t.channels z new })
  channel_made p z new same block on =
      with_channels (record s { blocks = slice_set s.blocks b (with_control block x) }) (with_block t b (record y { parts = p })) (slice_set s.channels z (ring_of new)) (slice_set t.channels z new) (block_made p same block on)
      (ap (λ l. slice_set l z (ring_of new)) stands.channels ∙ sym (map-set ring_of t.channels z new))

  sent_matches : (z : ℕ) (p : Parts) → SameLatchesIn x.control.parts p → (o : Option Channel) → Matches (needs.Channel (record { 0 = z })) (serve_send z p (option_map ring_of o)) (calls.send_on t b y z p o)
  unfolding with_outside outside_change
  sent_matches z p same None = refl
  sent_matches z p same (Some new) = (record (with_block t b (record y { parts = p })) { channels = slice_set t.channels z new }, refl, channel_made p z new same)

  send_matches : (z : ℕ) (m : Message) (p : Parts) → SameLatchesIn x.control.parts p → (o : Option Channel) → ((ch : Channel) → o ≡ Some ch → ch.taken ≤ length ch.messages) →
      Matches (needs.Channel (record { 0 = z })) (serve c b (sends z m p) (as_channel (option_map ring_of o))) (calls.send_on t b y z p (bind o (λ ch. after_send ch m)))
  unfolding serve
  send_matches z m p same None within = refl
  send_matches z m p same (Some ch) within =
      subst (λ r. Matches (needs.Channel (record { 0 = z })) (serve_send z p r) (calls.send_on t b y z p (after_send ch m))) (sym (ring_after_send-of ch m (within ch refl))) (sent_matches z p same (after_send ch m))

  taken_matches : (z address : ℕ) (p : Parts) → SameLatchesIn x.control.parts p → (o : Option (Message × Channel)) → Matches (needs.Channel (record { 0 = z })) (serve_receive z address p (option_map taken_of o)) (calls.receive_on t b y z address p o)
  unfolding with_outside outside_change
  taken_matches z address p same None = refl
  taken_matches z address p same (Some got) =
      let q : Parts = with_message address got.0 p in
      (record (with_block t b (record y { parts = q })) { channels = slice_set t.channels z got.1 }, refl, channel_made q z got.1 (record { there = same.there }))

  receive_matches : (z address : ℕ) (p : Parts) → SameLatchesIn x.control.parts p → (o : Option Channel) →
      Matches (needs.Channel (record { 0 = z })) (serve c b (receives z address p) (as_channel (option_map ring_of o))) (calls.receive_on t b y z address p (bind o after_take))
  unfolding serve
  receive_matches z address p same None = refl
  receive_matches z address p same (Some ch) =
      subst (λ r. Matches (needs.Channel (record { 0 = z })) (serve_receive z address p r) (calls.receive_on t b y z address p (after_take ch))) (sym (ring_after_take-of ch)) (taken_matches z address p same (after_take ch))

  -- a line in both machines
  record Both (l : ℕ) (w : Wire) (old : Line) : Type 0 where
    wire_at : slice_get s.lines l ≡ Some w
    line_at : slice_get t.lines l ≡ Some old

  line_made : (l : ℕ) (w new_wire : Wire) (old new : Line) (p : Parts) → Both l w old → SameLatchesIn x.control.parts p → new.fates ≡ old.fates → new_wire.pending ≡ w.pending → new_wire.counts ≡ w.counts →
      new_wire.bound ≡ new.bound → new_wire.offer ≡ new.offer → (block : ControlBlock) → GoesOn x.control p block →
      StandsFor (record s { blocks = slice_set s.blocks b (with_control block x); lines = slice_set s.lines l new_wire }) (record (with_block t b (record y { parts = p })) { lines = slice_set t.lines l new })
  line_made l w new_wire old new p both same fates pending counts bound offer block on =
      let pending_now : w.pending ≡ pending_in old.fates = same_at (λ (w : Wire). w.pending) (λ (x : Line). pending_in x.fates) s.lines t.lines l w old stands.lines.pending both.wire_at both.line_at in
      let counts_now : w.counts ≡ counts_of old.fates = same_at (λ (w : Wire). w.counts) (λ (x : Line). counts_of x.fates) s.lines t.lines l w old stands.lines.counts both.wire_at both.line_at in
      line_set (record s { blocks = slice_set s.blocks b (with_control block x) }) (with_block t b (record y { parts = p })) l old new new_wire (block_made p same block on) both.line_at fates bound offer
      (pending ∙ pending_now ∙ ap pending_in (sym fates)) (counts ∙ counts_now ∙ ap counts_of (sym fates))

  bind_matches : (l signal : ℕ) (p : Parts) → SameLatchesIn x.control.parts p → (o : Option Wire) (q : Option Line) → slice_get s.lines l ≡ o → slice_get t.lines l ≡ q → option_map (λ (w : Wire). w.bound) o ≡ option_map (λ (x : Line). x.bound) q →
      Matches (needs.Line (record { 0 = l })) (serve c b (binds l signal p) (as_line o)) (calls.bind_on t b y l signal p q)
  unfolding serve with_outside outside_change
  bind_matches l signal p same None None e f g = refl
  bind_matches l signal p same None (Some old) e f g = cc
  bind_matches l signal p same (Some w) None e f g = cc
  bind_matches l signal p same (Some w) (Some old) e f g =
      let offer : w.offer ≡ old.offer = same_at (λ (w : Wire). w.offer) (λ (x : Line). x.offer) s.lines t.lines l w old stands.lines.offers e f in (
        record (with_block t b (record y { parts = p })) { lines = slice_set t.lines l (record old { bound = Some (b, signal) }) },
        refl,
        line_made l w (record w { bound = Some (b, signal); route = Some c }) old (record old { bound = Some (b, signal) }) p (record { wire_at = e; line_at = f }) same refl refl refl refl offer,
      )

  give_matches : (l z rights : ℕ) (p : Parts) → SameLatchesIn x.control.parts p → (o : Option Wire) (q : Option Line) → slice_get s.lines l ≡ o → slice_get t.lines l ≡ q → option_map (λ (w : Wire). w.bound) o ≡ option_map (λ (x : Line). x.bound) q →
      Matches (needs.Line (record { 0 = l })) (serve c b (gives l z rights p) (as_line o)) (calls.give_on t b y l z rights p q)
  unfolding serve with_outside outside_change
  give_matches l z rights p same None None e f g = refl
  give_matches l z rights p same None (Some old) e f g = cc
  give_matches l z rights p same (Some w) None e f g = cc
  give_matches l z rights p same (Some w) (Some old) e f g = (
    record (with_block t b (record y { parts = p })) { lines = slice_set t.lines l (record old { bound = None; offer = Some (z, rights) }) },
    refl,
    line_made l w (record w { bound = None; offer = Some (z, rights) }) old (record old { bound = None; offer = Some (z, rights) }) p (record { wire_at = e; line_at = f }) same refl refl refl refl refl,
  )

  claimed_matches : (l slot : ℕ) (p : Parts) → SameLatchesIn x.control.parts p → (w : Wire) (old : Line) → slice_get s.lines l ≡ Some w → slice_get t.lines l ≡ Some old → (r : Option ℕ) →
      Matches (needs.Line (record { 0 = l })) (serve_claim l slot p w r) (calls.claim_rights t b y l slot p old r)
  unfolding with_outside outside_change
  claimed_matches l slot p same w old e f None = refl
  claimed_matches l slot p same w old e f (Some rights) =
      let bound : w.bound ≡ old.bound = same_at (λ (w : Wire). w.bound) (λ (x : Line). x.bound) s.lines t.lines l w old stands.lines.bindings e f in
      let q : Parts = with_claimed l slot rights p in (
        record (with_block t b (record y { parts = q })) { lines = slice_set t.lines l (record old { offer = None }) },
        refl,
        line_made l w (record w { offer = None }) old (record old { offer = None }) q (record { wire_at = e; line_at = f }) (record { there = same.there }) refl refl refl bound refl,
      )

  claim_matches : (l z slot : ℕ) (p : Parts) → SameLatchesIn x.control.parts p → (o : Option Wire) (q : Option Line) → slice_get s.lines l ≡ o → slice_get t.lines l ≡ q → option_map (λ (w : Wire). w.bound) o ≡ option_map (λ (x : Line). x.bound) q →
      Matches (needs.Line (record { 0 = l })) (serve c b (claims l z slot p) (as_line o)) (calls.claim_on t b y l z slot p q)
  unfolding serve
  claim_matches l z slot p same None None e f g = refl
  claim_matches l z slot p same None (Some old) e f g = cc
  claim_matches l z slot p same (Some w) None e f g = cc
  claim_matches l z slot p same (Some w) (Some old) e f g =
      let offer : w.offer ≡ old.offer = same_at (λ (w : Wire). w.offer) (λ (x : Line). x.offer) s.lines t.lines l w old stands.lines.offers e f in
      subst (λ r. Matches (needs.Line (record { 0 = l })) (serve_claim l slot p w r) (calls.claim_rights t b y l slot p old (rights_over z old.offer))) (ap (rights_over z) (sym offer)) (claimed_matches l slot p same w old e f (rights_over z old.offer))

  same_bounds : (l : ℕ) → option_map (λ (w : Wire). w.bound) (slice_get s.lines l) ≡ option_map (λ (x : Line). x.bound) (slice_get t.lines l)
  same_bounds l = sym (slice_get-map (λ (w : Wire). w.bound) s.lines l) ∙ ap (λ ls. slice_get ls l) stands.lines.bindings ∙ slice_get-map (λ (x : Line). x.bound) t.lines l

  rings_there : (z : ℕ) → slice_get s.channels z ≡ option_map ring_of (slice_get t.channels z)
  rings_there z = ap (λ l. slice_get l z) stands.channels ∙ slice_get-map ring_of t.channels z

  -- a latch that is taken, by where it comes from
  delivered_by : (m n i : ℕ) (p : Parts) → latch_at x.control.parts.signals i ≡ Some (line_latch m (n + 1)) → p.signals ≡ slice_set x.control.parts.signals i None → (o : Option Line) → slice_get t.lines m ≡ o → bind o (λ (x : Line). slice_get x.fates n) ≡ Some latched →
      (u : Blocks) × (calls.completed (record (with_block t b (record y { parts = p })) { lines = change (λ (x : Line). record x { fates = with_fate (suc n) delivered x.fates }) m t.lines }) ≡ calls.completed u)
      × ((new : ControlBlock) → GoesOn x.control p new → StandsFor (record s { blocks = slice_set s.blocks b (with_control new x) }) u)
  delivered_by m n i p held emptied None e g = cc
  delivered_by m n i p held emptied (Some old) e g = (
    record (with_block t b (record y { parts = p })) { lines = slice_set t.lines m (record old { fates = slice_set old.fates n delivered }) },
    ap (λ ls. calls.completed (record (with_block t b (record y { parts = p })) { lines = ls })) (change-is_set (λ (x : Line). record x { fates = with_fate (suc n) delivered x.fates }) t.lines m old e),
    taken_stands s t stands b x ws block_at console_at m n i p held emptied old e,
  )

  add_one : (n : ℕ) → suc n ≡ n + 1
  add_one n = omega arith

  takes_match : (p : Parts) (i : ℕ) (l : Latch) → latch_at x.control.parts.signals i ≡ Some l → p.signals ≡ slice_set x.control.parts.signals i None → (src : Source) (value : ℕ) → l.source ≡ src → l.value ≡ value →
      Matches needs.Nothing (served None p nothing_outside) (calls.completed (calls.delivering (with_block t b (record y { parts = p })) l l.source))
  unfolding with_outside outside_change
  takes_match p i l held emptied source.Timer value e f = (
    with_block t b (record y { parts = p }),
    ap (λ v. calls.completed (calls.delivering (with_block t b (record y { parts = p })) l v)) e,
    block_made p (timer_taken x.control.parts p i l held e emptied),
  )
  takes_match p i l held emptied (source.Line m) zero e f =
      let is : l ≡ line_latch m.0 0 = ap (λ v. record { source = v; value = l.value }) e ∙ ap (λ v. record { source = source.Line m; value = v }) f in
      absurd (stands.latches.numbered m.0 b i (ap (λ o. bind o (λ (x : blocks.Block). latch_at x.parts.signals i)) (block_seen s t stands b x ws block_at console_at) ∙ held ∙ ap Some is))
  takes_match p i l held emptied (source.Line m) (suc n) e f =
      let is : l ≡ line_latch m.0 (suc n) = ap (λ v. record { source = v; value = l.value }) e ∙ ap (λ v. record { source = source.Line m; value = v }) f in
      let held_now : latch_at x.control.parts.signals i ≡ Some (line_latch m.0 (n + 1)) = held ∙ ap Some is ∙ ap (λ k. Some (line_latch m.0 k)) (add_one n) in
      let there : signal_of t b i ≡ Some (line_latch m.0 (n + 1)) = ap (λ o. bind o (λ (x : blocks.Block). latch_at x.parts.signals i)) (block_seen s t stands b x ws block_at console_at) ∙ held_now in
      let fate : fate_at t m.0 n ≡ Some latched = (stands.latches.agree m.0 n).1 (b, i, there) in
      let r = delivered_by m.0 n i p held_now emptied (slice_get t.lines m.0) refl fate in (
        r.0,
        ap (λ v. calls.completed (calls.delivering (with_block t b (record y { parts = p })) l v)) e
            ∙ ap (λ v. calls.completed (record (with_block t b (record y { parts = p })) { lines = change (λ (x : Line). record x { fates = with_fate v delivered x.fates }) m.0 t.lines })) f
            ∙ r.1,
        r.2,
      )

  pub answers_match : (call : Call) → Keeps x.control.parts call → ((z : ℕ) (ch : Channel) → slice_get t.channels z ≡ Some ch → ch.taken ≤ length ch.messages) →
      Matches (need call) (serve c b call (outside_at s b (need call))) (calls.reply t b y call)
  unfolding serve calls.reply need outside_at with_outside outside_change
  answers_match (faults n) k rings = refl
  answers_match (waits w) k rings = refl
  answers_match (makes w p) k rings = (with_block t b (record y { parts = p }), refl, block_made p (same_signals x.control.parts p (sym k.by)))
  answers_match (takes l p) k rings = takes_match p k.by.0 l k.by.1 k.by.2 l.source l.value refl refl
  answers_match (prints w p) k rings = subst (λ o. Matches needs.Console (serve c b (prints w p) (as_console o)) (calls.print_on t b y w p)) (sym console_at) (print_matches w p (same_signals x.control.parts p (sym k.by)) (nat_lt (length ws) 65536))
  answers_match (sends z m p) k rings =
      subst (λ o. Matches (needs.Channel (record { 0 = z })) (serve c b (sends z m p) (as_channel o)) (calls.send_on t b y z p (bind (slice_get t.channels z) (λ ch. after_send ch m)))) (sym (rings_there z)) (send_matches z m p (same_signals x.control.parts p (sym k.by)) (slice_get t.channels z) (rings z))
  answers_match (receives z address p) k rings =
      subst (λ o. Matches (needs.Channel (record { 0 = z })) (serve c b (receives z address p) (as_channel o)) (calls.receive_on t b y z address p (bind (slice_get t.channels z) after_take))) (sym (rings_there z)) (receive_matches z address p (same_signals x.control.parts p (sym k.by)) (slice_get t.channels z))
  answers_match (binds l signal p) k rings = bind_matches l signal p (same_signals x.control.parts p (sym k.by)) (slice_get s.lines l) (slice_get t.lines l) refl refl (same_bounds l)
  answers_match (gives l z rights p) k rings = give_matches l z rights p (same_signals x.control.parts p (sym k.by)) (slice_get s.lines l) (slice_get t.lines l) refl refl (same_bounds l)
  answers_match (claims l z slot p) k rings = claim_matches l z slot p (same_signals x.control.parts p (sym k.by)) (slice_get s.lines l) (slice_get t.lines l) refl refl (same_bounds l)
