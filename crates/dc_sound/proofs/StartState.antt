-- Every part of soundness holds at the start.
use Rattle.std.proofs.Common.{◌≡◌, ℕ, zero, suc, ◌+◌, ◌*◌, ◌<◌, ◌≤◌, ◌^◌, List, [], ◌∷◌, true, false, Option, Some, None, refl, sym, ap, ◌∙◌, subst, arith, length, map}
use Rattle.std.specs.Prelude.{slice_get, if◌then◌else◌, replicate, count_by, sum_by, IfSome, is_some}
use Rattle.std.proofs.lemmas.List.{length-map, length-replicate}
use Rattle.std.proofs.lemmas.List.Sums.{sum_by-cons}
use Rattle.dc_base.specs.declared.commands.Order.{Order}
use Rattle.dc_base.specs.declared.commands.ScriptLine.{ScriptLine}
use Rattle.dc_base.specs.declared.images.BlockImage.{BlockImage}
use Rattle.dc_base.specs.declared.images.ChanImage.{ChanImage}
use Rattle.dc_base.specs.declared.images.CoreImage.{CoreImage}
use Rattle.dc_base.specs.declared.images.DispImage.{DispImage}
use Rattle.dc_base.specs.declared.images.Image.{Image}
use Rattle.dc_base.specs.declared.interrupts.Latch.{Latch}
use Rattle.dc_base.specs.declared.interrupts.Timer.{Timer}
use Rattle.dc_base.specs.Words.{Each, count_of}
use Rattle.dc_base.specs.Bounded.{budget, DuesWithin, DeadlinesWithin, NumbersWithin, IsCounted, IsSettled}
use Rattle.dc_base.specs.Channels.{Ring}
use Rattle.dc_base.specs.ControlBlocks.{ControlBlock, control_start}
use Rattle.dc_base.specs.KeptByBlocks.{HasShape, HasDispatchers, HasWords, HasPorts, HasReady, HasTimers, HasCaps, AllShapes, AllDispatchers, AllWords, AllPorts, AllReady, AllTimers, AllCaps}
use Rattle.dc_base.specs.KeptOutside.{KeepsRing, KeepsRings, KeepsConsole, KeepsConsoles, KeepsCounts, KeepsLines, has_cap_of_line}
use Rattle.dc_base.specs.Lines.{Wire}
use Rattle.dc_base.specs.Named.{BlockNames, WireNames, IsNamed, WaitersStand, waits_on_channel, is_channel_call, instr_of}
use Rattle.dc_base.specs.Parts.{parts_of}
use Rattle.dc_base.specs.Progress.{MailboxesFollow, PostsFit}
use Rattle.dc_base.specs.Report.{is_latch_of, latches_of}
use Rattle.dc_base.specs.ScriptForm.{IsInForm}
use Rattle.dc_base.specs.States.{State, Core, Block, Mailbox, empty, order, settings_of, block_started, idle_wire, core_start}
use Rattle.dc_base.specs.Valid.{IsValid, IsValidScript, IsValidBlock, is_given_line}
use Rattle.dc_base.proofs.EachLaws.{each_nil}
use Rattle.dc_block_sound.proofs.Forms.{each_map}
use Rattle.dc_sound.proofs.ScriptLists.{next_found, next_is_next}
use Rattle.dc_block_sound.proofs.Seats.{map_there}
use Rattle.dc_block_sound.proofs.StartControls.{start_ready, start_states, start_shape, start_dispatchers, start_words, start_ports, start_timers, start_caps, start_names, line_given}
use Rattle.dc_block_sound.proofs.StartLists.{replicate_there, first_core_there, length_cores}

-- no signal has a latch

none_latched : (l n : ℕ) → count_by (is_latch_of l) (replicate n None) ≡ 0
none_latched l zero = refl
none_latched l (suc n) = let a = sum_by-cons (λ (o : Option Latch). if is_latch_of l o then 1 else 0) None (replicate n None) in let k = none_latched l n in omega (arith, a, k)

-- the latches of line l in a block as the image gives it
latches_started : (l : ℕ) (cores : List CoreImage) (b : BlockImage) → count_by (is_latch_of l) (block_started cores b).control.parts.signals ≡ 0
unfolding control_start parts_of
latches_started l cores b = none_latched l b.signals

no_latches : (l : ℕ) (cores : List CoreImage) (bs : List BlockImage) → sum_by (λ (x : Block). count_by (is_latch_of l) x.control.parts.signals) (map (block_started cores) bs) ≡ 0
no_latches l cores [] = refl
no_latches l cores (b ∷ bs) =
    let a = sum_by-cons (λ (x : Block). count_by (is_latch_of l) x.control.parts.signals) (block_started cores b) (map (block_started cores) bs) in
    let k = no_latches l cores bs in
    let z = latches_started l cores b in
    omega (arith, a, k, z)

pub none_of_line : (l : ℕ) (cores : List CoreImage) (bs : List BlockImage) → latches_of l (map (block_started cores) bs) ≡ 0
unfolding latches_of
none_of_line l cores bs = no_latches l cores bs

-- the first dues, and no timer

first_dues : (b : BlockImage) → Each b.disps (λ d (i : DispImage). i.due < 2 ^ 32) → Each (control_start b).dues (λ d due. due < 2 ^ 32)
unfolding control_start
first_dues b h = each_map (λ (d : DispImage). d.due < 2 ^ 32) (λ due. due < 2 ^ 32) (λ (d : DispImage). d.due) (λ d k. k) b.disps h

no_timers : (b : BlockImage) → (control_start b).parts.timers ≡ []
unfolding control_start parts_of
no_timers b = refl

first_number : (b : BlockImage) → (control_start b).parts.next_timer ≡ 0
unfolding control_start parts_of
first_number b = refl

none_true : false ≡ true → ⊥
none_true e = cc

-- the counts of a line add up
abbrev KeepsCountsOf : Wire → Type 0
KeepsCountsOf w = w.counts.raised ≡ w.counts.stray + w.counts.merged + w.counts.given + w.counts.joined + count_of (is_some w.pending)

module _ (image : Image) (script : List ScriptLine) (v : IsValid image) (w : IsValidScript (settings_of image) script) where
  abbrev start : State
  start = core_start image script

  abbrev first_block : BlockImage → Block
  first_block b = block_started image.cores b

  -- what holds of each control block as the image gives it
  all_started : (P : ControlBlock → Type 0) → ((n : ℕ) (b : BlockImage) → slice_get image.blocks n ≡ Some b → IsValidBlock image n b → P (control_start b)) → Each start.blocks (λ n x. P x.control)
  unfolding core_start
  all_started P h n x e = let m = map_there first_block image.blocks n x e in subst (λ (z : Block). P z.control) (sym m.2) (h n m.0 m.1 (v.blocks n m.0 m.1))

  pub start_shapes : AllShapes start
  start_shapes = all_started HasShape (λ n b e h. start_shape image n b h)

  pub start_all_dispatchers : AllDispatchers start
  start_all_dispatchers = all_started HasDispatchers (λ n b e h. start_dispatchers image n b h)

  pub start_all_words : AllWords start
  start_all_words = all_started HasWords (λ n b e h. start_words image n b h)

  pub start_all_ports : AllPorts start
  start_all_ports = all_started HasPorts (λ n b e h. start_ports image n b h)

  pub start_all_ready : AllReady start
  start_all_ready = all_started HasReady (λ n b e h. start_ready b)

  pub start_all_timers : AllTimers start
  start_all_timers = all_started HasTimers (λ n b e h. start_timers image n b h)

  pub start_all_caps : AllCaps start
  start_all_caps = all_started HasCaps (λ n b e h. start_caps image n b h)

  -- each dispatcher is ready, so none waits
  stands_at_start : (b : BlockImage) → Each (control_start b).states (λ d state. waits_on_channel state ≡ true → is_channel_call (instr_of (control_start b).parts d) ≡ true)
  stands_at_start b d state e k = absurd (none_true (ap waits_on_channel (sym (start_states b d state e)) ∙ k))

  pub start_waiters : WaitersStand start
  start_waiters = all_started (λ x. Each x.states (λ d state. waits_on_channel state ≡ true → is_channel_call (instr_of x.parts d) ≡ true)) (λ n b e h. stands_at_start b)

  -- names

  channels_are : length start.channels ≡ length image.channels
  unfolding core_start
  channels_are = length-map image.channels (λ (c : ChanImage). record { capacity = c.capacity; untaken = []; sent = 0; taken = 0 })

  lines_are : length start.lines ≡ image.lines
  unfolding core_start
  lines_are = length-replicate image.lines idle_wire

  idle : Each start.lines (λ l u. u ≡ idle_wire)
  unfolding core_start
  idle l u e = replicate_there image.lines idle_wire l u e

  idle_names : WireNames start idle_wire
  idle_names = record { bound = tt; route = tt; offer = tt }

  pub start_named : IsNamed start
  start_named = record {
    blocks = all_started (BlockNames start) (λ n b e h. start_names image n b h start channels_are lines_are);
    wires = λ l u e. subst (WireNames start) (sym (idle l u e)) idle_names;
  }

  -- channels, consoles and lines

  pub start_rings : KeepsRings start
  unfolding core_start
  start_rings y r e =
      let m = map_there (λ (c : ChanImage). record { capacity = c.capacity; untaken = []; sent = 0; taken = 0 }) image.channels y r e in
      let first : KeepsRing (record { capacity = m.0.capacity; untaken = []; sent = 0; taken = 0 }) = record { sent = refl; room = omega arith; messages = each_nil _ } in
      subst KeepsRing (sym m.2) first

  pub start_consoles : KeepsConsoles start
  unfolding core_start
  start_consoles b ws e =
      let m = map_there {B = List ℕ} (λ (b : BlockImage). []) image.blocks b ws e in
      let first : KeepsConsole [] = record { room = omega arith; words = each_nil _ } in
      subst KeepsConsole (sym m.2) first

  pub start_counts : KeepsCounts start
  start_counts l u e = let same = idle l u e in idle_adds u same
    where
      idle_adds : (u : Wire) → u ≡ idle_wire → KeepsCountsOf u
      idle_adds u same = subst KeepsCountsOf (sym same) refl

  -- the blocks that have a line are given it by the image
  given_block : (l n : ℕ) (x : Block) → slice_get start.blocks n ≡ Some x → has_cap_of_line l x.control ≡ true → (b : BlockImage) × (slice_get image.blocks n ≡ Some b) × (is_given_line l b ≡ true)
  unfolding core_start
  given_block l n x e h =
      let m = map_there first_block image.blocks n x e in
      (m.0, m.1, line_given m.0 l (ap (λ (z : Block). has_cap_of_line l z.control) (sym m.2) ∙ h))

  pub start_lines : KeepsLines start
  start_lines = record {
    one = λ l b c x y e f g h. (let p = given_block l b x e g in let q = given_block l c y f h in v.lines_differ l b c p.0 q.0 p.1 q.1 p.2 q.2);
    none = λ l u e o. absurd (none_true (ap (λ (z : Wire). is_some z.offer) (sym (idle l u e)) ∙ o));
    rights = λ l u e. subst (λ (z : Wire). IfSome z.offer (λ (o : ℕ × ℕ). o.1 ≤ 7)) (sym (idle l u e)) tt;
    pending = λ l u e. subst (λ (z : Wire). IfSome z.pending (λ n. n ≤ z.counts.raised)) (sym (idle l u e)) tt;
  }

  -- mailboxes and the script

  all_empty : Each start.mailboxes (λ c m. m ≡ empty)
  unfolding core_start
  all_empty c m e = (map_there {B = Mailbox} (λ (c : CoreImage). empty) image.cores c m e).2

  pub start_mailboxes : MailboxesFollow start
  unfolding core_start
  start_mailboxes c m e = all_empty c m e

  pub start_posts : PostsFit start
  start_posts c o k e f = absurd (no_order o (sym (all_empty c (order o) e)))
    where
      no_order : (o : Order) → empty ≡ order o → ⊥
      no_order o e = cc

  pub start_in_form : IsInForm start
  unfolding core_start
  start_in_form = record {
    at_command = next_is_next script 0;
    raises = omega arith;
    posts = record { command = λ h. absurd (omega (arith, h)); posted = omega arith };
    raises_before = λ q r l e c u h. absurd (let a = (next_found script 0).first q l e c (omega arith) in omega (arith, a, u));
    commands_before = λ k r h e. absurd (omega (arith, h));
  }

  -- bounds

  pub start_dues : DuesWithin start
  start_dues = all_started (λ x. Each x.dues (λ d due. due < 2 ^ 62 + budget start * 2 ^ 16)) (λ n b e h d due f. (let k = first_dues b (λ i x g. (h.disps i x g).due) d due f in omega (arith, k)))

  pub start_deadlines : DeadlinesWithin start
  unfolding core_start
  start_deadlines b x e i t f =
      let m = map_there first_block image.blocks b x e in
      let none : x.control.parts.timers ≡ [] = ap (λ (z : Block). z.control.parts.timers) m.2 ∙ no_timers m.0 in
      absurd (each_nil {A = Timer} (λ i t. ⊥) i t (subst (λ ts. slice_get ts i ≡ Some t) none f))

  pub start_numbers : NumbersWithin start
  start_numbers = all_started (λ x. x.parts.next_timer ≤ 2 ^ 31 + budget start) (λ n b e h. (let z = first_number b in omega (arith, z)))

  pub start_counted : IsCounted start
  unfolding core_start
  start_counted = record {
    used = λ c k e. (let m = first_core_there (settings_of image) image.blocks image.cores c k e in let same : k.used ≡ 0 = ap (λ (z : Core). z.used) m.2 in omega (arith, same));
    sent = λ y r e. (let m = map_there (λ (c : ChanImage). record { capacity = c.capacity; untaken = []; sent = 0; taken = 0 }) image.channels y r e in let same : r.sent ≡ 0 = ap (λ (z : Ring). z.sent) m.2 in omega (arith, same));
    raised = λ l u e. (let same : u.counts.raised ≡ 0 = ap (λ (z : Wire). z.counts.raised) (replicate_there image.lines idle_wire l u e) in omega (arith, same));
    given = λ l u e. (let z = none_of_line l image.cores image.blocks in omega (arith, z));
  }

  pub start_settled : IsSettled start
  unfolding core_start
  start_settled = record {
    same = λ c k e. (let m = first_core_there (settings_of image) image.blocks image.cores c k e in ap (λ (z : Core). z.settings) m.2);
    limits = v.limits;
    cores = length_cores (settings_of image) 0 image.blocks image.cores;
    blocks = length-map image.blocks first_block;
    channels = length-map image.channels (λ (c : ChanImage). record { capacity = c.capacity; untaken = []; sent = 0; taken = 0 });
    lines = length-replicate image.lines idle_wire;
    mailboxes = length-map {B = Mailbox} image.cores (λ (c : CoreImage). empty);
    consoles = length-map {B = List ℕ} image.blocks (λ (b : BlockImage). []);
    script = w.most;
    within = w.lines;
  }
