-- Channels and consoles stay in form.
use Rattle.std.proofs.Common.{◌≡◌, ℕ, suc, ◌+◌, ◌<◌, ◌^◌, List, [], ◌∷◌, ◌++◌, Bool, true, false, Some, None, refl, sym, ap, subst, arith, length}
use Rattle.std.specs.Prelude.{nat_lt, if◌then◌else◌}
use Rattle.std.proofs.lemmas.List.{length-append}
use Rattle.dc_base.specs.declared.entries.Entry.{Entry}
use Rattle.dc_base.specs.declared.messages.Message.{Message}
use Rattle.dc_base.specs.Words.{Each}
use Rattle.dc_base.specs.Changes.{Change, apply}
use Rattle.dc_base.specs.Channels.{Ring, ring_after_send, ring_after_take, ring_without_first}
use Rattle.dc_base.specs.ControlBlocks.{ControlBlock}
use Rattle.dc_base.specs.KeptByBlocks.{HasShape, HasWords, IsMessage, AllShapes, AllWords}
use Rattle.dc_base.specs.KeptOutside.{KeepsRing, KeepsRings, KeepsConsole, KeepsConsoles}
use Rattle.dc_base.specs.Named.{BlockNames, IsNamed}
use Rattle.dc_base.specs.Slices.{Halfway, stopped, stands}
use Rattle.dc_base.specs.States.{State}
use Rattle.dc_base.proofs.EachLaws.{each-append}
use Rattle.dc_sound.proofs.BlockParts.{keeps_both}
use Rattle.dc_sound.proofs.BlockWords.{PendingShort, ShapeAndNames, keeps_words, read_message}
use Rattle.dc_block_sound.proofs.Calls.{CallFits, IsRead, IsRegister}
use Rattle.dc_block_sound.proofs.ControlSteps.{Steps, kept_along, kept_by}
use Rattle.dc_sound.proofs.EntryKinds.{Kind, IsSlice}
use Rattle.dc_sound.proofs.Leaves.{Leaves, fine_kind}
use Rattle.dc_block_sound.proofs.PlainMoves.{lt_true, index_word}
use Rattle.dc_sound.proofs.Rules.{Rule, no_rule, Obeys, kept}
use Rattle.dc_sound.proofs.SliceFacts.{HalfLaws}
use Rattle.dc_block_sound.proofs.Walks.{HalfFits}
use Rattle.dc_sound.proofs.SliceWalks.{slice_half}

-- a channel with one message more, and with one less

sent_by : (r new : Ring) (m : Message) → KeepsRing r → IsMessage m → (t : Bool) → nat_lt (length r.untaken) r.capacity ≡ t → (if t then Some (record r { untaken = r.untaken ++ m ∷ []; sent = r.sent + 1 }) else None) ≡ Some new → KeepsRing new
sent_by r new m h f true q e =
    let same : record r { untaken = r.untaken ++ m ∷ []; sent = r.sent + 1 } ≡ new = cc in
    let l = length-append r.untaken (m ∷ []) in let s = h.sent in let t = lt_true _ _ q in
    subst KeepsRing same (record { sent = omega (arith, l, s); room = omega (arith, l, t); messages = each-append (λ i m. IsMessage m) r.untaken m h.messages f })
sent_by r new m h f false q e = absurd cc

sent_ring : (r new : Ring) (m : Message) → KeepsRing r → IsMessage m → ring_after_send r m ≡ Some new → KeepsRing new
unfolding ring_after_send
sent_ring r new m h f e = sent_by r new m h f (nat_lt (length r.untaken) r.capacity) refl e

taken_by : (r : Ring) (got : Message × Ring) → KeepsRing r → (ms : List Message) → r.untaken ≡ ms → ring_without_first r ms ≡ Some got → KeepsRing got.1
taken_by r got h [] q e = absurd cc
taken_by r got h (m ∷ ms) q e =
    let made : Message × Ring = (m, record r { untaken = ms; taken = r.taken + 1 }) in
    let pair : made ≡ got = cc in
    let l : length r.untaken ≡ suc (length ms) = ap length q in let s = h.sent in let t = h.room in
    let all = subst (λ ms. Each ms (λ i m. IsMessage m)) q h.messages in
    subst (λ (g : Message × Ring). KeepsRing g.1) pair (record { sent = omega (arith, l, s); room = omega (arith, l, t); messages = λ i n f. all (suc i) n f })

taken_ring : (r : Ring) (got : Message × Ring) → KeepsRing r → ring_after_take r ≡ Some got → KeepsRing got.1
unfolding ring_after_take
taken_ring r got h e = taken_by r got h r.untaken refl e

abbrev pub ring_rule : Rule
ring_rule = record no_rule { channel = λ x r. KeepsRing r }

-- no line is claimed before the call
abbrev pub no_claim : ℕ → Type 0
no_claim l = ⊥

module _ (s : State) (chs : List Change) (e : Entry) (p : KeepsRings s) (words : AllWords s) (shapes : AllShapes s) (named : IsNamed s) (pending : PendingShort s) where
  rings_obeyed : Obeys ring_rule s
  rings_obeyed = record { cores = λ c k e. tt; blocks = λ b x e. tt; channels = p; lines = λ l w e. tt; mailboxes = λ c m e. tt; consoles = λ b ws e. tt; script = tt }

  -- a message that is sent is read from words of the block
  sent_message : (d : ℕ) (x y : ControlBlock) → HasShape x → BlockNames s x → HasWords x → Steps s d no_claim x y → (m : Message) → IsRead y m → IsMessage m
  sent_message d x y shape names h st m r =
      let both = kept_by s d no_claim (ShapeAndNames s) (keeps_both s d no_claim) x y st (shape, names) in
      let w = kept_along s d no_claim (ShapeAndNames s) HasWords (keeps_both s d no_claim) (keeps_words s p pending d no_claim) x y st (shape, names) h in
      read_message s y both.0 both.1 w m r

  rings_half : (c b d : ℕ) (x : ControlBlock) → HasShape x → BlockNames s x → HasWords x → (h : Halfway) → HalfFits s d no_claim x h → HalfLaws ring_rule s c b h
  rings_half c b d x shape names words (stopped y ran e) f = tt
  rings_half c b d x shape names words (stands y ran o call) f = record {
    prints_to = λ w p ws q h i. tt;
    sends_to = λ z m q r new g h i. (let fits = subst (CallFits s no_claim y d) g f.1 in sent_ring r new m (p z r h) (sent_message d x y shape names words f.0 m fits.1) i);
    takes_from = λ z a q r got g h i. taken_ring r got (p z r h) i;
    binds_to = λ l n p w q h. tt;
    gives_over = λ l x rights p w q h. tt;
    claims_it = λ l x slot rights p w q h i. tt;
  }

  rings_slice : (i : IsSlice s chs e) → HalfLaws ring_rule s i.c i.b i.h
  rings_slice i =
      let at = i.turn.block_at in
      rings_half i.c i.b i.d i.x.control (shapes i.b i.x at) (named.blocks i.b i.x at) (words i.b i.x at) i.h (slice_half s chs e i no_claim)

  rings_leaves : Leaves ring_rule s chs e
  rings_leaves = record {
    slice = λ i. (tt, tt, rings_slice i);
    slice_none = λ i. (tt, tt);
    idle = λ i. tt;
    wake = λ i. (tt, tt);
    intake = λ i. (tt, tt);
    start = λ i. (tt, tt);
    stop = λ i. (tt, tt, λ b x q. tt);
    replace = λ i. (tt, tt, λ b x q. tt);
    adopt = λ i. (tt, tt, tt);
    release = λ i. (tt, tt, tt);
    emptied = λ c. tt;
    post = λ i. (tt, tt);
    done = λ i. tt;
    refused = λ i. tt;
    route = λ i. (tt, tt);
    awaited = λ i. tt;
    raise = λ i. (tt, tt);
  }

  -- each entry keeps the channels in form
  pub rings_kept : Kind s chs e → KeepsRings (apply s chs)
  rings_kept k = (kept ring_rule chs s (fine_kind ring_rule s chs e rings_leaves rings_obeyed k) rings_obeyed).channels

-- consoles

abbrev pub console_rule : Rule
console_rule = record no_rule { console = λ b ws. KeepsConsole ws }

printed_console : (ws : List ℕ) (w : ℕ) → KeepsConsole ws → w < 2 ^ 32 → nat_lt (length ws) 65536 ≡ true → KeepsConsole (ws ++ w ∷ [])
printed_console ws w h f q = let l = length-append ws (w ∷ []) in let t = lt_true _ _ q in record { room = omega (arith, l, t); words = each-append (λ i w. w < 2 ^ 32) ws w h.words f }

module _ (s : State) (chs : List Change) (e : Entry) (p : KeepsConsoles s) (words : AllWords s) (shapes : AllShapes s) (named : IsNamed s) (rings : KeepsRings s) (pending : PendingShort s) where
  consoles_obeyed : Obeys console_rule s
  consoles_obeyed = record { cores = λ c k e. tt; blocks = λ b x e. tt; channels = λ x r e. tt; lines = λ l w e. tt; mailboxes = λ c m e. tt; consoles = p; script = tt }

  printed_word : (d : ℕ) (x y : ControlBlock) → HasShape x → BlockNames s x → HasWords x → Steps s d no_claim x y → (w : ℕ) → IsRegister y d w → w < 2 ^ 32
  printed_word d x y shape names h st w r =
      let new = kept_along s d no_claim (ShapeAndNames s) HasWords (keeps_both s d no_claim) (keeps_words s rings pending d no_claim) x y st (shape, names) h in
      subst (λ v. v < 2 ^ 32) (sym r.3) (index_word r.0.regs r.1 (new.regs d r.0 r.2))

  consoles_half : (c b d : ℕ) (x : ControlBlock) → HasShape x → BlockNames s x → HasWords x → (h : Halfway) → HalfFits s d no_claim x h → HalfLaws console_rule s c b h
  consoles_half c b d x shape names words (stopped y ran e) f = tt
  consoles_half c b d x shape names words (stands y ran o call) f = record {
    prints_to = λ w q ws g h i. (let fits = subst (CallFits s no_claim y d) g f.1 in printed_console ws w (p b ws h) (printed_word d x y shape names words f.0 w fits.0) i);
    sends_to = λ z m q r new g h i. tt;
    takes_from = λ z a q r got g h i. tt;
    binds_to = λ l n p w q h. tt;
    gives_over = λ l x rights p w q h. tt;
    claims_it = λ l x slot rights p w q h i. tt;
  }

  consoles_slice : (i : IsSlice s chs e) → HalfLaws console_rule s i.c i.b i.h
  consoles_slice i =
      let at = i.turn.block_at in
      consoles_half i.c i.b i.d i.x.control (shapes i.b i.x at) (named.blocks i.b i.x at) (words i.b i.x at) i.h (slice_half s chs e i no_claim)

  consoles_leaves : Leaves console_rule s chs e
  consoles_leaves = record {
    slice = λ i. (tt, tt, consoles_slice i);
    slice_none = λ i. (tt, tt);
    idle = λ i. tt;
    wake = λ i. (tt, tt);
    intake = λ i. (tt, tt);
    start = λ i. (tt, tt);
    stop = λ i. (tt, tt, λ b x q. tt);
    replace = λ i. (tt, tt, λ b x q. tt);
    adopt = λ i. (tt, tt, tt);
    release = λ i. (tt, tt, tt);
    emptied = λ c. tt;
    post = λ i. (tt, tt);
    done = λ i. tt;
    refused = λ i. tt;
    route = λ i. (tt, tt);
    awaited = λ i. tt;
    raise = λ i. (tt, tt);
  }

  -- each entry keeps the consoles in form
  pub consoles_kept : Kind s chs e → KeepsConsoles (apply s chs)
  consoles_kept k = (kept console_rule chs s (fine_kind console_rule s chs e consoles_leaves consoles_obeyed k) consoles_obeyed).consoles
