-- The end of a slice: what both machines come to, before the clocks go on.
use Rattle.std.proofs.Common.{◌≡◌, ℕ, ◌<◌, ◌≤◌, List, [], ◌∷◌, length, Bool, true, false, Option, Some, None, refl, sym, ap, ◌∙◌, subst, map, arith, rules}
use Rattle.std.specs.Prelude.{slice_get, slice_set, max, nat_lt, ◌==◌, ◌||◌}
use Rattle.std.specs.Option.{option_map}
use Rattle.std.proofs.lemmas.List.{map-set, set-set}
use Rattle.std.proofs.lemmas.Option.{slice_get-map}
use Rattle.std.proofs.lemmas.Bool.Decides.{nat_tests}
use Rattle.std.proofs.lemmas.Bool.{or_right}
use Rattle.dc_base.specs.declared.dispatchers.DispState.{DispState}
use Rattle.dc_base.specs.declared.dispatchers.DispState.TheVariants as disp
use Rattle.dc_base.specs.declared.instructions.Instr.{Instr}
use Rattle.dc_base.specs.declared.calls.Op.{Op}
use Rattle.dc_base.specs.declared.dispatchers.Wait.{Wait}
use Rattle.dc_base.specs.declared.kernels.Version.{Version}
use Rattle.dc_base.specs.declared.kernels.Version.TheVariants as version
use Rattle.dc_base.specs.Channels.{Channel}
use Rattle.dc_base.specs.Kernel.{call_of}
use Rattle.dc_base.specs.Blocks.{Blocks, Life, live, halted, trapped, Event, instr, with_life}
use Rattle.dc_base.specs.Blocks as blocks
use Rattle.dc_base.specs.ControlBlocks.{ControlBlock}
use Rattle.dc_base.specs.States.{State, Block, with_control, time_of}
use Rattle.dc_base.specs.Slices.{Sliced, need_of, slice_end, after_served, after_ahead, with_ahead, with_due, due_after, with_state, ready_last}
use Rattle.dc_base.specs.Shown.{life_of}
use Rattle.dc_base.specs.StandsFor.{StandsFor}
use Rattle.dc_base.specs.StrikeOut.{end_events}
use Rattle.dc_base.specs.Effects.{Context, act}
use Rattle.dc_base.specs.Ahead.{Ahead, AheadEnd, at_quantum, at_halt, at_trap, at_call}
use Rattle.dc_base.specs.declared.calls.Need.{Need}
use Rattle.dc_base.specs.BlockCalls.{Reply, reply}
use Rattle.dc_base.specs.Serving.{need, Served, faulted, held_up, served, serve}
use Rattle.dc_base.specs.Firing.{wake_if, wake}
use Rattle.dc_base.specs.NeededLooks.{outside_change}
use Rattle.dc_base.specs.SliceColumns.{SliceColumns, end_agrees, advance_of}
use Rattle.dc_refine.proofs.Elements.{slice_set-same, slice_get-set_same}
use Rattle.dc_refine.proofs.Leads.{Leads, leads_none, with_block, IsAt}
use Rattle.dc_refine.proofs.Going.{with_end, StopsAt}
use Rattle.dc_refine.proofs.Ends.{move_there-is, leads_trap, leads_refused, leads_made, holds_there}
use Rattle.dc_refine.proofs.Stands.{plain, set_alone, block_seen, SameLatchesIn}
use Rattle.dc_refine.proofs.Fires.{lives_after_wake}
use Rattle.dc_refine.proofs.Calls.{call_keeps, IsHighServed, serve_high}
use Rattle.dc_refine.proofs.Replies.{Matches, answers_match}
use Rattle.dc_refine.proofs.TakeLine.{GoesOn}
use Rattle.dc_refine.proofs.Outside.{outside_at, with_outside, outside_same, with_outside_same}

-- the due changes nothing that both machines keep
pub due_parts : (v : Version) (d : ℕ) (x : ControlBlock) → (due_after v d x).parts ≡ x.parts
due_parts version.Rr d x = refl
due_parts version.Edf d x = refl

pub due_states : (v : Version) (d : ℕ) (x : ControlBlock) → (due_after v d x).states ≡ x.states
due_states version.Rr d x = refl
due_states version.Edf d x = refl

-- those that wake change no life and no part
pub lives_woken : (w : Option Wait) (x : ControlBlock) → map life_of (wake_if w x).states ≡ map life_of x.states
unfolding wake
lives_woken None x = refl
lives_woken (Some w) x = lives_after_wake w x.states

pub parts_woken : (w : Option Wait) (x : ControlBlock) → (wake_if w x).parts ≡ x.parts
unfolding wake
parts_woken None x = refl
parts_woken (Some w) x = refl

same_number : (n : ℕ) → n == n ≡ true
same_number n = search rules

below_test : (n m : ℕ) → n < m → nat_lt n m ≡ true
below_test n m h = grind (arith, nat_tests)

max_one : (n : ℕ) → 0 < max n 1
max_one n = omega arith

module _ (s : State) (t : Blocks) (stands : StandsFor s t) (b d c q : ℕ) (v : Version) (x : Block) (ws : List ℕ) (block_at : slice_get s.blocks b ≡ Some x) (console_at : slice_get s.consoles b ≡ Some ws)
    (x0 : ControlBlock) (latches : SameLatchesIn x.control.parts x0.parts)
    (code : List ℕ) (is_ready : slice_get x0.states d ≡ Some disp.Ready) (code_at : slice_get x0.parts.code d ≡ Some code) (ctx : Context) (context_at : slice_get x0.parts.contexts d ≡ Some ctx) where
  abbrev pub time : ℕ
  time = time_of s.cores x.whereabouts

  abbrev pub y0 : blocks.Block
  y0 = plain time ws x0

  pub first_at : IsAt y0 d code ctx
  first_at = record { life = slice_get-map life_of x0.states d ∙ ap (option_map life_of) is_ready; code_at = code_at; context_at = context_at }

  -- the block after its plain part
  abbrev pub x1 : Ahead → ControlBlock
  x1 a = with_ahead x0 d a

  abbrev pub y1 : Ahead → blocks.Block
  y1 a = plain time ws (x1 a)

  abbrev pub t1 : Ahead → Blocks
  t1 a = with_block t b (y1 a)

  there_after : (z : blocks.Block) → slice_get (with_block t b z).blocks b ≡ Some z
  there_after z = slice_get-set_same t.blocks b (plain time ws x.control) z (block_seen s t stands b x ws block_at console_at)

  at_stop : (a : Ahead) → IsAt (y1 a) d code a.context
  at_stop a = record { life = first_at.life; code_at = code_at; context_at = slice_get-set_same x0.parts.contexts d ctx a.context context_at }

  -- what the slice comes to, by the end of its plain part
  abbrev pub sliced_by : Ahead → AheadEnd → Sliced
  sliced_by a e = slice_end c b v d (after_ahead time x0 d a e) (outside_at s b (need_of (after_ahead time x0 d a e)))

  -- the columns that the slice shows
  abbrev pub columns_of : Sliced → ℕ → ℕ → SliceColumns
  columns_of sl fired clock = record { block = b; dispatcher = d; fired = fired; ran = sl.ran; end = sl.end; clock = clock }

  pub record EndsIn (sl : Sliced) (z : blocks.Block) (n : ℕ) : Type 0 where
    pub ran : sl.ran ≡ n
    pub last : Blocks
    pub leads : Leads (with_block t b z) (end_events b d sl.end) last
    pub stands_last : StandsFor (with_outside b sl.need sl.outside (record s { blocks = slice_set s.blocks b (with_control sl.control x) })) last
    pub agrees : (fired clock : ℕ) → end_agrees q (columns_of sl fired clock) (with_block t b z) sl.end ≡ true
    pub within : sl.ran ≤ q
    pub moved : advance_of sl.ran sl.end ≡ sl.advance
    pub goes : 0 < sl.advance

  -- a stop: the block keeps the parts after its plain part, and dispatcher d is in a state
  module _ (a : Ahead) (state : DispState) (xb : ControlBlock) (parts : xb.parts ≡ (x1 a).parts) (states : xb.states ≡ slice_set x0.states d state) where
    plain_new : plain time ws (due_after v d xb) ≡ record (y1 a) { lives = slice_set (y1 a).lives d (life_of state) }
    plain_new =
        ap (λ p. record { parts = p; lives = map life_of (due_after v d xb).states; clock = time; output = ws }) (due_parts v d xb ∙ parts)
        ∙ ap (λ l. record { parts = (x1 a).parts; lives = map life_of l; clock = time; output = ws }) (due_states v d xb ∙ states)
        ∙ ap (λ l. record { parts = (x1 a).parts; lives = l; clock = time; output = ws }) (map-set life_of x0.states d state)

    stop_latches : SameLatchesIn x.control.parts (due_after v d xb).parts
    stop_latches = subst (λ p. SameLatchesIn x.control.parts p) (sym (due_parts v d xb ∙ parts)) (record { there = latches.there })

    pub stop_stands : StandsFor (record s { blocks = slice_set s.blocks b (with_control (due_after v d xb) x) }) (with_block t b (record (y1 a) { lives = slice_set (y1 a).lives d (life_of state) }))
    stop_stands = subst (λ z. StandsFor (record s { blocks = slice_set s.blocks b (with_control (due_after v d xb) x) }) (with_block t b z)) plain_new (set_alone s t stands b x ws block_at console_at (due_after v d xb) stop_latches)

  -- set twice
  twice : (z u : blocks.Block) → with_block (with_block t b z) b u ≡ with_block t b u
  twice z u = ap (λ l. record t { blocks = l }) (set-set t.blocks b z u)

  -- dispatcher d stays live
  live_again : (a : Ahead) (state : DispState) → life_of state ≡ live → record (y1 a) { lives = slice_set (y1 a).lives d (life_of state) } ≡ y1 a
  live_again a state e = ap (λ l. record (y1 a) { lives = slice_set (y1 a).lives d l }) e ∙ ap (λ l. record (y1 a) { lives = l }) (slice_set-same (y1 a).lives d live first_at.life)

  ready_kept : slice_set x0.states d disp.Ready ≡ x0.states
  ready_kept = slice_set-same x0.states d disp.Ready is_ready

  pub quantum_ends : (a : Ahead) → StopsAt q a.ran (act time code a.context a.memory) at_quantum → EndsIn (sliced_by a at_quantum) (with_end (y1 a) d at_quantum) a.ran
  unfolding with_outside outside_change slice_end
  quantum_ends a stop = record {
    ran = refl;
    last = t1 a;
    leads = leads_none (t1 a);
    stands_last = subst (λ z. StandsFor (record s { blocks = slice_set s.blocks b (with_control (due_after v d (ready_last d (x1 a))) x) }) (with_block t b z)) (live_again a disp.Ready refl)
        (stop_stands a disp.Ready (ready_last d (x1 a)) refl (sym ready_kept));
    agrees = λ fired clock. rw (stop.0, same_number q, move_there-is (t1 a) b d (y1 a) code a.context (there_after (y1 a)) (at_stop a), stop.1);
    within = omega (arith, stop.0);
    moved = refl;
    goes = max_one a.ran;
  }

  pub halt_ends : (a : Ahead) → StopsAt q a.ran (act time code a.context a.memory) at_halt → EndsIn (sliced_by a at_halt) (with_end (y1 a) d at_halt) a.ran
  unfolding with_outside outside_change slice_end
  halt_ends a stop =
      let z : blocks.Block = with_life (y1 a) d halted in
      let life : slice_get z.lives d ≡ Some halted = slice_get-set_same (y1 a).lives d live halted first_at.life in
      record {
        ran = refl;
        last = with_block t b z;
        leads = leads_none (with_block t b z);
        stands_last = stop_stands a disp.Halted (with_state d disp.Halted (x1 a)) refl refl;
        agrees = λ fired clock. rw (below_test 0 a.ran stop.0, there_after z, life);
        within = stop.1;
        moved = refl;
        goes = max_one a.ran;
      }

  pub trap_ends : (a : Ahead) (n : ℕ) → StopsAt q a.ran (act time code a.context a.memory) (at_trap n) → EndsIn (sliced_by a (at_trap n)) (with_end (y1 a) d (at_trap n)) a.ran
  unfolding with_outside outside_change slice_end
  trap_ends a n stop =
      let z : blocks.Block = with_life (y1 a) d (trapped n) in
      record {
        ran = refl;
        last = with_block t b z;
        leads = subst (λ u. Leads (t1 a) (blocks.trap b d n ∷ []) u) (twice (y1 a) z) (leads_trap (t1 a) b d (y1 a) code a.context (there_after (y1 a)) (at_stop a) n stop.1);
        stands_last = stop_stands a (disp.Trapped n) (with_state d (disp.Trapped n) (x1 a)) refl refl;
        agrees = λ fired clock. or_right (nat_lt 3 n) (nat_lt a.ran q) (below_test a.ran q stop.0);
        within = omega (arith, stop.0);
        moved = refl;
        goes = max_one a.ran;
      }

  -- after the plain part
  first_stands : (a : Ahead) → StandsFor (record s { blocks = slice_set s.blocks b (with_control (x1 a) x) }) (t1 a)
  first_stands a = set_alone s t stands b x ws block_at console_at (x1 a) (record { there = latches.there })

  module _ (a : Ahead) (o : Op) (i : Instr) (stop : StopsAt q a.ran (act time code a.context a.memory) (at_call o i)) where
    by_answer : (r : Served) (u : Reply) → reply (t1 a) b (y1 a) (call_of time d a.context i (x1 a).parts) ≡ u →
        IsHighServed r →
        Matches (record s { blocks = slice_set s.blocks b (with_control (x1 a) x) }) (t1 a) (first_stands a) b c (with_control (x1 a) x) ws (slice_get-set_same s.blocks b x (with_control (x1 a) x) block_at) console_at (need (call_of time d a.context i (x1 a).parts)) r u →
        EndsIn (with_due v d (after_served (x1 a) d a.ran o (need (call_of time d a.context i (x1 a).parts)) (outside_at s b (need (call_of time d a.context i (x1 a).parts))) r)) (y1 a) a.ran
    by_answer (faulted n) u e big m =
        let z : blocks.Block = with_life (y1 a) d (trapped n) in
        let nd : Need = need (call_of time d a.context i (x1 a).parts) in
        record {
          ran = refl;
          last = with_block t b z;
          leads = subst (λ u. Leads (t1 a) (blocks.trap b d n ∷ []) u) (twice (y1 a) z) (leads_refused (t1 a) b d (y1 a) code a.context (there_after (y1 a)) (at_stop a) o i stop.1 n (e ∙ m));
          stands_last = subst (λ m. StandsFor m (with_block t b z)) (sym (with_outside_same s b (slice_set s.blocks b (with_control (due_after v d (with_state d (disp.Trapped n) (x1 a))) x)) nd))
              (stop_stands a (disp.Trapped n) (with_state d (disp.Trapped n) (x1 a)) refl refl);
          agrees = λ fired clock. rw big refl;
          within = stop.0;
          moved = refl;
          goes = max_one a.ran;
        }
    by_answer (held_up w) u e big m =
        let nd : Need = need (call_of time d a.context i (x1 a).parts) in
        record {
          ran = refl;
          last = t1 a;
          leads = leads_none (t1 a);
          stands_last = subst (λ m. StandsFor m (t1 a)) (sym (with_outside_same s b (slice_set s.blocks b (with_control (due_after v d (with_state d (disp.Waits w) (x1 a))) x)) nd))
              (subst (λ z. StandsFor (record s { blocks = slice_set s.blocks b (with_control (due_after v d (with_state d (disp.Waits w) (x1 a))) x) }) (with_block t b z)) (live_again a (disp.Waits w) refl)
              (stop_stands a (disp.Waits w) (with_state d (disp.Waits w) (x1 a)) refl refl));
          agrees = λ fired clock. holds_there (t1 a) b d (y1 a) code a.context (there_after (y1 a)) (at_stop a) o i stop.1 (e ∙ m);
          within = stop.0;
          moved = refl;
          goes = max_one a.ran;
        }
    by_answer (served w p out) u e big m =
        let nd : Need = need (call_of time d a.context i (x1 a).parts) in
        let xb : ControlBlock = ready_last d (wake_if w (record (x1 a) { parts = p })) in
        let goes_on : GoesOn (x1 a) p (due_after v d xb) = record {
          parts = due_parts v d xb ∙ parts_woken w (record (x1 a) { parts = p });
          lives = ap (map life_of) (due_states v d xb) ∙ lives_woken w (record (x1 a) { parts = p });
        } in
        record {
          ran = refl;
          last = m.0;
          leads = leads_made (t1 a) b d (y1 a) code a.context (there_after (y1 a)) (at_stop a) o i stop.1 m.0 (e ∙ m.1);
          stands_last = subst (λ l. StandsFor (with_outside b nd out (record s { blocks = l })) m.0) (set-set s.blocks b (with_control (x1 a) x) (with_control (due_after v d xb) x)) (m.2 (due_after v d xb) goes_on);
          agrees = λ fired clock. refl;
          within = stop.0;
          moved = refl;
          goes = omega arith;
        }

    pub call_ends : ((z : ℕ) (ch : Channel) → slice_get t.channels z ≡ Some ch → ch.taken ≤ length ch.messages) →
        EndsIn (sliced_by a (at_call o i)) (with_end (y1 a) d (at_call o i)) a.ran
    unfolding slice_end
    call_ends rings =
        let nd : Need = need (call_of time d a.context i (x1 a).parts) in
        by_answer (serve c b (call_of time d a.context i (x1 a).parts) (outside_at s b nd)) _ refl (serve_high c b (call_of time d a.context i (x1 a).parts) (outside_at s b nd) (call_keeps (x1 a).parts time d a.context i).high)
        (subst (λ out. Matches (record s { blocks = slice_set s.blocks b (with_control (x1 a) x) }) (t1 a) (first_stands a) b c (with_control (x1 a) x) ws (slice_get-set_same s.blocks b x (with_control (x1 a) x) block_at) console_at nd
        (serve c b (call_of time d a.context i (x1 a).parts) out) (reply (t1 a) b (y1 a) (call_of time d a.context i (x1 a).parts)))
        (outside_same s b (slice_set s.blocks b (with_control (x1 a) x)) nd)
        (answers_match (record s { blocks = slice_set s.blocks b (with_control (x1 a) x) }) (t1 a) (first_stands a) b c (with_control (x1 a) x) ws (slice_get-set_same s.blocks b x (with_control (x1 a) x) block_at) console_at
        (call_of time d a.context i (x1 a).parts) (call_keeps (x1 a).parts time d a.context i) rings))
