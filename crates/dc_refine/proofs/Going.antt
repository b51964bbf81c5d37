-- The plain part of a slice is a run of instructions.
use Rattle.std.proofs.Common.{◌≡◌, subst, ℕ, zero, suc, ◌+◌, ◌<◌, ◌≤◌, List, [], ◌∷◌, Option, Some, None, refl, sym, ap, ◌∙◌, add-one, arith, false}
use Rattle.std.specs.Prelude.{slice_get, replicate}
use Rattle.std.proofs.lemmas.List.{set-set}
use Rattle.dc_base.specs.Words.{bind}
use Rattle.dc_base.specs.Parts.{with_context}
use Rattle.dc_base.specs.Blocks.{Block, halted, instr, after_instr, instr_in, with_life}
use Rattle.dc_base.specs.Effects.{Context, Move, goes, halts, traps, calls, act, is_call}
use Rattle.dc_base.specs.Ahead.{Ahead, AheadEnd, at_quantum, at_halt, at_trap, at_call, ahead, ahead_from, last_look}
use Rattle.dc_refine.proofs.Elements.{slice_get-set_same, slice_set-same}
use Rattle.dc_refine.proofs.Leads.{LeadsIn, IsAt, move_of-at, leads_in_none, leads_in_both, leads_instr}

-- the block after its dispatcher d has gone ahead, which may have halted it
abbrev pub with_end : Block → ℕ → AheadEnd → Block
with_end x d at_halt = with_life x d halted
with_end x d _ = x

abbrev pub gone : Block → ℕ → Ahead → Block
gone x d a = with_end (record x { parts = with_context x.parts d a.context a.memory }) d a.end

instr_in-at : (x : Block) (d : ℕ) (code : List ℕ) (c : Context) → IsAt x d code c → instr_in d x ≡ after_instr x d (act x.clock code c x.parts.memory)
unfolding instr_in
instr_in-at x d code c at = ap (λ o. bind o (λ m. after_instr x d m.1)) (move_of-at x d code c at)

-- one instruction that goes on
one_goes : (x : Block) (d : ℕ) (code : List ℕ) (c c' : Context) (memory : List ℕ) → IsAt x d code c → act x.clock code c x.parts.memory ≡ goes c' memory → instr_in d x ≡ Some (record x { parts = with_context x.parts d c' memory })
one_goes x d code c c' memory at m = instr_in-at x d code c at ∙ ap (after_instr x d) m

one_halts : (x : Block) (d : ℕ) (code : List ℕ) (c : Context) → IsAt x d code c → act x.clock code c x.parts.memory ≡ halts → instr_in d x ≡ Some (with_life x d halted)
one_halts x d code c at m = instr_in-at x d code c at ∙ ap (after_instr x d) m

-- what it leaves is again a live dispatcher at its new context
at_next : (x : Block) (d : ℕ) (code : List ℕ) (c c' : Context) (memory : List ℕ) → IsAt x d code c → IsAt (record x { parts = with_context x.parts d c' memory }) d code c'
at_next x d code c c' memory at = record { life = at.life; code_at = at.code_at; context_at = slice_get-set_same x.parts.contexts d c c' at.context_at }

-- going on from there ends where going on from the start does
gone-next : (x : Block) (d : ℕ) (c' : Context) (memory : List ℕ) (a : Ahead) → gone (record x { parts = with_context x.parts d c' memory }) d a ≡ gone x d a
gone-next x d c' memory a = ap (λ l. with_end (record x { parts = record x.parts { contexts = l; memory = a.memory } }) d a.end) (set-set x.parts.contexts d c' a.context)

-- nothing done leaves the block as it is
gone-none : (x : Block) (d : ℕ) (c : Context) → slice_get x.parts.contexts d ≡ Some c → record x { parts = with_context x.parts d c x.parts.memory } ≡ x
gone-none x d c h = ap (λ l. record x { parts = record x.parts { contexts = l } }) (slice_set-same x.parts.contexts d c h)

-- n times one instruction
abbrev pub times : ℕ → (Block → Option Block) → Block → Option Block
times zero f x = Some x
times (suc n) f x = bind (f x) (times n f)

gone-none_end : (x : Block) (d : ℕ) (c : Context) → slice_get x.parts.contexts d ≡ Some c → (m : Move) → gone x d (record { context = c; memory = x.parts.memory; ran = 0; end = last_look m }) ≡ x
gone-none_end x d c h (goes c' memory) = gone-none x d c h
gone-none_end x d c h halts = gone-none x d c h
gone-none_end x d c h (traps y) = gone-none x d c h
gone-none_end x d c h (calls o i) = gone-none x d c h

-- the block goes as a piece of foresight says
abbrev GoesAs : Block → ℕ → Ahead → Type 0
GoesAs x d a = times a.ran (instr_in d) x ≡ Some (gone x d a)

by_move : (n : ℕ) (x : Block) (time d : ℕ) (code : List ℕ) (c : Context) → x.clock ≡ time → IsAt x d code c →
    ((y : Block) (c' : Context) → y.clock ≡ time → IsAt y d code c' → GoesAs y d (ahead time code n c' y.parts.memory)) →
    (m : Move) → act time code c x.parts.memory ≡ m → GoesAs x d (ahead_from (ahead time code n) c x.parts.memory m)
by_move n x time d code c clock at more (goes c' memory) e =
    let y : Block = record x { parts = with_context x.parts d c' memory } in
    let one = one_goes x d code c c' memory at (ap (λ t. act t code c x.parts.memory) clock ∙ e) in
    let rest = more y c' clock (at_next x d code c c' memory at) in
    rw add-one (ap (λ o. bind o (times (ahead time code n c' memory).ran (instr_in d))) one ∙ rest ∙ ap Some (gone-next x d c' memory (ahead time code n c' memory)))
by_move n x time d code c clock at more halts e = ap (λ o. bind o Some) (one_halts x d code c at (ap (λ t. act t code c x.parts.memory) clock ∙ e)) ∙ ap (λ y. Some (with_life y d halted)) (sym (gone-none x d c at.context_at))
by_move n x time d code c clock at more (traps y) e = ap Some (sym (gone-none x d c at.context_at))
by_move n x time d code c clock at more (calls o i) e = ap Some (sym (gone-none x d c at.context_at))

-- the plain part, as a number of instructions in the block
goes_ahead : (n : ℕ) (x : Block) (time d : ℕ) (code : List ℕ) (c : Context) → x.clock ≡ time → IsAt x d code c → GoesAs x d (ahead time code n c x.parts.memory)
goes_ahead zero x time d code c clock at = ap Some (sym (gone-none_end x d c at.context_at (act time code c x.parts.memory)))
goes_ahead (suc n) x time d code c clock at =
    by_move n x time d code c clock at (λ y c' same at'. goes_ahead n y time d code c' same at') (act time code c x.parts.memory) refl

-- one instruction, and then many
times_first : (n b d : ℕ) (x y : Block) → ((z : Block) → times n (instr_in d) z ≡ Some y → LeadsIn b z (replicate n (instr b d)) y) →
    (o : Option Block) → instr_in d x ≡ o → bind o (times n (instr_in d)) ≡ Some y → LeadsIn b x (instr b d ∷ replicate n (instr b d)) y
times_first n b d x y more None e g = cc
times_first n b d x y more (Some z) e g = leads_in_both b x z y (instr b d ∷ []) (replicate n (instr b d)) (leads_instr b d x z e) (more z g)

-- one instruction many times
leads_times : (n b d : ℕ) (x y : Block) → times n (instr_in d) x ≡ Some y → LeadsIn b x (replicate n (instr b d)) y
leads_times zero b d x y h = let e : x ≡ y = cc in subst (λ z. LeadsIn b x [] z) e (leads_in_none b x)
leads_times (suc n) b d x y h = times_first n b d x y (λ z g. leads_times n b d z y g) (instr_in d x) refl h

-- the plain part leads on
pub leads_ahead : (n b : ℕ) (x : Block) (d : ℕ) (code : List ℕ) (c : Context) → IsAt x d code c →
    LeadsIn b x (replicate (ahead x.clock code n c x.parts.memory).ran (instr b d)) (gone x d (ahead x.clock code n c x.parts.memory))
leads_ahead n b x d code c at =
    let a : Ahead = ahead x.clock code n c x.parts.memory in
    leads_times a.ran b d x (gone x d a) (goes_ahead n x x.clock d code c refl at)

-- what stands at the place where the plain part stopped, and how many instructions ran
abbrev pub StopsAt : ℕ → ℕ → Move → AheadEnd → Type 0
StopsAt q ran m at_quantum = (ran ≡ q) × (is_call m ≡ false)
StopsAt q ran m at_halt = (0 < ran) × (ran ≤ q)
StopsAt q ran m (at_trap x) = (ran < q) × (m ≡ traps x)
StopsAt q ran m (at_call o i) = (ran ≤ q) × (m ≡ calls o i)

abbrev pub Stops : ℕ → ℕ → List ℕ → Ahead → Type 0
Stops time q code a = StopsAt q a.ran (act time code a.context a.memory) a.end

stops_more : (q ran : ℕ) (m : Move) (e : AheadEnd) → StopsAt q ran m e → StopsAt (suc q) (ran + 1) m e
stops_more q ran m at_quantum h = (omega (arith, h.0), h.1)
stops_more q ran m at_halt h = (omega arith, omega (arith, h.1))
stops_more q ran m (at_trap x) h = (omega (arith, h.0), h.1)
stops_more q ran m (at_call o i) h = (omega (arith, h.0), h.1)

stops_by : (n time : ℕ) (code : List ℕ) (c : Context) (memory : List ℕ) → ((c' : Context) (memory' : List ℕ) → Stops time n code (ahead time code n c' memory')) →
    (m : Move) → act time code c memory ≡ m → Stops time (suc n) code (ahead_from (ahead time code n) c memory m)
stops_by n time code c memory more (goes c' memory') e =
    let a : Ahead = ahead time code n c' memory' in
    stops_more n a.ran (act time code a.context a.memory) a.end (more c' memory')
stops_by n time code c memory more halts e = (omega arith, omega arith)
stops_by n time code c memory more (traps x) e = (omega arith, e)
stops_by n time code c memory more (calls o i) e = (omega arith, e)

stops_last : (m : Move) → StopsAt 0 0 m (last_look m)
stops_last (goes c memory) = (refl, refl)
stops_last halts = (refl, refl)
stops_last (traps x) = (refl, refl)
stops_last (calls o i) = (omega arith, refl)

pub ahead_stops : (n time : ℕ) (code : List ℕ) (c : Context) (memory : List ℕ) → Stops time n code (ahead time code n c memory)
ahead_stops zero time code c memory = stops_last (act time code c memory)
ahead_stops (suc n) time code c memory = stops_by n time code c memory (λ c' m'. ahead_stops n time code c' m') (act time code c memory) refl
