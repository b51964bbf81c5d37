-- What a slice that has begun tells of the whole slice.
use Rattle.std.proofs.Common.{◌≡◌, ℕ, zero, suc, ◌+◌, ◌<◌, ◌≤◌, List, [], Option, Some, None, refl, sym, ap, ◌∙◌, subst, length, arith}
use Rattle.std.specs.Prelude.{slice_get, slice_index_or, ℤ, IsTrue}
use Rattle.std.specs.Option.{option_map}
use Rattle.std.proofs.lemmas.Option.{slice_get-get_or}
use Rattle.dc_base.specs.declared.calls.Need.{Need}
use Rattle.dc_base.specs.declared.calls.Need.TheVariants as needs
use Rattle.dc_base.specs.declared.kernels.Version.{Version}
use Rattle.dc_base.specs.declared.numbers.DispNo.{DispNo}
use Rattle.dc_base.specs.Ahead.{ahead_from}
use Rattle.dc_base.specs.Ahead as plain
use Rattle.dc_base.specs.ControlBlocks.{ControlBlock}
use Rattle.dc_base.specs.Effects.{Context, Move, goes, act}
use Rattle.dc_base.specs.Firing.{Fired, fire_all}
use Rattle.dc_base.specs.KeptByBlocks.{HasReady}
use Rattle.dc_base.specs.Policies.{pick}
use Rattle.dc_base.specs.Serving as seen
use Rattle.dc_base.specs.Slices.{halfway, need_of, after_ahead, with_ahead, without_ready, slice_end}
use Rattle.dc_base.specs.Slices as slice
use Rattle.dc_base.specs.States.{time_on}
use Rattle.dc_base.specs.Words.{bind}
use Rattle.dc_exec.specs.declared.ends.Ran.{Ran}
use Rattle.dc_exec.specs.Ends.{end_seen, is_proper_end}
use Rattle.dc_block_sound.specs.SoundControls.{IsSoundControl, IsSoundBesideReady, Suits}
use Rattle.dc_block_sound.proofs.Forms.{SameShape}
use Rattle.dc_block_sound.proofs.OwnNames.{own_now}
use Rattle.dc_calls.specs.declared.sliced.Sliced.{Sliced}
use Rattle.dc_calls.specs.declared.outsides.Outside.{Outside}
use Rattle.dc_calls.specs.declared.outsides.Outside.TheVariants as outside
use Rattle.dc_calls.specs.Outsides.{outside_seen, Fits}
use Rattle.dc_calls.specs.Slices.{IsRun, half_of, sliced_seen, OffersWithin}
use Rattle.dc_kernel.specs.declared.drivers.Begun.{Begun}
use Rattle.dc_kernel.specs.Begins.{number_of, ahead_at, ahead_in, halfway_in, need_in, begun_control, TellsPlain, IsBegun}
use Rattle.dc_kernel.specs.Done.{Done, done_by, done_empty, done_picked, done, told}
use Rattle.dc_kernel.specs.Running.{Running}
use Rattle.dc_kernel.proofs.FiredParts.{fired_alike}

-- a plain part runs at most as many instructions as the quantum
ran_by : (time n : ℕ) (code : List ℕ) (c : Context) (memory : List ℕ) → ((c : Context) (memory : List ℕ) → (plain.ahead time code n c memory).ran ≤ n) → (m : Move) → (ahead_from (plain.ahead time code n) c memory m).ran ≤ n + 1
ran_by time n code c memory more (goes c' memory') = omega (arith, more c' memory')
ran_by time n code c memory more m = omega (arith)

pub ran_within : (time n : ℕ) (code : List ℕ) (c : Context) (memory : List ℕ) → (plain.ahead time code n c memory).ran ≤ n
ran_within time zero code c memory = omega (arith)
ran_within time (suc n) code c memory = subst (λ k. (plain.ahead time code (suc n) c memory).ran ≤ k) (omega (arith)) (ran_by time n code c memory (λ c memory. ran_within time n code c memory) (act time code c memory))

pub suits : (n : Need) (o : Outside) → Fits n o → OffersWithin o → Suits n (outside_seen o)
suits needs.Nothing outside.Nothing f h = tt
suits (needs.Channel x) (outside.Channel r) f h = tt
suits (needs.Line l) outside.Nothing f h = tt
suits (needs.Line l) (outside.Line w) f h = h
suits needs.Console (outside.Console ws) f h = tt
suits needs.Nothing (outside.Channel r) f h = absurd f
suits needs.Nothing (outside.Line w) f h = absurd f
suits needs.Nothing (outside.Console ws) f h = absurd f
suits (needs.Channel x) outside.Nothing f h = absurd f
suits (needs.Channel x) (outside.Line w) f h = absurd f
suits (needs.Channel x) (outside.Console ws) f h = absurd f
suits (needs.Line l) (outside.Channel r) f h = absurd f
suits (needs.Line l) (outside.Console ws) f h = absurd f
suits needs.Console outside.Nothing f h = absurd f
suits needs.Console (outside.Channel r) f h = absurd f
suits needs.Console (outside.Line w) f h = absurd f

pub nothing_fits : (o : Outside) → Fits needs.Nothing o → outside_seen o ≡ seen.nothing_outside
nothing_fits outside.Nothing f = refl
nothing_fits o f = absurd f

halfway_is : (q time : ℕ) (b : ControlBlock) (d : ℕ) (code : List ℕ) (c : Context) → slice_get b.parts.code d ≡ Some code → slice_get b.parts.contexts d ≡ Some c →
    halfway q time b d ≡ Some (after_ahead time b d (plain.ahead time code q c b.parts.memory) (plain.ahead time code q c b.parts.memory).end)
unfolding halfway
halfway_is q time b d code c p r =
    ap (λ o. bind o (λ code. bind (slice_get b.parts.contexts d) (λ c. Some (after_ahead time b d (plain.ahead time code q c b.parts.memory) (plain.ahead time code q c b.parts.memory).end)))) p
    ∙ ap (λ o. bind o (λ c. Some (after_ahead time b d (plain.ahead time code q c b.parts.memory) (plain.ahead time code q c b.parts.memory).end))) r

-- a sound block but for its ready list is sound where that list is right
pub relisted : (z : ControlBlock) (ready : List ℕ) → HasReady (record z { ready = ready }) → IsSoundBesideReady z → IsSoundControl (record z { ready = ready })
relisted z ready lists h =
    let y : ControlBlock = record z { ready = ready } in
    let same : SameShape z y = record { memory = refl; states = refl; code = refl; contexts = refl; dues = refl; periods = refl; ports = refl; signals = refl } in
    record {
      shape = record {
        memory = h.shape.memory;
        some = h.shape.some;
        disps = h.shape.disps;
        code = h.shape.code;
        contexts = h.shape.contexts;
        dues = h.shape.dues;
        periods = h.shape.periods;
        ports = h.shape.ports;
        signals = h.shape.signals;
      };
      dispatchers = record { code = h.dispatchers.code; regs = h.dispatchers.regs; places = h.dispatchers.places; periods = h.dispatchers.periods; traps = h.dispatchers.traps };
      ports = h.ports;
      ready = lists;
      timers = record { ascending = h.timers.ascending; below = h.timers.below; room = h.timers.room };
      caps = record { ascending = h.caps.ascending; slots = h.caps.slots; rights = h.caps.rights; parents = h.caps.parents; roots = h.caps.roots };
      names = own_now z y same h.names.caps h.names.waiters h.names.timers;
    }

module _ (now q : ℕ) (x : ControlBlock) (offset : ℤ) (v : Version) where
  abbrev pub run : Running
  run = record { control = x; offset = offset; version = v }

  abbrev pub time : ℕ
  time = time_on now offset

  abbrev pub after : ControlBlock
  after = (fire_all time x).control

  -- no dispatcher was picked
  module _ (p : None ≡ pick v after.dues after.ready) where
    pub nothing_needed : needs.Nothing ≡ need_in (halfway_in q now run)
    nothing_needed = ap (λ o. need_in (bind o (λ e. halfway q time (without_ready e after) e))) p

    pub nothing_ran : begun_control after (pick v after.dues after.ready) (ahead_in q now run) ≡ after
    nothing_ran = sym (ap (λ o. begun_control after o (ahead_in q now run)) p)

    pub nothing_told : (r : Ran) → TellsPlain r (ahead_in q now run)
    nothing_told r = subst (λ o. TellsPlain r (bind o (ahead_at q time after))) p tt

    pub done_nothing : (c n : ℕ) (out : Outside) → Some (done_empty (fire_all time x)) ≡ done (λ m. outside_seen out) q c n now run
    unfolding done
    done_nothing c n out = ap (λ o. done_picked (λ m. outside_seen out) q c n now run (fire_all time x) o) p

  module _ (d : DispNo) where
    -- the dispatcher was picked, and has this code and this context
    pub record IsGoing : Type 0 where
      pub picked : pick v after.dues after.ready ≡ Some d.0
      pub code : List ℕ
      pub context : Context
      pub code_at : slice_get after.parts.code d.0 ≡ Some code
      pub context_at : slice_get after.parts.contexts d.0 ≡ Some context

    pub going : pick v after.dues after.ready ≡ Some d.0 → IsSoundControl after → d.0 < length after.states → IsGoing
    going p sound within =
        let blank : Context = record { regs = []; place = 0 } in
        record {
          picked = p;
          code = slice_index_or after.parts.code d.0 [];
          context = slice_index_or after.parts.contexts d.0 blank;
          code_at = slice_get-get_or after.parts.code d.0 [] (subst (λ n. d.0 < n) (sym sound.shape.code) within);
          context_at = slice_get-get_or after.parts.contexts d.0 blank (subst (λ n. d.0 < n) (sym sound.shape.contexts) within);
        }

    module _ (g : IsGoing) where
      -- its plain part
      abbrev pub part : plain.Ahead
      part = plain.ahead time g.code q g.context after.parts.memory

      pub part_is : ahead_in q now run ≡ Some part
      part_is = ap (λ o. bind o (ahead_at q time after)) g.picked
          ∙ (ap (λ o. bind o (λ code. bind (slice_get after.parts.contexts d.0) (λ c. Some (plain.ahead time code q c after.parts.memory)))) g.code_at
          ∙ ap (λ o. bind o (λ c. Some (plain.ahead time g.code q c after.parts.memory))) g.context_at)

      pub half : halfway q time (without_ready d.0 after) d.0 ≡ Some (half_of time d.0 after part)
      half = halfway_is q time (without_ready d.0 after) d.0 g.code g.context g.code_at g.context_at

      pub need_is : need_in (halfway_in q now run) ≡ need_of (half_of time d.0 after part)
      need_is = ap (λ o. need_in (bind o (λ e. halfway q time (without_ready e after) e))) g.picked ∙ ap need_in half

      pub control_is : begun_control after (pick v after.dues after.ready) (ahead_in q now run) ≡ with_ahead after d.0 part
      control_is = ap (λ o. begun_control after o (ahead_in q now run)) g.picked ∙ ap (begun_control after (Some d.0)) part_is

      -- the look ahead finds the need
      pub need_ahead : (e : plain.AheadEnd) (m : Need) → ((code : List ℕ) (c : Context) → slice_get x.parts.code d.0 ≡ Some code → slice_get x.parts.contexts d.0 ≡ Some c → e ≡ (plain.ahead time code q c x.parts.memory).end) →
          ((t : ℕ) (y : ControlBlock) (p : plain.Ahead) → y.parts.caps ≡ x.parts.caps → e ≡ p.end → m ≡ need_of (after_ahead t y d.0 p p.end)) → m ≡ need_in (halfway_in q now run)
      need_ahead e m is_end is_need =
          let same = fired_alike time x in
          let f = is_end g.code g.context (ap (λ codes. slice_get codes d.0) (sym same.code) ∙ g.code_at) (ap (λ cs. slice_get cs d.0) (sym same.contexts) ∙ g.context_at) in
          is_need time (without_ready d.0 after) part same.caps (f ∙ ap (λ memory. (plain.ahead time g.code q g.context memory).end) (sym same.memory)) ∙ sym need_is

      -- a slice has begun once the plain part has run
      pub begun_is : (y y' : ControlBlock) (count : ℕ) (r : Ran) (m : Need) → record { control = y; count = count } ≡ fire_all time x → IsSoundControl x → IsRun d.0 y y' r (plain.ahead time g.code q g.context y.parts.memory) →
          IsTrue (is_proper_end r.end) →
          ((t : ℕ) (z : ControlBlock) (p : plain.Ahead) → z.parts.caps ≡ y'.parts.caps → end_seen r.end ≡ p.end → m ≡ need_of (after_ahead t z d.0 p p.end)) →
          IsBegun q now run (record { control = y'; offset = offset; version = v }) (record { disp = Some d; fired = count; plain = r; need = m })
      begun_is y y' count r m fe sound is proper is_need =
          let ye : y ≡ after = ap (λ (f : Fired). f.control) fe in
          let ran : IsRun d.0 after y' r part = subst (λ y. IsRun d.0 y y' r (plain.ahead time g.code q g.context y.parts.memory)) ye is in
          record {
            sound = sound;
            disp = sym g.picked;
            count = ap (λ (f : Fired). f.count) fe;
            block = ap (λ z. record { control = z; offset = offset; version = v }) (ran.control ∙ sym control_is);
            plain = subst (TellsPlain r) (sym part_is) (ran.ran, ran.end);
            proper = proper;
            need = is_need time (without_ready d.0 after) part (ap (λ (z : ControlBlock). z.parts.caps) (sym ran.control)) ran.end ∙ sym need_is;
          }

      -- the block is sound again while its dispatcher still stands in the ready list
      pub between_sound : (y y' : ControlBlock) (r : Ran) → y ≡ after → IsRun d.0 y y' r (plain.ahead time g.code q g.context y.parts.memory) → HasReady after → IsSoundBesideReady (with_ahead (without_ready d.0 after) d.0 part) → IsSoundControl y'
      between_sound y y' r ye is ready sound =
          let ran : IsRun d.0 after y' r part = subst (λ y. IsRun d.0 y y' r (plain.ahead time g.code q g.context y.parts.memory)) ye is in
          subst IsSoundControl (sym ran.control) (relisted (with_ahead (without_ready d.0 after) d.0 part) after.ready ready sound)

      -- the block between, where a slice has begun so
      module _ (between : Running) (b : Begun) (h : IsBegun q now run between b) where
        pub plain_ran : IsRun d.0 after between.control b.plain part
        plain_ran =
            let told = subst (TellsPlain b.plain) part_is h.plain in
            record { control = ap (λ (r : Running). r.control) h.block ∙ control_is; ran = told.0; end = told.1 }

        pub within_64 : q ≤ 64 → b.plain.ran ≤ 64
        within_64 l = let e = plain_ran.ran in omega (arith, l, e, ran_within time q g.code g.context after.parts.memory)

        pub need_half : b.need ≡ need_of (half_of time d.0 after part)
        need_half = h.need ∙ need_is

        -- the end of the slice, as the whole slice has it
        pub sliced : (t : ℕ) → t ≡ time → (w : Version) → w ≡ v → (z : ControlBlock) → z ≡ between.control → (c n : ℕ) (new : ControlBlock) (s : Sliced) (out out' : Outside) → Fits b.need out →
            ((y : ControlBlock) (a : plain.Ahead) → IsRun d.0 y z b.plain a → Fits (need_of (half_of t d.0 y a)) out → sliced_seen new s (need_of (half_of t d.0 y a)) (outside_seen out') ≡ slice_end c n w d.0 (half_of t d.0 y a) (outside_seen out)) →
            sliced_seen new s (need_of (half_of time d.0 after part)) (outside_seen out') ≡ slice_end c n v d.0 (half_of time d.0 after part) (outside_seen out)
        sliced t te w we z ze c n new s out out' fits ends =
            let ran : IsRun d.0 after z b.plain part = subst (λ z. IsRun d.0 after z b.plain part) (sym ze) plain_ran in
            subst (λ w. sliced_seen new s (need_of (half_of time d.0 after part)) (outside_seen out') ≡ slice_end c n w d.0 (half_of time d.0 after part) (outside_seen out)) we
            (subst (λ t. Fits (need_of (half_of t d.0 after part)) out → sliced_seen new s (need_of (half_of t d.0 after part)) (outside_seen out') ≡ slice_end c n w d.0 (half_of t d.0 after part) (outside_seen out)) te (ends after part ran)
            (subst (λ m. Fits m out) need_half fits))

        pub done_going : (c n : ℕ) (out out' : Outside) (new : ControlBlock) (s : Sliced) → sliced_seen new s (need_of (half_of time d.0 after part)) (outside_seen out') ≡ slice_end c n v d.0 (half_of time d.0 after part) (outside_seen out) →
            s.disp ≡ Some d → s.fired ≡ b.fired → Some (told new s (outside_seen out')) ≡ done (λ m. outside_seen out) q c n now run
        unfolding done slice.slice_of
        done_going c n out out' new s e is_d is_fired =
            let count = (fire_all time x).count in
            let made : Option DispNo → ℕ → Option Done = λ o f. Some (record { control = new; disp = number_of o; fired = f; ran = s.ran; end = s.end; advance = s.advance; outside = outside_seen out' }) in
            ap (λ o. made o s.fired) is_d ∙ (ap (λ f. made (Some d) f) (is_fired ∙ h.count) ∙ (ap (λ sl. Some (done_by d.0 count sl)) e
            ∙ (sym (ap (λ o. option_map (done_by d.0 count) (option_map (λ h. slice_end c n v d.0 h (outside_seen out)) o)) half)
            ∙ sym (ap (λ o. done_picked (λ m. outside_seen out) q c n now run (fire_all time x) o) g.picked))))
