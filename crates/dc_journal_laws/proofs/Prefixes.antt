-- What a run has come to before each of its entries, and what holds of it as it goes on.
use Rattle.std.proofs.Common.{◌≡◌, ℕ, List, [], ◌∷◌, ◌++◌, true, false, Option, Some, None, refl, sym, ap, ◌∙◌, subst}
use Rattle.std.specs.Prelude.{is_some, map, slice_index}
use Rattle.std.specs.Option.{option_map}
use Rattle.std.proofs.lemmas.List.{append-nil, append_assoc}
use Rattle.dc_base.specs.declared.images.Image.{Image}
use Rattle.dc_base.specs.declared.images.CoreImage.{CoreImage}
use Rattle.dc_base.specs.declared.commands.ScriptLine.{ScriptLine}
use Rattle.dc_base.specs.declared.entries.Entry.{Entry}
use Rattle.dc_base.specs.Words.{bind}
use Rattle.dc_base.specs.Blocks.{Blocks}
use Rattle.dc_base.specs.Holders.{held_start, held_after, held_from, held}
use Rattle.dc_base.specs.StrikeOut.{told_start, told_after, clocks_by, clock_told}
use Rattle.dc_base.specs.Boot.{Registry}
use Rattle.dc_base.specs.Answers.{boot_after}
use Rattle.dc_base.specs.Runs.{terms_of, Seen, seen_start, run_step, run_from, run, run_of, boot_from, boot_state, block_clock}
use Rattle.dc_base.proofs.RunLaws.{run_from-append, run_step-comes, Comes, run-struck}
use Rattle.dc_journal_laws.specs.Clocks.{clocks_from, core_clock, block_time}

pub some_of : {A : Type 0} (o : Option A) → is_some o ≡ true → (x : A) × (o ≡ Some x)
some_of None h = absurd (let bad : false ≡ true = h in cc)
some_of (Some x) h = (x, refl)

pub bind_some : {A B : Type 0} (o : Option A) (f : A → Option B) (y : B) → bind o f ≡ Some y → (x : A) × (o ≡ Some x) × (f x ≡ Some y)
bind_some None f y h = absurd cc
bind_some (Some x) f y h = (x, refl, h)

module _ (image : Image) (lines : List ScriptLine) where
  -- what a run has come to before an entry and after it
  pub record Around (before : List Entry) (e : Entry) : Type 0 where
    pub seen : Seen
    pub run_to : run image lines before ≡ Some seen
    pub next : Seen
    pub comes : Comes (terms_of image) lines seen e next

  pub around : (journal before after : List Entry) (e : Entry) → run_of image lines journal ≡ true → journal ≡ before ++ e ∷ after → Around before e
  unfolding run
  around journal before after e h same =
      let terms = terms_of image in
      let start = seen_start image lines in
      let whole = some_of (run image lines (before ++ e ∷ after)) (subst (λ j. run_of image lines j ≡ true) same h) in
      let parts = bind_some (run_from terms lines start before) (λ t. run_from terms lines t (e ∷ after)) whole.0 (sym (run_from-append terms lines start before (e ∷ after)) ∙ whole.1) in
      let one = bind_some (run_step terms lines parts.0 e) (λ t. run_from terms lines t after) whole.0 parts.2 in
      record { seen = parts.0; run_to = parts.1; next = one.0; comes = run_step-comes terms lines parts.0 e one.0 one.1 }

  -- a first part of a run is one
  pub run_part : (journal before after : List Entry) → run_of image lines journal ≡ true → journal ≡ before ++ after → (s : Seen) × (run image lines before ≡ Some s)
  unfolding run
  run_part journal before after h same =
      let terms = terms_of image in
      let start = seen_start image lines in
      let whole = some_of (run image lines (before ++ after)) (subst (λ j. run_of image lines j ≡ true) same h) in
      let parts = bind_some (run_from terms lines start before) (λ t. run_from terms lines t after) whole.0 (sym (run_from-append terms lines start before after) ∙ whole.1) in
      (parts.0, parts.1)

  pub run_snoc : (before : List Entry) (s : Seen) (e : Entry) (n : Seen) → run image lines before ≡ Some s → run_step (terms_of image) lines s e ≡ Some n → run image lines (before ++ e ∷ []) ≡ Some n
  unfolding run
  run_snoc before s e n r g =
      let terms = terms_of image in
      run_from-append terms lines (seen_start image lines) before (e ∷ [])
      ∙ ap (λ o. bind o (λ t. run_from terms lines t (e ∷ []))) r
      ∙ ap (λ o. bind o (λ t. run_from terms lines t [])) g

  -- what holds at the start, and goes on to hold with each entry, holds after each first part of a run
  module _ (P : List Entry → Seen → Type 0) (starts : P [] (seen_start image lines))
      (goes_on : (before : List Entry) (s : Seen) (e : Entry) (n : Seen) → run image lines before ≡ Some s → Comes (terms_of image) lines s e n → P before s → P (before ++ e ∷ []) n) where
    holds_from : (before es : List Entry) (s t : Seen) → run image lines before ≡ Some s → P before s → run_from (terms_of image) lines s es ≡ Some t → P (before ++ es) t
    holds_from before [] s t r p g = let same : s ≡ t = cc in subst (λ xs. P xs t) (sym (append-nil before)) (subst (P before) same p)
    holds_from before (e ∷ es) s t r p g =
        let one = bind_some (run_step (terms_of image) lines s e) (λ m. run_from (terms_of image) lines m es) t g in
        let next = goes_on before s e one.0 r (run_step-comes (terms_of image) lines s e one.0 one.1) p in
        subst (λ xs. P xs t) (append_assoc before (e ∷ []) es) (holds_from (before ++ e ∷ []) es one.0 t (run_snoc before s e one.0 r one.1) next one.2)

    pub holds_after : (before : List Entry) (s : Seen) → run image lines before ≡ Some s → P before s
    unfolding run
    holds_after before s r = holds_from [] before (seen_start image lines) s refl starts r

held_from-append : (pairs : List (ℕ × ℕ)) (es fs : List Entry) → held_from pairs (es ++ fs) ≡ held_from (held_from pairs es) fs
held_from-append pairs [] fs = refl
held_from-append pairs (e ∷ es) fs = held_from-append (held_after pairs e) es fs

pub held-snoc : (image : Image) (es : List Entry) (e : Entry) → held image (es ++ e ∷ []) ≡ held_after (held image es) e
unfolding held
held-snoc image es e = held_from-append (held_start image) es (e ∷ [])

boot_from-append : (r : Registry) (es fs : List Entry) → boot_from r (es ++ fs) ≡ boot_from (boot_from r es) fs
boot_from-append r [] fs = refl
boot_from-append r (e ∷ es) fs = boot_from-append (boot_after r e) es fs

pub boot_state-snoc : (image : Image) (es : List Entry) (e : Entry) → boot_state image (es ++ e ∷ []) ≡ boot_after (boot_state image es) e
unfolding boot_state
boot_state-snoc image es e = boot_from-append _ es (e ∷ [])

clocks_from-append : (clocks : List ℕ) (es fs : List Entry) → clocks_from clocks (es ++ fs) ≡ clocks_from (clocks_from clocks es) fs
clocks_from-append clocks [] fs = refl
clocks_from-append clocks (e ∷ es) fs = clocks_from-append (clocks_by clocks e.actor e.what) es fs

module _ (image : Image) (lines : List ScriptLine) where
  -- the told holders are those of the journal
  pub holders_are : (before : List Entry) (s : Seen) → run image lines before ≡ Some s → s.told.holders ≡ held image before
  unfolding seen_start told_start told_after held
  holders_are = holds_after image lines (λ before s. s.told.holders ≡ held image before) refl
      (λ before s e n r comes p. ap (λ t. t.holders) comes.told ∙ ap (λ pairs. held_after pairs e) p ∙ sym (held-snoc image before e))

  -- the told boot state is that of the journal
  pub boot_is : (before : List Entry) (s : Seen) → run image lines before ≡ Some s → s.boot ≡ boot_state image before
  unfolding seen_start boot_state
  boot_is = holds_after image lines (λ before s. s.boot ≡ boot_state image before) refl
      (λ before s e n r comes p. comes.boot ∙ ap (λ r. boot_after r e) p ∙ sym (boot_state-snoc image before e))

  -- the told clocks are those of the journal
  clocks_are : (before : List Entry) (s : Seen) → run image lines before ≡ Some s → s.told.clocks ≡ clocks_from (map (λ (k : CoreImage). k.base) image.cores) before
  unfolding seen_start told_start told_after
  clocks_are = holds_after image lines (λ before s. s.told.clocks ≡ clocks_from (map (λ (k : CoreImage). k.base) image.cores) before) refl
      (λ before s e n r comes p. ap (λ t. t.clocks) comes.told ∙ ap (λ clocks. clocks_by clocks e.actor e.what) p ∙ sym (clocks_from-append (map (λ (k : CoreImage). k.base) image.cores) before (e ∷ [])))

  pub clock_is : (before : List Entry) (s : Seen) → run image lines before ≡ Some s → (c : ℕ) → clock_told s.told c ≡ core_clock image before c
  clock_is before s r c = ap (λ clocks. slice_index clocks c) (clocks_are before s r)

  -- a block's clock is that in the machine of blocks
  pub time_is : (before : List Entry) (s : Seen) → run image lines before ≡ Some s → (b : ℕ) → block_time image before b ≡ Some (block_clock s.blocks b)
  time_is before s r b = ap (λ o. option_map (λ (t : Blocks). block_clock t b) o) (run-struck image lines before s r)
