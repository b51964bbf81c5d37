-- Why three files are not played, from why one of them does not serve; and what is ready where all serve.
use Rattle.std.proofs.Common.{◌≡◌, ◌∙◌, ◌<◌, ◌≤◌, ℕ, zero, suc, List, [], ◌∷◌, length, refl, sym, ap, subst, Some, None, Result, Ok, Err, arith}
use Rattle.std.specs.Prelude.{IsOk}
use Rattle.dc_base.specs.declared.images.Image.{Image}
use Rattle.dc_base.specs.declared.actions.Actor.{Actor}
use Rattle.dc_base.specs.declared.actions.Action.{Action}
use Rattle.dc_base.specs.declared.commands.Bounds.{Bounds}
use Rattle.dc_base.specs.declared.commands.ScriptLine.{ScriptLine}
use Rattle.dc_base.specs.declared.faults.ImageFault.TheVariants as told
use Rattle.dc_base.specs.declared.faults.TextFault.TheVariants as refused
use Rattle.dc_base.specs.States.{settings_of}
use Rattle.dc_script.specs.Texts.{AreBounds}
use Rattle.dc_base.specs.Limits.{longest_file}
use Rattle.dc_top.specs.declared.halts.Halt.{Halt}
use Rattle.dc_top.specs.declared.halts.Halt.TheVariants as halt
use Rattle.dc_top.specs.declared.bad_inputs.BadInput.{BadInput}
use Rattle.dc_top.specs.declared.bad_inputs.BadInput.TheVariants as why
use Rattle.dc_top.specs.Calls.{FaultOf, at_image, at_script, at_schedule}
use Rattle.dc_top.specs.Contents.{Contents, Files, MayHold, OfFile, OfFiles}
use Rattle.dc_top.specs.Halts.{Halts, HaltsAt, IsReady, MissesAt, RefusedBy, verdict_of}
use Rattle.dc_top.specs.BadInputs.{Verdict}
use Rattle.dc_top.specs.Verdict.{bounds_of, image_read, inputs_read, play_verdict, schedule_read, script_read}
use Rattle.dc_top.proofs.Readings.{image_too_long, script_too_long, schedule_too_long}
use Rattle.dc_play.proofs.Rises.{rose_since}

-- some bytes are longer
long_bytes : (n : ℕ) → (bytes : List ℕ) × (n < length bytes)
long_bytes zero = (0 ∷ [], omega arith)
long_bytes (suc n) = let shorter = long_bytes n in (0 ∷ shorter.0, omega (arith, shorter.1))

-- a file that is not loaded does not serve
misses : {A : Type 0} (files : Files) (read : List ℕ → Result A Verdict) (name : List ℕ) (too_long : BadInput) (before now : ℕ) (h : Halt) →
    ((bytes : List ℕ) → longest_file < length bytes → read bytes ≡ Err (verdict_of too_long)) → MissesAt files name too_long before now h → HaltsAt files read name before now h
misses None read name too_long before now (halt.Refused r) long m =
    let some = long_bytes longest_file in
    record { bytes = some.0; may = cc; holds = long some.0 some.1 ∙ ap (λ (x : BadInput). Err (verdict_of x)) (sym m.0) }
misses (Some f) read name too_long before now (halt.Refused r) long m = record { bytes = f name; may = refl; holds = long (f name) m.1 ∙ ap (λ (x : BadInput). Err (verdict_of x)) (sym m.0) }
misses files read name too_long before now (halt.Unread n) long m = m
misses files read name too_long before now halt.Memory long m = cc

pub image_misses : (files : Files) (name : List ℕ) (before now : ℕ) (h : Halt) → MissesAt files name (why.Image told.TooLong) before now h → HaltsAt files image_read name before now h
image_misses files name before now h = misses files image_read name (why.Image told.TooLong) before now h image_too_long

pub script_misses : (b : Bounds) (files : Files) (name : List ℕ) (before now : ℕ) (h : Halt) → MissesAt files name (why.Script refused.TooLong) before now h → HaltsAt files (script_read b) name before now h
script_misses b files name before now h = misses files (script_read b) name (why.Script refused.TooLong) before now h (script_too_long b)

pub schedule_misses : (b : Bounds) (files : Files) (name : List ℕ) (before now : ℕ) (h : Halt) → MissesAt files name (why.Schedule refused.TooLong) before now h → HaltsAt files (schedule_read b) name before now h
schedule_misses b files name before now h = misses files (schedule_read b) name (why.Schedule refused.TooLong) before now h (schedule_too_long b)

-- a file whose bytes are refused does not serve
refuses : {A : Type 0} (files : Files) (read : List ℕ → Result A Verdict) (name bytes : List ℕ) (before now : ℕ) (h : Halt) → RefusedBy (read bytes) h → MayHold files name bytes → HaltsAt files read name before now h
refuses files read name bytes before now (halt.Refused r) e may = record { bytes = bytes; may = may; holds = e }
refuses files read name bytes before now (halt.Unread n) e may = absurd e
refuses files read name bytes before now halt.Memory e may = cc

pub image_refuses : (files : Files) (name bytes : List ℕ) (before now : ℕ) (h : Halt) → RefusedBy (image_read bytes) h → MayHold files name bytes → HaltsAt files image_read name before now h
image_refuses files name bytes before now h = refuses files image_read name bytes before now h

pub script_refuses : (b : Bounds) (files : Files) (name bytes : List ℕ) (before now : ℕ) (h : Halt) → RefusedBy (script_read b bytes) h → MayHold files name bytes → HaltsAt files (script_read b) name before now h
script_refuses b files name bytes before now h = refuses files (script_read b) name bytes before now h

pub schedule_refuses : (b : Bounds) (files : Files) (name bytes : List ℕ) (before now : ℕ) (h : Halt) → RefusedBy (schedule_read b bytes) h → MayHold files name bytes → HaltsAt files (schedule_read b) name before now h
schedule_refuses b files name bytes before now h = refuses files (schedule_read b) name bytes before now h

-- a file whose bytes are accepted serves
pub image_serves : (files : Files) (name bytes : List ℕ) (i : Image) → image_read bytes ≡ Ok i → MayHold files name bytes → OfFile files name (λ bytes. image_read bytes ≡ Ok i)
image_serves files name bytes i read may = record { bytes = bytes; may = may; holds = read }

pub script_serves : (b : Bounds) (files : Files) (name bytes : List ℕ) (s : List ScriptLine) → script_read b bytes ≡ Ok s → MayHold files name bytes → OfFile files name (λ bytes. script_read b bytes ≡ Ok s)
script_serves b files name bytes s read may = record { bytes = bytes; may = may; holds = read }

pub schedule_serves : (b : Bounds) (files : Files) (name bytes : List ℕ) (a : List (Actor × Action)) → schedule_read b bytes ≡ Ok a → MayHold files name bytes → OfFile files name (λ bytes. schedule_read b bytes ≡ Ok a)
schedule_serves b files name bytes a read may = record { bytes = bytes; may = may; holds = read }

-- a file may hold something
pub any_bytes : (files : Files) (name : List ℕ) → OfFile files name (λ bytes. Unit {0})
any_bytes None name = record { bytes = []; may = cc; holds = tt }
any_bytes (Some f) name = record { bytes = f name; may = refl; holds = tt }

-- an image that is refused is the verdict; and so on
image_first : (image script schedule : List ℕ) (v : Verdict) → image_read image ≡ Err v → play_verdict image script schedule ≡ v
unfolding play_verdict inputs_read
image_first image script schedule v e = rw e

pub both_read : (image script : List ℕ) (i : Image) (s : List ScriptLine) → image_read image ≡ Ok i → script_read (bounds_of i) script ≡ Ok s → inputs_read image script ≡ Ok (record { image = i; script = s })
unfolding inputs_read
both_read image script i s e g = rw (e, g)

script_next : (image script schedule : List ℕ) (i : Image) (v : Verdict) → image_read image ≡ Ok i → script_read (bounds_of i) script ≡ Err v → play_verdict image script schedule ≡ v
unfolding play_verdict inputs_read
script_next image script schedule i v e g = rw (e, g)

schedule_last : (image script schedule : List ℕ) (i : Image) (s : List ScriptLine) (v : Verdict) → image_read image ≡ Ok i → script_read (bounds_of i) script ≡ Ok s → schedule_read (bounds_of i) schedule ≡ Err v → play_verdict image script schedule ≡ v
unfolding play_verdict inputs_read
schedule_last image script schedule i s v e g k = rw (e, g, k)

pub is_ok : {A : Type 0} (r : Result A Verdict) (x : A) → r ≡ Ok x → IsOk r
is_ok (Ok y) x e = cc
is_ok (Err v) x e = cc

-- the script within the bounds of the image
pub script_within : (i : Image) (b : Bounds) → b ≡ bounds_of i → (bytes : List ℕ) (r : Result (List ScriptLine) Verdict) → script_read b bytes ≡ r →
    script_read (bounds_of i) bytes ≡ r
script_within i b fits bytes r e = ap (λ (x : Bounds). script_read x bytes) (sym fits) ∙ e

module _ (image script schedule : List ℕ) where
  -- what is so of bytes of the image, of the image and the script, and of all three
  by_image : (files : Files) (P : List ℕ → Type 0) (Q : Contents → Type 0) → ((i s a : List ℕ) → P i → Q (record { image = i; script = s; schedule = a })) → OfFile files image P → OfFiles files image script schedule Q
  by_image files P Q follows i =
      let s = any_bytes files script in
      let a = any_bytes files schedule in
      record {
        bytes = record { image = i.bytes; script = s.bytes; schedule = a.bytes };
        image_may = i.may;
        script_may = s.may;
        schedule_may = a.may;
        holds = follows i.bytes s.bytes a.bytes i.holds;
      }

  by_script : (files : Files) (P R : List ℕ → Type 0) (Q : Contents → Type 0) → ((i s a : List ℕ) → P i → R s → Q (record { image = i; script = s; schedule = a })) →
      OfFile files image P → OfFile files script R → OfFiles files image script schedule Q
  by_script files P R Q follows i s =
      let a = any_bytes files schedule in
      record {
        bytes = record { image = i.bytes; script = s.bytes; schedule = a.bytes };
        image_may = i.may;
        script_may = s.may;
        schedule_may = a.may;
        holds = follows i.bytes s.bytes a.bytes i.holds s.holds;
      }

  by_schedule : (files : Files) (P R T : List ℕ → Type 0) (Q : Contents → Type 0) → ((i s a : List ℕ) → P i → R s → T a → Q (record { image = i; script = s; schedule = a })) →
      OfFile files image P → OfFile files script R → OfFile files schedule T → OfFiles files image script schedule Q
  by_schedule files P R T Q follows i s a = record {
    bytes = record { image = i.bytes; script = s.bytes; schedule = a.bytes };
    image_may = i.may;
    script_may = s.may;
    schedule_may = a.may;
    holds = follows i.bytes s.bytes a.bytes i.holds s.holds a.holds;
  }

  -- a verdict, and a read fault at a file
  abbrev V : Verdict → Contents → Type 0
  V v = λ bytes. play_verdict bytes.image bytes.script bytes.schedule ≡ v

  abbrev F : List ℕ → Contents → Type 0
  F name = λ bytes. FaultOf image script schedule bytes name

  fault_at : (bytes : Contents) (named name : List ℕ) → named ≡ name → F name bytes → F named bytes
  fault_at bytes named name same fault = subst (λ (x : List ℕ). F x bytes) (sym same) fault

  pub image_halts : (files : Files) (before now : ℕ) (h : Halt) → HaltsAt files image_read image before now h → Halts files image script schedule before now h
  image_halts files before now (halt.Refused r) e = by_image files (λ x. image_read x ≡ Err (verdict_of r)) (V (verdict_of r)) (λ x y z p. image_first x y z (verdict_of r) p) e
  image_halts files before now (halt.Unread n) e =
      (e.1, by_image files (λ x. Unit {0}) (F n.now) (λ x y z p. fault_at (record { image = x; script = y; schedule = z }) n.now image e.0 at_image) (any_bytes files image))
  image_halts files before now halt.Memory e = cc

  module _ (i : Image) (b : Bounds) (fits : b ≡ bounds_of i) where
    -- the script, and the schedule, within the bounds of the image
    script_with : (bytes : List ℕ) (r : Result (List ScriptLine) Verdict) → script_read b bytes ≡ r → script_read (bounds_of i) bytes ≡ r
    script_with bytes r e = ap (λ (x : Bounds). script_read x bytes) (sym fits) ∙ e

    schedule_with : (bytes : List ℕ) (r : Result (List (Actor × Action)) Verdict) → schedule_read b bytes ≡ r → schedule_read (bounds_of i) bytes ≡ r
    schedule_with bytes r e = ap (λ (x : Bounds). schedule_read x bytes) (sym fits) ∙ e

    -- the bytes of an image that is accepted
    abbrev I : List ℕ → Type 0
    I = λ bytes. image_read bytes ≡ Ok i

    script_by : (files : Files) (before then now : ℕ) (h : Halt) → OfFile files image I → before ≤ then → HaltsAt files (script_read b) script then now h → Halts files image script schedule before now h
    script_by files before then now (halt.Refused r) start le e =
        by_script files I (λ x. script_read b x ≡ Err (verdict_of r)) (V (verdict_of r)) (λ x y z p q. script_next x y z i (verdict_of r) p (script_with y (Err (verdict_of r)) q)) start e
    script_by files before then now (halt.Unread n) start le e = (
      rose_since before then now le e.1,
      by_image files I (F n.now) (λ x y z p. fault_at (record { image = x; script = y; schedule = z }) n.now script e.0 (at_script (is_ok (image_read x) i p))) start,
    )
    script_by files before then now halt.Memory start le e = cc

    pub script_halts : (files kept : Files) (before then now : ℕ) (h : Halt) → OfFile files image (λ bytes. image_read bytes ≡ Ok i) → kept ≡ files → before ≤ then →
        HaltsAt kept (script_read b) script then now h → Halts files image script schedule before now h
    script_halts files kept before then now h start same le e = script_by files before then now h start le (subst (λ (x : Files). HaltsAt x (script_read b) script then now h) same e)

    module _ (s : List ScriptLine) where
      -- the bytes of a script that is accepted
      abbrev S : List ℕ → Type 0
      S = λ bytes. script_read b bytes ≡ Ok s

      both_of : (x y : List ℕ) → I x → S y → inputs_read x y ≡ Ok (record { image = i; script = s })
      both_of x y p q = both_read x y i s p (script_with y (Ok s) q)

      schedule_by : (files : Files) (before then now : ℕ) (h : Halt) → OfFile files image I → OfFile files script S → before ≤ then →
          HaltsAt files (schedule_read b) schedule then now h → Halts files image script schedule before now h
      schedule_by files before then now (halt.Refused r) start read le e =
          by_schedule files I S (λ x. schedule_read b x ≡ Err (verdict_of r)) (V (verdict_of r))
          (λ x y z p q t. schedule_last x y z i s (verdict_of r) p (script_with y (Ok s) q) (schedule_with z (Err (verdict_of r)) t)) start read e
      schedule_by files before then now (halt.Unread n) start read le e = (
        rose_since before then now le e.1,
        by_script files I S (F n.now)
            (λ x y z p q. fault_at (record { image = x; script = y; schedule = z }) n.now schedule e.0 (at_schedule (is_ok (inputs_read x y) (record { image = i; script = s }) (both_of x y p q)))) start read,
      )
      schedule_by files before then now halt.Memory start read le e = cc

      pub schedule_halts : (files kept kept_again : Files) (before then later now : ℕ) (h : Halt) → OfFile files image (λ bytes. image_read bytes ≡ Ok i) → kept ≡ files →
          OfFile kept script (λ bytes. script_read b bytes ≡ Ok s) → kept_again ≡ kept → before ≤ then → then ≤ later →
          HaltsAt kept_again (schedule_read b) schedule later now h → Halts files image script schedule before now h
      schedule_halts files kept kept_again before then later now h start same read same_again le le_again e =
          schedule_by files before later now h start (subst (λ (x : Files). OfFile x script S) same read) (omega (arith, le, le_again))
          (subst (λ (x : Files). HaltsAt x (schedule_read b) schedule later now h) (same_again ∙ same) e)

      module _ (a : List (Actor × Action)) where
        -- the bytes of a schedule that is accepted
        abbrev A : List ℕ → Type 0
        A = λ bytes. schedule_read b bytes ≡ Ok a

        ready_by : (files : Files) → OfFile files image I → OfFile files script S → OfFile files schedule A → OfFiles files image script schedule (λ bytes. IsReady bytes.image bytes.script bytes.schedule i s a)
        ready_by files start read actions =
            by_schedule files I S A (λ bytes. IsReady bytes.image bytes.script bytes.schedule i s a)
            (λ x y z p q t. record { inputs = both_of x y p q; actions = schedule_with z (Ok a) t }) start read actions

        pub all_serve : (files kept kept_again : Files) → OfFile files image (λ bytes. image_read bytes ≡ Ok i) → kept ≡ files → OfFile kept script (λ bytes. script_read b bytes ≡ Ok s) → kept_again ≡ kept →
            OfFile kept_again schedule (λ bytes. schedule_read b bytes ≡ Ok a) → OfFiles files image script schedule (λ bytes. IsReady bytes.image bytes.script bytes.schedule i s a)
        all_serve files kept kept_again start same read same_again actions =
            ready_by files start (subst (λ (x : Files). OfFile x script S) same read) (subst (λ (x : Files). OfFile x schedule A) (same_again ∙ same) actions)

-- the bounds of an image are those of its settings
pub bounds_fit : (i : Image) (b : Bounds) → b ≡ bounds_of i → AreBounds b (settings_of i)
bounds_fit i b fits = subst (λ (x : Bounds). AreBounds x (settings_of i)) (sym fits) (record { cores = refl; blocks = refl; lines = refl })
