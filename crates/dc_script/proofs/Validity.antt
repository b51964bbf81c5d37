-- What a text says is valid for the settings of its bounds.
use Rattle.std.proofs.Common.{◌≡◌, ℕ, ◌<◌, ◌≤◌, ◌&&◌, nat_lt, nat_le, zero, suc, Bool, true, false, List, [], ◌∷◌, length, Option, Some, None, Result, Ok, Err, refl, sym, subst, arith, if◌then◌else◌}
use Rattle.std.specs.Prelude.{IfOk}
use Rattle.std.proofs.lemmas.Bool.{ltb-true, leb-true, and_parts}
use Rattle.dc_base.specs.declared.numbers.CoreNo.{CoreNo}
use Rattle.dc_base.specs.declared.numbers.BlockNo.{BlockNo}
use Rattle.dc_base.specs.declared.numbers.LineNo.{LineNo}
use Rattle.dc_base.specs.declared.numbers.DispNo.{DispNo}
use Rattle.dc_base.specs.declared.kernels.Version.{Version}
use Rattle.dc_base.specs.declared.commands.Bounds.{Bounds}
use Rattle.dc_base.specs.declared.commands.Command.{Command}
use Rattle.dc_base.specs.declared.commands.Command.TheVariants as command
use Rattle.dc_base.specs.declared.commands.ScriptLine.{ScriptLine}
use Rattle.dc_base.specs.declared.commands.ScriptLine.TheVariants as script
use Rattle.dc_base.specs.declared.actions.Actor.{Actor}
use Rattle.dc_base.specs.declared.actions.Actor.TheVariants as actor
use Rattle.dc_base.specs.declared.actions.Action.{Action}
use Rattle.dc_base.specs.declared.actions.Action.TheVariants as action
use Rattle.dc_base.specs.declared.faults.TextKind.{TextKind}
use Rattle.dc_base.specs.declared.faults.TextKind.TheVariants.{BadNumber}
use Rattle.dc_base.specs.declared.faults.TextFault.{TextFault}
use Rattle.dc_base.specs.declared.faults.TextFault.TheVariants.{TooLong, Bad}
use Rattle.dc_base.specs.Results.{◌>>=◌, fault_as}
use Rattle.dc_base.specs.Limits.{longest_file}
use Rattle.dc_base.specs.TextWords.{lines_of, number_of, is_word}
use Rattle.dc_base.specs.ScriptText.{Numbered, counted_from, lines_read, text_read, no_words, one_word, two_words, three_words, if_within, number_within, if_below, number_below, read_core, read_block, read_line, read_disp, read_version, command_of, script_line, core_action_line, core_words, schedule_line, script_of, schedule_of}
use Rattle.dc_base.specs.States.{Settings}
use Rattle.dc_base.specs.Words.{Each}
use Rattle.dc_base.specs.Bounded.{CommandWithin, LineWithin}
use Rattle.dc_base.specs.Valid.{IsValidScript, IsActionOf, IsValidSchedule}
use Rattle.dc_base.proofs.EachLaws.{each_nil, each_cons}
use Rattle.dc_script.specs.Texts.{AreBounds}

-- a fact of each value that is read
if_then : {A F : Type 0} (t : Bool) (P : A → Type 0) (r s : Result A F) → IfOk r P → IfOk s P → IfOk (if t then r else s) P
if_then true P r s h k = h
if_then false P r s h k = k

of_one : {X B : Type 0} (Q : X → Type 0) (P : B → Type 0) (f : List ℕ → Result X TextKind) (make : X → B) → ((w : List ℕ) → IfOk (f w) Q) → ((x : X) → Q x → P (make x)) → (ws : List (List ℕ)) → IfOk (one_word f make ws) P
of_one Q P f make reads makes [] = tt
of_one Q P f make reads makes (u ∷ v ∷ ws) = tt
of_one {X} Q P f make reads makes (u ∷ []) = at (f u) (reads u)
  where
    at : (r : Result X TextKind) → IfOk r Q → IfOk (r >>= (λ x. Ok (make x))) P
    at (Ok x) q = makes x q
    at (Err e) q = tt

of_two : {X Y B : Type 0} (Q : X → Type 0) (R : Y → Type 0) (P : B → Type 0) (f : List ℕ → Result X TextKind) (g : List ℕ → Result Y TextKind) (make : X → Y → B) →
    ((w : List ℕ) → IfOk (f w) Q) → ((w : List ℕ) → IfOk (g w) R) → ((x : X) (y : Y) → Q x → R y → P (make x y)) → (ws : List (List ℕ)) → IfOk (two_words f g make ws) P
of_two Q R P f g make reads then_reads makes [] = tt
of_two Q R P f g make reads then_reads makes (u ∷ []) = tt
of_two Q R P f g make reads then_reads makes (u ∷ v ∷ w ∷ ws) = tt
of_two {X} {Y} Q R P f g make reads then_reads makes (u ∷ v ∷ []) = at (f u) (g v) (reads u) (then_reads v)
  where
    at : (r : Result X TextKind) (s : Result Y TextKind) → IfOk r Q → IfOk s R → IfOk (r >>= (λ x. s >>= (λ y. Ok (make x y)))) P
    at (Ok x) (Ok y) q r = makes x y q r
    at (Ok x) (Err e) q r = tt
    at (Err e) s q r = tt

of_three : {X Y Z B : Type 0} (Q : X → Type 0) (R : Y → Type 0) (S : Z → Type 0) (P : B → Type 0) (f : List ℕ → Result X TextKind) (g : List ℕ → Result Y TextKind) (h : List ℕ → Result Z TextKind) (make : X → Y → Z → B) →
    ((w : List ℕ) → IfOk (f w) Q) → ((w : List ℕ) → IfOk (g w) R) → ((w : List ℕ) → IfOk (h w) S) → ((x : X) (y : Y) (z : Z) → Q x → R y → S z → P (make x y z)) → (ws : List (List ℕ)) → IfOk (three_words f g h make ws) P
of_three Q R S P f g h make reads then_reads last_reads makes [] = tt
of_three Q R S P f g h make reads then_reads last_reads makes (u ∷ []) = tt
of_three Q R S P f g h make reads then_reads last_reads makes (u ∷ v ∷ []) = tt
of_three Q R S P f g h make reads then_reads last_reads makes (u ∷ v ∷ w ∷ x ∷ ws) = tt
of_three {X} {Y} {Z} Q R S P f g h make reads then_reads last_reads makes (u ∷ v ∷ w ∷ []) = at (f u) (g v) (h w) (reads u) (then_reads v) (last_reads w)
  where
    at : (r : Result X TextKind) (s : Result Y TextKind) (t : Result Z TextKind) → IfOk r Q → IfOk s R → IfOk t S → IfOk (r >>= (λ x. s >>= (λ y. t >>= (λ z. Ok (make x y z))))) P
    at (Ok x) (Ok y) (Ok z) q r s = makes x y z q r s
    at (Ok x) (Ok y) (Err e) q r s = tt
    at (Ok x) (Err e) t q r s = tt
    at (Err e) s t q r s' = tt

-- numbers
if_true : (t : Bool) (n : ℕ) (P : ℕ → Type 0) → (t ≡ true → P n) → IfOk (if t then Ok n else Err BadNumber) P
if_true true n P h = h refl
if_true false n P h = tt

below : (limit : ℕ) (n : Option ℕ) → IfOk (if_below limit n) (λ n. n < limit)
below limit None = tt
below limit (Some n) = if_true (nat_lt n limit) n (λ n. n < limit) (ltb-true n limit)

below_word : (limit : ℕ) (w : List ℕ) → IfOk (number_below limit w) (λ n. n < limit)
unfolding number_below
below_word limit w = below limit (number_of w)

between : (least most : ℕ) (n : Option ℕ) → IfOk (if_within least most n) (λ n. (least ≤ n) × (n ≤ most))
between least most None = tt
between least most (Some n) = if_true (nat_le least n && nat_le n most) n (λ n. (least ≤ n) × (n ≤ most)) (λ both. let parts = and_parts (nat_le least n) (nat_le n most) both in (leb-true least n parts.0, leb-true n most parts.1))

between_word : (least most : ℕ) (w : List ℕ) → IfOk (number_within least most w) (λ n. (least ≤ n) × (n ≤ most))
unfolding number_within
between_word least most w = between least most (number_of w)

-- a thing of this number
named : {A : Type 0} (P : A → Type 0) (make : ℕ → A) (limit : ℕ) (r : Result ℕ TextKind) → ((n : ℕ) → n < limit → P (make n)) → IfOk r (λ n. n < limit) → IfOk (r >>= (λ n. Ok (make n))) P
named P make limit (Ok n) h small = h n small
named P make limit (Err e) h small = tt

no_more : {B : Type 0} (P : B → Type 0) (x : B) → P x → (ws : List (List ℕ)) → IfOk (no_words x ws) P
no_more P x h [] = h
no_more P x h (w ∷ ws) = tt

any_version : (w : List ℕ) → IfOk (read_version w) (λ v. Unit {0})
any_version w = any (read_version w)
  where
    any : (r : Result Version TextKind) → IfOk r (λ v. Unit {0})
    any (Ok v) = tt
    any (Err e) = tt

module _ (b : Bounds) (t : Settings) (same : AreBounds b t) where
  core_in : (w : List ℕ) → IfOk (read_core b w) (λ c. c.0 < t.cores)
  unfolding read_core
  core_in w = named (λ (c : CoreNo). c.0 < t.cores) (λ n. record { 0 = n }) b.cores (number_below b.cores w) (λ n small. subst (λ m. n < m) (sym same.cores) small) (below_word b.cores w)

  block_in : (w : List ℕ) → IfOk (read_block b w) (λ c. c.0 < t.blocks)
  unfolding read_block
  block_in w = named (λ (c : BlockNo). c.0 < t.blocks) (λ n. record { 0 = n }) b.blocks (number_below b.blocks w) (λ n small. subst (λ m. n < m) (sym same.blocks) small) (below_word b.blocks w)

  line_in : (w : List ℕ) → IfOk (read_line b w) (λ c. c.0 < t.lines)
  unfolding read_line
  line_in w = named (λ (c : LineNo). c.0 < t.lines) (λ n. record { 0 = n }) b.lines (number_below b.lines w) (λ n small. subst (λ m. n < m) (sym same.lines) small) (below_word b.lines w)

  disp_in : (w : List ℕ) → IfOk (read_disp w) (λ d. d.0 < 16)
  unfolding read_disp
  disp_in w = named (λ (d : DispNo). d.0 < 16) (λ n. record { 0 = n }) 16 (number_below 16 w) (λ n small. small) (below_word 16 w)

  placed : (make : BlockNo → CoreNo → Command) → ((x : BlockNo) (c : CoreNo) → x.0 < t.blocks → c.0 < t.cores → CommandWithin t (make x c)) → (ws : List (List ℕ)) → IfOk (two_words (read_block b) (read_core b) make ws) (CommandWithin t)
  placed make makes ws = of_two (λ x. x.0 < t.blocks) (λ c. c.0 < t.cores) (CommandWithin t) (read_block b) (read_core b) make block_in core_in makes ws

  versioned : (make : CoreNo → Version → Command) → ((c : CoreNo) (v : Version) → c.0 < t.cores → CommandWithin t (make c v)) → (ws : List (List ℕ)) → IfOk (two_words (read_core b) read_version make ws) (CommandWithin t)
  versioned make makes ws = of_two (λ c. c.0 < t.cores) (λ v. Unit {0}) (CommandWithin t) (read_core b) read_version make core_in any_version (λ c v small any. makes c v small) ws

  command_in : (name : List ℕ) (ws : List (List ℕ)) → IfOk (command_of b name ws) (CommandWithin t)
  unfolding command_of
  command_in name ws =
      if_then (is_word "start" name) (CommandWithin t) _ _ (versioned command.Start (λ c v small. small) ws)
      (if_then (is_word "stop" name) (CommandWithin t) _ _ (of_one (λ c. c.0 < t.cores) (CommandWithin t) (read_core b) command.Stop core_in (λ c small. small) ws)
      (if_then (is_word "replace" name) (CommandWithin t) _ _ (versioned command.Replace (λ c v small. small) ws)
      (if_then (is_word "attach" name) (CommandWithin t) _ _ (placed command.Attach (λ x c small near. (small, near)) ws)
      (if_then (is_word "move" name) (CommandWithin t) _ _ (placed command.Move (λ x c small near. (small, near)) ws)
      (if_then (is_word "park" name) (CommandWithin t) _ _ (placed command.Park (λ x c small near. (small, near)) ws)
      (if_then (is_word "unpark" name) (CommandWithin t) _ _ (placed command.Unpark (λ x c small near. (small, near)) ws) tt))))))

  boot_in : (r : Result Command TextKind) → IfOk r (CommandWithin t) → IfOk (r >>= (λ c. Ok (script.Boot c))) (LineWithin t)
  boot_in (Ok c) h = h
  boot_in (Err e) h = tt

  script_line_in : (ws : List (List ℕ)) → IfOk (script_line b ws) (LineWithin t)
  unfolding script_line
  script_line_in [] = tt
  script_line_in (name ∷ ws) =
      if_then (is_word "raise" name) (LineWithin t) _ _ (of_one (λ l. l.0 < t.lines) (LineWithin t) (read_line b) script.Raise line_in (λ l small. small) ws)
      (if_then (is_word "route" name) (LineWithin t) _ _ (of_two (λ l. l.0 < t.lines) (λ c. c.0 < t.cores) (LineWithin t) (read_line b) (read_core b) script.Route line_in core_in (λ l c small near. (small, near)) ws)
      (if_then (is_word "await" name) (LineWithin t) _ _
      (of_three (λ x. x.0 < t.blocks) (λ n. (0 ≤ n) × (n ≤ 65536)) (λ n. (1 ≤ n) × (n ≤ 1000000000)) (LineWithin t) (read_block b) (number_within 0 65536) (number_within 1 1000000000) script.Await
      block_in (between_word 0 65536) (between_word 1 1000000000) (λ x n p small count polls. (small, count.1, polls.0, polls.1)) ws)
      (boot_in (command_of b name ws) (command_in name ws))))

  core_action_in : (name : List ℕ) (ws : List (List ℕ)) → IfOk (core_action_line b name ws) (λ a. IsActionOf t a.0 a.1)
  unfolding core_action_line
  core_action_in name ws =
      let Fits : Actor × Action → Type 0 = λ a. IsActionOf t a.0 a.1 in
      if_then (is_word "step" name) Fits _ _ (of_one (λ c. c.0 < t.cores) Fits (read_core b) (λ c. (actor.Core c, action.Step)) core_in (λ c small. (small, tt)) ws)
      (if_then (is_word "order" name) Fits _ _ (of_one (λ c. c.0 < t.cores) Fits (read_core b) (λ c. (actor.Core c, action.Order)) core_in (λ c small. (small, tt)) ws)
      (if_then (is_word "intake" name) Fits _ _
      (of_two (λ c. c.0 < t.cores) (λ l. l.0 < t.lines) Fits (read_core b) (read_line b) (λ c l. (actor.Core c, action.Intake l)) core_in line_in (λ c l small near. (small, near)) ws)
      (if_then (is_word "wake" name) Fits _ _
      (of_three (λ c. c.0 < t.cores) (λ x. x.0 < t.blocks) (λ d. d.0 < 16) Fits (read_core b) (read_block b) read_disp (λ c x d. (actor.Core c, action.Wake x d)) core_in block_in disp_in (λ c x d small near low. (small, (near, low))) ws)
      tt)))

  core_words_in : (ws : List (List ℕ)) → IfOk (core_words b ws) (λ a. IsActionOf t a.0 a.1)
  core_words_in [] = tt
  core_words_in (c ∷ []) = tt
  core_words_in (c ∷ name ∷ ws) = core_action_in name (c ∷ ws)

  schedule_line_in : (ws : List (List ℕ)) → IfOk (schedule_line b ws) (λ a. IsActionOf t a.0 a.1)
  unfolding schedule_line
  schedule_line_in [] = tt
  schedule_line_in (name ∷ ws) =
      let Fits : Actor × Action → Type 0 = λ a. IsActionOf t a.0 a.1 in
      if_then (is_word "core" name) Fits _ _ (core_words_in ws)
      (if_then (is_word "script" name) Fits _ _ (no_more Fits (actor.Script, action.Script) tt ws)
      (if_then (is_word "raise" name) Fits _ _ (no_more Fits (actor.Script, action.Raise) tt ws) tt))

-- each of at most so many lines
record AreAll {A : Type 0} (P : A → Type 0) (most : ℕ) (xs : List A) : Type 0 where
  few : length xs ≤ most
  all : Each xs (λ i x. P x)

lines_all : {A : Type 0} (P : A → Type 0) (read : List (List ℕ) → Result A TextKind) → ((ws : List (List ℕ)) → IfOk (read ws) P) → (left : ℕ) (lines : List Numbered) → IfOk (lines_read read left lines) (AreAll P left)
lines_all P read reads left [] = record { few = omega arith; all = each_nil (λ i x. P x) }
lines_all P read reads zero (l ∷ lines) = tt
lines_all {A} P read reads (suc left) (l ∷ lines) = at (read l.1) (lines_read read left lines) (reads l.1) (lines_all P read reads left lines)
  where
    at : (r : Result A TextKind) (s : Result (List A) TextFault) → IfOk r P → IfOk s (AreAll P left) → IfOk (fault_as (Bad l.0) r >>= (λ x. s >>= (λ xs. Ok (x ∷ xs)))) (AreAll P (suc left))
    at (Ok x) (Ok xs) p all = record { few = (let few = all.few in omega (arith, few)); all = each_cons (λ i x. P x) x xs p all.all }
    at (Ok x) (Err e) p all = tt
    at (Err e) s p all = tt

text_all : {A : Type 0} (P : A → Type 0) (read : List (List ℕ) → Result A TextKind) → ((ws : List (List ℕ)) → IfOk (read ws) P) → (most : ℕ) (text : List ℕ) (xs : List A) → text_read read most text ≡ Ok xs → AreAll P most xs
unfolding text_read
text_all {A} P read reads most text xs is =
    subst (λ r. IfOk r (AreAll P most)) is (if_then (nat_lt longest_file (length text)) (AreAll P most) (Err TooLong) (lines_read read most (counted_from 1 (lines_of text))) tt (lines_all P read reads most (counted_from 1 (lines_of text))))

pub script_valid : (b : Bounds) (text : List ℕ) (lines : List ScriptLine) → script_of b text ≡ Ok lines → (t : Settings) → AreBounds b t → IsValidScript t lines
unfolding script_of
script_valid b text lines is t same = let all = text_all (LineWithin t) (script_line b) (script_line_in b t same) 4096 text lines is in record { most = all.few; lines = all.all }

pub schedule_valid : (b : Bounds) (text : List ℕ) (lines : List (Actor × Action)) → schedule_of b text ≡ Ok lines → (t : Settings) → AreBounds b t → IsValidSchedule t lines
unfolding schedule_of
schedule_valid b text lines is t same = let all = text_all (λ a. IsActionOf t a.0 a.1) (schedule_line b) (schedule_line_in b t same) 262144 text lines is in record { most = all.few; lines = all.all }
