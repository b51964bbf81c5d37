-- What lawful histories come to: how many entries each actor made, by the counts of the state that they lead to.
use Rattle.std.proofs.Common.{◌≡◌, ℕ, zero, suc, ◌+◌, ◌*◌, ◌≤◌, ◌<◌, Bool, true, false, not, cond, List, [], ◌∷◌, Option, Some, None, refl, ap, sym, subst, ◌∙◌, inl, inr, arith, length, map, replicate}
use Rattle.std.specs.Prelude.{slice_get, count_by, ◌==◌, IsSome}
use Rattle.std.specs.Option.{option_map_or}
use Rattle.std.proofs.lemmas.Bool.Decides.{nat_tests}
use Rattle.std.proofs.lemmas.List.Sums.{sum_by-cons, sum_by-take-le}
use Rattle.dc_base.specs.declared.actions.Actor.{Actor}
use Rattle.dc_base.specs.declared.actions.Actor.TheVariants as actor
use Rattle.dc_base.specs.declared.actions.Action.{Action}
use Rattle.dc_base.specs.declared.actions.Action.TheVariants as action
use Rattle.dc_base.specs.declared.commands.ScriptLine.{ScriptLine}
use Rattle.dc_base.specs.declared.commands.ScriptLine.TheVariants as script
use Rattle.dc_base.specs.declared.entries.Entry.{Entry}
use Rattle.dc_base.specs.declared.images.CoreImage.{CoreImage}
use Rattle.dc_base.specs.declared.images.Image.{Image}
use Rattle.dc_base.specs.Actions.{action_of, polls_of}
use Rattle.dc_base.specs.Bounded.{budget}
use Rattle.dc_base.specs.Changes.{Change, apply}
use Rattle.dc_base.specs.Cores.{turn_of}
use Rattle.dc_base.specs.Histories.{actor_number, IsLawful, IsLawfulBy, IsLawfulHistory, changes_in, next, after}
use Rattle.dc_base.specs.Progress.{boot_command}
use Rattle.dc_base.specs.Script.{is_command, next_raise}
use Rattle.dc_base.specs.ScriptForm.{raise_lines, IsInForm}
use Rattle.dc_base.specs.Sound.{IsSound}
use Rattle.dc_base.specs.States.{State, Settings, Core, Script, empty, idle_wire, core_start, settings_of}
use Rattle.dc_base.specs.Turns.{Outcome, did, not_enabled, spent, outcome}
use Rattle.dc_base.specs.Words.{bind}
use Rattle.dc_stage.specs.History.{Log, own}
use Rattle.dc_block_sound.proofs.Elements.{same_or_not, other_is}
use Rattle.dc_ranges.proofs.Bounds.{budget_most}
use Rattle.dc_counts.specs.Made.{made_by}
use Rattle.dc_counts.proofs.Counted.{bit, take_one}
use Rattle.dc_counts.proofs.Tallies.{used_at, is_order, orders_in, has_pending, pending_in, commands_above, asked, told, CoreMade, ScriptMade}
use Rattle.dc_counts.proofs.CoreEntries.{Comes_at, Comes_of, core_comes}
use Rattle.dc_counts.proofs.ScriptEntries.{Makes, Comes, posts_few, script_comes, raise_comes}

-- who made an entry, which led from s to u
data EntryMade (t : Settings) (s : State) (by : ℕ) (u : State) : Type 0 where
  by_core : CoreMade by s u → EntryMade t s by u
  by_script : by ≡ t.cores → ScriptMade s u → EntryMade t s by u

-- an entry that a turn comes to

core_did : (s : State) (c : ℕ) (o : Outcome) (changes : List Change) (e : Entry) → o ≡ did changes e → Comes_at s c o → CoreMade c s (apply s (changes_in o))
core_did s c (did chs f) changes e is made = made
core_did s c (not_enabled why) changes e is made = absurd cc
core_did s c spent changes e is made = absurd cc

script_did : (s : State) (p : IsInForm s) (o : Outcome) (changes : List Change) (e : Entry) → o ≡ did changes e → Makes s p o → ScriptMade s (apply s (changes_in o))
script_did s p (did chs f) changes e is made = made
script_did s p (not_enabled why) changes e is made = absurd cc
script_did s p spent changes e is made = absurd cc

script_turn_comes : (s : State) (p : IsInForm s) (polls : Script → ℕ) (a : Action) → Comes s p (turn_of polls actor.Script a)
unfolding turn_of
script_turn_comes s p polls action.Script = script_comes s p (polls s.script)
script_turn_comes s p polls action.Raise = raise_comes s p (next_raise s.script.lines s.script.raises)
script_turn_comes s p polls action.Step = tt
script_turn_comes s p polls action.Order = tt
script_turn_comes s p polls (action.Intake l) = tt
script_turn_comes s p polls (action.Wake b d) = tt

core_turn_comes : (s : State) (c : ℕ) (polls : Script → ℕ) (a : Action) → Comes_of s c (turn_of polls (actor.Core (record { 0 = c })) a)
unfolding turn_of
core_turn_comes s c polls a = core_comes s c a (slice_get s.cores c) refl

made_of : (t : Settings) (s : State) → IsInForm s → (by : ℕ) (who : Actor) (polls : Script → ℕ) (a : Action) (changes : List Change) (e : Entry) → actor_number t who ≡ by →
    outcome s (turn_of polls who a) ≡ did changes e → EntryMade t s by (apply s (changes_in (outcome s (turn_of polls who a))))
made_of t s p by (actor.Core c) polls a changes e number is =
    by_core (subst (λ n. CoreMade n s (apply s (changes_in (outcome s (turn_of polls (actor.Core c) a))))) number (core_did s c.0 (outcome s (turn_of polls (actor.Core c) a)) changes e is (core_turn_comes s c.0 polls a)))
made_of t s p by actor.Script polls a changes e number is = by_script (sym number) (script_did s p (outcome s (turn_of polls actor.Script a)) changes e is (script_turn_comes s p polls a))

entry_made : (t : Settings) (s : State) → IsInForm s → (by : ℕ) (e : Entry) → IsLawfulBy t s by e → EntryMade t s by (next s e)
unfolding IsLawful next
entry_made t s p by e lawful = made_of t s p by e.actor (polls_of e.what) (action_of e.what) lawful.1.0 e lawful.0 lawful.1.1

-- how many entries each actor made on the way from s to u
record Bounds (t : Settings) (s u : State) (history : Log Entry) : Type 0 where
  pub cores : (c : ℕ) → c < t.cores → made_by c history + used_at s c + asked s.script + orders_in u + pending_in u ≤ used_at u c + asked u.script + orders_in s + pending_in s
  pub script : made_by t.cores history + told s.script ≤ told u.script
  pub all : length history + budget s + asked s.script + told s.script + orders_in u + pending_in u ≤ budget u + asked u.script + told u.script + orders_in s + pending_in s
  pub lines : u.script.lines ≡ s.script.lines
  pub settings : u.script.settings ≡ s.script.settings
  pub sound : IsSound u

own_here : (a b : ℕ) (e : Entry) (history : Log Entry) → a ≡ b → made_by a ((b, e) ∷ history) ≡ made_by a history + 1
own_here a b e history same = let t : (a == b) ≡ true = grind (arith, nat_tests, same) in ap (λ u. length (cond u ((b, e) ∷ own a history) (own a history))) t ∙ omega arith

own_other : (a b : ℕ) (e : Entry) (history : Log Entry) → (a ≡ b → ⊥) → made_by a ((b, e) ∷ history) ≡ made_by a history
own_other a b e history other = ap (λ u. length (cond u ((b, e) ∷ own a history) (own a history))) (other_is a b other)

-- one entry more before the others
one_more : (t : Settings) (s v u : State) (by : ℕ) (e : Entry) (history : Log Entry) → IsSound s → s.script.settings ≡ t → EntryMade t s by v → Bounds t v u history → Bounds t s u ((by, e) ∷ history)
one_more t s v u by e history sound settled (by_core made) more = record {
  cores = cores;
  script =
      let other = own_other t.cores by e history (λ same. not_script same) in
      let rest = more.script in
      let same : told v.script ≡ told s.script = ap told made.script in
      omega (arith, other, rest, same);
  all =
      let rest = more.all in
      let one = made.all in
      let asks : asked v.script ≡ asked s.script = ap asked made.script in
      let tells : told v.script ≡ told s.script = ap told made.script in
      omega (arith, rest, one, asks, tells);
  lines = more.lines ∙ ap (λ (x : Script). x.lines) made.script;
  settings = more.settings ∙ ap (λ (x : Script). x.settings) made.script;
  sound = more.sound;
}
  where
    not_script : t.cores ≡ by → ⊥
    not_script same = let within = made.core in let many = sound.settled.cores in let n : s.script.settings.cores ≡ t.cores = ap (λ (x : Settings). x.cores) settled in absurd (omega (arith, within, many, n, same))

    asks : asked v.script ≡ asked s.script
    asks = ap asked made.script

    cores : (c : ℕ) → c < t.cores → made_by c ((by, e) ∷ history) + used_at s c + asked s.script + orders_in u + pending_in u ≤ used_at u c + asked u.script + orders_in s + pending_in s
    cores c within = elim (same_or_not c by) [
      | inl same ↦
          let here = own_here c by e history same in
          let rest = more.cores c within in
          let one : used_at s c + orders_in v + pending_in v + 1 ≤ used_at v c + orders_in s + pending_in s = subst (λ n. used_at s n + orders_in v + pending_in v + 1 ≤ used_at v n + orders_in s + pending_in s) (sym same) made.one in
          omega (arith, here, rest, one, asks)
      | inr other ↦
          let none = own_other c by e history other in
          let rest = more.cores c within in
          let used = made.used c in
          let orders = made.orders in
          let pending = made.pending in
          omega (arith, none, rest, used, orders, pending, asks)
    ]
one_more t s v u by e history sound settled (by_script number made) more = record {
  cores = λ c within.
      let none = own_other c by e history (λ same. absurd (omega (arith, within, number, same))) in
      let rest = more.cores c within in
      let used : used_at v c ≡ used_at s c = ap (λ cs. option_map_or (λ (k : Core). k.used) (slice_get cs c) 0) made.cores in
      let asks = made.asks in
      omega (arith, none, rest, used, asks);
  script = let here = own_here t.cores by e history (sym number) in let rest = more.script in let one = made.one in omega (arith, here, rest, one);
  all =
      let rest = more.all in
      let same : budget v ≡ budget s = ap (λ cs. budget (record s { cores = cs })) made.cores in
      let asks = made.asks in
      let one = made.one in
      omega (arith, rest, same, asks, one);
  lines = more.lines ∙ made.lines;
  settings = more.settings ∙ made.settings;
  sound = more.sound;
}

-- the settings stay
settings_after : (t : Settings) (s v : State) (by : ℕ) → EntryMade t s by v → v.script.settings ≡ s.script.settings
settings_after t s v by (by_core made) = ap (λ (x : Script). x.settings) made.script
settings_after t s v by (by_script number made) = made.settings

-- each entry keeps soundness
abbrev pub KeepsSound : Type 0
KeepsSound = (s : State) (e : Entry) → IsSound s → IsLawful s e → IsSound (next s e)

bounds : KeepsSound → (t : Settings) (s : State) (history : Log Entry) → IsSound s → s.script.settings ≡ t → IsLawfulHistory t s history → Bounds t s (after s history) history
bounds keeps t s [] sound settled lawful = record { cores = λ c within. omega arith; script = omega arith; all = omega arith; lines = refl; settings = refl; sound = sound }
bounds keeps t s (e ∷ es) sound settled lawful =
    let made = entry_made t s sound.in_form e.0 e.1 lawful.0 in
    let more = bounds keeps t (next s e.1) es (keeps s e.1 sound lawful.0.1) (settings_after t s (next s e.1) e.0 made ∙ settled) lawful.1 in
    one_more t s (next s e.1) (after (next s e.1) es) e.0 e.1 es sound settled made more

-- the script's counts stay within its lines

parts : (lines : List ScriptLine) → count_by is_command lines + raise_lines lines ≡ length lines
parts [] = refl
parts (l ∷ ls) =
    let a = sum_by-cons (λ x. bit (is_command x)) l ls in
    let b = sum_by-cons (λ x. bit (not (is_command x))) l ls in
    let one = either (is_command l) in
    let more = parts ls in
    omega (arith, a, b, one, more)
  where
    either : (t : Bool) → bit t + bit (not t) ≡ 1
    either true = refl
    either false = refl

-- posts are made for a command, which is not above the place
posts_at : (s : State) → IsInForm s → 2 * commands_above s.script + s.script.posts ≤ 2 * count_by is_command s.script.lines
posts_at s p = by_posts s.script.posts refl
  where
    at_place : (o : Option ScriptLine) → slice_get s.script.lines s.script.place ≡ o → IsSome (bind o boot_command) → commands_above s.script + 1 ≤ count_by is_command s.script.lines
    at_place None at there = absurd (cc there)
    at_place (Some (script.Boot m)) at there =
        let one = take_one is_command s.script.lines s.script.place (script.Boot m) at refl in
        let most = sum_by-take-le (λ x. bit (is_command x)) s.script.lines (s.script.place + 1) in
        omega (arith, one, most)
    at_place (Some (script.Raise l)) at there = absurd (cc there)
    at_place (Some (script.Route l c)) at there = absurd (cc there)
    at_place (Some (script.Await b words limit)) at there = absurd (cc there)

    by_posts : (n : ℕ) → s.script.posts ≡ n → 2 * commands_above s.script + s.script.posts ≤ 2 * count_by is_command s.script.lines
    by_posts zero is = let most = sum_by-take-le (λ x. bit (is_command x)) s.script.lines s.script.place in omega (arith, is, most)
    by_posts (suc n) is =
        let few = posts_few s p in
        let one = at_place (slice_get s.script.lines s.script.place) refl (p.posts.command (omega (arith, is))) in
        omega (arith, few, one)

asked_most : (s : State) → IsInForm s → asked s.script ≤ 2 * length s.script.lines
asked_most s p = let all = parts s.script.lines in let posts = posts_at s p in let raises = p.raises in omega (arith, all, posts, raises)

told_most : (s : State) → IsInForm s → told s.script ≤ 3 * length s.script.lines
told_most s p =
    let all = parts s.script.lines in
    let posts = posts_at s p in
    let above = sum_by-take-le (λ x. bit (is_command x)) s.script.lines s.script.place in
    let raises = p.raises in
    omega (arith, all, posts, above, raises)

used_most : (s : State) → IsSound s → (c : ℕ) → used_at s c ≤ s.script.settings.slices
used_most s p c = by_core (slice_get s.cores c) refl
  where
    by_core : (o : Option Core) → slice_get s.cores c ≡ o → option_map_or (λ (k : Core). k.used) o 0 ≤ s.script.settings.slices
    by_core None at = omega arith
    by_core (Some k) at = let most = p.counted.used c k at in let same : k.settings.slices ≡ s.script.settings.slices = ap (λ (x : Settings). x.slices) (p.settled.same c k at) in omega (arith, most, same)

-- at the start no order waits, and no raise is pending

no_orders : (cores : List CoreImage) → count_by is_order (map (λ (c : CoreImage). empty) cores) ≡ 0
no_orders [] = refl
no_orders (c ∷ cs) = let a = sum_by-cons (λ m. bit (is_order m)) empty (map (λ (k : CoreImage). empty) cs) in let more = no_orders cs in omega (arith, a, more)

no_pending : (n : ℕ) → count_by has_pending (replicate n idle_wire) ≡ 0
no_pending zero = refl
no_pending (suc n) = let a = sum_by-cons (λ w. bit (has_pending w)) idle_wire (replicate n idle_wire) in let more = no_pending n in omega (arith, a, more)

module _ (keeps : KeepsSound) (image : Image) (lines : List ScriptLine) (history : Log Entry) (sound : IsSound (core_start image lines)) (lawful : IsLawfulHistory (settings_of image) (core_start image lines) history) where
  abbrev start : State
  start = core_start image lines

  abbrev end : State
  end = after start history

  kept_lines : (core_start image lines).script.lines ≡ lines
  unfolding core_start
  kept_lines = refl

  kept_settings : (core_start image lines).script.settings ≡ settings_of image
  unfolding core_start
  kept_settings = refl

  nothing_waits : orders_in (core_start image lines) ≡ 0
  unfolding core_start
  nothing_waits = no_orders image.cores

  nothing_pends : pending_in (core_start image lines) ≡ 0
  unfolding core_start
  nothing_pends = no_pending image.lines

  whole : Bounds (settings_of image) start end history
  whole = bounds keeps (settings_of image) start history sound kept_settings lawful

  as_many : length end.script.lines ≡ length lines
  as_many = ap length (whole.lines ∙ kept_lines)

  pub core_few : (c : ℕ) → c < length image.cores → made_by c history ≤ image.slices + 2 * length lines
  core_few c within =
      let made = whole.cores c within in
      let asks = asked_most end whole.sound.in_form in
      let used = used_most end whole.sound c in
      let slices : end.script.settings.slices ≡ image.slices = ap (λ (x : Settings). x.slices) (whole.settings ∙ kept_settings) in
      let many = as_many in
      let orders = nothing_waits in
      let pending = nothing_pends in
      omega (arith, made, asks, used, slices, many, orders, pending)

  pub script_few : made_by (length image.cores) history ≤ 3 * length lines
  script_few = let made = whole.script in let tells = told_most end whole.sound.in_form in let many = as_many in omega (arith, made, tells, many)

  pub all_few : length history ≤ 241664 + 5 * length lines
  all_few =
      let made = whole.all in
      let asks = asked_most end whole.sound.in_form in
      let tells = told_most end whole.sound.in_form in
      let used = budget_most end whole.sound in
      let many = as_many in
      let orders = nothing_waits in
      let pending = nothing_pends in
      omega (arith, made, asks, tells, used, many, orders, pending)
