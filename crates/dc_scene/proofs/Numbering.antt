-- The objects by number are the list of all objects.
use Rattle.std.proofs.Common.{◌≡◌, ℕ, zero, suc, ◌+◌, ◌<◌, ◌≤◌, Bool, true, false, List, [], ◌∷◌, ◌++◌, Option, Some, None, refl, sym, ap, ◌∙◌, map, length, length-append, append_assoc, arith}
use Rattle.std.specs.Prelude.{slice_get, ◌-◌, ◌==◌, nat_lt, if◌then◌else◌}
use Rattle.std.specs.Option.{option_map}
use Rattle.std.proofs.lemmas.Option.{slice_get-map}
use Rattle.std.proofs.lemmas.List.{length-map}
use Rattle.dc_base.specs.Words.{bind}
use Rattle.dc_base.specs.States.{State, Settings}
use Rattle.dc_base.specs.Changes.{Name, a_core, a_block, a_channel, a_line, a_mailbox, a_console, the_script, Object, core, block, channel, wire, mailbox, console, script, at}
use Rattle.dc_base.specs.Objects.{first_block, first_channel, first_line, first_mailbox, first_console, script_number, name_at, at_number, objects, HasSizes}
use Rattle.dc_touch.proofs.Numbers.{is_below, is_above}

in_front : {A : Type 0} (xs ys : List A) (i : ℕ) → i < length xs → slice_get (xs ++ ys) i ≡ slice_get xs i
in_front [] ys i h = absurd (omega (arith, h))
in_front (x ∷ xs) ys zero h = refl
in_front (x ∷ xs) ys (suc i) h = in_front xs ys i (omega (arith, h))

behind : {A : Type 0} (xs ys : List A) (i k : ℕ) → i ≡ length xs + k → slice_get (xs ++ ys) i ≡ slice_get ys k
behind [] ys i k h = let e : i ≡ k = omega (arith, h) in ap (slice_get ys) e
behind (x ∷ xs) ys zero k h = absurd (omega (arith, h))
behind (x ∷ xs) ys (suc i) k h = behind xs ys i k (omega (arith, h))

regrouped : {A : Type 0} (a b c d e f g : List A) → a ++ b ++ c ++ d ++ e ++ f ++ g ≡ a ++ (b ++ (c ++ (d ++ (e ++ (f ++ g)))))
regrouped a b c d e f g = simp append_assoc refl

-- the same list, grouped from behind
abbrev in_row : State → List Object
in_row s = map core s.cores ++ (map block s.blocks ++ (map channel s.channels ++ (map wire s.lines ++ (map mailbox s.mailboxes ++ (map console s.consoles ++ (script s.script ∷ []))))))

objects_row : (s : State) → objects s ≡ in_row s
unfolding objects
objects_row s = regrouped (map core s.cores) (map block s.blocks) (map channel s.channels) (map wire s.lines) (map mailbox s.mailboxes) (map console s.consoles) (script s.script ∷ [])

module _ (t : Settings) (s : State) (z : HasSizes t s) (i : ℕ) where
  -- the objects of a kind, from number a to below b, and those behind them
  kind_there : {X : Type 0} (f : X → Object) (xs : List X) (ys : List Object) (name : Name) (behind_them : Option Name) (a b n : ℕ) (v : Bool)
      → nat_lt i b ≡ v → a ≤ i → length xs ≡ n → b ≡ a + n → at s name ≡ option_map f (slice_get xs (i - a)) → (b ≤ i → bind behind_them (at s) ≡ slice_get ys (i - b))
      → bind (if v then Some name else behind_them) (at s) ≡ slice_get (map f xs ++ ys) (i - a)
  kind_there f xs ys name behind_them a b n true h low count next found more =
      let inside : i - a < length (map f xs) = omega (arith, is_below i b h, low, count, next, length-map xs f) in
      found ∙ (sym (slice_get-map f xs (i - a)) ∙ sym (in_front (map f xs) ys (i - a) inside))
  kind_there f xs ys name behind_them a b n false h low count next found more =
      let past : b ≤ i = is_above i b h in
      let far : i - a ≡ length (map f xs) + (i - b) = omega (arith, past, low, count, next, length-map xs f) in
      more past ∙ sym (behind (map f xs) ys (i - a) (i - b) far)

  script_there : (b : Bool) → i == script_number t ≡ b → script_number t ≤ i → bind (if b then Some the_script else None) (at s) ≡ slice_get (script s.script ∷ []) (i - script_number t)
  script_there true h low = let e : i - script_number t ≡ 0 = grind (arith, h) in rw e refl
  script_there false h low = let e : i - script_number t ≡ suc (i - script_number t - 1) = grind (arith, h, low) in rw e refl

  -- the state of the object of each number is that in the list of all objects
  pub at_objects : at_number t s i ≡ slice_get (objects s) i
  unfolding at_number name_at
  at_objects =
      let e : i - 0 ≡ i = omega arith in
      kind_there core s.cores _ (a_core i) _ 0 (first_block t) t.cores _ refl (omega arith) z.cores (omega arith) (ap (λ k. option_map core (slice_get s.cores k)) (sym e)) (λ low.
      kind_there block s.blocks _ (a_block (i - first_block t)) _ (first_block t) (first_channel t) t.blocks _ refl low z.blocks refl refl (λ low.
      kind_there channel s.channels _ (a_channel (i - first_channel t)) _ (first_channel t) (first_line t) t.channels _ refl low z.channels refl refl (λ low.
      kind_there wire s.lines _ (a_line (i - first_line t)) _ (first_line t) (first_mailbox t) t.lines _ refl low z.lines refl refl (λ low.
      kind_there mailbox s.mailboxes _ (a_mailbox (i - first_mailbox t)) _ (first_mailbox t) (first_console t) t.cores _ refl low z.mailboxes refl refl (λ low.
      kind_there console s.consoles _ (a_console (i - first_console t)) _ (first_console t) (script_number t) t.blocks _ refl low z.consoles refl refl (λ low.
      script_there _ refl low))))))
      ∙ (ap (slice_get (in_row s)) e ∙ ap (λ os. slice_get os i) (sym (objects_row s)))

counted : {X : Type 0} (f : X → Object) (xs : List X) (ys : List Object) (n m : ℕ) → length xs ≡ n → length ys ≡ m → length (map f xs ++ ys) ≡ n + m
counted f xs ys n m h k = rw (length-append, length-map, h, k) refl

-- there are as many objects as the settings say
pub objects_count : (t : Settings) (s : State) → HasSizes t s → length (objects s) ≡ t.cores + t.blocks + t.channels + t.lines + t.cores + t.blocks + 1
objects_count t s z =
    let e : length (in_row s) ≡ t.cores + (t.blocks + (t.channels + (t.lines + (t.cores + (t.blocks + 1))))) =
    counted core s.cores _ _ _ z.cores (counted block s.blocks _ _ _ z.blocks (counted channel s.channels _ _ _ z.channels
    (counted wire s.lines _ _ _ z.lines (counted mailbox s.mailboxes _ _ _ z.mailboxes (counted console s.consoles _ _ _ z.consoles refl))))) in
    ap length (objects_row s) ∙ (e ∙ omega arith)
