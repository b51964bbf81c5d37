-- What a lawful entry of a sound state touches exists, and has a number of its own.
use Rattle.std.proofs.Common.{◌≡◌, inl, inr, ℕ, ◌+◌, ◌<◌, List, [], ◌∷◌, Option, Some, None, refl, sym, ap, ◌∙◌, subst, map, length, arith}
use Rattle.std.specs.Prelude.{slice_get, IsSome}
use Rattle.std.specs.Option.{option_map}
use Rattle.std.proofs.lemmas.Option.{slice_get_within}
use Rattle.dc_base.specs.declared.entries.Entry.{Entry}
use Rattle.dc_base.specs.Actions.{action_of, polls_of}
use Rattle.dc_base.specs.Words.{bind}
use Rattle.dc_base.specs.Changes.{Name, a_core, a_block, a_channel, a_line, a_mailbox, a_console, the_script, Object, core, block, channel, wire, mailbox, console, at}
use Rattle.dc_base.specs.Histories.{touched, IsLawful, Listed}
use Rattle.dc_base.specs.Objects.{script_number, object_number, name_at, at_number, touched_numbers, HasSizes}
use Rattle.dc_base.specs.Sound.{IsSound}
use Rattle.dc_base.specs.States.{State, Settings}
use Rattle.dc_touch.specs.Numbered.{IsAmong}
use Rattle.dc_touch.specs.Within.{Within}
use Rattle.dc_touch.proofs.Existing.{one_there, all_found}
use Rattle.dc_touch.proofs.Numbers.{name_at-number}

-- each object that is touched exists
pub touched_there : (s : State) (e : Entry) → IsSound s → IsLawful s e → (n : Name) → Listed n (touched s e) → IsSome (at s n)
unfolding touched IsLawful
touched_there s e p h n l = one_there s _ n (all_found s p h.0 e (polls_of e.what) e.actor (action_of e.what) h.1) l

-- an object that exists is one of those that the settings count
there_within : {A : Type 0} (f : A → Object) (xs : List A) (i m : ℕ) → length xs ≡ m → (o : Option A) → slice_get xs i ≡ o → IsSome (option_map f o) → i < m
there_within f xs i m e None q h = absurd cc
there_within f xs i m e (Some x) q h = let w = slice_get_within xs i x q in omega (arith, w, e)

within_at : (t : Settings) (s : State) → HasSizes t s → (n : Name) → IsSome (at s n) → Within t n
within_at t s z (a_core c) h = there_within core s.cores c t.cores z.cores (slice_get s.cores c) refl h
within_at t s z (a_block b) h = there_within block s.blocks b t.blocks z.blocks (slice_get s.blocks b) refl h
within_at t s z (a_channel x) h = there_within channel s.channels x t.channels z.channels (slice_get s.channels x) refl h
within_at t s z (a_line l) h = there_within wire s.lines l t.lines z.lines (slice_get s.lines l) refl h
within_at t s z (a_mailbox c) h = there_within mailbox s.mailboxes c t.cores z.mailboxes (slice_get s.mailboxes c) refl h
within_at t s z (a_console b) h = there_within console s.consoles b t.blocks z.consoles (slice_get s.consoles b) refl h
within_at t s z the_script h = tt

number_below : (t : Settings) (n : Name) → Within t n → object_number t n < script_number t + 1
unfolding object_number
number_below t (a_core c) h = omega (arith, h)
number_below t (a_block b) h = omega (arith, h)
number_below t (a_channel x) h = omega (arith, h)
number_below t (a_line l) h = omega (arith, h)
number_below t (a_mailbox c) h = omega (arith, h)
number_below t (a_console b) h = omega (arith, h)
number_below t the_script h = omega arith

-- a number among those of names is that of one of them
among_named : (t : Settings) (i : ℕ) (ns : List Name) → IsAmong i (map (object_number t) ns) → (n : Name) × Listed n ns × (i ≡ object_number t n)
among_named t i [] h = absurd h
among_named t i (m ∷ ns) (inl e) = (m, inl refl, e)
among_named t i (m ∷ ns) (inr h) = let more = among_named t i ns h in (more.0, inr more.1, more.2)

module _ (t : Settings) (s : State) (e : Entry) (z : HasSizes t s) (p : IsSound s) (lawful : IsLawful s e) where
  touched_within : (n : Name) → Listed n (touched s e) → Within t n
  touched_within n l = within_at t s z n (touched_there s e p lawful n l)

  pub touched_named : (n : Name) → Listed n (touched s e) → name_at t (object_number t n) ≡ Some n
  touched_named n l = name_at-number t n (touched_within n l)

  -- two of them have two numbers
  pub touched_apart : (m n : Name) → Listed m (touched s e) → Listed n (touched s e) → object_number t m ≡ object_number t n → m ≡ n
  touched_apart m n k l q = let one : Some m ≡ Some n = sym (touched_named m k) ∙ ap (name_at t) q ∙ touched_named n l in cc

  number_there : (n : Name) → Listed n (touched s e) → IsSome (at_number t s (object_number t n))
  unfolding at_number
  number_there n l = subst (λ o. IsSome (bind o (at s))) (sym (touched_named n l)) (touched_there s e p lawful n l)

  pub touched_numbered : (i : ℕ) → IsAmong i (touched_numbers t s e) → (i < script_number t + 1) × IsSome (at_number t s i)
  unfolding touched_numbers
  touched_numbered i h =
      let one = among_named t i (touched s e) h in
      (subst (λ i. i < script_number t + 1) (sym one.2) (number_below t one.0 (touched_within one.0 one.1)), subst (λ i. IsSome (at_number t s i)) (sym one.2) (number_there one.0 one.1))
