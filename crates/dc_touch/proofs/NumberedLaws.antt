-- An entry and what it touches, by the numbers of objects.
use Rattle.std.proofs.Common.{◌≡◌, ℕ, zero, suc, List, [], ◌∷◌, Bool, true, false, Option, Some, None, refl, sym, ap, ◌∙◌, subst, map, inl, inr, arith, length}
use Rattle.std.specs.Prelude.{slice_get, nat_lt, ◌-◌}
use Rattle.std.specs.Option.{option_map}
use Rattle.dc_base.specs.declared.entries.Entry.{Entry}
use Rattle.dc_base.specs.Words.{bind}
use Rattle.dc_base.specs.States.{State, Settings}
use Rattle.dc_base.specs.Changes.{Name, a_core, a_block, a_channel, a_line, a_mailbox, a_console, the_script, core, block, channel, wire, mailbox, console, at, apply}
use Rattle.dc_base.specs.Turns.{outcome}
use Rattle.dc_base.specs.Histories.{turn_of_entry, touched, IsLawful, IsLawfulBy, changes_in, next, Listed, Agree}
use Rattle.dc_base.specs.Objects.{object_number, name_at, at_number, touched_numbers, HasSizes}
use Rattle.dc_touch.specs.Numbered.{IsAmong, AgreeAt, IsLocalAt}
use Rattle.dc_touch.specs.Within.{Within}
use Rattle.dc_touch.proofs.Frames.{apply-alike}
use Rattle.dc_touch.proofs.Looks.{turn_alike}
use Rattle.dc_touch.proofs.Numbers.{above, is_below, is_above, name_at-number, number-name_at}
use Rattle.dc_touch.proofs.Laws.{local, untouched}

among_by_name : (t : Settings) (n : Name) (ns : List Name) → Listed n ns → IsAmong (object_number t n) (map (object_number t) ns)
among_by_name t n [] h = absurd h
among_by_name t n (m ∷ ns) (inl e) = inl (ap (object_number t) e)
among_by_name t n (m ∷ ns) (inr h) = inr (among_by_name t n ns h)

module _ (t : Settings) (s : State) (e : Entry) (lawful : IsLawful s e) (i : ℕ) (out : IsAmong i (touched_numbers t s e) → ⊥) where
  keeps_by : (o : Option Name) → name_at t i ≡ o → bind o (at (next s e)) ≡ bind o (at s)
  unfolding touched_numbers
  keeps_by None h = refl
  keeps_by (Some n) h = untouched s e lawful n (λ l. out (subst (λ j. IsAmong j (map (object_number t) (touched s e))) (number-name_at t i n h) (among_by_name t n (touched s e) l)))

  -- an object whose number is not touched keeps its state
  pub untouched_number : at_number t (next s e) i ≡ at_number t s i
  unfolding at_number
  untouched_number = keeps_by (name_at t i) refl

beyond : {A : Type 0} (xs : List A) (i n : ℕ) → length xs ≡ n → nat_lt i n ≡ false → slice_get xs i ≡ None
beyond [] i n h k = refl
beyond (x ∷ xs) zero n h k = absurd (omega (arith, h, is_above zero n k))
beyond (x ∷ xs) (suc i) n h k = beyond xs i (n - 1) (omega (arith, h)) (above i (n - 1) (omega (arith, is_above (suc i) n k)))

module _ (t : Settings) where
  -- the object is within the settings, or no state of these sizes has it
  pub data Found (n : Name) : Type 0 where
    within : Within t n → Found n
    nowhere : ((s : State) → HasSizes t s → at s n ≡ None) → Found n

  found_core : (c : ℕ) (b : Bool) → nat_lt c t.cores ≡ b → Found (a_core c)
  found_core c true h = within (is_below c t.cores h)
  found_core c false h = nowhere (λ s z. ap (option_map core) (beyond s.cores c t.cores z.cores h))

  found_block : (c : ℕ) (b : Bool) → nat_lt c t.blocks ≡ b → Found (a_block c)
  found_block c true h = within (is_below c t.blocks h)
  found_block c false h = nowhere (λ s z. ap (option_map block) (beyond s.blocks c t.blocks z.blocks h))

  found_channel : (c : ℕ) (b : Bool) → nat_lt c t.channels ≡ b → Found (a_channel c)
  found_channel c true h = within (is_below c t.channels h)
  found_channel c false h = nowhere (λ s z. ap (option_map channel) (beyond s.channels c t.channels z.channels h))

  found_line : (c : ℕ) (b : Bool) → nat_lt c t.lines ≡ b → Found (a_line c)
  found_line c true h = within (is_below c t.lines h)
  found_line c false h = nowhere (λ s z. ap (option_map wire) (beyond s.lines c t.lines z.lines h))

  found_mailbox : (c : ℕ) (b : Bool) → nat_lt c t.cores ≡ b → Found (a_mailbox c)
  found_mailbox c true h = within (is_below c t.cores h)
  found_mailbox c false h = nowhere (λ s z. ap (option_map mailbox) (beyond s.mailboxes c t.cores z.mailboxes h))

  found_console : (c : ℕ) (b : Bool) → nat_lt c t.blocks ≡ b → Found (a_console c)
  found_console c true h = within (is_below c t.blocks h)
  found_console c false h = nowhere (λ s z. ap (option_map console) (beyond s.consoles c t.blocks z.consoles h))

  found : (n : Name) → Found n
  found (a_core c) = found_core c (nat_lt c t.cores) refl
  found (a_block b) = found_block b (nat_lt b t.blocks) refl
  found (a_channel x) = found_channel x (nat_lt x t.channels) refl
  found (a_line l) = found_line l (nat_lt l t.lines) refl
  found (a_mailbox c) = found_mailbox c (nat_lt c t.cores) refl
  found (a_console b) = found_console b (nat_lt b t.blocks) refl
  found the_script = within tt

  -- the state at the number of an object within the settings
  at_its_number : (s : State) (n : Name) → Within t n → at_number t s (object_number t n) ≡ at s n
  unfolding at_number
  at_its_number s n h = ap (λ o. bind o (at s)) (name_at-number t n h)

  module _ (s u : State) (sizes_s : HasSizes t s) (sizes_u : HasSizes t u) (e : Entry) (alike : AgreeAt t s u (touched_numbers t s e)) where
    agree_at : (n : Name) → Listed n (touched s e) → Found n → at s n ≡ at u n
    unfolding touched_numbers
    agree_at n l (within h) = sym (at_its_number s n h) ∙ alike (object_number t n) (among_by_name t n (touched s e) l) ∙ at_its_number u n h
    agree_at n l (nowhere h) = h s sizes_s ∙ sym (h u sizes_u)

    agree_names : Agree s u (touched s e)
    agree_names n l = agree_at n l (found n)

    next_alike : (n : Name) → at s n ≡ at u n → at (next u e) n ≡ at (next s e) n
    unfolding touched next
    next_alike n h =
        let a = turn_alike s u (turn_of_entry e) agree_names in
        ap (λ o. at (apply u (changes_in o)) n) (sym a.outcomes) ∙ sym (apply-alike (changes_in (outcome s (turn_of_entry e))) s u n h)

    next_by : (i : ℕ) (o : Option Name) → bind o (at s) ≡ bind o (at u) → bind o (at (next u e)) ≡ bind o (at (next s e))
    next_by i None h = refl
    next_by i (Some n) h = next_alike n h

    -- states that agree on what a lawful entry touches in the one, by number
    pub local_number : (by : ℕ) → IsLawfulBy t s by e → IsLocalAt t s u by e
    unfolding at_number touched_numbers
    local_number by h =
        let l = local s u e h.1 agree_names in
        record {
          touched_same = ap (map (object_number t)) l.touched_same;
          lawful = (h.0, l.lawful);
          next_same = λ i k. next_by i (name_at t i) (alike i k);
        }
