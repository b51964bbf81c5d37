-- Objects and their numbers.
use Rattle.std.proofs.Common.{◌≡◌, ℕ, ◌<◌, ◌≤◌, ◌+◌, Bool, true, false, Some, None, refl, subst, arith, rules}
use Rattle.std.specs.Prelude.{◌-◌, ◌==◌, nat_lt, if◌then◌else◌}
use Rattle.dc_base.specs.States.{Settings}
use Rattle.dc_base.specs.Changes.{Name, a_core, a_block, a_channel, a_line, a_mailbox, a_console, the_script}
use Rattle.dc_base.specs.Objects.{first_block, first_channel, first_line, first_mailbox, first_console, script_number, object_number, name_at}
use Rattle.dc_touch.specs.Within.{Within}

below : (a b : ℕ) → a < b → nat_lt a b ≡ true
below a b h = grind arith

pub above : (a b : ℕ) → b ≤ a → nat_lt a b ≡ false
above a b h = grind arith

pub is_below : (a b : ℕ) → nat_lt a b ≡ true → a < b
is_below a b h = grind arith

pub is_above : (a b : ℕ) → nat_lt a b ≡ false → b ≤ a
is_above a b h = grind arith

same : (n : ℕ) → n == n ≡ true
same n = search rules

back : (a b : ℕ) → (a + b) - a ≡ b
back a b = omega arith

forth : (a b : ℕ) → a ≤ b → a + (b - a) ≡ b
forth a b h = omega (arith, h)

-- the object of the number of an object
pub name_at-number : (t : Settings) (n : Name) → Within t n → name_at t (object_number t n) ≡ Some n
unfolding name_at object_number
name_at-number t (a_core c) h = rw (below c (first_block t) h) refl
name_at-number t (a_block b) h = rw (above (first_block t + b) (first_block t) (omega arith), below (first_block t + b) (first_channel t) (omega (arith, h)), back (first_block t) b) refl
name_at-number t (a_channel x) h = rw (above (first_channel t + x) (first_block t) (omega arith), above (first_channel t + x) (first_channel t) (omega arith), below (first_channel t + x) (first_line t) (omega (arith, h)), back (first_channel t) x) refl
name_at-number t (a_line l) h = rw (above (first_line t + l) (first_block t) (omega arith), above (first_line t + l) (first_channel t) (omega arith), above (first_line t + l) (first_line t) (omega arith), below (first_line t + l) (first_mailbox t) (omega (arith, h)), back (first_line t) l) refl
name_at-number t (a_mailbox c) h = rw (above (first_mailbox t + c) (first_block t) (omega arith), above (first_mailbox t + c) (first_channel t) (omega arith), above (first_mailbox t + c) (first_line t) (omega arith), above (first_mailbox t + c) (first_mailbox t) (omega arith), below (first_mailbox t + c) (first_console t) (omega (arith, h)), back (first_mailbox t) c) refl
name_at-number t (a_console b) h = rw (above (first_console t + b) (first_block t) (omega arith), above (first_console t + b) (first_channel t) (omega arith), above (first_console t + b) (first_line t) (omega arith), above (first_console t + b) (first_mailbox t) (omega arith), above (first_console t + b) (first_console t) (omega arith), below (first_console t + b) (script_number t) (omega (arith, h)), back (first_console t) b) refl
name_at-number t the_script h = rw (above (script_number t) (first_block t) (omega arith), above (script_number t) (first_channel t) (omega arith), above (script_number t) (first_line t) (omega arith), above (script_number t) (first_mailbox t) (omega arith), above (script_number t) (first_console t) (omega arith), above (script_number t) (script_number t) (omega arith), same (script_number t)) refl

-- the number is that of the name
number_at : (t : Settings) (i : ℕ) (m n : Name) → object_number t m ≡ i → Some m ≡ Some n → object_number t n ≡ i
number_at t i m n h e = let named : m ≡ n = cc in subst (λ n. object_number t n ≡ i) named h

module _ (t : Settings) (i : ℕ) (n : Name) where
  at_last : (b : Bool) → i == script_number t ≡ b → (if b then Some the_script else None) ≡ Some n → object_number t n ≡ i
  unfolding object_number
  at_last true h e = number_at t i the_script n (grind (arith, h)) e
  at_last false h e = cc

  at_console : (b : Bool) → nat_lt i (script_number t) ≡ b → first_console t ≤ i → (if b then Some (a_console (i - first_console t)) else if i == script_number t then Some the_script else None) ≡ Some n → object_number t n ≡ i
  unfolding object_number
  at_console true h k e = number_at t i (a_console (i - first_console t)) n (forth (first_console t) i k) e
  at_console false h k e = at_last (i == script_number t) refl e

  at_mailbox : (b : Bool) → nat_lt i (first_console t) ≡ b → first_mailbox t ≤ i → (if b then Some (a_mailbox (i - first_mailbox t)) else if nat_lt i (script_number t) then Some (a_console (i - first_console t)) else if i == script_number t then Some the_script else None) ≡ Some n → object_number t n ≡ i
  unfolding object_number
  at_mailbox true h k e = number_at t i (a_mailbox (i - first_mailbox t)) n (forth (first_mailbox t) i k) e
  at_mailbox false h k e = at_console (nat_lt i (script_number t)) refl (is_above i (first_console t) h) e

  at_line : (b : Bool) → nat_lt i (first_mailbox t) ≡ b → first_line t ≤ i → (if b then Some (a_line (i - first_line t)) else if nat_lt i (first_console t) then Some (a_mailbox (i - first_mailbox t)) else if nat_lt i (script_number t) then Some (a_console (i - first_console t)) else if i == script_number t then Some the_script else None) ≡ Some n → object_number t n ≡ i
  unfolding object_number
  at_line true h k e = number_at t i (a_line (i - first_line t)) n (forth (first_line t) i k) e
  at_line false h k e = at_mailbox (nat_lt i (first_console t)) refl (is_above i (first_mailbox t) h) e

  at_channel : (b : Bool) → nat_lt i (first_line t) ≡ b → first_channel t ≤ i → (if b then Some (a_channel (i - first_channel t)) else if nat_lt i (first_mailbox t) then Some (a_line (i - first_line t)) else if nat_lt i (first_console t) then Some (a_mailbox (i - first_mailbox t)) else if nat_lt i (script_number t) then Some (a_console (i - first_console t)) else if i == script_number t then Some the_script else None) ≡ Some n → object_number t n ≡ i
  unfolding object_number
  at_channel true h k e = number_at t i (a_channel (i - first_channel t)) n (forth (first_channel t) i k) e
  at_channel false h k e = at_line (nat_lt i (first_mailbox t)) refl (is_above i (first_line t) h) e

  at_block : (b : Bool) → nat_lt i (first_channel t) ≡ b → first_block t ≤ i → (if b then Some (a_block (i - first_block t)) else if nat_lt i (first_line t) then Some (a_channel (i - first_channel t)) else if nat_lt i (first_mailbox t) then Some (a_line (i - first_line t)) else if nat_lt i (first_console t) then Some (a_mailbox (i - first_mailbox t)) else if nat_lt i (script_number t) then Some (a_console (i - first_console t)) else if i == script_number t then Some the_script else None) ≡ Some n → object_number t n ≡ i
  unfolding object_number
  at_block true h k e = number_at t i (a_block (i - first_block t)) n (forth (first_block t) i k) e
  at_block false h k e = at_channel (nat_lt i (first_line t)) refl (is_above i (first_channel t) h) e

  at_core : (b : Bool) → nat_lt i (first_block t) ≡ b → (if b then Some (a_core i) else if nat_lt i (first_channel t) then Some (a_block (i - first_block t)) else if nat_lt i (first_line t) then Some (a_channel (i - first_channel t)) else if nat_lt i (first_mailbox t) then Some (a_line (i - first_line t)) else if nat_lt i (first_console t) then Some (a_mailbox (i - first_mailbox t)) else if nat_lt i (script_number t) then Some (a_console (i - first_console t)) else if i == script_number t then Some the_script else None) ≡ Some n → object_number t n ≡ i
  unfolding object_number
  at_core true h e = number_at t i (a_core i) n refl e
  at_core false h e = at_block (nat_lt i (first_channel t)) refl (is_above i (first_block t) h) e

  -- the number of the object of a number
  pub number-name_at : name_at t i ≡ Some n → object_number t n ≡ i
  unfolding name_at
  number-name_at e = at_core (nat_lt i (first_block t)) refl e
