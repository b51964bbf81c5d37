-- The mailboxes of a boot command are those of the machine, and what they become.
use Rattle.std.proofs.Common.{◌≡◌, ◌<◌, ◌≤◌, ℕ, [], ◌∷◌, None, Some, sym, ap, ◌∙◌, subst, arith}
use Rattle.std.specs.Prelude.{slice_get, slice_set}
use Rattle.std.specs.Option.{option_map}
use Rattle.std.proofs.lemmas.Option.{slice_get_past}
use Rattle.dc_base.specs.declared.commands.Command.{Command}
use Rattle.dc_base.specs.declared.commands.Order.{Order}
use Rattle.dc_base.specs.declared.commands.ScriptLine.TheVariants as line
use Rattle.dc_base.specs.declared.numbers.CoreNo.{CoreNo}
use Rattle.dc_base.specs.Boot.{refusal}
use Rattle.dc_base.specs.Changes.{a_mailbox, apply, at, mailbox, mailbox_becomes, script_becomes}
use Rattle.dc_base.specs.States.{State, Script, Mailbox, ack, empty}
use Rattle.dc_block_sound.proofs.Elements.{set_here}
use Rattle.dc_bodies.specs.declared.posts.Posting.TheVariants as posting
use Rattle.dc_bodies.specs.Postings.{ComesTo}
use Rattle.dc_bodies.specs.Scripted.{GoesOn}
use Rattle.dc_machine.proofs.Postings.{accepted, first_there, next_there}
use Rattle.dc_touch.proofs.Elements.{slice_get-set_other}
use Rattle.dc_hands.specs.Machines.{IsLawfulHere, IsOpened, Passing, Staged, state_after}
use Rattle.dc_hands.proofs.Sounding.{sized_after, sound_after}

module _ {D : Type 0} (st : Staged D) (opened : IsOpened st) (k : Passing D) (lawful : IsLawfulHere st k.seen) (t : Script) (is : (state_after st k.seen).script ≡ t) where
  pub first_within : (core : CoreNo) (o : Order) → ComesTo t (posting.First core o) → core.0 < st.scene.settings.cores
  first_within core o h =
      let s = state_after st k.seen in
      subst (λ n. core.0 < n) (sized_after st opened k.seen).mailboxes
      (first_there s (sound_after st opened k.seen lawful) core o (subst (λ (u : Script). ComesTo u (posting.First core o)) (sym is) h))

  pub next_within : (last core : CoreNo) (o : Order) → ComesTo t (posting.After last (Some (core, o))) → slice_get (state_after st k.seen).mailboxes last.0 ≡ Some ack
      → core.0 < st.scene.settings.cores
  next_within last core o h acked =
      let s = state_after st k.seen in
      subst (λ n. core.0 < n) (sized_after st opened k.seen).mailboxes
      (next_there s (sound_after st opened k.seen lawful) last core o (subst (λ (u : Script). ComesTo u (posting.After last (Some (core, o)))) (sym is) h) acked)

  -- a begun command has no refusal
  pub accepted_now : (c : Command) → GoesOn t (line.Boot c) → 0 < t.posts → refusal t.registry c ≡ None
  accepted_now c =
      let s = state_after st k.seen in
      subst (λ (u : Script). GoesOn u (line.Boot c) → 0 < u.posts → refusal u.registry c ≡ None) is (accepted s (sound_after st opened k.seen lawful) c)

-- a core past those of the machine has no mailbox
pub no_mailbox_past : {D : Type 0} (st : Staged D) → IsOpened st → (k : Passing D) (c : ℕ) → st.scene.settings.cores ≤ c → slice_get (state_after st k.seen).mailboxes c ≡ None
no_mailbox_past st opened k c h =
    let s = state_after st k.seen in
    slice_get_past s.mailboxes c (let n = (sized_after st opened k.seen).mailboxes in omega (arith, h, n))

-- what mailboxes become

module _ (s : State) (u : Script) where
  pub posted_at : (c : ℕ) (m m' : Mailbox) → slice_get s.mailboxes c ≡ Some m
      → at (apply s (mailbox_becomes c m' ∷ script_becomes u ∷ [])) (a_mailbox c) ≡ Some (mailbox m')
  posted_at c m m' there = ap (option_map mailbox) (set_here s.mailboxes c m m' there)

  pub same_at : (c : ℕ) (m m' : Mailbox) → slice_get s.mailboxes c ≡ Some m
      → at (apply s (mailbox_becomes c empty ∷ mailbox_becomes c m' ∷ script_becomes u ∷ [])) (a_mailbox c) ≡ Some (mailbox m')
  same_at c m m' there = ap (option_map mailbox) (set_here (slice_set s.mailboxes c empty) c empty m' (set_here s.mailboxes c m empty there))

  module _ (d c : ℕ) (apart : c ≡ d → ⊥) (n n' m m' : Mailbox) where
    pub next_at : slice_get s.mailboxes c ≡ Some m
        → at (apply s (mailbox_becomes d n' ∷ mailbox_becomes c m' ∷ script_becomes u ∷ [])) (a_mailbox c) ≡ Some (mailbox m')
    next_at there =
        ap (option_map mailbox) (set_here (slice_set s.mailboxes d n') c m m' (slice_get-set_other s.mailboxes d c n' (λ e. apart (sym e)) ∙ there))

    pub emptied_at : slice_get s.mailboxes d ≡ Some n
        → at (apply s (mailbox_becomes d n' ∷ mailbox_becomes c m' ∷ script_becomes u ∷ [])) (a_mailbox d) ≡ Some (mailbox n')
    emptied_at there =
        ap (option_map mailbox) (slice_get-set_other (slice_set s.mailboxes d n') c d m' apart ∙ set_here s.mailboxes d n n' there)
