-- The script's entry is made with all that it touches held.
use Rattle.std.proofs.Common.{◌≡◌, ℕ, true, List, [], ◌∷◌, ◌++◌, Some, sym, ap, ◌∙◌, subst}
use Rattle.dc_base.specs.declared.actions.Action.{Action}
use Rattle.dc_base.specs.declared.actions.Action.TheVariants as action
use Rattle.dc_base.specs.declared.actions.Actor.TheVariants as actor
use Rattle.dc_base.specs.declared.entries.Entry.{Entry}
use Rattle.dc_base.specs.Changes.{Name, Object, Change, a_line, a_mailbox, the_script, apply, at, line_becomes, mailbox, mailbox_becomes, script, script_becomes, wire}
use Rattle.dc_base.specs.Cores.{core_step, turn_of}
use Rattle.dc_base.specs.Histories.{IsLawful, Listed, actor_number, touched}
use Rattle.dc_base.specs.Lines.{Wire}
use Rattle.dc_base.specs.States.{Script, Mailbox, empty}
use Rattle.dc_base.specs.Turns.{did, looks}
use Rattle.dc_bodies.specs.Postings.{IsDone, IsNextPost, IsPost, IsSamePost}
use Rattle.dc_bodies.specs.Scripted.{IsRaised, IsRouted, IsScripted}
use Rattle.dc_stage.specs.History.{Log}
use Rattle.dc_stage.specs.Numbers.{has}
use Rattle.dc_hands.specs.Holding.{Commits, Has, SeesOn}
use Rattle.dc_hands.specs.Machines.{Passing, Staged, number_of, state_after}
use Rattle.dc_script_turns.specs.Scripting.{HoldsBeside, IsNoUnmet}
use Rattle.dc_hands.proofs.HeldNames.{just_held}
use Rattle.dc_hands.proofs.Seeing.{has_made, sees_now}
use Rattle.dc_script_turns.proofs.ScriptEntries.{IsPlain, does_step, is_lawful, is_no_unmet, is_scripts, next_is, touches}
use Rattle.dc_script_turns.proofs.ScriptSteps.{Enters, Reaches, enters, kept_line, kept_mailbox, kept_script}

module _ {D : Type 0} (st : Staged D) where
  -- the script's action makes this entry, with these changes, in each state after what the pass sees on
  abbrev pub Makes : Passing D → ℕ → Action → List Change → Entry → Type 0
  Makes k polls a changes e = (log : Log Entry) → SeesOn st k log → core_step (state_after st log) polls actor.Script a ≡ did changes e

  module _ (k : Passing D) (t : Script) (ns : List Name) (h : HoldsBeside st k t ns) (polls : ℕ) (a : Action) (changes : List Change) (e : Entry) (makes : Makes k polls a changes e) where
    makes_now : core_step (state_after st k.seen) polls actor.Script a ≡ did changes e
    makes_now = makes k.seen (sees_now st k)

    -- its actor is that of the pass
    pub by_pass : actor_number st.scene.settings e.actor ≡ k.actor
    by_pass = is_scripts (state_after st k.seen) polls a changes e makes_now st.scene.settings ∙ sym h.actor

    pub lawful_now : IsLawful (state_after st k.seen) e
    lawful_now = is_lawful (state_after st k.seen) polls a changes e makes_now

    -- it ends no await for want of words, where the action ends none
    pub quiet_now : IsPlain (state_after st k.seen).script a → IsNoUnmet e.what
    quiet_now plain = is_no_unmet (state_after st k.seen) polls a changes e makes_now plain

    -- what the action looks at is held, and the entry touches no more
    pub held_now : (ms : List Name) → ((f : Script → ℕ) → looks (state_after st k.seen) (turn_of f actor.Script a) ≡ ms)
        → ((n : Name) → Listed n ms → Listed n (ns ++ the_script ∷ [])) → (n : Name) → Listed n (touched (state_after st k.seen) e)
        → has (number_of st n) k.holds ≡ true
    held_now ms look only n l =
        just_held st k n (ns ++ the_script ∷ []) h.holds (only n (subst (Listed n) (touches (state_after st k.seen) polls a changes e makes_now ms look) l))

    module _ (l : Passing D) (i : ℕ) (c : Commits st k l e i) where
      -- what is held stands as the entry makes it
      pub made_now : (n : Name) (o p : Object) → Has st k n o → at (apply (state_after st k.seen) changes) n ≡ Some p → Has st l n p
      made_now n o p there new =
          has_made st k l e i n o p c there (ap (λ s. at s n) (next_is (state_after st k.seen) polls a changes e makes_now) ∙ new)

      pub enters_now : (j : Passing D) (u : Script) → Reaches st j k t ns j.refused → at (apply (state_after st k.seen) changes) the_script ≡ Some (script u)
          → Enters st j l u ns polls a e i
      enters_now j u r new =
          enters st j k l t u ns polls a changes e i r c (makes c.before c.on) (ap (λ s. at s the_script) (next_is (state_after st k.seen) polls a changes e makes_now) ∙ new)

  module _ (k : Passing D) (t u : Script) (ns : List Name) (h : HoldsBeside st k t ns) (polls : ℕ) (e : Entry) where
    pub makes_script : IsScripted t u e → Makes k polls action.Script (script_becomes u ∷ []) e
    makes_script is log on =
        let s = state_after st log in
        does_step s action.Script _ e (is s (kept_script st k log on t h.stands)) polls

    module _ (l : ℕ) (v w : Wire) (there : Has st k (a_line l) (wire v)) where
      pub makes_route : IsRouted l t u v w e → Makes k polls action.Script (line_becomes l w ∷ script_becomes u ∷ []) e
      makes_route is log on =
          let s = state_after st log in
          does_step s action.Script _ e (is s (kept_script st k log on t h.stands) (kept_line st k log on l v there)) polls

      pub makes_raise : IsRaised l t u v w e → Makes k polls action.Raise (line_becomes l w ∷ script_becomes u ∷ []) e
      makes_raise is log on =
          let s = state_after st log in
          does_step s action.Raise _ e (is s (kept_script st k log on t h.stands) (kept_line st k log on l v there)) polls

    pub makes_post : (c : ℕ) (m : Mailbox) → IsPost c t u m e → Makes k polls action.Script (mailbox_becomes c m ∷ script_becomes u ∷ []) e
    makes_post c m is log on =
        let s = state_after st log in
        does_step s action.Script _ e (is s (kept_script st k log on t h.stands)) polls

    module _ (d : ℕ) (n : Mailbox) (there : Has st k (a_mailbox d) (mailbox n)) where
      pub makes_next : (c : ℕ) (n' m : Mailbox) → IsNextPost d c t u n n' m e
          → Makes k polls action.Script (mailbox_becomes d n' ∷ mailbox_becomes c m ∷ script_becomes u ∷ []) e
      makes_next c n' m is log on =
          let s = state_after st log in
          does_step s action.Script _ e (is s (kept_script st k log on t h.stands) (kept_mailbox st k log on d n there)) polls

      pub makes_same : (m : Mailbox) → IsSamePost d t u n m e
          → Makes k polls action.Script (mailbox_becomes d empty ∷ mailbox_becomes d m ∷ script_becomes u ∷ []) e
      makes_same m is log on =
          let s = state_after st log in
          does_step s action.Script _ e (is s (kept_script st k log on t h.stands) (kept_mailbox st k log on d n there)) polls

      pub makes_done : (n' : Mailbox) → IsDone d t u n n' e → Makes k polls action.Script (mailbox_becomes d n' ∷ script_becomes u ∷ []) e
      makes_done n' is log on =
          let s = state_after st log in
          does_step s action.Script _ e (is s (kept_script st k log on t h.stands) (kept_mailbox st k log on d n there)) polls
