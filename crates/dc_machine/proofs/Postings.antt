-- The core of a post of a sound machine has a mailbox, and what a mailbox is that is written twice.
use Rattle.std.proofs.Common.{◌≡◌, ℕ, zero, suc, ◌<◌, ◌-◌, List, [], ◌∷◌, Some, None, refl, ap, ◌∙◌, arith, length}
use Rattle.std.specs.Prelude.{slice_get, slice_set}
use Rattle.dc_base.specs.declared.commands.Command.{Command}
use Rattle.dc_base.specs.declared.commands.Order.{Order}
use Rattle.dc_base.specs.declared.commands.ScriptLine.TheVariants as line
use Rattle.dc_base.specs.declared.numbers.CoreNo.{CoreNo}
use Rattle.dc_base.specs.Boot.{orders, refusal}
use Rattle.dc_base.specs.Changes.{Change, mailbox_becomes}
use Rattle.dc_base.specs.Progress.{boot_command}
use Rattle.dc_base.specs.Sound.{IsSound}
use Rattle.dc_base.specs.States.{State, empty, ack}
use Rattle.dc_base.specs.Words.{bind}
use Rattle.dc_sound.proofs.EntryKinds.{Before, first_post, next_post, StandsAt}
use Rattle.dc_sound.proofs.Registered.{posted_fits}
use Rattle.dc_bodies.specs.declared.posts.Posting.TheVariants as posting
use Rattle.dc_bodies.specs.Postings.{ComesTo}
use Rattle.dc_bodies.specs.Scripted.{GoesOn}

module _ (s : State) (p : IsSound s) (c : Command) (h : GoesOn s.script (line.Boot c)) where
  -- a begun command has no refusal
  pub accepted : 0 < s.script.posts → refusal s.script.registry c ≡ None
  accepted k = p.registered.accepted c k (ap (λ o. bind o boot_command) h.line)

  stands : StandsAt s.script (line.Boot c)
  stands = record { line_at = h.line; raises = h.raises }

  core_there : (before : List Change) → Before s c before → (o : ℕ × Order) → slice_get (orders s.script.registry c) s.script.posts ≡ Some o → o.0 < length s.mailboxes
  core_there before b o e =
      let core = (posted_fits s p.in_form p.registered p.placed p.settled c before stands b o e).core_is in
      let n = p.settled.cores in
      let l = p.settled.mailboxes in
      omega (arith, core, n, l)

module _ (s : State) (p : IsSound s) where
  pub first_there : (core : CoreNo) (o : Order) → ComesTo s.script (posting.First core o) → core.0 < length s.mailboxes
  first_there core o h =
      let n = h.1.next in
      core_there s p h.0 h.1.goes [] (first_post n.0 n.1 refl) (core.0, o) (ap (slice_get (orders s.script.registry h.0)) n.0 ∙ n.2)

  pub next_there : (last core : CoreNo) (o : Order) → ComesTo s.script (posting.After last (Some (core, o))) → slice_get s.mailboxes last.0 ≡ Some ack → core.0 < length s.mailboxes
  next_there last core o h a =
      let n = h.1.next in
      core_there s p h.0 h.1.goes (mailbox_becomes last.0 empty ∷ []) (next_post (s.script.posts - 1) (last.0, n.3.0) (let k = n.0 in omega (arith, k)) n.3.1 a refl) (core.0, o) n.4

-- an element that is written twice is the later one
pub set_twice : {A : Type 0} (xs : List A) (i : ℕ) (x y : A) → slice_set (slice_set xs i x) i y ≡ slice_set xs i y
set_twice [] i x y = refl
set_twice (a ∷ xs) zero x y = refl
set_twice (a ∷ xs) (suc i) x y = ap (λ rest. a ∷ rest) (set_twice xs i x y)
