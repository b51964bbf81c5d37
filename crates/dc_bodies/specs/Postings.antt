-- What a boot command comes to next, and what it makes of the objects that it touches, whatever stands elsewhere.
use Rattle.std.specs.Prelude.{◌≡◌, ℕ, ◌<◌, ◌-◌, [], ◌∷◌, Some, None, slice_get}
use Rattle.std.specs.Option.{option_map}
use Rattle.dc_base.specs.declared.commands.Command.{Command}
use Rattle.dc_base.specs.declared.commands.Order.{Order}
use Rattle.dc_base.specs.declared.commands.ScriptLine.TheVariants as line
use Rattle.dc_base.specs.declared.entries.Entry.{Entry}
use Rattle.dc_base.specs.Boot.{orders, refusal}
use Rattle.dc_base.specs.Changes.{mailbox_becomes, script_becomes}
use Rattle.dc_base.specs.States.{State, Script, Mailbox, empty}
use Rattle.dc_boot.specs.Registries.{posted}
use Rattle.dc_bodies.specs.declared.posts.Posting.{Posting}
use Rattle.dc_bodies.specs.declared.posts.Posting.TheVariants as posting
use Rattle.dc_bodies.specs.Scripted.{GoesOn, DoesCommand}

-- it is refused before its first post; or its first order is posted; or once its last post was carried out the next order is, or it is done
abbrev pub IsNext : Script → Command → Posting → Type 0
IsNext t c (posting.Refused r) = (t.posts ≡ 0) × (refusal t.registry c ≡ Some r)
IsNext t c (posting.First core o) = (t.posts ≡ 0) × (refusal t.registry c ≡ None) × (slice_get (orders t.registry c) 0 ≡ Some (core.0, o))
IsNext t c (posting.After last next) =
    (0 < t.posts) × (t.posts < 3) × (refusal t.registry c ≡ None)
    × ((o : Order) × (slice_get (orders t.registry c) (t.posts - 1) ≡ Some (last.0, o)))
    × (slice_get (orders t.registry c) t.posts ≡ option_map posted next)

-- the script stands at this boot command, which comes to this next
pub record IsPosting (t : Script) (c : Command) (p : Posting) : Type 0 where
  pub goes : GoesOn t (line.Boot c)
  pub next : IsNext t c p

-- the script stands at a boot command that comes to this next
abbrev pub ComesTo : Script → Posting → Type 0
ComesTo t p = (c : Command) × IsPosting t c p

-- the first post took the script, and made the mailbox of core c so
abbrev pub IsPost : ℕ → Script → Script → Mailbox → Entry → Type 0
IsPost c t t' m' e = (s : State) → s.script ≡ t → DoesCommand s (mailbox_becomes c m' ∷ script_becomes t' ∷ []) e

-- a later post took the script and the mailbox of core d, which it emptied, and made the mailbox of core c so
abbrev pub IsNextPost : ℕ → ℕ → Script → Script → Mailbox → Mailbox → Mailbox → Entry → Type 0
IsNextPost d c t t' n n' m' e = (s : State) → s.script ≡ t → slice_get s.mailboxes d ≡ Some n →
    DoesCommand s (mailbox_becomes d n' ∷ mailbox_becomes c m' ∷ script_becomes t' ∷ []) e

-- a later post to the core of the last one took the script and that core's one mailbox: it was emptied, and became so
abbrev pub IsSamePost : ℕ → Script → Script → Mailbox → Mailbox → Entry → Type 0
IsSamePost c t t' m m' e = (s : State) → s.script ≡ t → slice_get s.mailboxes c ≡ Some m →
    DoesCommand s (mailbox_becomes c empty ∷ mailbox_becomes c m' ∷ script_becomes t' ∷ []) e

-- the end of the command took the script and the mailbox of core d
abbrev pub IsDone : ℕ → Script → Script → Mailbox → Mailbox → Entry → Type 0
IsDone d t t' n n' e = (s : State) → s.script ≡ t → slice_get s.mailboxes d ≡ Some n → DoesCommand s (mailbox_becomes d n' ∷ script_becomes t' ∷ []) e
