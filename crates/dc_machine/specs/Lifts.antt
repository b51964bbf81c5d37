-- The machine while the object is lifted out that a call needs.
use Rattle.std.specs.Prelude.{◌≡◌, ◌<◌, ℕ, nat_lt, Bool, true, false, length, vec_capacity, ⊤}
use Rattle.dc_base.specs.declared.calls.Need.{Need}
use Rattle.dc_base.specs.declared.calls.Need.TheVariants as needs
use Rattle.dc_base.specs.States.{State}
use Rattle.dc_objects.specs.declared.whole.Objects.{Objects}
use Rattle.dc_bodies.specs.Slots.{lifted}

-- the object that a call of block b needs is there; a line need not be
abbrev pub HasNeeded : State → ℕ → Need → Type 0
HasNeeded s b needs.Nothing = ⊤
HasNeeded s b needs.Console = b < length s.consoles
HasNeeded s b (needs.Channel x) = x.0 < length s.channels
HasNeeded s b (needs.Line l) = ⊤

-- objects outside blocks that stand as in this state
pub record AreOutside {D : Type 0} (s : State) (o : Objects D) : Type 0 where
  pub channels : o.channels.items ≡ s.channels
  pub lines : o.lines.items ≡ s.lines
  pub consoles : o.consoles.items ≡ s.consoles

pub record LacksConsole {D : Type 0} (s : State) (o : Objects D) (b : ℕ) : Type 0 where
  pub channels : o.channels.items ≡ s.channels
  pub lines : o.lines.items ≡ s.lines
  pub consoles : o.consoles.items ≡ lifted s.consoles b
  pub within : b < length s.consoles
  pub room : length o.consoles.items < vec_capacity o.consoles

pub record LacksChannel {D : Type 0} (s : State) (o : Objects D) (x : ℕ) : Type 0 where
  pub channels : o.channels.items ≡ lifted s.channels x
  pub lines : o.lines.items ≡ s.lines
  pub consoles : o.consoles.items ≡ s.consoles
  pub within : x < length s.channels
  pub room : length o.channels.items < vec_capacity o.channels

pub record LacksLine {D : Type 0} (s : State) (o : Objects D) (l : ℕ) : Type 0 where
  pub channels : o.channels.items ≡ s.channels
  pub lines : o.lines.items ≡ lifted s.lines l
  pub consoles : o.consoles.items ≡ s.consoles
  pub within : l < length s.lines
  pub room : length o.lines.items < vec_capacity o.lines

abbrev pub LacksLineIf : {D : Type 0} → Bool → State → Objects D → ℕ → Type 0
LacksLineIf true s o l = LacksLine s o l
LacksLineIf false s o l = AreOutside s o

-- the object that a call of block b needs is lifted out, if there is one
abbrev pub IsLifted : {D : Type 0} → State → Objects D → ℕ → Need → Type 0
IsLifted s o b needs.Nothing = AreOutside s o
IsLifted s o b needs.Console = LacksConsole s o b
IsLifted s o b (needs.Channel x) = LacksChannel s o x.0
IsLifted s o b (needs.Line l) = LacksLineIf (nat_lt l.0 (length s.lines)) s o l.0

-- cores, blocks, mailboxes and the script stand as before
pub record KeepsRest {D : Type 0} (before after : Objects D) : Type 0 where
  pub cores : after.cores ≡ before.cores
  pub blocks : after.blocks ≡ before.blocks
  pub mailboxes : after.mailboxes ≡ before.mailboxes
  pub script : after.script ≡ before.script
