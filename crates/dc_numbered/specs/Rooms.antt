-- The room of the lists of each kind.
use Rattle.std.specs.Prelude.{ℕ, ◌≤◌, length, vec_capacity}
use Rattle.dc_base.specs.States.{State}
use Rattle.dc_objects.specs.declared.whole.Objects.{Objects}

-- how many objects the list of each kind can hold
pub record Room : Type 0 where
  pub cores : ℕ
  pub blocks : ℕ
  pub channels : ℕ
  pub lines : ℕ
  pub mailboxes : ℕ
  pub consoles : ℕ

-- the room of the lists that hold the objects
abbrev pub room_of : {D : Type 0} → Objects D → Room
room_of o =
    record {
      cores = vec_capacity o.cores;
      blocks = vec_capacity o.blocks;
      channels = vec_capacity o.channels;
      lines = vec_capacity o.lines;
      mailboxes = vec_capacity o.mailboxes;
      consoles = vec_capacity o.consoles;
    }

-- there is room for the objects of each kind
pub record HasRoom (s : State) (r : Room) : Type 0 where
  pub cores : length s.cores ≤ r.cores
  pub blocks : length s.blocks ≤ r.blocks
  pub channels : length s.channels ≤ r.channels
  pub lines : length s.lines ≤ r.lines
  pub mailboxes : length s.mailboxes ≤ r.mailboxes
  pub consoles : length s.consoles ≤ r.consoles
