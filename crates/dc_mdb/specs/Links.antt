-- What the links of the slots stand for.
use Rattle.std.specs.Prelude.{ℕ, List, [], ◌∷◌, Bool, true, false, Option, Some, None, ◌==◌, if◌then◌else◌}
use Rattle.dc_base.specs.Words.{numbered}
use Rattle.dc_mdb.specs.declared.links.Link.{Link}
use Rattle.dc_mdb.specs.declared.links.Link.TheVariants.{Absent, Root, Child}
use Rattle.dc_mdb.specs.Forests.{Node}

-- a slot with its parent; nothing for a slot that is not there
abbrev pub node_of : ℕ → Link → List Node
node_of s Absent = []
node_of s Root = (s, None) ∷ []
node_of s (Child p) = (s, Some p) ∷ []

-- the parent of a slot with this link
abbrev pub link_parent : Link → Option ℕ
link_parent Absent = None
link_parent Root = None
link_parent (Child p) = Some p

-- whether a slot with this link is there
abbrev pub is_there : Link → Bool
is_there Absent = false
is_there Root = true
is_there (Child p) = true

-- the forest of the links
abbrev pub nodes_of : List Link → List Node
nodes_of links = numbered node_of 0 links

-- the link of a slot with this parent, if it has one
abbrev pub link_to : Option ℕ → Link
link_to None = Root
link_to (Some p) = Child p

-- a child of the slot gets this link instead
abbrev pub with_link : ℕ → Link → Link → Link
with_link s up Absent = Absent
with_link s up Root = Root
with_link s up (Child p) = if p == s then up else Child p
