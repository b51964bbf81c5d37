-- The texts of keys, and of the paths under which they stand.
use Rattle.std.specs.Prelude.{ℕ, List, [], ◌++◌, decimal, codes}
use Rattle.dc_image.specs.declared.keys.Name.{Name}
use Rattle.dc_image.specs.declared.keys.Name.TheVariants as name
use Rattle.dc_image.specs.declared.keys.Place.{Place}
use Rattle.dc_image.specs.declared.keys.Place.TheVariants as place
use Rattle.dc_image.specs.declared.keys.At.{At}
use Rattle.dc_image.specs.declared.keys.At.TheVariants as at

-- the path, and a dot where it is not empty
abbrev pub dotted : List ℕ → List ℕ
dotted [] = []
dotted path = path ++ codes "."

-- the path, and one more name on it
abbrev pub under : List ℕ → List ℕ → List ℕ
under path name = dotted path ++ name

-- the name as it is written
abbrev pub spelling : Name → List ℕ
spelling name.Base = codes "base"
spelling name.Block = codes "block"
spelling name.Cap = codes "cap"
spelling name.Capacity = codes "capacity"
spelling name.Channel = codes "channel"
spelling name.Clocks = codes "clocks"
spelling name.Code = codes "code"
spelling name.Core = codes "core"
spelling name.Data = codes "data"
spelling name.Disp = codes "disp"
spelling name.Due = codes "due"
spelling name.First = codes "first"
spelling name.Format = codes "format"
spelling name.From = codes "from"
spelling name.Home = codes "home"
spelling name.Kind = codes "kind"
spelling name.Length = codes "length"
spelling name.Lines = codes "lines"
spelling name.Number = codes "number"
spelling name.Period = codes "period"
spelling name.Ports = codes "ports"
spelling name.Quantum = codes "quantum"
spelling name.Rights = codes "rights"
spelling name.Signals = codes "signals"
spelling name.Slices = codes "slices"
spelling name.Slot = codes "slot"
spelling name.To = codes "to"
spelling name.Version = codes "version"

-- the path of an element of the array at a name
abbrev pub element_of : List ℕ → Name → ℕ → List ℕ
element_of path n i = under (under path (spelling n)) (decimal i)

-- the path of a table
abbrev pub path_of : Place → List ℕ
path_of place.Image = []
path_of (place.Core c) = element_of [] name.Core c
path_of (place.Channel x) = element_of [] name.Channel x
path_of (place.Block b) = element_of [] name.Block b
path_of (place.Disp b d) = element_of (element_of [] name.Block b) name.Disp d
path_of (place.Cap b d k) = element_of (element_of (element_of [] name.Block b) name.Disp d) name.Cap k

-- the path of what a fault is about
abbrev pub key_of : At → List ℕ
key_of (at.Table p) = path_of p
key_of (at.Key p n) = under (path_of p) (spelling n)
key_of (at.Item p n i) = element_of (path_of p) n i
