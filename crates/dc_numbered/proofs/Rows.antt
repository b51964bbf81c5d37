-- All objects in one list, put there from the last to the first.
use Rattle.std.proofs.Common.{◌≡◌, List, [], ◌∷◌, ◌++◌, map, refl, ap, ◌∙◌, append_assoc}
use Rattle.std.specs.Prelude.{reverse}
use Rattle.std.proofs.lemmas.List.{reverse-append, reverse-reverse}
use Rattle.dc_base.specs.Changes.{Object, core, block, channel, wire, mailbox, console, script}
use Rattle.dc_base.specs.Objects.{objects}
use Rattle.dc_base.specs.States.{State}

-- the list so far, the kinds put there, and what it is then
abbrev row_of : State → List Object
row_of s =
    (script s.script ∷ []) ++ reverse (map console s.consoles) ++ reverse (map mailbox s.mailboxes) ++ reverse (map wire s.lines) ++
    reverse (map channel s.channels) ++ reverse (map block s.blocks) ++ reverse (map core s.cores)

turned_row : (a b c d e f g : List Object) →
    reverse (g ++ reverse f ++ reverse e ++ reverse d ++ reverse c ++ reverse b ++ reverse a) ≡ a ++ b ++ c ++ d ++ e ++ f ++ reverse g
turned_row a b c d e f g = simp (reverse-append, reverse-reverse, append_assoc) refl

row_turned : (s : State) → reverse (row_of s) ≡ objects s
unfolding objects
row_turned s =
    turned_row (map core s.cores) (map block s.blocks) (map channel s.channels) (map wire s.lines) (map mailbox s.mailboxes) (map console s.consoles)
    (script s.script ∷ [])

-- the list with one kind after another put behind it is that of all objects, turned round
pub all_put : (s : State) (first second third fourth fifth sixth all : List Object) → first ≡ script s.script ∷ [] →
    second ≡ first ++ reverse (map console s.consoles) → third ≡ second ++ reverse (map mailbox s.mailboxes) →
    fourth ≡ third ++ reverse (map wire s.lines) → fifth ≡ fourth ++ reverse (map channel s.channels) →
    sixth ≡ fifth ++ reverse (map block s.blocks) → all ≡ sixth ++ reverse (map core s.cores) → reverse all ≡ objects s
all_put s first second third fourth fifth sixth all g f e d c b a = let e : all ≡ row_of s = cc in ap reverse e ∙ row_turned s
