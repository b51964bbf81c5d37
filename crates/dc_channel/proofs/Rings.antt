-- What taking from a channel comes to, by its first message.
use Rattle.std.proofs.Common.{◌≡◌, ◌+◌, List, [], ◌∷◌, Some, None, slice_get, drop, refl}
use Rattle.dc_base.specs.declared.messages.Message.{Message}
use Rattle.dc_base.specs.Channels.{Ring, ring_without_first, ring_after_take}

first_taken : (x : Ring) (ms : List Message) (m : Message) → slice_get ms 0 ≡ Some m → ring_without_first x ms ≡ Some (m, record x { untaken = drop 1 ms; taken = x.taken + 1 })
first_taken x [] m e = cc
first_taken x (n ∷ ns) m e = cc

none_taken : (x : Ring) (ms : List Message) → slice_get ms 0 ≡ None → ring_without_first x ms ≡ None
none_taken x [] e = refl
none_taken x (n ∷ ns) e = cc

pub takes_first : (x : Ring) (m : Message) → slice_get x.untaken 0 ≡ Some m → ring_after_take x ≡ Some (m, record x { untaken = drop 1 x.untaken; taken = x.taken + 1 })
unfolding ring_after_take
takes_first x m e = first_taken x x.untaken m e

pub takes_nothing : (x : Ring) → slice_get x.untaken 0 ≡ None → ring_after_take x ≡ None
unfolding ring_after_take
takes_nothing x e = none_taken x x.untaken e
