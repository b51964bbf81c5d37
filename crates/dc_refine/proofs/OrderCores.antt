-- The core to which an order is posted has a mailbox.
use Rattle.std.proofs.Common.{◌≡◌, ℕ, zero, suc, ◌<◌, [], ◌∷◌, ◌++◌, true, false, Option, Some, None, refl, sym, ap, ◌∙◌, subst, length, arith}
use Rattle.std.specs.Prelude.{slice_get}
use Rattle.std.specs.Option.{option_map, option_map_or}
use Rattle.std.proofs.lemmas.Option.{slice_get-map, slice_get_within}
use Rattle.dc_base.specs.declared.numbers.BlockNo.{BlockNo}
use Rattle.dc_base.specs.declared.commands.Command.{Command}
use Rattle.dc_base.specs.declared.commands.Command.TheVariants.{Start, Stop, Replace, Attach, Move, Park, Unpark}
use Rattle.dc_base.specs.declared.commands.Order.{Order}
use Rattle.dc_base.specs.declared.commands.Order.TheVariants as order
use Rattle.dc_base.specs.Words.{bind}
use Rattle.dc_base.specs.Boot.{Registry, core_of, orders}
use Rattle.dc_base.specs.States.{State, Block, Settings, Whereabouts, rest, on, core_in}
use Rattle.dc_base.specs.Placed.{IsPlaced, IsListed}
use Rattle.dc_base.specs.Progress.{boot_of}
use Rattle.dc_base.specs.Bounded.{CommandWithin}

-- the command's own core
abbrev pub core_named : Command → ℕ
core_named (Start c v) = c.0
core_named (Stop c) = c.0
core_named (Replace c v) = c.0
core_named (Attach b c) = c.0
core_named (Move b c) = c.0
core_named (Park b c) = c.0
core_named (Unpark b c) = c.0

named_within : (t : Settings) (command : Command) → CommandWithin t command → core_named command < t.cores
named_within t (Start c v) h = h
named_within t (Stop c) h = h
named_within t (Replace c v) h = h
named_within t (Attach b c) h = h.1
named_within t (Move b c) h = h.1
named_within t (Park b c) h = h.1
named_within t (Unpark b c) h = h.1

-- every order but a first one is to the command's own core
only_later : (p o : ℕ × Order) (n : ℕ) → slice_get (p ∷ []) (suc n) ≡ Some o → ⊥
only_later p o n h = cc

second : (to : Option ℕ) (b : BlockNo) (p o : ℕ × Order) (n : ℕ) → slice_get (option_map_or (λ c. (c, order.Release b) ∷ []) to [] ++ p ∷ []) (suc n) ≡ Some o → o.0 ≡ p.0
second None b p o n h = cc
second (Some d) b p o zero h = let e : p ≡ o = cc in ap (λ (q : ℕ × Order). q.0) (sym e)
second (Some d) b p o (suc n) h = cc

later_named : (r : Registry) (command : Command) (n : ℕ) (o : ℕ × Order) → slice_get (orders r command) (suc n) ≡ Some o → o.0 ≡ core_named command
unfolding orders
later_named r (Start c v) n o h = absurd (only_later (c.0, order.Start v) o n h)
later_named r (Stop c) n o h = absurd (only_later (c.0, order.Stop) o n h)
later_named r (Replace c v) n o h = absurd (only_later (c.0, order.Replace v) o n h)
later_named r (Attach b c) n o h = absurd (only_later (c.0, order.Adopt b false) o n h)
later_named r (Move b c) n o h = second (core_of r b.0) b (c.0, order.Adopt b false) o n h
later_named r (Park b c) n o h = second (core_of r b.0) b (c.0, order.Adopt b true) o n h
later_named r (Unpark b c) n o h = second (core_of r b.0) b (c.0, order.Adopt b false) o n h

-- a first order is to that core, or to the core of a block

data First (r : Registry) (command : Command) (c : ℕ) : Type 0 where
  named : c ≡ core_named command → First r command c
  placed : (b : ℕ) → core_of r b ≡ Some c → First r command c

alone : (r : Registry) (command : Command) (p o : ℕ × Order) → p.0 ≡ core_named command → slice_get (p ∷ []) 0 ≡ Some o → First r command o.0
alone r command p o e h = named (let f : p ≡ o = cc in ap (λ (q : ℕ × Order). q.0) (sym f) ∙ e)

first_of_two : (r : Registry) (command : Command) (b : BlockNo) (to : Option ℕ) (p o : ℕ × Order) → core_of r b.0 ≡ to → p.0 ≡ core_named command → slice_get (option_map_or (λ c. (c, order.Release b) ∷ []) to [] ++ p ∷ []) 0 ≡ Some o → First r command o.0
first_of_two r command b None p o f e h = alone r command p o e h
first_of_two r command b (Some d) p o f e h =
    let g : ◌≡◌ {A = ℕ × Order} (d, order.Release b) o = cc in
    placed b.0 (f ∙ ap (λ (q : ℕ × Order). Some q.0) g)

first_order : (r : Registry) (command : Command) (o : ℕ × Order) → slice_get (orders r command) 0 ≡ Some o → First r command o.0
unfolding orders
first_order r (Start c v) o h = alone r (Start c v) (c.0, order.Start v) o refl h
first_order r (Stop c) o h = alone r (Stop c) (c.0, order.Stop) o refl h
first_order r (Replace c v) o h = alone r (Replace c v) (c.0, order.Replace v) o refl h
first_order r (Attach b c) o h = alone r (Attach b c) (c.0, order.Adopt b false) o refl h
first_order r (Move b c) o h = first_of_two r (Move b c) b (core_of r b.0) (c.0, order.Adopt b false) o refl refl h
first_order r (Park b c) o h = first_of_two r (Park b c) b (core_of r b.0) (c.0, order.Adopt b true) o refl refl h
first_order r (Unpark b c) o h = first_of_two r (Unpark b c) b (core_of r b.0) (c.0, order.Adopt b false) o refl refl h

-- every command has an order
some_two : (to : Option ℕ) (b : BlockNo) (p : ℕ × Order) → slice_get (option_map_or (λ c. (c, order.Release b) ∷ []) to [] ++ p ∷ []) 0 ≡ None → ⊥
some_two None b p h = cc
some_two (Some d) b p h = cc

pub some_order : (r : Registry) (command : Command) → slice_get (orders r command) 0 ≡ None → ⊥
unfolding orders
some_order r (Start c v) h = cc
some_order r (Stop c) h = cc
some_order r (Replace c v) h = cc
some_order r (Attach b c) h = cc
some_order r (Move b c) h = some_two (core_of r b.0) b (c.0, order.Adopt b false) h
some_order r (Park b c) h = some_two (core_of r b.0) b (c.0, order.Adopt b true) h
some_order r (Unpark b c) h = some_two (core_of r b.0) b (c.0, order.Adopt b false) h

-- the core of a block exists
listed_core : (s : State) (b c : ℕ) (w : Whereabouts) → IsListed s b w → core_in w ≡ Some c → c < length s.cores
listed_core s b c (rest kept) h e = cc
listed_core s b c (on d z v) h e = let f : d ≡ c = cc in subst (λ i. i < length s.cores) f (slice_get_within s.cores d h.0 h.1)

core_there : (s : State) → IsPlaced s → (b c : ℕ) → core_of (boot_of s) b ≡ Some c → c < length s.cores
unfolding boot_of
core_there s is_placed b c h = by_block (slice_get s.blocks b) refl (sym (ap (λ o. bind o (λ p. p)) (slice_get-map (λ (x : Block). core_in x.whereabouts) s.blocks b)) ∙ h)
  where
    by_block : (o : Option Block) → slice_get s.blocks b ≡ o → bind (option_map (λ (x : Block). core_in x.whereabouts) o) (λ p. p) ≡ Some c → c < length s.cores
    by_block None e g = cc
    by_block (Some x) e g = listed_core s b c x.whereabouts (is_placed.listed b x e) g

first_within : (s : State) (t : Settings) (command : Command) (c : ℕ) → IsPlaced s → CommandWithin t command → length s.cores ≡ t.cores → First (boot_of s) command c → c < t.cores
first_within s t command c is_placed within cores (named e) = let h = named_within t command within in omega (arith, e, h)
first_within s t command c is_placed within cores (placed b e) = let h = core_there s is_placed b c e in omega (arith, h, cores)

-- the core of an order exists
pub first_core : (s : State) (t : Settings) (command : Command) (o : ℕ × Order) → IsPlaced s → CommandWithin t command → length s.cores ≡ t.cores → slice_get (orders (boot_of s) command) 0 ≡ Some o → o.0 < t.cores
first_core s t command o is_placed within cores h = first_within s t command o.0 is_placed within cores (first_order (boot_of s) command o h)

pub later_core : (r : Registry) (t : Settings) (command : Command) (n : ℕ) (o : ℕ × Order) → CommandWithin t command → slice_get (orders r command) (suc n) ≡ Some o → o.0 < t.cores
later_core r t command n o within h = let e = later_named r command n o h in let k = named_within t command within in omega (arith, e, k)
