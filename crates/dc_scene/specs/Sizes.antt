-- The test of the sizes, and the state of an object in a state of the right sizes.
use Rattle.std.proofs.Common.{◌≡◌, ℕ, ◌==◌, ◌&&◌, Bool, true, false, true≢false, None, if◌then◌else◌, length, refl, sym, ap, eq-eqb, eqb-true}
use Rattle.dc_base.specs.States.{State, Settings}
use Rattle.dc_base.specs.Objects.{at_number, HasSizes}
use Rattle.dc_scene.specs.Machines.{has_sizes, at_sized}

first_holds : (a b : Bool) → a && b ≡ true → a ≡ true
first_holds true b h = refl
first_holds false b h = h

rest_holds : (a b : Bool) → a && b ≡ true → b ≡ true
rest_holds true b h = h
rest_holds false b h = absurd (true≢false (sym h))

both_hold : (a b : Bool) → a ≡ true → b ≡ true → a && b ≡ true
both_hold true b h k = k
both_hold false b h k = h

module _ (t : Settings) (s : State) where
  -- the test finds the sizes
  pub sizes_found : HasSizes t s → has_sizes t s ≡ true
  unfolding has_sizes
  sizes_found h =
      both_hold _ _ (both_hold _ _ (both_hold _ _ (both_hold _ _ (both_hold _ _
      (eq-eqb _ _ h.cores) (eq-eqb _ _ h.blocks)) (eq-eqb _ _ h.channels)) (eq-eqb _ _ h.lines)) (eq-eqb _ _ h.mailboxes)) (eq-eqb _ _ h.consoles)

  -- what the test finds is so
  pub found_sizes : has_sizes t s ≡ true → HasSizes t s
  unfolding has_sizes
  found_sizes h =
      let m = first_holds _ (length s.consoles == t.blocks) h in
      let l = first_holds _ (length s.mailboxes == t.cores) m in
      let c = first_holds _ (length s.lines == t.lines) l in
      let b = first_holds _ (length s.channels == t.channels) c in
      record {
        cores = eqb-true _ _ (first_holds _ (length s.blocks == t.blocks) b);
        blocks = eqb-true _ _ (rest_holds _ (length s.blocks == t.blocks) b);
        channels = eqb-true _ _ (rest_holds _ (length s.channels == t.channels) c);
        lines = eqb-true _ _ (rest_holds _ (length s.lines == t.lines) l);
        mailboxes = eqb-true _ _ (rest_holds _ (length s.mailboxes == t.cores) m);
        consoles = eqb-true _ _ (rest_holds _ (length s.consoles == t.blocks) h);
      }

  -- in a state of these sizes each object is as its number says
  pub at_sizes : HasSizes t s → (i : ℕ) → at_sized t s i ≡ at_number t s i
  unfolding at_sized
  at_sizes h i = ap (λ (b : Bool). if b then at_number t s i else None) (sizes_found h)

  -- in a state of other sizes there is no object
  pub no_object : has_sizes t s ≡ false → (i : ℕ) → at_sized t s i ≡ None
  unfolding at_sized
  no_object h i = ap (λ (b : Bool). if b then at_number t s i else None) h
