-- A latch comes to a signal of a block.
use Rattle.std.proofs.Common.{◌≡◌, ℕ, zero, suc, ◌<◌, List, [], ◌∷◌, length, Option, Some, None, refl, sym, ap, ◌∙◌, arith, inl, inr, ◌⊎◌}
use Rattle.std.specs.Prelude.{slice_get, slice_set}
use Rattle.dc_base.specs.declared.interrupts.Latch.{Latch}
use Rattle.dc_base.specs.Words.{bind, change}
use Rattle.dc_base.specs.Ports.{latch_at, signal_after}
use Rattle.dc_base.specs.Blocks as blocks

-- an empty signal has it afterwards
pub came_there : (signals : List (Option Latch)) (i : ℕ) (l : Latch) → i < length signals → latch_at signals i ≡ None → latch_at (change (signal_after l) i signals) i ≡ Some l
came_there [] i l h e = absurd (omega arith)
came_there (None ∷ signals) zero l h e = refl
came_there (Some k ∷ signals) zero l h e = cc
came_there (o ∷ signals) (suc i) l h e = came_there signals i l (omega arith) e

-- every latch stays
pub came_on : (signals : List (Option Latch)) (i : ℕ) (l k : Latch) (j : ℕ) → latch_at signals j ≡ Some k → latch_at (change (signal_after l) i signals) j ≡ Some k
came_on [] i l k j g = cc
came_on (None ∷ signals) zero l k zero g = cc
came_on (Some o ∷ signals) zero l k zero g = g
came_on (o ∷ signals) zero l k (suc j) g = g
came_on (o ∷ signals) (suc i) l k zero g = g
came_on (o ∷ signals) (suc i) l k (suc j) g = came_on signals i l k j g

further : (i j : ℕ) (k l : Latch) (signals : List (Option Latch)) → ((j ≡ i) × (k ≡ l)) ⊎ (latch_at signals j ≡ Some k) → ((suc j ≡ suc i) × (k ≡ l)) ⊎ (latch_at signals j ≡ Some k)
further i j k l signals (inl e) = inl (ap suc e.0, e.1)
further i j k l signals (inr h) = inr h

-- what is there was there, or has come
pub came_back : (signals : List (Option Latch)) (i : ℕ) (l k : Latch) (j : ℕ) → latch_at (change (signal_after l) i signals) j ≡ Some k → ((j ≡ i) × (k ≡ l)) ⊎ (latch_at signals j ≡ Some k)
came_back [] i l k j g = cc
came_back (None ∷ signals) zero l k zero g = inl (refl, (let e : l ≡ k = cc in sym e))
came_back (Some o ∷ signals) zero l k zero g = inr g
came_back (o ∷ signals) zero l k (suc j) g = inr g
came_back (o ∷ signals) (suc i) l k zero g = inr g
came_back (o ∷ signals) (suc i) l k (suc j) g = further i j k l signals (came_back signals i l k j g)

-- a signal that has a latch keeps it
pub occupied : (signals : List (Option Latch)) (i : ℕ) (l k : Latch) → latch_at signals i ≡ Some k → change (signal_after l) i signals ≡ signals
occupied [] i l k e = refl
occupied (None ∷ signals) zero l k e = cc
occupied (Some o ∷ signals) zero l k e = refl
occupied (o ∷ signals) (suc i) l k e = ap (λ v. o ∷ v) (occupied signals i l k e)

-- in a list of blocks
abbrev pub signal_in : List blocks.Block → ℕ → ℕ → Option Latch
signal_in xs b i = bind (slice_get xs b) (λ (x : blocks.Block). latch_at x.parts.signals i)

block_further : (b c i j : ℕ) (k l : Latch) (xs : List blocks.Block) → ((c ≡ b) × (j ≡ i) × (k ≡ l)) ⊎ (signal_in xs c j ≡ Some k) → ((suc c ≡ suc b) × (j ≡ i) × (k ≡ l)) ⊎ (signal_in xs c j ≡ Some k)
block_further b c i j k l xs (inl e) = inl (ap suc e.0, e.1, e.2)
block_further b c i j k l xs (inr h) = inr h

block_here : (z : ℕ) (x y : blocks.Block) (i j : ℕ) (k l : Latch) → x ≡ y → ((j ≡ i) × (k ≡ l)) ⊎ (latch_at y.parts.signals j ≡ Some k) → ((z ≡ z) × (j ≡ i) × (k ≡ l)) ⊎ (latch_at x.parts.signals j ≡ Some k)
block_here z x y i j k l e (inl f) = inl (refl, f.0, f.1)
block_here z x y i j k l e (inr g) = inr (ap (λ (v : blocks.Block). latch_at v.parts.signals j) e ∙ g)

pub block_came_back : (xs : List blocks.Block) (b : ℕ) (y z : blocks.Block) (i : ℕ) (l : Latch) → slice_get xs b ≡ Some y → ((j : ℕ) (k : Latch) → latch_at z.parts.signals j ≡ Some k → ((j ≡ i) × (k ≡ l)) ⊎ (latch_at y.parts.signals j ≡ Some k)) →
    (c j : ℕ) (k : Latch) → signal_in (slice_set xs b z) c j ≡ Some k → ((c ≡ b) × (j ≡ i) × (k ≡ l)) ⊎ (signal_in xs c j ≡ Some k)
block_came_back [] b y z i l h f c j k g = cc
block_came_back (x ∷ xs) zero y z i l h f zero j k g = block_here zero x y i j k l (let e : x ≡ y = cc in e) (f j k g)
block_came_back (x ∷ xs) zero y z i l h f (suc c) j k g = inr g
block_came_back (x ∷ xs) (suc b) y z i l h f zero j k g = inr g
block_came_back (x ∷ xs) (suc b) y z i l h f (suc c) j k g = block_further b c i j k l xs (block_came_back xs b y z i l h f c j k g)
