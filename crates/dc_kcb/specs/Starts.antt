-- What a block is made of at the start.
use Rattle.std.specs.Prelude.{◌≡◌, ℕ, ◌+◌, ◌<◌, List, [], ◌∷◌, None, length, replicate, map, false}
use Rattle.dc_base.specs.declared.dispatchers.DispState.TheVariants as disp
use Rattle.dc_base.specs.declared.images.Image.{Image}
use Rattle.dc_base.specs.declared.images.BlockImage.{BlockImage}
use Rattle.dc_base.specs.declared.images.CapImage.{CapImage}
use Rattle.dc_base.specs.declared.images.DispImage.{DispImage}
use Rattle.dc_base.specs.Words.{Each}
use Rattle.dc_base.specs.Capabilities.{Seat, slot_number, is_used}
use Rattle.dc_base.specs.Parts.{whole_memory, seats_from}
use Rattle.dc_base.specs.Valid.{SlotsDiffer, IsValidBlock}
use Rattle.dc_isa.specs.declared.dispatchers.Dispatcher.{Dispatcher}
use Rattle.dc_caps.specs.Caps.{IsCap}
use Rattle.dc_ready.specs.Entries.{entries_of}
use Rattle.dc_kcb.specs.declared.parts.Parts.{Parts}

-- it is a block of some valid image
abbrev pub BootsIn : BlockImage → Type 0
BootsIn x = (i : Image) × (n : ℕ) × IsValidBlock i n x

-- a dispatcher as the image gives it
abbrev pub disp_of : DispImage → Dispatcher
disp_of i = record { regs = replicate 8 0; place = 0; state = disp.Ready; due = i.due; period = i.period }

-- the dispatchers with their dues, the first being number n
abbrev pub dues_from : ℕ → List DispImage → List (ℕ × ℕ)
dues_from n [] = []
dues_from n (i ∷ is) = (n, i.due) ∷ dues_from (n + 1) is

-- the capabilities of one dispatcher have slots of their own, below 16
pub record AreSeatable (caps : List CapImage) : Type 0 where
  pub below : Each caps (λ k (c : CapImage). c.slot < 16)
  pub differ : SlotsDiffer caps
  pub forms : Each caps (λ k (c : CapImage). IsCap c.cap)

-- no slot of the dispatcher is used
abbrev pub IsUnseated : ℕ → List Seat → Type 0
IsUnseated d seats = (s : ℕ) → s < 16 → is_used seats (slot_number d s) ≡ false

-- the parts as the image gives them
pub record AreFirst (x : BlockImage) (p : Parts) : Type 0 where
  pub memory : p.memory.items ≡ whole_memory x.memory
  pub code : map (λ v. v.items) p.code.items ≡ map (λ (i : DispImage). i.code) x.disps
  pub table : p.table ≡ record { set = seats_from 0 x.disps; disps = length x.disps }
  pub disps : p.disps.items ≡ map disp_of x.disps
  pub ready : entries_of p.ready.items ≡ dues_from 0 x.disps
  pub timers : p.timers.items ≡ []
  pub next_timer : p.next_timer ≡ 0
  pub ports : p.ports.items ≡ replicate x.ports []
  pub signals : p.signals.items ≡ replicate x.signals None
  pub time : p.time ≡ 0
