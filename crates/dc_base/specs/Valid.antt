-- Valid images, and the scripts and schedules that suit one.
use Rattle.std.specs.Prelude.{◌≡◌, ◌≢◌, ℕ, ◌+◌, ◌<◌, ◌≤◌, List, Bool, IsTrue, IsSome, IfSome, Some, slice_get, length, ⊤}
use Rattle.std.specs.List.{list_any}
use Rattle.dc_base.specs.declared.images.Image.{Image}
use Rattle.dc_base.specs.declared.images.CoreImage.{CoreImage}
use Rattle.dc_base.specs.declared.images.BlockImage.{BlockImage}
use Rattle.dc_base.specs.declared.images.DispImage.{DispImage}
use Rattle.dc_base.specs.declared.images.CapImage.{CapImage}
use Rattle.dc_base.specs.declared.images.ChanImage.{ChanImage}
use Rattle.dc_base.specs.declared.kernels.Clocks.TheVariants.{Kept}
use Rattle.dc_base.specs.declared.numbers.CoreNo.{CoreNo}
use Rattle.dc_base.specs.declared.actions.Actor.{Actor}
use Rattle.dc_base.specs.declared.actions.Actor.TheVariants as actor
use Rattle.dc_base.specs.declared.actions.Action.{Action}
use Rattle.dc_base.specs.declared.actions.Action.TheVariants as action
use Rattle.dc_base.specs.declared.capabilities.CapKind.{CapKind}
use Rattle.dc_base.specs.declared.capabilities.CapKind.TheVariants as kind
use Rattle.dc_base.specs.declared.commands.ScriptLine.{ScriptLine}
use Rattle.dc_base.specs.Words.{Each}
use Rattle.dc_base.specs.Limits.{most_disps, most_ports, most_signals, memory_words, code_room, disp_slots, longest_period, most_capacity, longest_script}
use Rattle.dc_base.specs.Limits.{longest_schedule, word_limit, clock_start_limit}
use Rattle.dc_base.specs.Capabilities.{is_of_line}
use Rattle.dc_base.specs.States.{Settings, settings_of}
use Rattle.dc_base.specs.KeptByBlocks.{AreWords}
use Rattle.dc_base.specs.Bounded.{AreLimited, LineWithin}

-- the channel exists and comes from block b
abbrev pub ComesFrom : List ChanImage → ℕ → ℕ → Type 0
ComesFrom channels x b = (c : ChanImage) × (slice_get channels x ≡ Some c) × (c.from.0 ≡ b)

-- the channel exists and goes to block b
abbrev pub GoesTo : List ChanImage → ℕ → ℕ → Type 0
GoesTo channels x b = (c : ChanImage) × (slice_get channels x ≡ Some c) × (c.to.0 ≡ b)

-- a capability of block b, which is x, names what exists
abbrev pub NamesOf : Image → ℕ → BlockImage → CapKind → Type 0
NamesOf image b x (kind.Ram first length) = (0 < length) × (first + length ≤ memory_words)
NamesOf image b x (kind.Frame first length) = (0 < length) × (first + length ≤ memory_words)
NamesOf image b x (kind.Port p) = p.0 < x.ports
NamesOf image b x (kind.Signal s) = s.0 < x.signals
NamesOf image b x (kind.SendEnd y) = ComesFrom image.channels y.0 b
NamesOf image b x (kind.RecvEnd y) = GoesTo image.channels y.0 b
NamesOf image b x (kind.Line l) = l.0 < image.lines

pub record IsValidCap (image : Image) (b : ℕ) (x : BlockImage) (c : CapImage) : Type 0 where
  pub slot : c.slot < disp_slots
  pub rights : c.cap.rights ≤ 7
  pub names : NamesOf image b x c.cap.kind

-- no slot is given twice
abbrev pub SlotsDiffer : List CapImage → Type 0
SlotsDiffer caps = (j k : ℕ) (c d : CapImage) → slice_get caps j ≡ Some c → slice_get caps k ≡ Some d → c.slot ≡ d.slot → j ≡ k

pub record IsValidDisp (image : Image) (b : ℕ) (x : BlockImage) (d : DispImage) : Type 0 where
  pub code : (0 < length d.code) × (length d.code ≤ code_room)
  pub words : AreWords d.code
  pub period : (0 < d.period) × (d.period ≤ longest_period)
  pub due : d.due < word_limit
  pub caps : Each d.caps (λ k c. IsValidCap image b x c)
  pub slots : SlotsDiffer d.caps

pub record IsValidBlock (image : Image) (b : ℕ) (x : BlockImage) : Type 0 where
  pub memory : length x.memory ≤ memory_words
  pub words : AreWords x.memory
  pub ports : x.ports ≤ most_ports
  pub signals : x.signals ≤ most_signals
  pub some : 0 < length x.disps
  pub most : length x.disps ≤ most_disps
  pub disps : Each x.disps (λ d i. IsValidDisp image b x i)

pub record IsValidChannel (image : Image) (c : ChanImage) : Type 0 where
  pub from : c.from.0 < length image.blocks
  pub to : c.to.0 < length image.blocks
  pub apart : c.from.0 ≢ c.to.0
  pub capacity : (0 < c.capacity) × (c.capacity ≤ most_capacity)

-- the core exists and is on
abbrev pub IsOnAtStart : List CoreImage → CoreNo → Type 0
IsOnAtStart cores h = (k : CoreImage) × (slice_get cores h.0 ≡ Some k) × IsSome k.version

-- no core is home of two blocks
abbrev pub HomesDiffer : List BlockImage → Type 0
HomesDiffer blocks =
    (b d : ℕ) (x y : BlockImage) (h : CoreNo) → slice_get blocks b ≡ Some x → slice_get blocks d ≡ Some y → x.home ≡ Some h → y.home ≡ Some h → b ≡ d

-- whether the block is given the line
abbrev pub is_given_line : ℕ → BlockImage → Bool
is_given_line l x = list_any (λ (d : DispImage). list_any (λ (c : CapImage). is_of_line l c.cap.kind) d.caps) x.disps

-- no line is given to two blocks
abbrev pub LinesDiffer : List BlockImage → Type 0
LinesDiffer blocks =
    (l b d : ℕ) (x y : BlockImage) → slice_get blocks b ≡ Some x → slice_get blocks d ≡ Some y → IsTrue (is_given_line l x) →
    IsTrue (is_given_line l y) → b ≡ d

-- an image within the limits, whose homes are distinct cores that are on, whose capabilities name what exists, and whose lines are given once
pub record IsValid (image : Image) : Type 0 where
  pub format : (0 < image.format) × (image.format ≤ 2)
  pub kept : image.format ≡ 1 → image.clocks ≡ Kept
  pub limits : AreLimited (settings_of image)
  pub bases : Each image.cores (λ c k. k.base < clock_start_limit)
  pub homes : Each image.blocks (λ b x. IfSome x.home (IsOnAtStart image.cores))
  pub homes_differ : HomesDiffer image.blocks
  pub blocks : Each image.blocks (λ b x. IsValidBlock image b x)
  pub channels : Each image.channels (λ x c. IsValidChannel image c)
  pub lines_differ : LinesDiffer image.blocks

-- a script of at most 4,096 lines, each of which names what the machine has
pub record IsValidScript (t : Settings) (script : List ScriptLine) : Type 0 where
  pub most : length script ≤ longest_script
  pub lines : Each script (λ q l. LineWithin t l)

abbrev pub ActionWithin : Settings → Action → Type 0
ActionWithin t (action.Intake l) = l.0 < t.lines
ActionWithin t (action.Wake b d) = (b.0 < t.blocks) × (d.0 < most_disps)
ActionWithin t a = ⊤

-- a core's action of a core that the machine has, or an action of the script
abbrev pub IsActionOf : Settings → Actor → Action → Type 0
IsActionOf t (actor.Core c) action.Script = ⊥
IsActionOf t (actor.Core c) action.Raise = ⊥
IsActionOf t (actor.Core c) a = (c.0 < t.cores) × ActionWithin t a
IsActionOf t actor.Script action.Script = ⊤
IsActionOf t actor.Script action.Raise = ⊤
IsActionOf t actor.Script a = ⊥

-- a schedule of at most 262,144 lines, each an action of an actor of the machine
pub record IsValidSchedule (t : Settings) (schedule : List (Actor × Action)) : Type 0 where
  pub most : length schedule ≤ longest_schedule
  pub lines : Each schedule (λ i a. IsActionOf t a.0 a.1)
