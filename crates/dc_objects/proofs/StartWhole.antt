-- The start is the whole of its parts.
use Rattle.std.proofs.Common.{◌≡◌, ℕ, List, [], map}
use Rattle.std.specs.Prelude.{replicate}
use Rattle.dc_base.specs.declared.images.BlockImage.{BlockImage}
use Rattle.dc_base.specs.declared.images.ChanImage.{ChanImage}
use Rattle.dc_base.specs.declared.images.CoreImage.{CoreImage}
use Rattle.dc_base.specs.declared.images.Image.{Image}
use Rattle.dc_base.specs.declared.commands.ScriptLine.{ScriptLine}
use Rattle.dc_base.specs.Channels.{Ring}
use Rattle.dc_base.specs.Lines.{Wire}
use Rattle.dc_base.specs.States.{State, Core, Block, Mailbox, Script, cores_from, block_started, settings_of, idle_wire, empty, script_start, core_start}
use Rattle.dc_objects.specs.Starts.{idle_ring}

-- the parts as an image and a script give them at the start
pub record AreStarted (image : Image) (given : List ScriptLine) (s : State) : Type 0 where
  pub cores : s.cores ≡ cores_from (settings_of image) 0 image.blocks image.cores
  pub blocks : s.blocks ≡ map (block_started image.cores) image.blocks
  pub channels : s.channels ≡ map (λ (c : ChanImage). idle_ring c.capacity) image.channels
  pub lines : s.lines ≡ replicate image.lines idle_wire
  pub mailboxes : s.mailboxes ≡ map (λ (c : CoreImage). empty) image.cores
  pub consoles : s.consoles ≡ map (λ (b : BlockImage). []) image.blocks
  pub script : s.script ≡ script_start image given

abbrev whole : List Core → List Block → List Ring → List Wire → List Mailbox → List (List ℕ) → Script → State
whole cores blocks channels lines mailboxes consoles script = record { cores = cores; blocks = blocks; channels = channels; lines = lines; mailboxes = mailboxes; consoles = consoles; script = script }

same_whole : (c d : List Core) (b x : List Block) (r q : List Ring) (w l : List Wire) (m n : List Mailbox) (o p : List (List ℕ)) (t u : Script) → c ≡ d → b ≡ x → r ≡ q → w ≡ l → m ≡ n → o ≡ p → t ≡ u → whole c b r w m o t ≡ whole d x q l n p u
same_whole c d b x r q w l m n o p t u i j k e f g h = rw (i, j, k, e, f, g, h)

pub started_whole : (image : Image) (given : List ScriptLine) (s : State) → AreStarted image given s → s ≡ core_start image given
unfolding core_start
started_whole image given s a = same_whole _ _ _ _ _ _ _ _ _ _ _ _ _ _ a.cores a.blocks a.channels a.lines a.mailboxes a.consoles a.script
