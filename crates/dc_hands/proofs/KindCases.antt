-- An object of a kind is of no other kind.
use Rattle.std.proofs.Common.{◌≡◌, ℕ, List, refl}
use Rattle.dc_base.specs.Changes.{block, channel, console, core, mailbox, script, wire}
use Rattle.dc_base.specs.Channels.{Ring}
use Rattle.dc_base.specs.Lines.{Wire}
use Rattle.dc_base.specs.States.{Block, Core, Script}
use Rattle.dc_base.specs.States.{Mailbox as Letters}
use Rattle.dc_scene.specs.Objects.{object_seen}
use Rattle.dc_scene.specs.declared.objects.Object.{Object}
use Rattle.dc_scene.specs.declared.objects.Object.TheVariants as object

module _ {D : Type 0} where
  pub not_core : (o : Object D) → ((x : Core) → o ≡ object.Core x → ⊥) → (x : Core) × (object_seen o ≡ core x) → ⊥
  not_core (object.Core y) n h = n y refl
  not_core (object.Block y) n h = let bad : block y ≡ core h.0 = h.1 in cc
  not_core (object.Channel y) n h = let bad : channel y ≡ core h.0 = h.1 in cc
  not_core (object.Line y) n h = let bad : wire y ≡ core h.0 = h.1 in cc
  not_core (object.Mailbox y) n h = let bad : mailbox y ≡ core h.0 = h.1 in cc
  not_core (object.Console y) n h = let bad : console y ≡ core h.0 = h.1 in cc
  not_core (object.Script y) n h = let bad : script y ≡ core h.0 = h.1 in cc

  pub not_block : (o : Object D) → ((x : Block) → o ≡ object.Block x → ⊥) → (x : Block) × (object_seen o ≡ block x) → ⊥
  not_block (object.Core y) n h = let bad : core y ≡ block h.0 = h.1 in cc
  not_block (object.Block y) n h = n y refl
  not_block (object.Channel y) n h = let bad : channel y ≡ block h.0 = h.1 in cc
  not_block (object.Line y) n h = let bad : wire y ≡ block h.0 = h.1 in cc
  not_block (object.Mailbox y) n h = let bad : mailbox y ≡ block h.0 = h.1 in cc
  not_block (object.Console y) n h = let bad : console y ≡ block h.0 = h.1 in cc
  not_block (object.Script y) n h = let bad : script y ≡ block h.0 = h.1 in cc

  pub not_channel : (o : Object D) → ((x : Ring) → o ≡ object.Channel x → ⊥) → (x : Ring) × (object_seen o ≡ channel x) → ⊥
  not_channel (object.Core y) n h = let bad : core y ≡ channel h.0 = h.1 in cc
  not_channel (object.Block y) n h = let bad : block y ≡ channel h.0 = h.1 in cc
  not_channel (object.Channel y) n h = n y refl
  not_channel (object.Line y) n h = let bad : wire y ≡ channel h.0 = h.1 in cc
  not_channel (object.Mailbox y) n h = let bad : mailbox y ≡ channel h.0 = h.1 in cc
  not_channel (object.Console y) n h = let bad : console y ≡ channel h.0 = h.1 in cc
  not_channel (object.Script y) n h = let bad : script y ≡ channel h.0 = h.1 in cc

  pub not_line : (o : Object D) → ((x : Wire) → o ≡ object.Line x → ⊥) → (x : Wire) × (object_seen o ≡ wire x) → ⊥
  not_line (object.Core y) n h = let bad : core y ≡ wire h.0 = h.1 in cc
  not_line (object.Block y) n h = let bad : block y ≡ wire h.0 = h.1 in cc
  not_line (object.Channel y) n h = let bad : channel y ≡ wire h.0 = h.1 in cc
  not_line (object.Line y) n h = n y refl
  not_line (object.Mailbox y) n h = let bad : mailbox y ≡ wire h.0 = h.1 in cc
  not_line (object.Console y) n h = let bad : console y ≡ wire h.0 = h.1 in cc
  not_line (object.Script y) n h = let bad : script y ≡ wire h.0 = h.1 in cc

  pub not_mailbox : (o : Object D) → ((x : Letters) → o ≡ object.Mailbox x → ⊥) → (x : Letters) × (object_seen o ≡ mailbox x) → ⊥
  not_mailbox (object.Core y) n h = let bad : core y ≡ mailbox h.0 = h.1 in cc
  not_mailbox (object.Block y) n h = let bad : block y ≡ mailbox h.0 = h.1 in cc
  not_mailbox (object.Channel y) n h = let bad : channel y ≡ mailbox h.0 = h.1 in cc
  not_mailbox (object.Line y) n h = let bad : wire y ≡ mailbox h.0 = h.1 in cc
  not_mailbox (object.Mailbox y) n h = n y refl
  not_mailbox (object.Console y) n h = let bad : console y ≡ mailbox h.0 = h.1 in cc
  not_mailbox (object.Script y) n h = let bad : script y ≡ mailbox h.0 = h.1 in cc

  pub not_console : (o : Object D) → ((x : List ℕ) → o ≡ object.Console x → ⊥) → (x : List ℕ) × (object_seen o ≡ console x) → ⊥
  not_console (object.Core y) n h = let bad : core y ≡ console h.0 = h.1 in cc
  not_console (object.Block y) n h = let bad : block y ≡ console h.0 = h.1 in cc
  not_console (object.Channel y) n h = let bad : channel y ≡ console h.0 = h.1 in cc
  not_console (object.Line y) n h = let bad : wire y ≡ console h.0 = h.1 in cc
  not_console (object.Mailbox y) n h = let bad : mailbox y ≡ console h.0 = h.1 in cc
  not_console (object.Console y) n h = n y refl
  not_console (object.Script y) n h = let bad : script y ≡ console h.0 = h.1 in cc

  pub not_script : (o : Object D) → ((x : Script) → o ≡ object.Script x → ⊥) → (x : Script) × (object_seen o ≡ script x) → ⊥
  not_script (object.Core y) n h = let bad : core y ≡ script h.0 = h.1 in cc
  not_script (object.Block y) n h = let bad : block y ≡ script h.0 = h.1 in cc
  not_script (object.Channel y) n h = let bad : channel y ≡ script h.0 = h.1 in cc
  not_script (object.Line y) n h = let bad : wire y ≡ script h.0 = h.1 in cc
  not_script (object.Mailbox y) n h = let bad : mailbox y ≡ script h.0 = h.1 in cc
  not_script (object.Console y) n h = let bad : console y ≡ script h.0 = h.1 in cc
  not_script (object.Script y) n h = n y refl
