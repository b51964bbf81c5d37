-- What stands for a state stands for it after the blocks of a core were handled alike, at the same times.
use Rattle.std.proofs.Common.{◌≡◌, ℕ, List, [], ◌∷◌, Option, Some, None, refl, sym, ap, ◌∙◌, map}
use Rattle.std.specs.Prelude.{slice_get, IsSome}
use Rattle.std.specs.Option.{option_map}
use Rattle.std.proofs.lemmas.Option.{slice_get-map}
use Rattle.dc_base.specs.declared.kernels.Version.{Version}
use Rattle.dc_base.specs.Words.{bind}
use Rattle.dc_base.specs.ControlBlocks.{ControlBlock}
use Rattle.dc_base.specs.Boot.{Booted, booted_at}
use Rattle.dc_base.specs.Blocks.{Blocks}
use Rattle.dc_base.specs.States.{State, Core, Block, Mailbox, time_of}
use Rattle.dc_base.specs.Shown.{life_of}
use Rattle.dc_base.specs.StandsFor.{StandsFor}
use Rattle.dc_base.specs.Progress.{boot_of, booted_of, home_block, parked_blocks}

-- a reading of blocks that the handling leaves alone
pub map_kept : {A : Type 0} (g : Block → Block) (f h : Block → A) → ((x : Block) → f (g x) ≡ h x) → (xs : List Block) → map f (map g xs) ≡ map h xs
map_kept g f h same [] = refl
map_kept g f h same (x ∷ xs) = ap (λ v. v ∷ map f (map g xs)) (same x) ∙ ap (λ l. h x ∷ l) (map_kept g f h same xs)

-- the handling leaves control blocks and times alone
pub record IsHandling (s : State) (cores : List Core) (g : Block → Block) : Type 0 where
  pub control : (x : Block) → (g x).control ≡ x.control
  pub time : (x : Block) → time_of cores (g x).whereabouts ≡ time_of s.cores x.whereabouts

pub stands_handled : (s : State) (t : Blocks) (cores : List Core) (mailboxes : List Mailbox) (g : Block → Block) → IsHandling s cores g → StandsFor s t → StandsFor (record s { cores = cores; mailboxes = mailboxes; blocks = map g s.blocks }) t
stands_handled s t cores mailboxes g handling stands = record {
  blocks = record {
    parts = stands.blocks.parts ∙ sym (map_kept g (λ (x : Block). x.control.parts) (λ (x : Block). x.control.parts) (λ x. ap (λ (c : ControlBlock). c.parts) (handling.control x)) s.blocks);
    times = stands.blocks.times ∙ sym (map_kept g (λ (x : Block). time_of cores x.whereabouts) (λ (x : Block). time_of s.cores x.whereabouts) handling.time s.blocks);
    outputs = stands.blocks.outputs;
    lives = stands.blocks.lives ∙ sym (map_kept g (λ (x : Block). map life_of x.control.states) (λ (x : Block). map life_of x.control.states) (λ x. ap (λ (c : ControlBlock). map life_of c.states) (handling.control x)) s.blocks);
  };
  channels = stands.channels;
  lines = record { bindings = stands.lines.bindings; offers = stands.lines.offers; pending = stands.lines.pending; counts = stands.lines.counts };
  latches = record { agree = stands.latches.agree; differ = stands.latches.differ; numbered = stands.latches.numbered };
}

abbrev pub booted : Version → Core → Booted
booted v k = record { version = v; home = home_block k.share; parked = parked_blocks k.share }

-- a core that is on, in the boot state
pub booted_there : (s : State) (c : ℕ) (k : Core) (v : Version) → slice_get s.cores c ≡ Some k → k.version ≡ Some v → booted_at (boot_of s) c ≡ Some (booted v k)
unfolding boot_of
booted_there s c k v core_at is_on =
    ap (λ o. bind o (λ p. p)) (slice_get-map booted_of s.cores c ∙ ap (option_map booted_of) core_at) ∙ ap (option_map (λ v. booted v k)) is_on

-- what is there, where something is
pub some_there : {A : Type 0} (o : Option A) → IsSome o → (x : A) × (o ≡ Some x)
some_there None h = cc
some_there (Some x) h = (x, refl)
