-- Parts of soundness at a reached state: a block with an armed timer amid a move.
use Rattle.dc_rows.specs.Computed.{machine_with_cores, machine_of_blocks}
use Rattle.dc_base.specs.CoreRuns.{core_run}
use Rattle.dc_base.specs.Placed as placed
use Rattle.std.specs.Prelude.{◌≡◌, List, [], ◌∷◌, false, Some, None, refl}
use Rattle.dc_base.specs.declared.images.Image.{Image}
use Rattle.dc_base.specs.declared.capabilities.CapKind.TheVariants as kind
use Rattle.dc_rows.specs.Images as image_of
use Rattle.dc_rows.specs.Scripts as script_line
use Rattle.dc_base.specs.declared.kernels.Version.TheVariants.{Rr}
use Rattle.dc_base.specs.declared.kernels.Clocks.TheVariants.{Kept}
use Rattle.dc_base.specs.declared.actions.Actor.{Actor}
use Rattle.dc_base.specs.declared.actions.Action.{Action}
use Rattle.dc_base.specs.declared.commands.ScriptLine.{ScriptLine}
use Rattle.dc_base.specs.declared.commands.Command.TheVariants as command
use Rattle.dc_rows.specs.Texts as texts
use Rattle.dc_base.specs.declared.dispatchers.DispState.TheVariants as ds
use Rattle.std.proofs.Common.{subst, inr, arith, ◌<◌}
use Rattle.dc_base.specs.Words.{Each}
use Rattle.dc_base.proofs.EachLaws.{each_nil, each_cons}
use Rattle.dc_base.specs.States.{State, Core, Block, Settings, empty, ack, on}
use Rattle.dc_base.specs.Parts.{whole_memory}
use Rattle.dc_base.specs.Boot.{refusal}
use Rattle.dc_base.specs.Progress.{command_at}
use Rattle.dc_base.specs.declared.commands.Command.{Command}
use Rattle.dc_base.specs.declared.interrupts.Timer.{Timer}
use Rattle.dc_base.specs.Placed.{IsPlaced, AreShares}
use Rattle.dc_base.specs.Progress.{MailboxesFollow, IsRegistered}
use Rattle.dc_base.specs.Bounded.{IsClocked, DuesWithin, DeadlinesWithin, NumbersWithin}
use Rattle.std.specs.Prelude.{pos, length}

abbrev image : Image
image = record {
  format = 1;
  clocks = Kept;
  quantum = 4;
  slices = 100;
  lines = 0;
  cores = image_of.core 1000000 Rr ∷ image_of.core 0 Rr ∷ [];
  blocks = (record {
    home = image_of.home 0;
    memory = [];
    ports = 0;
    signals = 1;
    disps =
        record {
          code = 17825802 ∷ 654376965 ∷ 637665280 ∷ 305397760 ∷ 540016640 ∷ 335544320 ∷ [];
          period = 1;
          due = 0;
          caps = image_of.cap 0 (image_of.signal 0) 7 ∷ [];
        }
        ∷ [];
  } ∷ []);
  channels = [];
}

abbrev script : List ScriptLine
script = (script_line.move 0 1 ∷ [])

abbrev schedule : List (Actor × Action)
schedule = (texts.step 0 ∷ texts.script ∷ texts.order 0 ∷ texts.script ∷ texts.order 1 ∷ [])

abbrev t : Settings
t = record { quantum = 4; slices = 100; clocks = Kept; cores = 2; blocks = 1; channels = 0; lines = 0 }

abbrev core0 : Core
core0 = record { settings = t; version = Some Rr; clock = 1000002; share = []; used = 1 }

abbrev core1 : Core
core1 = record { settings = t; version = Some Rr; clock = 0; share = record { block = 0; parked = false } ∷ []; used = 0 }

abbrev timer0 : Timer
timer0 = record { deadline = 10; number = 0; signal = record { 0 = 0 }; value = 5 }

abbrev block0 : Block
block0 = record {
  control = record {
    parts = record {
      memory = whole_memory [];
      code = (17825802 ∷ 654376965 ∷ 637665280 ∷ 305397760 ∷ 540016640 ∷ 335544320 ∷ []) ∷ [];
      contexts = record { regs = 0 ∷ 10 ∷ 0 ∷ 0 ∷ 0 ∷ 0 ∷ 0 ∷ 0 ∷ []; place = 2 } ∷ [];
      caps = record { slot = 0; cap = record { kind = kind.Signal (record { 0 = 0 }); rights = 7 }; parent = None } ∷ [];
      timers = timer0 ∷ [];
      next_timer = 1;
      ports = [];
      signals = None ∷ [];
    };
    states = ds.Ready ∷ [];
    dues = 0 ∷ [];
    periods = 1 ∷ [];
    ready = 0 ∷ [];
  };
  whereabouts = on 1 (pos 2) Rr;
}

abbrev s : State
s = record {
  cores = core0 ∷ core1 ∷ [];
  blocks = block0 ∷ [];
  channels = [];
  lines = [];
  mailboxes = empty ∷ ack ∷ [];
  consoles = [] ∷ [];
  script = record {
    settings = t;
    lines = script;
    registry = record {
      cores = Some (record { version = Rr; home = Some 0; parked = [] }) ∷ Some (record { version = Rr; home = None; parked = [] }) ∷ [];
      places = Some 0 ∷ [];
    };
    place = 0;
    raises = 0;
    posts = 2;
  };
}

reached : (core_run image script schedule).state ≡ s
unfolding machine_with_cores machine_of_blocks
reached = refl

listed : Each s.blocks (λ b x. placed.IsListed s b x.whereabouts)
listed = each_cons _ block0 [] (core1, refl, refl, refl) (each_nil _)

mailboxes : MailboxesFollow s
unfolding machine_with_cores machine_of_blocks
mailboxes = each_cons _ empty (ack ∷ []) refl (each_cons _ ack [] (inr refl) (each_nil _))

registered : IsRegistered s
unfolding machine_with_cores machine_of_blocks
registered = record { idle = λ e. cc; accepted = λ c h e. accepted_by c e; carried = λ h. refl }
  where
    accepted_by : (c : Command) → command_at s.script ≡ Some c → refusal s.script.registry c ≡ None
    accepted_by c e = let same : command.Move (record { 0 = 0 }) (record { 0 = 1 }) ≡ c = cc in subst (λ c. refusal s.script.registry c ≡ None) same refl

clocked : IsClocked s
clocked = record {
  clocks = each_cons _ core0 (core1 ∷ []) (omega arith) (each_cons _ core1 [] (omega arith) (each_nil _));
  from_zero = each_cons _ block0 [] (omega arith) (each_nil _);
  times = each_cons _ block0 [] (omega arith) (each_nil _);
}

dues_within : DuesWithin s
dues_within = each_cons _ block0 [] (each_cons _ 0 [] (omega arith) (each_nil _)) (each_nil _)

deadlines_within : DeadlinesWithin s
deadlines_within = each_cons _ block0 [] (each_cons _ timer0 [] (omega arith) (each_nil _)) (each_nil _)

numbers_within : NumbersWithin s
numbers_within = each_cons _ block0 [] (omega arith) (each_nil _)

named : Each block0.control.parts.timers (λ i (u : Timer). u.signal.0 < length block0.control.parts.signals)
named = each_cons _ timer0 [] (omega arith) (each_nil _)

timers : Each block0.control.parts.timers (λ i (u : Timer). u.number < block0.control.parts.next_timer)
timers = each_cons _ timer0 [] (omega arith) (each_nil _)
