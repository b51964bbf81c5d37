-- Parts of soundness and of standing for at a reached state: a line with a pending raise amid a move.
use Rattle.dc_rows.specs.Computed.{machine_with_cores, machine_of_blocks}
use Rattle.dc_base.specs.CoreRuns.{core_run}
use Rattle.dc_base.specs.KeptOutside.{has_cap_of_line}
use Rattle.dc_base.specs.KeptOutside.{KeepsLines}
use Rattle.dc_base.specs.KeptByBlocks.{HasCaps}
use Rattle.dc_base.specs.KeptByBlocks.{HasDispatchers}
use Rattle.std.specs.Prelude.{◌≡◌, ℕ, List, [], ◌∷◌, true, false, Some, None, refl}
use Rattle.dc_base.specs.declared.images.Image.{Image}
use Rattle.dc_base.specs.declared.capabilities.CapKind.TheVariants as kind
use Rattle.dc_rows.specs.Images as image_of
use Rattle.dc_rows.specs.Scripts as script_line
use Rattle.dc_base.specs.declared.kernels.Version.TheVariants.{Rr}
use Rattle.dc_base.specs.declared.kernels.Clocks.TheVariants.{Kept}
use Rattle.dc_base.specs.declared.actions.Actor.{Actor}
use Rattle.dc_base.specs.declared.actions.Action.{Action}
use Rattle.dc_base.specs.declared.commands.ScriptLine.{ScriptLine}
use Rattle.dc_base.specs.declared.commands.Command.TheVariants as command
use Rattle.dc_rows.specs.Texts as texts
use Rattle.dc_base.specs.declared.dispatchers.DispState.TheVariants as ds
use Rattle.dc_base.specs.declared.dispatchers.Wait.TheVariants as wt
use Rattle.std.proofs.Common.{subst, inr, arith, zero, suc, ◌<◌}
use Rattle.std.specs.Prelude.{slice_get}
use Rattle.dc_base.proofs.EachLaws.{each_nil, each_cons}
use Rattle.dc_base.specs.States.{State, Core, Block, Settings, empty, ack, rest}
use Rattle.dc_base.specs.States.{order as ordered}
use Rattle.dc_base.specs.declared.commands.Order.{Order}
use Rattle.dc_base.specs.Blocks.{Blocks, live}
use Rattle.dc_base.specs.Lines.{pending, merged}
use Rattle.dc_base.specs.StandsFor.{PartsAgree, TimesAgree, OutputsAgree, LivesAgree, ChannelsAgree, BindingsAgree, OffersAgree, PendingAgree, CountsAgree}
use Rattle.dc_base.specs.Parts.{whole_memory}
use Rattle.dc_base.specs.Capabilities.{Seat}
use Rattle.dc_base.specs.Effects.{Context}
use Rattle.dc_base.specs.Lines.{Wire}
use Rattle.dc_base.specs.Boot.{refusal}
use Rattle.dc_base.specs.Progress.{command_at}
use Rattle.dc_base.specs.declared.commands.Command.{Command}
use Rattle.dc_base.specs.declared.dispatchers.DispState.{DispState}
use Rattle.dc_base.specs.declared.interrupts.Timer.{Timer}
use Rattle.dc_base.specs.Placed.{IsPlaced, AreShares}
use Rattle.dc_base.specs.ScriptForm.{IsInForm}
use Rattle.dc_base.specs.Script.{next_raise}
use Rattle.dc_base.specs.Progress.{MailboxesFollow, PostsFit, IsRegistered}
use Rattle.dc_base.specs.Named.{IsNamed, WaitersStand}
use Rattle.dc_base.specs.KeptOutside.{KeepsCounts}
use Rattle.dc_base.specs.KeptByBlocks.{HasShape, HasReady, HasTimers}
use Rattle.dc_base.specs.Bounded.{IsClocked, DuesWithin, DeadlinesWithin, NumbersWithin, IsCounted}

abbrev image : Image
image = record {
  format = 1;
  clocks = Kept;
  quantum = 4;
  slices = 100;
  lines = 1;
  cores = image_of.core 0 Rr ∷ image_of.core 0 Rr ∷ [];
  blocks = (record {
    home = image_of.home 0;
    memory = [];
    ports = 0;
    signals = 1;
    disps =
        record {
          code = 738263040 ∷ 638713856 ∷ 538968064 ∷ 335544320 ∷ [];
          period = 1;
          due = 0;
          caps = image_of.cap 0 (image_of.line 0) 7 ∷ image_of.cap 1 (image_of.signal 0) 7 ∷ [];
        }
        ∷ [];
  } ∷ []);
  channels = [];
}

abbrev script : List ScriptLine
script = (script_line.move 0 1 ∷ script_line.raise 0 ∷ script_line.raise 0 ∷ script_line.route 0 1 ∷ [])

abbrev schedule : List (Actor × Action)
schedule = (texts.step 0 ∷ texts.step 0 ∷ texts.script ∷ texts.order 0 ∷ texts.raise ∷ texts.raise ∷ [])

abbrev t : Settings
t = record { quantum = 4; slices = 100; clocks = Kept; cores = 2; blocks = 1; channels = 0; lines = 1 }

abbrev core0 : Core
core0 = record { settings = t; version = Some Rr; clock = 2; share = []; used = 2 }

abbrev core1 : Core
core1 = record { settings = t; version = Some Rr; clock = 0; share = []; used = 0 }

abbrev held0 : Seat
held0 = record { slot = 0; cap = record { kind = kind.Line (record { 0 = 0 }); rights = 7 }; parent = None }

abbrev held1 : Seat
held1 = record { slot = 1; cap = record { kind = kind.Signal (record { 0 = 0 }); rights = 7 }; parent = None }

abbrev context0 : Context
context0 = record { regs = 0 ∷ 0 ∷ 0 ∷ 0 ∷ 0 ∷ 0 ∷ 0 ∷ 0 ∷ []; place = 1 }

abbrev state0 : DispState
state0 = ds.Waits (wt.Signal (record { 0 = 0 }))

abbrev block0 : Block
block0 = record {
  control = record {
    parts = record {
      memory = whole_memory [];
      code = (738263040 ∷ 638713856 ∷ 538968064 ∷ 335544320 ∷ []) ∷ [];
      contexts = context0 ∷ [];
      caps = held0 ∷ held1 ∷ [];
      timers = [];
      next_timer = 0;
      ports = [];
      signals = None ∷ [];
    };
    states = state0 ∷ [];
    dues = 0 ∷ [];
    periods = 1 ∷ [];
    ready = [];
  };
  whereabouts = rest 2;
}

abbrev wire0 : Wire
wire0 = record {
  bound = Some (0, 0);
  route = Some 0;
  pending = Some 1;
  offer = None;
  counts = record { raised = 2; stray = 0; merged = 1; given = 0; joined = 0 };
}

abbrev s : State
s = record {
  cores = core0 ∷ core1 ∷ [];
  blocks = block0 ∷ [];
  channels = [];
  lines = wire0 ∷ [];
  mailboxes = ack ∷ empty ∷ [];
  consoles = [] ∷ [];
  script = record {
    settings = t;
    lines = script;
    registry = record {
      cores = Some (record { version = Rr; home = Some 0; parked = [] }) ∷ Some (record { version = Rr; home = None; parked = [] }) ∷ [];
      places = Some 0 ∷ [];
    };
    place = 0;
    raises = 2;
    posts = 1;
  };
}

reached : (core_run image script schedule).state ≡ s
unfolding machine_with_cores machine_of_blocks
reached = refl

none_true : false ≡ true → ⊥
none_true e = cc

placed : IsPlaced s
placed = record {
  listed = each_cons _ block0 [] tt (each_nil _);
  only = each_cons _ core0 (core1 ∷ []) (λ b e. absurd (none_true e)) (each_cons _ core1 [] (λ b e. absurd (none_true e)) (each_nil _));
}

shares : AreShares s
shares = each_cons _ core0 (core1 ∷ []) (record { once = λ b. omega arith; home = omega arith; parked = omega arith; off = λ e. refl })
    (each_cons _ core1 [] (record { once = λ b. omega arith; home = omega arith; parked = omega arith; off = λ e. refl }) (each_nil _))

mailboxes : MailboxesFollow s
unfolding machine_with_cores machine_of_blocks
mailboxes = each_cons _ ack (empty ∷ []) (inr refl) (each_cons _ empty [] refl (each_nil _))

registered : IsRegistered s
unfolding machine_with_cores machine_of_blocks
registered = record { idle = λ e. cc; accepted = λ c h e. accepted_by c e; carried = λ h. refl }
  where
    accepted_by : (c : Command) → command_at s.script ≡ Some c → refusal s.script.registry c ≡ None
    accepted_by c e = let same : command.Move (record { 0 = 0 }) (record { 0 = 1 }) ≡ c = cc in subst (λ c. refusal s.script.registry c ≡ None) same refl

made_above : (k r : ℕ) → k < 2 → next_raise script k ≡ Some r → r < 3
made_above zero r h e = let first : 1 ≡ r = cc in omega (arith, first)
made_above (suc zero) r h e = let second : 2 ≡ r = cc in omega (arith, second)
made_above (suc (suc k)) r h e = absurd (omega (arith, h))

no_more : (r : ℕ) → next_raise script 2 ≡ Some r → ⊥
no_more r e = cc

in_form : IsInForm s
unfolding machine_with_cores
in_form = record {
  at_command = refl;
  raises = omega arith;
  posts = record { command = λ h. refl; posted = omega arith };
  raises_before = λ q r l e c u h. absurd (no_more r h);
  commands_before = λ k r h e. made_above k r h e;
}

named : IsNamed s
named = record {
  blocks = each_cons _ block0 [] (record {
    caps = each_cons _ held0 (held1 ∷ []) (omega arith) (each_cons _ held1 [] (omega arith) (each_nil _));
    waiters = each_cons _ state0 [] (omega arith) (each_nil _);
    timers = each_nil _;
    latches = each_cons _ None [] tt (each_nil _);
  }) (each_nil _);
  wires = each_cons _ wire0 [] (record { bound = (block0, refl, omega arith); route = omega arith; offer = tt }) (each_nil _);
}

waiters : WaitersStand s
waiters = each_cons _ block0 [] (each_cons _ state0 [] (λ e. absurd (none_true e)) (each_nil _)) (each_nil _)

counts : KeepsCounts s
counts = each_cons _ wire0 [] refl (each_nil _)

counted : IsCounted s
unfolding machine_with_cores machine_of_blocks
counted = record {
  used = each_cons _ core0 (core1 ∷ []) (omega arith) (each_cons _ core1 [] (omega arith) (each_nil _));
  sent = each_nil _;
  raised = each_cons _ wire0 [] (omega arith) (each_nil _);
  given = each_cons _ wire0 [] (omega arith) (each_nil _);
}

clocked : IsClocked s
clocked = record {
  clocks = each_cons _ core0 (core1 ∷ []) (omega arith) (each_cons _ core1 [] (omega arith) (each_nil _));
  from_zero = each_cons _ block0 [] tt (each_nil _);
  times = each_cons _ block0 [] (omega arith) (each_nil _);
}

dues_within : DuesWithin s
dues_within = each_cons _ block0 [] (each_cons _ 0 [] (omega arith) (each_nil _)) (each_nil _)

deadlines_within : DeadlinesWithin s
deadlines_within = each_cons _ block0 [] (each_nil _) (each_nil _)

numbers_within : NumbersWithin s
numbers_within = each_cons _ block0 [] (omega arith) (each_nil _)

shape : HasShape block0.control
shape = record {
  memory = refl;
  some = omega arith;
  disps = omega arith;
  code = refl;
  contexts = refl;
  dues = refl;
  periods = refl;
  ports = omega arith;
  signals = omega arith;
}

ready : HasReady block0.control
ready zero = refl
ready (suc d) = refl

timers : HasTimers block0.control
timers = record { ascending = λ i j t u h e f. absurd (none_there i t e); below = each_nil _; room = omega arith }
  where
    none_there : (i : ℕ) (t : Timer) → slice_get {X = Timer} [] i ≡ Some t → ⊥
    none_there zero t e = cc
    none_there (suc i) t e = cc

posts : PostsFit s
posts zero o k e f = absurd (no_order o e)
  where
    no_order : (o : Order) → Some ack ≡ Some (ordered o) → ⊥
    no_order o e = cc
posts (suc zero) o k e f = absurd (no_order o e)
  where
    no_order : (o : Order) → Some empty ≡ Some (ordered o) → ⊥
    no_order o e = cc
posts (suc (suc c)) o k e f = absurd (no_order o e)
  where
    no_order : (o : Order) → None ≡ Some (ordered o) → ⊥
    no_order o e = cc

-- what the journal so far comes to in the machine of blocks
abbrev plain : Blocks
plain = record {
  blocks = record { parts = block0.control.parts; lives = live ∷ []; clock = 2; output = [] } ∷ [];
  channels = [];
  lines = record { bound = Some (0, 0); offer = None; fates = pending ∷ merged ∷ [] } ∷ [];
}

parts_agree : PartsAgree s plain
parts_agree = refl

times_agree : TimesAgree s plain
times_agree = refl

outputs_agree : OutputsAgree s plain
outputs_agree = refl

lives_agree : LivesAgree s plain
lives_agree = refl

channels_agree : ChannelsAgree s plain
channels_agree = refl

bindings_agree : BindingsAgree s plain
bindings_agree = refl

offers_agree : OffersAgree s plain
offers_agree = refl

pending_agree : PendingAgree s plain
pending_agree = refl

counts_agree : CountsAgree s plain
counts_agree = refl

dispatchers : HasDispatchers block0.control
dispatchers = record {
  code = each_cons _ (738263040 ∷ 638713856 ∷ 538968064 ∷ 335544320 ∷ []) [] (omega arith, omega arith) (each_nil _);
  regs = each_cons _ context0 [] refl (each_nil _);
  places = each_cons _ context0 [] (omega arith) (each_nil _);
  periods = each_cons _ 1 [] (omega arith, omega arith) (each_nil _);
  traps = each_cons _ state0 [] tt (each_nil _);
}

nothing_at : {A : Type 0} (i : ℕ) (x : A) → slice_get {X = A} [] i ≡ Some x → ⊥
nothing_at zero x e = cc
nothing_at (suc i) x e = cc

one_block : (l b c : ℕ) (x y : Block) → slice_get s.blocks b ≡ Some x → slice_get s.blocks c ≡ Some y
    → has_cap_of_line l x.control ≡ true → has_cap_of_line l y.control ≡ true → b ≡ c
one_block l zero zero x y e f g h = refl
one_block l zero (suc c) x y e f g h = absurd (nothing_at c y f)
one_block l (suc b) c x y e f g h = absurd (nothing_at b x e)

kept_lines : KeepsLines s
kept_lines = record {
  one = one_block;
  none = each_cons _ wire0 [] (λ h. absurd (none_true h)) (each_nil _);
  rights = each_cons _ wire0 [] tt (each_nil _);
  pending = each_cons _ wire0 [] (omega arith) (each_nil _);
}

cap_order : (i j : ℕ) (h k : Seat) → i < j → slice_get block0.control.parts.caps i ≡ Some h → slice_get block0.control.parts.caps j ≡ Some k → h.slot < k.slot
cap_order zero zero h k lt e f = absurd (omega (arith, lt))
cap_order zero (suc zero) h k lt e f =
    let first : held0 ≡ h = cc in
    let second : held1 ≡ k = cc in
    subst (λ (v : Seat). v.slot < k.slot) first (subst (λ (v : Seat). held0.slot < v.slot) second (omega arith))
cap_order zero (suc (suc j)) h k lt e f = absurd (nothing_at j k f)
cap_order (suc i) zero h k lt e f = absurd (omega (arith, lt))
cap_order (suc zero) (suc zero) h k lt e f = absurd (omega (arith, lt))
cap_order (suc zero) (suc (suc j)) h k lt e f = absurd (nothing_at j k f)
cap_order (suc (suc i)) (suc j) h k lt e f = absurd (nothing_at i h e)

caps : HasCaps block0.control
caps = record {
  ascending = cap_order;
  slots = each_cons _ held0 (held1 ∷ []) (omega arith) (each_cons _ held1 [] (omega arith) (each_nil _));
  rights = each_cons _ held0 (held1 ∷ []) (omega arith) (each_cons _ held1 [] (omega arith) (each_nil _));
  parents = each_cons _ held0 (held1 ∷ []) tt (each_cons _ held1 [] tt (each_nil _));
  roots = (λ n. n, each_cons _ held0 (held1 ∷ []) tt (each_cons _ held1 [] tt (each_nil _)));
}
