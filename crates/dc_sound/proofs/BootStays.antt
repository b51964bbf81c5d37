-- The boot state of the cores and blocks stays in each entry that is no order.
use Rattle.std.proofs.Common.{◌≡◌, ℕ, zero, suc, ◌+◌, List, [], ◌∷◌, Option, Some, refl, sym, ap, ◌∙◌, subst, map}
use Rattle.std.specs.Prelude.{slice_get, slice_set, not}
use Rattle.std.specs.Option.{option_map}
use Rattle.std.proofs.lemmas.Option.{slice_get-map}
use Rattle.dc_base.specs.declared.commands.Command.{Command}
use Rattle.dc_base.specs.declared.entries.Entry.{Entry}
use Rattle.dc_base.specs.Changes.{Change, core_becomes, block_becomes, channel_becomes, line_becomes, mailbox_becomes, console_becomes, script_becomes, changed, apply}
use Rattle.dc_base.specs.Placed.{AreShares}
use Rattle.dc_base.specs.Progress.{booted_of, boot_of}
use Rattle.dc_base.specs.States.{State, Core, Block, Member, core_in}
use Rattle.dc_base.specs.SliceTurns.{core_after_slice}
use Rattle.dc_base.specs.Outcomes.{with_clock}
use Rattle.dc_sound.proofs.EntryKinds.{HasTurn, IsSlice, IsSliceNone, IsIdle, IsWake, IsIntake, IsPost, IsDone, IsRefused, IsRoute, IsAwaited, IsRaise, sliced_of, slice_changes, Before, first_post, next_post}
use Rattle.dc_sound.proofs.Registry.{boot_turned, boot_same}
use Rattle.dc_sound.proofs.Rules.{Rule, no_rule, Fine, fine_append, fine_outside}
use Rattle.dc_sound.proofs.Shares.{count-last}

-- the core of a block
abbrev pub core_of_block : Block → Option ℕ
core_of_block x = core_in x.whereabouts

-- what the boot state reads is as in s
abbrev boots : State → Rule
boots s = record no_rule { core = λ c k. slice_get (map booted_of s.cores) c ≡ Some (booted_of k); block = λ b x. slice_get (map core_of_block s.blocks) b ≡ Some (core_of_block x) }

map_kept : {A B : Type 0} (f : A → B) (xs : List A) (i : ℕ) (y : A) → slice_get (map f xs) i ≡ Some (f y) → map f (slice_set xs i y) ≡ map f xs
map_kept f [] i y h = refl
map_kept f (x ∷ xs) zero y h = let same : f x ≡ f y = cc in ap (λ b. b ∷ map f xs) (sym same)
map_kept f (x ∷ xs) (suc i) y h = ap (λ l. f x ∷ l) (map_kept f xs i y h)

module _ (s : State) where
  record ReadsSame (u : State) : Type 0 where
    pub cores : map booted_of u.cores ≡ map booted_of s.cores
    pub blocks : map core_of_block u.blocks ≡ map core_of_block s.blocks

  change_reads : (ch : Change) (u : State) (more : List Change) → Fine (boots s) (ch ∷ more) → ReadsSame u → ReadsSame (changed ch u)
  change_reads (core_becomes c k) u more f h = record { cores = map_kept booted_of u.cores c k (ap (λ l. slice_get l c) h.cores ∙ f.0) ∙ h.cores; blocks = h.blocks }
  change_reads (block_becomes b x) u more f h = record { cores = h.cores; blocks = map_kept core_of_block u.blocks b x (ap (λ l. slice_get l b) h.blocks ∙ f.0) ∙ h.blocks }
  change_reads (channel_becomes x r) u more f h = record { cores = h.cores; blocks = h.blocks }
  change_reads (line_becomes l w) u more f h = record { cores = h.cores; blocks = h.blocks }
  change_reads (mailbox_becomes c m) u more f h = record { cores = h.cores; blocks = h.blocks }
  change_reads (console_becomes b ws) u more f h = record { cores = h.cores; blocks = h.blocks }
  change_reads (script_becomes t) u more f h = record { cores = h.cores; blocks = h.blocks }

  all_read : (chs : List Change) (u : State) → Fine (boots s) chs → ReadsSame u → ReadsSame (apply u chs)
  all_read [] u f h = h
  all_read (ch ∷ chs) u f h = all_read chs (changed ch u) f.1 (change_reads ch u chs f h)

  boot_frame : (chs : List Change) → Fine (boots s) chs → boot_of (apply s chs) ≡ boot_of s
  boot_frame chs f = let r = all_read chs s f (record { cores = refl; blocks = refl }) in boot_same s (apply s chs) r.cores r.blocks

  core_at : (c : ℕ) (k new : Core) → slice_get s.cores c ≡ Some k → booted_of new ≡ booted_of k → slice_get (map booted_of s.cores) c ≡ Some (booted_of new)
  core_at c k new h e = slice_get-map booted_of s.cores c ∙ ap (option_map booted_of) h ∙ ap Some (sym e)

  block_at : (b : ℕ) (x : Block) → slice_get s.blocks b ≡ Some x → slice_get (map core_of_block s.blocks) b ≡ Some (core_of_block x)
  block_at b x h = slice_get-map core_of_block s.blocks b ∙ ap (option_map core_of_block) h

  module _ (chs : List Change) (e : Entry) where
    abbrev Stays : Type 0
    Stays = boot_of (apply s chs) ≡ boot_of s

    by : {more : List Change} → chs ≡ more → Fine (boots s) more → Stays
    by {more} q f = ap (λ cs. boot_of (apply s cs)) q ∙ boot_frame more f

    turned : (shares : AreShares s) (c : ℕ) (k : Core) (b : ℕ) (x : Block) → HasTurn s c k b x → (clock : ℕ) → booted_of (core_after_slice k b clock) ≡ booted_of k
    turned shares c k b x turn clock = boot_turned k b clock (λ ms. count-last (λ (m : Member). not m.parked) b ms) (shares c k turn.core_at).home

    pub by_slice : AreShares s → IsSlice s chs e → Stays
    by_slice shares i =
        by (slice_changes s chs e i)
        (core_at i.c i.k (core_after_slice i.k i.b (i.k.clock + (sliced_of s chs e i).advance)) i.turn.core_at (turned shares i.c i.k i.b i.x i.turn (i.k.clock + (sliced_of s chs e i).advance)), (block_at i.b i.x i.turn.block_at, fine_outside (boots s) i.b (sliced_of s chs e i).need (sliced_of s chs e i).outside (λ ws. tt) (λ x r. tt) (λ l w. tt)))

    pub by_slice_none : AreShares s → IsSliceNone s chs e → Stays
    by_slice_none shares i = by i.changes_are (core_at i.c i.k (core_after_slice i.k i.b (i.k.clock + 1)) i.turn.core_at (turned shares i.c i.k i.b i.x i.turn (i.k.clock + 1)), (block_at i.b i.x i.turn.block_at, tt))

    pub by_idle : IsIdle s chs e → Stays
    by_idle i = by i.changes_are (core_at i.c i.k (with_clock i.clock i.k) i.core_at refl, tt)

    pub by_wake : IsWake s chs e → Stays
    by_wake i = by i.changes_are (core_at i.c i.k (record i.k { used = i.k.used + 1 }) i.turn.core_at refl, (block_at i.b i.x i.turn.block_at, tt))

    pub by_intake : IsIntake s chs e → Stays
    by_intake i = by i.changes_are (block_at i.to.0 i.x i.block_at, (tt, tt))

    before_fine : (command : Command) (before : List Change) → Before s command before → Fine (boots s) before
    before_fine command before (first_post z r q) = subst (Fine (boots s)) (sym q) tt
    before_fine command before (next_post last p z g m q) = subst (Fine (boots s)) (sym q) (tt, tt)

    pub by_post : IsPost s chs e → Stays
    by_post i = by i.changes_are (fine_append (boots s) i.before _ (before_fine i.command i.before i.before_at) (tt, (tt, tt)))

    pub by_done : IsDone s chs e → Stays
    by_done i = by i.changes_are (fine_append (boots s) i.before _ (before_fine i.command i.before i.before_at) (tt, tt))

    pub by_refused : IsRefused s chs e → Stays
    by_refused i = by i.changes_are (tt, tt)

    pub by_route : IsRoute s chs e → Stays
    by_route i = by i.changes_are (tt, (tt, tt))

    pub by_awaited : IsAwaited s chs e → Stays
    by_awaited i = by i.changes_are (tt, tt)

    pub by_raise : IsRaise s chs e → Stays
    by_raise i = by i.changes_are (tt, (tt, tt))
