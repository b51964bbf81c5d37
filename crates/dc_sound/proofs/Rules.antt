-- Frames: what holds of each object is kept by changes to objects of which it holds.
use Rattle.std.proofs.Common.{◌≡◌, ℕ, zero, suc, List, [], ◌∷◌, ◌++◌, Option, Some, None, refl, subst, map}
use Rattle.std.specs.Prelude.{slice_get, slice_set, ⊤}
use Rattle.std.specs.Option.{option_map_or}
use Rattle.dc_base.specs.declared.calls.Need.TheVariants as needs
use Rattle.dc_base.specs.declared.calls.Need.{Need}
use Rattle.dc_base.specs.Changes.{Change, core_becomes, block_becomes, channel_becomes, line_becomes, mailbox_becomes, console_becomes, script_becomes, changed, apply}
use Rattle.dc_base.specs.Channels.{Ring}
use Rattle.dc_base.specs.Lines.{Wire}
use Rattle.dc_base.specs.Orders.{change_all}
use Rattle.dc_base.specs.Serving.{Outside, console_outside, channel_outside, line_outside}
use Rattle.dc_base.specs.States.{State, Core, Block, Mailbox, Script}
use Rattle.dc_base.specs.NeededLooks.{outside_change}
use Rattle.dc_base.specs.Turns.{Looked, looked_at}
use Rattle.dc_base.specs.Words.{Each}

-- what is to hold of each object, by its number
pub record Rule : Type 1 where
  pub core : ℕ → Core → Type 0
  pub block : ℕ → Block → Type 0
  pub channel : ℕ → Ring → Type 0
  pub line : ℕ → Wire → Type 0
  pub mailbox : ℕ → Mailbox → Type 0
  pub console : ℕ → List ℕ → Type 0
  pub script : Script → Type 0

-- a rule that says nothing: a part names the kinds that it speaks of, as in `record no_rule { channel = .. }`
abbrev pub no_rule : Rule
no_rule = record {
  core = λ c k. ⊤;
  block = λ b x. ⊤;
  channel = λ x r. ⊤;
  line = λ l w. ⊤;
  mailbox = λ c m. ⊤;
  console = λ b ws. ⊤;
  script = λ t. ⊤;
}

pub record Obeys (R : Rule) (s : State) : Type 0 where
  pub cores : Each s.cores R.core
  pub blocks : Each s.blocks R.block
  pub channels : Each s.channels R.channel
  pub lines : Each s.lines R.line
  pub mailboxes : Each s.mailboxes R.mailbox
  pub consoles : Each s.consoles R.console
  pub script : R.script s.script

abbrev pub FineChange : Rule → Change → Type 0
FineChange R (core_becomes c k) = R.core c k
FineChange R (block_becomes b x) = R.block b x
FineChange R (channel_becomes x r) = R.channel x r
FineChange R (line_becomes l w) = R.line l w
FineChange R (mailbox_becomes c m) = R.mailbox c m
FineChange R (console_becomes b ws) = R.console b ws
FineChange R (script_becomes t) = R.script t

abbrev pub Fine : Rule → List Change → Type 0
Fine R [] = ⊤
Fine R (ch ∷ chs) = FineChange R ch × Fine R chs

some_same : {A : Type 0} {x y : A} → Some x ≡ Some y → x ≡ y
some_same e = cc

pub each-set : {A : Type 0} (P : ℕ → A → Type 0) (xs : List A) (i : ℕ) (y : A) → P i y → Each xs P → Each (slice_set xs i y) P
each-set P [] i y p h j z e = absurd cc
each-set P (x ∷ xs) zero y p h zero z e = subst (P zero) (some_same e) p
each-set P (x ∷ xs) zero y p h (suc j) z e = h (suc j) z e
each-set P (x ∷ xs) (suc i) y p h zero z e = h zero z e
each-set P (x ∷ xs) (suc i) y p h (suc j) z e = each-set (λ n. P (suc n)) xs i y p (λ n v g. h (suc n) v g) j z e

module _ (R : Rule) where
  changed_kept : (ch : Change) (s : State) → FineChange R ch → Obeys R s → Obeys R (changed ch s)
  changed_kept (core_becomes c k) s f h = record { cores = each-set R.core s.cores c k f h.cores; blocks = h.blocks; channels = h.channels; lines = h.lines; mailboxes = h.mailboxes; consoles = h.consoles; script = h.script }
  changed_kept (block_becomes b x) s f h = record { cores = h.cores; blocks = each-set R.block s.blocks b x f h.blocks; channels = h.channels; lines = h.lines; mailboxes = h.mailboxes; consoles = h.consoles; script = h.script }
  changed_kept (channel_becomes x r) s f h = record { cores = h.cores; blocks = h.blocks; channels = each-set R.channel s.channels x r f h.channels; lines = h.lines; mailboxes = h.mailboxes; consoles = h.consoles; script = h.script }
  changed_kept (line_becomes l w) s f h = record { cores = h.cores; blocks = h.blocks; channels = h.channels; lines = each-set R.line s.lines l w f h.lines; mailboxes = h.mailboxes; consoles = h.consoles; script = h.script }
  changed_kept (mailbox_becomes c m) s f h = record { cores = h.cores; blocks = h.blocks; channels = h.channels; lines = h.lines; mailboxes = each-set R.mailbox s.mailboxes c m f h.mailboxes; consoles = h.consoles; script = h.script }
  changed_kept (console_becomes b ws) s f h = record { cores = h.cores; blocks = h.blocks; channels = h.channels; lines = h.lines; mailboxes = h.mailboxes; consoles = each-set R.console s.consoles b ws f h.consoles; script = h.script }
  changed_kept (script_becomes t) s f h = record { cores = h.cores; blocks = h.blocks; channels = h.channels; lines = h.lines; mailboxes = h.mailboxes; consoles = h.consoles; script = f }

  -- the frame: fine changes keep the rule
  pub kept : (chs : List Change) (s : State) → Fine R chs → Obeys R s → Obeys R (apply s chs)
  kept [] s f h = h
  kept (ch ∷ chs) s f h = kept chs (changed ch s) f.1 (changed_kept ch s f.0 h)

  pub fine_append : (chs more : List Change) → Fine R chs → Fine R more → Fine R (chs ++ more)
  fine_append [] more f g = g
  fine_append (ch ∷ chs) more f g = (f.0, fine_append chs more f.1 g)

  -- the object that a call needed
  pub fine_outside : (b : ℕ) (w : Need) (out : Outside) → ((ws : List ℕ) → R.console b ws) → ((x : ℕ) (r : Ring) → R.channel x r) → ((l : ℕ) (v : Wire) → R.line l v) → Fine R (outside_change b w out)
  unfolding outside_change
  fine_outside b needs.Console (console_outside ws) f g h = (f ws, tt)
  fine_outside b (needs.Channel x) (channel_outside r) f g h = (g x.0 r, tt)
  fine_outside b (needs.Line l) (line_outside v) f g h = (h l.0 v, tt)
  fine_outside b w out f g h = tt

  fine_found : (f : Block → Block) (b : ℕ) (ls : List Looked) → (o : Option Block) → ((x : Block) → o ≡ Some x → R.block b (f x)) → Fine R (change_all f ls) →
      Fine R (option_map_or (λ x. block_becomes b (f x) ∷ change_all f ls) o (change_all f ls))
  fine_found f b ls None h more = more
  fine_found f b ls (Some x) h more = (h x refl, more)

  -- the blocks of a share, changed alike
  pub fine_all : (f : Block → Block) (blocks : List Block) (bs : List ℕ) → ((b : ℕ) (x : Block) → slice_get blocks b ≡ Some x → R.block b (f x)) → Fine R (change_all f (map (looked_at blocks) bs))
  fine_all f blocks [] h = tt
  fine_all f blocks (b ∷ bs) h = fine_found f b (map (looked_at blocks) bs) (slice_get blocks b) (h b) (fine_all f blocks bs h)

-- no object goes

pub there-set : {A : Type 0} (xs : List A) (i : ℕ) (y : A) (j : ℕ) (x : A) → slice_get xs j ≡ Some x → (z : A) × (slice_get (slice_set xs i y) j ≡ Some z)
there-set [] i y j x e = absurd cc
there-set (a ∷ xs) zero y zero x e = (y, refl)
there-set (a ∷ xs) zero y (suc j) x e = (x, e)
there-set (a ∷ xs) (suc i) y zero x e = (x, e)
there-set (a ∷ xs) (suc i) y (suc j) x e = there-set xs i y j x e

pub core_stays : (chs : List Change) (s : State) (c : ℕ) (k : Core) → slice_get s.cores c ≡ Some k → (z : Core) × (slice_get (apply s chs).cores c ≡ Some z)
core_stays [] s c k e = (k, e)
core_stays (core_becomes d m ∷ chs) s c k e = let t = there-set s.cores d m c k e in core_stays chs (changed (core_becomes d m) s) c t.0 t.1
core_stays (ch ∷ chs) s c k e = core_stays chs (changed ch s) c k e

pub block_stays : (chs : List Change) (s : State) (b : ℕ) (x : Block) → slice_get s.blocks b ≡ Some x → (z : Block) × (slice_get (apply s chs).blocks b ≡ Some z)
block_stays [] s b x e = (x, e)
block_stays (block_becomes d y ∷ chs) s b x e = let t = there-set s.blocks d y b x e in block_stays chs (changed (block_becomes d y) s) b t.0 t.1
block_stays (ch ∷ chs) s b x e = block_stays chs (changed ch s) b x e
