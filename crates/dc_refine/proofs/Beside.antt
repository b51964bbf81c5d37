-- What stands for a state stands for it with other cores of the same clocks, and with another script, other mailboxes and other routes.
use Rattle.std.proofs.Common.{◌≡◌, ℕ, List, [], ◌∷◌, Option, Some, None, refl, sym, ap, ◌∙◌, map, pos, ◌+ℤ◌}
use Rattle.std.specs.Prelude.{slice_get, slice_set}
use Rattle.std.specs.Option.{option_map, option_map_or}
use Rattle.std.proofs.lemmas.List.{map-set}
use Rattle.std.proofs.lemmas.Option.{slice_get-map}
use Rattle.dc_base.specs.Words.{above_zero}
use Rattle.dc_base.specs.Lines.{Line, Wire, pending_in}
use Rattle.dc_base.specs.Blocks.{Blocks}
use Rattle.dc_base.specs.States.{State, Core, Block, Script, Mailbox, Whereabouts, rest, on, time_of, clock_of}
use Rattle.dc_base.specs.StandsFor.{StandsFor, LinesAgree, counts_of}

-- cores with the same clocks give the same times
clock_by : (o p : Option Core) → option_map (λ (k : Core). k.clock) o ≡ option_map (λ (k : Core). k.clock) p → option_map_or (λ (k : Core). k.clock) o 0 ≡ option_map_or (λ (k : Core). k.clock) p 0
clock_by None None e = refl
clock_by None (Some q) e = cc
clock_by (Some k) None e = cc
clock_by (Some k) (Some q) e = cc

pub clocks_alike : (cs ds : List Core) → map (λ (k : Core). k.clock) ds ≡ map (λ (k : Core). k.clock) cs → (c : ℕ) → clock_of ds c ≡ clock_of cs c
clocks_alike cs ds e c = clock_by (slice_get ds c) (slice_get cs c) (sym (slice_get-map (λ (k : Core). k.clock) ds c) ∙ ap (λ l. slice_get l c) e ∙ slice_get-map (λ (k : Core). k.clock) cs c)

pub time_alike : (cs ds : List Core) → map (λ (k : Core). k.clock) ds ≡ map (λ (k : Core). k.clock) cs → (w : Whereabouts) → time_of ds w ≡ time_of cs w
time_alike cs ds e (rest kept) = refl
time_alike cs ds e (on c z v) = times_by (clocks_alike cs ds e c)
  where
    times_by : clock_of ds c ≡ clock_of cs c → time_of ds (on c z v) ≡ time_of cs (on c z v)
    times_by f = ap (λ n. above_zero (pos n +ℤ z)) f

times_alike : (cs ds : List Core) → map (λ (k : Core). k.clock) ds ≡ map (λ (k : Core). k.clock) cs → (xs : List Block) → map (λ (x : Block). time_of ds x.whereabouts) xs ≡ map (λ (x : Block). time_of cs x.whereabouts) xs
times_alike cs ds e [] = refl
times_alike cs ds e (x ∷ xs) = ap (λ n. n ∷ map (λ (x : Block). time_of ds x.whereabouts) xs) (time_alike cs ds e x.whereabouts) ∙ ap (λ l. time_of cs x.whereabouts ∷ l) (times_alike cs ds e xs)

pub stands_cores : (s : State) (t : Blocks) (ds : List Core) → map (λ (k : Core). k.clock) ds ≡ map (λ (k : Core). k.clock) s.cores → StandsFor s t → StandsFor (record s { cores = ds }) t
stands_cores s t ds e stands = record {
  blocks = record {
    parts = stands.blocks.parts;
    times = stands.blocks.times ∙ sym (times_alike s.cores ds e s.blocks);
    outputs = stands.blocks.outputs;
    lives = stands.blocks.lives;
  };
  channels = stands.channels;
  lines = record { bindings = stands.lines.bindings; offers = stands.lines.offers; pending = stands.lines.pending; counts = stands.lines.counts };
  latches = record { agree = stands.latches.agree; differ = stands.latches.differ; numbered = stands.latches.numbered };
}

-- lines that differ in their routes alone
pub record SameButRoutes (ws vs : List Wire) : Type 0 where
  pub bounds : map (λ (w : Wire). w.bound) vs ≡ map (λ (w : Wire). w.bound) ws
  pub offers : map (λ (w : Wire). w.offer) vs ≡ map (λ (w : Wire). w.offer) ws
  pub pending : map (λ (w : Wire). w.pending) vs ≡ map (λ (w : Wire). w.pending) ws
  pub counts : map (λ (w : Wire). w.counts) vs ≡ map (λ (w : Wire). w.counts) ws

pub same_wires : (ws : List Wire) → SameButRoutes ws ws
same_wires ws = record { bounds = refl; offers = refl; pending = refl; counts = refl }

pub stands_beside : (s : State) (t : Blocks) (script : Script) (mailboxes : List Mailbox) (lines : List Wire) → SameButRoutes s.lines lines → StandsFor s t → StandsFor (record s { script = script; mailboxes = mailboxes; lines = lines }) t
stands_beside s t script mailboxes lines same stands = record {
  blocks = record { parts = stands.blocks.parts; times = stands.blocks.times; outputs = stands.blocks.outputs; lives = stands.blocks.lives };
  channels = stands.channels;
  lines = record {
    bindings = same.bounds ∙ stands.lines.bindings;
    offers = same.offers ∙ stands.lines.offers;
    pending = same.pending ∙ stands.lines.pending;
    counts = same.counts ∙ stands.lines.counts;
  };
  latches = record { agree = stands.latches.agree; differ = stands.latches.differ; numbered = stands.latches.numbered };
}

-- a line of both machines is another afterwards
pub lines_set : (s : State) (t : Blocks) (l : ℕ) (new : Line) (w : Wire) → LinesAgree s t → w.bound ≡ new.bound → w.offer ≡ new.offer → w.pending ≡ pending_in new.fates → w.counts ≡ counts_of new.fates →
    LinesAgree (record s { lines = slice_set s.lines l w }) (record t { lines = slice_set t.lines l new })
lines_set s t l new w agree bound offer pending counts = record {
  bindings = map-set (λ (w : Wire). w.bound) s.lines l w ∙ ap (λ v. slice_set (map (λ (w : Wire). w.bound) s.lines) l v) bound ∙ ap (λ ls. slice_set ls l new.bound) agree.bindings ∙ sym (map-set (λ (x : Line). x.bound) t.lines l new);
  offers = map-set (λ (w : Wire). w.offer) s.lines l w ∙ ap (λ v. slice_set (map (λ (w : Wire). w.offer) s.lines) l v) offer ∙ ap (λ ls. slice_set ls l new.offer) agree.offers ∙ sym (map-set (λ (x : Line). x.offer) t.lines l new);
  pending = map-set (λ (w : Wire). w.pending) s.lines l w ∙ ap (λ v. slice_set (map (λ (w : Wire). w.pending) s.lines) l v) pending ∙ ap (λ ls. slice_set ls l (pending_in new.fates)) agree.pending ∙ sym (map-set (λ (x : Line). pending_in x.fates) t.lines l new);
  counts = map-set (λ (w : Wire). w.counts) s.lines l w ∙ ap (λ v. slice_set (map (λ (w : Wire). w.counts) s.lines) l v) counts ∙ ap (λ ls. slice_set ls l (counts_of new.fates)) agree.counts ∙ sym (map-set (λ (x : Line). counts_of x.fates) t.lines l new);
}
