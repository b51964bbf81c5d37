-- A journal of which the sentences hold goes on: its entries are well held.
use Rattle.std.proofs.Common.{◌≡◌, ℕ, List, [], ◌∷◌, ◌++◌, Bool, true, false, Some, refl, sym, ap, ◌∙◌}
use Rattle.std.specs.Prelude.{◌==◌, ◌&&◌, not, ◌||◌, length, is_some}
use Rattle.std.specs.Option.{option_map}
use Rattle.std.proofs.lemmas.List.{append_assoc}
use Rattle.dc_base.specs.declared.images.Image.{Image}
use Rattle.dc_base.specs.declared.actions.Actor.{Actor}
use Rattle.dc_base.specs.declared.actions.Actor.TheVariants as actor
use Rattle.dc_base.specs.declared.commands.ScriptLine.{ScriptLine}
use Rattle.dc_base.specs.declared.entries.Entry.{Entry}
use Rattle.dc_base.specs.declared.entries.What.{What}
use Rattle.dc_base.specs.declared.entries.What.TheVariants as what
use Rattle.dc_base.specs.Outcomes.{by_core}
use Rattle.dc_base.specs.Holders.{held, held_after, held_by, held_once, holds, is_free, holds_for, holds_for_by, adopted_at, well_held}
use Rattle.dc_base.specs.StrikeOut.{clock_told}
use Rattle.dc_base.specs.Boot.{booted_at}
use Rattle.dc_base.specs.Answers.{needs_on, from_on, from_on_by}
use Rattle.dc_base.specs.Runs.{Seen, run, block_clock, boot_state}
use Rattle.dc_journal_laws.specs.Clocks.{core_clock, block_time}
use Rattle.dc_journal_laws.specs.Whole.{SentencesHold}
use Rattle.dc_journal_laws.proofs.Tests.{and_true, same_number}
use Rattle.dc_journal_laws.proofs.Prefixes.{holders_are, held-snoc, clock_is, time_is, boot_is}

module _ (image : Image) (lines : List ScriptLine) (journal : List Entry) (said : SentencesHold image lines journal) (before after : List Entry) (s : Seen) (r : run image lines before ≡ Some s) where
  -- a block's clock, where the sentences tell it
  time_shown : (b time : ℕ) → block_time image before b ≡ Some time → time ≡ block_clock s.blocks b
  time_shown b time h = let known = time_is image lines before s r b in cc

  holds_core : (c : ℕ) (w : What) → journal ≡ before ++ by_core c w ∷ after → holds_for image.clocks (held image before) (block_clock s.blocks) (core_clock image before c) c w ≡ true
  unfolding holds_for
  holds_core c (what.Slice b d fired ran e k) same = said.holders before after c (what.Slice b d fired ran e k) b.0 same refl
  holds_core c (what.SliceNone b fired k) same = said.holders before after c (what.SliceNone b fired k) b.0 same refl
  holds_core c (what.Wake b d) same = said.holders before after c (what.Wake b d) b.0 same refl
  holds_core c (what.Intake l n b signal how) same = said.holders before after c (what.Intake l n b signal how) b.0 same refl
  holds_core c (what.Release b time) same =
      and_true (holds (held image before) c b.0) (time == block_clock s.blocks b.0) (said.holders before after c (what.Release b time) b.0 same refl)
      (same_number time (block_clock s.blocks b.0) (time_shown b.0 time (said.released_time before after c b time same)))
  holds_core c (what.Adopt b parked time) same =
      let clock = core_clock image before c in
      let shown : time ≡ adopted_at image.clocks (block_clock s.blocks b.0) clock =
      (let told = sym (ap (λ o. option_map (λ t. adopted_at image.clocks t clock) o) (time_is image lines before s r b.0)) ∙ said.adopted_time before after c b parked time same in cc) in
      and_true (is_free (held image before) b.0) (time == adopted_at image.clocks (block_clock s.blocks b.0) clock) (said.adopted before after c b parked time same)
      (same_number time (adopted_at image.clocks (block_clock s.blocks b.0) clock) shown)
  holds_core c (what.Stop n) same = same_number n (length (held_by c (held image before))) (said.stopped before after c n same).held
  holds_core c w same = refl

  holds_by : (who : Actor) (w : What) → journal ≡ before ++ record { actor = who; what = w } ∷ after →
      holds_for_by image.clocks s.told.holders (block_clock s.blocks) (clock_told s.told) who w ≡ true
  holds_by (actor.Core c) w same = rw (holders_are image lines before s r, clock_is image lines before s r c.0) (holds_core c.0 w same)
  holds_by actor.Script w same = refl

  on_by : (c : ℕ) (w : What) → journal ≡ before ++ by_core c w ∷ after → (need : Bool) → needs_on w ≡ need → (not need || is_some (booted_at (boot_state image before) c)) ≡ true
  on_by c w same true e = said.on before after c w same e
  on_by c w same false e = refl

  from_on_of : (who : Actor) (w : What) → journal ≡ before ++ record { actor = who; what = w } ∷ after → from_on_by s.boot who w ≡ true
  from_on_of (actor.Core c) w same = rw (boot_is image lines before s r) (on_by c.0 w same (needs_on w) refl)
  from_on_of actor.Script w same = refl

  -- the entry is well held, and from a core that is on
  pub well : (e : Entry) → journal ≡ before ++ e ∷ after → (well_held image.clocks s.told.holders (block_clock s.blocks) (clock_told s.told) e && from_on s.boot e) ≡ true
  unfolding well_held from_on
  well e same =
      let need = holds_for_by image.clocks s.told.holders (block_clock s.blocks) (clock_told s.told) e.actor e.what in
      let once : held_once (held_after s.told.holders e) ≡ true =
      ap (λ pairs. held_once (held_after pairs e)) (holders_are image lines before s r) ∙ ap held_once (sym (held-snoc image before e))
      ∙ said.held_once (before ++ e ∷ []) after (same ∙ sym (append_assoc before (e ∷ []) after)) in
      and_true (need && held_once (held_after s.told.holders e)) (from_on_by s.boot e.actor e.what)
      (and_true need (held_once (held_after s.told.holders e)) (holds_by e.actor e.what same) once) (from_on_of e.actor e.what same)
