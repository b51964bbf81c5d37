-- The sentences on cores that are on, refusals and orders.
use Rattle.std.proofs.Common.{◌≡◌, ℕ, List, [], ◌∷◌, ◌++◌, Bool, true, false, Some, None, refl, sym, subst}
use Rattle.std.specs.Prelude.{not, ◌||◌, is_some, slice_get}
use Rattle.dc_base.specs.declared.images.Image.{Image}
use Rattle.dc_base.specs.declared.commands.Order.{Order}
use Rattle.dc_base.specs.declared.commands.ScriptLine.{ScriptLine}
use Rattle.dc_base.specs.declared.entries.Entry.{Entry}
use Rattle.dc_base.specs.declared.entries.What.{What}
use Rattle.dc_base.specs.declared.entries.What.TheVariants as what
use Rattle.dc_base.specs.Outcomes.{by_core, by_script}
use Rattle.dc_base.specs.StrikeOut.{clock_told}
use Rattle.dc_base.specs.Boot.{booted_at}
use Rattle.dc_base.specs.Answers.{Answered, needs_on, from_on, may_begin, refused_answer, script_answer, answered_after}
use Rattle.dc_base.specs.Runs.{run_of, boot_state}
use Rattle.dc_journal_laws.specs.Entries.{command_line, before_command, posted_by}
use Rattle.dc_journal_laws.specs.Booting.{MadeByCoresOn, IsAnsweredBy, RefusedByTable, AreOrders, PostedInOrder, DoneInFull}
use Rattle.dc_journal_laws.specs.Answering.{goes_on}
use Rattle.dc_journal_laws.proofs.Prefixes.{around, boot_is}
use Rattle.dc_journal_laws.proofs.Holding.{is_held}
use Rattle.dc_journal_laws.proofs.Cases.{Case, works, carries, begins, posts, does, answers_once, raises, case_of, if_some, refused_by}
use Rattle.dc_journal_laws.proofs.Lists.{EachOf, before_command-none}
use Rattle.dc_journal_laws.proofs.Progress.{IsBelow, Progress, progress, none_of, none_posted}

on_by : (p q : Bool) → p ≡ true → (not p || q) ≡ true → q ≡ true
on_by true q h k = k
on_by false q h k = absurd (let bad : false ≡ true = h in cc)

module _ (image : Image) (lines : List ScriptLine) where
  -- what a post and a done entry find
  abbrev Posted : List Entry → What → Type 0
  Posted before (what.Post q c o) = (more : List (ℕ × Order)) × AreOrders lines q (boot_state image (before_command q before)) (posted_by q before) ((c.0, o) ∷ more)
  Posted before (what.Done q) = AreOrders lines q (boot_state image (before_command q before)) (posted_by q before) []
  Posted before w = Unit {0}

  silent : (before : List Entry) (w : What) → command_line w ≡ None → Posted before w
  silent before (what.Post q c o) h = absurd cc
  silent before (what.Done q) h = absurd cc
  silent before w h = tt

  alone : (before : List Entry) (w : What) → goes_on w ≡ false → Posted before w
  alone before (what.Post q c o) h = absurd cc
  alone before (what.Done q) h = absurd cc
  alone before w h = tt

  -- the orders at another place that is the same
  moved : (before : List Entry) (p q : ℕ) (more : List (ℕ × Order)) → q ≡ p → AreOrders lines p (boot_state image (before_command p before)) (posted_by p before) more →
      AreOrders lines q (boot_state image (before_command q before)) (posted_by q before) more
  moved before p q more same h = subst (λ k. AreOrders lines k (boot_state image (before_command k before)) (posted_by k before) more) (sym same) h

  posted_case : (before : List Entry) (a n : Answered) (e : Entry) → Case lines (boot_state image before) a e n → Progress image lines before a.place a.begun a.left → Posted before e.what
  posted_case before a n e (works c u plain none) p = silent before u plain.no_line
  posted_case before a n e (carries c u o plain some at) p = silent before u plain.no_line
  posted_case before a n e (begins q c o more answer begin first) p =
      let none = none_of image lines before q a.left (subst (λ k. EachOf (IsBelow k false) before) (sym begin.place) (subst (λ b. EachOf (IsBelow a.place b) before) begin.fresh p.below)) in
      let here : AreOrders lines q (boot_state image before) [] ((c.0, o) ∷ more) = record { answer = answer; whole = sym first } in
      let there = subst (λ es. AreOrders lines q (boot_state image es) [] ((c.0, o) ∷ more)) (sym (before_command-none q before none)) here in
      (more, subst (λ these. AreOrders lines q (boot_state image (before_command q before)) these ((c.0, o) ∷ more)) (sym (none_posted image lines q before none)) there)
  posted_case before a n e (posts q c o more begun at none left) p =
      (more, moved before a.place q ((c.0, o) ∷ more) at (subst (λ os. AreOrders lines a.place (boot_state image (before_command a.place before)) (posted_by a.place before) os) left (p.going begun).orders))
  posted_case before a n e (does q at begun left none) p =
      moved before a.place q [] at (subst (λ os. AreOrders lines a.place (boot_state image (before_command a.place before)) (posted_by a.place before) os) left (p.going begun).orders)
  posted_case before a n e (answers_once q u single begin) p = alone before u single.not_on
  posted_case before a n e (raises q l x at below there) p = tt

  module _ (journal : List Entry) (h : run_of image lines journal ≡ true) where
    pub made_by_cores_on : MadeByCoresOn image lines journal
    unfolding from_on
    made_by_cores_on before after c w same need =
        let a = around image lines journal before after (by_core c w) h same in
        on_by (needs_on w) (is_some (booted_at (boot_state image before) c)) need
        (subst (λ boot. (not (needs_on w) || is_some (booted_at boot c)) ≡ true) (boot_is image lines before a.seen a.run_to) (is_held image lines a.seen (by_core c w) a.next a.comes).on)

    pub refused_by_table : RefusedByTable image lines journal
    unfolding answered_after script_answer
    refused_by_table before after q x same =
        let a = around image lines journal before after (by_script (what.Refused q x)) h same in
        let was = a.seen.answered in
        let t = if_some (may_begin lines was q) (refused_answer lines a.seen.boot was x (slice_get lines q)) a.next.answered a.comes.answered in
        let f = refused_by lines a.seen.boot (clock_told a.seen.told) was q x a.next.answered (slice_get lines q) refl t.1 in
        subst (λ boot. IsAnsweredBy lines q boot (Some x)) (boot_is image lines before a.seen a.run_to) f.answer

    posted_at : (before after : List Entry) (e : Entry) → journal ≡ before ++ e ∷ after → Posted before e.what
    posted_at before after e same =
        let a = around image lines journal before after e h same in
        let s = a.seen in
        posted_case before s.answered a.next.answered e
        (subst (λ boot. Case lines boot s.answered e a.next.answered) (boot_is image lines before s a.run_to) (case_of lines s.boot (clock_told s.told) s.answered e a.next.answered a.comes.answered))
        (progress image lines before s a.run_to)

    pub posted_in_order : PostedInOrder image lines journal
    posted_in_order before after q c o same = posted_at before after (by_script (what.Post q c o)) same

    pub done_in_full : DoneInFull image lines journal
    done_in_full before after q same = posted_at before after (by_script (what.Done q)) same
