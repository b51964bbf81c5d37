-- How far the commands of the script are answered.
use Rattle.std.proofs.Common.{◌≡◌, ◌⊎◌, inl, inr, ℕ, ◌+◌, ◌<◌, List, [], ◌∷◌, ◌++◌, Bool, true, false, Option, Some, None, refl, sym, ap, ◌∙◌, subst, arith}
use Rattle.std.specs.Prelude.{if◌then◌else◌, slice_get}
use Rattle.std.proofs.lemmas.Bool.Decides.{nat_tests}
use Rattle.std.proofs.lemmas.List.{append_assoc}
use Rattle.dc_base.specs.declared.images.Image.{Image}
use Rattle.dc_base.specs.declared.commands.Order.{Order}
use Rattle.dc_base.specs.declared.commands.ScriptLine.{ScriptLine}
use Rattle.dc_base.specs.declared.commands.ScriptLine.TheVariants as line
use Rattle.dc_base.specs.declared.entries.Entry.{Entry}
use Rattle.dc_base.specs.declared.entries.What.TheVariants as what
use Rattle.dc_base.specs.Words.{is_number}
use Rattle.dc_base.specs.Outcomes.{by_core, by_script}
use Rattle.dc_base.specs.StrikeOut.{clock_told}
use Rattle.dc_base.specs.Script.{is_command, next_command}
use Rattle.dc_base.specs.Boot.{Registry}
use Rattle.dc_base.specs.Answers.{Answered, answered_start}
use Rattle.dc_base.specs.Runs.{Seen, seen_start, run, boot_state}
use Rattle.dc_journal_laws.specs.Entries.{command_line, answers, is_post, post_in, posted_by, finishes, is_begun, is_finished, before_command}
use Rattle.dc_journal_laws.specs.Booting.{AreOrders}
use Rattle.dc_journal_laws.proofs.Prefixes.{holds_after, boot_is}
use Rattle.dc_journal_laws.proofs.Cases.{Case, works, carries, begins, posts, does, answers_once, raises, case_of}
use Rattle.dc_journal_laws.proofs.Lists.{collect-none, collect-one, any-more, any-new, EachOf, each_of-snoc, each_of-weaken, NoneOf, answers-line, answers-none, finishes-line, before_command-stays, before_command-all}
use Rattle.dc_journal_laws.proofs.Places.{next_first, next_later, Order3, is_less, is_equal, is_more, order3}

-- the entry is a post of the command in progress
pub record IsOpen (place : ℕ) (flag : Bool) (e : Entry) (q : ℕ) : Type 0 where
  pub at : q ≡ place
  pub begun : flag ≡ true
  pub post : is_post e.what ≡ true

-- an entry of a command is above the place, or a post of the command there
abbrev pub IsBelow : ℕ → Bool → Entry → Type 0
IsBelow place begun e = (q : ℕ) → command_line e.what ≡ Some q → (q < place) ⊎ IsOpen place begun e q

module _ (image : Image) (lines : List ScriptLine) where
  -- the command in progress: its orders are those posted and those left
  pub record IsInProgress (before : List Entry) (place : ℕ) (left : List (ℕ × Order)) : Type 0 where
    pub orders : AreOrders lines place (boot_state image (before_command place before)) (posted_by place before) left
    pub there : is_begun place before ≡ true

  pub record Progress (before : List Entry) (place : ℕ) (begun : Bool) (left : List (ℕ × Order)) : Type 0 where
    pub below : EachOf (IsBelow place begun) before
    pub above : (p : ℕ) (l : ScriptLine) → slice_get lines p ≡ Some l → is_command l ≡ true → p < place → is_finished p before ≡ true
    pub going : begun ≡ true → IsInProgress before place left

  starts : Progress [] (next_command lines 0) false []
  starts = record { below = tt; above = λ p l e c h. let a = next_first lines 0 p l e c (omega arith) in absurd (omega (arith, a, h)); going = λ h. absurd cc }

  posted_none : (before : List Entry) (e : Entry) (q : ℕ) → answers q e ≡ false → posted_by q (before ++ e ∷ []) ≡ posted_by q before
  posted_none before e q h = collect-none (λ (d : Entry). if answers q d then post_in d.what else []) before e (ap (λ t. if t then post_in e.what else []) h)

  posted_one : (before : List Entry) (e : Entry) (q : ℕ) (o : ℕ × Order) → answers q e ≡ true → post_in e.what ≡ o ∷ [] → posted_by q (before ++ e ∷ []) ≡ posted_by q before ++ o ∷ []
  posted_one before e q o h p = collect-one (λ (d : Entry). if answers q d then post_in d.what else []) before e o (ap (λ t. if t then post_in e.what else []) h ∙ p)

  -- an entry that is of no command
  beside : (before : List Entry) (e : Entry) (place : ℕ) (begun : Bool) (left : List (ℕ × Order)) → command_line e.what ≡ None → Progress before place begun left → Progress (before ++ e ∷ []) place begun left
  beside before e place begun left silent p = record {
    below = each_of-snoc (IsBelow place begun) before e p.below (λ q h. absurd cc);
    above = λ q l at c h. any-more (finishes q) before (e ∷ []) (p.above q l at c h);
    going = λ h. still (p.going h);
  }
    where
      still : IsInProgress before place left → IsInProgress (before ++ e ∷ []) place left
      still o = record {
        orders = subst (λ es. AreOrders lines place (boot_state image es) (posted_by place (before ++ e ∷ [])) left) (sym (before_command-stays place before (e ∷ []) o.there))
            (subst (λ these. AreOrders lines place (boot_state image (before_command place before)) these left) (sym (posted_none before e place (answers-none place e silent))) o.orders);
        there = any-more (answers place) before (e ∷ []) o.there;
      }

  -- one more order is posted
  one_more : (q : ℕ) (r : Registry) (these more : List (ℕ × Order)) (o : ℕ × Order) → AreOrders lines q r these (o ∷ more) → AreOrders lines q r (these ++ o ∷ []) more
  one_more q r these more o h = record { answer = h.answer; whole = append_assoc these (o ∷ []) more ∙ h.whole }

  -- a post of the command at the place
  after_post : (before : List Entry) (e : Entry) (place : ℕ) (begun : Bool) (left more : List (ℕ × Order)) (o : ℕ × Order) → command_line e.what ≡ Some place → is_post e.what ≡ true → post_in e.what ≡ o ∷ [] →
      AreOrders lines place (boot_state image (before_command place (before ++ e ∷ []))) (posted_by place before) (o ∷ more) → Progress before place begun left → Progress (before ++ e ∷ []) place true more
  after_post before e place begun left more o at post one orders p = record {
    below = each_of-snoc (IsBelow place true) before e
        (each_of-weaken (IsBelow place begun) (IsBelow place true) (λ d b q h. elim (b q h) [ inl c ↦ inl c | inr c ↦ inr (record { at = c.at; begun = refl; post = c.post }) ]) before p.below)
        (λ q h. inr (record { at = (let same : q ≡ place = cc in same); begun = refl; post = post }));
    above = λ q l there c h. any-more (finishes q) before (e ∷ []) (p.above q l there c h);
    going = λ h. record {
      orders = subst (λ these. AreOrders lines place (boot_state image (before_command place (before ++ e ∷ []))) these more) (sym (posted_one before e place o (answers-line place e at) one))
          (one_more place (boot_state image (before_command place (before ++ e ∷ []))) (posted_by place before) more o orders);
      there = any-new (answers place) before e (answers-line place e at);
    };
  }

  -- an entry above the place is not of the command there
  not_of : (place : ℕ) (o : Option ℕ) → ((q : ℕ) → o ≡ Some q → q < place) → is_number place o ≡ false
  not_of place None h = refl
  not_of place (Some m) h = let low : m < place = h m refl in grind (arith, nat_tests)

  -- where no entry was made at the place, none is of the command there
  pub none_of : (before : List Entry) (place : ℕ) (left : List (ℕ × Order)) → EachOf (IsBelow place false) before → NoneOf place before
  none_of before place left = each_of-weaken (IsBelow place false) (λ e. answers place e ≡ false)
      (λ e b. not_of place (command_line e.what) (λ q h. elim (b q h) [ inl c ↦ c | inr c ↦ absurd (let bad = c.begun in cc) ])) before

  pub none_posted : (q : ℕ) (es : List Entry) → NoneOf q es → posted_by q es ≡ []
  none_posted q [] h = refl
  none_posted q (e ∷ es) h = ap (λ t. (if t then post_in e.what else []) ++ posted_by q es) h.0 ∙ none_posted q es h.1

  -- the last entry of the command at the place
  closes : (before : List Entry) (e : Entry) (place : ℕ) (begun : Bool) (left : List (ℕ × Order)) (l : ScriptLine) → command_line e.what ≡ Some place → is_post e.what ≡ false → slice_get lines place ≡ Some l →
      Progress before place begun left → Progress (before ++ e ∷ []) (next_command lines (place + 1)) false []
  closes before e place begun left l at post there p = record {
    below = each_of-snoc (IsBelow next false) before e
        (each_of-weaken (IsBelow place begun) (IsBelow next false) (λ d b q h. inl (elim (b q h) [ inl c ↦ omega (arith, c, later) | inr c ↦ (let same = c.at in omega (arith, same, later)) ])) before p.below)
        (λ q h. inl (let same : q ≡ place = cc in omega (arith, same, later)));
    above = λ q m in_script c h. above_by q m in_script c h (order3 q place);
    going = λ h. absurd cc;
  }
    where
      next : ℕ
      next = next_command lines (place + 1)

      later : place < next
      later = next_later lines place l there

      above_by : (q : ℕ) (m : ScriptLine) → slice_get lines q ≡ Some m → is_command m ≡ true → q < next → Order3 q place → is_finished q (before ++ e ∷ []) ≡ true
      above_by q m in_script c h (is_less a) = any-more (finishes q) before (e ∷ []) (p.above q m in_script c a)
      above_by q m in_script c h (is_equal a) = any-new (finishes q) before e (finishes-line q e (at ∙ ap Some (sym a)) post)
      above_by q m in_script c h (is_more a) = let b = next_first lines (place + 1) q m in_script c (omega (arith, a)) in absurd (omega (arith, h, b))

  progress_keeps : (before : List Entry) (a n : Answered) (e : Entry) → Case lines (boot_state image before) a e n → Progress before a.place a.begun a.left → Progress (before ++ e ∷ []) n.place n.begun n.left
  progress_keeps before a n e (works c u plain none) p = beside before (by_core c u) a.place a.begun a.left plain.no_line p
  progress_keeps before a n e (carries c u o plain some at) p = beside before (by_core c u) a.place a.begun a.left plain.no_line p
  progress_keeps before a n e (begins q c o more answer begin first) p =
      let post = by_script (what.Post q c o) in
      let none = none_of before a.place a.left (subst (λ b. EachOf (IsBelow a.place b) before) begin.fresh p.below) in
      let of_place : command_line post.what ≡ Some a.place = ap Some begin.place in
      let here : AreOrders lines q (boot_state image before) [] ((c.0, o) ∷ more) = record { answer = answer; whole = sym first } in
      let there = subst (λ k. AreOrders lines k (boot_state image before) [] ((c.0, o) ∷ more)) begin.place here in
      let joined = subst (λ es. AreOrders lines a.place (boot_state image es) [] ((c.0, o) ∷ more)) (sym (before_command-all a.place before post none (answers-line a.place post of_place))) there in
      after_post before post a.place a.begun a.left more (c.0, o) of_place refl refl
      (subst (λ these. AreOrders lines a.place (boot_state image (before_command a.place (before ++ post ∷ []))) these ((c.0, o) ∷ more)) (sym (none_posted a.place before none)) joined) p
  progress_keeps before a n e (posts q c o more begun at none left) p =
      let post = by_script (what.Post q c o) in
      let current = p.going begun in
      let same = subst (λ os. AreOrders lines a.place (boot_state image (before_command a.place before)) (posted_by a.place before) os) left current.orders in
      after_post before post a.place a.begun a.left more (c.0, o) (ap Some at) refl refl
      (subst (λ es. AreOrders lines a.place (boot_state image es) (posted_by a.place before) ((c.0, o) ∷ more)) (sym (before_command-stays a.place before (post ∷ []) current.there)) same) p
  progress_keeps before a n e (does q at begun left none) p =
      let command = (p.going begun).orders.answer in
      closes before (by_script (what.Done q)) a.place a.begun a.left (line.Boot command.command) (ap Some at) refl command.in_script p
  progress_keeps before a n e (answers_once q u single begin) p =
      closes before (by_script u) a.place a.begun a.left single.there (single.of_line ∙ ap Some begin.place) single.not_post (ap (λ k. slice_get lines k) (sym begin.place) ∙ single.in_script) p
  progress_keeps before a n e (raises q l x at below there) p = beside before (by_script (what.Raise q l x)) a.place a.begun a.left refl p

  pub progress : (before : List Entry) (s : Seen) → run image lines before ≡ Some s → Progress before s.answered.place s.answered.begun s.answered.left
  unfolding seen_start answered_start
  progress = holds_after image lines (λ before s. Progress before s.answered.place s.answered.begun s.answered.left) starts
      (λ before s e n r comes p. progress_keeps before s.answered n.answered e
      (subst (λ boot. Case lines boot s.answered e n.answered) (boot_is image lines before s r) (case_of lines s.boot (clock_told s.told) s.answered e n.answered comes.answered)) p)
