use Rattle.std.proofs.Common.{◌≡◌, ◌<◌, ◌+◌, ℕ, sym, ◌∙◌, subst, drop}
use Rattle.std.specs.Prelude.{◌%◌, ◌^◌, sum}
use Rattle.dc_play.proofs.WordSums.{word_added, not_past}
use Rattle.dc_play.proofs.totals.with_words.Goals.{in-Some, in_default}
use Rattle.dc_play.proofs.totals.with_words.Goals as goal

pub loop-i-preserved : goal.loop-i-preserved
loop-i-preserved c =
    let words = c.args.console.now in
    let i = c.loop-i.i in
    elim c.match-at.branch [
      | in-Some w ↦ subst (λ (t : ℕ). (t + sum (drop (i + 1) words)) % 2 ^ 32 ≡ (c.args.before + sum words) % 2 ^ 32) (sym w.total-is)
          (word_added c.loop-i.total w.in-Some.word ((c.args.before + sum words) % 2 ^ 32) words i (sym c.at.ensures ∙ w.in-Some.is) c.loop-i.invariant)
      | in_default w ↦ absurd (not_past words i (subst (λ (n : ℕ). i < n) c.len-i-end.ensures.value c.loop-i-test.true) (sym c.at.ensures ∙ w.in_default.is))
    ]
