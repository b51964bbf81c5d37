use Rattle.std.proofs.Common.{ℕ, List, ◌++◌, ap, ◌∙◌, arith}
use Rattle.dc_kcb.proofs.Growing.{filled_words}
use Rattle.dc_kcb.proofs.starts.whole_memory.Goals as goal

pub returns : goal.returns
returns c =
    c.in_ok-resize.ensures.items
    ∙ filled_words c.args.words.now _ _ (c.in_ok-extend_from_slice.ensures.items ∙ ap (λ (xs : List ℕ). xs ++ c.args.words.now) c.in_ok-memory.ensures.items)
    (omega (arith, c.in_ok-extend_from_slice.ensures.len, c.in_ok-memory.ensures.len)) c.requires
