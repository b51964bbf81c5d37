-- The log of one actor while the history grows.
use Rattle.std.proofs.Common.{◌≡◌, ℕ, List, [], ◌∷◌, ◌++◌, length, sym, ap, ◌∙◌}
use Rattle.std.specs.Global.{Vec}
use mathlib.Core.List.{IsPrefix}
use Rattle.std.proofs.lemmas.List.{map-append, length-map}
use Rattle.dc_base.specs.declared.entries.Entry.{Entry}
use Rattle.dc_stage.specs.History.{Log, own}
use Rattle.dc_stage.specs.Pasts.{EachOwn}
use Rattle.dc_stage.specs.declared.view.Past.{Past}
use Rattle.dc_journal.specs.declared.merging.Logged.{Logged}
use Rattle.dc_logs.specs.Marks.{marked, mark_of, IsLogOf}
use Rattle.dc_logs.specs.Logs.{EachLog}
use Rattle.dc_logs.proofs.Marks.{length_marked, marked_none, marked_kept, marked_snoc}

pub log_new : (a : ℕ) (xs : Log Entry) → own a xs ≡ [] → IsLogOf a xs []
log_new a xs none = sym (marked_none a 0 xs none)

-- the log of what was seen is that of what is seen later
pub log_later : (a : ℕ) (xs ys : Log Entry) (log : List Logged) → IsPrefix xs ys → own a ys ≡ own a xs → IsLogOf a xs log → IsLogOf a ys log
log_later a xs ys log pre same is = is ∙ sym (marked_kept a xs ys pre same)

-- an entry goes behind the log
pub log_longer : (a : ℕ) (xs : Log Entry) (log : List Logged) (l : Logged) → l.ticket.0 ≡ length xs → IsLogOf a xs log
    → IsLogOf a (xs ++ (a, l.entry) ∷ []) (log ++ l ∷ [])
log_longer a xs log l place is =
    map-append mark_of log (l ∷ [])
    ∙ (ap (λ z. z ++ (l.ticket.0, l.entry) ∷ []) is
    ∙ (ap (λ n. marked a 0 xs ++ (n, l.entry) ∷ []) place ∙ sym (marked_snoc a xs l.entry)))

-- its log has as many entries as are the actor's
pub log_count : (a : ℕ) (xs : Log Entry) (log : List Logged) → IsLogOf a xs log → length log ≡ length (own a xs)
log_count a xs log is = sym (length-map log mark_of) ∙ (ap length is ∙ length_marked a 0 xs)

-- so it is of passes that ended
pub each_later : (xs ys : Log Entry) (passes : List (Past Entry)) (logs : List (Vec Logged)) → IsPrefix xs ys → EachOwn passes xs → EachOwn passes ys
    → EachLog xs passes logs
    → EachLog ys passes logs
each_later xs ys [] [] pre own1 own2 each = each
each_later xs ys [] (g ∷ gs) pre own1 own2 each = each
each_later xs ys (x ∷ passes) [] pre own1 own2 each = each
each_later xs ys (x ∷ passes) (g ∷ gs) pre own1 own2 each =
    (log_later x.actor xs ys g.items pre (own2.0 ∙ sym own1.0) each.0, each_later xs ys passes gs pre own1.1 own2.1 each.1)
