-- The short lines of a schedule, and the others behind them.
use Rattle.std.proofs.Common.{◌≡◌, ℕ, zero, suc, ◌+◌, ◌-◌, ◌<◌, ◌≤◌, List, [], ◌∷◌, ◌++◌, length, map, get_or, Some, ap, sym, ◌∙◌, arith, append_assoc, length-append}
use Rattle.std.specs.Prelude.{slice_get}
use Rattle.std.proofs.lemmas.List.{append-nil, map-append, length-map}
use Rattle.std.proofs.lemmas.Option.{slice_get-get_or}
use Rattle.dc_base.specs.declared.actions.Actor.{Actor}
use Rattle.dc_base.specs.declared.actions.Action.{Action}
use Rattle.dc_script.specs.declared.shorts.Short.{Short}
use Rattle.dc_script.specs.Shorts.{whole, lines_in}

pub lines_len : (shorts : List Short) (others : List (Actor × Action)) → length (lines_in shorts others) ≡ length shorts + length others
lines_len shorts others = length-append (map whole shorts) others ∙ ap (λ n. n + length others) (length-map shorts whole)

pub short_added : (shorts new : List Short) (others : List (Actor × Action)) (x : Short) (line : Actor × Action) → others ≡ [] → new ≡ shorts ++ x ∷ [] → whole x ≡ line → lines_in new others ≡ lines_in shorts others ++ line ∷ []
short_added shorts new others x line none added is =
    ap (λ xs. lines_in xs others) added
    ∙ ap (λ xs. lines_in (shorts ++ x ∷ []) xs) none
    ∙ append-nil (map whole (shorts ++ x ∷ []))
    ∙ map-append whole shorts (x ∷ [])
    ∙ ap (λ l. map whole shorts ++ l ∷ []) is
    ∙ sym (ap (λ xs. xs ++ line ∷ []) (ap (λ xs. lines_in shorts xs) none ∙ append-nil (map whole shorts)))

pub other_added : (shorts : List Short) (others new : List (Actor × Action)) (line : Actor × Action) → new ≡ others ++ line ∷ [] → lines_in shorts new ≡ lines_in shorts others ++ line ∷ []
other_added shorts others new line added = ap (λ xs. lines_in shorts xs) added ∙ sym (append_assoc (map whole shorts) others (line ∷ []))

short_there : (shorts : List Short) (others : List (Actor × Action)) (i : ℕ) (x : Short) → slice_get shorts i ≡ Some x → slice_get (lines_in shorts others) i ≡ Some (whole x)
short_there [] others i x e = cc
short_there (y ∷ shorts) others zero x e = let same : y ≡ x = cc in ap (λ z. Some (whole z)) same
short_there (y ∷ shorts) others (suc i) x e = short_there shorts others i x e

pub short_at : (shorts : List Short) (others : List (Actor × Action)) (i : ℕ) (d : Short) → i < length shorts → slice_get (lines_in shorts others) i ≡ Some (whole (get_or shorts i d))
short_at shorts others i d within = short_there shorts others i (get_or shorts i d) (slice_get-get_or shorts i d within)

other_there : (shorts : List Short) (others : List (Actor × Action)) (i : ℕ) → length shorts ≤ i → slice_get (lines_in shorts others) i ≡ slice_get others (i - length shorts)
other_there [] others i past = let same : i ≡ i - 0 = omega arith in ap (λ k. slice_get others k) same
other_there (y ∷ shorts) others zero past = absurd (omega (arith, past))
other_there (y ∷ shorts) others (suc i) past =
    let same : i - length shorts ≡ suc i - length (y ∷ shorts) = omega arith in
    other_there shorts others i (omega (arith, past)) ∙ ap (λ k. slice_get others k) same

pub other_at : (shorts : List Short) (others : List (Actor × Action)) (i : ℕ) (d : Actor × Action) → length shorts ≤ i → i < length (lines_in shorts others) → slice_get (lines_in shorts others) i ≡ Some (get_or others (i - length shorts) d)
other_at shorts others i d past within =
    let sum = lines_len shorts others in
    other_there shorts others i past ∙ slice_get-get_or others (i - length shorts) d (omega (arith, past, within, sum))
