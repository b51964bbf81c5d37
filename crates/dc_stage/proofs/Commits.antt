-- A commit keeps the rule.
use Rattle.std.proofs.Common.{◌≡◌, ◌≢◌, ℕ, ◌+◌, ◌%◌, ◌^◌, ◌<◌, ◌≤◌, true, [], ◌∷◌, ◌++◌, length, get_or, set, sym, refl, ap, ◌∙◌, subst, inl, inr, ⊎_elim, arith, length-append, length-set, append_assoc, append-nil, mod-eq_of_lt, get_or-set_other, get_or-set_same}
use Rattle.std.specs.Prelude.{Some}
use mathlib.Core.Option.{none}
use mathlib.Core.Logic.{dite}
use mathlib.Core.List.{IsPrefix}
use native.Mathlib.Decide.{ℕ_discrete}
use Rattle.atomic_table.specs.Table.{step, keeps, Allows}
use Rattle.dc_stage.specs.Numbers.{has}
use Rattle.dc_stage.specs.History.{Meaning, own, run, after, IsLawful, Agrees, Untouched, IsLocal}
use Rattle.dc_stage.specs.Pasts.{EachOwn}
use Rattle.dc_stage.specs.Views.{seeing}
use Rattle.dc_stage.specs.Rule.{CrewIsKept, IsKept}
use Rattle.dc_stage.specs.Steps.{At, committed}
use Rattle.dc_stage.specs.declared.view.View.{View}
use Rattle.dc_stage.proofs.Numbers.{not_true}
use Rattle.dc_stage.proofs.Logs.{run_append, lawful_snoc, own_append, own_here, own_other, own_rest, length_few}
use Rattle.dc_stage.proofs.Views.{there, crew_stays, held_stays, moved, recalls}

module _ {Wh St En Ob Sc : Type 0} (meaning : Sc → Meaning Wh St En) (state : Ob → St) (sc : Sc) (untouched : Untouched (meaning sc)) (local : IsLocal (meaning sc)) where
  pub commits : (n id : ℕ) (me : At Sc En Ob) (e : En) → me.0.live ≡ true → me.0.scene ≡ Some sc → length (own me.0.actor me.0.seen) < 2 ^ 56
      → ((i : ℕ) → has i ((meaning sc).touched (run (meaning sc) (meaning sc).start me.0.seen) me.0.actor e) ≡ true → has i me.0.holds ≡ true) → (meaning sc).lawful (run (meaning sc) (meaning sc).start me.0.seen) me.0.actor e
      → Allows (IsKept (meaning sc) state sc) n id me 0 (λ x. (x + 1) % 2 ^ 64) (committed meaning (Some e) (step n 0 1 0 none) me)
  commits n id me e live scene room held lawful s r many at small =
      let p = meaning sc in let v = me.0 in let a : ℕ = v.actor in let ok = r.each_view id v at live in let log' = r.log ++ (a, e) ∷ [] in
      let now = ok.sees.1 in let between = ok.sees.0 in
      let then : Wh = run p p.start v.seen in let now' : Wh = run p p.start r.log in
      let agree : Agrees p then now' a e = λ i t. ok.same i (held i t) in
      let law = local then now' a e lawful agree in
      let w : View Sc En = seeing v log' in
      let x : ℕ = get_or s.words 0 0 in
      let words' = set s.words 0 ((x + 1) % 2 ^ 64) in
      let past : EachOwn v.joined r.log = recalls r.log s.views r.crew id v at in
      let wide : length s.words ≡ length s.homes + 1 = r.wide in
      let short = length_few (2 ^ 56) r.log r.actors r.few in
      let grown : length log' ≡ length r.log + 1 = length-append r.log ((a, e) ∷ []) in
      let x_is : x ≡ length r.log = r.long in
      let new : (x + 1) % 2 ^ 64 ≡ length log' = mod-eq_of_lt (omega arith) ∙ omega arith in
      let next : (i : ℕ) → after p log' i ≡ p.at (p.next now' a e) i = λ i. ap (λ z. p.at z i) (run_append p p.start r.log ((a, e) ∷ [])) in
      let stays : (i : ℕ) → has i v.holds ≢ true → after p log' i ≡ after p r.log i = λ i no. next i ∙ untouched now' a e i law.1 (not_true _ (λ t. no (held i (ap (has i) law.0 ∙ t)))) in
      let own_now : own a log' ≡ own a v.seen ++ (a, e) ∷ [] = own_append a r.log ((a, e) ∷ []) ∙ (λ k. ok.mine k ++ own_here a e k) in
      let word_stays : (j : ℕ) → get_or words' (j + 1) 0 ≡ get_or s.words (j + 1) 0 = λ j. get_or-set_other s.words 0 (j + 1) ((x + 1) % 2 ^ 64) 0 (λ h. omega arith) in
      let grown_lawful : IsLawful p log' = lawful_snoc p p.start r.log a e r.lawful law.1 in
      let few : (b : ℕ) → length (own b log') ≤ 2 ^ 56 = λ b. dite (ℕ_discrete b a)
      (λ h. subst (λ z. length (own z log') ≤ 2 ^ 56) (sym h) (let l = ap length own_now in let m = length-append (own a v.seen) ((a, e) ∷ []) in omega arith))
      (λ ne. let l = ap length (own_append b r.log ((a, e) ∷ []) ∙ ((λ k. own b r.log ++ own_other b a e ne k) ∙ append-nil (own b r.log))) in let f = r.few b in omega arith) in
      let actors : (b : ℕ) → 64 ≤ b → own b log' ≡ [] = λ b le. let sm : a < 64 = ok.small in own_append b r.log ((a, e) ∷ []) ∙ (λ k. r.actors b le k ++ own_other b a e (λ h. omega arith) k) in
      let stays_crew : CrewIsKept log' (set s.views id w) = crew_stays r.log log' s.views r.crew id v w at live refl refl refl refl refl (λ b ne. own_append b r.log ((a, e) ∷ []) ∙ ((λ k. own b r.log ++ own_other b a e ne k) ∙ append-nil (own b r.log))) in
      let past' : EachOwn v.joined log' = recalls log' (set s.views id w) stays_crew id w (there s.views id v w at) in (
        w,
        keeps,
        tt,
        moved p state sc s r id v w words' s.homes log' at live live refl refl (λ i h. h)
            grown_lawful stays_crew (length-set s.words 0 ((x + 1) % 2 ^ 64) ∙ wide) (get_or-set_same s.words 0 ((x + 1) % 2 ^ 64) 0 (omega arith) ∙ new)
            few actors
            record { scene = ok.scene; told = (ok.told.0 ++ (a, e) ∷ [], sym (append_assoc v.told ok.told.0 ((a, e) ∷ [])) ∙ ap (λ z. z ++ (a, e) ∷ []) ok.told.1); sees = ([], append-nil log'); mine = refl; small = ok.small; turn = λ i h. word_stays i ∙ ok.turn i h; same = λ i h. refl; ever = ok.ever }
            (λ j u other there l. let o = r.each_view j u there l in
            let ne : u.actor ≢ a = λ h. other (r.apart j id u v there at l live h) in
            record {
              scene = o.scene;
              told = (o.told.0 ++ (a, e) ∷ [], sym (append_assoc u.told o.told.0 ((a, e) ∷ [])) ∙ ap (λ z. z ++ (a, e) ∷ []) o.told.1);
              sees = (o.sees.0 ++ (a, e) ∷ [], sym (append_assoc u.seen o.sees.0 ((a, e) ∷ [])) ∙ ap (λ z. z ++ (a, e) ∷ []) o.sees.1);
              mine = own_append u.actor r.log ((a, e) ∷ []) ∙ ((λ k. o.mine k ++ own_other u.actor a e ne k) ∙ append-nil (own u.actor u.seen));
              small = o.small;
              turn = λ i h. word_stays i ∙ o.turn i h;
              same = λ i h. o.same i h ∙ sym (stays i (λ mine. ne (let t : u.actor + 1 ≡ a + 1 = sym (o.turn i h) ∙ ok.turn i mine in omega arith)));
              ever = o.ever;
            })
            (λ i lt. ⊎_elim
            (λ h. inl (word_stays i ∙ h.0, (h.1.0, h.1.1, h.1.2 ∙ sym (stays i (λ mine. let t : 0 ≡ a + 1 = sym h.0 ∙ ok.turn i mine in absurd (omega arith))))))
            (λ h. inr (held_stays i s.views id v w at live (λ mine. mine) h))
            (r.each_turn i lt))
            (λ i b h. r.each_refusal id v at live i b h),
        (
          e,
          between,
          record { scene = sc; at = scene; sees = (between, refl); lawful = subst (IsLawful p) (sym now) r.lawful; mine = ap (own a) now ∙ ok.mine; told = subst (IsPrefix v.told) (sym now) ok.told; joined = subst (EachOwn v.joined) (sym now) past; kept = λ i h. ap (λ z. after p z i) now ∙ sym (ok.same i h) },
          refl,
          (λ k. (seeing v (sym now k ++ (a, e) ∷ []), me.1)),
          x_is ∙ ap length (sym now),
          own_rest a v.seen between (ap (own a) now ∙ ok.mine),
          subst (λ z. IsLawful p (z ++ (a, e) ∷ [])) (sym now) grown_lawful,
          subst (λ z. EachOwn v.joined (z ++ (a, e) ∷ [])) (sym now) past',
        ),
      )
