-- A look keeps the rule.
use Rattle.std.proofs.Common.{◌≡◌, ℕ, true, List, [], set, sym, refl, subst, inl, inr, ⊎_elim, append-nil}
use mathlib.Core.Option.{none}
use Rattle.atomic_table.specs.Table.{step, keeps, Allows}
use Rattle.dc_stage.specs.History.{Meaning}
use Rattle.dc_stage.specs.Views.{seeing}
use Rattle.dc_stage.specs.Rule.{IsKept}
use Rattle.dc_stage.specs.Steps.{At, looked}
use Rattle.dc_stage.specs.declared.view.View.{View}
use Rattle.dc_stage.proofs.Takes.{set_same}
use Rattle.dc_stage.proofs.Views.{crew_stays, held_stays, moved, recalls}

module _ {Wh St En Ob Sc : Type 0} (meaning : Sc → Meaning Wh St En) (state : Ob → St) (sc : Sc) where
  pub looks : (n id : ℕ) (me : At Sc En Ob) → me.0.live ≡ true → Allows (IsKept (meaning sc) state sc) n id me 0 (λ x. x) (looked meaning (step n 0 0 0 none) me)
  looks n id me live s r many at small =
      let p = meaning sc in let v = me.0 in let ok = r.each_view id v at live in let w : View Sc En = seeing v r.log in (
        w,
        keeps,
        tt,
        subst (λ (z : List ℕ). IsKept p state sc record { words = z; homes = s.homes; views = set s.views id w }) (sym (set_same s.words 0))
            (moved p state sc s r id v w s.words s.homes r.log at live live refl refl (λ j g. g) r.lawful (crew_stays r.log r.log s.views r.crew id v w at live refl refl refl refl refl (λ b ne. refl)) r.wide r.long r.few r.actors
            record { scene = ok.scene; told = ok.told; sees = ([], append-nil r.log); mine = refl; small = ok.small; turn = ok.turn; same = λ i h. refl; ever = ok.ever }
            (λ j x _ there l. r.each_view j x there l)
            (λ j lt. ⊎_elim (λ g. inl g) (λ g. inr (held_stays j s.views id v w at live (λ x. x) g)) (r.each_turn j lt))
            (λ j b g. r.each_refusal id v at live j b g)),
        (r.log, record { scene = sc; at = ok.scene; sees = ok.sees; lawful = r.lawful; mine = ok.mine; told = ok.told; joined = recalls r.log s.views r.crew id v at; kept = λ j g. sym (ok.same j g) }, refl, r.long),
      )
