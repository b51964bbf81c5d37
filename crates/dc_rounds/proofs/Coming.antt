-- A core comes to work, and goes home again.
use Rattle.std.proofs.Common.{◌≡◌, ℕ, List, [], sym, ap, ◌∙◌, subst}
use mathlib.Core.List.{IsPrefix}
use Rattle.dc_base.specs.declared.entries.Entry.{Entry}
use Rattle.dc_journal.specs.declared.merging.Logged.{Logged}
use Rattle.dc_stage.specs.Calls.{SeesMore}
use Rattle.dc_stage.specs.History.{Log, own}
use Rattle.dc_stage.specs.Passes.{having_seen}
use Rattle.dc_scene.specs.Machines.{machine}
use Rattle.dc_scene.proofs.Runs.{to_machine}
use Rattle.dc_logs.specs.Marks.{IsLogOf}
use Rattle.dc_logs.specs.Recorded.{Recorded}
use Rattle.dc_hands.specs.Machines.{Staged, Passing}
use Rattle.dc_hands.specs.Holding.{GoesOn}
use Rattle.dc_rounds.specs.Homes.{IsAtHome}

-- a log is that of a longer history too, where its actor made no new entry
abbrev pub LogsStay : Type 0
LogsStay = (a : ℕ) (xs ys : Log Entry) (log : List Logged) → IsPrefix xs ys → own a ys ≡ own a xs → IsLogOf a xs log → IsLogOf a ys log

module _ {D : Type 0} (k l : Passing D) where
  -- the log goes on with the pass
  pub log_on : LogsStay → (entries : List Logged) → GoesOn k l → own k.actor l.seen ≡ own k.actor k.seen → IsLogOf k.actor k.seen entries
      → IsLogOf l.actor l.seen entries
  log_on stay entries on mine log = subst (λ a. IsLogOf a l.seen entries) (sym on.actor) (stay k.actor k.seen l.seen entries on.sees mine log)

  -- a pass that put back all that it held goes on
  pub goes_home : (m : Passing D) → GoesOn k l → m ≡ record l { holds = [] } → GoesOn k m
  goes_home m on same = subst (GoesOn k) (sym same)
      (record { table = on.table; scene = on.scene; actor = on.actor; first = on.first; made = on.made; joined = on.joined; sees = on.sees })

module _ {D : Type 0} (st : Staged D) (k l : Passing D) (r : Recorded) (a : ℕ) where
  -- a pass that holds nothing is at home once it has looked
  pub home_looked : LogsStay → k.actor ≡ a → k.holds ≡ [] → IsLogOf k.actor k.seen r.entries → l ≡ having_seen k l.seen
      → SeesMore (machine st.scene.settings st.scene.start) k l.seen → IsAtHome st l r a
  home_looked stay actor holds log same more =
      let by : l.actor ≡ k.actor = ap (λ (p : Passing D). p.actor) same in
      record {
        actor = by ∙ actor;
        holds = ap (λ (p : Passing D). p.holds) same ∙ holds;
        lawful = to_machine st.scene.settings st.scene.start st.scene.start l.seen more.lawful;
        log_is = subst (λ n. IsLogOf n l.seen r.entries) (sym by) (stay k.actor k.seen l.seen r.entries more.sees more.mine log);
      }
