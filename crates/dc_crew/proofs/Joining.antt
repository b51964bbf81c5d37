-- Passes that are joined one after another, the last one first.
use Rattle.std.proofs.Common.{◌≡◌, List, [], ◌∷◌, ◌++◌, reverse, sym, refl, ap, ◌∙◌, subst, append_assoc}
use Rattle.std.proofs.lemmas.List.{append-nil, reverse-append}
use Rattle.std.specs.Global.{Vec}
use mathlib.Core.List.{IsPrefix}
use Rattle.dc_base.specs.declared.entries.Entry.{Entry}
use Rattle.dc_journal.specs.declared.merging.Logged.{Logged}
use Rattle.dc_logs.specs.Logs.{EachLog}
use Rattle.dc_logs.specs.Marks.{IsLogOf}
use Rattle.dc_logs.specs.Rests.{AllOf}
use Rattle.dc_logs.proofs.ActorLogs.{log_later, each_later}
use Rattle.dc_logs.proofs.Beginnings.{prefix_same, prefix_through}
use Rattle.dc_stage.specs.History.{Meaning, Log, own}
use Rattle.dc_stage.specs.Pasts.{EachOwn}
use Rattle.dc_stage.specs.Passes.{past_of}
use Rattle.dc_stage.specs.Calls.{Joins}
use Rattle.dc_crew.specs.declared.seats.Seat.{Seat}
use Rattle.dc_crew.specs.Machines.{Staged, Passing}
use Rattle.dc_crew.specs.Seats.{IsSeat}
use Rattle.dc_crew.specs.Joined.{pasts_of, HasJoined}

see_later : (ss : List Seat) (h i : Log Entry) → IsPrefix h i → AllOf (λ (s : Seat). IsPrefix s.pass.seen h) ss
    → AllOf (λ (s : Seat). IsPrefix s.pass.seen i) ss
see_later [] h i pre a = tt
see_later (s ∷ ss) h i pre a = (prefix_through s.pass.seen h i a.0 pre, see_later ss h i pre a.1)

pub none_joined : (k : Passing) (logs : List (Vec Logged)) → k.joined ≡ [] → logs ≡ [] → HasJoined k k [] logs
none_joined k logs none empty = record {
  table = refl;
  scene = refl;
  actor = refl;
  first = refl;
  made = refl;
  holds = refl;
  joined = none;
  own_same = refl;
  each = tt;
  logs_are = subst (λ gs. EachLog k.seen [] (reverse gs)) (sym empty) tt;
  sees = prefix_same k.seen;
  sees_theirs = tt;
}

-- the logs with one more, the other way round
one_log : (h : Log Entry) (s : Seat) (done : List Seat) (logs : List (Vec Logged)) (log : Vec Logged) → IsLogOf s.pass.actor h log.items
    → EachLog h (pasts_of done) (reverse logs) → EachLog h (pasts_of (s ∷ done)) (reverse (logs ++ log ∷ []))
one_log h s done logs log mine rest = subst (λ gs. EachLog h (pasts_of (s ∷ done)) gs) (sym (reverse-append logs (log ∷ []))) (mine, rest)

-- one more pass was joined
pub one_joined : {Wh St : Type 0} (p : Meaning Wh St Entry) (st : Staged) (k l m : Passing) (s : Seat) (done : List Seat) (logs : List (Vec Logged))
    (log : Vec Logged) → HasJoined k l done logs → Joins p l s.pass m → IsSeat st s → log.items ≡ s.log.entries → HasJoined k m (s ∷ done) (logs ++ log ∷ [])
one_joined p st k l m s done logs log h j seat is =
    let joined : m.joined ≡ pasts_of (s ∷ done) = ap (λ z. z.joined) j.same ∙ ap (λ xs. past_of s.pass ∷ xs) h.joined in
    let each : EachOwn (pasts_of (s ∷ done)) m.seen = subst (λ xs. EachOwn xs m.seen) joined j.joined in
    let mine : IsLogOf s.pass.actor m.seen log.items = subst (λ es. IsLogOf s.pass.actor m.seen es) (sym is)
    (log_later s.pass.actor s.pass.seen m.seen s.log.entries j.sees_theirs j.theirs seat.log) in
    record {
      table = ap (λ z. z.table_id) j.same ∙ h.table;
      scene = ap (λ z. z.scene) j.same ∙ h.scene;
      actor = ap (λ z. z.actor) j.same ∙ h.actor;
      first = ap (λ z. z.first) j.same ∙ h.first;
      made = ap (λ z. z.made) j.same ∙ h.made;
      holds = ap (λ z. z.holds) j.same ∙ h.holds;
      joined = joined;
      own_same = subst (λ a. own a m.seen ≡ own a l.seen) h.actor j.more.mine ∙ h.own_same;
      each = each;
      logs_are = one_log m.seen s done logs log mine (each_later l.seen m.seen (pasts_of done) (reverse logs) j.more.sees h.each each.1 h.logs_are);
      sees = prefix_through k.seen l.seen m.seen h.sees j.more.sees;
      sees_theirs = (j.sees_theirs, see_later done l.seen m.seen j.more.sees h.sees_theirs);
    }

-- the seats behind these were joined
abbrev pub HavePartlyJoined : Passing → Passing → List Seat → List Seat → List (Vec Logged) → Type 0
HavePartlyJoined k l seats rest logs = (done : List Seat) × (seats ≡ rest ++ done) × HasJoined k l done logs

pub begin_joined : (k : Passing) (seats : List Seat) (logs : List (Vec Logged)) → k.joined ≡ [] → logs ≡ [] → HavePartlyJoined k k seats seats logs
begin_joined k seats logs none empty = ([], sym (append-nil seats), none_joined k logs none empty)

pub next_joined : {Wh St : Type 0} (p : Meaning Wh St Entry) (st : Staged) (k l m : Passing) (seats rest before : List Seat) (s : Seat)
    (logs : List (Vec Logged)) (log : Vec Logged) → rest ≡ before ++ s ∷ [] → Joins p l s.pass m → IsSeat st s → log.items ≡ s.log.entries
    → HavePartlyJoined k l seats rest logs → HavePartlyJoined k m seats before (logs ++ log ∷ [])
next_joined p st k l m seats rest before s logs log is j seat entries (done, all, h) =
    (s ∷ done, all ∙ (ap (λ r. r ++ done) is ∙ append_assoc before (s ∷ []) done), one_joined p st k l m s done logs log h j seat entries)

pub end_joined : (k l : Passing) (seats rest : List Seat) (logs : List (Vec Logged)) → rest ≡ [] → HavePartlyJoined k l seats rest logs
    → HasJoined k l seats logs
end_joined k l seats rest logs none (done, all, h) = subst (λ xs. HasJoined k l xs logs) (sym (all ∙ ap (λ r. r ++ done) none)) h
