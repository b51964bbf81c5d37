-- A generated schedule is valid.
use Rattle.std.proofs.Common.{◌≡◌, ℕ, zero, suc, ◌/◌, ◌%◌, ◌<◌, ◌≤◌, length, Bool, true, false, nat_lt, if◌then◌else◌, refl, ap, arith}
use Rattle.std.proofs.lemmas.Nat.{mod_below}
use Rattle.dc_base.specs.declared.numbers.CoreNo.{CoreNo}
use Rattle.dc_base.specs.declared.numbers.BlockNo.{BlockNo}
use Rattle.dc_base.specs.declared.actions.Actor.{Actor}
use Rattle.dc_base.specs.declared.actions.Actor.TheVariants as actor
use Rattle.dc_base.specs.declared.actions.Action.{Action}
use Rattle.dc_base.specs.declared.actions.Action.TheVariants as action
use Rattle.dc_base.specs.Words.{Each}
use Rattle.dc_base.specs.States.{Settings}
use Rattle.dc_base.specs.Valid.{IsActionOf, IsValidSchedule}
use Rattle.dc_base.specs.Generated.{next_number, generated_line, generated_lines, generated_schedule}
use Rattle.dc_base.proofs.EachLaws.{each_nil, each_cons}

-- an action of an actor of this machine
abbrev Fits : Settings → Actor × Action → Type 0
Fits t a = IsActionOf t a.0 a.1

each_kind : (t : Settings) (c : CoreNo) (b : BlockNo) (p q r : Bool) → c.0 < t.cores → b.0 < t.blocks → Fits t (if p then (actor.Core c, action.Step) else if q then (actor.Core c, action.Order) else if r then (actor.Core c, action.Wake b (record { 0 = 0 })) else (actor.Script, action.Script))
each_kind t c b true q r core block = (core, tt)
each_kind t c b false true r core block = (core, tt)
each_kind t c b false false true core block = (core, (block, omega arith))
each_kind t c b false false false core block = tt

line : (t : Settings) (x : ℕ) → t.cores ≡ 8 → t.blocks ≡ 16 → Fits t (generated_line x)
unfolding generated_line
line t x cores blocks =
    let h = x / 65536 in
    each_kind t (record { 0 = (h / 20) % 8 }) (record { 0 = (h / 160) % 16 }) (nat_lt (h % 20) 10) (nat_lt (h % 20) 12) (nat_lt (h % 20) 18)
    (rw cores (mod_below (h / 20) 8 (omega arith))) (rw blocks (mod_below (h / 160) 16 (omega arith)))

lines : (t : Settings) (n x : ℕ) → t.cores ≡ 8 → t.blocks ≡ 16 → Each (generated_lines n x) (λ i. Fits t)
lines t zero x cores blocks = each_nil (λ i. Fits t)
lines t (suc n) x cores blocks = each_cons (λ i. Fits t) (generated_line (next_number x)) (generated_lines n (next_number x)) (line t (next_number x) cores blocks) (lines t n (next_number x) cores blocks)

long : (n x : ℕ) → length (generated_lines n x) ≡ n
long zero x = refl
long (suc n) x = ap suc (long n (next_number x))

lines_valid : (t : Settings) (n x : ℕ) → n ≤ 262144 → t.cores ≡ 8 → t.blocks ≡ 16 → IsValidSchedule t (generated_lines n x)
lines_valid t n x most cores blocks = record { most = rw (long n x) most; lines = lines t n x cores blocks }

pub schedule_valid : (t : Settings) (n : ℕ) → t.cores ≡ 8 → t.blocks ≡ 16 → IsValidSchedule t (generated_schedule n)
unfolding generated_schedule
schedule_valid t n cores blocks = lines_valid t 120000 n (omega arith) cores blocks
