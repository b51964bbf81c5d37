use Rattle.std.proofs.Common.{◌-◌, ◌+◌, ◌≡◌, ap, ◌∙◌, subst, sym, drop, arith}
use Rattle.dc_caps.specs.Caps.{Caps}
use Rattle.dc_base.specs.Parts.{seats_from}
use Rattle.dc_kcb.specs.Starts.{IsUnseated}
use Rattle.dc_kcb.proofs.Seatings.{unseated_before}
use Rattle.dc_kcb.proofs.seating.seated.Goals as goal

pub seat_caps-requires-clause-free : goal.seat_caps-requires-clause-free
seat_caps-requires-clause-free c =
    let next : c.loop-d.d ≡ (c.loop-d.d - 1) + 1 = omega arith in
    subst (IsUnseated (c.loop-d.d - 1)) (sym (ap (λ (t : Caps). t.set) c.loop-d.invariant ∙ ap (λ n. seats_from n (drop c.loop-d.d c.args.disps.now)) next)) (unseated_before (c.loop-d.d - 1) (drop c.loop-d.d c.args.disps.now))
