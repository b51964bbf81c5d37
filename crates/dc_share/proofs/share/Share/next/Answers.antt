use Rattle.std.proofs.Common.{subst, sym, ap, ◌∙◌, ◌≡◌, ◌<◌, ◌≤◌, length, get_or, List, ℕ, Bool, false, Some}
use Rattle.dc_base.specs.Policies.{next_block}
use Rattle.dc_base.specs.States.{Member}
use Rattle.dc_share.specs.Shares.{IsWithin}
use Rattle.dc_share.proofs.Places.{has_at, runnable_here, none_left}
use Rattle.dc_share.proofs.share.Share.next.Goals as goal

pub bounds-runnable-block : goal.bounds-runnable-block
bounds-runnable-block c =
    let share : List Member = c.args.self.now in
    let i : ℕ = c.loop-seat.seat-index in
    let seat : Member = c.seat-item.result in
    let same : c.as_slice-seat-items.result.now ≡ share = c.as_slice-seat-items.ensures.value ∙ c.self.view_is in
    let within : IsWithin share = subst IsWithin c.self.view_is c.self.invariant in
    let inside : i < length share = subst (λ (s : List Member). i < length s) same c.loop-seat-test.true in
    let this : c.block-block.result.0 ≡ (get_or share i seat).block = c.block-block.ensures ∙ ap (λ (m : Member). m.block) (c.seat-item.is ∙ ap (λ s. get_or s i seat) same) in
    subst (λ b. b < 16) (sym this) (within.below (get_or share i seat).block (has_at share i seat inside))

pub returns-then-runnable-block : goal.returns-then-runnable-block
unfolding next_block
returns-then-runnable-block c =
    let share : List Member = c.args.self.now in
    let i : ℕ = c.loop-seat.seat-index in
    let seat : Member = c.seat-item.result in
    let is_runnable : ℕ → Bool = λ b. get_or c.args.runnable.now b false in
    let same : c.as_slice-seat-items.result.now ≡ share = c.as_slice-seat-items.ensures.value ∙ c.self.view_is in
    let inside : i < length share = subst (λ (s : List Member). i < length s) same c.loop-seat-test.true in
    let this : c.block-block.result.0 ≡ (get_or share i seat).block = c.block-block.ensures ∙ ap (λ (m : Member). m.block) (c.seat-item.is ∙ ap (λ s. get_or s i seat) same) in
    ap (λ b. Some b) this ∙ sym (runnable_here is_runnable share i seat inside (ap is_runnable (sym this) ∙ c.if-runnable-block.true)) ∙ c.loop-seat.invariant

pub returns : goal.returns
unfolding next_block
returns c =
    let share : List Member = c.args.self.now in
    let i : ℕ = c.loop-seat.seat-index in
    let same : c.as_slice-seat-items.result.now ≡ share = c.as_slice-seat-items.ensures.value ∙ c.self.view_is in
    let past : length share ≤ i = subst (λ (s : List Member). length s ≤ i) same c.loop-seat-test.false in
    sym (none_left (λ b. get_or c.args.runnable.now b false) share i past) ∙ c.loop-seat.invariant
