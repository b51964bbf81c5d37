use Rattle.std.proofs.Common.{◌≡◌, ℕ, ◌+◌, ◌≤◌, length, ap, ◌∙◌, arith}
use Rattle.std.specs.Prelude.{take, replicate}
use Rattle.dc_stage.proofs.Opens.{opens}
use Rattle.dc_stage.proofs.Slots.{zeros_long, zeros_at, ok_still}
use Rattle.dc_stage.proofs.opening.lay_out.Goals as goal

pub new-requires : goal.new-requires
new-requires g c = let sc = c.args.scene.now in let n : ℕ = c.len.result + 1 in let few : n ≤ 1025 = omega (arith, c.requires.count, c.len.ensures, c.args.slots.ok) in
    let many : c.len.result ≡ length c.args.slots.items = omega (arith, c.len.ensures, c.args.slots.ok) in
    opens (g.S.Scene.meaning sc) g.S.Scene.state sc (take n (replicate 1025 0)) c.args.slots.items (zeros_long n 1025 few ∙ ap (λ z. z + 1) many) (λ k. zeros_at n 1025 k few) c.requires.start

pub returns-clause-ok : goal.returns-clause-ok
returns-clause-ok g c = let n : ℕ = c.len.result + 1 in let few : n ≤ 1025 = omega (arith, c.requires.count, c.len.ensures, c.args.slots.ok) in
    let many : c.len.result ≡ length c.args.slots.items = omega (arith, c.len.ensures, c.args.slots.ok) in
    ok_still _ _ (λ t p. (p.0 ∙ (zeros_long n 1025 few ∙ ap (λ z. z + 1) many), p.1, p.2, p.4, p.5)) c.new.result c.new.ensures.ok
