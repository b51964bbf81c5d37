use Rattle.std.proofs.Common.{◌≡◌, ℕ, not, rules, ap, ◌∙◌}
use Rattle.std.specs.Prelude.{◌==◌, filter, nat_lt}
use Rattle.arrayvec.proofs.ArrayVecLemmas.{filter-from_retain}
use Rattle.dc_base.specs.declared.numbers.DispNo.{DispNo}
use Rattle.dc_ready.proofs.Listed.{ready-less, entries-less, lt-less}
use Rattle.dc_ready.proofs.fifos.FifoReadyList.remove.Goals as goal

kept : (c : goal.After-len) → c.retain.new.self.items ≡ filter (λ (x : DispNo × ℕ). not (x.0.0 == c.args.d.0)) c.self.inside.entries.items
kept c = filter-from_retain _ (λ (x : DispNo × ℕ). not (x.0.0 == c.args.d.0)) _ (λ x b f' y k. search rules) _ _ c.retain.ensures.filtered

pub invariant_of-self : goal.invariant_of-self
invariant_of-self c = ready-less c.args.d.0 c.self.inside.entries.items c.retain.new.self.items (kept c) c.self.invariant

pub returns-clause-there : goal.returns-clause-there
returns-clause-there c = ap (λ n. nat_lt n c.len-before.result) c.len.ensures.value ∙ (ap (nat_lt _) c.len-before.ensures.value ∙ lt-less c.args.d.0 c.self.inside.entries.items c.retain.new.self.items (kept c) c.args.self.now c.self.view_is)

pub returns-clause-rest : goal.returns-clause-rest
returns-clause-rest c = entries-less c.args.d.0 c.self.inside.entries.items c.retain.new.self.items (kept c) c.args.self.now c.self.view_is
