use Rattle.std.proofs.Common.{rules, sym}
use Rattle.dc_isa.specs.Labels.{names}
use Rattle.dc_isa.proofs.Passes.{adds_label}
use Rattle.dc_isa.proofs.assembler.add_label.Goals as goal

pub returns-in-Ok : goal.returns-in-Ok
returns-in-Ok c = λ labels code. adds_label labels c.args.line code c.args.name.now (names c.args.above.now) (names c.define.new.self) (search rules) (λ q. sym (c.in-Ok.ensures.names q))
