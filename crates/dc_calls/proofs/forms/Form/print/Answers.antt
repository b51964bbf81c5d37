use Rattle.std.proofs.Common.{sym, ap, ◌∙◌, refl}
use Rattle.dc_base.specs.Effects.{Context, reg}
use Rattle.dc_base.specs.Serving.{console_outside}
use Rattle.dc_calls.proofs.CallContexts.{running_within, context_is}
use Rattle.dc_calls.proofs.CallResults.{ok_of, on_err}
use Rattle.dc_calls.proofs.CallServed.{serves_made, serves_fault}
use Rattle.dc_calls.proofs.CallPrints.{out_register, prints_word, prints_nothing, prints_nowhere}
use Rattle.dc_calls.proofs.forms.Form.print.Goals as goal

pub bounds-disp-a : goal.bounds-disp-a
bounds-disp-a g c = out_register _ c.requires.proper

pub returns-in_default : goal.returns-in_default
returns-in_default g c = record {
  served = λ k n time x there. serves_fault _ _ _ _ _ _ _ 11 refl refl (prints_nowhere k n time _ _ x _ c.args.outside.now c.in_default.not-Console);
  kind = λ m f. f;
}

pub returns-then-is_err-clause-served : goal.returns-then-is_err-clause-served
returns-then-is_err-clause-served g c = λ k n time x there. let h3 = c.in-Console.is in let err = sym c.is_err.ensures.value ∙ c.if-is_err.true in
    rw h3 (serves_fault _ _ _ _ _ _ _ 11 refl (ap console_outside (on_err c.push.result err c.push.ensures.kept)) (prints_nothing k n time _ _ x _ c.push.result _ err c.push.ensures.room))

pub go_on-requires-clause-there : goal.go_on-requires-clause-there
go_on-requires-clause-there g c = running_within _ _ c.requires.running

pub returns-clause-served : goal.returns-clause-served
returns-clause-served g c = λ k n time x there.
    rw c.in-Console.is
    (serves_made _ _ _ _ _ _ _ _ _ (c.go_on.ensures x there)
    (prints_word k n time _ _ x _ c.push.result _ _ _ (ok_of c.push.result _ c.is_err.ensures.value c.if-is_err.false) c.push.ensures.room c.push.ensures.pushed
    (ap (λ (y : Context). reg y c.args.a) (sym (context_is _ _ _ _ _ x c.self.view_is c.disp.ensures there)))))
