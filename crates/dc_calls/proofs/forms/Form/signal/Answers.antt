use Rattle.dc_calls.proofs.CallEnds.{names_at, map_ok}
use Rattle.dc_calls.proofs.forms.Form.signal.Goals as goal

pub returns-clause-named : goal.returns-clause-named
returns-clause-named g c = map_ok c.signal_of.result (λ r e. names_at _ _ _ _ _ c.requires.running.rest.names c.self.view_is c.look-held.ensures.value e) c.signal_of.ensures.signal
