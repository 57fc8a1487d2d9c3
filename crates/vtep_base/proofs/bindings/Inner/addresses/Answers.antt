use Rattle.std.proofs.Common.{sym}
use Rattle.std.proofs.lemmas.List.{take_at}
use Rattle.vtep_base.proofs.bindings.Inner.addresses.Goals as goal

pub returns-clause-value : goal.returns-clause-value
returns-clause-value c = rw (← c.self.view_is) (sym (take_at _ _ 12 c.self.invariant.0))
