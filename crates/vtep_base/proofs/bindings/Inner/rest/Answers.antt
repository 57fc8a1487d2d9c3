use Rattle.std.proofs.Common.{sym}
use Rattle.std.proofs.lemmas.List.{drop_at}
use Rattle.vtep_base.proofs.bindings.Inner.rest.Goals as goal

pub returns-clause-value : goal.returns-clause-value
returns-clause-value c = rw (← c.self.view_is) (sym (drop_at _ _ 12 c.self.invariant.0))
