use Rattle.std.proofs.Common.{ap, ◌∙◌}
use Rattle.vtep_base.specs.Maps as maps
use Rattle.forward_program.specs.Spots.{State}
use Rattle.forward_program.proofs.fib.Fib.put.Goals as goal

pub returns-clause-ok : goal.returns-clause-ok
returns-clause-ok g c = c.in_ok-put.ensures.ok ∙ ap (λ (s : State). maps.insert s.entries c.args.spot c.args.held) c.self.view_is
