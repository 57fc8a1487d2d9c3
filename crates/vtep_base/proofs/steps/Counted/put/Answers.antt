use Rattle.std.proofs.Common.{ap, ◌∙◌}
use Rattle.vtep_base.specs.Maps as maps
use Rattle.vtep_base.proofs.steps.Counted.put.Goals as goal

pub returns-clause-ok : goal.returns-clause-ok
returns-clause-ok g c = c.in_ok-before.ensures.ok ∙ ap (λ es. maps.insert (maps.map_by g.K.Ord.cmp es) c.args.key c.args.value) c.self.view_is
