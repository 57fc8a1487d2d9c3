use Rattle.std.proofs.Common.{ap, ◌∙◌}
use Rattle.std.specs.Map.{values_of}
use Rattle.vtep_base.proofs.Held.{shown}
use Rattle.vtep_base.proofs.ordered.Ordered.into_values.Goals as goal

pub returns-clause-rest : goal.returns-clause-rest
returns-clause-rest g c =
    c.into_values.ensures.rest ∙ ap values_of (shown g.met.K.Ord.total c.self.inside.tree.entries c.args.self c.self.invariant c.self.view_is)
