use Rattle.std.proofs.Common.{ap, length, ◌∙◌}
use Rattle.vtep_base.proofs.Held.{shown}
use Rattle.vtep_base.proofs.ordered.Ordered.len.Goals as goal

pub returns : goal.returns
returns g c = c.len.ensures.len ∙ ap length (shown g.met.K.Ord.total c.self.inside.tree.entries c.args.self.now c.self.invariant c.self.view_is)
