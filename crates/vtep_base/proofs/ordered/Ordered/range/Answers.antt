use Rattle.std.proofs.Common.{ap, ◌∙◌}
use Rattle.std.specs.BTreeMap.Range.{entries_between}
use Rattle.vtep_base.proofs.Held.{shown}
use Rattle.vtep_base.proofs.ordered.Ordered.range.Goals as goal

pub returns-clause-rest : goal.returns-clause-rest
returns-clause-rest g c b =
    c.range.ensures.between b
    ∙ ap (entries_between g.K.Ord.cmp (g.R.RangeBounds.start_bound c.args.range) (g.R.RangeBounds.end_bound c.args.range))
    (shown g.met.K.Ord.total c.self.inside.tree.entries c.args.self.now c.self.invariant c.self.view_is)
