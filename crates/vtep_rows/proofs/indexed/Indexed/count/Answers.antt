use Rattle.std.proofs.Common.{◌∙◌}
use Rattle.vtep_rows.proofs.IndexLaws.{sized_is}
use Rattle.vtep_rows.proofs.indexed.Indexed.count.Goals as goal

pub returns : goal.returns
returns c = c.of.ensures ∙ sized_is c.self.inside.indexes c.self.inside.store c.args.self.now c.args.table c.self.invariant c.self.view_is
