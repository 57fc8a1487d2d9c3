use Rattle.std.proofs.Common.{nat_lt, ap, ◌∙◌}
use Rattle.vtep_rows.proofs.IndexLaws.{named_is}
use Rattle.vtep_rows.proofs.indexed.Indexed.names.Goals as goal

pub returns : goal.returns
returns c = ap (nat_lt 0) c.of.ensures ∙ named_is c.self.inside.indexes c.self.inside.store c.args.self.now c.args.table (c.args.of, c.args.id) c.self.invariant c.self.view_is
