use Rattle.std.proofs.Common.{◌∙◌}
use Rattle.vtep_rows.proofs.IndexLaws.{named_by_any}
use Rattle.vtep_rows.proofs.indexed.Indexed.is_named.Goals as goal

pub returns : goal.returns
returns c = c.named_by_any.ensures ∙ named_by_any c.args.self.now (c.args.table, c.args.id)
