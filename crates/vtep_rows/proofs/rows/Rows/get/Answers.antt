use Rattle.std.proofs.Common.{ap, subst, ◌∙◌}
use Rattle.vtep_base.specs.Maps as maps
use Rattle.vtep_rows.specs.Rows.{IsRows}
use Rattle.vtep_rows.proofs.Kept.{shown_table}
use Rattle.vtep_rows.proofs.rows.Rows.get.Goals as goal

pub returns-clause-table : goal.returns-clause-table
returns-clause-table c = shown_table c.args.self.now c.args.table c.args.id _ (subst IsRows c.self.view_is c.self.invariant) (c.get.ensures ∙ ap (λ r. maps.get r.rows (c.args.table, c.args.id)) c.self.view_is)
