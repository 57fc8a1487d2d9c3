use Rattle.std.proofs.Common.{subst}
use Rattle.vtep_rows.specs.Rows.{IsRows}
use Rattle.vtep_rows.proofs.TouchedCollected.{if_ok, later_tables}
use Rattle.vtep_rows.proofs.database.Database.collect_row.Goals as goal

pub returns-clause-later : goal.returns-clause-later
returns-clause-later c =
    if_ok c.remove.result (λ q goes. later_tables c.args.self.now.current (c.args.table, c.args.id) (subst (λ v. IsRows v.current) c.self.view_is c.counter.ensures.rows) q goes)
