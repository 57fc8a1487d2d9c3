use Rattle.transact_profile.proofs.Tables.{filled_table}
use Rattle.transact_profile.proofs.effects.filled.Goals as goal

pub returns-in-Ok-clause-table : goal.returns-in-Ok-clause-table
returns-in-Ok-clause-table c = filled_table c.args.table c.args.values _ c.in-Ok.ensures.ok
