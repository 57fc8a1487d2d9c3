use Rattle.transact_profile.proofs.Tables.{changed_table}
use Rattle.transact_profile.proofs.mutating.written.Goals as goal

pub returns-in-Ok-clause-table : goal.returns-in-Ok-clause-table
returns-in-Ok-clause-table c = changed_table _ _ _ _ c.in-Ok.ensures.ok
