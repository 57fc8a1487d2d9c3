use Rattle.local_tables.proofs.Ageing.{ageing_kept}
use Rattle.local_tables.proofs.laws.ageing_commits.Goals as goal

pub returns : goal.returns
returns c = λ own r l gone is listed. ageing_kept own r l is gone listed
