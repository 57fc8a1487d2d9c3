use Rattle.local_tables.proofs.Fewer.{fewer_kept}
use Rattle.local_tables.proofs.laws.binding_no_more_commits.Goals as goal

pub returns : goal.returns
returns c = fewer_kept
