use Rattle.local_tables.proofs.Grown.{followed_local}
use Rattle.local_tables.proofs.laws.commits_keep_local.Goals as goal

pub returns : goal.returns
returns c = followed_local
