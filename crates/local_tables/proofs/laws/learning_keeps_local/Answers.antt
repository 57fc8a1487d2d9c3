use Rattle.local_tables.proofs.LearntLocal.{learnt_local}
use Rattle.local_tables.proofs.laws.learning_keeps_local.Goals as goal

pub returns : goal.returns
returns c = learnt_local
