use Rattle.vtep_gateway.proofs.Refused.{unfinished_stays}
use Rattle.vtep_gateway.proofs.laws.unfinished_changes_nothing.Goals as goal

pub returns : goal.returns
returns c = unfinished_stays
