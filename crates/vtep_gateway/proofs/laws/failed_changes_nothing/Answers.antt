use Rattle.vtep_gateway.proofs.Refused.{failed_stays}
use Rattle.vtep_gateway.proofs.laws.failed_changes_nothing.Goals as goal

pub returns : goal.returns
returns c = failed_stays
