use Rattle.vtep_gateway.proofs.Refused.{refused_stays}
use Rattle.vtep_gateway.proofs.laws.refused_changes_nothing.Goals as goal

pub returns : goal.returns
returns c = refused_stays
