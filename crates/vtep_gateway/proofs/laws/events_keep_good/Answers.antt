use Rattle.vtep_gateway.proofs.Settling.{step_good}
use Rattle.vtep_gateway.proofs.laws.events_keep_good.Goals as goal

pub returns : goal.returns
returns c g e is before = step_good g e is before
