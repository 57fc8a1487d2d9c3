use Rattle.vtep_gateway.proofs.Settling.{opening_good}
use Rattle.vtep_gateway.proofs.laws.new_is_good.Goals as goal

pub returns : goal.returns
returns c = opening_good
