use Rattle.vtep_gateway.proofs.Lasting.{operations_leave}
use Rattle.vtep_gateway.proofs.laws.sessions_leave_the_rest.Goals as goal

pub returns : goal.returns
returns c params r rows = operations_leave params r rows
