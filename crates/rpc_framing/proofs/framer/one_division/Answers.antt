use Rattle.rpc_framing.proofs.Kept.{one_division}
use Rattle.rpc_framing.proofs.framer.one_division.Goals as goal

pub returns : goal.returns
returns c = one_division
