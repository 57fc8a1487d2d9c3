use Rattle.rpc_framing.proofs.Told.{what_is_told_comes}
use Rattle.rpc_framing.proofs.framer.what_is_told_comes.Goals as goal

pub returns : goal.returns
returns c = what_is_told_comes
