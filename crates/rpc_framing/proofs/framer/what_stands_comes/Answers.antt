use Rattle.rpc_framing.proofs.Divided.{what_stands_comes}
use Rattle.rpc_framing.proofs.framer.what_stands_comes.Goals as goal

pub returns : goal.returns
returns c = what_stands_comes
