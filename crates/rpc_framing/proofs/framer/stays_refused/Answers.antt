use Rattle.rpc_framing.proofs.Kept.{stays_refused}
use Rattle.rpc_framing.proofs.framer.stays_refused.Goals as goal

pub returns : goal.returns
returns c = stays_refused
