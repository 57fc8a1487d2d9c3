use Rattle.rpc_framing.proofs.Kept.{cuts_do_not_matter}
use Rattle.rpc_framing.proofs.framer.cuts_do_not_matter.Goals as goal

pub returns : goal.returns
returns c = cuts_do_not_matter
