use Rattle.ether_frames.proofs.Carried.{written_read}
use Rattle.ether_frames.proofs.written_is_read.Goals as goal

pub returns : goal.returns
returns c = λ bytes inner vlan. written_read bytes inner vlan
