use Rattle.vxlan_frames.proofs.Written.{written_is_packet, written_decoded}
use Rattle.vxlan_frames.proofs.written_is_decoded.Goals as goal

pub returns-clause-packet : goal.returns-clause-packet
returns-clause-packet c = λ src dst vni inner. written_is_packet src dst vni inner

pub returns-clause-decoded : goal.returns-clause-decoded
returns-clause-decoded c = λ src dst vni inner. written_decoded src dst vni inner
