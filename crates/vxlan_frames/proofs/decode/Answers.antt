use Rattle.vxlan_frames.proofs.Answered.{found_on_ok, only_packet}
use Rattle.vxlan_frames.proofs.decode.Goals as goal

pub returns-clause-found : goal.returns-clause-found
returns-clause-found c = found_on_ok (λ p. p.src) (λ p. p.dst) (λ p. p.vni) (λ p. p.inner) (λ e. e) c.args.bytes.now c.decode_exactly.result c.decode_exactly.ensures

pub returns-clause-only : goal.returns-clause-only
returns-clause-only c = only_packet (λ p. p.src) (λ p. p.dst) (λ p. p.vni) (λ p. p.inner) (λ e. e) c.args.bytes.now c.decode_exactly.result c.decode_exactly.ensures
