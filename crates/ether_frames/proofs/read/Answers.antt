use Rattle.ether_frames.proofs.Carried.{found_on_ok, only_carried}
use Rattle.ether_frames.proofs.read.Goals as goal

pub returns-clause-found : goal.returns-clause-found
returns-clause-found c = found_on_ok (λ f. f.vlan) (λ f. f.inner) (λ e. e) c.args.bytes.now c.read_exactly.result c.read_exactly.ensures

pub returns-clause-only : goal.returns-clause-only
returns-clause-only c = only_carried (λ f. f.vlan) (λ f. f.inner) (λ e. e) c.args.bytes.now c.read_exactly.result c.read_exactly.ensures
