use Rattle.std.proofs.Common.{ap, ◌∙◌}
use Rattle.vtep_base.specs.Maps as maps
use Rattle.fabric_world.specs.Installer.{Peers}
use Rattle.vtep_fabric.proofs.peers.Peers.put.Goals as goal

pub returns-clause-ok : goal.returns-clause-ok
returns-clause-ok c =
    let with : Peers → Peers = λ p. maps.insert p c.args.name c.args.peer in
    c.in_ok-put.ensures.ok ∙ ap with c.self.view_is
