use Rattle.std.proofs.Common.{arith}
use Rattle.fabric_world.specs.Installer.{host_cmp}
use Rattle.vtep_fabric.proofs.Ascending.{turn_one}
use Rattle.vtep_fabric.proofs.wanted.add_hosts.Goals as goal

pub switches-preserved : goal.switches-preserved
switches-preserved c =
    turn_one host_cmp (λ s. (s, c.args.gateway)) c.switches.pairs.keys c.insert.new.self.keys _ c.args.switches.now c.switches.switch-index c.switch-item.result
    (omega arith) c.switch-item.is c.in_ok-insert.ensures.keys c.switches.invariant
