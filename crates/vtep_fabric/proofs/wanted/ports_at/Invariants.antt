use Rattle.std.proofs.Common.{◌≡◌, ◌++◌, map}
use Rattle.fabric_world.specs.Installer.{bound_at, ports_at}
use Rattle.vtep_fabric.proofs.wanted.ports_at.Given as goal

abbrev pub invariant-ports : goal.invariant-ports
invariant-ports l =
    l.ports ++ map (λ p. (p.1, bound_at l.intention.bindings l.gateway p.0, bound_at l.intention.guards l.gateway p.0)) l.port-iterator
    ≡ ports_at l.intention l.gateway l.fn.peer
