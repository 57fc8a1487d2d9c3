use Rattle.std.proofs.Common.{◌≡◌, ◌++◌, drop}
use Rattle.fabric_world.specs.Installer.{floods_at}
use Rattle.vtep_fabric.proofs.wanted.floods_at.Given as goal

abbrev pub invariant-switches : goal.invariant-switches
invariant-switches l =
    l.floods ++ floods_at l.hosts l.peers l.gateway (drop l.switch-index l.switches) ≡ floods_at l.hosts l.peers l.gateway l.switches
