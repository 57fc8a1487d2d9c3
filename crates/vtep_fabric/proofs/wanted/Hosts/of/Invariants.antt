use Rattle.std.proofs.Common.{◌≡◌}
use Rattle.std.specs.List.{flat_map}
use Rattle.fabric_world.specs.Installer.{with_each, host_cmp, hosts_at, hosts_of}
use Rattle.vtep_fabric.proofs.wanted.Hosts.of.Given as goal

abbrev pub invariant-peers : goal.invariant-peers
invariant-peers l = with_each host_cmp l.pairs.keys (flat_map (hosts_at l.intention) l.gateway-iterator) ≡ hosts_of l.intention l.fn.peers
