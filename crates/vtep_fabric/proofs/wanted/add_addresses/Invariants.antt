use Rattle.std.proofs.Common.{◌≡◌, drop}
use Rattle.std.specs.Ordering.{nat_cmp}
use Rattle.fabric_world.specs.Installer.{with_each}
use Rattle.vtep_fabric.proofs.wanted.add_addresses.Given as goal

abbrev pub invariant-ips : goal.invariant-ips
invariant-ips l = with_each nat_cmp l.addresses.keys (drop l.ip-index l.ips) ≡ with_each nat_cmp l.fn.addresses.keys l.ips
