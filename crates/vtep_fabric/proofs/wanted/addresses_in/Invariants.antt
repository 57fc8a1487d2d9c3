use Rattle.std.proofs.Common.{◌≡◌, drop}
use Rattle.std.specs.List.{flat_map}
use Rattle.std.specs.Ordering.{nat_cmp}
use Rattle.fabric_world.specs.Installer.{with_each, ascending}
use Rattle.vtep_fabric.proofs.wanted.addresses_in.Given as goal

abbrev pub invariant-floods : goal.invariant-floods
invariant-floods l = with_each nat_cmp l.addresses.keys (flat_map (λ f. f.1) (drop l.ips-index l.floods)) ≡ ascending nat_cmp (flat_map (λ f. f.1) l.floods)
