use Rattle.std.proofs.Common.{◌≡◌, map, drop}
use Rattle.std.specs.List.{flat_map}
use Rattle.fabric_world.specs.Intentions.{bytes_cmp}
use Rattle.fabric_world.specs.Installer.{with_each, switches_in}
use Rattle.vtep_fabric.proofs.wanted.switches_in.Given as goal

abbrev pub invariant-ports : goal.invariant-ports
invariant-ports l =
    with_each bytes_cmp l.switches.keys (flat_map (λ p. map (λ b. b.1) p.1) (drop l.bound-index l.ports)) ≡ switches_in l.ports
