use Rattle.std.proofs.Common.{◌≡◌, map, drop}
use Rattle.std.specs.List.{flat_map}
use Rattle.fabric_world.specs.Intentions.{bytes_cmp}
use Rattle.fabric_world.specs.Installer.{with_each, acls_in}
use Rattle.vtep_fabric.proofs.wanted.acls_in.Given as goal

abbrev pub invariant-ports : goal.invariant-ports
invariant-ports l =
    with_each bytes_cmp l.acls.keys (flat_map (λ p. map (λ b. b.1) p.2) (drop l.guarded-index l.ports)) ≡ acls_in l.ports
