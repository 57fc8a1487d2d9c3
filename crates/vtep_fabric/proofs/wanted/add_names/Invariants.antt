use Rattle.std.proofs.Common.{◌≡◌, map, drop}
use Rattle.fabric_world.specs.Intentions.{bytes_cmp}
use Rattle.fabric_world.specs.Installer.{with_each}
use Rattle.vtep_fabric.proofs.wanted.add_names.Given as goal

abbrev pub invariant-bound : goal.invariant-bound
invariant-bound l =
    with_each bytes_cmp l.names.keys (map (λ b. b.1) (drop l.name-index l.bound))
    ≡ with_each bytes_cmp l.fn.names.keys (map (λ b. b.1) l.bound)
