use Rattle.std.proofs.Common.{◌≡◌, ◌++◌, map}
use Rattle.std.specs.List.{filter}
use Rattle.vtep_base.specs.Maps as maps
use Rattle.fabric_world.specs.Intentions.{binding_cmp}
use Rattle.fabric_world.specs.Installer.{is_at_port, bound}
use Rattle.vtep_fabric.proofs.Bindings.{leading}
use Rattle.vtep_fabric.proofs.wanted.bound_in.Given as goal

abbrev pub invariant-bindings : goal.invariant-bindings
invariant-bindings l =
    l.list ++ leading l.gateway l.port l.binding-iterator
    ≡ map bound (filter (is_at_port l.gateway l.port) (maps.map_by binding_cmp l.bindings).list)
