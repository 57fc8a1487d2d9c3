use Rattle.std.proofs.Common.{◌≡◌, ◌++◌, map, drop}
use Rattle.serde_json.specs.View.{view}
use Rattle.vtep_base.specs.Maps as maps
use Rattle.fabric_world.specs.Intentions.{bytes_cmp}
use Rattle.fabric_world.specs.Installer.{ports_json}
use Rattle.vtep_fabric.proofs.operations.update_ports.Given as goal

abbrev pub invariant-ports : goal.invariant-ports
invariant-ports l =
    map view l.operations.items ++ ports_json (maps.map_by bytes_cmp l.switches) (maps.map_by bytes_cmp l.acls) (drop l.port-index l.ports)
    ≡ map view l.fn.operations.items ++ ports_json (maps.map_by bytes_cmp l.switches) (maps.map_by bytes_cmp l.acls) l.ports
