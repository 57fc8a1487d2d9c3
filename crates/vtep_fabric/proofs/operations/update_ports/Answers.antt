use Rattle.std.proofs.Common.{map, arith}
use Rattle.serde_json.specs.View.{view}
use Rattle.vtep_base.specs.Maps as maps
use Rattle.fabric_world.specs.Intentions.{bytes_cmp}
use Rattle.vtep_fabric.proofs.Additions.{port_added}
use Rattle.vtep_fabric.proofs.operations.update_ports.Goals as goal

pub ports-preserved : goal.ports-preserved
ports-preserved c =
    port_added (maps.map_by bytes_cmp c.args.switches.now) (maps.map_by bytes_cmp c.args.acls.now) (map view c.ports.operations.items) (map view c.update_port.new.operations.items) _
    c.args.ports.now c.ports.port-index c.port-item.result (omega arith) c.port-item.is c.in_ok-update_port.ensures c.ports.invariant
