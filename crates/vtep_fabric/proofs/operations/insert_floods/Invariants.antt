use Rattle.std.proofs.Common.{◌≡◌, ◌≤◌, ◌++◌, map, length, drop}
use Rattle.std.specs.Ordering.{nat_cmp}
use Rattle.serde_json.specs.View.{view}
use Rattle.vtep_base.specs.Maps as maps
use Rattle.fabric_world.specs.Intentions.{bytes_cmp}
use Rattle.fabric_world.specs.Installer.{floods_json}
use Rattle.vtep_fabric.proofs.operations.insert_floods.Given as goal

abbrev pub invariant-floods : goal.invariant-floods
invariant-floods l = record {
  room : l.number ≤ length l.operations.items;
  added : map view l.operations.items ++ floods_json (maps.map_by nat_cmp l.locators) (maps.map_by bytes_cmp l.switches) l.number (drop l.switch-index l.floods)
      ≡ map view l.fn.operations.items ++ floods_json (maps.map_by nat_cmp l.locators) (maps.map_by bytes_cmp l.switches) l.first l.floods;
}
