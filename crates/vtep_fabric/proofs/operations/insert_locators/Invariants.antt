use Rattle.std.proofs.Common.{◌≡◌, ◌++◌, map, length, drop}
use Rattle.std.specs.Ordering.{nat_cmp}
use Rattle.serde_json.specs.View.{view}
use Rattle.vtep_base.specs.Maps as maps
use Rattle.vtep_rows.specs.Row.{put_all}
use Rattle.fabric_world.specs.Installer.{numbered, locator_json}
use Rattle.vtep_fabric.proofs.operations.insert_locators.Given as goal

abbrev pub invariant-addresses : goal.invariant-addresses
invariant-addresses l = record {
  rows : put_all (maps.map_by nat_cmp l.rows) (numbered (λ n ip. (ip, n)) (length l.operations.items) (drop l.ip-index l.addresses))
      ≡ put_all maps.empty (numbered (λ n ip. (ip, n)) (length l.fn.operations.items) l.addresses);
  added : map view l.operations.items ++ numbered locator_json (length l.operations.items) (drop l.ip-index l.addresses)
      ≡ map view l.fn.operations.items ++ numbered locator_json (length l.fn.operations.items) l.addresses;
}
