use Rattle.std.proofs.Common.{◌≡◌, ◌++◌, map, drop}
use Rattle.std.specs.Ordering.{nat_cmp}
use Rattle.vtep_base.specs.Maps as maps
use Rattle.fabric_world.specs.Installer.{row_in}
use Rattle.vtep_fabric.proofs.operations.locator_set.Given as goal

abbrev pub invariant-ips : goal.invariant-ips
invariant-ips l =
    l.rows ++ map (row_in (maps.map_by nat_cmp l.locators)) (drop l.ip-index l.ips) ≡ map (row_in (maps.map_by nat_cmp l.locators)) l.ips
