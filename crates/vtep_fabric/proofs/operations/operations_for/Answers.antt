use Rattle.std.proofs.Common.{◌≡◌, length, arith}
use Rattle.std.specs.Ordering.{nat_cmp}
use Rattle.serde_json.specs.View.{view}
use Rattle.vtep_base.specs.Maps as maps
use Rattle.fabric_world.specs.Intentions.{bytes_cmp}
use Rattle.vtep_fabric.proofs.Additions.{together}
use Rattle.vtep_fabric.proofs.operations.operations_for.Goals as goal

pub returns : goal.returns
returns c =
    let counted : c.len-first.result ≡ length c.insert_acls.new.operations.items = omega (arith, c.len-first.ensures, c.insert_acls.new.operations.ok.0) in
    together view c.args.intention.now c.args.ports.now c.args.switches.now c.args.acls.now c.args.floods.now c.args.addresses.now
    c.new-operations.result.items c.insert_locators.new.operations.items c.insert_switches.new.operations.items c.insert_acls.new.operations.items
    c.update_ports.new.operations.items c.insert_floods.new.operations.items
    (maps.map_by nat_cmp c.in_ok-locator_rows.locator_rows) (maps.map_by bytes_cmp c.in_ok-switch_rows.switch_rows) (maps.map_by bytes_cmp c.in_ok-acl_rows.acl_rows) c.len-first.result
    c.new-operations.ensures.items c.in_ok-locator_rows.ensures.rows c.in_ok-locator_rows.ensures.added c.in_ok-switch_rows.ensures.rows c.in_ok-switch_rows.ensures.added
    c.in_ok-acl_rows.ensures.rows c.in_ok-acl_rows.ensures.added counted c.in_ok-update_ports.ensures c.in_ok-insert_floods.ensures
