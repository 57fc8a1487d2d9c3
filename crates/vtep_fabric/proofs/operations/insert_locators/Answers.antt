use Rattle.std.proofs.Common.{◌≡◌, length, ap, ◌∙◌, arith}
use Rattle.std.specs.Ordering.{nat_cmp}
use Rattle.serde_json.specs.View.{view}
use Rattle.vtep_base.specs.Maps as maps
use Rattle.fabric_world.specs.Installer.{locator_json}
use Rattle.vtep_fabric.proofs.Additions.{one_row, one_longer, one_added}
use Rattle.vtep_fabric.proofs.operations.insert_locators.Goals as goal

pub addresses-preserved : goal.addresses-preserved
addresses-preserved c =
    let ips = c.args.addresses.now in
    let i = c.addresses.ip-index in
    let ip = c.ip-item.result in
    let old = c.addresses.operations.items in
    let new = c.push.new.self.items in
    let pushed = c.in_ok-push.ensures.items in
    let here : c.len-number.result ≡ length old = omega (arith, c.len-number.ensures, c.addresses.operations.ok.0) in
    record {
      rows = one_row (maps.map_by nat_cmp c.addresses.rows) (maps.map_by nat_cmp c.put.new.self) _ ips i ip (length old) (length new) (omega arith) c.ip-item.is
          (c.in_ok-put.ensures.ok ∙ ap (maps.insert (maps.map_by nat_cmp c.addresses.rows) ip) here) (one_longer view old new _ pushed) c.addresses.invariant.rows;
      added = one_added view locator_json old new c.in_ok-locator_json.field-0 _ ips i ip (omega arith) c.ip-item.is pushed
          (c.in_ok-locator_json.ensures ∙ ap (λ n. locator_json n ip) here) c.addresses.invariant.added;
    }
