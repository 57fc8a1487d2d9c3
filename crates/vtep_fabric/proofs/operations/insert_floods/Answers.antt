use Rattle.std.proofs.Common.{ap, ◌∙◌, arith}
use Rattle.std.specs.Ordering.{nat_cmp}
use Rattle.serde_json.specs.View.{view}
use Rattle.vtep_base.specs.Maps as maps
use Rattle.fabric_world.specs.Intentions.{bytes_cmp}
use Rattle.fabric_world.specs.Installer.{set_json}
use Rattle.vtep_fabric.proofs.Additions.{one_longer, two_added}
use Rattle.vtep_fabric.proofs.operations.insert_floods.Goals as goal

pub floods-preserved : goal.floods-preserved
floods-preserved c =
    let locators = maps.map_by nat_cmp c.args.locators.now in
    let switches = maps.map_by bytes_cmp c.args.switches.now in
    let f = c.floods-item.result in
    let old = c.floods.operations.items in
    let mid = c.push.new.self.items in
    let new = c.push-in-floods.new.self.items in
    let first = one_longer view old mid c.in_ok-set_json.field-0 c.in_ok-push.ensures.items in
    let second = one_longer view mid new c.in_ok-remote_json.field-0 c.in_ok-push-2.ensures.items in
    let room = c.floods.invariant.room in
    record {
      room = omega (arith, first, second, room);
      added = two_added view locators switches old mid new c.in_ok-set_json.field-0 c.in_ok-remote_json.field-0 _ c.args.floods.now c.floods.switch-index f c.floods.number
          (omega arith) c.floods-item.is c.in_ok-push.ensures.items c.in_ok-push-2.ensures.items
          (c.in_ok-set_json.ensures ∙ ap (set_json locators c.floods.number) c.as_slice.ensures) c.in_ok-remote_json.ensures c.floods.invariant.added;
    }
