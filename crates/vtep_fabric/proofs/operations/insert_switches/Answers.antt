use Rattle.std.proofs.Common.{◌≡◌, length, ap, ◌∙◌, arith}
use Rattle.serde_json.specs.View.{view}
use Rattle.vtep_base.specs.Maps as maps
use Rattle.fabric_world.specs.Intentions.{bytes_cmp}
use Rattle.fabric_world.specs.Installer.{switch_json}
use Rattle.vtep_fabric.proofs.Additions.{one_row, one_longer, one_added}
use Rattle.vtep_fabric.proofs.operations.insert_switches.Goals as goal

pub switches-preserved : goal.switches-preserved
switches-preserved c =
    let names = c.args.switches.now in
    let i = c.switches.name-index in
    let name = c.name-item.result in
    let old = c.switches.operations.items in
    let new = c.push.new.self.items in
    let pushed = c.in_ok-push.ensures.items in
    let here : c.len-number.result ≡ length old = omega (arith, c.len-number.ensures, c.switches.operations.ok.0) in
    record {
      rows = one_row (maps.map_by bytes_cmp c.switches.rows) (maps.map_by bytes_cmp c.put.new.self) _ names i name (length old) (length new) (omega arith) c.name-item.is
          (c.in_ok-put.ensures.ok ∙ ap (maps.insert (maps.map_by bytes_cmp c.switches.rows) name) here) (one_longer view old new _ pushed) c.switches.invariant.rows;
      added = one_added view (switch_json c.args.intention.now) old new c.in_ok-switch_json.field-0 _ names i name (omega arith) c.name-item.is pushed
          (c.in_ok-switch_json.ensures ∙ ap (λ n. switch_json c.args.intention.now n name) here) c.switches.invariant.added;
    }
