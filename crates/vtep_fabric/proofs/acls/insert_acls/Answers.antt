use Rattle.std.proofs.Common.{◌≡◌, ◌+◌, ◌++◌, map, length, ap, ◌∙◌, arith}
use Rattle.serde_json.specs.View.{view}
use Rattle.vtep_base.specs.Maps as maps
use Rattle.fabric_world.specs.Intentions.{bytes_cmp, in_sequence}
use Rattle.fabric_world.specs.Installer.{with_entries, wanted_entries}
use Rattle.vtep_fabric.proofs.AclNumbers.{acl_added, acl_row_added}
use Rattle.vtep_fabric.proofs.acls.insert_acls.Goals as goal

pub names-preserved : goal.names-preserved
names-preserved c =
    let i = c.args.intention.now in
    let names = c.args.names.now in
    let at = c.names.name-index in
    let name = c.name-item.result in
    let old = c.names.operations.items in
    let new = c.insert_acl.new.operations.items in
    let number : c.in_ok-number.number ≡ length old + length (wanted_entries i name) =
    c.in_ok-number.ensures.number ∙ ap (λ es. length old + length (in_sequence es)) c.entries.ensures in
    let added : map view new ≡ map view old ++ with_entries (wanted_entries i name) (length old) name =
    c.in_ok-number.ensures.added ∙ ap (λ es. map view old ++ with_entries (in_sequence es) (length old) name) c.entries.ensures in
    record {
      rows = acl_row_added view i old new (maps.map_by bytes_cmp c.names.rows) (maps.map_by bytes_cmp c.put.new.self) _ names at name c.in_ok-number.number
          (omega arith) c.name-item.is number c.in_ok-put.ensures.ok added c.names.invariant.rows;
      added = acl_added view i old new _ names at name (omega arith) c.name-item.is added c.names.invariant.added;
    }
