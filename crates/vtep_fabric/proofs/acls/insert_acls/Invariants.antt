use Rattle.std.proofs.Common.{◌≡◌, ◌++◌, map, length, drop}
use Rattle.serde_json.specs.View.{view}
use Rattle.vtep_base.specs.Maps as maps
use Rattle.vtep_rows.specs.Row.{put_all}
use Rattle.fabric_world.specs.Intentions.{bytes_cmp}
use Rattle.fabric_world.specs.Installer.{acls_json, acl_rows}
use Rattle.vtep_fabric.proofs.acls.insert_acls.Given as goal

abbrev pub invariant-names : goal.invariant-names
invariant-names l = record {
  rows : put_all (maps.map_by bytes_cmp l.rows) (acl_rows l.intention (length l.operations.items) (drop l.name-index l.names))
      ≡ put_all maps.empty (acl_rows l.intention (length l.fn.operations.items) l.names);
  added : map view l.operations.items ++ acls_json l.intention (length l.operations.items) (drop l.name-index l.names)
      ≡ map view l.fn.operations.items ++ acls_json l.intention (length l.fn.operations.items) l.names;
}
