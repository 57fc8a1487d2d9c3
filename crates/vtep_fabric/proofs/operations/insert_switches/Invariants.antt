use Rattle.std.proofs.Common.{◌≡◌, ◌++◌, map, length, drop}
use Rattle.serde_json.specs.View.{view}
use Rattle.vtep_base.specs.Maps as maps
use Rattle.vtep_rows.specs.Row.{put_all}
use Rattle.fabric_world.specs.Intentions.{bytes_cmp}
use Rattle.fabric_world.specs.Installer.{numbered, switch_json}
use Rattle.vtep_fabric.proofs.operations.insert_switches.Given as goal

abbrev pub invariant-switches : goal.invariant-switches
invariant-switches l = record {
  rows : put_all (maps.map_by bytes_cmp l.rows) (numbered (λ n s. (s, n)) (length l.operations.items) (drop l.name-index l.switches))
      ≡ put_all maps.empty (numbered (λ n s. (s, n)) (length l.fn.operations.items) l.switches);
  added : map view l.operations.items ++ numbered (switch_json l.intention) (length l.operations.items) (drop l.name-index l.switches)
      ≡ map view l.fn.operations.items ++ numbered (switch_json l.intention) (length l.fn.operations.items) l.switches;
}
