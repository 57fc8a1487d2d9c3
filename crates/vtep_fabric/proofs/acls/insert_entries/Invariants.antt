use Rattle.std.proofs.Common.{◌≡◌, ◌++◌, map, length, drop}
use Rattle.serde_json.specs.View.{view}
use Rattle.fabric_world.specs.Installer.{new_row, numbered, entry_json}
use Rattle.vtep_fabric.proofs.acls.insert_entries.Given as goal

abbrev pub invariant-entries : goal.invariant-entries
invariant-entries l = record {
  rows : l.rows ++ numbered (λ n e. new_row n) (length l.operations.items) (drop l.entry-index l.entries)
      ≡ numbered (λ n e. new_row n) (length l.fn.operations.items) l.entries;
  added : map view l.operations.items ++ numbered (λ n e. entry_json n e.now) (length l.operations.items) (drop l.entry-index l.entries)
      ≡ map view l.fn.operations.items ++ numbered (λ n e. entry_json n e.now) (length l.fn.operations.items) l.entries;
}
