use Rattle.std.proofs.Common.{◌≡◌}
use Rattle.std.specs.Vec.Iter.{into_iter_items}
use Rattle.vtep_base.specs.Maps.{Map}
use Rattle.vtep_schema.specs.Tables.{table_place}
use Rattle.vtep_rows.specs.Row.{Contents}
use Rattle.vtep_rows.specs.Rows.{key_cmp}
use Rattle.vtep_rows.specs.Database.{IsCollecting, from_place, after_table}
use Rattle.vtep_rows.proofs.database.Database.collect_table.Given as goal

abbrev pub invariant-ids : goal.invariant-ids
invariant-ids l = record {
  committed : l.self.committed ≡ l.initial.self.committed;
  current : l.self.current ≡ record l.initial.self.current { rows = l.self.current.rows };
  rows : (m : Map key_cmp Contents) → IsCollecting m l.initial.self.current.rows (from_place (table_place l.table) l.initial.candidates.keys)
      → IsCollecting m l.self.current.rows (after_table l.table (into_iter_items l.id-iterator) l.candidates.keys);
}
