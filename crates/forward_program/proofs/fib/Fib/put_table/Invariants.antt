use Rattle.std.proofs.Common.{◌≡◌}
use Rattle.std.specs.List.{flat_map}
use Rattle.vtep_rows.specs.Row.{put_all}
use Rattle.forward_program.specs.Shown.{table_entries}
use Rattle.forward_program.proofs.RowsThere.{entries_by}
use Rattle.forward_program.proofs.fib.Fib.put_table.Given as goal

abbrev pub invariant-ids : goal.invariant-ids
invariant-ids g l = record {
  put : put_all l.self.entries (flat_map (entries_by l.rows l.table l.own) l.id-iterator) ≡ put_all l.initial.self.entries (table_entries l.rows l.table);
  same : l.self.broken ≡ l.initial.self.broken;
}
