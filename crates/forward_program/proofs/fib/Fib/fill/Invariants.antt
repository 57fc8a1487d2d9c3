use Rattle.std.proofs.Common.{◌≡◌, drop}
use Rattle.std.specs.List.{flat_map}
use Rattle.vtep_rows.specs.Row.{put_all}
use Rattle.forward_program.specs.Shown.{table_entries, forward_tables, all_entries}
use Rattle.forward_program.proofs.fib.Fib.fill.Given as goal

abbrev pub invariant-tables : goal.invariant-tables
invariant-tables g l = record {
  put : put_all l.self.entries (flat_map (table_entries l.rows) (drop l.table-index forward_tables)) ≡ put_all l.initial.self.entries (all_entries l.rows);
  same : l.self.broken ≡ l.initial.self.broken;
}
