use Rattle.std.proofs.Common.{◌≡◌, ◌&&◌, drop}
use Rattle.std.specs.List.{list_any}
use Rattle.vtep_schema.specs.declared.Table.{Table}
use Rattle.vtep_schema.specs.Tables.{table_rule, belongs}
use Rattle.vtep_schema.proofs.derived.is_open_column.Given as goal

abbrev pub invariant-among : goal.invariant-among
invariant-among l = list_any (λ (t : Table). (table_rule t).open_to_sessions && belongs l.column t) l.among ≡ list_any (λ (t : Table). (table_rule t).open_to_sessions && belongs l.column t) (drop l.table-index l.among)
