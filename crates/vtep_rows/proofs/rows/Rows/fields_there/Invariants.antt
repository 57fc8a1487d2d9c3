use Rattle.std.proofs.Common.{◌≡◌, drop}
use Rattle.std.specs.List.{flat_map, list_all}
use Rattle.vtep_base.specs.Maps as maps
use Rattle.vtep_schema.specs.Tables.{column_rule}
use Rattle.vtep_rows.specs.Row.{references_in}
use Rattle.vtep_rows.proofs.rows.Rows.fields_there.Given as goal

abbrev pub invariant-values : goal.invariant-values
invariant-values l = list_all (maps.has l.self.rows) (flat_map (λ e. references_in (column_rule e.0) e.1) (drop l.column-index l.fields)) ≡ list_all (maps.has l.self.rows) (flat_map (λ e. references_in (column_rule e.0) e.1) l.fields)
