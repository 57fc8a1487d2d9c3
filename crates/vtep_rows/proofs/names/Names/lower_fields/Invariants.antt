use Rattle.std.proofs.Common.{◌≡◌, drop}
use Rattle.std.specs.List.{flat_map}
use Rattle.vtep_schema.specs.Tables.{column_rule}
use Rattle.vtep_rows.specs.Row.{references_in}
use Rattle.vtep_rows.specs.Names.{lowered_all}
use Rattle.vtep_rows.proofs.names.Names.lower_fields.Given as goal

abbrev pub invariant-values : goal.invariant-values
invariant-values l = lowered_all l.self l.of (flat_map (λ e. references_in (column_rule e.0) e.1) (drop l.column-index l.fields)) ≡ lowered_all l.initial.self l.of (flat_map (λ e. references_in (column_rule e.0) e.1) l.fields)
