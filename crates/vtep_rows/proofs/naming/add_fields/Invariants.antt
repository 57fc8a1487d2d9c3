use Rattle.std.proofs.Common.{◌≡◌, ◌++◌, drop}
use Rattle.std.specs.List.{flat_map}
use Rattle.vtep_schema.specs.Tables.{column_rule}
use Rattle.vtep_rows.specs.Row.{references_in}
use Rattle.vtep_rows.proofs.naming.add_fields.Given as goal

abbrev pub invariant-values : goal.invariant-values
invariant-values l = l.named ++ flat_map (λ e. references_in (column_rule e.0) e.1) (drop l.column-index l.fields) ≡ l.initial.named ++ flat_map (λ e. references_in (column_rule e.0) e.1) l.fields
