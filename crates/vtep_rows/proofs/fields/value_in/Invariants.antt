use Rattle.std.proofs.Common.{◌≡◌, drop}
use Rattle.std.specs.FinMap.{find}
use Rattle.vtep_schema.specs.Tables.{column_cmp}
use Rattle.vtep_rows.proofs.fields.value_in.Given as goal

abbrev pub invariant-values : goal.invariant-values
invariant-values l = find column_cmp l.column (drop l.own-index l.values) ≡ find column_cmp l.column l.values
