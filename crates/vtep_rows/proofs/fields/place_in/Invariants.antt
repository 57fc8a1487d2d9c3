use Rattle.std.proofs.Common.{◌≡◌, ◌≤◌, ◌-◌, drop, length}
use Rattle.vtep_schema.specs.Tables.{column_cmp}
use Rattle.vtep_rows.specs.Places.{behind, place_in}
use Rattle.vtep_rows.proofs.fields.place_in.Given as goal

abbrev pub invariant-values : goal.invariant-values
invariant-values l = record {
  place : behind l.i (place_in column_cmp l.column (drop l.i l.values)) ≡ place_in column_cmp l.column l.values;
  within : l.i ≤ length l.values;
}

abbrev pub decreases-values : goal.decreases-values
decreases-values l = length l.values - l.i
