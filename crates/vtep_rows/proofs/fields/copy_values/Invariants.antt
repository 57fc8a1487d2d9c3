use Rattle.std.proofs.Common.{◌≡◌, take}
use Rattle.vtep_rows.proofs.fields.copy_values.Given as goal

abbrev pub invariant-values : goal.invariant-values
invariant-values l = l.copy.items ≡ take l.column-index l.values
