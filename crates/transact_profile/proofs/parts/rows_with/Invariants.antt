use Rattle.std.proofs.Common.{◌≡◌, [], map, drop}
use Rattle.serde_json.specs.View.{view}
use Rattle.transact_profile.specs.Refusing.{each_from}
use Rattle.transact_profile.specs.Operations.{waited_row}
use Rattle.transact_profile.proofs.parts.rows_with.Given as goal

abbrev pub invariant-values : goal.invariant-values
invariant-values l = each_from (waited_row l.known l.table l.fields) l.rows (map view (drop l.value-index l.values)) ≡ each_from (waited_row l.known l.table l.fields) [] (map view l.values)
