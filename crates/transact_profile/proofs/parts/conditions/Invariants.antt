use Rattle.std.proofs.Common.{◌≡◌, [], map, drop}
use Rattle.serde_json.specs.View.{view}
use Rattle.transact_profile.specs.Refusing.{each_from}
use Rattle.transact_profile.specs.Operations.{condition}
use Rattle.transact_profile.proofs.parts.conditions.Given as goal

abbrev pub invariant-values : goal.invariant-values
invariant-values l = each_from (condition l.known l.table) l.conditions (map view (drop l.value-index l.values)) ≡ each_from (condition l.known l.table) [] (map view l.values)
