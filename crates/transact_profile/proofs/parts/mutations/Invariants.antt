use Rattle.std.proofs.Common.{◌≡◌, [], map, drop}
use Rattle.serde_json.specs.View.{view}
use Rattle.transact_profile.specs.Refusing.{each_from}
use Rattle.transact_profile.specs.Operations.{mutation}
use Rattle.transact_profile.proofs.parts.mutations.Given as goal

abbrev pub invariant-values : goal.invariant-values
invariant-values l = each_from (mutation l.known l.table) l.mutations (map view (drop l.value-index l.values)) ≡ each_from (mutation l.known l.table) [] (map view l.values)
