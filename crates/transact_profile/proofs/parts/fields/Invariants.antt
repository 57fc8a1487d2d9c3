use Rattle.std.proofs.Common.{◌≡◌, [], map, drop}
use Rattle.serde_json.specs.View.{view}
use Rattle.transact_profile.specs.Refusing.{each_from}
use Rattle.transact_profile.specs.Operations.{field_of}
use Rattle.transact_profile.proofs.parts.fields.Given as goal

abbrev pub invariant-values : goal.invariant-values
invariant-values l = each_from (field_of l.table) l.fields (map view (drop l.value-index l.values)) ≡ each_from (field_of l.table) [] (map view l.values)
