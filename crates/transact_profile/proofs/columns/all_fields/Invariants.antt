use Rattle.std.proofs.Common.{◌≡◌, map, drop}
use Rattle.serde_json.specs.View.{view}
use Rattle.std.specs.List.{list_all}
use Rattle.transact_profile.specs.Operations.{is_field}
use Rattle.transact_profile.proofs.columns.all_fields.Given as goal

abbrev pub invariant-values : goal.invariant-values
invariant-values l = list_all (is_field l.table) (map view (drop l.value-index l.values)) ≡ list_all (is_field l.table) (map view l.values)
