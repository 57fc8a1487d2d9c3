use Rattle.std.proofs.Common.{◌≡◌, List, ◌++◌, map}
use Rattle.serde_json.specs.View.{members_view}
use Rattle.json_notation.specs.Json.{to_members}
use Rattle.ovsdb_values.specs.declared.datums.Datum.{Datum}
use Rattle.ovsdb_values.specs.Notation.{datum_json}
use Rattle.vtep_schema.specs.declared.Column.{Column}
use Rattle.vtep_schema.specs.Tables.{column_name}
use Rattle.vtep_fabric.proofs.operations.columns_json.Given as goal

abbrev pub invariant-values : goal.invariant-values
invariant-values l =
    (behind : List (Column × Datum)) × (l.values ≡ l.column-iterator.iter.rest.now ++ behind)
    × (members_view l.members.entries ≡ to_members (map (λ v. (column_name v.0, datum_json v.1)) behind))
