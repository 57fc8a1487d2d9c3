use Rattle.std.proofs.Common.{◌≡◌, List, ◌++◌, map}
use Rattle.serde_json.specs.View.{members_view}
use Rattle.json_notation.specs.Json.{to_members}
use Rattle.vtep_schema.specs.declared.Column.{Column}
use Rattle.vtep_schema.specs.Tables.{column_name, column_rule}
use Rattle.vtep_schema.specs.Published.{column_json}
use Rattle.vtep_schema.proofs.published.columns_json.Given as goal

abbrev pub invariant-columns : goal.invariant-columns
invariant-columns l =
    (behind : List Column) × (l.columns ≡ l.column-iterator.iter.rest.now ++ behind)
    × (members_view l.members.entries ≡ to_members (map (λ c. (column_name c, column_json (column_rule c))) behind))
