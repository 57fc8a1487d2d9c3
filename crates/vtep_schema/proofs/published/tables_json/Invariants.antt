use Rattle.std.proofs.Common.{◌≡◌, List, ◌++◌, map}
use Rattle.serde_json.specs.View.{members_view}
use Rattle.json_notation.specs.Json.{to_members}
use Rattle.vtep_schema.specs.declared.Table.{Table}
use Rattle.vtep_schema.specs.Tables.{table_name}
use Rattle.vtep_schema.specs.Published.{table_json}
use Rattle.vtep_schema.proofs.published.tables_json.Given as goal

abbrev pub invariant-tables : goal.invariant-tables
invariant-tables l =
    (behind : List Table) × (l.tables ≡ l.table-iterator.iter.rest.now ++ behind)
    × (members_view l.members.entries ≡ to_members (map (λ t. (table_name t, table_json t)) behind))
