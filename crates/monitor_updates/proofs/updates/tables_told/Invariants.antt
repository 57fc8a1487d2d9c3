use Rattle.std.proofs.Common.{◌≡◌, List, ◌++◌}
use Rattle.std.specs.List.{filter_map}
use Rattle.serde_json.specs.View.{members_view}
use Rattle.json_notation.specs.Json.{to_members}
use Rattle.vtep_schema.specs.declared.Table.{Table}
use Rattle.vtep_schema.specs.Tables.{tables}
use Rattle.monitor_updates.specs.Noted.{asked_of}
use Rattle.monitor_updates.specs.Updates.{table_member}
use Rattle.monitor_updates.specs.OneRow.{told_member}
use Rattle.monitor_updates.proofs.updates.tables_told.Given as goal

abbrev pub invariant-tables : goal.invariant-tables
invariant-tables l =
    (behind : List Table) × (tables ≡ l.table-iterator.iter.rest.now ++ behind)
    × (members_view l.members.entries ≡ to_members (filter_map (λ t. table_member t (to_members (filter_map (told_member t (asked_of l.request t)) l.change))) behind))
