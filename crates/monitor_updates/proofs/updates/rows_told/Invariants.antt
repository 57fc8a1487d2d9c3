use Rattle.std.proofs.Common.{◌≡◌, List, ◌++◌, Some}
use Rattle.std.specs.List.{filter_map}
use Rattle.serde_json.specs.View.{members_view}
use Rattle.json_notation.specs.Json.{to_members}
use Rattle.vtep_rows.specs.declared.differences.RowChange.{RowChange}
use Rattle.monitor_updates.specs.OneRow.{told_member}
use Rattle.monitor_updates.proofs.updates.rows_told.Given as goal

abbrev pub invariant-change : goal.invariant-change
invariant-change l =
    (behind : List RowChange) × (l.change ≡ l.row-iterator.iter.rest.now ++ behind)
    × (members_view l.members.entries ≡ to_members (filter_map (told_member l.table (Some l.asked)) behind))
