use Rattle.std.proofs.Common.{◌≡◌, ℕ, List, ◌++◌}
use Rattle.std.specs.List.{filter_map}
use Rattle.serde_json.specs.View.{members_view}
use Rattle.json_notation.specs.Json.{to_members}
use Rattle.monitor_updates.specs.OneRow.{there_member}
use Rattle.monitor_updates.proofs.opening.rows_there.Given as goal

abbrev pub invariant-ids : goal.invariant-ids
invariant-ids l =
    (behind : List ℕ) × (l.ids ≡ l.id-iterator.iter.rest.now ++ behind) × (members_view l.members.entries ≡ to_members (filter_map (there_member l.table l.asked l.rows) behind))
