use Rattle.std.proofs.Common.{◌≡◌, List, ◌++◌}
use Rattle.serde_json.specs.View.{members_view}
use Rattle.json_notation.specs.Json.{to_members}
use Rattle.vtep_schema.specs.declared.Column.{Column}
use Rattle.monitor_updates.specs.Noted.{cut, differing}
use Rattle.monitor_updates.specs.Updates.{members_json}
use Rattle.monitor_updates.proofs.updates.differing_members.Given as goal

abbrev pub invariant-columns : goal.invariant-columns
invariant-columns l =
    (behind : List Column) × (l.columns ≡ l.column-iterator.iter.rest.now ++ behind)
    × (members_view l.members.entries ≡ to_members (members_json (differing (cut behind l.old) (cut behind l.new))))
