use Rattle.std.proofs.Common.{◌≡◌}
use Rattle.serde_json.specs.View.{members_view}
use Rattle.monitor_updates.specs.Mirrored.{rows_from}
use Rattle.monitor_updates.proofs.row_updates.rows_from.Given as goal

abbrev pub invariant-members : goal.invariant-members
invariant-members l = rows_from l.table l.told (members_view l.name-iterator) ≡ rows_from l.table l.fn.told (members_view l.fn.members.entries)
