use Rattle.std.proofs.Common.{◌≡◌, []}
use Rattle.serde_json.specs.View.{members_view}
use Rattle.monitor_updates.specs.Mirrored.{values_from}
use Rattle.monitor_updates.proofs.row_updates.values_in.Given as goal

abbrev pub invariant-members : goal.invariant-members
invariant-members l = values_from l.table l.values (members_view l.name-iterator) ≡ values_from l.table [] (members_view l.fn.members.entries)
