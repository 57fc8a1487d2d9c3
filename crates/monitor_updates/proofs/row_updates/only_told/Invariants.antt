use Rattle.std.proofs.Common.{◌≡◌}
use Rattle.serde_json.specs.View.{members_view}
use Rattle.monitor_updates.specs.Mirrored.{only_told}
use Rattle.monitor_updates.proofs.row_updates.only_told.Given as goal

abbrev pub invariant-members : goal.invariant-members
invariant-members l = only_told (members_view l.name-iterator) ≡ only_told (members_view l.fn.members.entries)
