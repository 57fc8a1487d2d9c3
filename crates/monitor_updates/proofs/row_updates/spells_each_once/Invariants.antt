use Rattle.std.proofs.Common.{◌≡◌, []}
use Rattle.serde_json.specs.View.{members_view}
use Rattle.monitor_updates.specs.Mirrored.{spells_each_once}
use Rattle.monitor_updates.proofs.row_updates.spells_each_once.Given as goal

abbrev pub invariant-members : goal.invariant-members
invariant-members l = spells_each_once l.seen.keys (members_view l.name-iterator) ≡ spells_each_once [] (members_view l.fn.members.entries)
