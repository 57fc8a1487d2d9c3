use Rattle.std.proofs.Common.{◌≡◌, []}
use Rattle.serde_json.specs.View.{members_view}
use Rattle.monitor_updates.specs.Mirrored.{tables_from}
use Rattle.monitor_updates.proofs.row_updates.tables_in.Given as goal

abbrev pub invariant-members : goal.invariant-members
invariant-members l = tables_from l.told (members_view l.name-iterator) ≡ tables_from [] (members_view l.fn.members.entries)
