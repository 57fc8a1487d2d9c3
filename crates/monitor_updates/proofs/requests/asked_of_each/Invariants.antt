use Rattle.std.proofs.Common.{◌≡◌, []}
use Rattle.serde_json.specs.View.{members_view}
use Rattle.monitor_updates.specs.Requests.{asked_from}
use Rattle.monitor_updates.proofs.requests.asked_of_each.Given as goal

abbrev pub invariant-members : goal.invariant-members
invariant-members l = asked_from l.request (members_view l.name-iterator) ≡ asked_from [] (members_view l.fn.members.entries)
