use Rattle.std.proofs.Common.{◌≡◌, drop}
use Rattle.serde_json.specs.View.{items_view}
use Rattle.monitor_updates.specs.Requests.{is_among}
use Rattle.monitor_updates.proofs.requests.is_among.Given as goal

abbrev pub invariant-names : goal.invariant-names
invariant-names l = is_among (items_view (drop l.name-index l.names)) l.column ≡ is_among (items_view l.names) l.column
