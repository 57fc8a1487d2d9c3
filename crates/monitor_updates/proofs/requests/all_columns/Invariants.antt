use Rattle.std.proofs.Common.{◌≡◌, drop}
use Rattle.serde_json.specs.View.{items_view}
use Rattle.monitor_updates.specs.Requests.{all_columns}
use Rattle.monitor_updates.proofs.requests.all_columns.Given as goal

abbrev pub invariant-names : goal.invariant-names
invariant-names l = all_columns l.table (items_view (drop l.name-index l.names)) ≡ all_columns l.table (items_view l.names)
