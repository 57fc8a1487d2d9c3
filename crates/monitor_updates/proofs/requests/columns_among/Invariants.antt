use Rattle.std.proofs.Common.{◌≡◌, ◌++◌, drop, filter}
use Rattle.serde_json.specs.View.{items_view}
use Rattle.monitor_updates.specs.Requests.{is_among}
use Rattle.monitor_updates.proofs.requests.columns_among.Given as goal

abbrev pub invariant-columns : goal.invariant-columns
invariant-columns l = l.found ++ filter (is_among (items_view l.names)) (drop l.column-index l.columns) ≡ filter (is_among (items_view l.names)) l.columns
