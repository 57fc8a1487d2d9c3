use Rattle.std.proofs.Common.{◌≡◌, map, take}
use Rattle.serde_json.specs.Data.{string}
use Rattle.serde_json.specs.View.{view}
use Rattle.vtep_schema.specs.Tables.{column_name}
use Rattle.vtep_schema.proofs.published.names_json.Given as goal

abbrev pub invariant-columns : goal.invariant-columns
invariant-columns l = map view l.items.items ≡ map string (map column_name (take l.column-index l.columns))
