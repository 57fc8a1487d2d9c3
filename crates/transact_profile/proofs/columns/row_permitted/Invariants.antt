use Rattle.std.proofs.Common.{◌≡◌}
use Rattle.serde_json.specs.View.{members_view}
use Rattle.json_notation.specs.Json.{members_of}
use Rattle.transact_profile.specs.Operations.{row_permitted}
use Rattle.transact_profile.proofs.columns.row_permitted.Given as goal

abbrev pub invariant-row : goal.invariant-row
invariant-row l = row_permitted l.table (members_of (members_view l.name-iterator)) ≡ row_permitted l.table (members_of (members_view l.fn.row.entries))
