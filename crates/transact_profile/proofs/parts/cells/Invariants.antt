use Rattle.std.proofs.Common.{◌≡◌, []}
use Rattle.serde_json.specs.View.{members_view}
use Rattle.json_notation.specs.Json.{members_of}
use Rattle.transact_profile.specs.Refusing.{each_from}
use Rattle.transact_profile.specs.Operations.{cell}
use Rattle.transact_profile.proofs.parts.cells.Given as goal

abbrev pub invariant-row : goal.invariant-row
invariant-row l = each_from (cell l.known l.table) l.cells (members_of (members_view l.name-iterator)) ≡ each_from (cell l.known l.table) [] (members_of (members_view l.fn.row.entries))
