use Rattle.std.proofs.Common.{◌≡◌, map, drop}
use Rattle.serde_json.specs.View.{view}
use Rattle.transact_profile.specs.Transaction.{known_from, known_insertions}
use Rattle.transact_profile.proofs.transaction.known_insertions.Given as goal

abbrev pub invariant-operations : goal.invariant-operations
invariant-operations l = known_from l.known (map view (drop l.operation-index l.operations)) ≡ known_insertions (map view l.operations)
