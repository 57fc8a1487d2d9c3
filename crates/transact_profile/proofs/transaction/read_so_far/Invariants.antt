use Rattle.std.proofs.Common.{◌≡◌, [], map, drop}
use Rattle.serde_json.specs.View.{view}
use Rattle.vtep_base.specs.Maps as maps
use Rattle.transact_profile.specs.Transaction.{read_from}
use Rattle.transact_profile.proofs.transaction.read_so_far.Given as goal

abbrev pub invariant-operations : goal.invariant-operations
invariant-operations l =
    (l.index ≡ l.operation-index)
    × (read_from l.known l.earlier l.ops l.index (map view (drop l.operation-index l.operations)) ≡ read_from l.known maps.empty [] 0 (map view l.operations))
