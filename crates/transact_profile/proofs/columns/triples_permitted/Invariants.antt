use Rattle.std.proofs.Common.{◌≡◌, map, drop}
use Rattle.serde_json.specs.View.{view}
use Rattle.transact_profile.specs.Operations.{triples_permitted}
use Rattle.transact_profile.proofs.columns.triples_permitted.Given as goal

abbrev pub invariant-values : goal.invariant-values
invariant-values l = triples_permitted l.table (map view (drop l.value-index l.values)) ≡ triples_permitted l.table (map view l.values)
