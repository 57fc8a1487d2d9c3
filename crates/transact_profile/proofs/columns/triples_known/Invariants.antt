use Rattle.std.proofs.Common.{◌≡◌, map, drop}
use Rattle.serde_json.specs.View.{view}
use Rattle.transact_profile.specs.Operations.{triples_known}
use Rattle.transact_profile.proofs.columns.triples_known.Given as goal

abbrev pub invariant-values : goal.invariant-values
invariant-values l = triples_known l.table (map view (drop l.value-index l.values)) ≡ triples_known l.table (map view l.values)
