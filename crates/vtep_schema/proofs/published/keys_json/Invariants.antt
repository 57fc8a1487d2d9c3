use Rattle.std.proofs.Common.{◌≡◌, map, take}
use Rattle.serde_json.specs.View.{view}
use Rattle.vtep_schema.specs.Tables.{column_name}
use Rattle.vtep_schema.specs.Published.{words}
use Rattle.vtep_schema.proofs.published.keys_json.Given as goal

abbrev pub invariant-keys : goal.invariant-keys
invariant-keys l = map view l.items.items ≡ map (λ cs. words (map column_name cs)) (map (λ k. k.now) (take l.key-index l.keys))
